-- Over all calls of a replay what was told has its causes.
use Rattle.std.proofs.Common.{◌≡◌, ◌⊎◌, inl, inr, ⊎_elim, ℕ, ◌+◌, ◌≤◌, ◌++◌, false, true, List, [], ◌∷◌, length, refl, sym, ap, ◌∙◌, subst, arith, Option, Some, None}
use Rattle.std.specs.Prelude.{Contains, IfSome, slice_get, ◌-◌}
use Rattle.std.proofs.lemmas.List.Elements.{Contains-append_left, Contains-append_right, Contains-append_cases}
use Rattle.hx_base.specs.declared.numbers.Millis.{Millis}
use Rattle.hx_base.specs.declared.numbers.SessionNo.{SessionNo}
use Rattle.hx_base.specs.declared.numbers.ThreadNo.{ThreadNo}
use Rattle.hx_base.specs.declared.plan.Plan.{Plan}
use Rattle.hx_base.specs.declared.what.What.{What}
use Rattle.hx_config.specs.Meaning.{Meaning}
use Rattle.hx_conn.specs.WhatTold.{what_of_link}
use Rattle.hx_connecting.specs.Links.{GainsAll}
use Rattle.hx_connecting.specs.Sessions.{SessionNow, admitted}
use Rattle.hx_course.proofs.TableLemmas.{none_in, one_in}
use Rattle.hx_course.proofs.TruthLemmas.{told_same, link_grows}
use Rattle.hx_course.specs.Calls.{stop_graves, stop_touched, stopping_of}
use Rattle.hx_course.specs.Graves.{Grave, OfClient, grave, client_graves}
use Rattle.hx_course.specs.Lines.{lines_of, served_line, left_line}
use Rattle.hx_link.specs.Nets.{NetState}
use Rattle.hx_link.specs.Told.{LinkState}
use Rattle.hx_record.specs.declared.served.CutCause.{CutCause}
use Rattle.hx_record.specs.declared.served.Kind.{Kind}
use Rattle.hx_record.specs.declared.served.Kind.TheVariants as kind
use Rattle.hx_record.specs.declared.served.Left.{Left}
use Rattle.hx_record.specs.declared.served.Served.{Served}
use Rattle.hx_record.specs.declared.served.Told.{Told}
use Rattle.hx_record.specs.declared.served.Told.TheVariants as line
use Rattle.hx_script_parts.specs.declared.script.ClientLine.{ClientLine}
use Rattle.hx_session.specs.Stopping.{StopsKind}
use Rattle.hx_session.specs.Telling.{RecordTold, RecordsTold, WasDecided, conn_told, stopped}
use Rattle.hx_worker.specs.Admitting.{Admits}
use Rattle.hx_worker.specs.Stops.{StopsOne}
use Rattle.hx_worker.specs.Workers.{WorkerNow}
use Rattle.hx_worker.specs.declared.answers.Stopped.{Stopped}
use Rattle.hx_run.specs.Cares.{Care}
use Rattle.hx_run.specs.Turns.{Makes, is_new, got_room, came_one, obeyed, ticked, stepped, stopped_one}
use Rattle.hx_causes.specs.Causes.{scope, WasBuried, LinkIs, WentOn, IsOfLine, DecidedOwn, CausedKind, CausedLine, HasCauses}
use Rattle.hx_causes.proofs.Going.{GoesOn, Moves, line_on, own_on, told_on}
use Rattle.hx_causes.proofs.SessionLists.{first_in, next_in, either_in}
use Rattle.hx_causes.proofs.StepCauses.{gains_none, step_causes}

-- ---- where the sessions stay as they are

stay_moves : (ss : List SessionNow) (graves more : List Grave) → Moves ss graves ss (graves ++ more)
stay_moves ss graves more t n l (inl z) = record { link = l; is = inl z; grows = told_same (what_of_link l).told }
stay_moves ss graves more t n l (inr g) = record { link = l; is = inr (Contains-append_left graves more (grave (OfClient t n) l) g); grows = told_same (what_of_link l).told }

stay_goes : (ss : List SessionNow) (net net' : NetState) (graves more : List Grave) (links : List LinkState) → GainsAll links net.buried net'.buried → GoesOn ss ss net net' graves (graves ++ more)
stay_goes ss net net' graves more links gains = record { moves = stay_moves ss graves more; untold = gains_none links net.buried net'.buried gains; more = λ g c. Contains-append_left graves more g c }

stay_causes : (config : Meaning) (moments : List Millis) (came : List ClientLine) (ss ss' : List SessionNow) (net net' : NetState) (records : List Told) (graves more : List Grave) (links : List LinkState) → GainsAll links net.buried net'.buried
    → ss' ≡ ss → HasCauses (scope config moments came) ss net graves records → HasCauses (scope config moments came) ss' net' (graves ++ more) records
stay_causes config moments came ss ss' net net' records graves more links gains e h =
    let goes = stay_goes ss net net' graves more links gains in
    subst (λ (l : List SessionNow). HasCauses (scope config moments came) l net' (graves ++ more) records) (sym e) (record {
      lines = h.lines;
      owns = λ s status there own. own_on config moments came came (λ z l. l) ss ss net net' graves (graves ++ more) goes s.worker s.number s.asked s.asked status (omega arith) (h.owns s status there own);
      told = λ x there. told_on config moments came came (λ z l. l) ss ss net net' graves (graves ++ more) goes x (h.told x there);
    })

-- ---- a client comes

last_at : {A : Type 0} (xs : List A) (x : A) → slice_get (xs ++ x ∷ []) (length xs) ≡ Some x
last_at [] x = refl
last_at (y ∷ xs) x = last_at xs x

module _ (config : Meaning) (moments : List Millis) (came : List ClientLine) (t : ThreadNo) (last : ℕ) (ss : List SessionNow) (net net' : NetState) (records : List Told) (graves : List Grave) (new : ClientLine) (client : LinkState) (n : SessionNo) (number : n.0 ≡ last + 1)
    (count : last ≡ length came) (same : net'.buried ≡ net.buried) (h : HasCauses (scope config moments came) ss net graves records) where
  abbrev session : SessionNow
  session = admitted t n new.front new.moment.0 client

  come_moves : Moves ss graves (ss ++ admitted t n new.front new.moment.0 client ∷ []) graves
  come_moves u m l (inr g) = record { link = l; is = inr g; grows = told_same (what_of_link l).told }
  come_moves u m l (inl z) = record {
    link = l;
    is = inl (record { session = z.session; there = Contains-append_left ss (session ∷ []) z.session z.there; worker = z.worker; number = z.number; link = z.link });
    grows = told_same (what_of_link l).told;
  }

  its_line : IsOfLine (came ++ new ∷ []) (admitted t n new.front new.moment.0 client)
  its_line = record {
    low = omega (arith, number);
    line = new;
    its = ap (λ (i : ℕ). slice_get (came ++ new ∷ []) i) place ∙ last_at came new;
    since = refl;
    front = refl;
  }
    where
      place : n.0 - 1 ≡ length came
      place = omega (arith, number, count)

  come_goes : GoesOn ss (ss ++ admitted t n new.front new.moment.0 client ∷ []) net net' graves graves
  come_goes = record { moves = come_moves; untold = λ none. same ∙ none; more = λ g c. c }

  come_causes : HasCauses (scope config moments (came ++ new ∷ [])) (ss ++ admitted t n new.front new.moment.0 client ∷ []) net' graves records
  come_causes = record {
    lines = λ s there.
        ⊎_elim (λ (old : Contains ss s). line_on came (new ∷ []) s (h.lines s old)) (λ (last : Contains (session ∷ []) s). subst (IsOfLine (came ++ new ∷ [])) (one_in session s last) its_line)
        (Contains-append_cases ss (session ∷ []) s there);
    owns = λ s status there own.
        ⊎_elim
        (λ (old : Contains ss s).
        own_on config moments came (came ++ new ∷ []) (λ z l. line_on came (new ∷ []) z l) ss (ss ++ session ∷ []) net net' graves graves come_goes s.worker s.number s.asked s.asked status (omega arith) (h.owns s status old own))
        (λ (last : Contains (session ∷ []) s). absurd (none_some status (ap (λ (z : SessionNow). z.own) (one_in session s last) ∙ own)))
        (Contains-append_cases ss (session ∷ []) s there);
    told = λ x there. told_on config moments came (came ++ new ∷ []) (λ z l. line_on came (new ∷ []) z l) ss (ss ++ session ∷ []) net net' graves graves come_goes x (h.told x there);
  }
    where
      none_some : (m : ℕ) → None ≡ Some m → ⊥
      none_some m e = cc

-- ---- a session is stopped

module _ (config : Meaning) (moments : List Millis) (came : List ClientLine) (w w' : WorkerNow) (net net' : NetState) (x : Stopped) (records : List Told) (graves : List Grave) (k : StopsOne w w' net net' x)
    (h : HasCauses (scope config moments came) w.sessions net graves records) where
  abbrev s : SessionNow
  s = k.session

  abbrev more : List Grave
  more = stop_graves w w' net net' x k

  here : Contains w.sessions s
  here = subst (λ (l : List SessionNow). Contains l s) (sym k.least) (first_in s k.others)

  others_in : (z : SessionNow) → Contains w'.sessions z → Contains w.sessions z
  others_in z there = subst (λ (l : List SessionNow). Contains l z) (sym k.least) (next_in s k.others z (subst (λ (l : List SessionNow). Contains l z) k.sessions there))

  buried : Contains (graves ++ more) (grave (OfClient s.worker s.number) k.client)
  buried =
      let closed = stop_touched (stopping_of w w' net net' x k) (k.stop.links w.turns).touch (k.stop.links w.turns).touched in
      let last = client_graves true (stopped k.session k.client x.served) in
      Contains-append_right graves more (grave (OfClient s.worker s.number) k.client)
      (Contains-append_right closed last (grave (OfClient s.worker s.number) k.client) (its_grave x.served))
    where
      its_grave : (served : Option Served) → Contains (client_graves true (stopped k.session k.client served)) (grave (OfClient k.session.worker k.session.number) k.client)
      its_grave None = first_in (grave (OfClient k.session.worker k.session.number) k.client) []
      its_grave (Some r) = first_in (grave (OfClient k.session.worker k.session.number) k.client) []

  its_went : WentOn w'.sessions (graves ++ more) s.worker s.number s.client
  its_went = record { link = k.client; is = inr buried; grows = link_grows (what_of_link s.client) (what_of_link k.client) k.stop.stops.same.link }

  stop_moves : Moves w.sessions graves w'.sessions (graves ++ more)
  stop_moves t m l (inr g) = record { link = l; is = inr (Contains-append_left graves more (grave (OfClient t m) l) g); grows = told_same (what_of_link l).told }
  stop_moves t m l (inl z) = ⊎_elim
      (λ (e : s ≡ z.session).
      subst (λ (y : LinkState). WentOn w'.sessions (graves ++ more) t m y) (ap (λ (y : SessionNow). y.client) e ∙ z.link)
      (subst (λ (y : ThreadNo). WentOn w'.sessions (graves ++ more) y m s.client) (ap (λ (y : SessionNow). y.worker) e ∙ z.worker)
      (subst (λ (y : SessionNo). WentOn w'.sessions (graves ++ more) s.worker y s.client) (ap (λ (y : SessionNow). y.number) e ∙ z.number) its_went)))
      (λ (there : Contains k.others z.session). record {
        link = l;
        is = inl (record { session = z.session; there = subst (λ (y : List SessionNow). Contains y z.session) (sym k.sessions) there; worker = z.worker; number = z.number; link = z.link });
        grows = told_same (what_of_link l).told;
      })
      (either_in s k.others z.session (subst (λ (y : List SessionNow). Contains y z.session) k.least z.there))

  stop_goes : GoesOn w.sessions w'.sessions net net' graves (graves ++ more)
  stop_goes = record { moves = stop_moves; untold = gains_none _ net.buried net'.buried k.buried; more = λ g c. Contains-append_left graves more g c }

  stop_kind : (r : Served) (y : Kind) → r.kind ≡ y → StopsKind s y → RecordTold s (stopped s k.client x.served) (conn_told s.conn) (Some x.left) r → CausedKind (scope config moments came) (WentOn w'.sessions (graves ++ more)) (WasBuried net'.buried (graves ++ more)) r y
  stop_kind r (kind.Passed c) e kinds t = tt
  stop_kind r (kind.Cut c why) e kinds t = inl kinds.1
  stop_kind r (kind.Own status) e kinds t =
      subst (λ (p : ThreadNo). DecidedOwn (scope config moments came) (WentOn w'.sessions (graves ++ more)) (WasBuried net'.buried (graves ++ more)) p r.session r.ask.from status) (sym t.worker)
      (subst (λ (m : SessionNo). DecidedOwn (scope config moments came) (WentOn w'.sessions (graves ++ more)) (WasBuried net'.buried (graves ++ more)) s.worker m r.ask.from status) (sym t.session)
      (own_on config moments came came (λ z l. l) w.sessions w'.sessions net net' graves (graves ++ more) stop_goes s.worker s.number s.asked r.ask.from status (let from = t.ask in omega (arith, from)) (h.owns s status here kinds)))

  stop_served : (served : Option Served) → x.served ≡ served → (y : Told) → Contains (served_line served) y → CausedLine (scope config moments came) (WentOn w'.sessions (graves ++ more)) (WasBuried net'.buried (graves ++ more)) y
  stop_served None e y c = absurd (none_in y c)
  stop_served (Some r) e y c =
      let t : RecordTold s (stopped s k.client x.served) (conn_told s.conn) (Some x.left) r =
      subst (λ (o : Option Served). RecordsTold s (stopped s k.client x.served) (conn_told s.conn) (Some x.left) o) e k.stop.tells.records in
      let kinds : StopsKind s r.kind = subst (λ (o : Option Served). IfSome o (λ r. StopsKind s r.kind)) e k.stop.tells.kind in
      subst (λ (z : Told). CausedLine (scope config moments came) (WentOn w'.sessions (graves ++ more)) (WasBuried net'.buried (graves ++ more)) z) (one_in (line.Served r) y c) (stop_kind r r.kind refl kinds t)

  stop_causes : HasCauses (scope config moments came) w'.sessions net' (graves ++ more) (records ++ lines_of x.served (Some x.left))
  stop_causes = record {
    lines = λ z there. h.lines z (others_in z there);
    owns = λ z status there own.
        own_on config moments came came (λ y l. l) w.sessions w'.sessions net net' graves (graves ++ more) stop_goes z.worker z.number z.asked z.asked status (omega arith) (h.owns z status (others_in z there) own);
    told = λ y there.
        ⊎_elim (λ (old : Contains records y). told_on config moments came came (λ z l. l) w.sessions w'.sessions net net' graves (graves ++ more) stop_goes y (h.told y old))
        (λ (new : Contains (lines_of x.served (Some x.left)) y).
        ⊎_elim (λ (c : Contains (served_line x.served) y). stop_served x.served refl y c)
        (λ (c : Contains (left_line (Some x.left)) y). subst (λ (z : Told). CausedLine (scope config moments came) (WentOn w'.sessions (graves ++ more)) (WasBuried net'.buried (graves ++ more)) z) (one_in (line.Left x.left) y c) (inl k.stop.stops.cause))
        (Contains-append_cases (served_line x.served) (left_line (Some x.left)) y new))
        (Contains-append_cases records (lines_of x.served (Some x.left)) y there);
  }

-- ---- all calls

-- as many clients came as numbers were given
record Holds (config : Meaning) (moments : List Millis) (came : List ClientLine) (w : WorkerNow) (net : NetState) (records : List Told) (graves : List Grave) : Type 0 where
  pub count : w.last ≡ length came
  pub causes : HasCauses (scope config moments came) w.sessions net graves records

one_longer : {A : Type 0} (xs : List A) (x : A) → length (xs ++ x ∷ []) ≡ length xs + 1
one_longer [] x = refl
one_longer (y ∷ xs) x = let e = one_longer xs x in omega (arith, e)

holds : (config : Meaning) (plans : List Plan) (moments : List Millis) (came : List ClientLine) (cares : List Care) (w : WorkerNow) (net : NetState) (records : List Told) (graves : List Grave) (turns : ℕ) → Makes plans moments came cares w net records graves turns
    → w.config ≡ config → Holds config moments came w net records graves
holds config plans moments _ _ _ _ _ _ _ (is_new c seats journals room begins) e = record {
  count = refl;
  causes = record { lines = λ s there. absurd (none_in s there); owns = λ s status there own. absurd (none_in s there); told = λ x there. absurd (none_in x there) };
}
holds config plans moments _ _ _ _ _ _ _ (got_room came cares w w' net records graves turns m same) e =
    let config_is : w'.config ≡ w.config = ap (λ (v : WorkerNow). v.config) same in
    let sessions : w'.sessions ≡ w.sessions = ap (λ (v : WorkerNow). v.sessions) same in
    let h = holds config plans moments came cares w net records graves turns m (sym config_is ∙ e) in record {
      count = ap (λ (v : WorkerNow). v.last) same ∙ h.count;
      causes = subst (λ (l : List SessionNow). HasCauses (scope config moments came) l net graves records) (sym sessions) h.causes;
    }
holds config plans moments _ _ _ _ _ _ _ (came_one came cares w w' net net' records graves turns new client n m offered admits) e =
    let config_is : w'.config ≡ w.config = ap (λ (v : WorkerNow). v.config) admits.admits in
    let sessions : w'.sessions ≡ w.sessions ++ admitted w.thread n new.front new.moment.0 client ∷ [] = ap (λ (v : WorkerNow). v.sessions) admits.admits in
    let last : w'.last ≡ w.last + 1 = ap (λ (v : WorkerNow). v.last) admits.admits in
    let h = holds config plans moments came cares w net records graves turns m (sym config_is ∙ e) in record {
      count = let before = h.count in let more = one_longer came new in omega (arith, last, before, more);
      causes = subst (λ (l : List SessionNow). HasCauses (scope config moments (came ++ new ∷ [])) l net' graves records) (sym sessions)
          (come_causes config moments came w.thread w.last w.sessions net net' records graves new client n admits.number h.count (ap (λ (x : NetState). x.buried) offered.offered.0) h.causes);
    }
holds config plans moments _ _ _ _ _ _ _ (obeyed came cares w w' net net' records graves turns what count m k) e =
    let h = holds config plans moments came cares w net records graves turns m (sym k.stays.config ∙ e) in record {
      count = k.stays.last ∙ h.count;
      causes = stay_causes config moments came w.sessions w'.sessions net net' records graves _ _ k.cares.buries.buried k.sessions h.causes;
    }
holds config plans moments _ _ _ _ _ _ _ (ticked came cares w w' net net' records graves turns now count m at k) e =
    let h = holds config plans moments came cares w net records graves turns m (sym k.stays.config ∙ e) in record {
      count = k.stays.last ∙ h.count;
      causes = stay_causes config moments came w.sessions w'.sessions net net' records graves _ _ k.cares.buries.buried k.sessions h.causes;
    }
holds config plans moments _ _ _ _ _ _ _ (stepped came cares w w' net net' records graves turns n now r m at seats k) e =
    let h = holds config plans moments came cares w net records graves turns m (sym k.0.stays.config ∙ e) in record {
      count = k.0.stays.last ∙ h.count;
      causes = step_causes config moments came w w' net net' n now r records graves at k (sym k.0.stays.config ∙ e) h.causes;
    }
holds config plans moments _ _ _ _ _ _ _ (stopped_one came cares w w' net net' records graves turns x m k stood) e =
    let h = holds config plans moments came cares w net records graves turns m (sym k.stays.config ∙ e) in record {
      count = k.stays.last ∙ h.count;
      causes = stop_causes config moments came w w' net net' x records graves k h.causes;
    }

pub causes_hold : (config : Meaning) (plans : List Plan) (moments : List Millis) (came : List ClientLine) (cares : List Care) (w : WorkerNow) (net : NetState) (records : List Told) (graves : List Grave) (turns : ℕ) → Makes plans moments came cares w net records graves turns
    → w.config ≡ config → HasCauses (scope config moments came) w.sessions net graves records
causes_hold config plans moments came cares w net records graves turns m e = (holds config plans moments came cares w net records graves turns m e).causes
