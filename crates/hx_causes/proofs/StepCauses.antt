-- A step keeps that what was told has its causes, and so has what it tells.
use Rattle.std.proofs.Common.{◌≡◌, ◌⊎◌, inl, inr, ⊎_elim, ℕ, ◌≤◌, ◌++◌, Bool, true, false, List, [], ◌∷◌, refl, sym, ap, ◌∙◌, subst, arith, Option, Some, None}
use Rattle.std.specs.Prelude.{Contains, IfSome, slice_get, ◌-◌, option_map, option_to_list}
use Rattle.std.proofs.lemmas.List.{append_cancel_left}
use Rattle.std.proofs.lemmas.List.Elements.{Contains-append_left, Contains-append_right, Contains-append_cases}
use Rattle.hx_base.specs.declared.numbers.Millis.{Millis}
use Rattle.hx_base.specs.declared.numbers.ConnId.{ConnId}
use Rattle.hx_base.specs.declared.numbers.ServerNo.{ServerNo}
use Rattle.hx_base.specs.declared.numbers.SessionNo.{SessionNo}
use Rattle.hx_base.specs.declared.numbers.ThreadNo.{ThreadNo}
use Rattle.hx_base.specs.declared.what.What.{What}
use Rattle.hx_config.specs.Meaning.{Meaning}
use Rattle.hx_conn.specs.WhatTold.{what_of_link}
use Rattle.hx_conn.specs.Conns.{BusyNow}
use Rattle.hx_connecting.specs.Links.{GainsAll}
use Rattle.hx_connecting.specs.Sessions.{Exchanging, SessionNow}
use Rattle.hx_connecting.specs.Touches.{Touch}
use Rattle.hx_course.proofs.GoingLemmas.{had_before}
use Rattle.hx_course.proofs.Numbers.{some_is, found_number}
use Rattle.hx_course.proofs.TableLemmas.{none_in, one_in}
use Rattle.hx_course.proofs.TruthLemmas.{told_same, link_grows}
use Rattle.hx_course.specs.Calls.{step_graves, step_touched}
use Rattle.hx_course.specs.Graves.{Grave, OfClient, OfConn, grave, client_graves, conn_graves}
use Rattle.hx_course.specs.Lines.{lines_of, served_line, left_line}
use Rattle.hx_link.specs.Nets.{NetState}
use Rattle.hx_link.specs.Told.{LinkState}
use Rattle.hx_record.specs.declared.served.Kind.{Kind}
use Rattle.hx_record.specs.declared.served.Kind.TheVariants as kind
use Rattle.hx_record.specs.declared.served.Left.{Left}
use Rattle.hx_record.specs.declared.served.Served.{Served}
use Rattle.hx_record.specs.declared.served.Told.{Told}
use Rattle.hx_record.specs.declared.served.Told.TheVariants as line
use Rattle.hx_script_parts.specs.declared.script.ClientLine.{ClientLine}
use Rattle.hx_session.specs.Causes.{Decides, LeavesFor, Limits, Unserved, bad_request, client_late, server_late, connect_late, unserved, broken, lost}
use Rattle.hx_session.specs.Deciding.{CausesCut}
use Rattle.hx_session.specs.Doings.{Doing}
use Rattle.hx_session.specs.Fits.{limits_of}
use Rattle.hx_session.specs.Records.{Leaves, LeftStands, leaves_for}
use Rattle.hx_session.specs.Telling.{RecordTold, RecordsTold, KindTold, WasDecided, conn_told}
use Rattle.hx_session.specs.Touching.{Touches}
use Rattle.hx_session.specs.declared.step.Step.{Step}
use Rattle.hx_worker.specs.Headline.{doing_of}
use Rattle.hx_worker.specs.Steps.{BuriesClient, StepsAt, StepOwns, around_of, placed}
use Rattle.hx_worker.specs.Workers.{WorkerNow, session_of}
use Rattle.hx_causes.specs.Causes.{scope, NamesLink, WasBuried, LinkIs, WentOn, IsOfLine, WasThere, DecidedOwn, DecidedCut, DecidedLeft, CausedKind, CausedLine, HasCauses}
use Rattle.hx_causes.proofs.Going.{GoesOn, Moves, own_on, told_on}
use Rattle.hx_causes.proofs.SessionLists.{first_in, found_in, placed_from, placed_on, placed_goes}

-- where a record of each kind begins
asked_rises : (s a : SessionNow) (conn : Option What) (left : Option Left) (served : Option Served) → RecordsTold s a conn left served → s.asked ≤ a.asked
asked_rises s a conn left None t = let e = t.asked in omega (arith, e)
asked_rises s a conn left (Some r) t = let low = t.ask_rises in let from = t.ask in let to = t.asked in omega (arith, low, from, to)

-- behind the record of an own answer none is decided
own_over : (s a : SessionNow) (conn : Option What) (left : Option Left) (r : Served) (status : ℕ) → r.kind ≡ kind.Own status → RecordTold s a conn left r → a.own ≡ None
own_over s a conn left r status is t = (subst (λ (k : Kind). KindTold s a conn (leaves_for left) r k) is t.kind).0

-- the links that a call left buried, told twice
gains_one : (more : List LinkState) (l : LinkState) (a b : Option (List LinkState)) → GainsAll (l ∷ []) a b → GainsAll more a b → (b ≡ None) ⊎ (more ≡ l ∷ [])
gains_one more l a b g h = ⊎_elim (λ e. ⊎_elim (λ f. by_old a e f) (λ n. inl n) h) (λ n. inl n) g
  where
    by_old : (a : Option (List LinkState)) → b ≡ option_map (λ xs. xs ++ l ∷ []) a → b ≡ option_map (λ xs. xs ++ more) a → (b ≡ None) ⊎ (more ≡ l ∷ [])
    by_old None e f = inl e
    by_old (Some xs) e f = inr (append_cancel_left xs more (l ∷ []) (some_is (xs ++ more) (xs ++ l ∷ []) (sym f ∙ e)))

pub gains_none : (more : List LinkState) (a b : Option (List LinkState)) → GainsAll more a b → a ≡ None → b ≡ None
gains_none more a b g none = ⊎_elim (λ e. e ∙ ap (option_map (λ xs. xs ++ more)) none) (λ n. n) g

mid_none : (over : Bool) (client : LinkState) (mid net : NetState) → BuriesClient over client mid net → mid.buried ≡ None → net.buried ≡ None
mid_none false client mid net b none = ap (λ (x : NetState). x.buried) b ∙ none
mid_none true client mid net b none = gains_none (client ∷ []) mid.buried net.buried b.1.buried none

-- the link of the connection that the session had is the one that was closed
gone_one : (server at : ServerNo) (id to : ConnId) (gone : Option LinkState) (l : LinkState) → server ≡ at → id ≡ to → option_to_list gone ≡ l ∷ [] → Contains (conn_graves at to gone) (grave (OfConn server id) l)
gone_one server at id to None l e f one = absurd (none_one e)
  where
    none_one : server ≡ at → ⊥
    none_one x = let same : [] ≡ l ∷ [] = one in cc
gone_one server at id to (Some g) l e f one =
    let same : g ≡ l = cc in
    subst (λ (x : LinkState). Contains (conn_graves at to (Some g)) (grave (OfConn server id) x)) same
    (subst (λ (x : ServerNo). Contains (conn_graves at to (Some g)) (grave (OfConn x id) g)) (sym e)
    (subst (λ (x : ConnId). Contains (conn_graves at to (Some g)) (grave (OfConn at x) g)) (sym f) (first_in (grave (OfConn at to) g) [])))

touch_gone : (d : Doing) (x : Option Touch) (t : Touches d x) (b : BusyNow) (l : LinkState) → d.old.conn ≡ Some (Exchanging b) → GainsAll (l ∷ []) d.before.net.buried d.after.net.buried
    → (d.after.net.buried ≡ None) ⊎ Contains (step_touched d x t) (grave (OfConn b.server b.id) l)
touch_gone d None t b l under_way g = ⊎_elim (λ none. inl none) (λ (one : [] ≡ l ∷ []). absurd (nothing one)) (gains_one [] l d.before.net.buried d.after.net.buried g t.0.buries)
  where
    nothing : [] ≡ l ∷ [] → ⊥
    nothing e = cc
touch_gone d (Some y) t b l under_way g =
    let had = had_before d.old t.at.history t.at.es y y.came t.goes.before (Exchanging b) under_way t.goes.was in
    ⊎_elim (λ none. inl none) (λ (one : option_to_list t.goes.gone ≡ l ∷ []). inr (gone_one b.server y.server b.id y.id t.goes.gone l had.0 had.1 one))
    (gains_one (option_to_list t.goes.gone) l d.before.net.buried d.after.net.buried g t.goes.buries)

module _ (config : Meaning) (moments : List Millis) (came : List ClientLine) (w w' : WorkerNow) (net net' : NetState) (n : SessionNo) (now : Millis) (r : Step) (records : List Told) (graves : List Grave) (at : Contains moments now)
    (k : StepsAt w w' net net' n now.0 r) (is : w.config ≡ config) (h : HasCauses (scope config moments came) w.sessions net graves records) where
  abbrev s : SessionNow
  s = k.0.session

  abbrev a : SessionNow
  a = k.0.after

  abbrev more : List Grave
  more = step_graves w w' net net' n r k.0

  worker : a.worker ≡ s.worker
  worker = k.0.step.same.session.worker

  number : a.number ≡ s.number
  number = k.0.step.same.session.number

  here : Contains w.sessions s
  here = found_in w.sessions n.0 s k.0.there

  at_number : session_of w.sessions a.number.0 ≡ Some s
  at_number = ap (λ (m : ℕ). session_of w.sessions m) (ap (λ (m : SessionNo). m.0) number ∙ found_number w.sessions n.0 s k.0.there) ∙ k.0.there

  -- the client's link of the session behind its step
  link_is : (over : Bool) → a.over ≡ over → LinkIs w'.sessions (graves ++ more) a.worker a.number a.client
  link_is false e = inl (record { session = a; there = subst (λ (l : List SessionNow). Contains l a) (sym k.0.sessions) (placed_goes w.sessions a s at_number e); worker = refl; number = refl; link = refl })
  link_is true e =
      let d = doing_of w w' net net' n r k.0 in
      let closed = step_touched d k.0.step.links.touches.touch k.0.step.links.touches.touched in
      inr (Contains-append_right graves more (grave (OfClient a.worker a.number) a.client)
      (Contains-append_right closed (client_graves a.over a) (grave (OfClient a.worker a.number) a.client)
      (subst (λ (b : Bool). Contains (client_graves b a) (grave (OfClient a.worker a.number) a.client)) (sym e) (one_here (grave (OfClient a.worker a.number) a.client)))))
    where
      one_here : {A : Type 0} (x : A) → Contains (x ∷ []) x
      one_here x = (0, omega arith, refl)

  after_went : WentOn w'.sessions (graves ++ more) s.worker s.number a.client
  after_went =
      let link = link_is a.over refl in
      record {
        link = a.client;
        is = subst (λ (t : ThreadNo). LinkIs w'.sessions (graves ++ more) t s.number a.client) worker
            (subst (λ (m : SessionNo). LinkIs w'.sessions (graves ++ more) a.worker m a.client) number link);
        grows = told_same (what_of_link a.client).told;
      }

  its_went : WentOn w'.sessions (graves ++ more) s.worker s.number s.client
  unfolding after_went
  its_went = record {
    link = a.client;
    is = after_went.is;
    grows = link_grows (what_of_link s.client) (what_of_link a.client) k.0.step.same.session.client.link;
  }

  moves : Moves w.sessions graves w'.sessions (graves ++ more)
  moves t m l (inr g) = record { link = l; is = inr (Contains-append_left graves more (grave (OfClient t m) l) g); grows = told_same (what_of_link l).told }
  moves t m l (inl z) = ⊎_elim
      (λ (there : Contains (placed w.sessions a) z.session). record {
        link = l;
        is = inl (record { session = z.session; there = subst (λ (x : List SessionNow). Contains x z.session) (sym k.0.sessions) there; worker = z.worker; number = z.number; link = z.link });
        grows = told_same (what_of_link l).told;
      })
      (λ (e : z.session ≡ s).
      subst (λ (x : LinkState). WentOn w'.sessions (graves ++ more) t m x) (sym (ap (λ (x : SessionNow). x.client) e) ∙ z.link)
      (subst (λ (x : ThreadNo). WentOn w'.sessions (graves ++ more) x m s.client) (sym (ap (λ (x : SessionNow). x.worker) e) ∙ z.worker)
      (subst (λ (x : SessionNo). WentOn w'.sessions (graves ++ more) s.worker x s.client) (sym (ap (λ (x : SessionNow). x.number) e) ∙ z.number) its_went)))
      (placed_on w.sessions a s z.session at_number z.there)

  was_there : WasThere (scope config moments came) (WentOn w'.sessions (graves ++ more)) s.worker s.number s
  was_there = record { worker = refl; number = refl; line = h.lines s here; went = its_went }

  its_line : IsOfLine came a
  its_line =
      let l = h.lines s here in
      let same = k.0.step.same.session in
      record {
        low = subst (λ (m : SessionNo). 1 ≤ m.0) (sym number) l.low;
        line = l.line;
        its = ap (λ (m : SessionNo). slice_get came (m.0 - 1)) number ∙ l.its;
        since = same.since ∙ l.since;
        front = same.front ∙ l.front;
      }

  rises : s.asked ≤ a.asked
  rises = asked_rises s a (conn_told s.conn) r.left r.served k.0.step.tells.records

  goes : GoesOn w.sessions w'.sessions net net' graves (graves ++ more)
  goes = record { moves = moves; untold = gains_none _ net.buried net'.buried k.0.buried; more = λ g c. Contains-append_left graves more g c }

  -- the link of the session's connection, which the step closed
  link_gone : (b : BusyNow) (l : LinkState) → s.conn ≡ Some (Exchanging b) → GainsAll (l ∷ []) net.buried k.0.mid.buried → WasBuried net'.buried (graves ++ more) b.server b.id l
  link_gone b l under_way gains =
      let d = doing_of w w' net net' n r k.0 in
      let x = k.0.step.links.touches.touch in
      let t = k.0.step.links.touches.touched in
      let closed = step_touched d x t in
      ⊎_elim (λ (none : k.0.mid.buried ≡ None). inl (mid_none a.over a.client k.0.mid net' k.0.buries none))
      (λ (c : Contains closed (grave (OfConn b.server b.id) l)).
      inr (Contains-append_right graves more (grave (OfConn b.server b.id) l) (Contains-append_left closed (client_graves a.over a) (grave (OfConn b.server b.id) l) c)))
      (touch_gone d x t b l under_way gains)

  names_link : {limits : Limits} {now : ℕ} {Lacks : Unserved → Type 0} {status : ℕ} → (c : Decides limits s net k.0.mid now Lacks status) → NamesLink (WasBuried net'.buried (graves ++ more)) c
  names_link (bad_request status bad) = tt
  names_link (client_late late) = tt
  names_link (server_late late) = tt
  names_link (connect_late late) = tt
  names_link (unserved u lacks) = tt
  names_link (broken b l under_way buries broke) = link_gone b l under_way buries.buries
  names_link (lost b l under_way buries gone silent) = link_gone b l under_way buries.buries

  -- an own answer that the step decided
  new_own : (status : ℕ) → s.own ≡ None → a.own ≡ Some status → DecidedOwn (scope config moments came) (WentOn w'.sessions (graves ++ more)) (WasBuried net'.buried (graves ++ more)) s.worker s.number a.asked status
  new_own status none own =
      let owns = subst (λ (c : Meaning). StepOwns c s a (around_of w net) (around_of w' k.0.mid) now.0 r.served) is k.1.owns in
      record {
        was = s;
        there = was_there;
        begins = rises;
        now = now;
        at = at;
        before = around_of w net;
        after = around_of w' k.0.mid;
        cause = owns none status (inl own);
        names = names_link (owns none status (inl own));
      }

  -- one that was decided before
  old_own : (before status : ℕ) → s.own ≡ Some before → a.own ≡ Some status → DecidedOwn (scope config moments came) (WentOn w'.sessions (graves ++ more)) (WasBuried net'.buried (graves ++ more)) s.worker s.number a.asked status
  old_own before status was own =
      let keeps : (a.client.taken_count ≡ s.client.taken_count) × ((a.own ≡ Some before) ⊎ ((x : Served) × (r.served ≡ Some x) × (x.kind ≡ kind.Own before))) =
      subst (λ (o : Option ℕ). IfSome o (λ status. (a.client.taken_count ≡ s.client.taken_count) × ((a.own ≡ Some status) ⊎ ((x : Served) × (r.served ≡ Some x) × (x.kind ≡ kind.Own status))))) was k.0.step.keeps in
      ⊎_elim
      (λ (same : a.own ≡ Some before).
      subst (λ (m : ℕ). DecidedOwn (scope config moments came) (WentOn w'.sessions (graves ++ more)) (WasBuried net'.buried (graves ++ more)) s.worker s.number a.asked m) (some_is before status (sym same ∙ own))
      (own_on config moments came came (λ z l. l) w.sessions w'.sessions net net' graves (graves ++ more) goes s.worker s.number s.asked a.asked before rises (h.owns s before here was)))
      (λ told.
      let t : RecordTold s a (conn_told s.conn) r.left told.0 = subst (λ (o : Option Served). RecordsTold s a (conn_told s.conn) r.left o) told.1 k.0.step.tells.records in
      absurd (none_some status (sym (own_over s a (conn_told s.conn) r.left told.0 before told.2 t) ∙ own)))
      keeps.1
    where
      none_some : (m : ℕ) → None ≡ Some m → ⊥
      none_some m e = cc

  own_after : (status : ℕ) → a.own ≡ Some status → DecidedOwn (scope config moments came) (WentOn w'.sessions (graves ++ more)) (WasBuried net'.buried (graves ++ more)) a.worker a.number a.asked status
  own_after status own =
      subst (λ (t : ThreadNo). DecidedOwn (scope config moments came) (WentOn w'.sessions (graves ++ more)) (WasBuried net'.buried (graves ++ more)) t a.number a.asked status) (sym worker)
      (subst (λ (m : SessionNo). DecidedOwn (scope config moments came) (WentOn w'.sessions (graves ++ more)) (WasBuried net'.buried (graves ++ more)) s.worker m a.asked status) (sym number) (by_own s.own refl))
    where
      by_own : (o : Option ℕ) → s.own ≡ o → DecidedOwn (scope config moments came) (WentOn w'.sessions (graves ++ more)) (WasBuried net'.buried (graves ++ more)) s.worker s.number a.asked status
      by_own None e = new_own status e own
      by_own (Some before) e = old_own before status e own

  -- the record that the step gave
  kind_now : (x : Served) (y : Kind) → r.served ≡ Some x → x.kind ≡ y → RecordTold s a (conn_told s.conn) r.left x → CausedKind (scope config moments came) (WentOn w'.sessions (graves ++ more)) (WasBuried net'.buried (graves ++ more)) x y
  kind_now x (kind.Passed c) served e t = tt
  kind_now x (kind.Cut c why) served e t =
      let its = (subst (λ (y : Kind). KindTold s a (conn_told s.conn) (leaves_for r.left) x y) e t.kind).0 in
      let cuts = subst (λ (c : Meaning). CausesCut (limits_of c s.front) s a.client net k.0.mid now.0 its.0 why) is (k.1.cuts x c why its.0 served e its.1) in
      inr (record {
        was = s;
        there = subst (λ (p : ThreadNo). WasThere (scope config moments came) (WentOn w'.sessions (graves ++ more)) p x.session s) (sym t.worker)
            (subst (λ (m : SessionNo). WasThere (scope config moments came) (WentOn w'.sessions (graves ++ more)) s.worker m s) (sym t.session) was_there);
        begins = t.ask;
        busy = its.0;
        under_way = its.1;
        its = its.2;
        now = now;
        at = at;
        client = a.client;
        went = subst (λ (p : ThreadNo). WentOn w'.sessions (graves ++ more) p x.session a.client) (sym t.worker)
            (subst (λ (m : SessionNo). WentOn w'.sessions (graves ++ more) s.worker m a.client) (sym t.session) after_went);
        net = net;
        net' = k.0.mid;
        cause = cuts;
        link_is = link_gone its.0 cuts.0 its.1 cuts.1.buries;
      })
  kind_now x (kind.Own status) served e t =
      let own : s.own ≡ Some status = subst (WasDecided s) e t.own in
      subst (λ (p : ThreadNo). DecidedOwn (scope config moments came) (WentOn w'.sessions (graves ++ more)) (WasBuried net'.buried (graves ++ more)) p x.session x.ask.from status) (sym t.worker)
      (subst (λ (m : SessionNo). DecidedOwn (scope config moments came) (WentOn w'.sessions (graves ++ more)) (WasBuried net'.buried (graves ++ more)) s.worker m x.ask.from status) (sym t.session)
      (own_on config moments came came (λ z l. l) w.sessions w'.sessions net net' graves (graves ++ more) goes s.worker s.number s.asked x.ask.from status (let from = t.ask in omega (arith, from)) (h.owns s status here own)))

  served_now : (served : Option Served) → r.served ≡ served → (x : Told) → Contains (served_line served) x → CausedLine (scope config moments came) (WentOn w'.sessions (graves ++ more)) (WasBuried net'.buried (graves ++ more)) x
  served_now None e x c = absurd (none_in x c)
  served_now (Some y) e x c =
      let t : RecordTold s a (conn_told s.conn) r.left y = subst (λ (o : Option Served). RecordsTold s a (conn_told s.conn) r.left o) e k.0.step.tells.records in
      subst (λ (z : Told). CausedLine (scope config moments came) (WentOn w'.sessions (graves ++ more)) (WasBuried net'.buried (graves ++ more)) z) (one_in (line.Served y) x c) (kind_now y y.kind e refl t)

  -- the end that it gave
  left_now : (left : Option Left) → r.left ≡ left → (x : Told) → Contains (left_line left) x → CausedLine (scope config moments came) (WentOn w'.sessions (graves ++ more)) (WasBuried net'.buried (graves ++ more)) x
  left_now None e x c = absurd (none_in x c)
  left_now (Some l) e x c =
      let stands : LeftStands a l = subst (λ (o : Option Left). Leaves a o) e k.0.step.tells.leaves in
      let why : LeavesFor (limits_of w.config s.front) s a r.served now.0 l.cause = subst (λ (o : Option Left). IfSome o (λ l. LeavesFor (limits_of w.config s.front) s a r.served now.0 l.cause)) e k.1.leaves in
      let by : l.worker ≡ s.worker = stands.worker ∙ worker in
      let no : l.session ≡ s.number = stands.session ∙ number in
      subst (λ (z : Told). CausedLine (scope config moments came) (WentOn w'.sessions (graves ++ more)) (WasBuried net'.buried (graves ++ more)) z) (one_in (line.Left l) x c)
      (inr (record {
        was = s;
        there = subst (λ (p : ThreadNo). WasThere (scope config moments came) (WentOn w'.sessions (graves ++ more)) p l.session s) (sym by)
            (subst (λ (m : SessionNo). WasThere (scope config moments came) (WentOn w'.sessions (graves ++ more)) s.worker m s) (sym no) was_there);
        now = now;
        at = at;
        after = a;
        went = subst (λ (p : ThreadNo). WentOn w'.sessions (graves ++ more) p l.session a.client) (sym by)
            (subst (λ (m : SessionNo). WentOn w'.sessions (graves ++ more) s.worker m a.client) (sym no) after_went);
        served = r.served;
        cause = subst (λ (c : Meaning). LeavesFor (limits_of c s.front) s a r.served now.0 l.cause) is why;
      }))

  pub step_causes : HasCauses (scope config moments came) w'.sessions net' (graves ++ more) (records ++ lines_of r.served r.left)
  step_causes = record {
    lines = λ z there.
        ⊎_elim (λ (old : Contains w.sessions z). h.lines z old) (λ (new : (z ≡ a) × (a.over ≡ false)). subst (IsOfLine came) (sym new.0) its_line)
        (placed_from w.sessions a z (subst (λ (l : List SessionNow). Contains l z) k.0.sessions there));
    owns = λ z status there own.
        ⊎_elim
        (λ (old : Contains w.sessions z). own_on config moments came came (λ y l. l) w.sessions w'.sessions net net' graves (graves ++ more) goes z.worker z.number z.asked z.asked status (omega arith) (h.owns z status old own))
        (λ (new : (z ≡ a) × (a.over ≡ false)).
        subst (λ (y : SessionNow). DecidedOwn (scope config moments came) (WentOn w'.sessions (graves ++ more)) (WasBuried net'.buried (graves ++ more)) y.worker y.number y.asked status) (sym new.0)
        (own_after status (subst (λ (y : SessionNow). y.own ≡ Some status) new.0 own)))
        (placed_from w.sessions a z (subst (λ (l : List SessionNow). Contains l z) k.0.sessions there));
    told = λ x there.
        ⊎_elim (λ (old : Contains records x). told_on config moments came came (λ z l. l) w.sessions w'.sessions net net' graves (graves ++ more) goes x (h.told x old))
        (λ (new : Contains (lines_of r.served r.left) x).
        ⊎_elim (λ (c : Contains (served_line r.served) x). served_now r.served refl x c) (λ (c : Contains (left_line r.left) x). left_now r.left refl x c)
        (Contains-append_cases (served_line r.served) (left_line r.left) x new))
        (Contains-append_cases records (lines_of r.served r.left) x there);
  }
