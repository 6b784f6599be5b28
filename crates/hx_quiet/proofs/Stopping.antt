-- Over all calls of a replay each session that was stopped stood still at the last moment.
use Rattle.std.proofs.Common.{◌≡◌, ◌⊎◌, inl, inr, ⊎_elim, ℕ, ◌++◌, Bool, true, false, List, [], ◌∷◌, refl, sym, ap, ◌∙◌, subst, arith, Option, Some, None}
use Rattle.std.specs.Prelude.{Contains, IfSome, IsSome, cond}
use Rattle.std.proofs.lemmas.List.Elements.{Contains-append_left, Contains-append_right, Contains-append_cases}
use Rattle.hx_base.specs.declared.numbers.ConnId.{ConnId}
use Rattle.hx_base.specs.declared.numbers.Millis.{Millis}
use Rattle.hx_base.specs.declared.numbers.ServerNo.{ServerNo}
use Rattle.hx_base.specs.declared.numbers.SessionNo.{SessionNo}
use Rattle.hx_base.specs.declared.numbers.ThreadNo.{ThreadNo}
use Rattle.hx_base.specs.declared.plan.Plan.{Plan}
use Rattle.hx_base.specs.declared.what.What.{What}
use Rattle.hx_conn.specs.Conns.{BusyNow}
use Rattle.hx_connecting.specs.Sessions.{SessionNow, Holding, Resting, Exchanging, conn_link}
use Rattle.hx_connecting.specs.Touches.{Touch}
use Rattle.hx_course.proofs.GoingLemmas.{had_before}
use Rattle.hx_course.proofs.Numbers.{some_is}
use Rattle.hx_course.proofs.TableLemmas.{none_in, one_in}
use Rattle.hx_course.specs.Calls.{stop_graves, stop_touched, stopping_of, step_graves}
use Rattle.hx_course.specs.Graves.{Grave, OfClient, OfConn, grave, client_graves, conn_graves}
use Rattle.hx_course.specs.Lines.{lines_of, served_line, left_line}
use Rattle.hx_course.specs.Sweeping.{sweep_graves}
use Rattle.hx_link.specs.Nets.{NetState}
use Rattle.hx_link.specs.Told.{LinkState}
use Rattle.hx_record.specs.declared.served.Carried.{Carried}
use Rattle.hx_record.specs.declared.served.CutCause.{CutCause}
use Rattle.hx_record.specs.declared.served.CutCause.TheVariants as cut
use Rattle.hx_record.specs.declared.served.Kind.{Kind}
use Rattle.hx_record.specs.declared.served.Kind.TheVariants as kind
use Rattle.hx_record.specs.declared.served.Left.{Left}
use Rattle.hx_record.specs.declared.served.LeftCause.{LeftCause}
use Rattle.hx_record.specs.declared.served.LeftCause.TheVariants as left
use Rattle.hx_record.specs.declared.served.Served.{Served}
use Rattle.hx_record.specs.declared.served.Told.{Told}
use Rattle.hx_record.specs.declared.served.Told.TheVariants as line
use Rattle.hx_script_parts.specs.declared.script.ClientLine.{ClientLine}
use Rattle.hx_session.specs.Causes.{CutsFor, LeavesFor, Limits}
use Rattle.hx_session.specs.Causes as causes
use Rattle.hx_session.specs.Deciding.{CausesCut, CutsAllFor}
use Rattle.hx_session.specs.Doings.{Doing}
use Rattle.hx_session.specs.Fits.{limits_of}
use Rattle.hx_session.specs.Records.{IsOfExchange, ItsExchange, LeftStands, cut_ends, ends_after, leaves_for}
use Rattle.hx_session.specs.Stopping.{ServesAtStop, StopTouches, StopsKind}
use Rattle.hx_session.specs.Telling.{KindTold, RecordTold, RecordsTold, StopTold, conn_told, stopped}
use Rattle.hx_session.specs.declared.step.Step.{Step}
use Rattle.hx_worker.specs.Steps.{StepsAt}
use Rattle.hx_worker.specs.Stops.{StopsOne}
use Rattle.hx_worker.specs.Workers.{WorkerNow}
use Rattle.hx_worker.specs.declared.answers.Stopped.{Stopped}
use Rattle.hx_run.specs.Cares.{Care}
use Rattle.hx_run.specs.Standings.{StoodLast}
use Rattle.hx_run.specs.Turns.{Makes, is_new, got_room, came_one, obeyed, ticked, stepped, stopped_one}
use Rattle.hx_quiet.specs.Stopped.{IsAsItStood, WasCutOff, WasCut, EndsBehind, WasStopped, StoodStill}

none_some : {A : Type 0} (x : A) → None ≡ Some x → ⊥
none_some x e = cc

-- ---- no step ends a session because it was stopped

stop_not : (why : CutCause) (limits : Limits) (s : SessionNow) (client : LinkState) (b : BusyNow) (l : LinkState) (now : ℕ) → CutsFor limits s client b l now why → why ≡ cut.Stop → ⊥
stop_not _ limits s client b l now causes.early e = cc
stop_not _ limits s client b l now (causes.ended given ended) e = cc
stop_not _ limits s client b l now (causes.fault given failed) e = cc
stop_not _ limits s client b l now (causes.broken given broke) e = cc
stop_not _ limits s client b l now (causes.late given late) e = cc
stop_not _ limits s client b l now (causes.client stops) e = cc
stop_not _ limits s client b l now (causes.silent may gone) e = cc

-- the record with which a session ends that was stopped is a cut
cut_for_stop : (k : Kind) → ends_after k ≡ Some left.Stop → (c : Carried) × (k ≡ kind.Cut c cut.Stop)
cut_for_stop (kind.Passed c) e = absurd (by_closing c.closing e)
  where
    by_closing : (b : Bool) → (let o : Option LeftCause = cond b (Some left.Closing) None in o) ≡ Some left.Stop → ⊥
    by_closing true e = cc
    by_closing false e = cc
cut_for_stop (kind.Own status) e = absurd (own_not e)
  where
    own_not : (let o : Option LeftCause = Some left.Own in o) ≡ Some left.Stop → ⊥
    own_not e = cc
cut_for_stop (kind.Cut c why) e = (c, ap (kind.Cut c) (by_why why (some_is (cut_ends why) left.Stop e)))
  where
    by_why : (w : CutCause) → cut_ends w ≡ left.Stop → w ≡ cut.Stop
    by_why cut.Stop e = refl
    by_why cut.Early e = cc
    by_why cut.Ended e = cc
    by_why cut.Fault e = cc
    by_why cut.Broken e = cc
    by_why cut.Late e = cc
    by_why cut.Client e = cc
    by_why cut.Silent e = cc

leaves_not : (limits : Limits) (s a : SessionNow) (net net' : NetState) (served : Option Served) (end : Option Left) (now : ℕ) (why : LeftCause) → RecordsTold s a (conn_told s.conn) end served → CutsAllFor limits s a net net' now served
    → LeavesFor limits s a served now why → why ≡ left.Stop → ⊥
leaves_not limits s a net net' served end now _ told cuts (causes.ended ended none) e = cc
leaves_not limits s a net net' served end now _ told cuts (causes.idle late) e = cc
leaves_not limits s a net net' served end now _ told cuts (causes.fault faults) e = cc
leaves_not limits s a net net' served end now _ told cuts (causes.after r why is ends) e =
    let c = cut_for_stop r.kind (ends ∙ ap (λ (w : LeftCause). Some w) e) in
    let t : RecordTold s a (conn_told s.conn) end r = subst (λ (o : Option Served). RecordsTold s a (conn_told s.conn) end o) is told in
    let its : ItsExchange s c.0 = (subst (λ (k : Kind). KindTold s a (conn_told s.conn) (leaves_for end) r k) c.1 t.kind).0 in
    let cause : CausesCut limits s a.client net net' now its.0 cut.Stop = cuts r c.0 cut.Stop its.0 is c.1 its.1 in
    stop_not cut.Stop limits s a.client its.0 cause.0 now cause.2 refl

-- ---- what holds on

stopped_on : (moments : List Millis) (graves more : List Grave) (records lines : List Told) (l : Left) → WasStopped moments graves records l → WasStopped moments (graves ++ more) (records ++ lines) l
stopped_on moments graves more records lines l k = record {
  session = k.session;
  worker = k.worker;
  number = k.number;
  stood = k.stood;
  client = k.client;
  buried = Contains-append_left graves more (grave (OfClient l.worker l.session) k.client) k.buried;
  as_it_stood = k.as_it_stood;
  cut = by_conn k.session.conn k.cut;
  ends = k.ends;
}
  where
    by_conn : (c : Option Holding) → WasCut graves records k.session c → WasCut (graves ++ more) (records ++ lines) k.session c
    by_conn None z = tt
    by_conn (Some (Resting r)) z = tt
    by_conn (Some (Exchanging b)) z = λ none. let x = z none in record {
      record_ = x.record_;
      told = Contains-append_left records lines (line.Served x.record_) x.told;
      worker = x.worker;
      session = x.session;
      begins = x.begins;
      gave = x.gave;
      carried = x.carried;
      cut_off = x.cut_off;
      its = x.its;
      closing = x.closing;
      link = x.link;
      buried = Contains-append_left graves more (grave (OfConn b.server b.id) x.link) x.buried;
      as_it_stood = x.as_it_stood;
    }

-- ---- a stop

stopped_worker : (s : SessionNow) (client : LinkState) (served : Option Served) → (stopped s client served).worker ≡ s.worker
stopped_worker s client None = refl
stopped_worker s client (Some r) = refl

stopped_number : (s : SessionNow) (client : LinkState) (served : Option Served) → (stopped s client served).number ≡ s.number
stopped_number s client None = refl
stopped_number s client (Some r) = refl

one_here : {A : Type 0} (x : A) (xs : List A) → Contains (x ∷ xs) x
one_here x xs = (0, omega arith, refl)

-- the link of the session's exchange, which the stop closed
stop_link : (d : Doing) (x : Option Touch) (t : StopTouches d x) (b : BusyNow) → d.old.conn ≡ Some (Exchanging b) → (link : LinkState) × Contains (stop_touched d x t) (grave (OfConn b.server b.id) link) × IsAsItStood b.link link
stop_link d None t b under_way = absurd (none_some (Exchanging b) (sym t.0 ∙ under_way))
stop_link d (Some y) t b under_way =
    let had = had_before d.old t.at.history t.at.es y y.came t.goes.before (Exchanging b) under_way t.goes.was in
    let conn : t.conn ≡ Exchanging b = some_is t.conn (Exchanging b) (sym t.was ∙ under_way) in (
      t.link,
      subst (λ (o : Option LinkState). Contains (conn_graves y.server y.id o) (grave (OfConn b.server b.id) t.link)) (sym t.gone)
          (subst (λ (v : ServerNo). Contains (grave (OfConn y.server y.id) t.link ∷ []) (grave (OfConn v b.id) t.link)) (sym had.0)
          (subst (λ (i : ConnId). Contains (grave (OfConn y.server y.id) t.link ∷ []) (grave (OfConn y.server i) t.link)) (sym had.1) (one_here (grave (OfConn y.server y.id) t.link) []))),
      subst (λ (c : Holding). IsAsItStood (conn_link c) t.link) conn t.as_it_stood,
    )

module _ (moments : List Millis) (w w' : WorkerNow) (net net' : NetState) (x : Stopped) (records : List Told) (graves : List Grave) (k : StopsOne w w' net net' x) (stood : StoodLast moments k.session) where
  abbrev s : SessionNow
  s = k.session

  abbrev more : List Grave
  more = stop_graves w w' net net' x k

  abbrev lines : List Told
  lines = lines_of x.served (Some x.left)

  stands : LeftStands (stopped s k.client x.served) x.left
  stands = k.stop.tells.leaves

  worker : s.worker ≡ x.left.worker
  worker = sym (stands.worker ∙ stopped_worker s k.client x.served)

  number : s.number ≡ x.left.session
  number = sym (stands.session ∙ stopped_number s k.client x.served)

  its_grave : (served : Option Served) → Contains (client_graves true (stopped s k.client served)) (grave (OfClient s.worker s.number) k.client)
  its_grave None = one_here (grave (OfClient s.worker s.number) k.client) []
  its_grave (Some r) = one_here (grave (OfClient s.worker s.number) k.client) []

  buried : Contains (graves ++ more) (grave (OfClient x.left.worker x.left.session) k.client)
  buried =
      let d = stopping_of w w' net net' x k in
      let closed = stop_touched d (k.stop.links w.turns).touch (k.stop.links w.turns).touched in
      let last = client_graves true (stopped s k.client x.served) in
      subst (λ (t : ThreadNo). Contains (graves ++ more) (grave (OfClient t x.left.session) k.client)) worker
      (subst (λ (n : SessionNo). Contains (graves ++ more) (grave (OfClient s.worker n) k.client)) number
      (Contains-append_right graves more (grave (OfClient s.worker s.number) k.client) (Contains-append_right closed last (grave (OfClient s.worker s.number) k.client) (its_grave x.served))))

  -- the exchange that was under way
  cut_by : (b : BusyNow) (served : Option Served) → x.served ≡ served → s.conn ≡ Some (Exchanging b) → s.own ≡ None → ServesAtStop s (Some (Exchanging b)) None served → WasCutOff (graves ++ more) (records ++ lines) s b
  cut_by b None e is none some = absurd (nothing some)
    where
      nothing : IsSome (let o : Option Served = None in o) → ⊥
      nothing z = cc
  cut_by b (Some r) e is none some =
      let t : RecordTold s (stopped s k.client x.served) (conn_told s.conn) (Some x.left) r = subst (λ (o : Option Served). RecordsTold s (stopped s k.client x.served) (conn_told s.conn) (Some x.left) o) e k.stop.tells.records in
      let kinds : StopsKind s r.kind = subst (λ (o : Option Served). IfSome o (λ r. StopsKind s r.kind)) e k.stop.tells.kind in
      by_kind r.kind refl t kinds
    where
      by_kind : (q : Kind) → r.kind ≡ q → RecordTold s (stopped s k.client x.served) (conn_told s.conn) (Some x.left) r → StopsKind s q → WasCutOff (graves ++ more) (records ++ lines) s b
      by_kind (kind.Passed c) f t z = absurd z
      by_kind (kind.Own status) f t z = absurd (none_some status (sym none ∙ z))
      by_kind (kind.Cut c why) f t z =
          let its : ItsExchange s c = (subst (λ (q : Kind). KindTold s (stopped s k.client x.served) (conn_told s.conn) (leaves_for (Some x.left)) r q) f t.kind).0 in
          let same : Exchanging its.0 ≡ Exchanging b = some_is (Exchanging its.0) (Exchanging b) (sym its.1 ∙ is) in
          let is_b : its.0 ≡ b = cc in
          let d = stopping_of w w' net net' x k in
          let closed = stop_touched d (k.stop.links w.turns).touch (k.stop.links w.turns).touched in
          let gone = stop_link d (k.stop.links w.turns).touch (k.stop.links w.turns).touched b is in
          record {
            record_ = r;
            told = Contains-append_right records lines (line.Served r) (subst (λ (o : Option Served). Contains (lines_of o (Some x.left)) (line.Served r)) (sym e) (one_here (line.Served r) (left_line (Some x.left))));
            worker = t.worker;
            session = t.session;
            begins = t.ask;
            gave = t.gave;
            carried = c;
            cut_off = f ∙ ap (kind.Cut c) z.1;
            its = subst (λ (y : BusyNow). IsOfExchange y c) is_b its.2;
            closing = z.2;
            link = gone.0;
            buried = Contains-append_right graves more (grave (OfConn b.server b.id) gone.0)
                (Contains-append_left closed (client_graves true (stopped s k.client x.served)) (grave (OfConn b.server b.id) gone.0) gone.1);
            as_it_stood = gone.2;
          }

  its_cut : (c : Option Holding) → s.conn ≡ c → WasCut (graves ++ more) (records ++ lines) s c
  its_cut None e = tt
  its_cut (Some (Resting r)) e = tt
  its_cut (Some (Exchanging b)) e = λ none.
      cut_by b x.served refl e none (subst (λ (o : Option ℕ). ServesAtStop s (Some (Exchanging b)) o x.served) none (subst (λ (c : Option Holding). ServesAtStop s c s.own x.served) e k.stop.tells.serves))

  -- without a record its end begins behind the last one
  none_ends : (served : Option Served) → served ≡ None → x.left.ask.from ≡ (stopped s k.client served).asked → x.left.ask.from ≡ s.asked
  none_ends None e from = from
  none_ends (Some r) e from = absurd (none_some r (sym e))

  its_end : (c : Option Holding) → s.conn ≡ c → EndsBehind s c x.left
  its_end None e = λ none.
      none_ends x.served (subst (λ (o : Option ℕ). ServesAtStop s None o x.served) none (subst (λ (c : Option Holding). ServesAtStop s c s.own x.served) e k.stop.tells.serves)) stands.from
  its_end (Some (Resting r)) e = λ none.
      none_ends x.served (subst (λ (o : Option ℕ). ServesAtStop s (Some (Resting r)) o x.served) none (subst (λ (c : Option Holding). ServesAtStop s c s.own x.served) e k.stop.tells.serves)) stands.from
  its_end (Some (Exchanging b)) e = tt

  was_stopped : WasStopped moments (graves ++ more) (records ++ lines) x.left
  was_stopped = record {
    session = s;
    worker = worker;
    number = number;
    stood = stood;
    client = k.client;
    buried = buried;
    as_it_stood = k.stop.stops.link;
    cut = its_cut s.conn refl;
    ends = its_end s.conn refl;
  }

-- ---- all calls

left_same : (l m : Left) → line.Left l ≡ line.Left m → l ≡ m
left_same l m e = cc

served_not : (r : Served) (l : Left) → line.Served r ≡ line.Left l → ⊥
served_not r l e = cc

-- the end among a call's lines is the one that it tells
its_left : (served : Option Served) (end : Option Left) (l : Left) → Contains (lines_of served end) (line.Left l) → end ≡ Some l
its_left served end l there = ⊎_elim (λ c. absurd (by_served served c)) (λ c. by_end end c) (Contains-append_cases (served_line served) (left_line end) (line.Left l) there)
  where
    by_served : (o : Option Served) → Contains (served_line o) (line.Left l) → ⊥
    by_served None c = none_in (line.Left l) c
    by_served (Some r) c = served_not r l (one_in (line.Served r) (line.Left l) c)

    by_end : (o : Option Left) → Contains (left_line o) (line.Left l) → o ≡ Some l
    by_end None c = absurd (none_in (line.Left l) c)
    by_end (Some m) c = ap (λ (z : Left). Some z) (left_same m l (one_in (line.Left m) (line.Left l) c))

same_on : (moments : List Millis) (graves more : List Grave) (records : List Told) → StoodStill moments graves records → StoodStill moments (graves ++ more) records
same_on moments graves more records h l there stop =
    subst (λ (rs : List Told). WasStopped moments (graves ++ more) rs l) (append_nil records) (stopped_on moments graves more records [] l (h l there stop))
  where
    append_nil : {A : Type 0} (xs : List A) → xs ++ [] ≡ xs
    append_nil [] = refl
    append_nil (x ∷ xs) = ap (λ ys. x ∷ ys) (append_nil xs)

pub stood_still : (plans : List Plan) (moments : List Millis) (came : List ClientLine) (cares : List Care) (w : WorkerNow) (net : NetState) (records : List Told) (graves : List Grave) (turns : ℕ) → Makes plans moments came cares w net records graves turns
    → StoodStill moments graves records
stood_still plans moments _ _ _ _ _ _ _ (is_new c seats journals room begins) = λ l there stop. absurd (none_in (line.Left l) there)
stood_still plans moments _ _ _ _ _ _ _ (got_room came cares w w' net records graves turns m same) = stood_still plans moments came cares w net records graves turns m
stood_still plans moments _ _ _ _ _ _ _ (came_one came cares w w' net net' records graves turns new client n m offered admits) = stood_still plans moments came cares w net records graves turns m
stood_still plans moments _ _ _ _ _ _ _ (obeyed came cares w w' net net' records graves turns what count m k) =
    same_on moments graves (sweep_graves 0 k.cares.sweeps) records (stood_still plans moments came cares w net records graves turns m)
stood_still plans moments _ _ _ _ _ _ _ (ticked came cares w w' net net' records graves turns now count m at k) =
    same_on moments graves (sweep_graves 0 k.cares.sweeps) records (stood_still plans moments came cares w net records graves turns m)
stood_still plans moments _ _ _ _ _ _ _ (stepped came cares w w' net net' records graves turns n now r m at seats k) = λ l there stop. ⊎_elim
    (λ old. stopped_on moments graves (step_graves w w' net net' n r k.0) records (lines_of r.served r.left) l (stood_still plans moments came cares w net records graves turns m l old stop))
    (λ new.
    let limits = limits_of w.config k.0.session.front in
    let why : LeavesFor limits k.0.session k.0.after r.served now.0 l.cause = subst (λ (o : Option Left). IfSome o (λ l. LeavesFor limits k.0.session k.0.after r.served now.0 l.cause)) (its_left r.served r.left l new) k.1.leaves in
    absurd (leaves_not limits k.0.session k.0.after net k.0.mid r.served r.left now.0 l.cause k.0.step.tells.records k.1.cuts why stop))
    (Contains-append_cases records (lines_of r.served r.left) (line.Left l) there)
stood_still plans moments _ _ _ _ _ _ _ (stopped_one came cares w w' net net' records graves turns x m k stood) = λ l there stop. ⊎_elim
    (λ old. stopped_on moments graves (stop_graves w w' net net' x k) records (lines_of x.served (Some x.left)) l (stood_still plans moments came cares w net records graves turns m l old stop))
    (λ new.
    subst (λ (z : Left). WasStopped moments (graves ++ stop_graves w w' net net' x k) (records ++ lines_of x.served (Some x.left)) z) (some_is x.left l (its_left x.served (Some x.left) l new))
    (was_stopped moments w w' net net' x records graves k stood))
    (Contains-append_cases records (lines_of x.served (Some x.left)) (line.Left l) there)
