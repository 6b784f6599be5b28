-- Each call of a replay keeps what holds of its course.
use Rattle.std.proofs.Common.{◌≡◌, ℕ, suc, ◌+◌, ◌<◌, ◌≤◌, length, arith, Bool, true, false, List, [], ◌∷◌, ◌++◌, append_assoc, inl, map, refl, sym, ap, ◌∙◌, subst, Option, Some, None}
use Rattle.std.specs.Prelude.{Contains, Result, Ok, Err, drop, reverse, slice_index_or, take}
use Rattle.std.proofs.lemmas.List.{append-nil, map-append, reverse-append, take-append-drop}
use Rattle.hx_base.specs.declared.numbers.Millis.{Millis}
use Rattle.hx_base.specs.declared.numbers.ServerNo.{ServerNo}
use Rattle.hx_base.specs.declared.numbers.SessionNo.{SessionNo}
use Rattle.hx_base.specs.declared.order.Order.{Order}
use Rattle.hx_base.specs.declared.order.Order.TheVariants.{Drain}
use Rattle.hx_base.specs.declared.plan.Plan.{Plan}
use Rattle.hx_connecting.proofs.WayLemmas.{attach_dials}
use Rattle.hx_link.specs.Nets.{NetState, AttachCounted, NetAttaches, StaysTold}
use Rattle.hx_link.specs.Told.{LinkState}
use Rattle.hx_link.specs.declared.net.NetFault.{NetFault}
use Rattle.hx_record.specs.declared.served.Told.{Told}
use Rattle.hx_session.specs.declared.step.Step.{Step}
use Rattle.hx_worker.specs.Admitting.{Admits}
use Rattle.hx_worker.specs.Cares.{TicksAll, CarriesOut}
use Rattle.hx_worker.specs.Steps.{StepsAt}
use Rattle.hx_worker.specs.Stops.{StopsOne, StopsNext}
use Rattle.hx_worker.specs.Workers.{WorkerNow, HasSeats}
use Rattle.hx_worker.specs.declared.answers.Stopped.{Stopped}
use Rattle.hx_course.proofs.CallLemmas.{course_admit, course_tick, course_order}
use Rattle.hx_course.proofs.StepLemmas.{course_step}
use Rattle.hx_course.proofs.StopLemmas.{course_stop}
use Rattle.hx_course.specs.Calls.{step_graves, stop_graves}
use Rattle.hx_course.specs.Courses.{KeepsCourse}
use Rattle.hx_course.specs.Graves.{Grave, links_of}
use Rattle.hx_course.specs.Lines.{lines_of}
use Rattle.hx_course.specs.Sweeping.{sweep_graves}
use Rattle.hx_planned.proofs.BeginPlans.{plans_admit}
use Rattle.hx_planned.proofs.CarePlans.{plans_tick, plans_order}
use Rattle.hx_planned.proofs.StepPlans.{plans_step}
use Rattle.hx_planned.proofs.StopPlans.{plans_stop}
use Rattle.hx_planned.specs.Plans.{KeepsPlans}
use Rattle.hx_script_parts.specs.Limits.{are_rising}
use Rattle.hx_script_parts.specs.declared.script.ClientLine.{ClientLine}
use Rattle.hx_run.proofs.Orders.{cares_more, drop_all, moments_next, next_moment, rising_drop}
use Rattle.hx_run.specs.Cares.{Care, Ordered, Ticked, AreToCome, DueOrder, LastIsOther, cares_at, drains_below, moment_cares}
use Rattle.hx_run.specs.Courses.{CaresOn, ComesAll, ComesAt, ComesIn, ComesOn, ComesUpTo, HasCome, HasCourse, KeepsAt, ObeysAll, TicksOn, plan_of}
use Rattle.hx_run.specs.declared.due.Due.{Due}
use Rattle.hx_run.specs.Runs.{IsRoomier, RunNow}
use Rattle.hx_run.proofs.Standing.{least_stood}
use Rattle.hx_run.specs.Standings.{AllStoodLast}
use Rattle.hx_run.specs.Turns.{Makes, counted, turns_after, got_room, came_one, obeyed, ticked, stepped, stopped_one}

abbrev Both : List Plan → List ClientLine → WorkerNow → NetState → List Told → List Grave → Type 0
Both plans came w net records graves = KeepsCourse w net records graves × KeepsPlans (map plan_of came) plans w net graves

abbrev pub Has : List Plan → List Millis → List ClientLine → List Care → WorkerNow → NetState → List Told → ℕ → Type 0
Has plans moments came cares w net records turns =
    (graves : List Grave) × KeepsCourse w net records graves × KeepsPlans (map plan_of came) plans w net graves × Makes plans moments came cares w net records graves turns

-- room in the journals is no matter of it
roomier : (plans : List Plan) (moments : List Millis) (came : List ClientLine) (cares : List Care) (w r : WorkerNow) (net : NetState) (records : List Told) (turns : ℕ) → IsRoomier w r → Has plans moments came cares w net records turns
    → Has plans moments came cares r net records turns
roomier plans moments came cares w r net records turns same h =
    let k = h.1 in
    let p = h.2 in
    let both : Both plans came r net records h.0 = subst (λ (x : WorkerNow). Both plans came x net records h.0) (sym same) (
      record { alone = k.alone; buried = k.buried; clients = k.clients; truth = k.truth; conns = k.conns; owners = k.owners; dials = k.dials },
      record { count = p.count; clients = p.clients; conns = p.conns; dials = p.dials; next = p.next },
    ) in
    (h.0, both.0, both.1, got_room came cares w r net records h.0 turns h.3 same)

-- a round of the caretaker, and an order
pub ticked_course : (plans : List Plan) (moments : List Millis) (came : List ClientLine) (cares : List Care) (w r w' : WorkerNow) (net net' : NetState) (now : Millis) (count : ℕ) (records : List Told) (turns : ℕ) → Contains moments now → IsRoomier w r
    → TicksAll r w' net net' now count → Has plans moments came cares w net records turns → Has plans moments came (cares ++ Ticked now ∷ []) w' net' records turns
ticked_course plans moments came cares w r w' net net' now count records turns at same k h =
    let z = roomier plans moments came cares w r net records turns same h in (
      z.0 ++ sweep_graves 0 k.cares.sweeps,
      course_tick r w' net net' now count k records z.0 z.1,
      plans_tick r w' net net' now count k records (map plan_of came) plans z.0 z.1 z.2,
      ticked came cares r w' net net' records z.0 turns now count z.3 at k,
    )

pub ordered_course : (plans : List Plan) (moments : List Millis) (came : List ClientLine) (cares : List Care) (w r w' : WorkerNow) (net net' : NetState) (what : Order) (count : ℕ) (records : List Told) (turns : ℕ) → IsRoomier w r
    → CarriesOut r w' net net' what count → Has plans moments came cares w net records turns → Has plans moments came (cares ++ Ordered what ∷ []) w' net' records turns
ordered_course plans moments came cares w r w' net net' what count records turns same k h =
    let z = roomier plans moments came cares w r net records turns same h in (
      z.0 ++ sweep_graves 0 k.cares.sweeps,
      course_order r w' net net' what count k records z.0 z.1,
      plans_order r w' net net' what count k records (map plan_of came) plans z.0 z.1 z.2,
      obeyed came cares r w' net net' records z.0 turns what count z.3 k,
    )

-- a step, with what it told, counted where it moved
pub stepped_course : (plans : List Plan) (moments : List Millis) (came : List ClientLine) (cares : List Care) (w r w' : WorkerNow) (net net' : NetState) (n : SessionNo) (now : Millis) (x : Step) (records records' : List Told) (turns : ℕ) → Contains moments now
    → IsRoomier w r → StepsAt r w' net net' n now.0 x → HasSeats r → HasSeats w' → records' ≡ records ++ lines_of x.served x.left → Has plans moments came cares w net records turns
    → Has plans moments came cares w' net' records' (turns_after x.moved turns)
stepped_course plans moments came cares w r w' net net' n now x records records' turns at same k seats seats' told h =
    let z = roomier plans moments came cares w r net records turns same h in
    let graves : List Grave = z.0 ++ step_graves r w' net net' n x k.0 in (
      graves,
      subst (λ (l : List Told). KeepsCourse w' net' l graves) (sym told) (course_step r w' net net' n x k.0 records z.0 seats seats' z.1),
      plans_step r w' net net' n x k.0 records (map plan_of came) plans z.0 z.1 z.2,
      subst (λ (l : List Told). Makes plans moments came cares w' net' l graves (turns_after x.moved turns)) (sym told) (stepped came cares r w' net net' records z.0 turns n now x z.3 at seats k),
    )

-- a stop, with what it told
pub stopped_course : (plans : List Plan) (moments : List Millis) (came : List ClientLine) (cares : List Care) (w r w' : WorkerNow) (net net' : NetState) (o : Option Stopped) (x : Stopped) (records records' : List Told) (turns : ℕ) → IsRoomier w r
    → StopsNext r w' net net' o → o ≡ Some x → HasSeats r → AllStoodLast moments w → records' ≡ records ++ lines_of x.served (Some x.left) → Has plans moments came cares w net records turns
    → Has plans moments came cares w' net' records' turns
stopped_course plans moments came cares w r w' net net' o x records records' turns same s is seats stood told h =
    let k : StopsOne r w' net net' x = subst (λ (p : Option Stopped). StopsNext r w' net net' p) is s in
    let z = roomier plans moments came cares w r net records turns same h in
    let graves : List Grave = z.0 ++ stop_graves r w' net net' x k in (
      graves,
      subst (λ (l : List Told). KeepsCourse w' net' l graves) (sym told) (course_stop r w' net net' x k records z.0 seats z.1),
      plans_stop r w' net net' x k records (map plan_of came) plans z.0 z.1 z.2,
      subst (λ (l : List Told). Makes plans moments came cares w' net' l graves turns) (sym told) (stopped_one came cares r w' net net' records z.0 turns x z.3 k (least_stood moments w r w' net net' x k same stood)),
    )

-- a net that buried and dialled the same
same_net : (w : WorkerNow) (a b : NetState) (records : List Told) (graves : List Grave) → AttachCounted a b → KeepsCourse w a records graves → KeepsCourse w b records graves
same_net w a b records graves same k =
    let buried : b.buried ≡ a.buried = ap (λ (n : NetState). n.buried) same.0 in
    let dials : b.dials ≡ a.dials = ap (λ (n : NetState). n.dials) same.0 in
    record {
      alone = k.alone;
      buried = subst (λ (o : Option (List LinkState)). StaysTold (Some (links_of graves)) o) (sym buried) k.buried;
      clients = k.clients;
      truth = k.truth;
      conns = k.conns;
      owners = k.owners;
      dials = λ ds told d there answered. k.dials ds (sym dials ∙ told) d there answered;
    }

-- a client whose link was attached, and that is admitted
pub admitted_course : (plans : List Plan) (moments : List Millis) (came : List ClientLine) (cares : List Care) (w w' : WorkerNow) (a b : NetState) (line : ClientLine) (client : LinkState) (n : SessionNo) (records : List Told) (turns : ℕ) → AttachCounted a b
    → client.dial ≡ None → client.plan ≡ Some line.plan → Admits w w' client line.front line.moment n → Has plans moments came cares w a records turns → Has plans moments (came ++ line ∷ []) cares w' b records turns
admitted_course plans moments came cares w w' a b line client n records turns same dial plan k h = (
  h.0,
  course_admit w w' b b client line.front line.moment n k refl refl dial records h.0 (same_net w a b records h.0 same h.1),
  subst (λ (l : List Plan). KeepsPlans l plans w' b h.0) (sym (map-append plan_of came (line ∷ [])))
      (plans_admit w w' a b client line.front line.moment n line.plan k plan (attach_dials a b same).1 (inl (ap (λ (s : NetState). s.dials) same.0)) (map plan_of came) plans h.0 h.2),
  came_one came cares w w' a b records h.0 turns line client n h.3 (record { offered = same; no_dial = dial; follows = plan }) k,
)

-- a link that was offered to the loop keeps its dial and its plan, whether it was attached or not
pub attached_so : {D : Type 0} (a b : NetState) (l k : LinkState) (r : Result D NetFault) → NetAttaches a b l k r → AttachCounted a b × (k.dial ≡ l.dial) × (k.plan ≡ l.plan)
attached_so a b l k (Ok done) n = (n.0, ap (λ (x : LinkState). x.dial) n.2, ap (λ (x : LinkState). x.plan) n.2)
attached_so a b l k (Err fault) n = (n.0, ap (λ (x : LinkState). x.dial) n.3, ap (λ (x : LinkState). x.plan) n.3)

-- where no session was there the worker and its net are as they were
pub none_course : (plans : List Plan) (moments : List Millis) (came : List ClientLine) (cares : List Care) (w r w' : WorkerNow) (net net' : NetState) (o : Option Stopped) (records : List Told) (turns : ℕ) → IsRoomier w r → StopsNext r w' net net' o
    → o ≡ None → Has plans moments came cares w net records turns → Has plans moments came cares w' net' records turns
none_course plans moments came cares w r w' net net' o records turns same s is h =
    let k : StopsNext r w' net net' None = subst (λ (p : Option Stopped). StopsNext r w' net net' p) is s in
    subst (λ (x : WorkerNow). Has plans moments came cares x net' records turns) (sym k.1)
    (subst (λ (n : NetState). Has plans moments came cares r n records turns) (sym k.2) (roomier plans moments came cares w r net records turns same h))

-- ---- steps that are counted

-- one that didn't move isn't
pub still_on : (plans : List Plan) (moments : List Millis) (came : List ClientLine) (cares : List Care) (moved : Bool) (r : RunNow) → moved ≡ false → HasCourse plans moments came cares (counted moved r) → HasCourse plans moments came cares r
still_on plans moments came cares moved r is h = subst (λ (m : Bool). HasCourse plans moments came cares (counted m r)) is h

-- one that moved is one more
pub moved_on : (plans : List Plan) (moments : List Millis) (came : List ClientLine) (cares : List Care) (moved : Bool) (r : RunNow) → moved ≡ true → HasCourse plans moments came cares (counted moved r) → HasCourse plans moments came cares (counted true r)
moved_on plans moments came cares moved r is h = subst (λ (m : Bool). HasCourse plans moments came cares (counted m r)) is h

-- ---- what the caretaker is asked for

-- nothing
pub cares_none : (a : RunNow) → CaresOn [] a a
cares_none a plans moments came cares h = subst (λ (l : List Care). HasCourse plans moments came l a) (sym (append-nil cares)) h

-- one call behind others
pub cares_both : (first second : List Care) (a b c : RunNow) → CaresOn first a b → CaresOn second b c → CaresOn (first ++ second) a c
cares_both first second a b c p q plans moments came cares h =
    subst (λ (l : List Care). HasCourse plans moments came l c) (append_assoc cares first second) (q plans moments came (cares ++ first) (p plans moments came cares h))

-- the next order is carried out
pub obeys_next : (now : Millis) (a b c : RunNow) (due mid left : List DueOrder) (what : Order) → mid ≡ left ++ (now, what) ∷ [] → ObeysAll now a due b mid → CaresOn (Ordered what ∷ []) b c → ObeysAll now a due c left
obeys_next now a b c due mid left what is o keeps =
    let pair : Order → DueOrder = λ w. (now, w) in record {
      taken = o.taken ++ what ∷ [];
      next = o.next ∙ (ap (λ (l : List DueOrder). map pair o.taken ++ reverse l) is
          ∙ (ap (λ (l : List DueOrder). map pair o.taken ++ l) (reverse-append left ((now, what) ∷ []))
          ∙ (sym (append_assoc (map pair o.taken) ((now, what) ∷ []) (reverse left))
          ∙ ap (λ (l : List DueOrder). l ++ reverse left) (sym (map-append pair o.taken (what ∷ []))))));
      keeps = subst (λ (l : List Care). CaresOn l a c) (sym (map-append Ordered o.taken (what ∷ []))) (cares_both (map Ordered o.taken) (Ordered what ∷ []) a b c o.keeps keeps);
    }

-- before the first
pub obeys_none : (now : Millis) (a : RunNow) (due : List DueOrder) → ObeysAll now a due a due
obeys_none now a due = record { taken = []; next = refl; keeps = cares_none a }

-- the next server is drained
pub drains_next : (k : ℕ) (server : ServerNo) (a b c : RunNow) → server.0 ≡ k → CaresOn (drains_below k) a b → CaresOn (Ordered (Drain server) ∷ []) b c → CaresOn (drains_below (k + 1)) a c
drains_next k server a b c is p q =
    let more : suc k ≡ k + 1 = omega arith in
    let one : server ≡ record { 0 = k } = ap (λ (n : ℕ). record { 0 = n }) is in
    subst (λ (n : ℕ). CaresOn (drains_below n) a c) more
    (cares_both (drains_below k) (Ordered (Drain (record { 0 = k })) ∷ []) a b c p (subst (λ (s : ServerNo). CaresOn (Ordered (Drain s) ∷ []) b c) one q))

-- ---- the clients of a script

-- the next client comes
pub comes_next : (a b : RunNow) (due left : List ClientLine) (line : ClientLine) → due ≡ left ++ line ∷ [] → ComesOn line a b → ComesAll a due b left
comes_next a b due left line is comes plans moments ordered cares h =
    let came = h.0 in
    let order : ordered ≡ (came ++ line ∷ []) ++ reverse left =
    h.1 ∙ (ap (λ (l : List ClientLine). came ++ reverse l) is
    ∙ (ap (λ (l : List ClientLine). came ++ l) (reverse-append left (line ∷ [])) ∙ sym (append_assoc came (line ∷ []) (reverse left)))) in
    (came ++ line ∷ [], order, comes plans moments came cares h.2)

-- one behind another
pub comes_both : (a b c : RunNow) (due mid left : List ClientLine) → ComesAll a due b mid → ComesAll b mid c left → ComesAll a due c left
comes_both a b c due mid left p q plans moments ordered cares h = q plans moments ordered cares (p plans moments ordered cares h)

-- a moment: its orders, its clients, the caretaker's round, and the rounds of the sessions
pub comes_moment : (now : Millis) (a ordered come ticks b : RunNow) (due mid left : Due) → mid.clients.items ≡ due.clients.items → ObeysAll now a due.orders.items ordered mid.orders.items → LastIsOther now mid.orders.items
    → ComesAll ordered mid.clients.items come left.clients.items → left.orders.items ≡ mid.orders.items → TicksOn now come ticks → KeepsAt now ticks b → ComesAt now a due b left
comes_moment now a ordered come ticks b due mid left same o other clients still tick rounds plans moments all orders later cares at rise to_come h =
    let next = next_moment orders now later due.orders.items mid.orders.items o.taken rise to_come o.next other in
    let obeyed_all : HasCome plans moments all mid.clients.items (cares ++ map Ordered o.taken) ordered =
    subst (λ (l : List ClientLine). HasCome plans moments all l (cares ++ map Ordered o.taken) ordered) (sym same) (h.0, h.1, o.keeps plans moments h.0 cares h.2) in
    let early = clients plans moments all (cares ++ map Ordered o.taken) obeyed_all in
    let asked : (cares ++ map Ordered o.taken) ++ Ticked now ∷ [] ≡ cares ++ moment_cares orders now =
    append_assoc cares (map Ordered o.taken) (Ticked now ∷ []) ∙ ap (λ (l : List Order). cares ++ (map Ordered l ++ Ticked now ∷ [])) (sym next.1) in
    let ends : HasCourse plans moments early.0 ((cares ++ map Ordered o.taken) ++ Ticked now ∷ []) b =
    rounds plans moments early.0 ((cares ++ map Ordered o.taken) ++ Ticked now ∷ []) at (tick plans moments early.0 (cares ++ map Ordered o.taken) at early.2) in (
      subst (λ (l : List DueOrder). AreToCome orders later (reverse l)) (sym still) next.0,
      (early.0, early.1, subst (λ (l : List Care). HasCourse plans moments early.0 l b) asked ends),
    )

-- before the first moment
pub comes_none : (moments : List Millis) (a : RunNow) (due : Due) → ComesIn moments [] moments a due a due
comes_none moments a due plans ordered orders rise to_come h = (to_come, h)

-- one of several moments behind those before it
pub comes_in : (moments : List Millis) (i : ℕ) (d : Millis) (a b c : RunNow) (due mid left : Due) → i < length moments → ComesIn moments (take i moments) (drop i moments) a due b mid
    → ComesAt (slice_index_or moments i d) b mid c left → ComesIn moments (take (i + 1) moments) (drop (i + 1) moments) a due c left
comes_in moments i d a b c due mid left low p q plans ordered orders rise to_come h =
    let now : Millis = slice_index_or moments i d in
    let next = moments_next moments i d low in
    let k = p plans ordered orders rise to_come h in
    let rest : are_rising (now ∷ drop (i + 1) moments) ≡ true = subst (λ (l : List Millis). are_rising l ≡ true) next.first (rising_drop moments i rise) in
    let r = q plans moments ordered orders (drop (i + 1) moments) (cares_at orders (take i moments)) next.there rest (subst (λ (l : List Millis). AreToCome orders l (reverse mid.orders.items)) next.first k.0) k.1 in
    let asked : cares_at orders (take i moments) ++ moment_cares orders now ≡ cares_at orders (take (i + 1) moments) =
    sym (cares_more orders (take i moments) now) ∙ ap (cares_at orders) (sym next.behind) in (r.0, subst (λ (l : List Care). HasCome plans moments ordered left.clients.items l c) asked r.1)

-- up to that one
pub comes_up_to : (moments : List Millis) (i : ℕ) (d : Millis) (a b c : RunNow) (due mid left : Due) → i < length moments → ComesIn moments (take i moments) (drop i moments) a due b mid
    → ComesAt (slice_index_or moments i d) b mid c left → ComesUpTo moments a due c left
comes_up_to moments i d a b c due mid left low p q = record {
  passed = take (i + 1) moments;
  later = drop (i + 1) moments;
  parts = sym (take-append-drop (i + 1) moments);
  comes = comes_in moments i d a b c due mid left low p q;
}

-- all of them
pub comes_through : (moments : List Millis) (i : ℕ) (a b : RunNow) (due left : Due) → length moments ≤ i → ComesIn moments (take i moments) (drop i moments) a due b left → ComesIn moments moments [] a due b left
comes_through moments i a b due left past p =
    let all = drop_all moments i past in
    subst (λ (l : List Millis). ComesIn moments l [] a due b left) all.0 (subst (λ (l : List Millis). ComesIn moments (take i moments) l a due b left) all.1 p)

-- where none is due any more each of the clients in order came
pub all_come : (plans : List Plan) (moments : List Millis) (ordered left : List ClientLine) (cares : List Care) (b : RunNow) → left ≡ [] → HasCome plans moments ordered left cares b → HasCourse plans moments ordered cares b
all_come plans moments ordered left cares b none h =
    let all : h.0 ≡ ordered = sym (append-nil h.0) ∙ (ap (λ (l : List ClientLine). h.0 ++ reverse l) (sym none) ∙ sym h.1) in
    subst (λ (l : List ClientLine). HasCourse plans moments l cares b) all h.2
