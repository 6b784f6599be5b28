-- What the worker's calls leave of its seats and journals.
use Rattle.std.proofs.Common.{◌≡◌, ◌≢◌, ℕ, zero, suc, ◌+◌, ◌<◌, ◌≤◌, List, [], ◌∷◌, length, map, refl, sym, ap, ◌∙◌, subst, arith, inl, inr, Option, Some, None}
use Rattle.std.specs.Prelude.{slice_get, slice_set, ◌-◌, ◌==◌, ◌||◌, Bool, true, false, cond, Result, Ok, Err, OnOk, All, IfSome}
use Rattle.hx_base.specs.declared.numbers.Millis.{Millis}
use Rattle.hx_base.specs.declared.numbers.SessionNo.{SessionNo}
use Rattle.hx_base.specs.declared.numbers.ServerNo.{ServerNo}
use Rattle.hx_base.specs.declared.order.Order.{Order}
use Rattle.hx_base.specs.declared.order.Order.TheVariants.{Drain, Ready}
use Rattle.hx_config.specs.declared.parts.Server.{Server}
use Rattle.hx_config.specs.Limits.{IsWithin, all_servers, are_numbered}
use Rattle.std.specs.List.{list_any, list_all}
use Rattle.std.proofs.lemmas.Bool.{eqb-true, leb-true, and_parts}
use Rattle.hx_config.specs.Meaning.{Meaning}
use Rattle.hx_caretaker.specs.Caring.{EachSweep}
use Rattle.hx_caretaker.specs.Orders.{OrdersAt}
use Rattle.hx_caretaker.specs.Rounds.{TicksAt}
use Rattle.hx_caretaker.specs.Sweeps.{Sweep, care_marks}
use Rattle.hx_connecting.specs.Around.{abouts}
use Rattle.hx_connecting.specs.Journals.{JournalRoom, JournalsStay, room_of}
use Rattle.hx_connecting.specs.Sessions.{SessionNow}
use Rattle.hx_connecting.specs.Touches.{most_marks}
use Rattle.hx_link.specs.Nets.{NetState}
use Rattle.hx_connecting.specs.Holds.{HasJust}
use Rattle.hx_pool.specs.Held.{held_by}
use Rattle.hx_pool.specs.declared.entries.Entry.{Entry}
use Rattle.hx_pool.specs.History.{marks_of}
use Rattle.hx_pool.specs.Journal.{Journal, journal_from}
use Rattle.hx_pool.specs.SeatView.{About, History, StandsInOneHistory}
use Rattle.hx_session.specs.declared.step.Step.{Step}
use Rattle.hx_worker.specs.declared.answers.Stopped.{Stopped}
use Rattle.hx_worker.specs.Cares.{Cares}
use Rattle.hx_worker.specs.Steps.{Steps}
use Rattle.hx_worker.specs.Stops.{StopsOne, StopsNext}
use Rattle.hx_worker.specs.Workers.{WorkerNow, Each, HasSeats, StaysWorker, session_of, held_of}
use Rattle.hx_worker.specs.Lends.{with_seat}
use Rattle.hx_run.specs.Overs.{AreAlone, IsKept, HasRoom, AllClosed, ClosedBelow, AreOver}
use Rattle.hx_run.specs.Rooms.{RoomBelow}
use Rattle.hx_run.specs.Dues.{AreDue, IsThere}
use Rattle.hx_run.specs.declared.due.Due.{Due}
use Rattle.hx_run.specs.Runs.{RunNow, run_now, GoesOn, IsRun, IsWorking, IsRoomier, CarriedOut}
use Rattle.hx_script_parts.specs.Limits.{is_server_of, is_client_of, is_order_of, is_plan_of, is_positive, has_limits, dials}
use Rattle.hx_script_parts.specs.declared.script.ClientLine.{ClientLine}
use Rattle.hx_base.specs.declared.plan.Plan.{Plan}
use Rattle.hx_link.specs.MemoryNets.{MemoryNetNow, IsPlan}
use Rattle.hx_record.specs.declared.served.Told.{Told}
use Rattle.std.specs.List.Sorted.{IsPermutation}
use Rattle.std.proofs.lemmas.List.Sorted.{All-permutation}
use Rattle.std.proofs.lemmas.List.Elements.{All-weaker}
use Rattle.std.proofs.lemmas.List.Sums.{AllPass-from_list_all}
use Rattle.hx_run.proofs.Closing.{drained_closed}
use Rattle.hx_run.proofs.Going.{steps_loop, stops_loop}

-- ---- a call with room enough leaves each journal whole

pub stay_whole : (marks : ℕ) (old new : List JournalRoom) → JournalsStay marks old new → Each (HasRoom marks) old → Each IsKept old → Each IsKept new
stay_whole marks [] [] s r k = tt
stay_whole marks [] (b ∷ new) s r k = absurd s
stay_whole marks (a ∷ old) [] s r k = absurd s
stay_whole marks (a ∷ old) (b ∷ new) s r k = ((s.0 r.0).0 ∙ k.0, stay_whole marks old new s.1 r.1 k.1)

working_after : (w w' : WorkerNow) → IsWorking w → StaysWorker w w' → abouts w'.seats ≡ abouts w.seats → HasSeats w' → Each IsKept w'.journals → IsWorking w'
working_after w w' k s a h j = record {
  thread = s.thread ∙ k.thread;
  config = subst (λ (m : Meaning). IsWithin m.threads m.fronts m.backs) (sym s.config) k.config;
  seats = h;
  alone = subst (λ (m : Meaning). AreAlone (all_servers m.backs) (abouts w'.seats)) (sym s.config) (subst (AreAlone (all_servers w.config.backs)) (sym a) k.alone);
  whole = j;
}

pub step_working : (w w' : WorkerNow) (net net' : NetState) (n : SessionNo) (r : Step) → IsWorking w → Each (HasRoom 4) w.journals → Steps w w' net net' n r → HasSeats w' → IsWorking w'
step_working w w' net net' n r k room s h =
    working_after w w' k s.stays s.step.same.about h (stay_whole most_marks w.journals w'.journals s.journals room k.whole)

pub stop_working : (w w' : WorkerNow) (net net' : NetState) (x : Stopped) → IsWorking w → Each (HasRoom 4) w.journals → StopsOne w w' net net' x → HasSeats w' → IsWorking w'
stop_working w w' net net' x k room s h =
    working_after w w' k s.stays s.stop.stops.about h (stay_whole most_marks w.journals w'.journals s.journals room k.whole)

-- each seat stays of its board
about_sweeps : (P : ℕ → History → History → Sweep → Type 0) → ((i : ℕ) (h k : History) (x : Sweep) → P i h k x → k.about ≡ h.about)
    → (i : ℕ) (old new : List History) (sweeps : List Sweep) → EachSweep P i old new sweeps → abouts new ≡ abouts old
about_sweeps P p i [] [] [] e = refl
about_sweeps P p i [] [] (x ∷ sweeps) e = absurd e
about_sweeps P p i [] (k ∷ new) sweeps e = absurd e
about_sweeps P p i (h ∷ old) [] sweeps e = absurd e
about_sweeps P p i (h ∷ old) (k ∷ new) [] e = absurd e
about_sweeps P p i (h ∷ old) (k ∷ new) (x ∷ sweeps) e =
    ap (λ (a : About). a ∷ abouts new) (p i h k x e.0) ∙ ap (λ (l : List About). h.about ∷ l) (about_sweeps P p (i + 1) old new sweeps e.1)

ticks_about : (now : Millis) (i : ℕ) (h k : History) (x : Sweep) → TicksAt now i h k x → k.about ≡ h.about
ticks_about now i h k x s = s.makes.about

orders_about : (what : Order) (i : ℕ) (h k : History) (x : Sweep) → OrdersAt what i h k x → k.about ≡ h.about
orders_about what i h k x (inl s) = s.1.makes.about
orders_about what i h k x (inr s) = ap (λ (y : History). y.about) s.1

pub tick_working : (now : Millis) (w w' : WorkerNow) (net net' : NetState) (count : ℕ) → IsWorking w → Each (HasRoom 2049) w.journals → Cares (TicksAt now) w w' net net' count → HasSeats w' → IsWorking w'
tick_working now w w' net net' count k room s h =
    working_after w w' k s.stays (about_sweeps (TicksAt now) (ticks_about now) 0 w.seats w'.seats s.cares.sweeps s.cares.each) h
    (stay_whole care_marks w.journals w'.journals s.journals room k.whole)

pub order_working : (what : Order) (w w' : WorkerNow) (net net' : NetState) (count : ℕ) → IsWorking w → Each (HasRoom 2049) w.journals → Cares (OrdersAt what) w w' net net' count → HasSeats w' → IsWorking w'
order_working what w w' net net' count k room s h =
    working_after w w' k s.stays (about_sweeps (OrdersAt what) (orders_about what) 0 w.seats w'.seats s.cares.sweeps s.cares.each) h
    (stay_whole care_marks w.journals w'.journals s.journals room k.whole)

-- ---- room is made

some_is : {A : Type 0} (a b : A) → Some a ≡ Some b → a ≡ b
some_is a b e = cc

set_same : {A : Type 0} (xs : List A) (i : ℕ) (x : A) → slice_get xs i ≡ Some x → slice_set xs i x ≡ xs
set_same [] i x e = cc
set_same (y ∷ xs) zero x e = ap (λ z. z ∷ xs) (some_is x y (sym e))
set_same (y ∷ xs) (suc i) x e = ap (λ l. y ∷ l) (set_same xs i x e)

set_each : {A : Type 0} (P : A → Type 0) (xs : List A) (i : ℕ) (x : A) → P x → Each P xs → Each P (slice_set xs i x)
set_each P [] i x p e = tt
set_each P (y ∷ xs) zero x p e = (p, e.1)
set_each P (y ∷ xs) (suc i) x p e = (e.0, set_each P xs i x p e.1)

each_at : {A : Type 0} (P : A → Type 0) (xs : List A) (i : ℕ) (x : A) → Each P xs → slice_get xs i ≡ Some x → P x
each_at P [] i x e s = cc
each_at P (y ∷ xs) zero x e s = subst P (some_is y x s) e.0
each_at P (y ∷ xs) (suc i) x e s = each_at P xs i x e.1 s

pub room_none : (marks : ℕ) (js : List JournalRoom) → RoomBelow marks 0 js
room_none marks [] = tt
room_none marks (j ∷ js) = tt

room_set : (marks k : ℕ) (js : List JournalRoom) (j : JournalRoom) → HasRoom marks j → RoomBelow marks k js → RoomBelow marks (suc k) (slice_set js k j)
room_set marks k [] j h r = tt
room_set marks zero (x ∷ js) j h r = (h, room_none marks js)
room_set marks (suc k) (x ∷ js) j h r = (r.0, room_set marks k js j h r.1)

pub room_next : (marks k : ℕ) (js : List JournalRoom) (j : JournalRoom) → HasRoom marks j → RoomBelow marks k js → RoomBelow marks (k + 1) (slice_set js k j)
room_next marks k js j h r = let e : suc k ≡ k + 1 = omega arith in subst (λ (m : ℕ). RoomBelow marks m (slice_set js k j)) e (room_set marks k js j h r)

pub room_all : (marks k : ℕ) (js : List JournalRoom) → length js ≤ k → RoomBelow marks k js → Each (HasRoom marks) js
room_all marks k [] l r = tt
room_all marks zero (j ∷ js) l r = absurd (omega (arith, l))
room_all marks (suc k) (j ∷ js) l r = (r.0, room_all marks k js (omega (arith, l)) r.1)

-- a journal keeps what it stored
pub kept_same : (a b : Journal) → b.history ≡ a.history → b.stored ≡ a.stored → b.whole ≡ a.whole → journal_from b ≡ journal_from a
kept_same a b h s w =
    ap (λ (x : Bool). cond x (Some (length (marks_of b.history.mine) - length b.stored)) None) w
    ∙ (ap (λ (x : History). cond a.whole (Some (length (marks_of x.mine) - length b.stored)) None) h
    ∙ ap (λ (x : List Entry). cond a.whole (Some (length (marks_of a.history.mine) - length x)) None) s)

pub on_ok_map : {A E : Type 0} (r : Result A E) {P Q : Type 0} → (P → Q) → OnOk r P → OnOk r Q
on_ok_map (Ok a) f p = f p
on_ok_map (Err e) f p = tt

-- a journal that was lent and got room
pub lent_room : (w : WorkerNow) (i : ℕ) (h : History) (a b : JournalRoom) → IsWorking w → slice_get w.seats i ≡ Some h → slice_get w.journals i ≡ Some a → b.kept ≡ a.kept
    → IsWorking (with_seat w i h b) × IsRoomier w (with_seat w i h b)
lent_room w i h a b k s j same =
    let seats : slice_set w.seats i h ≡ w.seats = set_same w.seats i h s in
    let is : with_seat w i h b ≡ record w { journals = slice_set w.journals i b } = ap (λ (l : List History). record w { seats = l; journals = slice_set w.journals i b }) seats in
    let whole : Each IsKept (slice_set w.journals i b) = set_each IsKept w.journals i b (same ∙ each_at IsKept w.journals i a k.whole j) k.whole in
    (subst IsWorking (sym is) (record { thread = k.thread; config = k.config; seats = record { serve = k.seats.serve; owns = k.seats.owns; one = k.seats.one }; alone = k.alone; whole = whole }), is)

-- ---- what is drained is closed

-- as many seats as servers
pub alone_count : (ss : List Server) (hs : List History) → AreAlone ss (abouts hs) → length hs ≡ length ss
alone_count [] [] a = refl
alone_count [] (h ∷ hs) a = absurd a
alone_count (s ∷ ss) [] a = absurd a
alone_count (s ∷ ss) (h ∷ hs) a = ap suc (alone_count ss hs a.1)

alone_at : (ss : List Server) (hs : List History) (i : ℕ) (h : History) → AreAlone ss (abouts hs) → slice_get hs i ≡ Some h → (h.about.thread.0 ≡ 0) × (h.about.threads ≡ 1)
alone_at [] [] i h a e = cc
alone_at [] (k ∷ hs) i h a e = absurd a
alone_at (s ∷ ss) [] i h a e = cc
alone_at (s ∷ ss) (k ∷ hs) zero h a e =
    let is : k ≡ h = some_is k h e in
    (ap (λ (x : History). x.about.thread.0) (sym is) ∙ ap (λ (x : About). x.thread.0) a.0, ap (λ (x : History). x.about.threads) (sym is) ∙ ap (λ (x : About). x.threads) a.0)
alone_at (s ∷ ss) (k ∷ hs) (suc i) h a e = alone_at ss hs i h a.1 e

-- the sweep of each seat
record SweptAt (P : ℕ → History → History → Sweep → Type 0) (old : List History) (i j : ℕ) (k : History) : Type 0 where
  pub before : History
  pub sweep : Sweep
  pub was : slice_get old i ≡ Some before
  pub does : P (j + i) before k sweep

swept_at : (P : ℕ → History → History → Sweep → Type 0) (j : ℕ) (old new : List History) (sweeps : List Sweep) (i : ℕ) (k : History) → EachSweep P j old new sweeps → slice_get new i ≡ Some k → SweptAt P old i j k
swept_at P j [] [] [] i k e s = cc
swept_at P j [] [] (x ∷ sweeps) i k e s = absurd e
swept_at P j [] (n ∷ new) sweeps i k e s = absurd e
swept_at P j (h ∷ old) [] sweeps i k e s = cc
swept_at P j (h ∷ old) (n ∷ new) [] i k e s = absurd e
swept_at P j (h ∷ old) (n ∷ new) (x ∷ sweeps) zero k e s =
    let at : j ≡ j + 0 = omega arith in
    record { before = h; sweep = x; was = refl; does = subst (λ m. P m h k x) at (subst (λ (y : History). P j h y x) (some_is n k s) e.0) }
swept_at P j (h ∷ old) (n ∷ new) (x ∷ sweeps) (suc i) k e s =
    let r = swept_at P (j + 1) old new sweeps i k e.1 s in
    let at : (j + 1) + i ≡ j + suc i = omega arith in
    record { before = r.before; sweep = r.sweep; was = r.was; does = subst (λ m. P m r.before k r.sweep) at r.does }

from_zero : (i : ℕ) → 0 + i ≡ i
from_zero i = omega arith

-- a seat behind a drain: its own, or another
drained_seat : (server : ServerNo) (i : ℕ) (before h : History) (x : Sweep) → OrdersAt (Drain server) i before h x → before.about.thread.0 ≡ 0 → before.about.threads ≡ 1
    → ((n : SessionNo) → held_by h.mine n ≡ []) → (i ≢ server.0 → h ≡ before → AllClosed h) → AllClosed h
drained_seat server i before h x (inl d) z one none other = drained_closed before h x.added x.swept d.1.makes d.1.does z one none
drained_seat server i before h x (inr d) z one none other = other d.0 d.1

-- behind a drain of the next server one seat more is closed
pub drained_next : (w w' : WorkerNow) (server : ServerNo) → IsWorking w → IsWorking w' → w'.sessions ≡ [] → CarriedOut (Drain server) w.seats w'.seats
    → ClosedBelow server.0 w.seats → ClosedBelow (server.0 + 1) w'.seats
drained_next w w' server k k' none c below i h low s =
    let r = swept_at (OrdersAt (Drain server)) 0 w.seats w'.seats c.0 i h c.1 s in
    let alone = alone_at (all_servers w.config.backs) w.seats i r.before k.alone r.was in
    let does : OrdersAt (Drain server) i r.before h r.sweep = subst (λ m. OrdersAt (Drain server) m r.before h r.sweep) (from_zero i) r.does in
    drained_seat server i r.before h r.sweep does alone.0 alone.1
    (λ (n : SessionNo). subst (λ (ss : List SessionNow). HasJust h n (held_of (session_of ss n.0) i)) none (k'.seats.owns i h n s))
    (λ other same.
    let lower : i < server.0 = omega (arith, low, other) in
    below i h lower (r.was ∙ ap (λ (x : History). Some x) (sym same)))

-- ---- calls one behind another

pub goes_both : (a b c : RunNow) → GoesOn a b → GoesOn b c → GoesOn a c
goes_both a b c p q = record { config = q.config ∙ p.config; most = q.most ∙ p.most; turns = omega (arith, p.turns, q.turns) }

-- what is due stays due behind a call
pub due_behind : (a b : RunNow) (d : Due) → GoesOn a b → AreDue a.worker.config d → AreDue b.worker.config d
due_behind a b d g k = subst (λ (m : Meaning). AreDue m d) (sym g.config) k

-- a server that an order is to is there
listed_below : (k : ℕ) (ss : List Server) (n : ServerNo) → are_numbered k ss ≡ true → list_any (λ (s : Server). s.no.0 == n.0) ss ≡ true → n.0 < k + length ss
unfolding are_numbered
listed_below k [] n a l = cc
listed_below k (s ∷ ss) n a l =
    let go : (b : Bool) → (s.no.0 == n.0) ≡ b → (b || list_any (λ (s : Server). s.no.0 == n.0) ss) ≡ true → n.0 < k + suc (length ss) =
    λ b. elim b as (λ b. (s.no.0 == n.0) ≡ b → (b || list_any (λ (s : Server). s.no.0 == n.0) ss) ≡ true → n.0 < k + suc (length ss)) [
      | true ↦ λ e q. let x : s.no.0 ≡ n.0 = eqb-true s.no.0 n.0 e in let y : s.no.0 ≡ k = eqb-true s.no.0 k (and_parts (s.no.0 == k) (are_numbered (k + 1) ss) a).0 in omega (arith, x, y)
      | false ↦ λ e q. let r = listed_below (k + 1) ss n (and_parts (s.no.0 == k) (are_numbered (k + 1) ss) a).1 q in omega (arith, r)
    ] in go (s.no.0 == n.0) refl l

order_there : (c : Meaning) (n : ServerNo) → are_numbered 0 (all_servers c.backs) ≡ true → is_server_of c n ≡ true → n.0 < length (all_servers c.backs)
order_there c n k l = let r = listed_below 0 (all_servers c.backs) n k l in omega (arith, r)

is_there : (c : Meaning) → are_numbered 0 (all_servers c.backs) ≡ true → (x : Millis × Order) → is_order_of c x ≡ true → IsThere c x.1
is_there c k (at, Drain server) l = order_there c server k l
is_there c k (at, Ready server) l = order_there c server k l

-- ---- a replay behind a call of its worker

pub ordered_run : (what : Order) (r : RunNow) (w w' : WorkerNow) (net : MemoryNetNow) (count : ℕ) → IsRun r → IsWorking w → Each (HasRoom 2049) w.journals
    → Cares (OrdersAt what) w w' r.net.state net.state count → HasSeats w' → IsRun (run_now w' net r.records r.turns r.most r.last)
ordered_run what r w w' net count run k room s h = record {
  working = order_working what w w' r.net.state net.state count k room s h;
  loop = s.cares.buries.loop ∙ run.loop;
  within = run.within;
}

pub ticked_run : (now : Millis) (r : RunNow) (w w' : WorkerNow) (net : MemoryNetNow) (count : ℕ) → IsRun r → IsWorking w → Each (HasRoom 2049) w.journals
    → Cares (TicksAt now) w w' r.net.state net.state count → HasSeats w' → IsRun (run_now w' net r.records r.turns r.most r.last)
ticked_run now r w w' net count run k room s h = record {
  working = tick_working now w w' r.net.state net.state count k room s h;
  loop = s.cares.buries.loop ∙ run.loop;
  within = run.within;
}

pub stepped_run : (r : RunNow) (w w' : WorkerNow) (net : MemoryNetNow) (n : SessionNo) (x : Step) (records : List Told) → IsRun r → IsWorking w → Each (HasRoom 4) w.journals
    → Steps w w' r.net.state net.state n x → HasSeats w' → IsRun (run_now w' net records r.turns r.most r.last)
stepped_run r w w' net n x records run k room s h = record {
  working = step_working w w' r.net.state net.state n x k room s h;
  loop = steps_loop w w' r.net.state net.state n x s ∙ run.loop;
  within = run.within;
}

pub stopped_run : (r : RunNow) (w w' : WorkerNow) (net : MemoryNetNow) (o : Option Stopped) (x : Stopped) (records : List Told) → IsRun r → IsWorking w → Each (HasRoom 4) w.journals
    → StopsNext w w' r.net.state net.state o → o ≡ Some x → HasSeats w' → IsRun (run_now w' net records r.turns r.most r.last)
stopped_run r w w' net o x records run k room s is h =
    let one : StopsOne w w' r.net.state net.state x = subst (StopsNext w w' r.net.state net.state) is s in
    record {
      working = stop_working w w' r.net.state net.state x k room one h;
      loop = stops_loop w w' r.net.state net.state x one ∙ run.loop;
      within = run.within;
    }

-- there are few servers
pub seats_few : (w : WorkerNow) → IsWorking w → length w.seats ≤ 32
seats_few w k = let count = alone_count (all_servers w.config.backs) w.seats k.alone in let low = k.config.servers_in in omega (arith, count, low)

-- as many seats as servers
pub seats_all : (w : WorkerNow) → IsWorking w → length w.seats ≡ length (all_servers w.config.backs)
seats_all w k = alone_count (all_servers w.config.backs) w.seats k.alone

-- ---- a script's lines

positive : (o : Option ℕ) → is_positive o ≡ true → IfSome o (λ n. 1 ≤ n)
positive None e = tt
positive (Some n) e = leb-true 1 n e

plan_of : (c : Meaning) (p : Plan) → is_plan_of c p ≡ true → IsPlan p
plan_of c p e =
    let limits = and_parts (is_positive p.room) (is_positive p.fail) (and_parts (dials c p.server) (has_limits p) e).1 in
    record { room = positive p.room limits.0; fail = positive p.fail limits.1 }

pub all_plans : (c : Meaning) (ps : List Plan) → list_all (is_plan_of c) ps ≡ true → All IsPlan ps
all_plans c ps e = All-weaker (λ p. is_plan_of c p ≡ true) IsPlan (plan_of c) ps (AllPass-from_list_all (is_plan_of c) ps e)

pub all_due : (c : Meaning) → IsWithin c.threads c.fronts c.backs → (clients : List ClientLine) (orders : List (Millis × Order)) (d : Due) → list_all (is_client_of c) clients ≡ true → list_all (is_order_of c) orders ≡ true
    → IsPermutation clients d.clients.items → IsPermutation orders d.orders.items → AreDue c d
all_due c within clients orders d a b p q = record {
  clients = All-permutation (λ x. is_client_of c x ≡ true) clients d.clients.items p (AllPass-from_list_all (is_client_of c) clients a);
  orders = All-permutation (λ x. IsThere c x.1) orders d.orders.items q
      (All-weaker (λ x. is_order_of c x ≡ true) (λ x. IsThere c x.1) (is_there c within.numbered) orders (AllPass-from_list_all (is_order_of c) orders b));
}

-- ---- the end

closed_rest : (h : History) (hs : List History) (k : ℕ) → ClosedBelow (suc k) (h ∷ hs) → ClosedBelow k hs
closed_rest h hs k c i x low e = c (suc i) x (omega (arith, low)) e

abbrev pub shown : List Journal → List History
shown js = map (λ (j : Journal). j.history) js

abbrev pub rooms : List Journal → List JournalRoom
rooms js = map (room_of journal_from (λ (j : Journal). j.room)) js

are_over : (ss : List Server) (js : List Journal) → AreAlone ss (abouts (shown js)) → Each StandsInOneHistory (shown js) → Each IsKept (rooms js) → ClosedBelow (length (shown js)) (shown js) → AreOver ss js
are_over [] [] a o k c = tt
are_over [] (j ∷ js) a o k c = absurd a
are_over (s ∷ ss) [] a o k c = absurd a
are_over (s ∷ ss) (j ∷ js) a o k c = (
  record { about = a.0; one = o.0; kept = k.0; closed = c 0 j.history (omega arith) refl },
  are_over ss js a.1 o.1 k.1 (closed_rest j.history (shown js) (length (shown js)) c),
)

pub run_over : (w : WorkerNow) (js : List Journal) → IsWorking w → ClosedBelow (length w.seats) w.seats → shown js ≡ w.seats → rooms js ≡ w.journals → AreOver (all_servers w.config.backs) js
run_over w js k c s r =
    are_over (all_servers w.config.backs) js
    (subst (λ (l : List History). AreAlone (all_servers w.config.backs) (abouts l)) (sym s) k.alone)
    (subst (Each StandsInOneHistory) (sym s) k.seats.one)
    (subst (Each IsKept) (sym r) k.whole)
    (subst (λ (l : List History). ClosedBelow (length l) l) (sym s) c)
