-- Over all calls of a replay the marks of each seat are those of sessions and the answers of the caretaker.
use Rattle.std.proofs.Common.{◌≡◌, ◌≢◌, ℕ, zero, suc, ◌+◌, ◌≤◌, ◌++◌, List, [], ◌∷◌, refl, sym, ap, ◌∙◌, subst, arith, Option, Some}
use Rattle.std.specs.Prelude.{Contains, slice_get}
use Rattle.hx_base.specs.declared.numbers.Millis.{Millis}
use Rattle.hx_base.specs.declared.numbers.SessionNo.{SessionNo}
use Rattle.hx_base.specs.declared.plan.Plan.{Plan}
use Rattle.hx_caretaker.specs.Caring.{EachSweep}
use Rattle.hx_caretaker.specs.Orders.{OrdersAt}
use Rattle.hx_caretaker.specs.Rounds.{TicksAt}
use Rattle.hx_caretaker.specs.Sweeps.{Sweep}
use Rattle.hx_causes.proofs.ReplayCauses.{causes_hold}
use Rattle.hx_causes.proofs.SessionLists.{first_in, found_in}
use Rattle.hx_config.specs.Limits.{all_servers}
use Rattle.hx_config.specs.declared.parts.Server.{Server}
use Rattle.hx_connecting.specs.Sessions.{SessionNow, is_first}
use Rattle.hx_connecting.specs.Touches.{AddsEach, HasMarks}
use Rattle.hx_course.specs.Graves.{Grave}
use Rattle.hx_link.specs.Nets.{NetState}
use Rattle.hx_pool.specs.History.{IsEven, marks_of}
use Rattle.hx_pool.specs.SeatView.{About, History, Makes as MakesEntries}
use Rattle.hx_pool.specs.declared.entries.Note.{Note}
use Rattle.hx_record.specs.declared.served.Told.{Told}
use Rattle.hx_script_parts.specs.declared.script.ClientLine.{ClientLine}
use Rattle.hx_session.specs.Marking.{AddsMarks}
use Rattle.hx_worker.specs.Workers.{WorkerNow}
use Rattle.hx_run.specs.Begins.{BeginFor, BeginsFor}
use Rattle.hx_run.specs.Cares.{Care, Ordered, Ticked}
use Rattle.hx_run.specs.Turns.{Makes, is_new, got_room, came_one, obeyed, ticked, stepped, stopped_one}
use Rattle.hx_cares.proofs.Seats.{Stands, order_stands, session_stands, tick_stands}
use Rattle.hx_cares.specs.Cared.{Cared, none_yet}

-- each seat
abbrev AllStand : List Care → List History → Type 0
AllStand cares seats = (i : ℕ) (h : History) → slice_get seats i ≡ Some h → Stands i cares h

some_is : {A : Type 0} (a b : A) → Some a ≡ Some b → a ≡ b
some_is a b e = cc

at_zero : (i : ℕ) → i ≡ i + 0
at_zero i = omega arith

at_next : (i k : ℕ) → (i + 1) + k ≡ i + suc k
at_next i k = omega arith

from_zero : (i : ℕ) → 0 + i ≡ i
from_zero i = omega arith

-- ---- a seat behind a call, and as it was

record Added (P : ℕ → List Note → Type 0) (old : List History) (i k : ℕ) (h : History) : Type 0 where
  pub before : History
  pub added : List Note
  pub was : slice_get old k ≡ Some before
  pub makes : MakesEntries before h added
  pub does : P (i + k) added

adds_back : (P : ℕ → List Note → Type 0) (i : ℕ) (old new : List History) (added : List (List Note)) (k : ℕ) (h : History) → AddsEach P i old new added → slice_get new k ≡ Some h → Added P old i k h
adds_back P i [] [] [] k h a e = cc
adds_back P i [] [] (x ∷ added) k h a e = absurd a
adds_back P i [] (y ∷ new) added k h a e = absurd a
adds_back P i (x ∷ old) [] added k h a e = absurd a
adds_back P i (x ∷ old) (y ∷ new) [] k h a e = absurd a
adds_back P i (x ∷ old) (y ∷ new) (es ∷ added) zero h a e = record {
  before = x;
  added = es;
  was = refl;
  makes = subst (λ (z : History). MakesEntries x z es) (some_is y h e) a.0;
  does = subst (λ n. P n es) (at_zero i) a.1;
}
adds_back P i (x ∷ old) (y ∷ new) (es ∷ added) (suc k) h a e =
    let r = adds_back P (i + 1) old new added k h a.2 e in
    record { before = r.before; added = r.added; was = r.was; makes = r.makes; does = subst (λ n. P n r.added) (at_next i k) r.does }

record SweptOne (P : ℕ → History → History → Sweep → Type 0) (old : List History) (i k : ℕ) (h : History) : Type 0 where
  pub before : History
  pub sweep : Sweep
  pub was : slice_get old k ≡ Some before
  pub does : P (i + k) before h sweep

sweeps_back : (P : ℕ → History → History → Sweep → Type 0) (i : ℕ) (old new : List History) (sweeps : List Sweep) (k : ℕ) (h : History) → EachSweep P i old new sweeps → slice_get new k ≡ Some h → SweptOne P old i k h
sweeps_back P i [] [] [] k h a e = cc
sweeps_back P i [] [] (x ∷ sweeps) k h a e = absurd a
sweeps_back P i [] (y ∷ new) sweeps k h a e = absurd a
sweeps_back P i (g ∷ old) [] sweeps k h a e = absurd a
sweeps_back P i (g ∷ old) (y ∷ new) [] k h a e = absurd a
sweeps_back P i (g ∷ old) (y ∷ new) (x ∷ sweeps) zero h a e = record {
  before = g;
  sweep = x;
  was = refl;
  does = subst (λ n. P n g h x) (at_zero i) (subst (λ (z : History). P i g z x) (some_is y h e) a.0);
}
sweeps_back P i (g ∷ old) (y ∷ new) (x ∷ sweeps) (suc k) h a e =
    let r = sweeps_back P (i + 1) old new sweeps k h a.1 e in
    record { before = r.before; sweep = r.sweep; was = r.was; does = subst (λ n. P n r.before h r.sweep) (at_next i k) r.does }

-- ---- the calls

begun : (ss : List Server) (hs : List History) (i : ℕ) (h : History) → BeginFor ss hs → slice_get hs i ≡ Some h → (s : Server) × BeginsFor s h
begun [] [] i h b e = cc
begun [] (k ∷ hs) i h b e = elim b [ ]
begun (s ∷ ss) [] i h b e = elim b [ ]
begun (s ∷ ss) (k ∷ hs) zero h b e = (s, subst (λ (x : History). BeginsFor s x) (some_is k h e) b.0)
begun (s ∷ ss) (k ∷ hs) (suc i) h b e = begun ss hs i h b.1 e

begins : (ss : List Server) (hs : List History) → BeginFor ss hs → AllStand [] hs
begins ss hs b i h e =
    let k = begun ss hs i h b e in record {
      thread = ap (λ (a : About). a.thread) k.1.about;
      alone = ap (λ (a : About). a.threads) k.1.about;
      start = ap (λ (a : About). a.start.0) k.1.about;
      even = subst IsEven (sym k.1.unused.mine) refl;
      cared = subst (λ (l : List Note). Cared i h.about.rules.delay.0 [] (marks_of l)) (sym k.1.unused.mine) none_yet;
    }

session_all : (cares : List Care) (s : SessionNow) (old new : List History) → 1 ≤ s.number.0 → AddsMarks s old new → AllStand cares old → AllStand cares new
session_all cares s old new low a stand i h e =
    let r = adds_back (HasMarks s.worker s.number (is_first s) a.touch) 0 old new a.added i h a.adds e in
    session_stands i cares r.before h r.added s.worker s.number (is_first s) a.touch r.makes
    (subst (λ n. HasMarks s.worker s.number (is_first s) a.touch n r.added) (from_zero i) r.does) (λ z. omega (arith, low, z)) (stand i r.before r.was)

holds : (plans : List Plan) (moments : List Millis) (came : List ClientLine) (cares : List Care) (w : WorkerNow) (net : NetState) (records : List Told) (graves : List Grave) (turns : ℕ) → Makes plans moments came cares w net records graves turns
    → AllStand cares w.seats
holds plans moments _ _ _ _ _ _ _ (is_new c seats journals room begin) = begins (all_servers c.backs) seats begin
holds plans moments _ _ _ _ _ _ _ (got_room came cares w w' net records graves turns m same) =
    subst (AllStand cares) (sym (ap (λ (v : WorkerNow). v.seats) same)) (holds plans moments came cares w net records graves turns m)
holds plans moments _ _ _ _ _ _ _ (came_one came cares w w' net net' records graves turns new client n m offered admits) =
    subst (AllStand cares) (sym (ap (λ (v : WorkerNow). v.seats) admits.admits)) (holds plans moments came cares w net records graves turns m)
holds plans moments _ _ _ _ _ _ _ (obeyed came cares w w' net net' records graves turns what count m k) = λ i h e.
    let r = sweeps_back (OrdersAt what) 0 w.seats w'.seats k.cares.sweeps i h k.cares.each e in
    order_stands what i cares r.before h r.sweep (subst (λ n. OrdersAt what n r.before h r.sweep) (from_zero i) r.does) (holds plans moments came cares w net records graves turns m i r.before r.was)
holds plans moments _ _ _ _ _ _ _ (ticked came cares w w' net net' records graves turns now count m at k) = λ i h e.
    let r = sweeps_back (TicksAt now) 0 w.seats w'.seats k.cares.sweeps i h k.cares.each e in
    tick_stands now i cares r.before h r.sweep r.does (holds plans moments came cares w net records graves turns m i r.before r.was)
holds plans moments _ _ _ _ _ _ _ (stepped came cares w w' net net' records graves turns n now r m at seats k) =
    let lines = (causes_hold w.config plans moments came cares w net records graves turns m refl).lines in
    session_all cares k.0.session w.seats w'.seats (lines k.0.session (found_in w.sessions n.0 k.0.session k.0.there)).low k.0.step.adds (holds plans moments came cares w net records graves turns m)
holds plans moments _ _ _ _ _ _ _ (stopped_one came cares w w' net net' records graves turns x m k stood) =
    let lines = (causes_hold w.config plans moments came cares w net records graves turns m refl).lines in
    session_all cares k.session w.seats w'.seats (lines k.session (subst (λ (l : List SessionNow). Contains l k.session) (sym k.least) (first_in k.session k.others))).low k.stop.adds (holds plans moments came cares w net records graves turns m)

pub cares_hold : (plans : List Plan) (moments : List Millis) (came : List ClientLine) (cares : List Care) (w : WorkerNow) (net : NetState) (records : List Told) (graves : List Grave) (turns : ℕ) → Makes plans moments came cares w net records graves turns
    → (i : ℕ) (h : History) → slice_get w.seats i ≡ Some h → Cared i h.about.rules.delay.0 cares (marks_of h.mine)
cares_hold plans moments came cares w net records graves turns m i h e = (holds plans moments came cares w net records graves turns m i h e).cared
