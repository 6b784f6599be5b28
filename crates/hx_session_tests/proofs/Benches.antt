-- What the calls of sessions one after the other ask and keep.
use Rattle.std.proofs.Common.{◌≡◌, ◌+◌, ◌-◌, ◌≤◌, ◌<◌, ℕ, Bool, true, false, List, [], ◌∷◌, length, refl, sym, ap, ◌∙◌, subst, Some, arith, eq-eqb}
use Rattle.std.specs.Prelude.{if◌then◌else◌, replicate, Result, Ok, Err}
use Rattle.hx_base.specs.declared.numbers.Millis.{Millis}
use Rattle.hx_base.specs.declared.numbers.SessionNo.{SessionNo}
use Rattle.hx_config.specs.Limits.{IsWithin, all_servers}
use Rattle.hx_config.specs.Meaning.{Meaning}
use Rattle.hx_connecting.specs.Sessions.{SessionNow, admitted, around_with, is_first}
use Rattle.hx_link.specs.Told.{LinkState}
use Rattle.hx_link.specs.Nets.{NetState, NetAttaches, NetBuries}
use Rattle.hx_link.specs.MemoryLinks.{MemoryLinkNow, new_link, with_loop}
use Rattle.hx_link.specs.declared.net.NetFault.{NetFault}
use Rattle.hx_base.specs.declared.plan.Plan.{Plan}
use Rattle.hx_plain.specs.PlainSeat.{first_thread}
use Rattle.hx_pool.specs.SeatView.{History}
use Rattle.hx_session.specs.Fits.{IsGoing}
use Rattle.hx_session.specs.Stages.{IsNewClient}
use Rattle.hx_session.specs.declared.step.Step.{Step}
use Rattle.hx_worker.specs.Admitting.{IsAdmissible}
use Rattle.hx_worker.specs.Workers.{WorkerNow, worker_now, HasSeats, HasSessions, last_number}
use Rattle.hx_worker.specs.Steps.{placed}
use Rattle.hx_worker.specs.Stops.{SessionStop}
use Rattle.hx_worker.specs.declared.answers.Stopped.{Stopped}
use Rattle.hx_worker.proofs.ByNumber.{session_here}
use Rattle.hx_worker.proofs.Coming.{new_sessions, admit_sessions, admit_seats}
use Rattle.hx_worker.proofs.Keeping.{MayCall, may_call, Stepped, step_sessions, step_seats, stop_sessions, stop_seats}
use Rattle.hx_worker.proofs.Linked.{chose_for}
use Rattle.hx_worker.proofs.Owners.{few_marks}
use Rattle.hx_worker.proofs.Stepping.{StepEnsures, StopEnsures}
use Rattle.hx_session_tests.proofs.Begun.{begin_seats}
use Rattle.hx_session_tests.specs.Begins.{BeginFor}
use Rattle.hx_session_tests.specs.Benches.{IsBench, IsEmpty, IsVisit}

-- the sessions' worker
abbrev pub worker_of : Meaning → List History → List ℕ → List SessionNow → WorkerNow
worker_of config hs ts ss = worker_now first_thread config hs [] ts last_number ss

-- seats at which nothing has happened, and turns of 0
pub begins_empty : (config : Meaning) (hs : List History) (ts : List ℕ) (net : NetState) → BeginFor (all_servers config.backs) hs → ts ≡ replicate (length config.backs) 0 → net.loop_no ≡ 0 → IsEmpty config hs ts net
begins_empty config hs ts net b t l =
    let has = new_sessions first_thread config hs [] ts t in
    let seats = begin_seats config hs [] b in record {
      has = record { rise = omega arith; few = has.few; most = omega arith; ours = tt; turns = has.turns };
      held = record { serve = seats.serve; owns = seats.owns; one = seats.one };
      loop = l;
    }

-- a net whose loop is the same serves as well
pub same_loop : (config : Meaning) (hs : List History) (ts : List ℕ) (net net' : NetState) → IsEmpty config hs ts net → net'.loop_no ≡ net.loop_no → IsEmpty config hs ts net'
same_loop config hs ts net net' v l = record { has = v.has; held = v.held; loop = l ∙ v.loop }

-- ---- a client's link

pub same_loop_no : {D : Type 0} (net net' : NetState) (a b : LinkState) (r : Result D NetFault) → NetAttaches net net' a b r → net'.loop_no ≡ net.loop_no
same_loop_no net net' a b (Ok d) s = ap (λ (n : NetState). n.loop_no) s.0.0
same_loop_no net net' a b (Err e) s = ap (λ (n : NetState). n.loop_no) s.0.0

pub on_its_loop : (a b : MemoryLinkNow) (n : ℕ) → b ≡ with_loop (Some n) a → b.state.on_loop ≡ Some n
on_its_loop a b n at = ap (λ (l : MemoryLinkNow). l.state.on_loop) at

pub new_client : (plan : Plan) (a b : MemoryLinkNow) (n : ℕ) → a ≡ new_link plan → b ≡ with_loop (Some n) a → IsNewClient b.state
new_client plan a b n is at =
    subst (λ (l : MemoryLinkNow). IsNewClient l.state) (sym (at ∙ ap (with_loop (Some n)) is)) (record { taken_count = refl; sent_count = refl; taken = refl; sent = refl })

-- where nobody is there a client of the loop, with any number, begins a session that can make its first step
pub admitted_visit : (threads : ℕ) (config : Meaning) (hs : List History) (ts : List ℕ) (net : NetState) (n : SessionNo) (front : ℕ) (now : Millis) (client : LinkState)
    → IsWithin threads config.fronts config.backs → front < length config.fronts → 1 ≤ n.0 → n.0 ≤ last_number → client.on_loop ≡ Some 0 → IsNewClient client → IsEmpty config hs ts net
    → IsVisit config hs ts net (admitted first_thread n front now.0 client)
admitted_visit threads config hs ts net n front now client within low some most loop new v =
    let w : WorkerNow = worker_now first_thread config hs [] ts (n.0 - 1) [] in
    let fresh : IsAdmissible w client front = record { loop = loop; new = new; is_front = low } in
    let number : n.0 ≡ w.last + 1 = omega arith in
    let had : HasSessions w = record { rise = omega arith; few = v.has.few; most = omega arith; ours = tt; turns = v.has.turns } in
    let held : HasSeats w = record { serve = v.held.serve; owns = v.held.owns; one = v.held.one } in
    let has = admit_sessions threads w client front now n fresh number within (omega arith) (omega arith) had in
    let seats = admit_seats threads w client front now n fresh number held in record {
      has = record { rise = (omega arith, omega arith); few = has.few; most = v.has.most; ours = has.ours; turns = v.has.turns };
      held = record { serve = seats.serve; owns = seats.owns; one = seats.one };
      loop = v.loop;
    }

-- what a session that goes on asks
pub may_step : (config : Meaning) (hs : List History) (ts : List ℕ) (net : NetState) (s : SessionNow) → IsVisit config hs ts net s
    → MayCall (worker_of config hs ts (s ∷ [])) s.number.0 net.loop_no s
may_step config hs ts net s v = may_call (worker_of config hs ts (s ∷ [])) s.number.0 net.loop_no s v.held v.has (session_here s [] s.number.0 refl) v.loop

-- the session behind its step, in place of that before
placed_one : (s a : SessionNow) → s.number.0 ≡ a.number.0 → placed (s ∷ []) a ≡ (if a.over then [] else a ∷ [])
placed_one s a e = ap (λ (b : Bool). if b then (if a.over then [] else a ∷ []) else s ∷ []) (eq-eqb s.number.0 a.number.0 e)

if_true : {A : Type 0} (b : Bool) (x y : A) → b ≡ true → (if b then x else y) ≡ x
if_true b x y e = ap (λ (c : Bool). if c then x else y) e

if_false : {A : Type 0} (b : Bool) (x y : A) → b ≡ false → (if b then x else y) ≡ y
if_false b x y e = ap (λ (c : Bool). if c then x else y) e

module _ (config : Meaning) (hs hs' : List History) (ts ts' : List ℕ) (net net' : NetState) (s a : SessionNow) (r : Step) (v : IsVisit config hs ts net s)
    (e : StepEnsures config s a (around_with hs ts net) (around_with hs' ts' net') r) where
  going : IsGoing config s
  going = v.has.ours.0.going

  step_done : Stepped config s.number.0 (s ∷ []) s a (around_with hs ts net) (around_with hs' ts' net') r
  step_done = record {
    there = session_here s [] s.number.0 refl;
    step = record {
      same = e.same;
      adds = e.adds;
      few = few_marks s.worker s.number (is_first s) e.adds.touch 0 hs hs' e.adds.added e.adds.adds;
      links = e.links going.going;
      chooses = chose_for config s a (around_with hs ts net) (around_with hs' ts' net') r (e.links going.going) (e.chooses going.going);
      tells = e.tells going.going;
      keeps = e.keeps going.going;
      ended = e.ended;
    };
    turns = e.turns;
    going = e.going;
    left = e.left;
    holds = e.holds;
    serve = e.serve;
  }

  number : s.number.0 ≡ a.number.0
  number = ap (λ (k : SessionNo). k.0) (sym e.same.session.number)

  stepped : (ss : List SessionNow) → placed (s ∷ []) a ≡ ss → IsBench config hs' ts' net' ss
  stepped ss is = record {
    has = subst (λ l. HasSessions (worker_of config hs' ts' l)) is (step_sessions first_thread config hs hs' [] [] ts ts' last_number (s ∷ []) net net' s.number.0 r s a step_done v.has);
    held = subst (λ l. HasSeats (worker_of config hs' ts' l)) is (step_seats first_thread config hs hs' [] [] ts ts' last_number (s ∷ []) net net' s.number.0 r s a step_done v.has v.held);
    loop = e.same.loop_no ∙ v.loop;
  }

  -- a session that ended leaves nobody there
  pub stepped_off : a.over ≡ true → IsEmpty config hs' ts' net'
  stepped_off over = stepped [] (placed_one s a number ∙ if_true a.over [] (a ∷ []) over)

  -- and one that goes on can make its next step
  pub stepped_on : a.over ≡ false → IsVisit config hs' ts' net' a
  stepped_on on = stepped (a ∷ []) (placed_one s a number ∙ if_false a.over [] (a ∷ []) on)

pub not_over : (b : Bool) → (b ≡ true → ⊥) → b ≡ false
not_over true never = absurd (never refl)
not_over false never = refl

-- a stopped session leaves nobody there
pub stopped_off : (config : Meaning) (hs hs' : List History) (ts : List ℕ) (net net' : NetState) (s : SessionNow) (client : LinkState) (x : Stopped)
    → IsVisit config hs ts net s → StopEnsures s client hs hs' net net' x → IsEmpty config hs' ts net'
stopped_off config hs hs' ts net net' s client x v e =
    let stop : SessionStop s client hs hs' net net' x = record {
      stops = e.stops;
      adds = e.adds;
      few = few_marks s.worker s.number (is_first s) e.adds.touch 0 hs hs' e.adds.added e.adds.adds;
      links = e.links;
      tells = e.tells;
    } in record {
      has = stop_sessions first_thread config hs hs' [] [] ts last_number s [] client net net' x v.has stop;
      held = stop_seats first_thread config hs hs' [] [] ts last_number s [] client net net' x v.has stop v.held;
      loop = e.stops.loop_no ∙ v.loop;
    }

-- a burial changes nothing of that
pub buried_off : (config : Meaning) (hs : List History) (ts : List ℕ) (net net' : NetState) (l : LinkState) → IsEmpty config hs ts net → NetBuries net net' l → IsEmpty config hs ts net'
buried_off config hs ts net net' l v b = record { has = v.has; held = v.held; loop = ap (λ (n : NetState). n.loop_no) b.0 ∙ v.loop }
