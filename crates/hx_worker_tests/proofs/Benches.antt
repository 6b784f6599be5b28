-- What the calls of a bench ask and keep.
use Rattle.std.proofs.Common.{◌≡◌, ℕ, suc, List, [], ◌∷◌, length, refl, sym, ap, ◌∙◌, subst, Bool, true, false, Option, Some, None}
use Rattle.std.specs.Prelude.{IsSome, if◌then◌else◌, nat_lt, ◌<◌, Result, Ok, Err}
use mathlib.Core.Logic.{dite}
use native.Mathlib.Decide.{ℕ_discrete}
use Rattle.hx_base.specs.declared.numbers.SessionNo.{SessionNo}
use Rattle.hx_base.specs.declared.numbers.ThreadNo.{ThreadNo}
use Rattle.hx_config.specs.declared.parts.Server.{Server}
use Rattle.hx_connecting.specs.Sessions.{SessionNow}
use Rattle.hx_link.specs.Told.{LinkState}
use Rattle.hx_link.specs.Nets.{NetState}
use Rattle.hx_pool.specs.SeatView.{History}
use Rattle.hx_session.specs.declared.step.Step.{Step}
use Rattle.hx_session.specs.Fits.{SeatsServe}
use Rattle.hx_worker.specs.declared.answers.Stopped.{Stopped}
use Rattle.hx_worker.proofs.ByNumber.{session_here, session_past}
use Rattle.hx_worker.specs.Admitting.{next_above}
use Rattle.hx_worker.specs.Steps.{Steps, BuriesClient}
use Rattle.hx_worker.specs.Cares.{Cares}
use Rattle.hx_worker.specs.Stops.{StopsOne, StopsNext}
use Rattle.hx_worker.specs.Workers.{WorkerNow, HasSeats, StaysWorker, session_of}
use Rattle.hx_caretaker.specs.Sweeps.{Sweep}
use Rattle.hx_config.specs.Meaning.{Meaning}
use Rattle.hx_link.specs.MemoryNets.{MemoryNetNow}
use Rattle.hx_base.specs.declared.numbers.Millis.{Millis}
use Rattle.hx_base.specs.declared.plan.Plan.{Plan}
use Rattle.hx_connecting.specs.Journals.{JournalRoom}
use Rattle.hx_link.specs.declared.net.NetFault.{NetFault}
use Rattle.hx_link.specs.MemoryLinks.{MemoryLinkNow, new_link, with_loop}
use Rattle.hx_link.specs.MemoryNets.{new_net}
use Rattle.hx_link.specs.Nets.{AttachCounted, NetAttaches}
use Rattle.hx_plain.specs.PlainSeat.{first_thread}
use Rattle.hx_worker.specs.Admitting.{IsAdmissible, Admits}
use Rattle.hx_worker.specs.Workers.{new_worker}
use Rattle.hx_worker_tests.specs.Benches.{IsBench, IsFresh}

-- as many seats as servers
pub seats_count : (t : ThreadNo) (hs : List History) (ss : List Server) → SeatsServe t hs ss → length hs ≡ length ss
seats_count t [] [] s = refl
seats_count t (h ∷ hs) [] s = absurd s
seats_count t [] (x ∷ ss) s = absurd s
seats_count t (h ∷ hs) (x ∷ ss) s = ap suc (seats_count t hs ss s.3)

buries_loop : (over : Bool) (client : LinkState) (mid net : NetState) → BuriesClient over client mid net → net.loop_no ≡ mid.loop_no
buries_loop false client mid net b = ap (λ (s : NetState). s.loop_no) b
buries_loop true client mid net b = b.1.loop

pub steps_loop : (w w' : WorkerNow) (net net' : NetState) (n : SessionNo) (r : Step) → Steps w w' net net' n r → net'.loop_no ≡ net.loop_no
steps_loop w w' net net' n r s = buries_loop s.after.over s.after.client s.mid net' s.buries ∙ s.step.same.loop_no

pub stops_loop : (w w' : WorkerNow) (net net' : NetState) (x : Stopped) → StopsOne w w' net net' x → net'.loop_no ≡ net.loop_no
stops_loop w w' net net' x s = buries_loop true s.client s.mid net' s.buries ∙ s.stop.stops.loop_no

some_is : {A : Type 0} (a b : A) → Some a ≡ Some b → a ≡ b
some_is a b e = cc

some_there : (o : Option SessionNow) (s : SessionNow) → o ≡ Some s → IsSome o
some_there o s e = subst (λ (x : Option SessionNow). IsSome x) (sym e) refl

-- the next session is there
pub next_there : (ss : List SessionNow) (n : ℕ) (m : SessionNo) → next_above ss n ≡ Some m → IsSome (session_of ss m.0)
next_there [] n m e = cc
next_there (s ∷ rest) n m e = dite (ℕ_discrete s.number.0 m.0)
    (λ (is : s.number.0 ≡ m.0). some_there (session_of (s ∷ rest) m.0) s (session_here s rest m.0 is))
    (λ ne.
    let go : (b : Bool) → (if b then Some s.number else next_above rest n) ≡ Some m → next_above rest n ≡ Some m =
    λ b. elim b as (λ b. (if b then Some s.number else next_above rest n) ≡ Some m → next_above rest n ≡ Some m) [
      | true ↦ λ q. absurd (ne (ap (λ (k : SessionNo). k.0) (some_is s.number m q)))
      | false ↦ λ q. q
    ] in
    subst (λ (o : Option SessionNow). IsSome o) (sym (session_past s rest m.0 ne)) (next_there rest n m (go (nat_lt n s.number.0) e)))

-- ---- what a bench keeps

after : (w w' : WorkerNow) (net net' : MemoryNetNow) (fronts : ℕ) → IsBench w net fronts → StaysWorker w w' → HasSeats w' → net'.state.loop_no ≡ net.state.loop_no → IsBench w' net' fronts
after w w' net net' fronts k s h l = record {
  thread = s.thread ∙ k.thread;
  seats = h;
  loop = l ∙ k.loop;
  count = k.count ∙ ap (λ (m : Meaning). length m.fronts) (sym s.config);
}

pub after_step : (w w' : WorkerNow) (net net' : MemoryNetNow) (fronts : ℕ) (n : SessionNo) (r : Step) → IsBench w net fronts → Steps w w' net.state net'.state n r → HasSeats w' → IsBench w' net' fronts
after_step w w' net net' fronts n r k s h = after w w' net net' fronts k s.stays h (steps_loop w w' net.state net'.state n r s)

pub after_care : (P : ℕ → History → History → Sweep → Type 0) (w w' : WorkerNow) (net net' : MemoryNetNow) (fronts count : ℕ) → IsBench w net fronts → Cares P w w' net.state net'.state count → HasSeats w' → IsBench w' net' fronts
after_care P w w' net net' fronts count k s h = after w w' net net' fronts k s.stays h s.cares.buries.loop

pub after_stop : (w w' : WorkerNow) (net net' : MemoryNetNow) (fronts : ℕ) (o : Option Stopped) → IsBench w net fronts → StopsNext w w' net.state net'.state o → HasSeats w' → IsBench w' net' fronts
after_stop w w' net net' fronts None k s h = record {
  thread = ap (λ (v : WorkerNow). v.thread) s.1 ∙ k.thread;
  seats = h;
  loop = ap (λ (x : NetState). x.loop_no) s.2 ∙ k.loop;
  count = k.count ∙ ap (λ (v : WorkerNow). length v.config.fronts) (sym s.1);
}
after_stop w w' net net' fronts (Some x) k s h = after w w' net net' fronts k s.stays h (stops_loop w w' net.state net'.state x s)

attached : (w : WorkerNow) (net net' : MemoryNetNow) (fronts : ℕ) → IsBench w net fronts → AttachCounted net.state net'.state → IsBench w net' fronts
attached w net net' fronts k s = record {
  thread = k.thread;
  seats = k.seats;
  loop = ap (λ (x : NetState). x.loop_no) s.0 ∙ k.loop;
  count = k.count;
}

pub after_attach : {D : Type 0} (w : WorkerNow) (net net' : MemoryNetNow) (a b : LinkState) (fronts : ℕ) (r : Result D NetFault) → IsBench w net fronts → NetAttaches net.state net'.state a b r → IsBench w net' fronts
after_attach w net net' a b fronts (Ok d) k s = attached w net net' fronts k s.0
after_attach w net net' a b fronts (Err e) k s = attached w net net' fronts k s.0

pub after_admit : (w w' : WorkerNow) (net : MemoryNetNow) (fronts front : ℕ) (client : LinkState) (now : Millis) (n : SessionNo) → IsBench w net fronts → Admits w w' client front now n → HasSeats w' → IsBench w' net fronts
after_admit w w' net fronts front client now n k a h = record {
  thread = ap (λ (v : WorkerNow). v.thread) a.admits ∙ k.thread;
  seats = h;
  loop = k.loop;
  count = k.count ∙ ap (λ (v : WorkerNow). length v.config.fronts) (sym a.admits);
}

pub after_refusal : (w w' : WorkerNow) (net : MemoryNetNow) (fronts : ℕ) → IsBench w net fronts → w' ≡ w → IsBench w' net fronts
after_refusal w w' net fronts k e = subst (λ (v : WorkerNow). IsBench v net fronts) (sym e) k

-- ---- what a bench asks

pub begins : (config : Meaning) (hs : List History) (js : List JournalRoom) (w : WorkerNow) (net : MemoryNetNow) (plans : List Plan)
    → w ≡ new_worker first_thread config hs js → HasSeats (new_worker first_thread config hs js) → net ≡ new_net plans 0 → IsBench w net (length config.fronts)
begins config hs js w net plans is h n = record {
  thread = ap (λ (v : WorkerNow). v.thread) is;
  seats = subst HasSeats (sym is) h;
  loop = ap (λ (m : MemoryNetNow). m.state.loop_no) n;
  count = ap (λ (v : WorkerNow). length v.config.fronts) (sym is);
}

-- a link that was made and attached
pub fresh_attached : (plan : Plan) (a b : MemoryLinkNow) (n : ℕ) → a ≡ new_link plan → n ≡ 0 → b ≡ with_loop (Some n) a → IsFresh b.state
fresh_attached plan a b n is loop at =
    subst (λ (l : MemoryLinkNow). IsFresh l.state) (sym (at ∙ ap (with_loop (Some n)) is))
    (record { loop = ap (λ (m : ℕ). Some m) loop; new = record { taken_count = refl; sent_count = refl; taken = refl; sent = refl } })

pub fresh_back : (a b : LinkState) → IsFresh a → b ≡ a → IsFresh b
fresh_back a b f e = subst IsFresh (sym e) f

pub admissible : (w : WorkerNow) (net : MemoryNetNow) (fronts front : ℕ) (client : LinkState) → IsBench w net fronts → IsFresh client → front < fronts → IsAdmissible w client front
admissible w net fronts front client k f low = record {
  loop = f.loop ∙ ap (λ (t : ThreadNo). Some t.0) (sym k.thread);
  new = f.new;
  is_front = subst (λ (n : ℕ). front < n) k.count low;
}
