-- What a worker keeps through a step and a stop of one of its sessions.
use Rattle.std.proofs.Common.{◌≡◌, ℕ, ◌+◌, true, false, List, ◌∷◌, refl, sym, ap, ◌∙◌, subst, arith, Option, Some, None, IsSome}
use Rattle.hx_base.specs.declared.numbers.SessionNo.{SessionNo}
use Rattle.hx_base.specs.declared.numbers.ThreadNo.{ThreadNo}
use Rattle.hx_config.specs.Limits.{all_servers, are_numbered}
use Rattle.hx_config.specs.Meaning.{Meaning}
use Rattle.hx_link.specs.Told.{LinkState}
use Rattle.hx_link.specs.Nets.{NetState}
use Rattle.hx_pool.specs.declared.entries.Note.{Note}
use Rattle.hx_pool.specs.SeatView.{History}
use Rattle.hx_record.specs.declared.served.Left.{Left}
use Rattle.hx_connecting.specs.Holds.{HasJust, HoldsAt, conn_at}
use Rattle.hx_connecting.specs.Journals.{JournalRoom, JournalsStay}
use Rattle.hx_connecting.specs.Sessions.{SessionNow, Around, around_with, is_first}
use Rattle.hx_connecting.specs.Touches.{AllOf, HasMarks, most_marks}
use Rattle.hx_session.specs.Fits.{FitsSome, IsGoing, TurnsFit, SeatsServe}
use Rattle.hx_session.specs.Records.{Leaves}
use Rattle.hx_session.specs.declared.step.Step.{Step}
use Rattle.hx_worker.specs.declared.answers.Stopped.{Stopped}
use Rattle.hx_worker.specs.Workers.{WorkerNow, worker_now, session_of, held_of, IsOurs, HasSessions, HasSeats}
use Rattle.hx_worker.specs.Steps.{SessionStep, Steps, BuriesClient, placed}
use Rattle.hx_worker.specs.Stops.{SessionStop, StopsOne}
use Rattle.hx_worker.proofs.Linked.{step_buried, stop_buried}
use Rattle.hx_worker.proofs.ByNumber.{session_past, none_behind, placed_other, placed_held, placed_rise, placed_each, placed_few, each_found, rise_rest}
use Rattle.hx_worker.proofs.Owners.{owns_holds, owns_after, one_after, serve_after}

from_zero : (k : ℕ) → 0 + k ≡ k
from_zero k = omega arith

pub none_there : (o : Option SessionNow) → IsSome o → o ≡ None → ⊥
none_there None i e = cc
none_there (Some s) i e = cc

-- what the seats hold for a session that is there
seats_hold : (w : WorkerNow) (s : SessionNow) (n : ℕ) → HasSeats w → HasSessions w → session_of w.sessions n ≡ Some s → HoldsAt s 0 w.seats
seats_hold w s n h has there =
    let found = each_found (IsOurs w.thread w.config) w.sessions n s there has.ours in
    owns_holds w.thread s 0 w.seats (all_servers w.config.backs) found.1.its h.serve h.one
    (λ k g e.
    let mine : HasJust g s.number (held_of (session_of w.sessions s.number.0) k) = h.owns k g s.number e in
    let same : session_of w.sessions s.number.0 ≡ Some s = subst (λ m. session_of w.sessions m ≡ Some s) (sym found.0) there in
    subst (λ j. HasJust g s.number (conn_at s.conn j)) (sym (from_zero k)) (subst (λ (o : Option SessionNow). HasJust g s.number (held_of o k)) same mine))

-- what a session asks of its worker
pub record MayCall (w : WorkerNow) (n loop_no : ℕ) (s : SessionNow) : Type 0 where
  pub there : session_of w.sessions n ≡ Some s
  pub number : s.number.0 ≡ n
  pub going : IsGoing w.config s
  pub serve : SeatsServe s.worker w.seats (all_servers w.config.backs)
  pub holds : HoldsAt s 0 w.seats
  pub net : loop_no ≡ s.worker.0

pub may_call : (w : WorkerNow) (n loop_no : ℕ) (s : SessionNow) → HasSeats w → HasSessions w → session_of w.sessions n ≡ Some s → loop_no ≡ w.thread.0 → MayCall w n loop_no s
may_call w n loop_no s seats has there net =
    let found = each_found (IsOurs w.thread w.config) w.sessions n s there has.ours in record {
      there = there;
      number = found.0;
      going = found.1.going;
      serve = subst (λ (t : ThreadNo). SeatsServe t w.seats (all_servers w.config.backs)) (sym found.1.its) seats.serve;
      holds = seats_hold w s n seats has there;
      net = net ∙ ap (λ (t : ThreadNo). t.0) (sym found.1.its);
    }

-- and of one to be stopped
pub may_stop : (w : WorkerNow) (n loop_no : ℕ) (s : SessionNow) → are_numbered 0 (all_servers w.config.backs) ≡ true → MayCall w n loop_no s → FitsSome s w.seats
may_stop w n loop_no s numbered m = record { config = w.config; numbered = numbered; going = m.going; serves = m.serve }

-- ---- a step

-- what a session's step gives its worker
pub record Stepped (config : Meaning) (n : ℕ) (ss : List SessionNow) (s a : SessionNow) (before after : Around) (r : Step) : Type 0 where
  pub there : session_of ss n ≡ Some s
  pub step : SessionStep config s a before after r
  pub turns : TurnsFit config after.turns
  pub going : a.over ≡ false → IsGoing config a
  pub left : a.over ≡ true → a.client.on_loop ≡ None
  pub holds : HoldsAt a 0 after.seats
  pub serve : SeatsServe s.worker after.seats (all_servers config.backs)

-- a session that left holds nothing
gone_empty : (s : SessionNow) (o : Option Left) → Leaves s o → s.over ≡ true → s.conn ≡ None
gone_empty s None l over = cc
gone_empty s (Some left) l over = l.conn

module _ (t : ThreadNo) (config : Meaning) (hs hs' : List History) (js js' : List JournalRoom) (ts ts' : List ℕ) (last : ℕ) (ss : List SessionNow) (net mid : NetState) (n : ℕ) (r : Step) (s a : SessionNow)
    (x : Stepped config n ss s a (around_with hs ts net) (around_with hs' ts' mid) r) (has : HasSessions (worker_now t config hs js ts last ss)) where
  found : (s.number.0 ≡ n) × IsOurs t config s
  found = each_found (IsOurs t config) ss n s x.there has.ours

  -- its number is still that of the call
  pub after_number : a.number.0 ≡ n
  after_number = ap (λ (k : SessionNo). k.0) x.step.same.session.number ∙ found.0

  pub step_sessions : HasSessions (worker_now t config hs' js' ts' last (placed ss a))
  step_sessions =
      let few = placed_few ss a in let was = has.few in record {
        rise = placed_rise 0 last ss a has.rise;
        few = omega arith;
        most = has.most;
        ours = placed_each (IsOurs t config) ss a (λ on. record { its = x.step.same.session.worker ∙ found.1.its; going = x.going on }) has.ours;
        turns = x.turns;
      }

  pub step_seats : HasSeats (worker_now t config hs js ts last ss) → HasSeats (worker_now t config hs' js' ts' last (placed ss a))
  step_seats seats =
      let P : ℕ → List Note → Type 0 = HasMarks s.worker s.number (is_first s) x.step.adds.touch in
      let same : a.number ≡ s.number = x.step.same.session.number in
      let there : session_of ss a.number.0 ≡ Some s = subst (λ m. session_of ss m ≡ Some s) (sym after_number) x.there in
      let gone : a.over ≡ true → a.conn ≡ None = gone_empty a r.left x.step.tells.leaves in record {
        serve = subst (λ (h : ThreadNo). SeatsServe h hs' (all_servers config.backs)) found.1.its x.serve;
        owns = owns_after P hs hs' x.step.adds.added ss (placed ss a) a.worker a.number a.conn
            (λ i es m. subst (λ (k : SessionNo). AllOf k es) (sym same) m.own)
            x.step.adds.adds x.holds (λ k ne. placed_other ss a k ne) (λ i. placed_held 0 last ss s a i has.rise there gone) seats.owns;
        one = one_after P 0 hs hs' x.step.adds.added x.step.adds.adds;
      }

-- the worker's step is that of its session
pub stepped : (t : ThreadNo) (config : Meaning) (hs hs' : List History) (js js' : List JournalRoom) (ts ts' : List ℕ) (last : ℕ) (ss ss' : List SessionNow) (net mid net' : NetState) (n : SessionNo) (r : Step) (s a : SessionNow)
    → Stepped config n.0 ss s a (around_with hs ts net) (around_with hs' ts' mid) r → ss' ≡ placed ss a → BuriesClient a.over a.client mid net' → JournalsStay most_marks js js'
    → Steps (worker_now t config hs js ts last ss) (worker_now t config hs' js' ts' last ss') net net' n r
stepped t config hs hs' js js' ts ts' last ss ss' net mid net' n r s a x is buries journals = record {
  stays = record { thread = refl; config = refl; last = refl };
  session = s;
  after = a;
  there = x.there;
  mid = mid;
  step = x.step;
  sessions = is;
  buries = buries;
  buried = step_buried config s a (around_with hs ts net) (around_with hs' ts' mid) r x.step net' buries;
  journals = journals;
}

-- what holds of its session before and behind it
pub stepped_so : (t : ThreadNo) (config : Meaning) (hs hs' : List History) (js js' : List JournalRoom) (ts ts' : List ℕ) (last : ℕ) (ss ss' : List SessionNow) (net mid net' : NetState) (n : SessionNo) (r : Step) (s a : SessionNow)
    (x : Stepped config n.0 ss s a (around_with hs ts net) (around_with hs' ts' mid) r) (is : ss' ≡ placed ss a) (buries : BuriesClient a.over a.client mid net') (journals : JournalsStay most_marks js js') (P : SessionNow → SessionNow → NetState → Type 0)
    → P s a mid → P (stepped t config hs hs' js js' ts ts' last ss ss' net mid net' n r s a x is buries journals).session (stepped t config hs hs' js js' ts ts' last ss ss' net mid net' n r s a x is buries journals).after (stepped t config hs hs' js js' ts ts' last ss ss' net mid net' n r s a x is buries journals).mid
unfolding stepped
stepped_so t config hs hs' js js' ts ts' last ss ss' net mid net' n r s a x is buries journals P p = p

-- ---- a stop

module _ (t : ThreadNo) (config : Meaning) (hs hs' : List History) (js js' : List JournalRoom) (ts : List ℕ) (last : ℕ) (s : SessionNow) (others : List SessionNow) (client : LinkState) (net mid : NetState) (x : Stopped)
    (has : HasSessions (worker_now t config hs js ts last (s ∷ others))) (stop : SessionStop s client hs hs' net mid x) where
  pub stop_sessions : HasSessions (worker_now t config hs' js' ts last others)
  stop_sessions = let few = has.few in record { rise = rise_rest 0 last s others has.rise; few = omega arith; most = has.most; ours = has.ours.1; turns = has.turns }

  pub stop_seats : HasSeats (worker_now t config hs js ts last (s ∷ others)) → HasSeats (worker_now t config hs' js' ts last others)
  stop_seats seats =
      let P : ℕ → List Note → Type 0 = HasMarks s.worker s.number (is_first s) stop.adds.touch in
      let none : session_of others s.number.0 ≡ None = none_behind s.number.0 s.number.0 last others (omega arith) has.rise.1 in record {
        serve = serve_after P 0 t hs hs' stop.adds.added (all_servers config.backs) stop.adds.adds seats.serve;
        owns = owns_after P hs hs' stop.adds.added (s ∷ others) others s.worker s.number None
            (λ i es m. m.own) stop.adds.adds stop.stops.holds (λ k ne. sym (session_past s others k ne))
            (λ i. ap (λ (o : Option SessionNow). held_of o i) none) seats.owns;
        one = one_after P 0 hs hs' stop.adds.added stop.adds.adds;
      }

  pub stopped_one : (net' : NetState) → BuriesClient true client mid net' → JournalsStay most_marks js js'
      → StopsOne (worker_now t config hs js ts last (s ∷ others)) (worker_now t config hs' js' ts last others) net net' x
  stopped_one net' buries journals = record {
    stays = record { thread = refl; config = refl; last = refl };
    turns = refl;
    session = s;
    others = others;
    least = refl;
    client = client;
    mid = mid;
    stop = stop;
    sessions = refl;
    buries = buries;
    buried = stop_buried s client (around_with hs ts net) (around_with hs' ts mid) x (stop.links ts) net' buries;
    journals = journals;
  }
