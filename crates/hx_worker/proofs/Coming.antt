-- With what a worker begins, and what it keeps as a session comes.
use Rattle.std.proofs.Common.{◌≡◌, ℕ, zero, suc, ◌+◌, ◌<◌, List, [], ◌∷◌, ◌++◌, length, replicate, refl, sym, ap, ◌∙◌, subst, arith, Option, Some, None, inr}
use Rattle.std.specs.Prelude.{slice_get}
use Rattle.std.proofs.lemmas.List.{length-append, length-replicate}
use mathlib.Core.Logic.{dite}
use native.Mathlib.Decide.{ℕ_discrete}
use Rattle.hx_base.specs.declared.numbers.Millis.{Millis}
use Rattle.hx_base.specs.declared.numbers.SessionNo.{SessionNo}
use Rattle.hx_base.specs.declared.numbers.ThreadNo.{ThreadNo}
use Rattle.hx_config.specs.Limits.{IsWithin}
use Rattle.hx_config.specs.Meaning.{Meaning}
use Rattle.hx_link.specs.Told.{LinkState}
use Rattle.hx_pool.specs.SeatView.{History}
use Rattle.hx_connecting.specs.Holds.{HasJust, conn_at}
use Rattle.hx_connecting.specs.Journals.{JournalRoom}
use Rattle.hx_connecting.specs.Sessions.{SessionNow, Holding, admitted}
use Rattle.hx_session.specs.Fits.{IsRouted, TurnsFit}
use Rattle.hx_session.proofs.EntryLemmas.{back_there}
use Rattle.hx_worker.specs.Workers.{WorkerNow, worker_now, Each, session_of, held_of, NumbersRise, IsOurs, HasSessions, HasSeats, last_number}
use Rattle.hx_worker.specs.Admitting.{IsAdmissible}
use Rattle.hx_worker.proofs.ByNumber.{session_here, session_past}

-- ---- a new worker

zero_there : (n i t : ℕ) → slice_get (replicate n 0) i ≡ Some t → t ≡ 0
zero_there zero i t e = cc
zero_there (suc n) zero t e = cc
zero_there (suc n) (suc i) t e = zero_there n i t e

first_turns_fit : (config : Meaning) → TurnsFit config (replicate (length config.backs) 0)
first_turns_fit config = record { count = length-replicate (length config.backs) 0; each = λ i t b e k. inr (zero_there (length config.backs) i t e) }

pub new_sessions : (t : ThreadNo) (config : Meaning) (hs : List History) (js : List JournalRoom) (ts : List ℕ) → ts ≡ replicate (length config.backs) 0 → HasSessions (worker_now t config hs js ts 0 [])
new_sessions t config hs js ts is = record {
  rise = omega arith;
  few = omega arith;
  most = omega arith;
  ours = tt;
  turns = subst (λ l. TurnsFit config l) (sym is) (first_turns_fit config);
}

-- ---- a session more

rise_more : (k m : ℕ) (ss : List SessionNow) (a : SessionNow) → a.number.0 ≡ m + 1 → NumbersRise k ss m → NumbersRise k (ss ++ a ∷ []) (m + 1)
rise_more k m [] a is r = (omega arith, omega arith)
rise_more k m (s ∷ rest) a is r = (r.0, rise_more s.number.0 m rest a is r.1)

each_more : (P : SessionNow → Type 0) (ss : List SessionNow) (a : SessionNow) → P a → Each P ss → Each P (ss ++ a ∷ [])
each_more P [] a p e = (p, tt)
each_more P (s ∷ rest) a p e = (e.0, each_more P rest a p e.1)

-- a session without a connection changes nothing in what is held
held_more : (ss : List SessionNow) (a : SessionNow) (n i : ℕ) → a.conn ≡ None → held_of (session_of (ss ++ a ∷ []) n) i ≡ held_of (session_of ss n) i
held_more [] a n i none = dite (ℕ_discrete a.number.0 n)
    (λ (is : a.number.0 ≡ n). ap (λ (o : Option SessionNow). held_of o i) (session_here a [] n is) ∙ ap (λ (c : Option Holding). conn_at c i) none)
    (λ ne. ap (λ (o : Option SessionNow). held_of o i) (session_past a [] n ne))
held_more (s ∷ rest) a n i none = dite (ℕ_discrete s.number.0 n)
    (λ (is : s.number.0 ≡ n). ap (λ (o : Option SessionNow). held_of o i) (session_here s (rest ++ a ∷ []) n is ∙ sym (session_here s rest n is)))
    (λ ne.
    ap (λ (o : Option SessionNow). held_of o i) (session_past s (rest ++ a ∷ []) n ne)
    ∙ (held_more rest a n i none ∙ ap (λ (o : Option SessionNow). held_of o i) (sym (session_past s rest n ne))))

some_at : {A : Type 0} (xs : List A) (i : ℕ) → i < length xs → (x : A) × (slice_get xs i ≡ Some x)
some_at [] i low = absurd (omega (arith, low))
some_at (x ∷ xs) zero low = (x, refl)
some_at (x ∷ xs) (suc i) low = some_at xs i (omega (arith, low))

-- a new session goes to the backend of its frontend
new_routed : (threads : ℕ) (config : Meaning) (t : ThreadNo) (n : SessionNo) (front now : ℕ) (client : LinkState) → IsWithin threads config.fronts config.backs → front < length config.fronts
    → IsRouted config (admitted t n front now client)
new_routed threads config t n front now client within low =
    let f = some_at config.fronts front low in
    let b = back_there config.fronts config.backs front f.0 within.served f.1 in
    record { front = f.0; front_is = f.1; back = b.0; back_is = b.1; goes = record { to_conn = tt; to_chosen = tt } }

-- what the worker is behind an admission
module _ (threads : ℕ) (w : WorkerNow) (client : LinkState) (front : ℕ) (now : Millis) (n : SessionNo) (fresh : IsAdmissible w client front) (number : n.0 ≡ w.last + 1) where
  pub admit_sessions : IsWithin threads w.config.fronts w.config.backs → length w.sessions < 1024 → w.last < last_number → HasSessions w
      → HasSessions (worker_now w.thread w.config w.seats w.journals w.turns (w.last + 1) (w.sessions ++ admitted w.thread n front now.0 client ∷ []))
  admit_sessions within room left has =
      let a : SessionNow = admitted w.thread n front now.0 client in
      let size = length-append w.sessions (a ∷ []) in record {
        rise = rise_more 0 w.last w.sessions a number has.rise;
        few = omega arith;
        most = omega arith;
        ours = each_more (IsOurs w.thread w.config) w.sessions a (record {
          its = refl;
          going = record {
            going = refl;
            routed = new_routed threads w.config w.thread n front now.0 client within fresh.is_front;
            never = tt;
            loops = record { client = fresh.loop; conn = tt };
          };
        }) has.ours;
        turns = has.turns;
      }

  pub admit_seats : HasSeats w → HasSeats (worker_now w.thread w.config w.seats w.journals w.turns (w.last + 1) (w.sessions ++ admitted w.thread n front now.0 client ∷ []))
  admit_seats seats = record {
    serve = seats.serve;
    owns = λ i h m e. subst (λ (c : Option Holding). HasJust h m c) (sym (held_more w.sessions (admitted w.thread n front now.0 client) m.0 i refl)) (seats.owns i h m e);
    one = seats.one;
  }
