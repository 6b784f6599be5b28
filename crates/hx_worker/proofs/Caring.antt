-- What a worker keeps through the caretaker's work on all its servers.
use Rattle.std.proofs.Common.{◌≡◌, ◌≢◌, ℕ, zero, suc, ◌≤◌, List, [], ◌∷◌, length, map, refl, sym, ap, ◌∙◌, subst, arith, Option, Some, None}
use Rattle.std.specs.Prelude.{slice_get}
use Rattle.std.proofs.lemmas.List.{length-map}
use mathlib.Core.Logic.{dite}
use native.Mathlib.Decide.{ℕ_discrete}
use Rattle.hx_base.specs.declared.numbers.SessionNo.{SessionNo}
use Rattle.hx_base.specs.declared.numbers.ThreadNo.{ThreadNo}
use Rattle.hx_base.specs.declared.rules.Mode.TheVariants.{Never}
use Rattle.hx_config.specs.Limits.{all_servers}
use Rattle.hx_config.specs.Meaning.{Meaning}
use Rattle.hx_config.specs.declared.parts.Server.{Server}
use Rattle.hx_link.specs.Nets.{NetState}
use Rattle.hx_pool.specs.Causes.{caretaker}
use Rattle.hx_pool.specs.Held.{held_by}
use Rattle.hx_pool.specs.SeatView.{About, History, StandsInOneHistory}
use Rattle.hx_caretaker.specs.Caring.{CaresForAll}
use Rattle.hx_caretaker.specs.Owners.{HoldsOn, AllHoldOn}
use Rattle.hx_caretaker.specs.Sweeps.{Sweep, care_marks}
use Rattle.hx_connecting.specs.Holds.{HasJust}
use Rattle.hx_connecting.specs.Journals.{JournalRoom, JournalsStay}
use Rattle.hx_connecting.specs.Sessions.{SessionNow, Holding}
use Rattle.hx_session.specs.Fits.{SeatsServe}
use Rattle.hx_worker.specs.Workers.{worker_now, Each, OwnsAll, NumbersRise, held_of, session_of, HasSessions, HasSeats}
use Rattle.hx_worker.specs.Cares.{Cares}
use Rattle.hx_worker.proofs.ByNumber.{none_behind}
use Rattle.hx_worker.proofs.Items.{number_is}

hold_on_at : (old new : List History) (i : ℕ) (h : History) → AllHoldOn old new → slice_get new i ≡ Some h → (g : History) × (slice_get old i ≡ Some g) × HoldsOn g h
hold_on_at [] [] i h a e = cc
hold_on_at [] (k ∷ new) i h a e = absurd a
hold_on_at (g ∷ old) [] i h a e = absurd a
hold_on_at (g ∷ old) (k ∷ new) zero h a e = let is : k ≡ h = cc in (g, refl, subst (λ (x : History). HoldsOn g x) is a.0)
hold_on_at (g ∷ old) (k ∷ new) (suc i) h a e = hold_on_at old new i h a.1 e

just_on : (g h : History) (n : SessionNo) (o : Option Holding) → HoldsOn g h → held_by h.mine n ≡ held_by g.mine n → HasJust g n o → HasJust h n o
just_on g h n None s e j = e ∙ j
just_on g h n (Some c) s e j = (j.0, e ∙ j.1, λ shares. j.2 (subst (λ (b : About). b.rules.mode ≢ Never) s.about shares))

-- the seats hold for each number what they held, for the caretaker nothing
owns_cared : (old new : List History) (ss : List SessionNow) (m : ℕ) → NumbersRise 0 ss m → AllHoldOn old new → OwnsAll old ss → OwnsAll new ss
owns_cared old new ss m r a o i h n e =
    let was = hold_on_at old new i h a e in
    dite (ℕ_discrete n.0 0)
    (λ (is : n.0 ≡ 0).
    let none : session_of ss 0 ≡ None = none_behind 0 0 m ss (omega arith) r in
    let empty : HasJust was.0 caretaker (held_of (session_of ss 0) i) = subst (λ (k : SessionNo). HasJust was.0 k (held_of (session_of ss k.0) i)) (number_is n caretaker is) (o i was.0 n was.1) in
    let nothing : held_by was.0.mine caretaker ≡ [] = subst (λ (p : Option SessionNow). HasJust was.0 caretaker (held_of p i)) none empty in
    subst (λ (k : SessionNo). HasJust h k (held_of (session_of ss k.0) i)) (sym (number_is n caretaker is))
    (subst (λ (p : Option SessionNow). HasJust h caretaker (held_of p i)) (sym none) (was.2.lets_go nothing)))
    (λ ne. just_on was.0 h n (held_of (session_of ss n.0) i) was.2 (was.2.others n ne) (o i was.0 n was.1))

one_cared : (old new : List History) → AllHoldOn old new → Each StandsInOneHistory old → Each StandsInOneHistory new
one_cared [] [] a one = tt
one_cared [] (k ∷ new) a one = absurd a
one_cared (h ∷ old) [] a one = absurd a
one_cared (h ∷ old) (k ∷ new) a one = (a.0.one one.0, one_cared old new a.1 one.1)

serve_cared : (t : ThreadNo) (old new : List History) (servers : List Server) → AllHoldOn old new → SeatsServe t old servers → SeatsServe t new servers
serve_cared t [] [] servers a v = v
serve_cared t [] (k ∷ new) servers a v = absurd a
serve_cared t (h ∷ old) [] servers a v = absurd a
serve_cared t (h ∷ old) (k ∷ new) [] a v = absurd v
serve_cared t (h ∷ old) (k ∷ new) (x ∷ servers) a v = (
  ap (λ (b : About). b.thread) a.0.about ∙ v.0,
  ap (λ (b : About). b.rules) a.0.about ∙ v.1,
  ap (λ (b : About). b.server) a.0.about ∙ v.2,
  serve_cared t old new servers a.1 v.3,
)

served_count : (t : ThreadNo) (hs : List History) (servers : List Server) → SeatsServe t hs servers → length hs ≡ length servers
served_count t [] [] v = refl
served_count t [] (x ∷ servers) v = absurd v
served_count t (h ∷ hs) [] v = absurd v
served_count t (h ∷ hs) (x ∷ servers) v = ap suc (served_count t hs servers v.3)

-- there are as many seats as servers
pub seats_count : {S : Type 0} (h : S → History) (t : ThreadNo) (xs : List S) (servers : List Server) → SeatsServe t (map h xs) servers → length xs ≡ length servers
seats_count h t xs servers v = sym (length-map xs h) ∙ served_count t (map h xs) servers v

pub seats_few : {S : Type 0} (h : S → History) (t : ThreadNo) (xs : List S) (servers : List Server) → SeatsServe t (map h xs) servers → length servers ≤ 32 → length xs ≤ 32
seats_few h t xs servers v few = let count = seats_count h t xs servers v in omega arith

-- what the caretaker's work on the seats xs gives, which are ys behind it
pub record CaredAll {S : Type 0} (P : ℕ → History → History → Sweep → Type 0) (h : S → History) (f : S → JournalRoom) (xs ys : List S) (net net' : NetState) (count : ℕ) : Type 0 where
  pub cares : CaresForAll P (map h xs) (map h ys) net net' count
  pub holds : AllHoldOn (map h xs) (map h ys)
  pub journals : JournalsStay care_marks (map f xs) (map f ys)

-- the same of equal seats
pub cared_of : {S : Type 0} (P : ℕ → History → History → Sweep → Type 0) (h : S → History) (f : S → JournalRoom) (us xs vs ys : List S) (net net' : NetState) (count : ℕ) → us ≡ xs → vs ≡ ys
    → CaredAll P h f us vs net net' count → CaredAll P h f xs ys net net' count
cared_of {S} P h f us xs vs ys net net' count a b c =
    subst (λ (l : List S). CaredAll P h f l ys net net' count) a (subst (λ (l : List S). CaredAll P h f us l net net' count) b c)

module _ {S : Type 0} (P : ℕ → History → History → Sweep → Type 0) (h : S → History) (f : S → JournalRoom) (t : ThreadNo) (config : Meaning) (xs ys : List S) (ts : List ℕ) (last : ℕ) (ss : List SessionNow)
    (net net' : NetState) (count : ℕ) (c : CaredAll P h f xs ys net net' count) where
  pub cares_done : Cares P (worker_now t config (map h xs) (map f xs) ts last ss) (worker_now t config (map h ys) (map f ys) ts last ss) net net' count
  cares_done = record {
    stays = record { thread = refl; config = refl; last = refl };
    sessions = refl;
    turns = refl;
    cares = c.cares;
    journals = c.journals;
  }

  pub cares_seats : HasSessions (worker_now t config (map h xs) (map f xs) ts last ss) → HasSeats (worker_now t config (map h xs) (map f xs) ts last ss) → HasSeats (worker_now t config (map h ys) (map f ys) ts last ss)
  cares_seats has seats = record {
    serve = serve_cared t (map h xs) (map h ys) (all_servers config.backs) c.holds seats.serve;
    owns = owns_cared (map h xs) (map h ys) ss last has.rise c.holds seats.owns;
    one = one_cared (map h xs) (map h ys) c.holds seats.one;
  }

  -- the sessions are untouched
  pub cares_sessions : HasSessions (worker_now t config (map h xs) (map f xs) ts last ss) → HasSessions (worker_now t config (map h ys) (map f ys) ts last ss)
  cares_sessions has = record { rise = has.rise; few = has.few; most = has.most; ours = has.ours; turns = has.turns }
