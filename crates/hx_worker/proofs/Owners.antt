-- One session's call leaves what the seats hold for every other number.
use Rattle.std.proofs.Common.{◌≡◌, ◌≢◌, ℕ, zero, suc, ◌+◌, ◌≤◌, Bool, true, false, List, [], ◌∷◌, length, refl, sym, ap, ◌∙◌, subst, arith, Option, Some, None, length-append}
use Rattle.std.specs.Prelude.{slice_get, if◌then◌else◌, ◌==◌}
use mathlib.Core.Logic.{dite}
use native.Mathlib.Decide.{ℕ_discrete}
use Rattle.hx_base.specs.declared.numbers.ConnId.{ConnId}
use Rattle.hx_base.specs.declared.numbers.SessionNo.{SessionNo}
use Rattle.hx_base.specs.declared.numbers.ThreadNo.{ThreadNo}
use Rattle.hx_base.specs.declared.rules.Mode.TheVariants.{Never}
use Rattle.hx_config.specs.declared.parts.Server.{Server}
use Rattle.hx_pool.specs.declared.entries.Entry.{Entry}
use Rattle.hx_pool.specs.declared.entries.Entry.TheVariants.{Open, Park, Take, Free, Close, Look, Up, Down, Count, Gate, SetGate, Round}
use Rattle.hx_pool.specs.declared.entries.Note.{Note}
use Rattle.hx_pool.specs.Held.{IsApart, AllApart}
use Rattle.hx_pool.specs.SeatView.{About, History, Makes, StandsInOneHistory}
use Rattle.hx_pool.proofs.HeldCalls.{held_apart}
use Rattle.hx_connecting.specs.Holds.{HasJust, conn_at, HoldsConn}
use Rattle.hx_connecting.specs.Sessions.{SessionNow, Holding}
use Rattle.hx_connecting.specs.Touches.{Came, Went, Touch, Had, Opened, Took, Stays, Rests, Ends, EndsTakenBack, IsOf, AllOf, AddsEach, HasMarks, came_marks, went_marks, touch_marks, marks_at, most_marks}
use Rattle.hx_connecting.proofs.AroundLemmas.{holds_here}
use Rattle.hx_session.specs.Fits.{SeatsServe}
use Rattle.hx_worker.specs.Workers.{Each, session_of, held_of, OwnsAll}
use Rattle.hx_worker.specs.Steps.{HasFewMarks}
use Rattle.hx_worker.proofs.Items.{number_is}

of_apart : (m n : SessionNo) (e : Entry) → (m.0 ≡ n.0 → ⊥) → IsOf m e → IsApart n e
of_apart m n (Open t k id) ne is = λ c. ne (sym (ap (λ (x : SessionNo). x.0) is) ∙ c)
of_apart m n (Park t k id place uses) ne is = λ c. ne (sym (ap (λ (x : SessionNo). x.0) is) ∙ c)
of_apart m n (Take t k first place id uses) ne is = λ c. ne (sym (ap (λ (x : SessionNo). x.0) is) ∙ c)
of_apart m n (Close t k id) ne is = λ c. ne (sym (ap (λ (x : SessionNo). x.0) is) ∙ c)
of_apart m n (Free t place) ne is = tt
of_apart m n (Look t place found) ne is = tt
of_apart m n (Up t old) ne is = tt
of_apart m n (Down t old) ne is = tt
of_apart m n (Count t c) ne is = tt
of_apart m n (Gate t draining) ne is = tt
of_apart m n (SetGate t draining) ne is = absurd is
of_apart m n (Round t k old) ne is = absurd is

-- one session's entries are none of another's
all_apart : (m n : SessionNo) (es : List Note) → (m.0 ≡ n.0 → ⊥) → AllOf m es → AllApart n es
all_apart m n [] ne a = tt
all_apart m n (x ∷ xs) ne a = (of_apart m n x.entry ne a.0, all_apart m n xs ne a.1)

-- what a seat holds for a number stays, where nothing was added in its name
just_stays : (old new : History) (n : SessionNo) (o : Option Holding) (es : List Note) → Makes old new es → AllApart n es → HasJust old n o → HasJust new n o
just_stays old new n None es m a j = held_apart old new n es m a ∙ j
just_stays old new n (Some c) es m a j = (
  j.0,
  held_apart old new n es m a ∙ j.1,
  λ shares. j.2 (subst (λ (b : About). b.rules.mode ≢ Never) m.about shares),
)

at_zero : (i : ℕ) → i ≡ i + 0
at_zero i = omega arith

from_zero : (i : ℕ) → 0 + i ≡ i
from_zero i = omega arith

at_next : (i k : ℕ) → (i + 1) + k ≡ i + suc k
at_next i k = omega arith

-- a seat after a call, that before it, and the entries in between
adds_at : (P : ℕ → List Note → Type 0) (i : ℕ) (old new : List History) (added : List (List Note)) (k : ℕ) (h : History) → AddsEach P i old new added → slice_get new k ≡ Some h
    → (g : History) × (es : List Note) × (slice_get old k ≡ Some g) × Makes g h es × P (i + k) es
adds_at P i [] [] [] k h a e = cc
adds_at P i [] [] (x ∷ added) k h a e = absurd a
adds_at P i [] (y ∷ new) added k h a e = absurd a
adds_at P i (x ∷ old) [] added k h a e = absurd a
adds_at P i (x ∷ old) (y ∷ new) [] k h a e = absurd a
adds_at P i (x ∷ old) (y ∷ new) (es ∷ added) zero h a e = let is : y ≡ h = cc in (x, es, refl, subst (λ (z : History). Makes x z es) is a.0, subst (λ n. P n es) (at_zero i) a.1)
adds_at P i (x ∷ old) (y ∷ new) (es ∷ added) (suc k) h a e =
    let r = adds_at P (i + 1) old new added k h a.2 e in (r.0, r.1, r.2, r.3, subst (λ n. P n r.1) (at_next i k) r.4)

-- the seats hold for a session what it has, where they hold for each what it has
pub owns_holds : (t : ThreadNo) (s : SessionNow) (i : ℕ) (seats : List History) (servers : List Server) → s.worker ≡ t → SeatsServe t seats servers → Each StandsInOneHistory seats
    → ((k : ℕ) (h : History) → slice_get seats k ≡ Some h → HasJust h s.number (conn_at s.conn (i + k))) → HoldsConn s.worker s.number s.conn i seats
owns_holds t s i [] servers w v one o = tt
owns_holds t s i (h ∷ seats) [] w v one o = absurd v
owns_holds t s i (h ∷ seats) (x ∷ servers) w v one o = (
  v.0 ∙ sym w,
  one.0,
  subst (λ n. HasJust h s.number (conn_at s.conn n)) (sym (at_zero i)) (o 0 h refl),
  owns_holds t s (i + 1) seats servers w v.3 one.1 (λ k g e. subst (λ n. HasJust g s.number (conn_at s.conn n)) (sym (at_next i k)) (o (suc k) g e)),
)

-- behind a call of session n, which then has c, the seats hold for each session what it has
pub owns_after : (P : ℕ → List Note → Type 0) (old new : List History) (added : List (List Note)) (ss ss' : List SessionNow) (t : ThreadNo) (n : SessionNo) (c : Option Holding)
    → ((i : ℕ) (es : List Note) → P i es → AllOf n es) → AddsEach P 0 old new added → HoldsConn t n c 0 new
    → ((k : ℕ) → (n.0 ≡ k → ⊥) → session_of ss' k ≡ session_of ss k) → ((i : ℕ) → held_of (session_of ss' n.0) i ≡ conn_at c i)
    → OwnsAll old ss → OwnsAll new ss'
owns_after P old new added ss ss' t n c own adds holds others mine o i h m e =
    dite (ℕ_discrete n.0 m.0)
    (λ (is : n.0 ≡ m.0).
    let just : HasJust h n (conn_at c i) = subst (λ j. HasJust h n (conn_at c j)) (from_zero i) (holds_here t n c 0 i new h e holds).2 in
    subst (λ (x : SessionNo). HasJust h x (held_of (session_of ss' x.0) i)) (number_is n m is)
    (subst (λ (x : Option Holding). HasJust h n x) (sym (mine i)) just))
    (λ ne.
    let was = adds_at P 0 old new added i h adds e in
    subst (λ (x : Option SessionNow). HasJust h m (held_of x i)) (sym (others m.0 ne))
    (just_stays was.0 h m (held_of (session_of ss m.0) i) was.1 was.3 (all_apart n m was.1 ne (own (0 + i) was.1 was.4)) (o i was.0 m was.2)))

pub one_after : (P : ℕ → List Note → Type 0) (i : ℕ) (old new : List History) (added : List (List Note)) → AddsEach P i old new added → Each StandsInOneHistory new
one_after P i [] [] [] a = tt
one_after P i [] [] (x ∷ added) a = absurd a
one_after P i [] (y ∷ new) added a = absurd a
one_after P i (x ∷ old) [] added a = absurd a
one_after P i (x ∷ old) (y ∷ new) [] a = absurd a
one_after P i (x ∷ old) (y ∷ new) (es ∷ added) a = (a.0.one, one_after P (i + 1) old new added a.2)

pub serve_after : (P : ℕ → List Note → Type 0) (i : ℕ) (t : ThreadNo) (old new : List History) (added : List (List Note)) (servers : List Server) → AddsEach P i old new added → SeatsServe t old servers → SeatsServe t new servers
serve_after P i t [] [] [] servers a v = v
serve_after P i t [] [] (x ∷ added) servers a v = absurd a
serve_after P i t [] (y ∷ new) added servers a v = absurd a
serve_after P i t (x ∷ old) [] added servers a v = absurd a
serve_after P i t (x ∷ old) (y ∷ new) [] servers a v = absurd a
serve_after P i t (x ∷ old) (y ∷ new) (es ∷ added) [] a v = absurd v
serve_after P i t (x ∷ old) (y ∷ new) (es ∷ added) (k ∷ servers) a v = (
  ap (λ (b : About). b.thread) a.0.about ∙ v.0,
  ap (λ (b : About). b.rules) a.0.about ∙ v.1,
  ap (λ (b : About). b.server) a.0.about ∙ v.2,
  serve_after P (i + 1) t old new added servers a.2 v.3,
)

-- ---- how many marks a call makes at a seat

came_few : (t : ThreadNo) (n : SessionNo) (first : Bool) (id : ConnId) (c : Came) → length (came_marks t n first id c) ≤ 1
came_few t n first id Had = omega arith
came_few t n first id Opened = omega arith
came_few t n first id (Took place uses) = omega arith

went_few : (t : ThreadNo) (n : SessionNo) (id : ConnId) (w : Went) → length (went_marks t n id w) ≤ 3
went_few t n id Stays = omega arith
went_few t n id (Rests place uses) = omega arith
went_few t n id Ends = omega arith
went_few t n id (EndsTakenBack place uses) = omega arith

touch_few : (t : ThreadNo) (n : SessionNo) (first : Bool) (x : Touch) → length (touch_marks t n first x) ≤ most_marks
touch_few t n first x =
    let size = length-append (came_marks t n first x.id x.came) (went_marks t n x.id x.went) in
    let came = came_few t n first x.id x.came in let went = went_few t n x.id x.went in omega arith

marks_few : (t : ThreadNo) (n : SessionNo) (first : Bool) (x : Option Touch) (i : ℕ) → length (marks_at t n first x i) ≤ most_marks
marks_few t n first None i = omega arith
marks_few t n first (Some x) i = by_test (x.server.0 == i)
  where
    by_test : (b : Bool) → length (if b then touch_marks t n first x else []) ≤ most_marks
    by_test true = touch_few t n first x
    by_test false = omega arith

pub few_marks : (t : ThreadNo) (n : SessionNo) (first : Bool) (x : Option Touch) (i : ℕ) (old new : List History) (added : List (List Note)) → AddsEach (HasMarks t n first x) i old new added → Each HasFewMarks added
few_marks t n first x i [] [] [] a = tt
few_marks t n first x i [] [] (e ∷ added) a = absurd a
few_marks t n first x i [] (y ∷ new) added a = absurd a
few_marks t n first x i (h ∷ old) [] added a = absurd a
few_marks t n first x i (h ∷ old) (y ∷ new) [] a = absurd a
few_marks t n first x i (h ∷ old) (y ∷ new) (es ∷ added) a =
    (subst (λ (l : List Entry). length l ≤ most_marks) (sym a.1.marks) (marks_few t n first x i), few_marks t n first x (i + 1) old new added a.2)
