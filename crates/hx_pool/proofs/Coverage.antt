-- The order of a thread's places comes to every place, and what a purge that ended has done.
use Rattle.std.proofs.Common.{◌≡◌, ℕ, ◌+◌, ◌-◌, ◌*◌, ◌/◌, ◌%◌, ◌<◌, ◌≤◌, List, ◌++◌, ap, ◌∙◌, subst, arith, inl, inr, ◌⊎◌, ⊎_elim}
use Rattle.std.proofs.Math.Nat.{mod-eq_of_lt, add-mod_right}
use Rattle.hx_base.specs.declared.numbers.ThreadNo.{ThreadNo}
use Rattle.hx_pool.specs.declared.budget.Quota.{Quota}
use Rattle.hx_pool.specs.declared.entries.Note.{Note}
use Rattle.hx_pool.specs.SeatView.{About, History}
use Rattle.hx_pool.specs.Causes.{IsCovered, AllCovered, place_of, nth_place}
use Rattle.hx_pool.specs.History.{takes_of}
use Rattle.hx_pool.specs.Purge.{quota_of, PurgesNone, IsUnderQuota, UsesQuota}
use Rattle.hx_pool.proofs.Purges.{purge_stays, le_cases}

-- the row that comes k rows after the thread's own
row_after : (t k threads row : ℕ) → (t + k ≡ row) ⊎ (t + k ≡ row + threads) → row < threads → (t + k) % threads ≡ row
row_after t k threads row e l = ⊎_elim
    (λ (a : t + k ≡ row). ap (λ x. x % threads) a ∙ mod-eq_of_lt l)
    (λ (b : t + k ≡ row + threads). ap (λ x. x % threads) b ∙ (add-mod_right row threads ∙ mod-eq_of_lt l)) e

-- every place of the board is one of the order
pub nth_onto : (t : ThreadNo) (threads row p : ℕ) → t.0 < threads → row < threads → p < 64
    → (i : ℕ) × (i < 64 * threads) × (nth_place t threads i ≡ place_of row p)
nth_onto t threads row p lt lr lp =
    let at : (k : ℕ) → (t.0 + k ≡ row) ⊎ (t.0 + k ≡ row + threads) → k < threads → (i : ℕ) × (i < 64 * threads) × (nth_place t threads i ≡ place_of row p) =
    λ k e low. let q : (64 * k + p) / 64 ≡ k = omega arith in let r : (64 * k + p) % 64 ≡ p = omega arith in
    (64 * k + p, omega arith, ap (λ x. place_of ((t.0 + x) % threads) ((64 * k + p) % 64)) q ∙ (ap (λ x. place_of ((t.0 + k) % threads) x) r ∙ ap (λ x. place_of x p) (row_after t.0 k threads row e lr))) in
    ⊎_elim (λ (h : t.0 ≤ row). at (row - t.0) (inl (omega arith)) (omega arith)) (λ (h : row < t.0). at (row + threads - t.0) (inr (omega arith)) (omega arith)) (le_cases t.0 row)

-- what covers the whole order covers the board
pub covered_all : (a : About) (es : List Note) → a.thread.0 < a.threads → ((i : ℕ) → i < 64 * a.threads → IsCovered a.thread es (nth_place a.thread a.threads i)) → AllCovered a es
covered_all a es lt c row p lr lp = let at = nth_onto a.thread a.threads row p lt lr lp in subst (IsCovered a.thread es) at.2 (c at.0 at.1)

-- the calls of a quota that came to None took as many as it says, or covered every place
pub quota_used : (old new : History) (q r : Quota) (c intervals : ℕ) (es added : List Note) → old.about.thread.0 < old.about.threads
    → new.mine ≡ old.mine ++ added → PurgesNone old new q r → IsUnderQuota old.about c intervals q es → UsesQuota old.about c intervals (es ++ added)
quota_used old new q r c intervals es added lt m p u =
    let w : IsUnderQuota old.about c intervals r (es ++ added) = purge_stays old new q r p c intervals es added m u in
    let sum = w.left in
    ⊎_elim
    (λ s. let z : r.left ≡ q.left = ap (λ (k : Quota). k.left) s.1 in let y = s.0 in inl (omega arith))
    (λ s. let seen = s.1.seen in
    let all : AllCovered old.about (es ++ added) = covered_all old.about (es ++ added) lt (λ i l. w.covered i (omega arith)) in
    ⊎_elim (λ (h : quota_of c intervals ≤ takes_of (es ++ added)). inl (omega arith)) (λ (h : takes_of (es ++ added) < quota_of c intervals). inr (h, all)) (le_cases (quota_of c intervals) (takes_of (es ++ added)))) p
