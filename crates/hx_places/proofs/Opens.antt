-- The sixteen limits keep the next number small.
use Rattle.std.proofs.Common.{◌≡◌, ◌≢◌, ℕ, zero, suc, ◌+◌, ◌*◌, ◌<◌, ◌≤◌, Bool, cond, List, [], ◌∷◌, refl, sym, ap}
use Rattle.std.proofs.Common.{◌∙◌, subst, arith, eq-eqb, ne_eqb}
use mathlib.Core.Logic.{dite}
use native.Mathlib.Decide.{ℕ_discrete}
use Rattle.hx_base.specs.declared.numbers.ThreadNo.{ThreadNo}
use Rattle.hx_pool.specs.declared.board.BoardTerms.{BoardTerms}
use Rattle.hx_pool.specs.declared.entries.Note.{Note}
use Rattle.hx_pool.specs.History.{thread_of, own_of, opens_of, table_after}
use Rattle.hx_pool.specs.SeatView.{AllBelow}
use Rattle.hx_pool.specs.Opening.{open_limit}
use Rattle.hx_pool.proofs.Histories.{opens_of-append}
use Rattle.hx_places.specs.Sums.{thread_at, sum_below}
use Rattle.hx_places.specs.Right.{IsRight}

-- what the first threads opened
abbrev opens_by : List Note → ℕ → ℕ
opens_by H t = opens_of (own_of (thread_at t) H)

sum_nil : (k : ℕ) → sum_below k (opens_by []) ≡ 0
sum_nil zero = refl
sum_nil (suc k) = let r = sum_nil k in omega arith

opens_one : (x : Note) (H : List Note) → opens_of (x ∷ H) ≡ opens_of (x ∷ []) + opens_of H
opens_one x H = opens_of-append (x ∷ []) H

own_here : (x : Note) (H : List Note) (u : ThreadNo) → (thread_of x.entry).0 ≡ u.0
    → opens_of (own_of u (x ∷ H)) ≡ opens_of (x ∷ []) + opens_of (own_of u H)
own_here x H u e =
    ap (λ (b : Bool). opens_of (cond b (x ∷ own_of u H) (own_of u H))) (eq-eqb (thread_of x.entry).0 u.0 e)
    ∙ opens_one x (own_of u H)

own_apart : (x : Note) (H : List Note) (u : ThreadNo) → (thread_of x.entry).0 ≢ u.0
    → opens_of (own_of u (x ∷ H)) ≡ opens_of (own_of u H)
own_apart x H u ne =
    ap (λ (b : Bool). opens_of (cond b (x ∷ own_of u H) (own_of u H))) (ne_eqb (thread_of x.entry).0 u.0 ne)

sum_far : (k : ℕ) (x : Note) (H : List Note) → k ≤ (thread_of x.entry).0
    → sum_below k (opens_by (x ∷ H)) ≡ sum_below k (opens_by H)
sum_far zero x H far = refl
sum_far (suc k) x H far = let r = sum_far k x H (omega arith) in let o =
    own_apart x H (thread_at k) (λ e. omega arith) in omega arith

sum_near : (k : ℕ) (x : Note) (H : List Note) → (thread_of x.entry).0 < k
    → sum_below k (opens_by (x ∷ H)) ≡ opens_of (x ∷ []) + sum_below k (opens_by H)
sum_near zero x H near = absurd (omega arith)
sum_near (suc k) x H near = dite (ℕ_discrete (thread_of x.entry).0 k)
    (λ e. let r = sum_far k x H (omega arith) in let o = own_here x H (thread_at k) e in omega arith)
    (λ ne. let r = sum_near k x H (omega arith) in let o = own_apart x H (thread_at k) ne in omega arith)

opens_are : (k : ℕ) (H : List Note) → AllBelow k H → opens_of H ≡ sum_below k (opens_by H)
opens_are k [] low = let z = sum_nil k in sym z
opens_are k (x ∷ H) low = let r = opens_are k H low.1 in let o = opens_one x H in let s = sum_near k x H low.0 in
    omega arith

limit_last : (t : ThreadNo) → t.0 ≡ 15 → open_limit t ≡ 68719476735
limit_last t e = ap (λ (b : Bool). let r : ℕ = cond b 68719476735 68719476736 in r) (eq-eqb t.0 15 e)

limit_low : (t : ThreadNo) → open_limit t ≤ 68719476736
limit_low t = dite (ℕ_discrete t.0 15)
    (λ e. let l = limit_last t e in omega arith)
    (λ ne. let l : open_limit t ≡ 68719476736 =
    ap (λ (b : Bool). let r : ℕ = cond b 68719476735 68719476736 in r) (ne_eqb t.0 15 ne) in omega arith)

sum_low : (k : ℕ) (H : List Note) → ((t : ThreadNo) → opens_of (own_of t H) ≤ open_limit t)
    → sum_below k (opens_by H) ≤ 68719476736 * k
sum_low zero H few = omega arith
sum_low (suc k) H few = let r = sum_low k H few in let f = few (thread_at k) in let l = limit_low (thread_at k) in
    omega arith

pub next_small : (b : BoardTerms) (H : List Note) → IsRight b H → b.threads ≤ 16 → (table_after H).next ≤ 1099511627776
next_small b H right few = let a = opens_are b.threads H right.threads in let o = right.opened in
    dite (ℕ_discrete b.threads 16)
    (λ e. let a' : opens_of H ≡ sum_below 16 (opens_by H) =
    subst (λ (k : ℕ). opens_of H ≡ sum_below k (opens_by H)) e a in
    let l = sum_low 15 H right.few in let f = right.few (thread_at 15) in let m = limit_last (thread_at 15) refl in
    omega arith)
    (λ ne. let l = sum_low b.threads H right.few in omega arith)
