-- The sixteen limits keep the next number small.
use Rattle.std.proofs.Common.{◌≡◌, ◌≢◌, ℕ, zero, suc, ◌+◌, ◌*◌, ◌<◌, ◌≤◌, Bool, cond, List, [], ◌∷◌, refl, sym, ap, ◌∙◌, arith, eq-eqb, ne_eqb}
use mathlib.Core.Logic.{dite}
use native.Mathlib.Decide.{ℕ_discrete}
use Rattle.hx_base.specs.declared.numbers.ThreadNo.{ThreadNo}
use Rattle.hx_pool.specs.declared.board.BoardTerms.{BoardTerms}
use Rattle.hx_pool.specs.declared.entries.Note.{Note}
use Rattle.hx_pool.specs.History.{thread_of, own_of, opens_of}
use Rattle.hx_pool.specs.SeatView.{AllBelow}
use Rattle.hx_pool.specs.Opening.{open_limit}
use Rattle.hx_pool.proofs.Histories.{opens_of-append}
use Rattle.hx_resting.specs.Rows.{Rested, Known, Stands}

abbrev thread_at : ℕ → ThreadNo
thread_at k = record { 0 = k }

-- what the first threads opened
sum_opens : ℕ → List Note → ℕ
sum_opens zero H = 0
sum_opens (suc k) H = sum_opens k H + opens_of (own_of (thread_at k) H)

sum_nil : (k : ℕ) → sum_opens k [] ≡ 0
unfolding sum_opens
sum_nil zero = refl
sum_nil (suc k) = let r = sum_nil k in omega arith

opens_one : (x : Note) (H : List Note) → opens_of (x ∷ H) ≡ opens_of (x ∷ []) + opens_of H
opens_one x H = opens_of-append (x ∷ []) H

own_here : (x : Note) (H : List Note) (u : ThreadNo) → (thread_of x.entry).0 ≡ u.0 → opens_of (own_of u (x ∷ H)) ≡ opens_of (x ∷ []) + opens_of (own_of u H)
own_here x H u e = ap (λ (b : Bool). opens_of (cond b (x ∷ own_of u H) (own_of u H))) (eq-eqb (thread_of x.entry).0 u.0 e) ∙ opens_one x (own_of u H)

own_apart : (x : Note) (H : List Note) (u : ThreadNo) → (thread_of x.entry).0 ≢ u.0 → opens_of (own_of u (x ∷ H)) ≡ opens_of (own_of u H)
own_apart x H u ne = ap (λ (b : Bool). opens_of (cond b (x ∷ own_of u H) (own_of u H))) (ne_eqb (thread_of x.entry).0 u.0 ne)

sum_far : (k : ℕ) (x : Note) (H : List Note) → k ≤ (thread_of x.entry).0 → sum_opens k (x ∷ H) ≡ sum_opens k H
unfolding sum_opens
sum_far zero x H far = refl
sum_far (suc k) x H far = let r = sum_far k x H (omega arith) in let o = own_apart x H (thread_at k) (λ e. omega arith) in omega arith

sum_near : (k : ℕ) (x : Note) (H : List Note) → (thread_of x.entry).0 < k → sum_opens k (x ∷ H) ≡ opens_of (x ∷ []) + sum_opens k H
unfolding sum_opens
sum_near zero x H near = absurd (omega arith)
sum_near (suc k) x H near = dite (ℕ_discrete (thread_of x.entry).0 k)
    (λ e. let r = sum_far k x H (omega arith) in let o = own_here x H (thread_at k) e in omega arith)
    (λ ne. let r = sum_near k x H (omega arith) in let o = own_apart x H (thread_at k) ne in omega arith)

opens_are : (k : ℕ) (H : List Note) → AllBelow k H → opens_of H ≡ sum_opens k H
opens_are k [] low = let z = sum_nil k in sym z
opens_are k (x ∷ H) low = let r = opens_are k H low.1 in let o = opens_one x H in let s = sum_near k x H low.0 in omega arith

limit_low : (t : ThreadNo) → open_limit t ≤ 68719476736
limit_low t = dite (ℕ_discrete t.0 15)
    (λ e. let l : open_limit t ≡ 68719476735 = ap (λ (b : Bool). let r : ℕ = cond b 68719476735 68719476736 in r) (eq-eqb t.0 15 e) in omega arith)
    (λ ne. let l : open_limit t ≡ 68719476736 = ap (λ (b : Bool). let r : ℕ = cond b 68719476735 68719476736 in r) (ne_eqb t.0 15 ne) in omega arith)

sum_low : (k : ℕ) (H : List Note) → ((t : ThreadNo) → opens_of (own_of t H) ≤ open_limit t) → sum_opens k H ≤ 68719476736 * k
unfolding sum_opens
sum_low zero H few = omega arith
sum_low (suc k) H few = let r = sum_low k H few in let f = few (thread_at k) in let l = limit_low (thread_at k) in omega arith

pub next_small : (b : BoardTerms) (H : List Note) (k : Known) (rests : List Rested) → Stands b H k rests → b.threads ≤ 16 → k.next ≤ 1099511627777
next_small b H k rests s few = let a = opens_are b.threads H s.right.threads in let l = sum_low b.threads H s.few in let o = s.opened in omega arith
