-- Between calls the count of a board is what rests there, however many threads it has.
use Rattle.std.proofs.Common.{◌≡◌, ℕ, zero, suc, ◌+◌, ◌<◌, eqb, Bool, true, false, cond, List, [], ◌∷◌, refl, sym, ap, ◌∙◌, subst, arith, eq-eqb, ne_eqb}
use Rattle.std.specs.Prelude.{count_by, filter, nat_lt}
use Rattle.std.proofs.lemmas.Bool.{lt-ltb, le-ltb}
use Rattle.std.proofs.lemmas.List.Sums.{sum_by-append}
use native.Mathlib.Decide.{ℕ_discrete, dec_lt}
use mathlib.Core.Logic.{dite}
use Rattle.hx_base.specs.declared.numbers.ThreadNo.{ThreadNo}
use Rattle.hx_pool.specs.declared.entries.Note.{Note}
use Rattle.hx_pool.specs.Table.{empty_table}
use Rattle.hx_pool.specs.History.{thread_of, own_of, table_after, IsLegal, is_take, is_park, is_up, is_down, takes_of, IsEven}
use Rattle.hx_pool.specs.SeatView.{AllBelow}
use Rattle.hx_pool.proofs.Resting.{resting_counts}
use Rattle.hx_pool.proofs.Counting.{moves_along}

thread : ℕ → ThreadNo
thread k = record { 0 = k }

-- the entries of the first threads
abbrev lower : ℕ → List Note → List Note
lower k xs = filter (λ (x : Note). nat_lt (thread_of x.entry).0 k) xs

more_by : (P : Note → Bool) (k : ℕ) (x : Note) (A B C : List Note) (b c d : Bool) → b ≡ true → c ≡ true → d ≡ false → count_by P A ≡ count_by P B + count_by P C
    → count_by P (cond b (x ∷ A) A) ≡ count_by P (cond c (x ∷ B) B) + count_by P (cond d (x ∷ C) C)
more_by P k x A B C true true false p q r e =
    let u : count_by P (x ∷ A) ≡ count_by P (x ∷ []) + count_by P A = sum_by-append (λ (y : Note). cond (P y) 1 0) (x ∷ []) A in
    let v : count_by P (x ∷ B) ≡ count_by P (x ∷ []) + count_by P B = sum_by-append (λ (y : Note). cond (P y) 1 0) (x ∷ []) B in
    let g : count_by P (x ∷ A) ≡ count_by P (x ∷ B) + count_by P C = omega arith in g
more_by P k x A B C false c d p q r e = cc
more_by P k x A B C true false d p q r e = cc
more_by P k x A B C true true true p q r e = cc

here_by : (P : Note → Bool) (x : Note) (A B C : List Note) (b c d : Bool) → b ≡ true → c ≡ false → d ≡ true → count_by P A ≡ count_by P B + count_by P C
    → count_by P (cond b (x ∷ A) A) ≡ count_by P (cond c (x ∷ B) B) + count_by P (cond d (x ∷ C) C)
here_by P x A B C true false true p q r e =
    let u : count_by P (x ∷ A) ≡ count_by P (x ∷ []) + count_by P A = sum_by-append (λ (y : Note). cond (P y) 1 0) (x ∷ []) A in
    let v : count_by P (x ∷ C) ≡ count_by P (x ∷ []) + count_by P C = sum_by-append (λ (y : Note). cond (P y) 1 0) (x ∷ []) C in
    let g : count_by P (x ∷ A) ≡ count_by P B + count_by P (x ∷ C) = omega arith in g
here_by P x A B C false c d p q r e = cc
here_by P x A B C true true d p q r e = cc
here_by P x A B C true false false p q r e = cc

past_by : (P : Note → Bool) (x : Note) (A B C : List Note) (b c d : Bool) → b ≡ false → c ≡ false → d ≡ false → count_by P A ≡ count_by P B + count_by P C
    → count_by P (cond b (x ∷ A) A) ≡ count_by P (cond c (x ∷ B) B) + count_by P (cond d (x ∷ C) C)
past_by P x A B C false false false p q r e = e
past_by P x A B C true c d p q r e = cc
past_by P x A B C false true d p q r e = cc
past_by P x A B C false false true p q r e = cc

split_by : (P : Note → Bool) (k : ℕ) (xs : List Note) → count_by P (lower (suc k) xs) ≡ count_by P (lower k xs) + count_by P (own_of (thread k) xs)
unfolding thread
split_by P k [] = refl
split_by P k (x ∷ xs) =
    let t = (thread_of x.entry).0 in
    let r = split_by P k xs in
    dite (dec_lt t k)
    (λ l. more_by P k x (lower (suc k) xs) (lower k xs) (own_of (thread k) xs) (nat_lt t (suc k)) (nat_lt t k) (eqb t k) (lt-ltb t (suc k) (omega arith)) (lt-ltb t k l) (ne_eqb t k (λ e. omega arith)) r)
    (λ n. dite (ℕ_discrete t k)
    (λ e. here_by P x (lower (suc k) xs) (lower k xs) (own_of (thread k) xs) (nat_lt t (suc k)) (nat_lt t k) (eqb t k) (lt-ltb t (suc k) (omega arith)) (le-ltb t k (omega arith)) (eq-eqb t k e) r)
    (λ ne. past_by P x (lower (suc k) xs) (lower k xs) (own_of (thread k) xs) (nat_lt t (suc k)) (nat_lt t k) (eqb t k) (le-ltb t (suc k) (omega arith)) (le-ltb t k (omega arith)) (ne_eqb t k ne) r))

lower_all : (k : ℕ) (xs : List Note) → AllBelow k xs → lower k xs ≡ xs
lower_all k [] a = refl
lower_all k (x ∷ xs) a = ap (λ b. cond b (x ∷ lower k xs) (lower k xs)) (lt-ltb (thread_of x.entry).0 k a.0) ∙ ap (λ l. x ∷ l) (lower_all k xs a.1)

lower_none : (xs : List Note) → lower zero xs ≡ []
lower_none [] = refl
lower_none (x ∷ xs) = ap (λ b. cond b (x ∷ lower zero xs) (lower zero xs)) (le-ltb (thread_of x.entry).0 zero (omega arith)) ∙ lower_none xs

even_lower : (k : ℕ) (H : List Note) → ((t : ThreadNo) → t.0 < k → IsEven (own_of t H)) → IsEven (lower k H)
unfolding thread
even_lower zero H a = subst IsEven (sym (lower_none H)) refl
even_lower (suc k) H a =
    let u = split_by is_up k H in
    let d = split_by is_down k H in
    let p = split_by is_park k H in
    let t = split_by is_take k H in
    let e : count_by is_up (lower k H) + takes_of (lower k H) ≡ count_by is_down (lower k H) + count_by is_park (lower k H) = even_lower k H (λ s low. a s (omega arith)) in
    let f : count_by is_up (own_of (thread k) H) + takes_of (own_of (thread k) H) ≡ count_by is_down (own_of (thread k) H) + count_by is_park (own_of (thread k) H) = a (thread k) (omega arith) in
    omega arith

-- where each thread's entries have a Park or a Down for each Up, and a Down for each Take, the count is what rests
pub counts_rest : (threads : ℕ) (H : List Note) → AllBelow threads H → IsLegal H → ((t : ThreadNo) → t.0 < threads → IsEven (own_of t H)) → (table_after H).count ≡ (table_after H).resting
counts_rest threads H low l each =
    let even : IsEven H = subst IsEven (lower_all threads H low) (even_lower threads H each) in
    let m = moves_along threads empty_table H low l (resting_counts threads [] tt tt) in
    let a = m.count in let b = m.resting in
    omega arith
