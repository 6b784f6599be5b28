-- The three seats of a board, as a test takes them.
use Rattle.std.proofs.Common.{◌≡◌, ℕ, zero, suc, ◌+◌, List, [], ◌∷◌, ◌++◌, length, length-append, slice_get, refl, ap, ◌∙◌, arith, Option, Some}
use Rattle.std.specs.Prelude.{option_to_list}

pub last_is : {A : Type 0} (xs ys : List A) (x : A) (n : ℕ) → xs ≡ ys ++ x ∷ [] → length xs ≡ n + 1 → (slice_get xs n ≡ Some x) × (length ys ≡ n)
last_is xs ys x n is long = let l : length ys ≡ n = (let a = ap length is in let b = length-append ys (x ∷ []) in omega arith) in (ap (λ l. slice_get l n) is ∙ at_end ys x n l, l)
  where
    at_end : {A : Type 0} (ys : List A) (x : A) (n : ℕ) → length ys ≡ n → slice_get (ys ++ x ∷ []) n ≡ Some x
    at_end [] x zero l = refl
    at_end [] x (suc n) l = absurd (omega arith)
    at_end (y ∷ ys) x zero l = absurd (omega arith)
    at_end (y ∷ ys) x (suc n) l = at_end ys x n (omega arith)

pub front_is : {A : Type 0} (ys zs : List A) (k : ℕ) (x : A) → slice_get ys k ≡ Some x → slice_get (ys ++ zs) k ≡ Some x
front_is [] zs k x e = absurd (cc)
front_is (y ∷ ys) zs zero x e = e
front_is (y ∷ ys) zs (suc k) x e = front_is ys zs k x e

-- the three elements that were popped of a list of three
pub three_of : {A : Type 0} (xs ys zs ws : List A) (oa ob oc : Option A) (a b c : A) → xs ≡ ys ++ option_to_list oc → oc ≡ Some c → ys ≡ zs ++ option_to_list ob → ob ≡ Some b → zs ≡ ws ++ option_to_list oa → oa ≡ Some a → length xs ≡ 3
    → (slice_get xs 0 ≡ Some a) × (slice_get xs 1 ≡ Some b) × (slice_get xs 2 ≡ Some c)
three_of xs ys zs ws oa ob oc a b c e f e' f' e'' f'' long =
    let one : xs ≡ ys ++ c ∷ [] = e ∙ ap (λ o. ys ++ option_to_list o) f in
    let two : ys ≡ zs ++ b ∷ [] = e' ∙ ap (λ o. zs ++ option_to_list o) f' in
    let three : zs ≡ ws ++ a ∷ [] = e'' ∙ ap (λ o. ws ++ option_to_list o) f'' in
    let last = last_is xs ys c 2 one long in
    let mid = last_is ys zs b 1 two last.1 in
    let first = last_is zs ws a 0 three mid.1 in (
      ap (λ l. slice_get l 0) one ∙ front_is ys (c ∷ []) 0 a (ap (λ l. slice_get l 0) two ∙ front_is zs (b ∷ []) 0 a first.0),
      ap (λ l. slice_get l 1) one ∙ front_is ys (c ∷ []) 1 b mid.0,
      last.0,
    )

-- the one element that was popped of a list of one
pub one_of : {A : Type 0} (xs ys : List A) (o : Option A) (a : A) → xs ≡ ys ++ option_to_list o → o ≡ Some a → length xs ≡ 1 → slice_get xs 0 ≡ Some a
one_of xs ys o a e f long = (last_is xs ys a 0 (e ∙ ap (λ o. ys ++ option_to_list o) f) long).0
