-- Beginnings of a text and then a rest.
use Rattle.std.proofs.Common.{◌≡◌, ◌⊎◌, ℕ, ◌-◌, ◌+◌, ◌<◌, ◌≤◌, List, [], ◌++◌, length, take, drop, sym, ap, ◌∙◌, inl, inr, arith, append_assoc, append-nil, length-append}
use Rattle.std.proofs.lemmas.List.{take-append-le, drop-append-le, take-append-drop, nil_from_length}
use Rattle.std.proofs.lemmas.Bool.{cases_lt}
use Rattle.std.proofs.Math.Seq.{take-append_seam, drop-append_seam, take-append-add}
use Rattle.hx_message.specs.Partial.{IsPrefix}

-- a beginning of the text begins it with a rest too
pub begins_more : (xs text rest : List ℕ) → IsPrefix xs text → IsPrefix xs (text ++ rest)
begins_more xs text rest (r, is) = (r ++ rest, ap (λ (t : List ℕ). t ++ rest) is ∙ append_assoc xs r rest)

-- what is no longer than the text begins the text
pub begins_within : (xs text rest : List ℕ) → length xs ≤ length text → IsPrefix xs (text ++ rest) → IsPrefix xs text
begins_within xs text rest short (r, is) =
    let n = length text - length xs in
    let size : length text ≡ length xs + n = omega (arith, short) in
    (take n r, sym (take-append_seam text rest) ∙ ap (take (length text)) is ∙ ap (λ (k : ℕ). take k (xs ++ r)) size ∙ take-append-add xs r n)

-- what is longer begins with the text, and goes on as the rest begins
pub begins_past : (xs text rest : List ℕ) → length text ≤ length xs → IsPrefix xs (text ++ rest)
    → (xs ≡ text ++ drop (length text) xs) × IsPrefix (drop (length text) xs) rest
begins_past xs text rest long (r, is) =
    let front : take (length text) xs ≡ text =
    sym (take-append-le (length text) xs r long) ∙ ap (take (length text)) (sym is) ∙ take-append_seam text rest in
    let back : rest ≡ drop (length text) xs ++ r =
    sym (drop-append_seam text rest) ∙ ap (drop (length text)) is ∙ drop-append-le (length text) xs r long in
    (sym (take-append-drop (length text) xs) ∙ ap (λ (t : List ℕ). t ++ drop (length text) xs) front, (r, back))

-- and so does what goes on so
pub begins_on : (xs text ys rest : List ℕ) → xs ≡ text ++ ys → IsPrefix ys rest → IsPrefix xs (text ++ rest)
begins_on xs text ys rest is (r, more) =
    (r, ap (λ (t : List ℕ). text ++ t) more ∙ sym (append_assoc text ys r) ∙ ap (λ (t : List ℕ). t ++ r) (sym is))

-- the bytes behind the text
pub behind_is : (xs text ys : List ℕ) → xs ≡ text ++ ys → drop (length text) xs ≡ ys
behind_is xs text ys is = ap (drop (length text)) is ∙ drop-append_seam text ys

-- a beginning that is as long as all is all
pub begins_all : (xs ys : List ℕ) → length xs ≡ length ys → IsPrefix xs ys → xs ≡ ys
begins_all xs ys same (r, is) =
    let none : r ≡ [] = nil_from_length r (omega (arith, same, ap length is, length-append xs r)) in
    sym (append-nil xs) ∙ ap (λ (t : List ℕ). xs ++ t) (sym none) ∙ sym is

-- all begins itself
pub all_begins : (xs ys : List ℕ) → xs ≡ ys → IsPrefix xs ys
all_begins xs ys is = ([], sym is ∙ sym (append-nil xs))

-- only nothing begins nothing
pub begins_nothing : (xs : List ℕ) → IsPrefix xs [] → xs ≡ []
begins_nothing xs (r, is) = nil_from_length xs (omega (arith, ap length is, length-append xs r))

-- a beginning of a text and a rest is one of the text, or the text and a beginning of the rest
pub begins_either : (xs text rest : List ℕ) → IsPrefix xs (text ++ rest)
    → IsPrefix xs text ⊎ ((xs ≡ text ++ drop (length text) xs) × IsPrefix (drop (length text) xs) rest)
begins_either xs text rest begins = by (cases_lt (length text) (length xs))
  where
    by : (length text < length xs) ⊎ (length xs ≤ length text)
        → IsPrefix xs text ⊎ ((xs ≡ text ++ drop (length text) xs) × IsPrefix (drop (length text) xs) rest)
    by (inl long) = inr (begins_past xs text rest (omega (arith, long)) begins)
    by (inr short) = inl (begins_within xs text rest short begins)

-- what begins with the text is the text and what is behind it
pub text_behind : (text xs : List ℕ) → IsPrefix text xs → xs ≡ text ++ drop (length text) xs
text_behind text xs (r, is) = is ∙ ap (λ (t : List ℕ). text ++ t) (sym (behind_is xs text r is))
