-- Numbers and words.
use Rattle.std.proofs.Common.{◌≡◌, ℕ, ◌≤◌, Bool, ◌<◌, ◌^◌, List, [], ◌∷◌, length, get_or, Result, Ok, Err, refl, sym, ◌∙◌, arith}
use Rattle.std.specs.Prelude.{decimal, string_bytes, String, ◌↔◌, IsTrue}
use Rattle.std.specs.Global.{Global}
use Rattle.std.specs.Str.Parse.{ParsesUnsigned}
use Rattle.std.proofs.lemmas.Fmt.{parse-decimal, decimal_injective}
use Rattle.hx_replay.specs.Commands.{words_of, IsNumberIn}

-- what was parsed is the number whose digits the text is
pub other_number : {E : Type 0} (text : List ℕ) (r : Result ℕ E) (n m : ℕ) → ParsesUnsigned 64 10 text r → r ≡ Ok n → m < 2 ^ 64 → text ≡ decimal m → n ≡ m
other_number text r n m parses is small e = let p = parse-decimal 64 m text r small small e parses in cc

pub no_number : {E : Type 0} (text : List ℕ) (r : Result ℕ E) (e : E) (m : ℕ) → ParsesUnsigned 64 10 text r → r ≡ Err e → m < 2 ^ 64 → text ≡ decimal m → ⊥
no_number text r d m parses is small e = let p = parse-decimal 64 m text r small small e parses in absurd cc

pub one_word : (ws : List (String Global)) (d : String Global) → length ws ≡ 1 → words_of ws ≡ string_bytes (get_or ws 0 d) ∷ []
one_word [] d e = absurd (omega (arith, e))
one_word (w ∷ []) d e = refl
one_word (w ∷ v ∷ ws) d e = absurd (omega (arith, e))

pub four_words : (ws : List (String Global)) (d e f g : String Global) → length ws ≡ 4
    → words_of ws ≡ string_bytes (get_or ws 0 d) ∷ string_bytes (get_or ws 1 e) ∷ string_bytes (get_or ws 2 f) ∷ string_bytes (get_or ws 3 g) ∷ []
four_words [] d e f g k = absurd (omega (arith, k))
four_words (w ∷ []) d e f g k = absurd (omega (arith, k))
four_words (w ∷ v ∷ []) d e f g k = absurd (omega (arith, k))
four_words (w ∷ v ∷ u ∷ []) d e f g k = absurd (omega (arith, k))
four_words (w ∷ v ∷ u ∷ t ∷ []) d e f g k = refl
four_words (w ∷ v ∷ u ∷ t ∷ s ∷ ws) d e f g k = absurd (omega (arith, k))

-- the number of the text is in the range exactly where some number of the range is
pub number_in : (text : List ℕ) (n low high : ℕ) (b : Bool) → text ≡ decimal n → n < 2 ^ 64 → high < 2 ^ 64
    → (IsTrue b ↔ ((low ≤ n) × (n ≤ high))) → (IsTrue b ↔ IsNumberIn low high text)
number_in text n low high b is small top test = (
  (λ yes'. let r = test.0 yes' in (n, r.0, r.1, is)),
  (λ (m, lo, hi, e). let same : n ≡ m = decimal_injective n m small (omega arith) (sym is ∙ e) in test.1 (omega arith, omega arith)),
)
