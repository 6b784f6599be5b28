-- Byte texts in their one spelling are read back.
use Rattle.std.proofs.Common.{◌≡◌, ℕ, ◌&&◌, List, [], ◌∷◌, ◌++◌, map, All, Some, None, Ok, Err, refl, sym, ap, ap₂, subst, ◌∙◌, arith, inl, inr}
use Rattle.std.specs.Prelude.{◌==◌, nat_le, not}
use Rattle.std.proofs.lemmas.Bool.{cases_Bool, cond-true, cond-false, eqb-true, and_parts, leb-true}
use Rattle.std.proofs.lemmas.List.Elements.{All-nil, All-cons, All-head, All-tail}
use Rattle.hx_script.specs.Numbers.{IsByte}
use Rattle.hx_script_parts.specs.ByteText.{Letter, plain, escape, cr, lf, hex, IsLetter, byte_of, quoted}
use Rattle.hx_script_parts.specs.QuotedReading.{quoted_at}
use Rattle.hx_script_parts.proofs.ByteTextLemmas.{read_at_front, found_at_front, spelling_quotes}
use Rattle.hx_transcripts_parts.specs.declared.fault.Rule.TheVariants.{BadText}
use Rattle.hx_transcripts_parts.specs.Faults.{◌>>=◌, or_broken}
use Rattle.hx_transcripts_parts.specs.Lexical.{Rest, rest_text, behind_text, text_at}
use Rattle.hx_transcripts_parts.specs.ReadBack.{ReadsNext}
use Rattle.hx_transcripts_parts.specs.Spelling.{behind_front, spelled_at}
use Rattle.hx_transcripts_parts.proofs.WordLemmas.{ok_is, bind_ok, bind_is, there_is}
use Rattle.hx_transcripts_parts.proofs.FrontLemmas.{is_behind, stands_behind}

-- ---- the bytes of letters are bytes

letter_byte : (l : Letter) → IsLetter l → IsByte (byte_of l)
letter_byte (plain b) is =
    let a = and_parts (nat_le 32 b && nat_le b 126 && not (b == 34)) (not (b == 92)) is in
    let c = and_parts (nat_le 32 b && nat_le b 126) (not (b == 34)) a.0 in
    let d = and_parts (nat_le 32 b) (nat_le b 126) c.0 in
    let le = leb-true b 126 d.1 in
    omega (arith, le)
letter_byte (escape b) (inl is) = omega (arith, is)
letter_byte (escape b) (inr is) = omega (arith, is)
letter_byte cr is = omega arith
letter_byte lf is = omega arith
letter_byte (hex h l) is = let a = is.0 in let b = is.1 in omega (arith, a, b)

letter_bytes : (letters : List Letter) → All IsLetter letters → All IsByte (map byte_of letters)
letter_bytes [] each = All-nil IsByte
letter_bytes (l ∷ letters) each =
    All-cons IsByte (byte_of l) (map byte_of letters) (letter_byte l (All-head IsLetter l letters each)) (letter_bytes letters (All-tail IsLetter l letters each))

read_bytes : (text : List ℕ) (x : List ℕ × List ℕ) → quoted_at text ≡ Some x → All IsByte x.0
read_bytes text x is =
    let found = found_at_front text x.0 x.1 is in
    let quotes = found.1 in
    subst (All IsByte) (sym quotes.stands) (letter_bytes quotes.letters quotes.each)

-- ---- the byte text

spelled_sound : (text : List ℕ) (y : List ℕ × List ℕ) → spelled_at text ≡ Ok y → All IsByte y.0 × (text ≡ quoted y.0 ++ y.1)
spelled_sound text y is =
    let x = bind_ok (or_broken BadText (quoted_at text)) _ y is in
    let r = bind_ok (or_broken BadText (behind_front (quoted x.0.0) text)) _ y x.2 in
    let bytes = read_bytes text x.0 (there_is BadText (quoted_at text) x.0 x.1) in
    let stands = is_behind (quoted x.0.0) text r.0 (there_is BadText (behind_front (quoted x.0.0) text) r.0 r.1) in
    subst (λ (z : List ℕ × List ℕ). All IsByte z.0 × (text ≡ quoted z.0 ++ z.1)) (ok_is (x.0.0, r.0) y r.2) (bytes, stands)

spelled_whole : (bytes rest : List ℕ) → All IsByte bytes → spelled_at (quoted bytes ++ rest) ≡ Ok (bytes, rest)
spelled_whole bytes rest each =
    let text = quoted bytes ++ rest in
    let read : quoted_at text ≡ Some (bytes, rest) = read_at_front text bytes rest (quoted bytes, spelling_quotes bytes each, refl) in
    bind_is (λ (x : List ℕ × List ℕ). or_broken BadText (behind_front (quoted x.0) text) >>= λ r. Ok (x.0, r)) (ap (or_broken BadText) read)
    ∙ bind_is (λ (r : List ℕ). Ok (bytes, r)) (ap (or_broken BadText) (stands_behind (quoted bytes) rest))

behind_sound : (bytes text : List ℕ) (y : List ℕ × Rest) → behind_text bytes text ≡ Ok y → (bytes ≡ y.0) × (text ≡ rest_text y.1)
behind_sound bytes [] y is = let e = ok_is (bytes, None) y is in (ap (λ (z : List ℕ × Rest). z.0) e, ap (λ (z : List ℕ × Rest). rest_text z.1) e)
behind_sound bytes (b ∷ text) y is = elim (cases_Bool (b == 32)) [
  | inl blank ↦
      let e = ok_is (bytes, Some text) y (sym (cond-true (b == 32) _ _ blank) ∙ is) in
      (ap (λ (z : List ℕ × Rest). z.0) e, ap (λ (c : ℕ). c ∷ text) (eqb-true b 32 blank) ∙ ap (λ (z : List ℕ × Rest). rest_text z.1) e)
  | inr other ↦ absurd (let e = sym (cond-false (b == 32) (Ok (bytes, Some text)) (Err BadText) other) ∙ is in cc)
]

behind_whole : (bytes : List ℕ) (rest : Rest) → behind_text bytes (rest_text rest) ≡ Ok (bytes, rest)
behind_whole bytes None = refl
behind_whole bytes (Some bs) = refl

text_sound : (ws : Rest) (y : List ℕ × Rest) → text_at ws ≡ Ok y → All IsByte y.0 × (rest_text ws ≡ 32 ∷ quoted y.0 ++ rest_text y.1)
text_sound None y is = cc
text_sound (Some bs) y is =
    let x = bind_ok (spelled_at bs) (λ (z : List ℕ × List ℕ). behind_text z.0 z.1) y is in
    let one = spelled_sound bs x.0 x.1 in
    let two = behind_sound x.0.0 x.0.1 y x.2 in
    (subst (All IsByte) two.0 one.0, ap (λ (t : List ℕ). 32 ∷ t) (one.1 ∙ ap₂ (λ (u v : List ℕ). quoted u ++ v) two.0 two.1))

pub texts_read : ReadsNext text_at quoted (All IsByte)
texts_read = record {
  sound = text_sound;
  whole = λ bytes rest each. (
    Some (quoted bytes ++ rest_text rest),
    refl,
    bind_is (λ (z : List ℕ × List ℕ). behind_text z.0 z.1) (spelled_whole bytes (rest_text rest) each) ∙ behind_whole bytes rest,
  );
}
