-- Fields that were read come back from the lines that go out.
use Rattle.std.proofs.Common.{◌≡◌, ℕ, List, [], ◌∷◌, ◌++◌, map, reverse, All, Bool, true, false, refl, sym, ap, ap₂, subst, ◌∙◌, IsTrue}
use Rattle.std.specs.List.{flat_map}
use Rattle.std.proofs.lemmas.List.{reverse-append, reverse-reverse}
use Rattle.std.proofs.lemmas.List.Elements.{All-head, All-tail, All-map, All-cons, All-weaker}
use Rattle.std.proofs.lemmas.List.Folds.{flat_map-map}
use Rattle.httparse.specs.Ascii.{space}
use Rattle.httparse.specs.Grammar.{AllPass, is_ows, is_value_byte, skip_ows, trim_ows, IsToken, Field, IsField, crlf, print_field}
use Rattle.httparse.specs.Spans.{name_and_value}
use Rattle.httparse.proofs.TrimLemmas.{skip_ows_yes, skip_ows_no, AllPass-trim_ows, trim_ows_space}
use Rattle.hx_message.specs.Fields.{NameAndValue, read_fields}
use Rattle.hx_message.specs.Forwarded.{field_line}

-- ---- values without white space at their ends

skip_blank : (b : ℕ) (bs : List ℕ) → is_ows b ≡ true → skip_ows (b ∷ bs) ≡ skip_ows bs
skip_blank b bs ows = skip_ows_yes {b = b} {all = b ∷ bs} {rest = bs} refl (sym ows)

skip_other : (b : ℕ) (bs : List ℕ) → is_ows b ≡ false → skip_ows (b ∷ bs) ≡ b ∷ bs
skip_other b bs other = skip_ows_no {b = b} {all = b ∷ bs} {rest = bs} refl (sym other)

skip_twice : (xs : List ℕ) → skip_ows (skip_ows xs) ≡ skip_ows xs
skip_twice [] = refl
skip_twice (b ∷ bs) = by_test (is_ows b) refl (skip_twice bs)
  where
    by_test : (t : Bool) → is_ows b ≡ t → skip_ows (skip_ows bs) ≡ skip_ows bs → skip_ows (skip_ows (b ∷ bs)) ≡ skip_ows (b ∷ bs)
    by_test true ows later = let e = skip_blank b bs ows in subst (λ (w : List ℕ). skip_ows w ≡ w) (sym e) later
    by_test false other later = ap skip_ows (skip_other b bs other)

skip_last : (xs : List ℕ) (b : ℕ) → is_ows b ≡ false → (ys : List ℕ) × (skip_ows (xs ++ b ∷ []) ≡ ys ++ b ∷ [])
skip_last [] b other = ([], skip_other b [] other)
skip_last (x ∷ xs) b other = by_test (is_ows x) refl (skip_last xs b other)
  where
    by_test : (t : Bool) → is_ows x ≡ t → (ys : List ℕ) × (skip_ows (xs ++ b ∷ []) ≡ ys ++ b ∷ []) → (ys : List ℕ) × (skip_ows (x ∷ xs ++ b ∷ []) ≡ ys ++ b ∷ [])
    by_test true ows later = (later.0, skip_blank x (xs ++ b ∷ []) ows ∙ later.1)
    by_test false one later = (x ∷ xs, skip_other x (xs ++ b ∷ []) one)

front_trimmed : (raw : List ℕ) → skip_ows (trim_ows raw) ≡ trim_ows raw
unfolding trim_ows
front_trimmed [] = refl
front_trimmed (b ∷ bs) = by_test (is_ows b) refl (front_trimmed bs)
  where
    by_test : (t : Bool) → is_ows b ≡ t → skip_ows (trim_ows bs) ≡ trim_ows bs → skip_ows (trim_ows (b ∷ bs)) ≡ trim_ows (b ∷ bs)
    by_test true ows later =
        let e = skip_blank b bs ows in
        subst (λ (w : List ℕ). skip_ows (reverse (skip_ows (reverse w))) ≡ reverse (skip_ows (reverse w))) (sym e) later
    by_test false other later =
        let last = skip_last (reverse bs) b other in
        let e = skip_other b bs other in
        let is : trim_ows (b ∷ bs) ≡ b ∷ reverse last.0 =
        ap (λ (w : List ℕ). reverse (skip_ows (reverse w))) e ∙ ap (λ (w : List ℕ). reverse (skip_ows w)) (reverse-append (b ∷ []) bs)
        ∙ ap reverse last.1 ∙ reverse-append last.0 (b ∷ []) in
        subst (λ (w : List ℕ). skip_ows w ≡ w) (sym is) (skip_other b (reverse last.0) other)

back_trimmed : (raw : List ℕ) → skip_ows (reverse (trim_ows raw)) ≡ reverse (trim_ows raw)
unfolding trim_ows
back_trimmed raw =
    let w = reverse (skip_ows raw) in
    subst (λ (x : List ℕ). skip_ows x ≡ x) (sym (reverse-reverse (skip_ows w))) (skip_twice w)

-- ---- fields that are read come back from their lines

abbrev pub Fits : NameAndValue → Type 0
Fits f = IsToken f.0 × AllPass is_value_byte f.1 × (trim_ows (space ∷ f.1) ≡ f.1)

pub all_fit : (fields : List Field) → All IsField fields → All Fits (read_fields fields)
all_fit fields all =
    All-map Fits name_and_value fields
    (All-weaker IsField (λ (f : Field). Fits (name_and_value f))
    (λ (f : Field) (is : IsField f). (is.name, AllPass-trim_ows is_value_byte f.raw is.raw, trim_ows_space (trim_ows f.raw) (front_trimmed f.raw) (back_trimmed f.raw))) fields all)

abbrev pub to_field : NameAndValue → Field
to_field f = record { name = f.0; raw = space ∷ f.1; end = crlf }

pub are_fields : (fields : List NameAndValue) → All Fits fields → All IsField (map to_field fields)
are_fields fields all =
    All-map IsField to_field fields
    (All-weaker Fits (λ (f : NameAndValue). IsField (to_field f))
    (λ (f : NameAndValue) (fit : Fits f). record { name = fit.0; raw = All-cons (λ b. IsTrue (is_value_byte b)) space f.1 refl fit.1 }) fields all)

pub lines_again : (fields : List NameAndValue) → flat_map print_field (map to_field fields) ≡ flat_map field_line fields
lines_again fields = flat_map-map print_field to_field fields

pub read_again : (fields : List NameAndValue) → All Fits fields → read_fields (map to_field fields) ≡ fields
read_again [] all = refl
read_again (f ∷ fields) all =
    let fit : Fits f = All-head Fits f fields all in
    ap₂ (λ (v : List ℕ) (fs : List NameAndValue). (f.0, v) ∷ fs) fit.2 (read_again fields (All-tail Fits f fields all))
