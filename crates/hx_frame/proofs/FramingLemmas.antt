-- One more field, and what is found of it.
use Rattle.std.proofs.Common.{◌≡◌, ℕ, ◌+◌, ◌<◌, ◌≤◌, ◌^◌, List, [], ◌∷◌, ◌++◌, length, take, map, filter, get_or, Bool, true, false, All, arith, refl, sym, ap, subst, ◌∙◌, lit<}
use Rattle.std.proofs.lemmas.List.{take_more, map_push, map-append, append-nil}
use Rattle.std.specs.List.{list_all}
use Rattle.std.proofs.lemmas.List.Elements.{filter-append, All-nil, All-cons, All-head, All-tail}
use Rattle.std.proofs.lemmas.List.Folds.{list_all_more}
use Rattle.std.proofs.Math.Nat.{pow-le-pow_right}
use Rattle.hx_base.specs.declared.numbers.Span.{Span}
use Rattle.hx_base.specs.Spans.{bytes_in}
use Rattle.hx_message.specs.Fields.{NameAndValue, is_named, values_of}
use Rattle.hx_head.specs.declared.head.FieldSpan.{FieldSpan}
use Rattle.hx_head.specs.Heads.{IsIn, IsFieldIn, field_in}
use Rattle.hx_frame.specs.declared.fields.Found.{Found}
use Rattle.hx_frame.specs.declared.fields.Found.TheVariants.{Absent, Once, Several}
use Rattle.hx_frame.specs.Framing.{IsFound, AddsFound}

values_push : (name : List ℕ) (xs : List NameAndValue) (x : NameAndValue) → values_of name (xs ++ x ∷ []) ≡ values_of name xs ++ values_of name (x ∷ [])
values_push name xs x =
    ap (map (λ (f : NameAndValue). f.1)) (filter-append (is_named name) xs (x ∷ []))
    ∙ map-append (λ (f : NameAndValue). f.1) (filter (is_named name) xs) (filter (is_named name) (x ∷ []))

-- the values of a name among one field more
values_more : (name : List ℕ) (view : FieldSpan → NameAndValue) (fs : List FieldSpan) (i : ℕ) (d : FieldSpan) → i < length fs
    → values_of name (map view (take (i + 1) fs)) ≡ values_of name (map view (take i fs)) ++ values_of name (view (get_or fs i d) ∷ [])
values_more name view fs i d lt =
    ap (λ (xs : List FieldSpan). values_of name (map view xs)) (take_more fs i d lt)
    ∙ ap (values_of name) (map_push view (take i fs) (get_or fs i d))
    ∙ values_push name (map view (take i fs)) (view (get_or fs i d))

pub found_next : (bytes name : List ℕ) (fs : List FieldSpan) (i : ℕ) (d : FieldSpan) (now : Found) → i < length fs
    → IsFound bytes (values_of name (map (field_in bytes) (take i fs)) ++ values_of name (field_in bytes (get_or fs i d) ∷ [])) now
    → IsFound bytes (values_of name (map (field_in bytes) (take (i + 1) fs))) now
found_next bytes name fs i d now lt is = subst (λ (vs : List (List ℕ)). IsFound bytes vs now) (sym (values_more name (field_in bytes) fs i d lt)) is

pub found_more : (bytes : List ℕ) (values : List (List ℕ)) (found now : Found) (value : Span) → IsIn (length bytes) value
    → AddsFound found value now → IsFound bytes values found → IsFound bytes (values ++ bytes_in bytes value ∷ []) now
found_more bytes values Absent now value inside adds is =
    subst (λ (n : Found). IsFound bytes (values ++ bytes_in bytes value ∷ []) n) (sym adds)
    (inside, ap (λ (vs : List (List ℕ)). vs ++ bytes_in bytes value ∷ []) is)
found_more bytes values (Once first) now value inside adds is =
    subst (λ (n : Found). IsFound bytes (values ++ bytes_in bytes value ∷ []) n) (sym adds)
    (bytes_in bytes first, bytes_in bytes value, [], ap (λ (vs : List (List ℕ)). vs ++ bytes_in bytes value ∷ []) is.1)
found_more bytes values Several now value inside adds is =
    subst (λ (n : Found). IsFound bytes (values ++ bytes_in bytes value ∷ []) n) (sym adds)
    (is.0, is.1, is.2 ++ bytes_in bytes value ∷ [], ap (λ (vs : List (List ℕ)). vs ++ bytes_in bytes value ∷ []) is.3)

-- a field of that name has its value, and another field has none
pub found_named : (bytes name : List ℕ) (values : List (List ℕ)) (field : FieldSpan) (found now : Found) → IsIn (length bytes) field.value
    → is_named name (field_in bytes field) ≡ true → AddsFound found field.value now → IsFound bytes values found
    → IsFound bytes (values ++ values_of name (field_in bytes field ∷ [])) now
found_named bytes name values field found now inside yes' adds is = rw yes' (found_more bytes values found now field.value inside adds is)

pub found_other : (bytes name : List ℕ) (values : List (List ℕ)) (field : FieldSpan) (found : Found)
    → is_named name (field_in bytes field) ≡ false → IsFound bytes values found
    → IsFound bytes (values ++ values_of name (field_in bytes field ∷ [])) found
found_other bytes name values field found no' is = rw (no', append-nil values) is

pub power_le : (i j : ℕ) → i ≤ j → 10 ^ i ≤ 10 ^ j
power_le i j le = pow-le-pow_right (lit< tt) le

pub list_all_next : (p : ℕ → Bool) (xs : List ℕ) (i : ℕ) → i < length xs → list_all p (take i xs) ≡ true → p (get_or xs i 0) ≡ true
    → list_all p (take (i + 1) xs) ≡ true
list_all_next p xs i inside before here = list_all_more p xs i 0 inside ∙ rw (before, here) refl

-- ranges that lie in the first bytes lie in all of them
pub fields_within : (n m : ℕ) (fs : List FieldSpan) → n ≤ m → All (IsFieldIn n) fs → All (IsFieldIn m) fs
fields_within n m [] le fit = All-nil (IsFieldIn m)
fields_within n m (f ∷ fs) le fit =
    let here : IsFieldIn n f = All-head (IsFieldIn n) f fs fit in
    All-cons (IsFieldIn m) f fs ((here.0.0, omega arith), (here.1.0, omega arith)) (fields_within n m fs le (All-tail (IsFieldIn n) f fs fit))
