-- The parts of a value, the options of a head, and the fields that go on.
use Rattle.std.proofs.Common.{◌≡◌, ◌≢◌, ℕ, zero, suc, ◌+◌, ◌<◌, ◌≤◌, List, [], ◌∷◌, length, take, drop, map, filter, get_or, cond, Bool, true, false, ◌&&◌, ◌||◌, refl, sym, ap, ◌∙◌, arith, eq-eqb, ne_eqb, ◌*◌, ◌%◌, ◌^◌}
use Rattle.std.specs.Prelude.{codes, fold}
use Rattle.std.specs.List.{list_any}
use Rattle.std.specs.Char.{to_ascii_lowercase}
use Rattle.std.specs.Str.{str_eq_ignore_ascii_case, str_to_ascii_lowercase}
use Rattle.std.proofs.lemmas.Slice.Eq.{bytes_eq-Decides}
use Rattle.std.proofs.lemmas.List.{drop_more, drop_all}
use Rattle.std.proofs.lemmas.List.Folds.{list_any-append, fold-map}
use Rattle.hx_message.specs.Fields.{NameAndValue, with_first, parts_of, is_named, connection_options, is_optional}
use Rattle.httparse.specs.Grammar.{trim_ows}
use Rattle.hx_head.specs.declared.head.FieldSpan.{FieldSpan}
use Rattle.hx_head.specs.Heads.{field_in}
use Rattle.hx_head.specs.Staying.{lists_name, key_of}

pub or_false : (b : Bool) → (b || false) ≡ b
or_false true = refl
or_false false = refl

-- the first part ends at the first comma
pub parts_at : (xs : List ℕ) (i : ℕ) → i < length xs → get_or xs i 0 ≡ 44 → ((k : ℕ) → k < i → get_or xs k 0 ≢ 44)
    → parts_of xs ≡ take i xs ∷ parts_of (drop (suc i) xs)
parts_at [] i inside comma before = absurd (omega arith)
parts_at (b ∷ bs) zero inside comma before =
    ap (λ t. cond t ([] ∷ parts_of bs) (with_first b (parts_of bs))) (eq-eqb b 44 comma)
parts_at (b ∷ bs) (suc i) inside comma before =
    ap (λ t. cond t ([] ∷ parts_of bs) (with_first b (parts_of bs))) (ne_eqb b 44 (before 0 (omega arith)))
    ∙ ap (with_first b) (parts_at bs i (omega arith) comma (λ k below. before (suc k) (omega arith)))

-- without a comma there is one part
pub parts_whole : (xs : List ℕ) → ((k : ℕ) → k < length xs → get_or xs k 0 ≢ 44) → parts_of xs ≡ xs ∷ []
parts_whole [] none = refl
parts_whole (b ∷ bs) none =
    ap (λ t. cond t ([] ∷ parts_of bs) (with_first b (parts_of bs))) (ne_eqb b 44 (none 0 (omega arith)))
    ∙ ap (with_first b) (parts_whole bs (λ k below. none (suc k) (omega arith)))

pub lists_at : (xs name : List ℕ) (i : ℕ) → i < length xs → get_or xs i 0 ≡ 44 → ((k : ℕ) → k < i → get_or xs k 0 ≢ 44)
    → lists_name xs name ≡ (str_eq_ignore_ascii_case (trim_ows (take i xs)) name || lists_name (drop (suc i) xs) name)
lists_at xs name i inside comma before =
    ap (λ (parts : List (List ℕ)). list_any (λ part. str_eq_ignore_ascii_case part name) (map trim_ows parts)) (parts_at xs i inside comma before)

pub lists_whole : (xs name : List ℕ) → ((k : ℕ) → k < length xs → get_or xs k 0 ≢ 44)
    → lists_name xs name ≡ str_eq_ignore_ascii_case (trim_ows xs) name
lists_whole xs name none =
    ap (λ (parts : List (List ℕ)). list_any (λ part. str_eq_ignore_ascii_case part name) (map trim_ows parts)) (parts_whole xs none)
    ∙ or_false (str_eq_ignore_ascii_case (trim_ows xs) name)

-- the options of the first field, and then those of the others
pub optional_cons : (f : NameAndValue) (fields : List NameAndValue) (name : List ℕ)
    → is_optional (f ∷ fields) name ≡ ((is_named (codes "Connection") f && lists_name f.1 name) || is_optional fields name)
unfolding connection_options
optional_cons f fields name = by_test (is_named (codes "Connection") f) refl
  where
    by_test : (t : Bool) → is_named (codes "Connection") f ≡ t
        → is_optional (f ∷ fields) name ≡ ((is_named (codes "Connection") f && lists_name f.1 name) || is_optional fields name)
    by_test true is = rw is (list_any-append (λ part. str_eq_ignore_ascii_case part name) (map trim_ows (parts_of f.1)) (connection_options fields))
    by_test false is = rw is refl

pub optional_none : (name : List ℕ) → is_optional [] name ≡ false
unfolding connection_options
optional_none name = refl

-- the images of the items that pass are the images that pass
pub map-filter : {X Y : Type 0} (f : X → Y) (p : Y → Bool) (xs : List X) → map f (filter (λ x. p (f x)) xs) ≡ filter p (map f xs)
map-filter f p [] = refl
map-filter f p (x ∷ xs) = by_test (p (f x)) (map-filter f p xs)
  where
    by_test : (t : Bool) → map f (filter (λ x. p (f x)) xs) ≡ filter p (map f xs)
        → map f (cond t (x ∷ filter (λ x. p (f x)) xs) (filter (λ x. p (f x)) xs)) ≡ cond t (f x ∷ filter p (map f xs)) (filter p (map f xs))
    by_test true later = ap (λ ys. f x ∷ ys) later
    by_test false later = later

-- the options of the fields from one on
pub optional_at : (bytes : List ℕ) (fields : List FieldSpan) (name : List ℕ) (i : ℕ) (none : FieldSpan) (named listed : Bool) → i < length fields
    → is_named (codes "Connection") (field_in bytes (get_or fields i none)) ≡ named
    → lists_name (field_in bytes (get_or fields i none)).1 name ≡ listed
    → is_optional (map (field_in bytes) (drop i fields)) name ≡ ((named && listed) || is_optional (map (field_in bytes) (drop (i + 1) fields)) name)
optional_at bytes fields name i none named listed inside named_is listed_is =
    ap (λ (fs : List FieldSpan). is_optional (map (field_in bytes) fs) name) (drop_more fields i none inside)
    ∙ optional_cons (field_in bytes (get_or fields i none)) (map (field_in bytes) (drop (i + 1) fields)) name
    ∙ ap (λ (t : Bool). (t && lists_name (field_in bytes (get_or fields i none)).1 name) || is_optional (map (field_in bytes) (drop (i + 1) fields)) name) named_is
    ∙ ap (λ (t : Bool). (named && t) || is_optional (map (field_in bytes) (drop (i + 1) fields)) name) listed_is

-- a field of another name has no options
pub optional_other : (bytes : List ℕ) (fields : List FieldSpan) (name : List ℕ) (i : ℕ) (none : FieldSpan) → i < length fields
    → is_named (codes "Connection") (field_in bytes (get_or fields i none)) ≡ false
    → is_optional (map (field_in bytes) (drop i fields)) name ≡ is_optional (map (field_in bytes) (drop (i + 1) fields)) name
optional_other bytes fields name i none inside named_is =
    optional_at bytes fields name i none false (lists_name (field_in bytes (get_or fields i none)).1 name) inside named_is refl

-- ---- marks

or_assoc : (a b c : Bool) → ((a || b) || c) ≡ (a || (b || c))
or_assoc true b c = refl
or_assoc false b c = refl

same_key : (a b : List ℕ) → str_eq_ignore_ascii_case a b ≡ true → key_of a ≡ key_of b
unfolding key_of
same_key a b same =
    let step = λ (key byte : ℕ). (key * 0x9E37_79B9_7F4A_7C15 % 2 ^ 64 + byte) % 2 ^ 64 in
    let lower : str_to_ascii_lowercase a ≡ str_to_ascii_lowercase b = (bytes_eq-Decides (str_to_ascii_lowercase a) (str_to_ascii_lowercase b)).0 same in
    sym (fold-map step to_ascii_lowercase 0 a) ∙ ap (fold step 0) lower ∙ fold-map step to_ascii_lowercase 0 b

-- names whose keys differ are different names
pub other_keys : (a b : List ℕ) → (key_of a ≡ key_of b → ⊥) → str_eq_ignore_ascii_case a b ≡ false
other_keys a b other = by_test (str_eq_ignore_ascii_case a b) refl
  where
    by_test : (t : Bool) → str_eq_ignore_ascii_case a b ≡ t → t ≡ false
    by_test true same = absurd (other (same_key a b same))
    by_test false differ = refl

-- what a part of a value adds to a mark
pub mark_part : (rest name : List ℕ) (i : ℕ) (old new : Bool) → i < length rest → get_or rest i 0 ≡ 44 → ((k : ℕ) → k < i → get_or rest k 0 ≢ 44)
    → new ≡ (old || str_eq_ignore_ascii_case (trim_ows (take i rest)) name)
    → (new || lists_name (drop (suc i) rest) name) ≡ (old || lists_name rest name)
mark_part rest name i old new inside comma before is =
    ap (λ (t : Bool). t || lists_name (drop (suc i) rest) name) is
    ∙ or_assoc old (str_eq_ignore_ascii_case (trim_ows (take i rest)) name) (lists_name (drop (suc i) rest) name)
    ∙ ap (λ (t : Bool). old || t) (sym (lists_at rest name i inside comma before))

pub mark_last : (rest name : List ℕ) (old new : Bool) → ((k : ℕ) → k < length rest → get_or rest k 0 ≢ 44)
    → new ≡ (old || str_eq_ignore_ascii_case (trim_ows rest) name) → new ≡ (old || lists_name rest name)
mark_last rest name old new none is = is ∙ ap (λ (t : Bool). old || t) (sym (lists_whole rest name none))

-- what a Connection field adds to a mark, and what another field adds
pub mark_field : (bytes : List ℕ) (fields : List FieldSpan) (name : List ℕ) (i : ℕ) (none : FieldSpan) (old new : Bool) → i < length fields
    → is_named (codes "Connection") (field_in bytes (get_or fields i none)) ≡ true
    → new ≡ (old || lists_name (field_in bytes (get_or fields i none)).1 name)
    → (new || is_optional (map (field_in bytes) (drop (i + 1) fields)) name) ≡ (old || is_optional (map (field_in bytes) (drop i fields)) name)
mark_field bytes fields name i none old new inside named is =
    let value = (field_in bytes (get_or fields i none)).1 in
    let rest = is_optional (map (field_in bytes) (drop (i + 1) fields)) name in
    ap (λ (t : Bool). t || rest) is ∙ or_assoc old (lists_name value name) rest
    ∙ ap (λ (t : Bool). old || t) (sym (optional_at bytes fields name i none true (lists_name value name) inside named refl))

pub mark_other : (bytes : List ℕ) (fields : List FieldSpan) (name : List ℕ) (i : ℕ) (none : FieldSpan) (old : Bool) → i < length fields
    → is_named (codes "Connection") (field_in bytes (get_or fields i none)) ≡ false
    → (old || is_optional (map (field_in bytes) (drop (i + 1) fields)) name) ≡ (old || is_optional (map (field_in bytes) (drop i fields)) name)
mark_other bytes fields name i none old inside named =
    ap (λ (t : Bool). old || t) (sym (optional_other bytes fields name i none inside named))

-- no field is left
pub mark_end : (bytes : List ℕ) (fields : List FieldSpan) (name : List ℕ) (i : ℕ) (old all : Bool) → length fields ≤ i
    → (old || is_optional (map (field_in bytes) (drop i fields)) name) ≡ all → old ≡ all
mark_end bytes fields name i old all past is =
    sym (ap (λ (fs : List FieldSpan). old || is_optional (map (field_in bytes) fs) name) (drop_all i fields past)
    ∙ ap (λ (t : Bool). old || t) (optional_none name) ∙ or_false old) ∙ is
