-- Private: which ranges of fields go on, and which names the options of a value name.
use Rattle.std.specs.Prelude.{◌≡◌, ℕ, ◌+◌, ◌*◌, ◌%◌, ◌^◌, ◌<◌, Bool, false, ◌||◌, List, length, map, fold, slice_index_or}
use Rattle.std.specs.Char.{to_ascii_lowercase}
use Rattle.std.specs.List.{list_any}
use Rattle.std.specs.Str.{str_eq_ignore_ascii_case}
use Rattle.httparse.specs.Grammar.{trim_ows}
use Rattle.hx_base.specs.Spans.{bytes_in}
use Rattle.hx_message.specs.Fields.{parts_of, is_optional, goes_on}
use Rattle.hx_head.specs.declared.head.FieldSpan.{FieldSpan}
use Rattle.hx_head.specs.Heads.{field_in}

-- a part of the value between commas is the name
abbrev pub lists_name : List ℕ → List ℕ → Bool
lists_name value name =
    list_any (λ part. str_eq_ignore_ascii_case part name) (map trim_ows (parts_of value))

-- an option of the head is the name
abbrev pub is_option_of : List ℕ → List FieldSpan → List ℕ → Bool
is_option_of bytes fields name = is_optional (map (field_in bytes) fields) name

-- the field that the ranges cover goes on, among these fields
abbrev pub stays_in : List ℕ → List FieldSpan → FieldSpan → Bool
stays_in bytes fields f = goes_on (map (field_in bytes) fields) (field_in bytes f)

-- a number of a name, which forgets letter case
abbrev pub add_byte : ℕ → ℕ → ℕ
add_byte key b = (key * 0x9E37_79B9_7F4A_7C15 % 2 ^ 64 + to_ascii_lowercase b) % 2 ^ 64

-- the number of a name
unfoldable pub key_of : List ℕ → ℕ
key_of name = fold add_byte 0 name

-- what stands where a list has no field
abbrev pub no_field : FieldSpan
no_field = record { name = record { from = 0; to = 0 }; value = record { from = 0; to = 0 } }

-- the name of the k-th field
abbrev pub name_at : List ℕ → List FieldSpan → ℕ → List ℕ
name_at bytes fields k = bytes_in bytes (slice_index_or fields k no_field).name

-- the first n keys are those of the names
abbrev pub AreKeys : List ℕ → List FieldSpan → ℕ → List ℕ → Type 0
AreKeys bytes fields n keys =
    (k : ℕ) → k < n → slice_index_or keys k 0 ≡ key_of (name_at bytes fields k)

-- the mark of each field tells whether its name passes the test
abbrev pub AreMarked : List ℕ → List FieldSpan → List Bool → (List ℕ → Bool) → Type 0
AreMarked bytes fields marks test =
    (k : ℕ) → k < length fields → slice_index_or marks k false ≡ test (name_at bytes fields k)

-- the fields whose name passes the test are marked too
abbrev pub AddsMarks : List ℕ → List FieldSpan → List Bool → List Bool → (List ℕ → Bool) → Type 0
AddsMarks bytes fields old new test =
    (k : ℕ) → k < length fields
    → slice_index_or new k false ≡ (slice_index_or old k false || test (name_at bytes fields k))
