-- The fields of a head: names without letter case, the options of Connection, and which fields go on
-- (RFC 9110, sections 5.1 and 7.6.1).
use Rattle.std.specs.Prelude.{ℕ, Bool, ◌&&◌, ◌||◌, not, List, [], ◌∷◌, map, filter, if◌then◌else◌, ◌==◌, codes}
use Rattle.std.specs.List.{flat_map, list_any}
use Rattle.std.specs.Str.{str_eq_ignore_ascii_case}
use Rattle.httparse.specs.Ascii.{comma}
use Rattle.httparse.specs.Grammar.{Field, trim_ows}
use Rattle.httparse.specs.Spans.{name_and_value}

-- a field as it is read: its name, and its value without the white space around it
abbrev pub NameAndValue : Type 0
NameAndValue = List ℕ × List ℕ

-- the fields as names and values
abbrev pub read_fields : List Field → List NameAndValue
read_fields fields = map name_and_value fields

-- the field has that name, letter case ignored
abbrev pub is_named : List ℕ → NameAndValue → Bool
is_named name f = str_eq_ignore_ascii_case name f.0

-- the values of the fields of that name
abbrev pub values_of : List ℕ → List NameAndValue → List (List ℕ)
values_of name fields = map (λ f. f.1) (filter (is_named name) fields)

-- a byte at the front of the first part
abbrev pub with_first : ℕ → List (List ℕ) → List (List ℕ)
with_first b [] = (b ∷ []) ∷ []
with_first b (part ∷ parts) = (b ∷ part) ∷ parts

-- the parts of a value between commas
abbrev pub parts_of : List ℕ → List (List ℕ)
parts_of [] = [] ∷ []
parts_of (b ∷ bytes) = if b == comma then [] ∷ parts_of bytes else with_first b (parts_of bytes)

-- the options of the Connection fields, without the white space around them
unfoldable pub connection_options : List NameAndValue → List (List ℕ)
connection_options fields =
    flat_map (λ value. map trim_ows (parts_of value)) (values_of (codes "Connection") fields)

-- a field of one connection, which never goes on
unfoldable pub is_of_connection : List ℕ → Bool
is_of_connection name =
    list_any (λ n. str_eq_ignore_ascii_case n name)
    (codes "Connection" ∷ codes "Keep-Alive" ∷ codes "Proxy-Connection" ∷ codes "TE" ∷ codes "Upgrade" ∷ [])

-- a field that no option takes away, since the framing of the message rests on it
unfoldable pub is_kept : List ℕ → Bool
is_kept name =
    list_any (λ n. str_eq_ignore_ascii_case n name)
    (codes "Host" ∷ codes "Content-Length" ∷ codes "Transfer-Encoding" ∷ [])

-- an option of the head has that name
abbrev pub is_optional : List NameAndValue → List ℕ → Bool
is_optional fields name = list_any (λ option. str_eq_ignore_ascii_case option name) (connection_options fields)

-- whether the field goes on, among the fields of its head
unfoldable pub goes_on : List NameAndValue → NameAndValue → Bool
goes_on fields f = not (is_of_connection f.0) && (is_kept f.0 || not (is_optional fields f.0))

-- the fields that go on, in order
unfoldable pub staying : List NameAndValue → List NameAndValue
staying fields = filter (goes_on fields) fields
