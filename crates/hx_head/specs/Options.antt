-- The options of Connection fields (RFC 9110, section 7.6.1).
use Rattle.std.specs.Prelude.{ℕ, Bool, List, map}
use Rattle.std.specs.List.{list_any}
use Rattle.std.specs.Str.{str_eq_ignore_ascii_case}
use Rattle.httparse.specs.Grammar.{trim_ows}
use Rattle.hx_message.specs.Fields.{NameAndValue, parts_of, connection_options}

-- a part of the value between commas is the option
abbrev pub lists_option : List ℕ → List ℕ → Bool
lists_option option value = list_any (str_eq_ignore_ascii_case option) (map trim_ows (parts_of value))

-- some Connection field has the option
abbrev pub has_option : List ℕ → List NameAndValue → Bool
has_option option fields = list_any (str_eq_ignore_ascii_case option) (connection_options fields)
