-- The names of frontends, backends and servers (HAProxy 2.4 Configuration Manual, section 2.3).
use Rattle.std.specs.Prelude.{ℕ, ◌<◌, Bool, ◌&&◌, ◌||◌, not, List, length, IsTrue, ◌==◌}
use Rattle.std.specs.Char.{is_ascii_alphanumeric}
use Rattle.std.specs.List.{list_all}

-- a letter, a digit, or one of - _ . :
abbrev pub is_name_byte : ℕ → Bool
is_name_byte b = is_ascii_alphanumeric b || b == 45 || b == 95 || b == 46 || b == 58

-- one or more of these bytes, as a test
abbrev pub is_name : List ℕ → Bool
is_name w = not (length w == 0) && list_all is_name_byte w

-- one or more of these bytes
abbrev pub IsName : List ℕ → Type 0
IsName name = (0 < length name) × IsTrue (list_all is_name_byte name)
