-- Words looked up in tables.
use Rattle.std.specs.Prelude.{ℕ, Bool, false, ◌||◌, List, [], ◌∷◌, Option, Some, None, if◌then◌else◌, bytes_eq}

-- what stands beside the word in a table
abbrev pub found : {A : Type 0} → List (List ℕ × A) → List ℕ → Option A
found [] w = None
found (row ∷ rows) w = if bytes_eq w row.0 then Some row.1 else found rows w

-- the word is one of these
abbrev pub is_one_of : List (List ℕ) → List ℕ → Bool
is_one_of [] w = false
is_one_of (x ∷ xs) w = bytes_eq w x || is_one_of xs w

-- the first of the two that is there
abbrev pub or_else : {A : Type 0} → Option A → Option A → Option A
or_else None other = other
or_else (Some x) other = Some x
