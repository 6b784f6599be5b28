-- Byte texts: bytes between double quotes. A byte may be written in more than one way, and one of
-- them is its spelling: \x stands only for a byte that has no other form.
use Rattle.std.specs.Prelude.{◌≡◌, ◌⊎◌, ℕ, ◌+◌, ◌*◌, ◌/◌, ◌%◌, ◌<◌, Bool, true, ◌&&◌, ◌||◌, not, List, [], ◌∷◌, ◌++◌, map, if◌then◌else◌, ◌==◌, nat_le, nat_lt, All, codes, ⊤}
use Rattle.std.specs.List.{flat_map}

-- a digit of base 16, in lower case
abbrev pub hex_digit : ℕ → ℕ
hex_digit d = if nat_lt d 10 then 48 + d else 87 + d

-- a byte between quotes in its one spelling
unfoldable pub escaped : ℕ → List ℕ
escaped b =
    if b == 34 || b == 92 then 92 ∷ b ∷ []
    else if b == 13 then codes "\\r"
    else if b == 10 then codes "\\n"
    else if nat_le 32 b && nat_le b 126 then b ∷ []
    else 92 ∷ 120 ∷ hex_digit (b / 16) ∷ hex_digit (b % 16) ∷ []

-- bytes between quotes, each in its one spelling
abbrev pub quoted : List ℕ → List ℕ
quoted bytes = codes "\"" ++ flat_map escaped bytes ++ codes "\""

-- how one byte may be written
pub data Letter : Type 0 where
  plain : ℕ → Letter
  escape : ℕ → Letter
  cr lf : Letter
  hex : ℕ → ℕ → Letter

-- a byte that may stand for itself
abbrev pub is_plain : ℕ → Bool
is_plain b = nat_le 32 b && nat_le b 126 && not (b == 34) && not (b == 92)

-- the forms that a byte may have: marks are escaped, and digits are of base 16
abbrev pub IsLetter : Letter → Type 0
IsLetter (plain b) = is_plain b ≡ true
IsLetter (escape b) = (b ≡ 34) ⊎ (b ≡ 92)
IsLetter cr = ⊤
IsLetter lf = ⊤
IsLetter (hex h l) = (h < 16) × (l < 16)

-- the text of a letter
abbrev pub print_letter : Letter → List ℕ
print_letter (plain b) = b ∷ []
print_letter (escape b) = 92 ∷ b ∷ []
print_letter cr = 92 ∷ 114 ∷ []
print_letter lf = 92 ∷ 110 ∷ []
print_letter (hex h l) = 92 ∷ 120 ∷ hex_digit h ∷ hex_digit l ∷ []

-- the byte that a letter stands for
abbrev pub byte_of : Letter → ℕ
byte_of (plain b) = b
byte_of (escape b) = b
byte_of cr = 13
byte_of lf = 10
byte_of (hex h l) = 16 * h + l

-- the text writes the bytes between quotes, each in one of its forms
pub record Quotes (text bytes : List ℕ) : Type 0 where
  pub letters : List Letter
  pub each : All IsLetter letters
  pub is : text ≡ 34 ∷ flat_map print_letter letters ++ 34 ∷ []
  pub stands : bytes ≡ map byte_of letters

-- a byte text of these bytes stands at the front of the text, and the rest follows it
abbrev pub BeginsQuoted : List ℕ → List ℕ → List ℕ → Type 0
BeginsQuoted text bytes rest = (q : List ℕ) × Quotes q bytes × (text ≡ q ++ rest)

-- at most one byte text stands at the front
abbrev pub BeginsWithOne : List ℕ → Type 0
BeginsWithOne text =
    (bytes rest more left : List ℕ) → BeginsQuoted text bytes rest → BeginsQuoted text more left
    → (bytes ≡ more) × (rest ≡ left)

-- no byte text stands at the front
abbrev pub NoQuoted : List ℕ → Type 0
NoQuoted text = (bytes rest : List ℕ) → BeginsQuoted text bytes rest → ⊥
