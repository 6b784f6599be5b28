-- Reading a byte text from the left, one byte after the other.
use Rattle.std.specs.Prelude.{ℕ, ◌+◌, ◌-◌, ◌*◌, ◌&&◌, ◌||◌, List, [], ◌∷◌, ◌++◌, Option, Some, None, if◌then◌else◌, ◌==◌, nat_le, nat_lt}
use Rattle.hx_script_parts.specs.declared.quoted.ReadMode.{ReadMode}
use Rattle.hx_script_parts.specs.declared.quoted.ReadMode.TheVariants.{InText, AfterBackslash, AfterX, AfterDigit}
use Rattle.hx_script_parts.specs.declared.quoted.Step.{Step}
use Rattle.hx_script_parts.specs.declared.quoted.Step.TheVariants.{End, Bad, Byte, Mode}

-- the value of a digit of base 16 in lower case, or 16
abbrev pub hex_value : ℕ → ℕ
hex_value b =
    if nat_le 48 b && nat_le b 57 then b - 48
    else if nat_le 97 b && nat_le b 102 then b - 87 else 16

-- after \x
abbrev pub first_digit : ℕ → Step
first_digit h = if nat_lt h 16 then Mode (AfterDigit h) else Bad

-- after \x and a digit
abbrev pub second_digit : ℕ → ℕ → Step
second_digit h l = if nat_lt h 16 && nat_lt l 16 then Byte (16 * h + l) else Bad

-- what the next byte does
abbrev pub step : ReadMode → ℕ → Step
step InText b =
    if b == 34 then End
    else if b == 92 then Mode AfterBackslash
    else if nat_le 32 b && nat_le b 126 then Byte b else Bad
step AfterBackslash b =
    if b == 34 || b == 92 then Byte b
    else if b == 114 then Byte 13
    else if b == 110 then Byte 10
    else if b == 120 then Mode AfterX else Bad
step AfterX b = first_digit (hex_value b)
step (AfterDigit h) b = second_digit h (hex_value b)

-- bytes that were read, and what is left
abbrev pub Read : Type 0
Read = Option (List ℕ × List ℕ)

-- bytes that were read before
abbrev pub with_front : List ℕ → Read → Read
with_front front None = None
with_front front (Some r) = Some (front ++ r.0, r.1)

-- the rest of the reading after a step
abbrev pub after : Step → (ReadMode → Read) → List ℕ → Read
after End go rest = Some ([], rest)
after Bad go rest = None
after (Byte c) go rest = with_front (c ∷ []) (go InText)
after (Mode m) go rest = go m

-- reading up to the closing quote
unfoldable pub read_from : ReadMode → List ℕ → Read
read_from m [] = None
read_from m (b ∷ rest) = after (step m b) (λ n. read_from n rest) rest

-- a byte text at the front
abbrev pub quoted_at : List ℕ → Read
quoted_at [] = None
quoted_at (b ∷ rest) = if b == 34 then read_from InText rest else None
