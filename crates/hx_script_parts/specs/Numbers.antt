-- Numbers: decimal digits without a leading zero.
use Rattle.std.specs.Prelude.{ℕ, Bool, ◌&&◌, List, Result, Ok, Err, if◌then◌else◌, nat_le}
use Rattle.hx_base.specs.declared.numbers.Millis.{Millis}
use Rattle.hx_config_parts.specs.Addresses.{is_plain}
use Rattle.hx_config_parts.specs.Numbers.{is_number, value, longest}
use Rattle.hx_script_parts.specs.declared.fault.Rule.{Rule}
use Rattle.hx_script_parts.specs.declared.fault.Rule.TheVariants.{BadNumber}
use Rattle.hx_script_parts.specs.Faults.{◌>>=◌}
use Rattle.hx_script_parts.specs.Lexical.{Rest, word_at}

-- one or more digits, and no zero before other digits
abbrev pub is_decimal : List ℕ → Bool
is_decimal w = is_number w && is_plain w

-- the greatest number
abbrev pub greatest : ℕ
greatest = 1000000000000

-- a number from low to high
abbrev pub number_in : ℕ → ℕ → List ℕ → Result ℕ Rule
number_in low high w = if is_decimal w && (nat_le low (value w) && nat_le (value w) high) then Ok (value w) else Err BadNumber

-- the next word, which is such a number, and what is left behind it
abbrev pub number_at : ℕ → ℕ → Rest → Result (ℕ × Rest) Rule
number_at low high ws = do
  x ← word_at ws
  n ← number_in low high x.0
  Ok (n, x.1)

-- the next word, which is a moment of at most 2,147,483,647 milliseconds
abbrev pub moment_at : Rest → Result (Millis × Rest) Rule
moment_at ws = do
  x ← number_at 0 longest ws
  Ok (record { 0 = x.0 }, x.1)
