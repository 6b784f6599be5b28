-- Numbers: decimal digits without a leading zero, as large as their type holds.
use Rattle.std.specs.Prelude.{ℕ, ◌&&◌, List, [], ◌∷◌, Option, Some, None, Result, Ok, Err, if◌then◌else◌, ◌==◌, nat_le, bytes_eq, codes}
use Rattle.hx_config_parts.specs.Numbers.{value}
use Rattle.hx_script_parts.specs.Numbers.{is_decimal}
use Rattle.hx_transcripts_parts.specs.declared.fault.Rule.{Rule}
use Rattle.hx_transcripts_parts.specs.declared.fault.Rule.TheVariants.{BadNumber}
use Rattle.hx_transcripts_parts.specs.Faults.{◌>>=◌}

-- a number of at most so much
abbrev pub number_in : ℕ → List ℕ → Result ℕ Rule
number_in most w = if is_decimal w && nat_le (value w) most then Ok (value w) else Err BadNumber

-- the greatest numbers of 8, 16, 32 and 64 bits
abbrev pub most_8 : ℕ
most_8 = 255

abbrev pub most_16 : ℕ
most_16 = 65535

abbrev pub most_32 : ℕ
most_32 = 4294967295

abbrev pub most_64 : ℕ
most_64 = 18446744073709551615

-- a limit, or -1 for none
abbrev pub limit_in : List ℕ → Result (Option ℕ) Rule
limit_in w = if bytes_eq w (codes "-1") then Ok None else number_in most_32 w >>= λ n. Ok (Some n)

-- with one more byte in front of the first part
abbrev pub with_first : ℕ → Option (List ℕ × List ℕ) → Option (List ℕ × List ℕ)
with_first b None = None
with_first b (Some x) = Some (b ∷ x.0, x.1)

-- what stands before the first such byte, and behind it
unfoldable pub cut_at : ℕ → List ℕ → Option (List ℕ × List ℕ)
cut_at mark [] = None
cut_at mark (b ∷ bs) = if b == mark then Some ([], bs) else with_first b (cut_at mark bs)
