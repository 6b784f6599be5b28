-- Numbers and times (HAProxy 2.4 Configuration Manual, section 2.5).
use Rattle.std.specs.Prelude.{ℕ, ◌+◌, ◌-◌, ◌*◌, ◌/◌, Bool, ◌&&◌, ◌||◌, not, List, [], ◌∷◌, length, take, drop, Result, Ok, Err, if◌then◌else◌, ◌==◌, nat_le, bytes_eq, codes}
use Rattle.std.specs.List.{list_all, prefix_len}
use Rattle.hx_base.specs.declared.numbers.Millis.{Millis}
use Rattle.hx_config_parts.specs.declared.fault.Rule.{Rule}
use Rattle.hx_config_parts.specs.declared.fault.Rule.TheVariants.{BadNumber, BadTime}

-- a decimal digit
abbrev pub is_digit : ℕ → Bool
is_digit b = nat_le 48 b && nat_le b 57

-- one or more decimal digits
abbrev pub is_number : List ℕ → Bool
is_number w = not (length w == 0) && list_all is_digit w

-- the number that digits behind those of n spell
unfoldable pub value_from : ℕ → List ℕ → ℕ
value_from n [] = n
value_from n (b ∷ bs) = value_from (10 * n + (b - 48)) bs

-- the number that the digits spell
abbrev pub value : List ℕ → ℕ
value w = value_from 0 w

-- a number from low to high, or the rule that it breaks
abbrev pub bounded : Rule → ℕ → ℕ → List ℕ → Result ℕ Rule
bounded rule low high w = if is_number w && (nat_le low (value w) && nat_le (value w) high) then Ok (value w) else Err rule

-- a number from low to high
abbrev pub number_in : ℕ → ℕ → List ℕ → Result ℕ Rule
number_in low high w = bounded BadNumber low high w

-- the greatest time, in milliseconds
abbrev pub longest : ℕ
longest = 2147483647

-- so many milliseconds
abbrev pub millis : ℕ → Result Millis Rule
millis n = if nat_le n longest then Ok (record { 0 = n }) else Err BadTime

-- n of a unit, in milliseconds; microseconds are rounded up
abbrev pub in_unit : ℕ → List ℕ → Result Millis Rule
in_unit n u =
    if bytes_eq u [] || bytes_eq u (codes "ms") then millis n
    else if bytes_eq u (codes "us") then millis ((n + 999) / 1000)
    else if bytes_eq u (codes "s") then millis (n * 1000)
    else if bytes_eq u (codes "m") then millis (n * 60000)
    else if bytes_eq u (codes "h") then millis (n * 3600000)
    else if bytes_eq u (codes "d") then millis (n * 86400000)
    else Err BadTime

-- a time: digits, and a unit
abbrev pub time_of : List ℕ → Result Millis Rule
time_of w =
    let n = prefix_len is_digit w in
    if n == 0 then Err BadTime else in_unit (value (take n w)) (drop n w)
