-- What a contract sees of values under numbers.
use Rattle.std.specs.Prelude.{ℕ, List, refl}
use Rattle.hx_numbered.specs.Numbers.{with_value}
use Rattle.std.specs.Coded.{Coded, code_by, coded×, coded_ℕ, coded_list}

-- each number with its value, by rising number, and for how many more there is room
pub record Numbered (T : Type 0) : Type 0 where
  pub items : List (ℕ × T)
  pub room : ℕ

-- they are stored as the pair of these
abbrev pub numbered_code : {T : Type 0} → Coded T → Coded (Numbered T)
numbered_code {T} code =
    code_by (List (ℕ × T) × ℕ) (coded× (coded_list (coded× coded_ℕ code)) coded_ℕ)
    (λ s. (s.items, s.room)) (λ p. record { items = p.0; room = p.1 }) (λ _. refl)

-- the same with another value under a number
abbrev pub with_value_at : {T : Type 0} → Numbered T → ℕ → T → Numbered T
with_value_at s n v = record s { items = with_value s.items n v }
