-- Ranges of the bytes of a link.
use Rattle.std.specs.Prelude.{◌≡◌, ℕ, ◌-◌, ◌≤◌, List, [], ◌∷◌, length, slice_range}
use Rattle.hx_base.specs.declared.numbers.Span.{Span}

-- the bytes that a range names, counted from the first byte of its link
abbrev pub bytes_in : List ℕ → Span → List ℕ
bytes_in bytes s = slice_range bytes s.from s.to

-- the range lies in the bytes
abbrev pub LiesIn : Span → List ℕ → Type 0
LiesIn s bytes = (s.from ≤ s.to) × (s.to ≤ length bytes)

-- how many bytes the range has
abbrev pub span_size : Span → ℕ
span_size s = s.to - s.from

-- the ranges follow each other without a gap, from the first number to the last
abbrev pub AreContiguous : ℕ → List Span → ℕ → Type 0
AreContiguous from [] to = from ≡ to
AreContiguous from (s ∷ spans) to = (s.from ≡ from) × (s.from ≤ s.to) × AreContiguous s.to spans to
