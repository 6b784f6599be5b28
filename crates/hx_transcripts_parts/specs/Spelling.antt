-- Byte texts in their one spelling.
use Rattle.std.specs.Prelude.{ℕ, List, [], ◌∷◌, Option, Some, None, Result, Ok, if◌then◌else◌, ◌==◌}
use Rattle.hx_script_parts.specs.ByteText.{quoted}
use Rattle.hx_script_parts.specs.QuotedReading.{quoted_at}
use Rattle.hx_transcripts_parts.specs.declared.fault.Rule.{Rule}
use Rattle.hx_transcripts_parts.specs.declared.fault.Rule.TheVariants.{BadText}
use Rattle.hx_transcripts_parts.specs.Faults.{◌>>=◌, or_broken}

-- what stands behind a text's front
unfoldable pub behind_front : List ℕ → List ℕ → Option (List ℕ)
behind_front [] text = Some text
behind_front (x ∷ front) [] = None
behind_front (x ∷ front) (b ∷ bs) = if b == x then behind_front front bs else None

-- the bytes of the byte text at the front, which is in its one spelling, and what follows it
abbrev pub spelled_at : List ℕ → Result (List ℕ × List ℕ) Rule
spelled_at text = do
  x ← or_broken BadText (quoted_at text)
  rest ← or_broken BadText (behind_front (quoted x.0) text)
  Ok (x.0, rest)
