-- What a check finds of what a source gave.
use Rattle.std.specs.Prelude.{◌≡◌, ℕ, true, List, IfSome}
use Rattle.hx_link.specs.Told.{SourceState}
use Rattle.hx_check_text.specs.Checked.{IsFault, SpellsJudged}
use Rattle.hx_check_text.specs.declared.check.Checked.{Checked}
use Rattle.hx_replay.specs.Commands.{Means}
use Rattle.hx_replay.specs.Reads.{IsReadOut}
use Rattle.hx_replay.specs.declared.command.Command.TheVariants.{Check}

-- the most bytes of a transcript
abbrev pub most_transcript : ℕ
most_transcript = 16777216

-- the source was read to its end without a fault, and what it gave spells a transcript of which this was found: that it breaks
-- no rule, or which rule it breaks first and at which line
pub record Judged (words : List (List ℕ)) (old new : SourceState) (c : Checked) : Type 0 where
  pub command : Means words Check
  pub ended : new.told_end ≡ true
  pub same : new.faults ≡ old.faults
  pub bytes : List ℕ
  pub read : IfSome old.left (λ left. bytes ≡ left)
  pub judged : SpellsJudged bytes c

-- the source was read to its end without a fault, or past the most bytes of a transcript; and what it gives, where that is told,
-- has this first fault and spells no transcript
pub record BreaksReading (words : List (List ℕ)) (old new : SourceState) (line rule : ℕ) : Type 0 where
  pub command : Means words Check
  pub out : IsReadOut most_transcript old new
  pub fault : IfSome old.left (λ text. IsFault text line rule)
