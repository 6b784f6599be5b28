-- What a check says of a transcript.
use Rattle.std.specs.Prelude.{◌≡◌, ℕ, Option, MatchOption}
use Rattle.hx_script.specs.declared.transcript.Transcript.{Transcript}
use Rattle.hx_check.specs.declared.broken.Broken.{Broken}
use Rattle.hx_check.specs.Lines.{told_line}
use Rattle.hx_check.specs.Broken.{IsUnbroken, BreaksAt}

-- nothing exactly where no rule is broken, else the first rule that is, and the first line that breaks it
abbrev pub Judges : Transcript → Option Broken → Type 0
Judges t result =
    MatchOption result (IsUnbroken t) (λ (b : Broken). (line : ℕ) × BreaksAt t line b.rule × (b.line ≡ told_line line))
