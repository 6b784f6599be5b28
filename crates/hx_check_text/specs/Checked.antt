-- What is found of a text.
use Rattle.std.specs.Prelude.{◌≡◌, ℕ, ◌≤◌, List, length}
use Rattle.hx_check.specs.Broken.{IsUnbroken, BreaksAt}
use Rattle.hx_check.specs.Lines.{told_line}
use Rattle.hx_script.specs.declared.transcript.Transcript.{Transcript}
use Rattle.hx_script.specs.Numbers.{HasNumbers}
use Rattle.hx_script.specs.Printed.{Spells}
use Rattle.hx_script_parts.specs.declared.fault.TextFault.TheVariants as text
use Rattle.hx_transcripts.specs.Faults.{IsFaultOf}
use Rattle.hx_transcripts.specs.Fits.{Fits}
use Rattle.hx_transcripts.specs.Meaning.{longest_text, meaning_of}
use Rattle.hx_check_text.specs.declared.check.Checked.{Checked}
use Rattle.hx_check_text.specs.declared.check.Checked.TheVariants as checked

-- of a transcript: no rule is broken, or that rule is the first that is, and that line the first that breaks it
abbrev pub IsJudged : Transcript → Checked → Type 0
IsJudged t checked.Holds = IsUnbroken t
IsJudged t (checked.Broken rule line) = (at : ℕ) × BreaksAt t at rule × (line ≡ told_line at)
IsJudged t (checked.Fault line rule) = ⊥

-- the text spells a transcript, of which this was found; no text spells two whose numbers fit
pub record SpellsJudged (bytes : List ℕ) (c : Checked) : Type 0 where
  pub transcript : Transcript
  pub numbers : HasNumbers transcript
  pub spells : Spells bytes transcript
  pub short : length bytes ≤ longest_text
  pub judged : IsJudged transcript c

-- the fault is the text's first one, and the text spells no transcript within the limit that a program can have
pub record IsFault (bytes : List ℕ) (line rule : ℕ) : Type 0 where
  pub first : IsFaultOf (text.At line rule) (meaning_of bytes)
  pub none : (t : Transcript) → Fits t → length bytes ≤ longest_text → ¬ Spells bytes t

-- of a text: it has a fault; or it spells a transcript, and what is found is found of that
abbrev pub IsChecked : List ℕ → Checked → Type 0
IsChecked bytes (checked.Fault line rule) = IsFault bytes line rule
IsChecked bytes checked.Holds = SpellsJudged bytes checked.Holds
IsChecked bytes (checked.Broken rule line) = SpellsJudged bytes (checked.Broken rule line)
