-- What is found of a transcript is found of the text that spells it.
use Rattle.std.proofs.Common.{◌≡◌, ℕ, ◌≤◌, List, length, Result, Ok, Err, subst}
use Rattle.std.specs.Prelude.{IfOk}
use Rattle.hx_base.specs.declared.numbers.NoMemory.{NoMemory}
use Rattle.hx_script.specs.declared.transcript.Transcript.{Transcript}
use Rattle.hx_script.specs.Numbers.{HasNumbers}
use Rattle.hx_script.specs.Printed.{Spells}
use Rattle.hx_script_parts.specs.declared.fault.TextFault.TheVariants as text
use Rattle.hx_transcripts.specs.declared.fault.Flaw.{Flaw}
use Rattle.hx_transcripts.specs.declared.reading.Parts.{Parts}
use Rattle.hx_transcripts.specs.Faults.{IsFaultOf}
use Rattle.hx_transcripts.specs.Meaning.{longest_text, meaning_of, parts_of}
use Rattle.hx_transcripts.proofs.Completeness.{read_whole}
use Rattle.hx_check_text.specs.declared.check.Checked.{Checked}
use Rattle.hx_check_text.specs.declared.check.Checked.TheVariants as checked
use Rattle.hx_check_text.specs.Checked.{IsJudged, IsFault, IsChecked}

pub spelled : (bytes : List ℕ) (t : Transcript) (c : Checked) → HasNumbers t → Spells bytes t → length bytes ≤ longest_text → IsJudged t c → IsChecked bytes c
spelled bytes t checked.Holds numbers is short judged = record { transcript = t; numbers = numbers; spells = is; short = short; judged = judged }
spelled bytes t (checked.Broken rule line) numbers is short judged = record { transcript = t; numbers = numbers; spells = is; short = short; judged = judged }
spelled bytes t (checked.Fault line rule) numbers is short judged = absurd judged

pub judged_all : (bytes : List ℕ) (t : Transcript) (r : Result Checked NoMemory) → HasNumbers t → Spells bytes t → length bytes ≤ longest_text → IfOk r (IsJudged t)
    → IfOk r (λ c. IsChecked bytes c)
judged_all bytes t (Ok c) numbers is short judged = spelled bytes t c numbers is short judged
judged_all bytes t (Err e) numbers is short judged = tt

-- what is read has no fault
no_fault : (line rule : ℕ) (r : Result Parts Flaw) (p : Parts) → r ≡ Ok p → IsFaultOf (text.At line rule) r → ⊥
no_fault line rule r p is fault = subst (λ (x : Result Parts Flaw). IsFaultOf (text.At line rule) x) is fault

pub faulty : (bytes : List ℕ) (line rule : ℕ) → IsFaultOf (text.At line rule) (meaning_of bytes) → IsFault bytes line rule
faulty bytes line rule fault = record {
  first = fault;
  none = λ t fits short spells. no_fault line rule (meaning_of bytes) (parts_of t) (read_whole bytes t fits spells short) fault;
}
