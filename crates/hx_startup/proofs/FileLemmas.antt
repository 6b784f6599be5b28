-- What a file that was read says.
use Rattle.std.proofs.Common.{◌≡◌, ℕ, ◌<◌, ◌≤◌, List, length, take, Option, Some, None, Ok, Err, refl, sym, ◌∙◌, inl, inr, subst, arith, lt-ltb}
use Rattle.std.specs.Prelude.{IfSome, Result}
use Rattle.std.proofs.lemmas.Bool.{cases_lt}
use Rattle.hx_link.specs.Told.{SourceState}
use Rattle.hx_link.specs.Whole.{ReadsAll}
use Rattle.hx_doors.specs.Cabinets.{CabinetState}
use Rattle.hx_config_parts.specs.declared.fault.ConfigFault.{ConfigFault}
use Rattle.hx_config_parts.specs.declared.fault.ConfigFault.TheVariants as fault
use Rattle.hx_config_parts.specs.declared.fault.Flaw.{Flaw}
use Rattle.hx_config_parts.specs.declared.fault.Rule.TheVariants.{TooMany}
use Rattle.hx_config_parts.specs.Faults.{IsFaultOf}
use Rattle.hx_config.specs.Meaning.{Meaning, longest_text, meaning_of}
use Rattle.hx_startup.specs.declared.ending.Ending.{Ending}
use Rattle.hx_startup.specs.declared.ending.Ending.TheVariants as ending
use Rattle.hx_startup.specs.Files.{ReadsFile, HoldsConfig, HasFirstFault}
use Rattle.hx_startup.specs.Starts.{EndsBy, StopsAt}

too_long : (text : List ℕ) → longest_text < length text → meaning_of text ≡ Err (record { line = 1; rule = TooMany })
unfolding meaning_of
too_long text long = rw (lt-ltb longest_text (length text) long) refl

-- a configuration isn't too long
short_enough : (text : List ℕ) (says : Meaning) → meaning_of text ≡ Ok says → length text ≤ longest_text
short_enough text says means = elim (cases_lt longest_text (length text)) [
  | inl long ↦ absurd (let both : ◌≡◌ {A = Result Meaning Flaw} (Ok says) (Err (record { line = 1; rule = TooMany })) = sym means ∙ too_long text long in cc)
  | inr short ↦ short
]

pub holds_config : (name : List ℕ) (old new : CabinetState) (text : List ℕ) (says : Meaning) → ReadsFile name old new text → meaning_of text ≡ Ok says
    → HoldsConfig name old new says
holds_config name old new text says read means =
    let end = read.reads.ended (short_enough text says means) in
    record { bytes = text; read = read; ended = read.told_end ∙ end.0; whole = end.1; means = means }

-- a fault of what was read is one of the whole file
fault_of_left : (text : List ℕ) (left : Option (List ℕ)) (line rule : ℕ) → HasFirstFault text line rule → IfSome left (λ xs. text ≡ xs)
    → IfSome left (λ xs. HasFirstFault xs line rule)
fault_of_left text None line rule h same = tt
fault_of_left text (Some xs) line rule h same = subst (λ (t : List ℕ). HasFirstFault t line rule) same h

fault_of_long : (text : List ℕ) (left : Option (List ℕ)) (line rule : ℕ) → HasFirstFault text line rule → longest_text < length text
    → IfSome left (λ xs. (length text ≤ length xs) × (text ≡ take (length text) xs)) → IfSome left (λ xs. HasFirstFault xs line rule)
fault_of_long text None line rule h long front = tt
fault_of_long text (Some xs) line rule h long front =
    subst (λ (r : Result Meaning Flaw). IsFaultOf (fault.At line rule) r)
    (too_long text long ∙ sym (too_long xs (omega (arith, long, front.0)))) h

fault_of_file : (old new : SourceState) (text : List ℕ) (line rule : ℕ) → ReadsAll longest_text old new text → HasFirstFault text line rule
    → IfSome old.left (λ xs. HasFirstFault xs line rule)
fault_of_file old new text line rule reads h = elim (cases_lt longest_text (length text)) [
  | inl long ↦ fault_of_long text old.left line rule h long reads.front.read
  | inr short ↦ fault_of_left text old.left line rule h (reads.ended short).1
]

-- why a configuration wasn't read
pub stops_at : (name : List ℕ) (old new : CabinetState) (text : List ℕ) (f : ConfigFault) (e : Ending) → ReadsFile name old new text
    → IsFaultOf f (meaning_of text) → EndsBy f e → StopsAt name old new e
stops_at name old new text (fault.At line rule) (ending.ConfigFault out) read is by =
    (line, rule, record { bytes = text; read = read; fault = is; whole = fault_of_file read.file read.read_file text line rule read.reads is }, by)
stops_at name old new text (fault.At line rule) ending.NoMemory read is by = tt
stops_at name old new text (fault.At line rule) (ending.Done out) read is by = absurd by
stops_at name old new text (fault.At line rule) (ending.Usage out) read is by = absurd by
stops_at name old new text (fault.At line rule) ending.SourceFault read is by = absurd by
stops_at name old new text (fault.At line rule) ending.ListenFault read is by = absurd by
stops_at name old new text fault.NoMemory ending.NoMemory read is by = tt
stops_at name old new text fault.NoMemory (ending.ConfigFault out) read is by = absurd by
stops_at name old new text fault.NoMemory (ending.Done out) read is by = absurd by
stops_at name old new text fault.NoMemory (ending.Usage out) read is by = absurd by
stops_at name old new text fault.NoMemory ending.SourceFault read is by = absurd by
stops_at name old new text fault.NoMemory ending.ListenFault read is by = absurd by
