-- What is wrong with a line, and reading that stops at the first fault.
use Rattle.std.specs.Prelude.{◌≡◌, ℕ, Bool, Option, Some, None, Result, Ok, Err, ⊤, if◌then◌else◌}
pub use Rattle.hx_config_parts.specs.Faults.{◌>>=◌}
use Rattle.hx_transcripts_parts.specs.declared.fault.Rule.{Rule}
use Rattle.hx_transcripts_parts.specs.declared.fault.Rule.TheVariants.{BadFirstLine, BadLine, BadNumber, BadText, WrongOrder, TooLong, NoSuchName}
use Rattle.hx_transcripts_parts.specs.declared.fault.Refusal.{Refusal}
use Rattle.hx_transcripts_parts.specs.declared.fault.Refusal.TheVariants.{Memory, Fault}

-- the number that stands for a rule
abbrev pub code_of : Rule → ℕ
code_of BadFirstLine = 1
code_of BadLine = 2
code_of BadNumber = 3
code_of BadText = 4
code_of WrongOrder = 5
code_of TooLong = 6
code_of NoSuchName = 7

-- nothing, or the rule that is broken
abbrev pub unless : Bool → Rule → Result ⊤ Rule
unless broken rule = if broken then Err rule else Ok tt

-- what is there, or the rule that a missing one breaks
abbrev pub or_broken : {A : Type 0} → Rule → Option A → Result A Rule
or_broken rule None = Err rule
or_broken rule (Some x) = Ok x

-- the refusal is that of the reading, or want of memory
abbrev pub Refuses : {Y : Type 0} → Refusal → Result Y Rule → Type 0
Refuses Memory reading = Unit {0}
Refuses (Fault rule) reading = reading ≡ Err rule

-- what a call returned, seen by view, is what the reading gives, unless memory ran out
abbrev pub Gives : {X Y : Type 0} → (X → Y) → Result X Refusal → Result Y Rule → Type 0
Gives view (Ok x) reading = reading ≡ Ok (view x)
Gives view (Err e) reading = Refuses e reading
