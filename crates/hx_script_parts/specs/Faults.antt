-- What is wrong with a text, and reading that stops at the first fault.
use Rattle.std.specs.Prelude.{◌≡◌, ℕ, Bool, Result, Ok, Err, ⊤, if◌then◌else◌}
pub use Rattle.hx_config_parts.specs.Faults.{◌>>=◌}
use Rattle.hx_script_parts.specs.declared.fault.Rule.{Rule}
use Rattle.hx_script_parts.specs.declared.fault.Rule.TheVariants.{BadFirstLine, BadLine, BadNumber, BadText, NoSuchFrontend, NoSuchServer, BadWorker, WrongPlace, MomentFalls, TooLong, TooMany}
use Rattle.hx_script_parts.specs.declared.fault.Refusal.{Refusal}
use Rattle.hx_script_parts.specs.declared.fault.Refusal.TheVariants.{Memory, Fault}
use Rattle.hx_script_parts.specs.declared.fault.Flaw.{Flaw}
use Rattle.hx_script_parts.specs.declared.fault.Flaw.TheVariants as flaw
use Rattle.hx_script_parts.specs.declared.fault.Stop.{Stop}
use Rattle.hx_script_parts.specs.declared.fault.Stop.TheVariants as stop
use Rattle.hx_script_parts.specs.declared.fault.TextFault.{TextFault}
use Rattle.hx_script_parts.specs.declared.fault.TextFault.TheVariants as text

-- the number that stands for a rule
abbrev pub code_of : Rule → ℕ
code_of BadFirstLine = 1
code_of BadLine = 2
code_of BadNumber = 3
code_of BadText = 4
code_of NoSuchFrontend = 5
code_of NoSuchServer = 6
code_of BadWorker = 7
code_of WrongPlace = 8
code_of MomentFalls = 9
code_of TooLong = 10
code_of TooMany = 11

-- nothing, or the rule that is broken
abbrev pub unless : Bool → Rule → Result ⊤ Rule
unless broken rule = if broken then Err rule else Ok tt

-- the rule that a line breaks, with the number of the line
abbrev pub located : {A : Type 0} → ℕ → Result A Rule → Result A Flaw
located line (Ok x) = Ok x
located line (Err rule) = Err (flaw.Line line rule)

-- the refusal is that of the reading, or want of memory
abbrev pub Refuses : {Y : Type 0} → Refusal → Result Y Rule → Type 0
Refuses Memory reading = Unit {0}
Refuses (Fault rule) reading = reading ≡ Err rule

-- what a call returned, seen by view, is what the reading gives, unless memory ran out
abbrev pub Gives : {X Y : Type 0} → (X → Y) → Result X Refusal → Result Y Rule → Type 0
Gives view (Ok x) reading = reading ≡ Ok (view x)
Gives view (Err e) reading = Refuses e reading

-- the same of a whole text, where a fault has a line
abbrev pub Halts : {Y : Type 0} → Stop → Result Y Flaw → Type 0
Halts stop.Memory reading = Unit {0}
Halts (stop.At f) reading = reading ≡ Err f

-- what a call returned of a whole text, seen by view, is what the reading gives, unless memory ran out
abbrev pub Leads : {X Y : Type 0} → (X → Y) → Result X Stop → Result Y Flaw → Type 0
Leads view (Ok x) reading = reading ≡ Ok (view x)
Leads view (Err e) reading = Halts e reading

-- the refusal of a line, with the number of the line
abbrev pub stop_at : ℕ → Refusal → Stop
stop_at line Memory = stop.Memory
stop_at line (Fault rule) = stop.At (flaw.Line line rule)

-- the fault that a flaw is told as
abbrev pub fault_of : Flaw → TextFault
fault_of (flaw.Line line rule) = text.At line (code_of rule)
fault_of (flaw.Config line rule) = text.Config line rule

-- the fault is that of the text, or want of memory
abbrev pub IsFaultOf : {Y : Type 0} → TextFault → Result Y Flaw → Type 0
IsFaultOf text.NoMemory reading = Unit {0}
IsFaultOf fault (Ok x) = ⊥
IsFaultOf fault (Err f) = fault ≡ fault_of f
