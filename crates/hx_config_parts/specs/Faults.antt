-- What is wrong with a text, and reading that stops at the first fault.
use Rattle.std.specs.Prelude.{◌≡◌, ℕ, Result, Ok, Err}
use Rattle.hx_config_parts.specs.declared.fault.Rule.{Rule}
use Rattle.hx_config_parts.specs.declared.fault.Rule.TheVariants.{NotAscii, UnknownWord, WrongPlace, MissingValue, BadNumber, BadTime, BadAddress, DoubleName, NoSuchBackend, TooMany, NoServer}
use Rattle.hx_config_parts.specs.declared.fault.Refusal.{Refusal}
use Rattle.hx_config_parts.specs.declared.fault.Refusal.TheVariants.{Memory, Fault}
use Rattle.hx_config_parts.specs.declared.fault.Flaw.{Flaw}
use Rattle.hx_config_parts.specs.declared.fault.Stop.{Stop}
use Rattle.hx_config_parts.specs.declared.fault.Stop.TheVariants as stop
use Rattle.hx_config_parts.specs.declared.fault.ConfigFault.{ConfigFault}
use Rattle.hx_config_parts.specs.declared.fault.ConfigFault.TheVariants.{At, NoMemory}

-- the number that stands for a rule
abbrev pub code_of : Rule → ℕ
code_of NotAscii = 1
code_of UnknownWord = 2
code_of WrongPlace = 3
code_of MissingValue = 4
code_of BadNumber = 5
code_of BadTime = 6
code_of BadAddress = 7
code_of DoubleName = 8
code_of NoSuchBackend = 9
code_of TooMany = 10
code_of NoServer = 11

-- what is read next, unless there is a fault already
infixl 10 ◌>>=◌
-- what comes of both, or the first refusal
abbrev pub ◌>>=◌ : {A B E : Type 0} → Result A E → (A → Result B E) → Result B E
(Ok x) >>= f = f x
(Err e) >>= f = Err e

-- the refusal is that of the reading, or want of memory
abbrev pub Refuses : {Y : Type 0} → Refusal → Result Y Rule → Type 0
Refuses Memory reading = Unit {0}
Refuses (Fault rule) reading = reading ≡ Err rule

-- what a call returned, seen by view, is what the reading gives, unless memory ran out
abbrev pub Gives : {X Y : Type 0} → (X → Y) → Result X Refusal → Result Y Rule → Type 0
Gives view (Ok x) reading = reading ≡ Ok (view x)
Gives view (Err e) reading = Refuses e reading

-- the same of a whole text, where a fault has a line
abbrev pub Halts : {Y : Type 0} → Stop → Result Y Flaw → Type 0
Halts stop.Memory reading = Unit {0}
Halts (stop.At flaw) reading = reading ≡ Err flaw

-- what a call returned of a whole text, seen by view, is what the reading gives, unless memory ran out
abbrev pub Leads : {X Y : Type 0} → (X → Y) → Result X Stop → Result Y Flaw → Type 0
Leads view (Ok x) reading = reading ≡ Ok (view x)
Leads view (Err e) reading = Halts e reading

-- the refusal of a line, with the number of the line
abbrev pub stop_at : ℕ → Refusal → Stop
stop_at line Memory = stop.Memory
stop_at line (Fault rule) = stop.At (record { line = line; rule = rule })

-- the fault is that of the text, or want of memory
abbrev pub IsFaultOf : {Y : Type 0} → ConfigFault → Result Y Flaw → Type 0
IsFaultOf NoMemory reading = Unit {0}
IsFaultOf (At line rule) (Ok x) = ⊥
IsFaultOf (At line rule) (Err flaw) = (line ≡ flaw.line) × (rule ≡ code_of flaw.rule)
