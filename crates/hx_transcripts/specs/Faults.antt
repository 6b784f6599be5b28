-- The first fault of a text.
use Rattle.std.specs.Prelude.{◌≡◌, ℕ, Result, Ok, Err}
use Rattle.hx_script_parts.specs.declared.fault.TextFault.{TextFault}
use Rattle.hx_script_parts.specs.declared.fault.TextFault.TheVariants as text
use Rattle.hx_transcripts_parts.specs.declared.fault.Refusal.{Refusal}
use Rattle.hx_transcripts_parts.specs.declared.fault.Refusal.TheVariants.{Memory, Fault}
use Rattle.hx_transcripts_parts.specs.Faults.{code_of}
use Rattle.hx_transcripts.specs.declared.fault.Flaw.{Flaw}
use Rattle.hx_transcripts.specs.declared.fault.Stop.{Stop}
use Rattle.hx_transcripts.specs.declared.fault.Stop.TheVariants as stop

-- the flaw is that of the reading, or memory ran out
abbrev pub Halts : {Y : Type 0} → Stop → Result Y Flaw → Type 0
Halts stop.Memory reading = Unit {0}
Halts (stop.At f) reading = reading ≡ Err f

-- what a call returned of a text, seen by view, is what the reading gives, unless memory ran out
abbrev pub Leads : {X Y : Type 0} → (X → Y) → Result X Stop → Result Y Flaw → Type 0
Leads view (Ok x) reading = reading ≡ Ok (view x)
Leads view (Err e) reading = Halts e reading

-- the refusal of a line, with the number of the line
abbrev pub stop_at : ℕ → Refusal → Stop
stop_at line Memory = stop.Memory
stop_at line (Fault rule) = stop.At (record { line = line; rule = rule })

-- the fault is that of the text, or want of memory; no transcript has a configuration
abbrev pub IsFaultOf : {Y : Type 0} → TextFault → Result Y Flaw → Type 0
IsFaultOf text.NoMemory reading = Unit {0}
IsFaultOf (text.Config line rule) reading = ⊥
IsFaultOf (text.At line rule) (Ok x) = ⊥
IsFaultOf (text.At line rule) (Err f) = (line ≡ f.line) × (rule ≡ code_of f.rule)
