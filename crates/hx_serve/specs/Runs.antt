-- How a run ends, and why.
use Rattle.std.specs.Prelude.{◌≡◌, ℕ, List, Result, Ok, Err}
use Rattle.hx_base.specs.declared.numbers.NoMemory.{NoMemory}
use Rattle.hx_base.specs.Counts.{Rose}
use Rattle.hx_link.specs.Told.{SourceState, SinkState}
use Rattle.hx_link.specs.Whole.{WritesAll}
use Rattle.hx_doors.specs.Cabinets.{CabinetState}
use Rattle.hx_startup.specs.declared.ending.Ending.TheVariants as ending
use Rattle.hx_startup.specs.Options.{TakesWords, NamesFile}
use Rattle.hx_startup.specs.Files.{HoldsConfig, HoldsFault}
use Rattle.hx_config.specs.Meaning.{Meaning}
use Rattle.hx_startup.specs.Starts.{Ends, IsChecked, config_line}
use Rattle.hx_serve.specs.declared.endings.Served.{Served}
use Rattle.hx_serve.specs.declared.endings.Served.TheVariants as served

-- a run that was stopped tells its totals, or memory ran out
abbrev pub IsDone : Served → Type 0
IsDone (served.Ending (ending.Done text)) = Unit {0}
IsDone (served.Ending ending.NoMemory) = Unit {0}
IsDone s = ⊥

-- how serving ended: it was stopped, or memory ran out, and the sink counted no fault; or the orders or the sink failed
abbrev pub IsServed : SourceState → SourceState → SinkState → SinkState → Result Served NoMemory → Type 0
IsServed orders orders' sink sink' (Ok (served.Ending ending.SourceFault)) = Rose orders.faults orders'.faults × (sink'.faults ≡ sink.faults)
IsServed orders orders' sink sink' (Ok served.SinkFault) = Rose sink.faults sink'.faults
IsServed orders orders' sink sink' (Ok s) = IsDone s × (sink'.faults ≡ sink.faults)
IsServed orders orders' sink sink' (Err memory) = sink'.faults ≡ sink.faults

-- what is due was written, and the status is its own; or the sink failed, now or before
abbrev pub Closes : Result Served NoMemory → SinkState → SinkState → ℕ → Type 0
Closes (Ok (served.Ending e)) old new status = Ends e old new status
Closes (Ok served.SinkFault) old new status = (status ≡ 3) × (new ≡ old)
Closes (Err memory) old new status = Ends ending.NoMemory old new status

-- the file that the words name has a first fault, and the line that says so was written
pub record IsRefused (words : List (List ℕ)) (old new : CabinetState) (sink sink' : SinkState) : Type 0 where
  pub takes : TakesWords words
  pub name : List ℕ
  pub named : NamesFile words name
  pub line : ℕ
  pub rule : ℕ
  pub fault : HoldsFault name old new line rule
  pub written : WritesAll sink sink' (config_line line rule)

-- the words' check of their file was printed
abbrev pub IsToldOf : List (List ℕ) → CabinetState → CabinetState → SinkState → SinkState → Type 0
IsToldOf words old new sink sink' = (text : List ℕ) × IsChecked words old new text × WritesAll sink sink' text

-- the words ask for a run, and the file that they name is a configuration, so that it was served
abbrev pub WasServed : List (List ℕ) → CabinetState → CabinetState → Type 0
WasServed words old new = TakesWords words × ((name : List ℕ) × (says : Meaning) × NamesFile words name × HoldsConfig name old new says)
