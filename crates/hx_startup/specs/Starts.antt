-- What a run begins with and how it ends, why, and what is written.
use Rattle.std.specs.Prelude.{◌≡◌, ◌⊎◌, ℕ, ◌++◌, min, max, List, [], codes, decimal, Option, Some, None, Result, Ok, Err}
use Rattle.std.specs.List.{flat_map}
use Rattle.clap.specs.Walk.{one_of}
use Rattle.hx_base.specs.Counts.{Rose}
use Rattle.hx_link.specs.Told.{SinkState}
use Rattle.hx_link.specs.Whole.{WritesAll, WritesPart}
use Rattle.hx_doors.specs.Cabinets.{CabinetState}
use Rattle.hx_doors.specs.Doors.{DoorState}
use Rattle.hx_config_parts.specs.declared.fault.ConfigFault.{ConfigFault}
use Rattle.hx_config_parts.specs.declared.fault.ConfigFault.TheVariants.{At}
use Rattle.hx_config.specs.declared.config.Config.{Config}
use Rattle.hx_config.specs.Views.{meaning}
use Rattle.hx_startup.specs.Options.{TakesWords, NamesFile, AsksCheck, SaysThreads, rows}
use Rattle.hx_startup.specs.Files.{HoldsConfig, HoldsFault}
use Rattle.hx_startup.specs.Listens.{Listens, FailsToListen, binds_of}
use Rattle.hx_startup.specs.declared.ending.Ending.{Ending}
use Rattle.hx_startup.specs.declared.ending.Ending.TheVariants as ending
use Rattle.hx_startup.specs.declared.plan.Plan.{Plan}
use Rattle.hx_startup.specs.declared.start.Start.{Start}
use Rattle.hx_startup.specs.declared.start.Start.TheVariants.{Serve, Over}

-- ---- texts

-- the line of a line that was passed over
unfoldable pub passed_line : ℕ → List ℕ
passed_line line = codes "passed over " ++ decimal line ++ codes "\n"

-- what a check prints
abbrev pub check_lines : List ℕ → List ℕ
check_lines passed_over = flat_map passed_line passed_over ++ codes "config holds\n"

-- the line of a configuration's first fault: its line, counted from 1, and the number of its rule
abbrev pub config_line : ℕ → ℕ → List ℕ
config_line line rule = codes "config " ++ decimal line ++ codes " " ++ decimal rule ++ codes "\n"

-- what is written at an ending
abbrev pub text_of : Ending → List ℕ
text_of (ending.Done text) = text.items
text_of (ending.Usage text) = text.items
text_of ending.SourceFault = []
text_of (ending.ConfigFault text) = text.items
text_of ending.ListenFault = codes "listen fault\n"
text_of ending.NoMemory = []

-- its status
abbrev pub status_of : Ending → ℕ
status_of (ending.Done text) = 0
status_of (ending.Usage text) = 1
status_of ending.SourceFault = 2
status_of (ending.ConfigFault text) = 4
status_of ending.ListenFault = 5
status_of ending.NoMemory = 9

-- the ending's text was written, and the status is its own; or the sink failed, and took a beginning of the text
abbrev pub Ends : Ending → SinkState → SinkState → ℕ → Type 0
Ends e old new status =
    (status ≡ status_of e) × WritesAll old new (text_of e)
    ⊎ (status ≡ 3) × Rose old.faults new.faults × WritesPart old new (text_of e)

-- ---- causes

-- how many threads there are: those of the words, from 1 to 16, else the configuration's own
abbrev pub IsThreads : Option ℕ → ℕ → ℕ → Type 0
IsThreads None own n = n ≡ own
IsThreads (Some said) own n = n ≡ min (max said 1) 16

-- the line of the file's first fault
abbrev pub TellsFault : List ℕ → CabinetState → CabinetState → List ℕ → Type 0
TellsFault name old new text = (line : ℕ) × (rule : ℕ) × HoldsFault name old new line rule × (text ≡ config_line line rule)

-- why a configuration wasn't read
abbrev pub StopsAt : List ℕ → CabinetState → CabinetState → Ending → Type 0
StopsAt name old new ending.SourceFault = Rose old.faults new.faults
StopsAt name old new (ending.ConfigFault text) = TellsFault name old new text.items
StopsAt name old new ending.NoMemory = Unit {0}
StopsAt name old new _ = ⊥

-- a fault's ending has its line; or memory ran out
abbrev pub EndsBy : ConfigFault → Ending → Type 0
EndsBy (At line rule) (ending.ConfigFault text) = text.items ≡ config_line line rule
EndsBy fault ending.NoMemory = Unit {0}
EndsBy fault e = ⊥

-- the file of that name is this configuration; or why it isn't read
abbrev pub ReadsConfig : List ℕ → CabinetState → CabinetState → Result Config Ending → Type 0
ReadsConfig name old new (Ok config) = HoldsConfig name old new (meaning config)
ReadsConfig name old new (Err e) = StopsAt name old new e

-- a check ends with its lines; or memory ran out
abbrev pub EndsCheck : List ℕ → Ending → Type 0
EndsCheck passed_over (ending.Done text) = text.items ≡ check_lines passed_over
EndsCheck passed_over ending.NoMemory = Unit {0}
EndsCheck passed_over e = ⊥

-- the words ask for a run, their file is this configuration, and the door listens for it
pub record IsServing (words : List (List ℕ)) (old new : CabinetState) (door door' : DoorState) (plan : Plan) : Type 0 where
  pub takes : TakesWords words
  pub no_check : AsksCheck words → ⊥
  pub name : List ℕ
  pub named : NamesFile words name
  pub holds : HoldsConfig name old new (meaning plan.config)
  pub listens : Listens door door' (binds_of 0 plan.config.fronts)
  pub said : Option ℕ
  pub says : SaysThreads (one_of (codes "threads") (rows words)) said
  pub threads : IsThreads said plan.config.threads plan.threads

-- the words ask for a check, and this is what it prints of their file
pub record IsChecked (words : List (List ℕ)) (old new : CabinetState) (text : List ℕ) : Type 0 where
  pub takes : TakesWords words
  pub check : AsksCheck words
  pub name : List ℕ
  pub named : NamesFile words name
  pub config : Config
  pub holds : HoldsConfig name old new (meaning config)
  pub lines : text ≡ check_lines config.passed_over

-- a file of the words wasn't read, for this cause
abbrev pub StopsAtFile : List (List ℕ) → CabinetState → CabinetState → Ending → Type 0
StopsAtFile words old new e = TakesWords words × ((name : List ℕ) × NamesFile words name × StopsAt name old new e)

-- the cause of what a run begins with: of each ending, and of serving. Want of memory alone has none
abbrev pub HasCause : List (List ℕ) → CabinetState → CabinetState → DoorState → DoorState → Start → Type 0
HasCause words old new door door' (Serve plan) = IsServing words old new door door' plan
HasCause words old new door door' (Over (ending.Done text)) = IsChecked words old new text.items × (door' ≡ door)
HasCause words old new door door' (Over (ending.Usage text)) = (TakesWords words → ⊥) × (new ≡ old) × (door' ≡ door)
HasCause words old new door door' (Over ending.SourceFault) = StopsAtFile words old new ending.SourceFault × (door' ≡ door)
HasCause words old new door door' (Over (ending.ConfigFault text)) =
    StopsAtFile words old new (ending.ConfigFault text) × (door' ≡ door)
HasCause words old new door door' (Over ending.ListenFault) = TakesWords words × FailsToListen door door'
HasCause words old new door door' (Over ending.NoMemory) = Unit {0}
