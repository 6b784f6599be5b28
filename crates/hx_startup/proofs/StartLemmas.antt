-- How a check ends.
use Rattle.std.proofs.Common.{ℕ, List, refl}
use Rattle.hx_doors.specs.Cabinets.{CabinetState}
use Rattle.hx_doors.specs.Doors.{DoorState}
use Rattle.hx_config.specs.declared.config.Config.{Config}
use Rattle.hx_config.specs.Views.{meaning}
use Rattle.hx_startup.specs.Options.{TakesWords, NamesFile, AsksCheck}
use Rattle.hx_startup.specs.Files.{HoldsConfig}
use Rattle.hx_startup.specs.Starts.{EndsCheck, HasCause}
use Rattle.hx_startup.specs.declared.ending.Ending.{Ending}
use Rattle.hx_startup.specs.declared.ending.Ending.TheVariants as ending
use Rattle.hx_startup.specs.declared.start.Start.TheVariants.{Over}

pub check_ends : (words : List (List ℕ)) (old new : CabinetState) (door : DoorState) (name : List ℕ) (config : Config) (e : Ending) → TakesWords words
    → AsksCheck words → NamesFile words name → HoldsConfig name old new (meaning config) → EndsCheck config.passed_over e → HasCause words old new door door (Over e)
check_ends words old new door name config (ending.Done text) takes asks names holds ends =
    (record { takes = takes; check = asks; name = name; named = names; config = config; holds = holds; lines = ends }, refl)
check_ends words old new door name config (ending.Usage text) takes asks names holds ends = absurd ends
check_ends words old new door name config ending.SourceFault takes asks names holds ends = absurd ends
check_ends words old new door name config (ending.ConfigFault text) takes asks names holds ends = absurd ends
check_ends words old new door name config ending.ListenFault takes asks names holds ends = absurd ends
check_ends words old new door name config ending.NoMemory takes asks names holds ends = tt
