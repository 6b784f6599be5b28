-- An own answer that is decided stays so until its record is given, and nothing more is read of the client.
use Rattle.std.specs.Prelude.{◌≡◌, ◌⊎◌, ℕ, Option, Some}
use Rattle.hx_record.specs.declared.served.Kind.TheVariants as kind
use Rattle.hx_record.specs.declared.served.Served.{Served}
use Rattle.hx_session.specs.declared.stage.Came.{Came}
use Rattle.hx_session.specs.declared.stage.Came.TheVariants.{On, Moved, Ends}
use Rattle.hx_session.specs.Desks.{DeskNow}
use Rattle.hx_session.specs.Seen.{own_seen}
use Rattle.hx_session.specs.Stages.{StageNow, stage_now}

-- so many bytes were taken of the client, and an answer of that status is decided
abbrev pub OwnAt : ℕ → ℕ → DeskNow → StageNow → Type 0
OwnAt status taken d s = (d.client.taken_count ≡ taken) × (own_seen s ≡ Some status)

-- the record of such an answer
abbrev pub RecordsOwn : ℕ → Option Served → Type 0
RecordsOwn status served = (r : Served) × (served ≡ Some r) × (r.kind ≡ kind.Own status)

-- behind a part of a step
abbrev pub CameOwn : {X : Type 0} → ℕ → ℕ → DeskNow → Came X → Type 0
CameOwn status taken d (On stage w) = OwnAt status taken d (stage_now stage)
CameOwn status taken d (Moved stage w served) = OwnAt status taken d (stage_now stage)
CameOwn status taken d (Ends e) = (d.client.taken_count ≡ taken) × RecordsOwn status e.served

-- and behind a step
abbrev pub DoneOwn : ℕ → ℕ → DeskNow → StageNow → Option Served → Type 0
DoneOwn status taken d s served = (d.client.taken_count ≡ taken) × ((own_seen s ≡ Some status) ⊎ RecordsOwn status served)
