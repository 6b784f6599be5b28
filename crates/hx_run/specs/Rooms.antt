-- Private: room that is made server by server.
use Rattle.std.specs.Prelude.{ℕ, zero, suc, List, [], ◌∷◌, ⊤}
use Rattle.hx_connecting.specs.Journals.{JournalRoom}
use Rattle.hx_run.specs.Overs.{HasRoom}

-- the first k journals have room for so many marks more
abbrev pub RoomBelow : ℕ → ℕ → List JournalRoom → Type 0
RoomBelow marks k [] = ⊤
RoomBelow marks zero (j ∷ js) = ⊤
RoomBelow marks (suc k) (j ∷ js) = HasRoom marks j × RoomBelow marks k js
