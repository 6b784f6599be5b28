-- What a door listens at once it listens for a whole configuration.
use Rattle.std.specs.Prelude.{◌≡◌, ◌⊎◌, ℕ, ◌+◌, ◌++◌, List, [], ◌∷◌, Option, None, map, option_map}
use Rattle.hx_base.specs.Counts.{Rose}
use Rattle.hx_base.specs.declared.address.Address.{Address}
use Rattle.hx_config.specs.declared.parts.Front.{Front}
use Rattle.hx_doors.specs.Doors.{DoorState}

-- the listens of one front
abbrev pub binds_at : ℕ → List Address → List (ℕ × Address)
binds_at front binds = map (λ a. (front, a)) binds

-- those of all fronts, in order, each with its front's number, counted on from the first one's
unfoldable pub binds_of : ℕ → List Front → List (ℕ × Address)
binds_of first [] = []
binds_of first (f ∷ fronts) = binds_at first f.binds ++ binds_of (first + 1) fronts

-- a list gained these at its end, or isn't told any more
abbrev pub GainsAll : {A : Type 0} → List A → Option (List A) → Option (List A) → Type 0
GainsAll more old new = (new ≡ option_map (λ xs. xs ++ more) old) ⊎ (new ≡ None)

-- the door listens at these besides, and nothing else changed
abbrev pub Listens : DoorState → DoorState → List (ℕ × Address) → Type 0
Listens old new binds = (new ≡ record old { listens = new.listens }) × GainsAll binds old.listens new.listens

-- a listen failed
abbrev pub FailsToListen : DoorState → DoorState → Type 0
FailsToListen old new = (new ≡ record old { faults = new.faults; listens = new.listens }) × Rose old.faults new.faults
