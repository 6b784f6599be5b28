-- What a thread knows of a place by its own entries, whatever the others do meanwhile.
use Rattle.std.specs.Prelude.{◌≡◌, ℕ, ◌/◌, ◌==◌, cond, List, [], ◌∷◌, Option, Some, None}
use Rattle.hx_base.specs.declared.numbers.ThreadNo.{ThreadNo}
use Rattle.hx_base.specs.declared.numbers.PlaceNo.{PlaceNo}
use Rattle.hx_base.specs.declared.numbers.Face.{Face}
use Rattle.hx_pool.specs.declared.entries.Found.{Found}
use Rattle.hx_pool.specs.declared.entries.Found.TheVariants.{Empty, Resting, Leaving}
use Rattle.hx_pool.specs.declared.entries.Entry.{Entry}
use Rattle.hx_pool.specs.declared.entries.Entry.TheVariants.{Park, Take, Free, Look}
use Rattle.hx_pool.specs.declared.entries.Note.{Note}
use Rattle.hx_pool.specs.Table.{Table, Vacant, Holds, Leaves, face_of, spot_no}

-- nothing; that it was last seen vacant; that this thread took from it and has not freed it
pub data Known : Type 0 where
  Unknown : Known
  SeenVacant : Known
  HasEmptied : Known

-- what a look teaches
abbrev pub known_by : Found → Known
known_by Empty = SeenVacant
known_by (Resting f) = Unknown
known_by Leaving = Unknown

-- what is known of the place of this number after one entry more
abbrev pub known_after : ℕ → Known → Entry → Known
known_after p o (Park t n id place uses) = cond (spot_no place == p) Unknown o
known_after p o (Take t n first place id uses) = cond (spot_no place == p) HasEmptied o
known_after p o (Free t place) = cond (spot_no place == p) SeenVacant o
known_after p o (Look t place found) = cond (spot_no place == p) (known_by found) o
known_after p o _ = o

-- the same after these notes more
abbrev pub known_from : ℕ → Known → List Note → Known
known_from p o [] = o
known_from p o (x ∷ xs) = known_from p (known_after p o x.entry) xs

-- what a thread knows that made these entries
abbrev pub known_of : List Note → ℕ → Known
known_of mine p = known_from p Unknown mine

-- the thread last saw the place vacant
abbrev pub WasVacant : List Note → PlaceNo → Type 0
WasVacant mine place = known_of mine (spot_no place) ≡ SeenVacant

-- it is so in the table: an own place that was seen vacant stays so while its thread does not park there
abbrev pub KnowsIn : Table → ThreadNo → ℕ → Known → Type 0
KnowsIn T t p Unknown = Unit {0}
KnowsIn T t p SeenVacant = p / 64 ≡ t.0 → T.spots p ≡ Vacant
KnowsIn T t p HasEmptied = T.spots p ≡ Leaves t

-- what may rest at a place after a look
abbrev pub rested_by : Found → Option Face
rested_by Empty = None
rested_by (Resting f) = Some f
rested_by Leaving = None

-- what may rest at the place of this number after one entry more of its row's thread
abbrev pub rested_after : ℕ → Option Face → Entry → Option Face
rested_after p o (Park t n id place uses) = cond (spot_no place == p) (Some (face_of id uses)) o
rested_after p o (Take t n first place id uses) = cond (spot_no place == p) None o
rested_after p o (Free t place) = cond (spot_no place == p) None o
rested_after p o (Look t place found) = cond (spot_no place == p) (rested_by found) o
rested_after p o _ = o

-- the same after these notes more
abbrev pub rested_from : ℕ → Option Face → List Note → Option Face
rested_from p o [] = o
rested_from p o (x ∷ xs) = rested_from p (rested_after p o x.entry) xs

-- what may rest at an own place, by the entries of its row's thread
abbrev pub rested_of : List Note → ℕ → Option Face
rested_of mine p = rested_from p None mine

-- it is so in the table: at a place of the thread's row nothing else rests
abbrev pub RestsIn : Table → ThreadNo → ℕ → Option Face → Type 0
RestsIn T t p o = p / 64 ≡ t.0 → (f : Face) → T.spots p ≡ Holds f → o ≡ Some f
