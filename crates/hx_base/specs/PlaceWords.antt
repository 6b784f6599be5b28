-- The word that shows the state of a place. Bits 62 and 63 have the state: 0 vacant, 1 being filled, 2 resting, 3 taken.
-- Of a resting connection bits 16 to 55 have the number and bits 0 to 15 the uses; of a taken one bits 0 to 3 have the
-- thread. All other bits are 0.
use Rattle.std.specs.Prelude.{ℕ, ◌+◌, ◌*◌, ◌<◌, ⊤}
use Rattle.hx_base.specs.declared.numbers.Face.{Face}
use Rattle.hx_base.specs.declared.place_word.PlaceState.{PlaceState}
use Rattle.hx_base.specs.declared.place_word.PlaceState.TheVariants.{Vacant, Filling, Resting, Taken}

-- a face that a word can show: a number from 1 to 2^40 - 1, and at least one use
abbrev pub IsFace : Face → Type 0
IsFace f = (0 < f.id.0) × (f.id.0 < 1099511627776) × (0 < f.uses) × (f.uses < 65536)

-- a state that a word can show
abbrev pub IsPlaceState : PlaceState → Type 0
IsPlaceState Vacant = ⊤
IsPlaceState Filling = ⊤
IsPlaceState (Resting f) = IsFace f
IsPlaceState (Taken t) = t.0 < 16

-- the word of a resting connection
abbrev pub resting_word : ℕ → ℕ → ℕ
resting_word id uses = 9223372036854775808 + id * 65536 + uses

-- the word of a connection that a thread took
abbrev pub taken_word : ℕ → ℕ
taken_word t = 13835058055282163712 + t

-- the word of a state
abbrev pub place_word : PlaceState → ℕ
place_word Vacant = 0
place_word Filling = 4611686018427387904
place_word (Resting f) = resting_word f.id.0 f.uses
place_word (Taken t) = taken_word t.0
