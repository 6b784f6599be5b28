-- What the words of a board show. The first four are the server's: the drain state, the next connection's number, the
-- count and the purge interval. Behind them each place has a word, and a slot, where its connection lies.
use Rattle.std.specs.Prelude.{◌≡◌, ℕ, ◌+◌, Bool, cond, List, slice_index}
use Rattle.hx_base.specs.declared.numbers.PlaceNo.{PlaceNo}
use Rattle.hx_base.specs.declared.place_word.PlaceState.{PlaceState}
use Rattle.hx_base.specs.declared.place_word.PlaceState.TheVariants as state
use Rattle.hx_base.specs.PlaceWords.{IsPlaceState, place_word}
use Rattle.hx_pool.specs.Table.{Table, Spot, Vacant, Holds, Leaves, spot_no}

-- the number of a place's word
abbrev pub word_no : PlaceNo → ℕ
word_no place = spot_no place + 4

-- what stands at a place of this state; while it is being filled, nothing yet
abbrev pub spot_of : PlaceState → Spot
spot_of state.Vacant = Vacant
spot_of state.Filling = Vacant
spot_of (state.Resting f) = Holds f
spot_of (state.Taken t) = Leaves t

-- the word of some state
abbrev pub IsPlaceWord : ℕ → Type 0
IsPlaceWord word = (s : PlaceState) × IsPlaceState s × (place_word s ≡ word)

-- the first four words: the drain state, the next number, the count, the purge interval
pub record Heads (ws : List ℕ) (draining : Bool) (next count round : ℕ) : Type 0 where
  pub gate_is : slice_index ws 0 ≡ cond draining 1 0
  pub next_is : slice_index ws 1 ≡ next
  pub count_is : slice_index ws 2 ≡ count
  pub round_is : slice_index ws 3 ≡ round

-- they are those of the table
abbrev pub HeadsOf : List ℕ → Table → Type 0
HeadsOf ws T = Heads ws T.draining T.next T.count T.round
