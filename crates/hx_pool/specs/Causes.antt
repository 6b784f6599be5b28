-- What the looks of a call show, and the order in which places are looked at.
use Rattle.std.specs.Prelude.{◌≡◌, ◌≢◌, ℕ, ◌+◌, ◌/◌, ◌%◌, ◌<◌, ◌⊎◌, Bool, true, List, [], ◌∷◌}
use Rattle.hx_base.specs.declared.numbers.ThreadNo.{ThreadNo}
use Rattle.hx_base.specs.declared.numbers.SessionNo.{SessionNo}
use Rattle.hx_base.specs.declared.numbers.PlaceNo.{PlaceNo}
use Rattle.hx_base.specs.declared.numbers.Face.{Face}
use Rattle.hx_pool.specs.declared.entries.Found.{Found}
use Rattle.hx_pool.specs.declared.entries.Found.TheVariants.{Empty, Resting}
use Rattle.hx_pool.specs.declared.entries.Entry.{Entry}
use Rattle.hx_pool.specs.declared.entries.Entry.TheVariants.{Take, Look}
use Rattle.hx_pool.specs.declared.entries.Note.{Note}
use Rattle.hx_pool.specs.History.{plain}
use Rattle.hx_pool.specs.SeatView.{About, History, Makes}

-- the session of the purge task
abbrev pub caretaker : SessionNo
caretaker = record { 0 = 0 }

-- a place by its row and its number there
abbrev pub place_of : ℕ → ℕ → PlaceNo
place_of row place = record { row = row; place = place }

-- the places in the order of a thread: its own row first
abbrev pub nth_place : ThreadNo → ℕ → ℕ → PlaceNo
nth_place t threads q = place_of ((t.0 + q / 64) % threads) (q % 64)

-- one of the entries is such
abbrev pub Among : (Entry → Type 0) → List Note → Type 0
Among P [] = ⊥
Among P (x ∷ xs) = P x.entry ⊎ Among P xs

-- looks by one thread
abbrev pub AllLooks : ThreadNo → List Note → Type 0
AllLooks t [] = Unit {0}
AllLooks t (x ∷ xs) = ((place : PlaceNo) × (found : Found) × (x ≡ plain (Look t place found))) × AllLooks t xs

-- the call only looked
pub record LooksOnly (old new : History) : Type 0 where
  pub looks : List Note
  pub looked : AllLooks old.about.thread looks
  pub makes : Makes old new looks

-- a look at the place showed that it is taken
abbrev pub ShowsTaken : ThreadNo → List Note → PlaceNo → Type 0
ShowsTaken t es place = (found : Found) × (found ≢ Empty) × Among (λ e. e ≡ Look t place found) es

-- a Take at this place
abbrev pub IsTakeAt : PlaceNo → Entry → Type 0
IsTakeAt at (Take t n first place id uses) = place ≡ at
IsTakeAt at _ = ⊥

-- the place has nothing for one who may take such uses: a look showed no such connection there, or two looks showed
-- different faces, so that another took the first
abbrev pub IsUnavailableTo : (ℕ → Bool) → ThreadNo → List Note → PlaceNo → Type 0
IsUnavailableTo may t es place = ((found : Found) × ((f : Face) → may f.uses ≡ true → found ≢ Resting f) × Among (λ e. e ≡ Look t place found) es)
    ⊎ ((f : Face) × (g : Face) × (f ≢ g) × Among (λ e. e ≡ Look t place (Resting f)) es × Among (λ e. e ≡ Look t place (Resting g)) es)

-- the same for the purge task, which may take every connection
abbrev pub IsUnavailable : ThreadNo → List Note → PlaceNo → Type 0
IsUnavailable t es place = IsUnavailableTo (λ _. true) t es place

-- a place was taken from, or had nothing to take
abbrev pub IsCovered : ThreadNo → List Note → PlaceNo → Type 0
IsCovered t es place = Among (IsTakeAt place) es ⊎ IsUnavailable t es place

-- every place of the board
abbrev pub AllCovered : About → List Note → Type 0
AllCovered a es = (row p : ℕ) → row < a.threads → p < 64 → IsCovered a.thread es (place_of row p)
