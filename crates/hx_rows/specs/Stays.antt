-- What a thread parked in its row: lists of stays, in the order of parking, and what they say of the table.
use Rattle.std.specs.Prelude.{◌≡◌, ◌≢◌, ◌⊎◌, ℕ, ◌<◌, ◌≤◌, ◌==◌, Bool, true, false, not, cond, List, [], ◌∷◌, ◌++◌, length}
use Rattle.hx_base.specs.declared.rules.Mode.{Mode}
use Rattle.hx_base.specs.declared.numbers.Face.{Face}
use Rattle.hx_base.specs.PlaceWords.{IsFace}
use Rattle.hx_pool.specs.declared.entries.Note.{Note}
use Rattle.hx_pool.specs.Table.{Holds, spot_at}
use Rattle.hx_pool.specs.History.{table_after}
use Rattle.hx_pool.specs.Causes.{place_of}
use Rattle.hx_pool.specs.Taking.{last_park}
use Rattle.hx_resting.specs.Row.{fits}
use Rattle.hx_rows.specs.declared.stays.Stay.{Stay}

-- a connection with this face at this place of the row
abbrev pub stay_at : ℕ → Face → Stay
stay_at place f = record { place = place; face = f }

-- none of them is at the place
abbrev pub NoneAt : ℕ → List Stay → Type 0
NoneAt place [] = Unit {0}
NoneAt place (x ∷ xs) = (x.place ≢ place) × NoneAt place xs

-- no two at one place, each at one of the row's places and with a face that a word can show
abbrev pub AreApart : List Stay → Type 0
AreApart [] = Unit {0}
AreApart (x ∷ xs) = (x.place < 64) × IsFace x.face × NoneAt x.place xs × AreApart xs

-- without those at the place
abbrev pub others_at : ℕ → List Stay → List Stay
others_at place [] = []
others_at place (x ∷ xs) = cond (x.place == place) (others_at place xs) (x ∷ others_at place xs)

-- the one of this index is at the place, and none before it
pub record IsAt (place : ℕ) (stays : List Stay) (i : ℕ) : Type 0 where
  pub before : List Stay
  pub chosen : Stay
  pub behind : List Stay
  pub parts : stays ≡ before ++ chosen ∷ behind
  pub index : length before ≡ i
  pub at : chosen.place ≡ place

-- the request may take none of them that is in the list which is meant
abbrev pub NoneFits : Mode → Bool → Bool → List Stay → Type 0
NoneFits mode first safe [] = Unit {0}
NoneFits mode first safe (x ∷ xs) = (fits mode first safe x.face.uses ≡ false) × NoneFits mode first safe xs

-- the one of this index is the last one in the list that the request may take
pub record LastFits (mode : Mode) (first safe : Bool) (stays : List Stay) (i : ℕ) : Type 0 where
  pub before : List Stay
  pub chosen : Stay
  pub behind : List Stay
  pub parts : stays ≡ before ++ chosen ∷ behind
  pub index : length before ≡ i
  pub good : fits mode first safe chosen.face.uses ≡ true
  pub none : NoneFits mode first safe behind

-- the one of this index is the last one of the list that the request likes, or, where that has none, of the other
pub record BestFits (mode : Mode) (first : Bool) (stays : List Stay) (i : ℕ) : Type 0 where
  pub safe : Bool
  pub last : LastFits mode first safe stays i
  pub liked : (safe ≡ first) ⊎ ((safe ≡ not first) × NoneFits mode first first stays)

-- the best one was taken out
pub record Pulls (mode : Mode) (first : Bool) (old : List Stay) (x : Stay) (new : List Stay) : Type 0 where
  pub index : ℕ
  pub best : BestFits mode first old index
  pub is : best.last.chosen ≡ x
  pub left : new ≡ best.last.before ++ best.last.behind
  pub inside : x.place < 64
  pub face : IsFace x.face
  pub few : length new < 64

-- the list has it
abbrev pub Lists : List Stay → Stay → Type 0
Lists [] x = ⊥
Lists (y ∷ ys) x = (x ≡ y) ⊎ Lists ys x

-- the connection rests there, in the table after a history
abbrev pub RestsAt : List Note → ℕ → Stay → Type 0
RestsAt H row x = (x.place < 64) × (spot_at (table_after H) (place_of row x.place) ≡ Holds x.face)

-- where both rest, y was not parked before x
abbrev pub IsBehind : List Note → ℕ → Stay → Stay → Type 0
IsBehind H row x y = RestsAt H row x → RestsAt H row y → last_park H x.face.id.0 ≤ last_park H y.face.id.0

-- so for each of them
abbrev pub AllBehind : List Note → ℕ → Stay → List Stay → Type 0
AllBehind H row x [] = Unit {0}
AllBehind H row x (y ∷ ys) = IsBehind H row x y × AllBehind H row x ys

-- what was parked later stands later
abbrev pub AreInOrder : List Note → ℕ → List Stay → Type 0
AreInOrder H row [] = Unit {0}
AreInOrder H row (x ∷ xs) = AllBehind H row x xs × AreInOrder H row xs

-- the list has whatever rests in the row after the history, in the order of parking; beside that it may have stays
-- whose connections are gone
pub record Follows (stays : List Stay) (row : ℕ) (H : List Note) : Type 0 where
  pub listed : (x : Stay) → RestsAt H row x → Lists stays x
  pub order : AreInOrder H row stays
