-- Private: what rests at a board, and what its value says of the table.
use Rattle.std.specs.Prelude.{◌≡◌, ℕ, ◌+◌, ◌*◌, ◌<◌, ◌≤◌, ◌==◌, Bool, cond, List, [], ◌∷◌, map, length, Some}
use Rattle.std.specs.Vec.{vec_capacity}
use Rattle.hx_base.specs.declared.numbers.ThreadNo.{ThreadNo}
use Rattle.hx_base.specs.declared.numbers.PlaceNo.{PlaceNo}
use Rattle.hx_base.specs.declared.numbers.ServerNo.{ServerNo}
use Rattle.hx_base.specs.Shown.{Shown}
use Rattle.hx_pool.specs.declared.board.BoardTerms.{BoardTerms}
use Rattle.hx_pool.specs.declared.entries.Note.{Note}
use Rattle.hx_pool.specs.Table.{Spot, Vacant, Holds, IsInRow, spot_no}
use Rattle.hx_pool.specs.History.{table_after, what_of, own_of, opens_of, IsLegal}
use Rattle.hx_pool.specs.Rules.{KeepsMode, KeepsLimit}
use Rattle.hx_pool.specs.SeatView.{AllBelow}
use Rattle.hx_pool.specs.Opening.{open_limit}
use Rattle.hx_pool.specs.Taking.{last_park}
use Rattle.hx_resting.specs.declared.values.Rest.{Rest}
use Rattle.hx_resting.specs.declared.values.Rows.{Rows}

-- a place, and what rests there
pub record Rested : Type 0 where
  pub place : PlaceNo
  pub shown : Shown

-- what the values of a list show, each at its place
abbrev pub rests_of : {V : Type 0} → (V → Shown) → List (Rest V) → List Rested
rests_of shows xs = map (λ x. record { place = x.place; shown = shows x.v }) xs

-- what stands at a place, counted over all rows
abbrev pub spot_in : List Rested → ℕ → Spot
spot_in [] p = Vacant
spot_in (x ∷ xs) p = cond (p == spot_no x.place) (Holds x.shown.face) (spot_in xs p)

-- the place is in a row of a board of so many threads
abbrev pub IsAtBoard : ℕ → PlaceNo → Type 0
IsAtBoard threads place = (place.row < threads) × IsInRow place

-- no two at one place, and each in a row of the board
abbrev pub AreApart : ℕ → List Rested → Type 0
AreApart threads [] = Unit {0}
AreApart threads (x ∷ xs) = IsAtBoard threads x.place × (spot_in xs (spot_no x.place) ≡ Vacant) × AreApart threads xs

-- each was dialled for the server, and shows what stands beside its last Park
abbrev pub AreKept : List Note → ServerNo → List Rested → Type 0
AreKept H server [] = Unit {0}
AreKept H server (x ∷ xs) = (x.shown.server ≡ server) × (what_of H x.shown.face.id.0 ≡ Some x.shown.what) × AreKept H server xs

-- each was parked after the entry that stands at this number
abbrev pub AreLater : List Note → ℕ → List Rested → Type 0
AreLater H k [] = Unit {0}
AreLater H k (x ∷ xs) = (k < last_park H x.shown.face.id.0) × AreLater H k xs

-- what was parked later stands later
abbrev pub AreRising : List Note → List Rested → Type 0
AreRising H [] = Unit {0}
AreRising H (x ∷ xs) = AreLater H (last_park H x.shown.face.id.0) xs × AreRising H xs

-- what the value says of the table: the next connection, the drain state, the count, the purge interval
pub record Known : Type 0 where
  pub next : ℕ
  pub draining : Bool
  pub count : ℕ
  pub round : ℕ

-- the history is one that the rules allow, and its entries are by threads of the board
pub record IsRight (b : BoardTerms) (H : List Note) : Type 0 where
  pub legal : IsLegal H
  pub mode : KeepsMode b.rules H
  pub limit : KeepsLimit b.rules H
  pub threads : AllBelow b.threads H

-- the value says what the table after the history says
pub record Stands (b : BoardTerms) (H : List Note) (k : Known) (rests : List Rested) : Type 0 where
  pub right : IsRight b H
  pub next_is : (table_after H).next ≡ k.next
  pub gate_is : (table_after H).draining ≡ k.draining
  pub count_is : (table_after H).count ≡ k.count
  pub round_is : (table_after H).round ≡ k.round
  pub resting_is : (table_after H).resting ≡ length rests
  pub spots_are : (p : ℕ) → (table_after H).spots p ≡ spot_in rests p
  pub apart : AreApart b.threads rests
  pub kept : AreKept H b.server rests
  pub rising : AreRising H rests
  pub opened : opens_of H + 1 ≡ k.next
  pub few : (t : ThreadNo) → opens_of (own_of t H) ≤ open_limit t

module _ {V : Type 0} (shows : V → Shown) where
  -- the count is that of the values that rest
  abbrev pub known_of : Rows V → Known
  known_of r = record { next = r.next; draining = r.draining; count = length (rests_of shows r.resting.items); round = r.round }

  -- the value after the history: its vector has room for all places
  pub record IsAfter (b : BoardTerms) (H : List Note) (r : Rows V) : Type 0 where
    pub stands : Stands b H (known_of r) (rests_of shows r.resting.items)
    pub roomy : 64 * b.threads ≤ vec_capacity r.resting
