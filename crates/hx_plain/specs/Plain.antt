-- Private: what the seat of one row keeps.
use Rattle.std.specs.Prelude.{◌≡◌, ℕ, ◌+◌, ◌<◌, ◌≤◌, Bool, Option, List, [], ◌∷◌, length, Some, None}
use Rattle.hx_base.specs.declared.numbers.ServerNo.{ServerNo}
use Rattle.hx_base.specs.declared.totals.Totals.{Totals}
use Rattle.hx_pool.specs.declared.entries.Note.{Note}
use Rattle.hx_pool.specs.Table.{Vacant, spot_at}
use Rattle.hx_pool.specs.History.{table_after, what_of, opens_of, entries_of}
use Rattle.hx_pool.specs.SeatView.{About, History, IsOneHistory}
use Rattle.hx_pool.specs.Causes.{place_of, IsCovered}
use Rattle.hx_pool.specs.Taking.{last_park}
use Rattle.hx_pool.specs.Drain.{since_drain}
use Rattle.hx_pool.specs.Totals.{totals_of}
use Rattle.hx_plain.specs.Row.{Rested, spot_in}

-- no two at one place, and each in the row
abbrev pub AreApart : List Rested → Type 0
AreApart [] = Unit {0}
AreApart (x ∷ xs) = (x.place < 64) × (spot_in xs x.place ≡ Vacant) × AreApart xs

-- each was dialled for the server, and shows what stands beside its last Park
abbrev pub AreKept : List Note → ServerNo → List Rested → Type 0
AreKept notes server [] = Unit {0}
AreKept notes server (x ∷ xs) = (x.shown.server ≡ server) × (what_of notes x.shown.face.id.0 ≡ Some x.shown.what) × AreKept notes server xs

-- these were parked later
abbrev pub AreLater : List Note → ℕ → List Rested → Type 0
AreLater notes k [] = Unit {0}
AreLater notes k (x ∷ xs) = (k < last_park notes x.shown.face.id.0) × AreLater notes k xs

-- the later parked stand later
abbrev pub AreRising : List Note → List Rested → Type 0
AreRising notes [] = Unit {0}
AreRising notes (x ∷ xs) = AreLater notes (last_park notes x.shown.face.id.0) xs × AreRising notes xs

-- a seat that has seen just its own entries
abbrev pub alone : About → Option ℕ → List Note → History
alone about passed notes = record { about = about; seen = notes; mine = notes; passed = passed }

-- what the fields say of the table: the next connection, the drain state, the count and the purge interval
pub record Known : Type 0 where
  pub next : ℕ
  pub draining : Bool
  pub count : ℕ
  pub round : ℕ

-- the same with the count of the values that rest
abbrev pub known : ℕ → Bool → ℕ → List Rested → Known
known next draining round rests = record { next = next; draining = draining; count = length rests; round = round }

-- the history is one of the board, and the fields say what its table says
pub record Stands (a : About) (notes : List Note) (k : Known) (rests : List Rested) : Type 0 where
  pub one : IsOneHistory a notes notes
  pub next_is : (table_after notes).next ≡ k.next
  pub gate_is : (table_after notes).draining ≡ k.draining
  pub count_is : (table_after notes).count ≡ k.count
  pub round_is : (table_after notes).round ≡ k.round
  pub resting_is : (table_after notes).resting ≡ length rests
  pub spots_are : (p : ℕ) → p < 64 → spot_at (table_after notes) (place_of a.thread.0 p) ≡ spot_in rests p
  pub apart : AreApart rests
  pub kept : AreKept notes a.server rests
  pub rising : AreRising notes rests
  pub opened : opens_of notes + 1 ≡ k.next
  pub few : k.next ≤ 68719476737

-- the drain has covered the places that it passed
abbrev pub Drains : About → List Note → Option ℕ → Type 0
Drains a notes None = since_drain notes ≡ None
Drains a notes (Some q) = (q ≤ 64) × ((es : List Note) × (since_drain notes ≡ Some es) × ((i : ℕ) → i < q → IsCovered a.thread es (place_of a.thread.0 i)))

-- all that the seat keeps: the room of its vector too
pub record KeepsAll (a : About) (notes : List Note) (k : Known) (rests : List Rested) (passed : Option ℕ) (totals : Totals) (room : ℕ) : Type 0 where
  pub stands : Stands a notes k rests
  pub drains : Drains a notes passed
  pub counted : totals ≡ totals_of (entries_of notes)
  pub roomy : 64 ≤ room
