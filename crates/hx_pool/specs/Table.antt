-- The connection table of one server, and what each entry needs in it and makes of it.
-- It speaks of connections and places alone, and knows nothing of words, slots or lists of a row.
use Rattle.std.specs.Prelude.{◌≡◌, ◌≢◌, ℕ, ◌+◌, ◌-◌, ◌*◌, ◌<◌, ◌≤◌, ◌==◌, max, Bool, false, cond, Option, None}
use Rattle.hx_base.specs.declared.numbers.ThreadNo.{ThreadNo}
use Rattle.hx_base.specs.declared.numbers.SessionNo.{SessionNo}
use Rattle.hx_base.specs.declared.numbers.ConnId.{ConnId}
use Rattle.hx_base.specs.declared.numbers.PlaceNo.{PlaceNo}
use Rattle.hx_base.specs.declared.numbers.Face.{Face}
use Rattle.hx_base.specs.declared.what.What.{What}
use Rattle.hx_pool.specs.declared.entries.Found.{Found}
use Rattle.hx_pool.specs.declared.entries.Found.TheVariants.{Empty, Resting, Leaving}
use Rattle.hx_pool.specs.declared.entries.Entry.{Entry}
use Rattle.hx_pool.specs.declared.entries.Entry.TheVariants.{Open, Park, Take, Free, Close, Look, Up, Down, Count, Gate, SetGate, Round}
use Rattle.hx_pool.specs.declared.entries.Note.{Note}

-- the state of a connection's number
pub data Conn : Type 0 where
  Unopened : Conn
  HeldBy : ThreadNo → SessionNo → Conn
  IdleAt : PlaceNo → Conn
  Closed : Conn

-- the state of a place; Leaves names the thread that took from it
pub data Spot : Type 0 where
  Vacant : Spot
  Holds : Face → Spot
  Leaves : ThreadNo → Spot

-- conns, uses and whats by a connection's number (whats: what stood beside its last Park), spots by a place's number;
-- resting is how many places hold a connection, and count is what the threads counted of them
pub record Table : Type 0 where
  pub conns : ℕ → Conn
  pub uses : ℕ → ℕ
  pub whats : ℕ → Option What
  pub spots : ℕ → Spot
  pub next : ℕ
  pub count : ℕ
  pub resting : ℕ
  pub draining : Bool
  pub round : ℕ

-- nothing was opened yet
abbrev pub empty_table : Table
empty_table = record { conns = λ _. Unopened; uses = λ _. 0; whats = λ _. None; spots = λ _. Vacant; next = 1; count = 0; resting = 0; draining = false; round = 0 }

-- f with x at k
abbrev pub put : {A : Type 0} → (ℕ → A) → ℕ → A → ℕ → A
put f k x j = cond (j == k) x (f j)

-- the places counted row by row
abbrev pub spot_no : PlaceNo → ℕ
spot_no place = 64 * place.row + place.place

-- a row has 64 places
abbrev pub IsInRow : PlaceNo → Type 0
IsInRow place = place.place < 64

-- what stands at a place
abbrev pub spot_at : Table → PlaceNo → Spot
spot_at T place = T.spots (spot_no place)

-- the spots with this one at the place
abbrev pub with_spot : Table → PlaceNo → Spot → ℕ → Spot
with_spot T place s = put T.spots (spot_no place) s

-- what a look shows
abbrev pub found_of : Spot → Found
found_of Vacant = Empty
found_of (Holds f) = Resting f
found_of (Leaves t) = Leaving

-- the face of a connection with so many uses
abbrev pub face_of : ConnId → ℕ → Face
face_of id uses = record { id = id; uses = uses }

-- a session parks what it holds, once more used, at a vacant place of its thread's row
pub record ParkNeeds (T : Table) (t : ThreadNo) (n : SessionNo) (id : ConnId) (place : PlaceNo) (uses : ℕ) : Type 0 where
  pub held : T.conns id.0 ≡ HeldBy t n
  pub session : n.0 ≢ 0
  pub row : place.row ≡ t.0
  pub inside : IsInRow place
  pub vacant : spot_at T place ≡ Vacant
  pub used : uses ≡ T.uses id.0 + 1
  pub most : uses ≤ 65535

-- what an entry needs in the table before it
abbrev pub Needs : Table → Entry → Type 0
Needs T (Open t n id) = (n.0 ≢ 0) × (id.0 ≡ T.next)
Needs T (Park t n id place uses) = ParkNeeds T t n id place uses
Needs T (Take t n first place id uses) = IsInRow place × (spot_at T place ≡ Holds (face_of id uses))
Needs T (Free t place) = IsInRow place × (spot_at T place ≡ Leaves t)
Needs T (Close t n id) = T.conns id.0 ≡ HeldBy t n
Needs T (Look t place found) = IsInRow place × (found ≡ found_of (spot_at T place))
Needs T (Up t old) = old ≡ T.count
Needs T (Down t old) = (old ≡ T.count) × (1 ≤ old)
Needs T (Count t c) = c ≡ T.count
Needs T (Gate t draining) = draining ≡ T.draining
Needs T (SetGate t draining) = Unit {0}
Needs T (Round t k old) = old ≡ T.round

-- the table after an entry, beside which this stands
abbrev pub after_entry : Table → Option What → Entry → Table
after_entry T w (Open t n id) = record T { conns = put T.conns id.0 (HeldBy t n); uses = put T.uses id.0 0; next = T.next + 1 }
after_entry T w (Park t n id place uses) = record T { conns = put T.conns id.0 (IdleAt place); uses = put T.uses id.0 uses; whats = put T.whats id.0 w; spots = with_spot T place (Holds (face_of id uses)); resting = T.resting + 1 }
after_entry T w (Take t n first place id uses) = record T { conns = put T.conns id.0 (HeldBy t n); spots = with_spot T place (Leaves t); resting = T.resting - 1 }
after_entry T w (Free t place) = record T { spots = with_spot T place Vacant }
after_entry T w (Close t n id) = record T { conns = put T.conns id.0 Closed }
after_entry T w (Look t place found) = T
after_entry T w (Up t old) = record T { count = T.count + 1 }
after_entry T w (Down t old) = record T { count = T.count - 1 }
after_entry T w (Count t c) = T
after_entry T w (Gate t draining) = T
after_entry T w (SetGate t draining) = record T { draining = draining }
after_entry T w (Round t k old) = record T { round = max k old }

-- the table after a note
abbrev pub after : Table → Note → Table
after T x = after_entry T x.what x.entry

-- one step of the table
abbrev pub Steps : Table → Note → Table → Type 0
Steps old x new = Needs old x.entry × (new ≡ after old x)
