-- The order in which a thread makes its own entries. It counts up before it parks, and down after it took. After a Park
-- it reads the drain state, and where that shows draining it tries to take the connection back.
use Rattle.std.specs.Prelude.{◌≡◌, ◌≢◌, ℕ, ◌<◌, Bool, cond, List, [], ◌∷◌, Option, IfSome}
use Rattle.hx_base.specs.declared.numbers.PlaceNo.{PlaceNo}
use Rattle.hx_base.specs.declared.numbers.Face.{Face}
use Rattle.hx_pool.specs.declared.entries.Found.TheVariants.{Resting}
use Rattle.hx_pool.specs.declared.entries.Entry.{Entry}
use Rattle.hx_pool.specs.declared.entries.Entry.TheVariants.{Park, Take, Look, Up, Down, Gate}
use Rattle.hx_pool.specs.declared.entries.Note.{Note}
use Rattle.hx_pool.specs.Table.{face_of}

-- what a thread still owes the count: nothing; after an Up with this old count a Park or a Down; after a Take a Down
pub data Due : Type 0 where
  Settled : Due
  WentUp : ℕ → Due
  HasTaken : Due

-- what a thread still owes a Park: nothing; the Gate that follows; where that shows draining, the try to take it back
pub data Call : Type 0 where
  AtEase : Call
  HasParked : PlaceNo → Face → Call
  FoundDrain : PlaceNo → Face → Call

-- what a thread still owes
pub record Turn : Type 0 where
  pub due : Due
  pub call : Call

-- nothing
abbrev pub first_turn : Turn
first_turn = record { due = Settled; call = AtEase }

-- what it owes the count after one entry more
abbrev pub due_after : Due → Entry → Due
due_after d (Park t n id place uses) = Settled
due_after d (Take t n first place id uses) = HasTaken
due_after d (Up t old) = WentUp old
due_after d (Down t old) = Settled
due_after d _ = d

-- what it owes a Park after a Gate
abbrev pub gate_after : Call → Bool → Call
gate_after AtEase draining = AtEase
gate_after (HasParked place f) draining = cond draining (FoundDrain place f) AtEase
gate_after (FoundDrain place f) draining = AtEase

-- the same after one entry more
abbrev pub call_after : Call → Entry → Call
call_after c (Park t n id place uses) = HasParked place (face_of id uses)
call_after c (Gate t draining) = gate_after c draining
call_after c _ = AtEase

-- what it owes after one entry more
abbrev pub turn_after : Turn → Entry → Turn
turn_after s e = record { due = due_after s.due e; call = call_after s.call e }

-- the same after these notes more
abbrev pub turn_from : Turn → List Note → Turn
turn_from s [] = s
turn_from s (x ∷ xs) = turn_from (turn_after s x.entry) xs

-- what a thread owes that made these entries
abbrev pub turn_of : List Note → Turn
turn_of mine = turn_from first_turn mine

-- the count of the Up was below the greatest number
abbrev pub IsBelow : Option ℕ → ℕ → Type 0
IsBelow max old = IfSome max (λ m. old < m)

-- the entry is due, or may be made where nothing is: a Park after an Up below the greatest number, a Down after an Up
-- or a Take, and an Up and a Take where the count is settled
abbrev pub CountsInTurn : Option ℕ → Due → Entry → Type 0
CountsInTurn max d (Park t n id place uses) = (old : ℕ) × (d ≡ WentUp old) × IsBelow max old
CountsInTurn max d (Take t n first place id uses) = d ≡ Settled
CountsInTurn max d (Up t old) = d ≡ Settled
CountsInTurn max d (Down t old) = d ≢ Settled
CountsInTurn max d _ = Unit {0}

-- a Gate
abbrev pub IsGate : Entry → Type 0
IsGate (Gate t draining) = Unit {0}
IsGate _ = ⊥

-- a Take from the place, or a Look at it that does not show the face
abbrev pub TriesBack : PlaceNo → Face → Entry → Type 0
TriesBack at f (Take t n first place id uses) = place ≡ at
TriesBack at f (Look t place found) = (place ≡ at) × (found ≢ Resting f)
TriesBack at f _ = ⊥

-- the entry is the one that a Park wants next
abbrev pub FollowsPark : Call → Entry → Type 0
FollowsPark AtEase e = Unit {0}
FollowsPark (HasParked place f) e = IsGate e
FollowsPark (FoundDrain place f) e = TriesBack place f e

-- the entry may be its thread's next one
abbrev pub MayTurn : Option ℕ → Turn → Entry → Type 0
MayTurn max s e = CountsInTurn max s.due e × FollowsPark s.call e

-- each of them may be the next one in its turn
abbrev pub TurnsFrom : Option ℕ → Turn → List Note → Type 0
TurnsFrom max s [] = Unit {0}
TurnsFrom max s (x ∷ xs) = MayTurn max s x.entry × TurnsFrom max (turn_after s x.entry) xs

-- a thread's own entries, from its first one on
abbrev pub KeepsTurns : Option ℕ → List Note → Type 0
KeepsTurns max mine = TurnsFrom max first_turn mine
