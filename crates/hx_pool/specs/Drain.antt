-- Draining a server: what rests there is taken, and nothing is parked any more.
use Rattle.std.specs.Prelude.{◌≡◌, ℕ, ◌+◌, ◌*◌, ◌<◌, ◌≤◌, ◌⊎◌, true, false, cond, List, [], ◌∷◌, ◌++◌, Option, Some, None, MatchOption, IfSome}
use Rattle.hx_base.specs.declared.numbers.ThreadNo.{ThreadNo}
use Rattle.hx_base.specs.declared.numbers.SessionNo.{SessionNo}
use Rattle.hx_base.specs.declared.numbers.PlaceNo.{PlaceNo}
use Rattle.hx_base.specs.declared.numbers.Face.{Face}
use Rattle.hx_base.specs.Shown.{Shown}
use Rattle.hx_pool.specs.declared.entries.Entry.TheVariants.{Park, Gate, SetGate}
use Rattle.hx_pool.specs.declared.entries.Note.{Note}
use Rattle.hx_pool.specs.Table.{Holds, IsInRow, spot_at}
use Rattle.hx_pool.specs.History.{plain, own_of, table_after}
use Rattle.hx_pool.specs.SeatView.{History}
use Rattle.hx_pool.specs.Causes.{LooksOnly, IsCovered, AllCovered, place_of, nth_place, caretaker}
use Rattle.hx_pool.specs.Taking.{Takes}

-- one note more since the drain was set, if it was
abbrev pub since_more : Note → Option (List Note) → Option (List Note)
since_more x None = None
since_more x (Some es) = Some (es ++ x ∷ [])

-- what was noted since the last drain was set, with one note more
abbrev pub since_after : Option (List Note) → Note → Option (List Note)
since_after o x = elim x.entry [ SetGate t draining ↦ cond draining (Some []) (since_more x o) | _ ↦ since_more x o ]

-- the same with these notes more
abbrev pub since_from : Option (List Note) → List Note → Option (List Note)
since_from o [] = o
since_from o (x ∷ xs) = since_from (since_after o x) xs

-- the seat's own entries since its last SetGate that is draining, where it made one
abbrev pub since_drain : List Note → Option (List Note)
since_drain mine = since_from None mine

-- drain_next with a value: it took from a place that the drain had not passed, so from each at most once
pub record DrainsOne (old new : History) (v : Shown) : Type 0 where
  pub set : (es : List Note) × (since_drain old.mine ≡ Some es)
  pub from : ℕ
  pub at : ℕ
  pub was : old.passed ≡ Some from
  pub below : from ≤ at
  pub inside : at < 64 * old.about.threads
  pub passed : new.passed ≡ Some (at + 1)
  pub takes : Takes old new [] caretaker false (nth_place old.about.thread old.about.threads at) v

-- drain_next with None: no drain was set, or since the last one each place has a Take or is unavailable
pub record DrainsNone (old new : History) : Type 0 where
  pub looks : LooksOnly old new
  pub passed : MatchOption old.passed (new.passed ≡ None) (λ _. new.passed ≡ Some (64 * old.about.threads))
  pub all : IfSome (since_drain new.mine) (λ es. AllCovered old.about es)

-- none of them sets the drain state
abbrev pub NoSetGate : List Note → Type 0
NoSetGate [] = Unit {0}
NoSetGate (x ∷ xs) = (elim x.entry [ SetGate t draining ↦ ⊥ | _ ↦ Unit {0} ]) × NoSetGate xs

-- since the Park that put its connection there, that thread made no entry, or one Gate that shows draining
pub record IsPending (H : List Note) (place : PlaceNo) (f : Face) : Type 0 where
  pub before : List Note
  pub park : Note
  pub later : List Note
  pub parts : H ≡ before ++ park ∷ later
  pub t : ThreadNo
  pub n : SessionNo
  pub is_park : park.entry ≡ Park t n f.id place f.uses
  pub due : (own_of t later ≡ []) ⊎ (own_of t later ≡ plain (Gate t true) ∷ [])

-- where the last SetGate is a draining one by t, and t has covered each place after it, all that rests is pending
abbrev pub IsDrained : ℕ → List Note → ThreadNo → Type 0
IsDrained threads H t = (before later : List Note) → H ≡ before ++ plain (SetGate t true) ∷ later → NoSetGate later
    → ((row p : ℕ) → row < threads → p < 64 → IsCovered t (own_of t later) (place_of row p))
    → (place : PlaceNo) (f : Face) → IsInRow place → spot_at (table_after H) place ≡ Holds f → IsPending H place f
