-- The entries that calls of a session add at its worker's seats, seat by seat.
use Rattle.std.specs.Prelude.{◌≡◌, ◌⊎◌, ℕ, ◌+◌, Bool, List, [], ◌∷◌, Option, None, ⊤}
use Rattle.hx_base.specs.declared.numbers.SessionNo.{SessionNo}
use Rattle.hx_base.specs.declared.numbers.ThreadNo.{ThreadNo}
use Rattle.hx_conn.specs.Conns.{RestedNow}
use Rattle.hx_pool.specs.declared.entries.Entry.{Entry}
use Rattle.hx_pool.specs.declared.entries.Note.{Note}
use Rattle.hx_pool.specs.SeatView.{History, Calls}
use Rattle.hx_connecting.specs.Touches.{Touch, marks_at}
use Rattle.hx_connecting.specs.Touched.{Marked}
use Rattle.hx_connecting.specs.Wanted.{OpensWereWanted}

-- the calls on one seat added these entries, with these marks, and what they opened was wanted
pub record SeatAdds (old new : History) (n : SessionNo) (first : Bool) (ms : List Entry) (es : List Note) : Type 0 where
  pub makes : Calls old new es
  pub marked : Marked n es ms
  pub wanted : OpensWereWanted new first [] es

-- on each seat, counted on from i, they have the marks of that number
abbrev pub EachAdds : SessionNo → Bool → (ℕ → List Entry) → ℕ → List History → List History → List (List Note) → Type 0
EachAdds n first f i [] [] [] = ⊤
EachAdds n first f i (h ∷ old) (k ∷ new) (es ∷ added) = SeatAdds h k n first (f i) es × EachAdds n first f (i + 1) old new added
EachAdds n first f i old new added = ⊥

-- the entries of calls that touched at most one connection
abbrev pub AddsFor : ThreadNo → SessionNo → Bool → Option Touch → List History → List History → List (List Note) → Type 0
AddsFor t n first x old new added = EachAdds n first (λ k. marks_at t n first x k) 0 old new added

-- calls that touched that connection, or none
pub record TouchesSeats (t : ThreadNo) (n : SessionNo) (first : Bool) (x : Option Touch) (olds news : List History) : Type 0 where
  pub added : List (List Note)
  pub adds : AddsFor t n first x olds news added

-- one, or none
abbrev pub SomeTouches : ThreadNo → SessionNo → Bool → List History → List History → Type 0
SomeTouches t n first olds news = (x : Option Touch) × TouchesSeats t n first x olds news

-- and where they touched one, nothing rests with the session behind them
abbrev pub RestTouches : ThreadNo → SessionNo → Bool → List History → List History → Option RestedNow → Type 0
RestTouches t n first olds news held = (x : Option Touch) × ((x ≡ None) ⊎ (held ≡ None)) × TouchesSeats t n first x olds news
