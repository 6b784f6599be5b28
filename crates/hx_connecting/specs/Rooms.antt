-- What calls of a session leave of the seats' journals: each loses room for the marks that were made at its seat, and for no more.
use Rattle.std.specs.Prelude.{◌≡◌, List, [], ◌∷◌, ◌++◌, ⊤}
use Rattle.hx_pool.specs.declared.entries.Note.{Note}
use Rattle.hx_pool.specs.History.{marks_of}
use Rattle.hx_pool.specs.SeatView.{History, Stores}
use Rattle.hx_connecting.specs.Journals.{JournalRoom}

-- of the calls on one seat
pub record KeepsRoom (old new : History) (a b : JournalRoom) : Type 0 where
  pub added : List Note
  pub mine : new.mine ≡ old.mine ++ added
  pub stores : Stores a.kept b.kept a.spare b.spare (marks_of added)

-- the same of a seat by what it shows
abbrev pub RoomStays : {S : Type 0} → (S → History) → (S → JournalRoom) → S → S → Type 0
RoomStays f g old new = KeepsRoom (f old) (f new) (g old) (g new)

-- of each seat
abbrev pub RoomsStay : {S : Type 0} → (S → History) → (S → JournalRoom) → List S → List S → Type 0
RoomsStay f g [] [] = ⊤
RoomsStay f g (x ∷ olds) (y ∷ news) = RoomStays f g x y × RoomsStay f g olds news
RoomsStay f g olds news = ⊥
