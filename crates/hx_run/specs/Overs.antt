-- When a server's seat is over.
use Rattle.std.specs.Prelude.{◌≡◌, ℕ, ◌<◌, ◌≤◌, List, [], ◌∷◌, Some, map, slice_get, ⊤}
use Rattle.hx_config.specs.declared.parts.Server.{Server}
use Rattle.hx_plain.specs.PlainSeat.{about_alone}
use Rattle.hx_pool.specs.Table.{Closed}
use Rattle.hx_pool.specs.History.{table_after}
use Rattle.hx_pool.specs.Journal.{Journal, journal_from}
use Rattle.hx_pool.specs.SeatView.{About, History, StandsInOneHistory}
use Rattle.hx_connecting.specs.Journals.{JournalRoom}
use Rattle.hx_run.specs.Begins.{start}

-- the seat of the one thread at the server's board, under its rules
abbrev pub IsAlone : Server → About → Type 0
IsAlone s a = a ≡ about_alone s.no s.rules start a.board

-- one for each server, in order
abbrev pub AreAlone : List Server → List About → Type 0
AreAlone [] [] = ⊤
AreAlone (s ∷ servers) (a ∷ seats) = IsAlone s a × AreAlone servers seats
AreAlone servers seats = ⊥

-- the journal is whole from the beginning
abbrev pub IsKept : JournalRoom → Type 0
IsKept j = j.kept ≡ Some 0

-- it has room for so many marks more
abbrev pub HasRoom : ℕ → JournalRoom → Type 0
HasRoom marks j = marks ≤ j.spare

-- each connection that was opened is closed
abbrev pub AllClosed : History → Type 0
AllClosed h = (i : ℕ) → 1 ≤ i → i < (table_after h.seen).next → (table_after h.seen).conns i ≡ Closed

-- at each of the first seats
abbrev pub ClosedBelow : ℕ → List History → Type 0
ClosedBelow k seats = (i : ℕ) (h : History) → i < k → slice_get seats i ≡ Some h → AllClosed h

-- the histories of seats with a journal, in order
abbrev pub histories : List Journal → List History
histories seats = map (λ (j : Journal). j.history) seats

-- the seat was alone at the server's board under its rules, and stands in one legal history that keeps mode and limit; its
-- journal has each mark of it; and each connection that was opened is closed
pub record IsOver (s : Server) (j : Journal) : Type 0 where
  pub about : IsAlone s j.history.about
  pub one : StandsInOneHistory j.history
  pub kept : journal_from j ≡ Some 0
  pub closed : AllClosed j.history

-- one for each server, in order
abbrev pub AreOver : List Server → List Journal → Type 0
AreOver [] [] = ⊤
AreOver (s ∷ servers) (j ∷ seats) = IsOver s j × AreOver servers seats
AreOver servers seats = ⊥
