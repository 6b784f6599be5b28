-- Private: what a seat keeps.
use Rattle.std.specs.Prelude.{◌≡◌, ℕ, ◌*◌, ◌<◌, ◌≤◌, false, List, [], ◌++◌, Option, Some, None}
use Rattle.hx_base.specs.declared.numbers.ThreadNo.{ThreadNo}
use Rattle.hx_base.specs.declared.totals.Totals.{Totals}
use Rattle.hx_pool.specs.declared.board.BoardTerms.{BoardTerms}
use Rattle.hx_pool.specs.declared.entries.Entry.{Entry}
use Rattle.hx_pool.specs.declared.entries.Note.{Note}
use Rattle.hx_pool.specs.History.{opens_of, entries_of}
use Rattle.hx_pool.specs.SeatView.{About, History, about_of, IsOneHistory}
use Rattle.hx_pool.specs.Opening.{open_limit}
use Rattle.hx_pool.specs.Causes.{nth_place, IsCovered}
use Rattle.hx_pool.specs.Drain.{since_drain}
use Rattle.hx_pool.specs.Totals.{totals_of}
use Rattle.hx_resting.specs.Desks.{DeskView}

-- its history, and the marks of its last call
pub record SeatView : Type 0 where
  pub history : History
  pub last : List Entry

-- what no call of a seat changes
abbrev pub about : BoardTerms → ThreadNo → DeskView → About
about b t d = about_of b t d.board

-- what a seat means, by its token
abbrev pub history : BoardTerms → ThreadNo → Option ℕ → DeskView → History
history b t passed d = record { about = about b t d; seen = d.view.seen; mine = d.view.mine; passed = passed }

-- the drain has covered the places that it passed
abbrev pub Drains : About → List Note → Option ℕ → Type 0
Drains a mine None = since_drain mine ≡ None
Drains a mine (Some q) = (q ≤ 64 * a.threads) × ((es : List Note) × (since_drain mine ≡ Some es) × ((i : ℕ) → i < q → IsCovered a.thread es (nth_place a.thread a.threads i)))

-- between calls the value is at home
pub record KeepsAll (b : BoardTerms) (t : ThreadNo) (d : DeskView) (passed : Option ℕ) (totals : Totals) (opened : ℕ) : Type 0 where
  pub home : d.view.out ≡ false
  pub terms : d.view.terms ≡ b
  pub thread : d.view.thread ≡ t
  pub one : IsOneHistory (about b t d) d.view.seen d.view.mine
  pub drains : Drains (about b t d) d.view.mine passed
  pub counted : totals ≡ totals_of (entries_of d.view.mine)
  pub opened_is : opened ≡ opens_of d.view.mine
  pub few : opened ≤ open_limit t

-- the desk after a call that made these entries: the value was got after the others' entries, and given back
abbrev pub done : DeskView → List Note → List Note → DeskView
done d between ys = record { board = d.board; view = record d.view { out = false; seen = (d.view.seen ++ between) ++ ys; mine = d.view.mine ++ ys; noted = [] } }

-- a new seat has seen nothing
pub record IsUnused (h : History) : Type 0 where
  pub seen : h.seen ≡ []
  pub mine : h.mine ≡ []
  pub passed : h.passed ≡ None
