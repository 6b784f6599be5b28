-- Private: what contracts see of a seat's token, and what each of its calls does.
use Rattle.std.specs.Prelude.{◌≡◌, ℕ, Bool, true, false, List, [], ◌∷◌, ◌++◌, Option, None}
use Rattle.hx_base.specs.Shown.{Shown}
use Rattle.hx_pool.specs.declared.entries.Note.{Note}
use Rattle.hx_pool.specs.History.{own_of}
use Rattle.hx_resting.specs.declared.values.Rows.{Rows}
use Rattle.hx_resting.specs.Desks.{DeskView}
use Rattle.hx_resting.specs.Rows.{IsAfter}
use Rattle.hx_lockboard.specs.Views.{settled, Hears}

-- the slot that the token holds while the value is out
abbrev pub carried_of : {A : Type 0} → Bool → List (ℕ × Option A)
carried_of true = (0, None) ∷ []
carried_of false = []

-- the value was got
pub record Gets {V : Type 0} (shows : V → Shown) (old new : DeskView) (rows : Rows V) : Type 0 where
  pub between : List Note
  pub desk : new ≡ record { board = old.board; view = record old.view { out = true; seen = old.view.seen ++ between; noted = [] } }
  pub others : own_of old.view.thread between ≡ []
  pub own : old.view.mine ≡ own_of old.view.thread (old.view.seen ++ between)
  pub after : IsAfter shows old.view.terms (old.view.seen ++ between) rows

-- the token after the value went back
abbrev pub given_back : DeskView → DeskView
given_back d = record { board = d.board; view = settled d.view }

-- the other has heard what this one had seen
pub record Told (first old new : DeskView) : Type 0 where
  pub board : new.board ≡ old.board
  pub hears : Hears (record old.view { told = first.view.seen }) new.view
