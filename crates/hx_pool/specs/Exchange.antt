-- One whole exchange on a new connection.
use Rattle.std.specs.Prelude.{◌≡◌, ℕ, ◌⊎◌, false, List, [], ◌∷◌}
use Rattle.hx_base.specs.declared.numbers.SessionNo.{SessionNo}
use Rattle.hx_base.specs.declared.numbers.ConnId.{ConnId}
use Rattle.hx_base.specs.declared.numbers.PlaceNo.{PlaceNo}
use Rattle.hx_base.specs.Shown.{Shown}
use Rattle.hx_pool.specs.declared.entries.Entry.TheVariants.{Open, Park, Take, Close}
use Rattle.hx_pool.specs.declared.entries.Note.{Note}
use Rattle.hx_pool.specs.declared.refusals.NoPark.{NoPark}
use Rattle.hx_pool.specs.Table.{Closed}
use Rattle.hx_pool.specs.History.{plain, marks_of, opens_of, table_after}
use Rattle.hx_pool.specs.SeatView.{History, Makes, Calls}
use Rattle.hx_pool.specs.Opening.{open_limit, Closes}
use Rattle.hx_pool.specs.Parking.{Parks, RefusesPark}
use Rattle.hx_pool.specs.Taking.{TakesNoneOwn}

-- the session opened a connection, parked it, took one of the own row, and closed that
pub record Exchanges (old new : History) (n : SessionNo) (id : ConnId) : Type 0 where
  pub opened : ConnId
  pub put : PlaceNo
  pub place : PlaceNo
  pub uses : ℕ
  pub added : List Note
  pub makes : Makes old new added
  pub made : marks_of added ≡ Open old.about.thread n opened ∷ Park old.about.thread n opened put 1 ∷ Take old.about.thread n false place id uses ∷ Close old.about.thread n id ∷ []
  pub closed : (table_after new.seen).conns id.0 ≡ Closed

-- the seat had no number left
pub record HasNoNumber (old new : History) : Type 0 where
  pub limit : opens_of old.mine ≡ open_limit old.about.thread
  pub makes : Calls old new []

-- the park was refused, and the session closed the connection
pub record ClosesRefused (old new : History) (n : SessionNo) : Type 0 where
  pub opened : ConnId
  pub held : History
  pub refused : History
  pub v : Shown
  pub why : NoPark
  pub opens : Calls old held (plain (Open old.about.thread n opened) ∷ [])
  pub refuses : RefusesPark held refused n v why
  pub closes : Closes refused new n opened
  pub closed : (table_after new.seen).conns opened.0 ≡ Closed

-- the connection rests, and the session may take none
pub record LeavesParked (old new : History) (n : SessionNo) : Type 0 where
  pub opened : ConnId
  pub held : History
  pub rests : History
  pub v : Shown
  pub put : PlaceNo
  pub opens : Calls old held (plain (Open old.about.thread n opened) ∷ [])
  pub parks : Parks held rests n put v
  pub takes : TakesNoneOwn rests new false

-- why the caller gave up
abbrev pub GivesUp : History → History → SessionNo → Type 0
GivesUp old new n = HasNoNumber old new ⊎ ClosesRefused old new n ⊎ LeavesParked old new n
