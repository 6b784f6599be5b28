-- What two seats of one board know that told each other.
use Rattle.std.specs.Prelude.{◌≡◌, List, [], ◌++◌}
use Rattle.hx_pool.specs.declared.entries.Note.{Note}
use Rattle.hx_pool.specs.History.{own_of}
use Rattle.hx_pool.specs.SeatView.{History, Calls}

-- common is what the second had observed once it was told: it begins with what either had observed before, begins what
-- either has observed after, and has of either thread just that seat's own entries; neither made an entry
pub record KnowAlike (first second new_first new_second : History) : Type 0 where
  pub common : List Note
  pub from_first : (more : List Note) × (common ≡ first.seen ++ more)
  pub from_second : (more : List Note) × (common ≡ second.seen ++ more)
  pub begins_first : (more : List Note) × (new_first.seen ≡ common ++ more)
  pub begins_second : (more : List Note) × (new_second.seen ≡ common ++ more)
  pub own_of_first : own_of first.about.thread common ≡ new_first.mine
  pub own_of_second : own_of second.about.thread common ≡ new_second.mine
  pub calls_first : Calls first new_first []
  pub calls_second : Calls second new_second []
