-- Private: what contracts see of a seat's token, and the entries that it writes.
use Rattle.std.specs.Prelude.{List, [], ◌∷◌, ◌++◌}
use Rattle.atomic_table.specs.Seated.{TableId}
use Rattle.hx_pool.specs.declared.entries.Note.{Note}
use Rattle.hx_resting.specs.declared.roles.View.{View}

-- a token: the board where it is, and what its seat knows
pub record DeskView : Type 0 where
  pub board : TableId
  pub view : View

-- one entry more was made since the seat has the value
abbrev pub noting : View → Note → View
noting v x = record v { noted = v.noted ++ x ∷ [] }

-- the token after one entry more
abbrev pub adds_note : DeskView → Note → DeskView
adds_note d x = record { board = d.board; view = noting d.view x }

-- the token after these entries more
abbrev pub adds_notes : DeskView → List Note → DeskView
adds_notes d xs = record { board = d.board; view = record d.view { noted = d.view.noted ++ xs } }
