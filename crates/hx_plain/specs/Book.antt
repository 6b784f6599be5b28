-- Private: the entries of one seat, in a table of its own.
use Rattle.std.specs.Prelude.{◌≡◌, ℕ, List, [], ◌∷◌, ◌++◌, None, false}
use Rattle.atomic_table.specs.Seated.{TableId}
use Rattle.atomic_table.specs.Table.{Me, Step}
use Rattle.hx_pool.specs.declared.entries.Note.{Note}
use Rattle.hx_pool.specs.declared.entries.Entry.TheVariants.{Gate}

-- which table, and the entries so far
pub record Book : Type 0 where
  pub board : TableId
  pub notes : List Note

-- the book with a note more
abbrev pub add_note : Book → Note → Book
add_note b x = record { board = b.board; notes = b.notes ++ x ∷ [] }

-- the book with these notes more
abbrev pub add_notes : Book → List Note → Book
add_notes b xs = record { board = b.board; notes = b.notes ++ xs }

-- the step adds this note to the view, and nothing else
abbrev pub Writes : Note → Step (Unit {0}) → Me (Unit {0}) (List Note) → ℕ → Me (Unit {0}) (List Note) → Type 0
Writes x st m found n = n ≡ (m.0 ++ x ∷ [], m.1)

-- a note that stands for none
abbrev pub no_note : Note
no_note = record { entry = Gate (record { 0 = 0 }) false; what = None }
