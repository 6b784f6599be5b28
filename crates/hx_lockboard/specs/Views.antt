-- Private: what a seat's view says, and what its steps tell.
use Rattle.std.specs.Prelude.{◌≡◌, ℕ, ◌+◌, ◌==◌, true, false, MatchBool, List, [], ◌∷◌, ◌++◌, Option, Some, None}
use Rattle.atomic_table.specs.Table.{Step, Me, rest}
use Rattle.hx_base.specs.declared.numbers.ThreadNo.{ThreadNo}
use Rattle.hx_base.specs.Shown.{Shown}
use Rattle.hx_pool.specs.declared.board.BoardTerms.{BoardTerms}
use Rattle.hx_pool.specs.declared.entries.Note.{Note}
use Rattle.hx_pool.specs.declared.entries.Entry.TheVariants.{Gate}
use Rattle.hx_pool.specs.History.{own_of}
use Rattle.hx_resting.specs.declared.values.Rows.{Rows}
use Rattle.hx_resting.specs.declared.roles.View.{View}
use Rattle.hx_resting.specs.declared.roles.Role.TheVariants.{Makes, Works, Copy, Spent}
use Rattle.hx_resting.specs.Rows.{IsRight, IsAfter}
use Rattle.hx_resting.specs.Desks.{noting}

-- the view of the board's own seat, which gives the threads theirs
abbrev pub maker : BoardTerms → View
maker b = record { role = Makes; terms = b; thread = record { 0 = 0 }; out = false; seen = []; mine = []; told = []; noted = [] }

-- the view of a thread's seat that has made and seen nothing
abbrev pub worker : BoardTerms → ThreadNo → View
worker b t = record { role = Works; terms = b; thread = t; out = false; seen = []; mine = []; told = []; noted = [] }

-- the next thread has its seat
abbrev pub more_given : View → View
more_given v = record v { thread = record { 0 = v.thread.0 + 1 } }

-- a seat that has seen what v had seen
abbrev pub copy_of : View → View
copy_of v = record { role = Copy; terms = v.terms; thread = v.thread; out = false; seen = v.seen; mine = []; told = []; noted = [] }

-- v was told what w has seen
abbrev pub told_by : View → View → View
told_by v w = record v { told = w.seen }

-- terms that stand for none
abbrev pub no_rules : BoardTerms
no_rules = record { server = record { 0 = 0 }; rules = record { mode = Rattle.hx_base.specs.declared.rules.Mode.TheVariants.Never; max = None; low = 0; delay = record { 0 = 0 } }; threads = 0; start = record { 0 = 0 } }

-- the view of a seat that was joined to another
abbrev pub spent : View
spent = record { role = Spent; terms = no_rules; thread = record { 0 = 0 }; out = false; seen = []; mine = []; told = []; noted = [] }

-- a note that stands for none
abbrev pub no_note : Note
no_note = record { entry = Gate (record { 0 = 0 }) false; what = None }

-- the seat has the value, and has seen the whole history, after which the value stands
pub record Got {V : Type 0} (shows : V → Shown) (m m' : Me (Option (Rows V)) View) : Type 0 where
  pub rows : Rows V
  pub carried : m'.1 ≡ (0, Some rows) ∷ m.1
  pub between : List Note
  pub view : m'.0 ≡ record m.0 { out = true; seen = m.0.seen ++ between; noted = [] }
  pub others : own_of m.0.thread between ≡ []
  pub own : m.0.mine ≡ own_of m.0.thread (m.0.seen ++ between)
  pub after : IsAfter shows m.0.terms (m.0.seen ++ between) rows

-- where the word was 0 the seat got the value; else nothing changed
abbrev pub got : {V : Type 0} → (V → Shown) → Step (Option (Rows V)) → Me (Option (Rows V)) View → ℕ → Me (Option (Rows V)) View → Type 0
got shows st m found m' = MatchBool (found == 0) (Got shows m m') (m' ≡ m)

-- note: the seat made this entry, and has the value still
abbrev pub wrote : {S : Type 0} → Note → Step S → Me S View → ℕ → Me S View → Type 0
wrote x st m found m' = m' ≡ (noting m.0 x, m.1)

-- the entries that the seat made stand in the history
abbrev pub settled : View → View
settled v = record v { out = false; seen = v.seen ++ v.noted; mine = v.mine ++ v.noted; noted = [] }

-- give: the value lies at home, and the seat's entries stand in the history
abbrev pub gave : {S : Type 0} → Step S → Me S View → ℕ → Me S View → Type 0
gave st m stored m' = m' ≡ (settled m.0, rest m.1)

-- the seat has seen the whole history, which begins with what it was told of
pub record Hears (v w : View) : Type 0 where
  pub between : List Note
  pub more : List Note
  pub view : w ≡ record v { seen = v.seen ++ between; told = [] }
  pub told : v.seen ++ between ≡ v.told ++ more
  pub others : own_of v.thread between ≡ []
  pub own : v.mine ≡ own_of v.thread (v.seen ++ between)
  pub right : IsRight v.terms (v.seen ++ between)

-- a load after a join: the seat has seen what it was told
abbrev pub heard : {S : Type 0} → Step S → Me S View → ℕ → Me S View → Type 0
heard st m found m' = (m'.1 ≡ m.1) × Hears m.0 m'.0
