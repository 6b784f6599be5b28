-- Histories: lists of entries, each with what stands beside it.
use Rattle.std.specs.Prelude.{◌≡◌, ℕ, ◌+◌, ◌==◌, nat_lt, Bool, true, false, List, [], ◌∷◌, map, filter, count_by, Option, None}
use Rattle.hx_base.specs.declared.numbers.ThreadNo.{ThreadNo}
use Rattle.hx_base.specs.declared.what.What.{What}
use Rattle.hx_pool.specs.declared.entries.Entry.{Entry}
use Rattle.hx_pool.specs.declared.entries.Entry.TheVariants.{Open, Park, Take, Free, Close, Look, Up, Down, Count, Gate, SetGate, Round}
use Rattle.hx_pool.specs.declared.entries.Note.{Note}
use Rattle.hx_pool.specs.Table.{Table, empty_table, Needs, after}

-- an entry with nothing beside it
abbrev pub plain : Entry → Note
plain e = record { entry = e; what = None }

-- the thread that made the entry
abbrev pub thread_of : Entry → ThreadNo
thread_of (Open t n id) = t
thread_of (Park t n id place uses) = t
thread_of (Take t n first place id uses) = t
thread_of (Free t place) = t
thread_of (Close t n id) = t
thread_of (Look t place found) = t
thread_of (Up t old) = t
thread_of (Down t old) = t
thread_of (Count t c) = t
thread_of (Gate t draining) = t
thread_of (SetGate t draining) = t
thread_of (Round t k old) = t

-- the entry is one that transcripts print
abbrev pub is_mark : Entry → Bool
is_mark (Open t n id) = true
is_mark (Park t n id place uses) = true
is_mark (Take t n first place id uses) = true
is_mark (Close t n id) = true
is_mark (SetGate t draining) = true
is_mark (Round t k old) = nat_lt old k
is_mark _ = false

-- the entries of the notes
abbrev pub entries_of : List Note → List Entry
entries_of H = map (λ (x : Note). x.entry) H

-- the entries that are marks
abbrev pub marks_of : List Note → List Entry
marks_of H = filter is_mark (entries_of H)

-- the note is of this thread
abbrev pub is_by : ThreadNo → Note → Bool
is_by t x = (thread_of x.entry).0 == t.0

-- the entries of one thread
abbrev pub own_of : ThreadNo → List Note → List Note
own_of t H = filter (is_by t) H

-- an Open
abbrev pub is_open : Note → Bool
is_open x = elim x.entry [ Open t n id ↦ true | _ ↦ false ]

-- how many connections were opened
abbrev pub opens_of : List Note → ℕ
opens_of H = count_by is_open H

-- a Take
abbrev pub is_take : Note → Bool
is_take x = elim x.entry [ Take t n first place id uses ↦ true | _ ↦ false ]

-- a Park
abbrev pub is_park : Note → Bool
is_park x = elim x.entry [ Park t n id place uses ↦ true | _ ↦ false ]

-- an Up
abbrev pub is_up : Note → Bool
is_up x = elim x.entry [ Up t old ↦ true | _ ↦ false ]

-- a Down
abbrev pub is_down : Note → Bool
is_down x = elim x.entry [ Down t old ↦ true | _ ↦ false ]

-- how many takes are among them
abbrev pub takes_of : List Note → ℕ
takes_of es = count_by is_take es

-- as much was added to the count of resting connections as came to rest: each Up has its Park or its Down, and each Take
-- its Down
abbrev pub IsEven : List Note → Type 0
IsEven es = count_by is_up es + takes_of es ≡ count_by is_down es + count_by is_park es

-- the table after these notes
abbrev pub table_from : Table → List Note → Table
table_from T [] = T
table_from T (x ∷ xs) = table_from (after T x) xs

-- the table after a history
abbrev pub table_after : List Note → Table
table_after H = table_from empty_table H

-- this holds of each entry and the table before it
abbrev pub EachStep : (Table → Note → Type 0) → Table → List Note → Type 0
EachStep P T [] = Unit {0}
EachStep P T (x ∷ xs) = P T x × EachStep P (after T x) xs

-- the table has what the entry needs
abbrev pub MeetsNeeds : Table → Note → Type 0
MeetsNeeds T x = Needs T x.entry

-- each entry is a step of the table, from the empty one on
abbrev pub IsLegal : List Note → Type 0
IsLegal H = EachStep MeetsNeeds empty_table H

-- what stands beside the last Park of a connection
abbrev pub what_of : List Note → ℕ → Option What
what_of H i = (table_after H).whats i
