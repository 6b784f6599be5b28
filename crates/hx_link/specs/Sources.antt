-- What a caller learns of a read of a source and of a write of a sink, by what they tell before and after.
use Rattle.std.specs.Prelude.{◌≡◌, ℕ, ◌≤◌, Bool, true, false, List, [], ◌++◌, length, take, drop, IfSome, option_map, ⊤}
use Rattle.hx_link.specs.declared.answers.Got.{Got}
use Rattle.hx_link.specs.declared.answers.Put.{Put}
use Rattle.hx_link.specs.declared.answers.Got.TheVariants as got
use Rattle.hx_link.specs.declared.answers.Put.TheVariants as put
use Rattle.hx_link.specs.Told.{SourceState, SinkState, CountsOne}

-- at least one byte, and at most as many as there is room for
abbrev pub GotFits : Got → ℕ → Type 0
GotFits (got.Bytes n) room = (1 ≤ n) × (n ≤ room)
GotFits got.NotYet room = ⊤
GotFits got.End room = ⊤
GotFits got.Failed room = ⊤

-- at least one byte, and at most as many as there are
abbrev pub PutFits : Put → ℕ → Type 0
PutFits (put.Bytes n) count = (1 ≤ n) × (n ≤ count)
PutFits put.NotYet count = ⊤
PutFits put.Failed count = ⊤

-- once the end was told, no read answers anything but the end or a fault
abbrev pub KeepsEnd : Bool → Got → Type 0
KeepsEnd told_end (got.Bytes n) = told_end ≡ false
KeepsEnd told_end got.NotYet = told_end ≡ false
KeepsEnd told_end got.End = ⊤
KeepsEnd told_end got.Failed = ⊤

-- what a read changes: the bytes given are no longer left, the end is told, or a fault is counted; it never waits
abbrev pub SourceReads : SourceState → SourceState → Got → Type 0
SourceReads old new (got.Bytes n) = new ≡ record old { left = option_map (drop n) old.left }
SourceReads old new got.NotYet = ⊥
SourceReads old new got.End = new ≡ record old { told_end = true }
SourceReads old new got.Failed = (new ≡ record old { faults = new.faults }) × CountsOne old.faults new.faults

-- the bytes given are the first of those left, and the end is told only where none is left
abbrev pub SourceGives : SourceState → Got → List ℕ → Type 0
SourceGives old (got.Bytes n) into = IfSome old.left (λ xs. (n ≤ length xs) × (take n into ≡ take n xs))
SourceGives old got.NotYet into = ⊤
SourceGives old got.End into = IfSome old.left (λ xs. xs ≡ [])
SourceGives old got.Failed into = ⊤

-- what a write changes: the first bytes are taken, or a fault is counted; it never waits
abbrev pub SinkWrites : SinkState → SinkState → Put → List ℕ → Type 0
SinkWrites old new (put.Bytes n) bytes = new ≡ record old { taken = option_map (λ xs. xs ++ take n bytes) old.taken }
SinkWrites old new put.NotYet bytes = ⊥
SinkWrites old new put.Failed bytes = (new ≡ record old { faults = new.faults }) × CountsOne old.faults new.faults
