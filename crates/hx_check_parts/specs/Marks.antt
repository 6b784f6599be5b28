-- The first three rules: marks as steps of a connection table, as far as marks alone tell it. A place is any pair of numbers,
-- and one that was taken from is vacant again, since no mark says when it is freed.
use Rattle.std.specs.Prelude.{◌≡◌, ◌≢◌, ℕ, ◌+◌, ◌-◌, ◌<◌, ◌≤◌, true, List, take, fold, Option, Some, None, IfSome, ⊤}
use Rattle.hx_base.specs.declared.numbers.ThreadNo.{ThreadNo}
use Rattle.hx_base.specs.declared.numbers.SessionNo.{SessionNo}
use Rattle.hx_base.specs.declared.numbers.ConnId.{ConnId}
use Rattle.hx_base.specs.declared.numbers.PlaceNo.{PlaceNo}
use Rattle.hx_base.specs.declared.numbers.Face.{Face}
use Rattle.hx_base.specs.declared.rules.PoolRules.{PoolRules}
use Rattle.hx_base.specs.declared.rules.Mode.TheVariants.{Never}
use Rattle.hx_pool.specs.declared.entries.Entry.{Entry}
use Rattle.hx_pool.specs.declared.entries.Entry.TheVariants.{Open, Park, Take, Close, Round}
use Rattle.hx_pool.specs.Rules.{allows}
use Rattle.hx_pool.specs.Table.{Conn, Unopened, HeldBy, IdleAt, Closed, put, face_of}

-- what marks tell of one server
pub record MarkTable : Type 0 where
  -- by a connection's number
  pub conns : ℕ → Conn
  pub uses : ℕ → ℕ
  -- what rests, by row and place, and how many rest in each row and in all
  pub rests : ℕ → ℕ → Option Face
  pub in_row : ℕ → ℕ
  pub in_all : ℕ
  -- the number of the next connection, and that of the last purge interval
  pub next : ℕ
  pub round : ℕ

-- the table before all marks
abbrev pub no_marks : MarkTable
no_marks = record {
  conns = λ _. Unopened;
  uses = λ _. 0;
  rests = λ _ _. None;
  in_row = λ _. 0;
  in_all = 0;
  next = 1;
  round = 0;
}

-- the places with this at one of them
abbrev pub with_place : MarkTable → PlaceNo → Option Face → ℕ → ℕ → Option Face
with_place T at face = put T.rests at.row (put (T.rests at.row) at.place face)

-- the table after a mark
abbrev pub marked : MarkTable → Entry → MarkTable
marked T (Open t n id) = record T { conns = put T.conns id.0 (HeldBy t n); uses = put T.uses id.0 0; next = T.next + 1 }
marked T (Park t n id at uses) = record T {
  conns = put T.conns id.0 (IdleAt at);
  uses = put T.uses id.0 uses;
  rests = with_place T at (Some (face_of id uses));
  in_row = put T.in_row at.row (T.in_row at.row + 1);
  in_all = T.in_all + 1;
}
marked T (Take t n first at id uses) = record T {
  conns = put T.conns id.0 (HeldBy t n);
  rests = with_place T at None;
  in_row = put T.in_row at.row (T.in_row at.row - 1);
  in_all = T.in_all - 1;
}
marked T (Close t n id) = record T { conns = put T.conns id.0 Closed }
marked T (Round t k old) = record T { round = k }
marked T _ = T

-- the table after marks
abbrev pub table_of : List Entry → MarkTable
table_of marks = fold marked no_marks marks

-- the table before the mark at that index
abbrev pub table_before : List Entry → ℕ → MarkTable
table_before marks k = table_of (take k marks)

-- a session parks what it holds, once more used, in its thread's row, where nothing rests
pub record MayPark (T : MarkTable) (t : ThreadNo) (n : SessionNo) (id : ConnId) (at : PlaceNo) (uses : ℕ) : Type 0 where
  pub session : n.0 ≢ 0
  pub held : T.conns id.0 ≡ HeldBy t n
  pub row : at.row ≡ t.0
  pub free : T.rests at.row at.place ≡ None
  pub used : uses ≡ T.uses id.0 + 1

-- a mark is a step of the connection table
abbrev pub IsStep : MarkTable → Entry → Type 0
IsStep T (Open t n id) = (n.0 ≢ 0) × (id.0 ≡ T.next)
IsStep T (Park t n id at uses) = MayPark T t n id at uses
IsStep T (Take t n first at id uses) = T.rests at.row at.place ≡ Some (face_of id uses)
IsStep T (Close t n id) = T.conns id.0 ≡ HeldBy t n
IsStep T (Round t k old) = (old ≡ T.round) × (old < k)
IsStep T _ = ⊤

-- the mode lets it be
abbrev pub IsAllowed : PoolRules → Entry → Type 0
IsAllowed rules (Park t n id at uses) = rules.mode ≢ Never
IsAllowed rules (Take t n first at id uses) = n.0 ≢ 0 → allows rules.mode first uses ≡ true
IsAllowed rules _ = ⊤

-- after a park no more rest than may, in all and in its row
abbrev pub IsWithin : PoolRules → MarkTable → Entry → Type 0
IsWithin rules T (Park t n id at uses) = IfSome rules.max (λ m. T.in_all + 1 ≤ m) × (T.in_row at.row + 1 ≤ 64)
IsWithin rules T _ = ⊤

-- each rule, asked of the mark at an index
abbrev pub IsStepAt : List Entry → ℕ → Entry → Type 0
IsStepAt marks k mark = IsStep (table_before marks k) mark

abbrev pub IsAllowedAt : PoolRules → ℕ → Entry → Type 0
IsAllowedAt rules k mark = IsAllowed rules mark

abbrev pub IsWithinAt : PoolRules → List Entry → ℕ → Entry → Type 0
IsWithinAt rules marks k mark = IsWithin rules (table_before marks k) mark
