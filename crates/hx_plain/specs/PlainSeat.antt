-- What contracts see of the seat of one thread.
use Rattle.std.specs.Prelude.{◌≡◌, [], List, None}
use Rattle.hx_base.specs.declared.numbers.ThreadNo.{ThreadNo}
use Rattle.hx_base.specs.declared.numbers.ServerNo.{ServerNo}
use Rattle.hx_base.specs.declared.numbers.Millis.{Millis}
use Rattle.hx_base.specs.declared.rules.PoolRules.{PoolRules}
use Rattle.atomic_table.specs.Seated.{TableId}
use Rattle.hx_pool.specs.declared.entries.Entry.{Entry}
use Rattle.hx_pool.specs.SeatView.{About, History, about_of}

-- its history, and the marks of its last call
pub record PlainView : Type 0 where
  pub history : History
  pub last : List Entry

-- the thread of a board with one
abbrev pub first_thread : ThreadNo
first_thread = record { 0 = 0 }

-- the seat of thread 0 at a board of one row
abbrev pub about_alone : ServerNo → PoolRules → Millis → TableId → About
about_alone server rules start board = about_of (record { server = server; rules = rules; threads = 1; start = start }) first_thread board

-- nothing has happened at its board
pub record IsUnused (h : History) : Type 0 where
  pub seen : h.seen ≡ []
  pub mine : h.mine ≡ []
  pub passed : h.passed ≡ None
