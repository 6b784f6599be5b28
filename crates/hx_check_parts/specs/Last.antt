-- Private: what the checks of marks look up in the table, and what they count.
use Rattle.std.specs.Prelude.{◌≡◌, ℕ, ◌<◌, Bool, false, ◌==◌, ◌&&◌, List, length, slice_index}
use Rattle.hx_base.specs.declared.numbers.ThreadNo.{ThreadNo}
use Rattle.hx_base.specs.declared.numbers.SessionNo.{SessionNo}
use Rattle.hx_pool.specs.Table.{Conn, Unopened, HeldBy, IdleAt, Closed}
use Rattle.hx_check_parts.specs.Marks.{MarkTable}

-- the connection is with that session
abbrev pub is_held : Conn → ThreadNo → SessionNo → Bool
is_held Unopened t n = false
is_held (HeldBy by of) t n = (by.0 == t.0) && (of.0 == n.0)
is_held (IdleAt place) t n = false
is_held Closed t n = false

-- the table has these numbers
abbrev pub Counts : MarkTable → ℕ → ℕ → Type 0
Counts T next round = (next ≡ T.next) × (round ≡ T.round)

-- the table has so many that rest, by row and in all
pub record CountsRests (T : MarkTable) (rows : List ℕ) (sum : ℕ) : Type 0 where
  pub each : (row : ℕ) → row < 256 → slice_index rows row ≡ T.in_row row
  pub all : sum ≡ T.in_all

-- they are fewer than that many
pub record AreFew (n : ℕ) (rows : List ℕ) (sum : ℕ) : Type 0 where
  pub size : length rows ≡ 256
  pub each : (row : ℕ) → row < 256 → slice_index rows row < n
  pub all : sum < n
