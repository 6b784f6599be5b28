-- What a session's seats hold for it.
use Rattle.std.specs.Prelude.{◌≡◌, ◌≢◌, ℕ, ◌+◌, ◌==◌, if◌then◌else◌, List, [], ◌∷◌, Option, Some, None, ⊤}
use Rattle.hx_base.specs.declared.numbers.ThreadNo.{ThreadNo}
use Rattle.hx_base.specs.declared.numbers.SessionNo.{SessionNo}
use Rattle.hx_base.specs.declared.rules.Mode.TheVariants.{Never}
use Rattle.hx_pool.specs.SeatView.{History, StandsInOneHistory}
use Rattle.hx_pool.specs.Held.{held_by}
use Rattle.hx_pool.specs.Table.{face_of}
use Rattle.hx_connecting.specs.Sessions.{SessionNow, Holding, conn_server, conn_id, conn_uses}

-- the seat holds for the session just this connection, or none; where its connections are shared, it was used as often as the
-- seat says
abbrev pub HasJust : History → SessionNo → Option Holding → Type 0
HasJust h n None = held_by h.mine n ≡ []
HasJust h n (Some c) =
    (uses : ℕ) × (held_by h.mine n ≡ face_of (conn_id c) uses ∷ []) × (h.about.rules.mode ≢ Never → uses ≡ conn_uses c)

abbrev pub conn_if : ℕ → ℕ → Holding → Option Holding
conn_if server i c = if server == i then Some c else None

-- the connection that the session has to that server, or none
abbrev pub conn_at : Option Holding → ℕ → Option Holding
conn_at None i = None
conn_at (Some c) i = conn_if (conn_server c).0 i c

-- the seats, counted on from i: each of the thread, in one history, and holding for session n just the connection that it has to
-- that server
abbrev pub HoldsConn : ThreadNo → SessionNo → Option Holding → ℕ → List History → Type 0
HoldsConn t n c i [] = ⊤
HoldsConn t n c i (h ∷ seats) =
    (h.about.thread ≡ t) × StandsInOneHistory h × HasJust h n (conn_at c i) × HoldsConn t n c (i + 1) seats

abbrev pub HoldsAt : SessionNow → ℕ → List History → Type 0
HoldsAt s i seats = HoldsConn s.worker s.number s.conn i seats
