-- The choice of a server (HAProxy 2.4 Configuration Manual, section 4.2: balance roundrobin).
use Rattle.std.specs.Prelude.{◌≡◌, ℕ, ◌+◌, ◌<◌, ◌-◌, Bool, true, false, List, [], ◌∷◌, ◌++◌, length, take, drop, Option, Some, None, slice_get, slice_set, nat_lt, if◌then◌else◌}
use Rattle.hx_base.specs.declared.numbers.ServerNo.{ServerNo}
use Rattle.hx_config.specs.declared.parts.Server.{Server}
use Rattle.hx_pool.specs.SeatView.{History}
use Rattle.hx_pool.specs.Opening.{ReadsGate}

-- the servers from the turn on, with wrap
abbrev pub in_turn : List Server → ℕ → List Server
in_turn servers turn = drop turn servers ++ take turn servers

-- the turn behind this one
abbrev pub next_turn : List Server → ℕ → ℕ
next_turn servers at = if nat_lt (at + 1) (length servers) then at + 1 else 0

-- the place of the k-th server in turn, of n servers
abbrev pub at_of : ℕ → ℕ → ℕ → ℕ
at_of n turn k = if nat_lt (turn + k) n then turn + k else (turn + k) - n

-- one seat after the other is asked whether its server is ready, and each answers so; the others are as they were
abbrev pub AskedAll : List Server → Bool → List History → List History → Type 0
AskedAll [] ready olds news = news ≡ olds
AskedAll (s ∷ servers) ready olds news =
    (old : History) × (new : History) × (mids : List History)
    × (slice_get olds s.no.0 ≡ Some old) × ReadsGate old new ready × (mids ≡ slice_set olds s.no.0 new)
    × AskedAll servers ready mids news

-- the first server in turn that is ready, each before it being asked and draining
pub record ChoosesReady (servers : List Server) (turn turn' : ℕ) (olds news : List History) (server : ServerNo) : Type 0 where
  pub passed : List Server
  pub chosen : Server
  pub later : List Server
  pub order : in_turn servers turn ≡ passed ++ chosen ∷ later
  pub is : chosen.no ≡ server
  pub mids : List History
  pub drained : AskedAll passed false olds mids
  pub ready : AskedAll (chosen ∷ []) true mids news
  pub place : ℕ
  pub at : place ≡ at_of (length servers) turn (length passed)
  pub there : slice_get servers place ≡ Some chosen
  pub turn_after : turn' ≡ next_turn servers place

-- each server was asked and is draining
pub record ChoosesNone (servers : List Server) (turn turn' : ℕ) (olds news : List History) : Type 0 where
  pub drained : AskedAll (in_turn servers turn) false olds news
  pub turn_same : turn' ≡ turn

abbrev pub Chooses : List Server → ℕ → ℕ → List History → List History → Option ServerNo → Type 0
Chooses servers turn turn' olds news None = ChoosesNone servers turn turn' olds news
Chooses servers turn turn' olds news (Some server) = ChoosesReady servers turn turn' olds news server

-- each server of the backend has its seat
abbrev pub HaveSeats : List Server → ℕ → Type 0
HaveSeats servers seats = (i : ℕ) (s : Server) → slice_get servers i ≡ Some s → s.no.0 < seats
