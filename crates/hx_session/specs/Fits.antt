-- What a session asks of its worker between calls, and keeps.
use Rattle.std.specs.Prelude.{◌≡◌, ◌⊎◌, ℕ, ◌<◌, true, false, List, [], ◌∷◌, length, Contains, Option, Some, None, IfSome, slice_get, ⊤}
use Rattle.hx_base.specs.declared.numbers.ThreadNo.{ThreadNo}
use Rattle.hx_base.specs.declared.numbers.ServerNo.{ServerNo}
use Rattle.hx_base.specs.declared.rules.Mode.TheVariants.{Never}
use Rattle.hx_config.specs.Meaning.{Meaning}
use Rattle.hx_config.specs.Limits.{all_servers, are_numbered}
use Rattle.hx_config.specs.declared.parts.Server.{Server}
use Rattle.hx_config.specs.declared.parts.Front.{Front}
use Rattle.hx_config.specs.declared.parts.Back.{Back}
use Rattle.hx_pool.specs.SeatView.{History}
use Rattle.hx_connecting.specs.Around.{ConnOnLoop}
use Rattle.hx_connecting.specs.Choosing.{back_no, back_at, servers_of}
use Rattle.hx_connecting.specs.Sessions.{SessionNow, Holding, Resting, Exchanging, conn_server}
use Rattle.hx_session.specs.Causes.{Limits}

-- one turn per backend, each below the number of its servers or 0
pub record TurnsFit (config : Meaning) (turns : List ℕ) : Type 0 where
  pub count : length turns ≡ length config.backs
  pub each : (i t : ℕ) (b : Back) → slice_get turns i ≡ Some t → slice_get config.backs i ≡ Some b → (t < length b.servers) ⊎ (t ≡ 0)

-- the server of a session's connection, and the one that was chosen, are the backend's
pub record GoesTo (back : Back) (conn : Option Holding) (chosen : Option ServerNo) : Type 0 where
  pub to_conn : IfSome conn (λ c. Contains (servers_of back) (conn_server c))
  pub to_chosen : IfSome chosen (λ v. Contains (servers_of back) v)

-- its frontend is the configuration's, and the server that it has chosen or is connected to is one of its backend
pub record IsRouted (config : Meaning) (s : SessionNow) : Type 0 where
  pub front : Front
  pub front_is : slice_get config.fronts s.front ≡ Some front
  pub back : Back
  pub back_is : slice_get config.backs front.back ≡ Some back
  pub goes : GoesTo back s.conn s.chosen

-- a connection rests with a session only where connections are never shared
abbrev pub RestsUnderNever : Meaning → Option Holding → Type 0
RestsUnderNever config None = ⊤
RestsUnderNever config (Some (Exchanging b)) = ⊤
RestsUnderNever config (Some (Resting r)) =
    (k : Server) → slice_get (all_servers config.backs) r.server.0 ≡ Some k → k.rules.mode ≡ Never

-- the client's link and that of an exchange are attached to the loop; one that rests is attached to none
pub record IsOnLoop (s : SessionNow) : Type 0 where
  pub client : s.client.on_loop ≡ Some s.worker.0
  pub conn : ConnOnLoop s.worker s.conn

-- what holds of a session that is going on, between its calls
pub record IsGoing (config : Meaning) (s : SessionNow) : Type 0 where
  pub going : s.over ≡ false
  pub routed : IsRouted config s
  pub never : RestsUnderNever config s.conn
  pub loops : IsOnLoop s

-- the seats are those of the configuration's servers in order, each of this thread
abbrev pub SeatsServe : ThreadNo → List History → List Server → Type 0
SeatsServe t [] [] = ⊤
SeatsServe t (h ∷ seats) (s ∷ servers) =
    (h.about.thread ≡ t) × (h.about.rules ≡ s.rules) × (h.about.server ≡ s.no) × SeatsServe t seats servers
SeatsServe t seats servers = ⊥

-- the timeouts of a frontend and of its backend
abbrev pub limits_with : Option Front → Option Back → Limits
limits_with (Some f) (Some b) = record { client = f.client; keep_alive = f.keep_alive; connect = b.connect; server = b.server }
limits_with f b = record { client = None; keep_alive = None; connect = None; server = None }

abbrev pub limits_of : Meaning → ℕ → Limits
limits_of config front =
    limits_with (slice_get config.fronts front) (back_at config (back_no (slice_get config.fronts front)))

-- what holds of a session and its seats under some configuration, that of its worker
pub record FitsSome (s : SessionNow) (seats : List History) : Type 0 where
  pub config : Meaning
  pub numbered : are_numbered 0 (all_servers config.backs) ≡ true
  pub going : IsGoing config s
  pub serves : SeatsServe s.worker seats (all_servers config.backs)
