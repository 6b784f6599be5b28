-- What stands around a session that has a connection, or none: its worker's seats, and the connection's loop.
use Rattle.std.specs.Prelude.{◌≡◌, ℕ, ◌+◌, List, [], ◌∷◌, map, Option, Some, None, ⊤}
use Rattle.hx_base.specs.declared.numbers.ThreadNo.{ThreadNo}
use Rattle.hx_base.specs.declared.numbers.SessionNo.{SessionNo}
use Rattle.hx_base.specs.declared.rules.Mode.TheVariants.{Never}
use Rattle.hx_conn.specs.Conns.{RestedNow}
use Rattle.hx_pool.specs.SeatView.{About, History}
use Rattle.hx_connecting.specs.Closing.{AtSeat}
use Rattle.hx_connecting.specs.Holds.{HoldsConn}
use Rattle.hx_connecting.specs.Sessions.{Holding, Resting, Exchanging}

-- the link of an exchange is attached to the thread's loop, and one that rests to none
abbrev pub ConnOnLoop : ThreadNo → Option Holding → Type 0
ConnOnLoop t None = ⊤
ConnOnLoop t (Some (Exchanging b)) = b.link.on_loop ≡ Some t.0
ConnOnLoop t (Some (Resting r)) = r.link.on_loop ≡ None

-- the seats are those of the servers with the numbers from i on
abbrev pub AreNumbered : ℕ → List History → Type 0
AreNumbered i [] = ⊤
AreNumbered i (h ∷ seats) = (h.about.server.0 ≡ i) × AreNumbered (i + 1) seats

-- a connection rests with a session only where its server's are never shared
abbrev pub RestsAtNever : List History → Option Holding → Type 0
RestsAtNever seats None = ⊤
RestsAtNever seats (Some (Exchanging b)) = ⊤
RestsAtNever seats (Some (Resting r)) = AtSeat seats r.server.0 (λ h. h.about.rules.mode ≡ Never)

-- session n of the thread has that connection, and the seats say so
pub record HasAround (t : ThreadNo) (n : SessionNo) (conn : Option Holding) (seats : List History) : Type 0 where
  pub loop : ConnOnLoop t conn
  pub never : RestsAtNever seats conn
  pub servers : AreNumbered 0 seats
  pub holds : HoldsConn t n conn 0 seats

-- of each seat that which no call changes
abbrev pub abouts : List History → List About
abouts seats = map (λ h. h.about) seats

-- what rests with a session
abbrev pub resting : Option RestedNow → Option Holding
resting None = None
resting (Some r) = Some (Resting r)
