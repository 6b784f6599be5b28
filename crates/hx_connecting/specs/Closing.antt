-- What a session closes at its worker's seats.
use Rattle.std.specs.Prelude.{◌≡◌, ℕ, Bool, List, Option, Some, None, IfSome, slice_get, slice_set, ⊤}
use Rattle.hx_base.specs.declared.numbers.SessionNo.{SessionNo}
use Rattle.hx_base.specs.declared.numbers.ConnId.{ConnId}
use Rattle.hx_link.specs.Told.{LinkState}
use Rattle.hx_link.specs.Nets.{NetState, NetDetaches}
use Rattle.hx_conn.specs.Conns.{RestedNow}
use Rattle.hx_conn.specs.Steps.{new_exchange}
use Rattle.hx_pool.specs.SeatView.{History}
use Rattle.hx_pool.specs.Opening.{HasConn}
use Rattle.hx_base.specs.declared.numbers.ServerNo.{ServerNo}
use Rattle.hx_message.specs.declared.MethodKind.{MethodKind}
use Rattle.hx_connecting.specs.declared.connecting.Connected.{Connected}
use Rattle.hx_connecting.specs.declared.connecting.Connected.TheVariants.{Begun, Dead, Refused}
use Rattle.hx_connecting.specs.Connecting.{IsClosed, TriesFor}

-- this holds of the seat with this number
abbrev pub AtSeat : List History → ℕ → (History → Type 0) → Type 0
AtSeat seats i P = (h : History) × (slice_get seats i ≡ Some h) × P h

-- the seat's connection is closed, its link is detached and buried, and the other seats are as they were
pub record ClosesAt (olds news : List History) (i : ℕ) (n : SessionNo) (id : ConnId) (net_old net_new : NetState) (link : LinkState) : Type 0 where
  pub old : History
  pub new : History
  pub was : slice_get olds i ≡ Some old
  pub seats : news ≡ slice_set olds i new
  pub between : NetState
  pub detached : LinkState
  pub detaches : NetDetaches net_old between link detached
  pub closed : IsClosed old new n id between net_new detached

-- the seat's connection, which rests with its session, is closed, its link is buried, and the other seats are as they were
pub record ClosesHeld (olds news : List History) (i : ℕ) (n : SessionNo) (id : ConnId) (net_old net_new : NetState) (link : LinkState) : Type 0 where
  pub old : History
  pub new : History
  pub was : slice_get olds i ≡ Some old
  pub seats : news ≡ slice_set olds i new
  pub closed : IsClosed old new n id net_old net_new link

-- the session has at its seat what it holds
abbrev pub HasHeld : List History → SessionNo → Option RestedNow → Type 0
HasHeld seats n held = IfSome held (λ r. AtSeat seats r.server.0 (λ h. HasConn h n r.id))

-- what rests with the session is closed, if anything does
abbrev pub ClosesAny : List History → List History → SessionNo → Option RestedNow → NetState → NetState → Type 0
ClosesAny olds news n None net_old net_new = (news ≡ olds) × (net_new ≡ net_old)
ClosesAny olds news n (Some r) net_old net_new = ClosesHeld olds news r.server.0 n r.id net_old net_new r.link

-- what the session holds is a connection to that server
abbrev pub HoldsTo : List History → SessionNo → ServerNo → Option RestedNow → Type 0
HoldsTo seats n server None = ⊤
HoldsTo seats n server (Some r) = (r.server ≡ server) × AtSeat seats r.server.0 (λ h. HasConn h n r.id)

-- the session connected at the server's seat, and the other seats are as they were
pub record ConnectsTo {X : Type 0} (olds news : List History) (n : SessionNo) (first : Bool) (server : ServerNo) (now : ℕ)
    (method : MethodKind) (net_old net_new : NetState) (held : Option RestedNow) (c : Connected X) : Type 0 where
  pub old : History
  pub new : History
  pub was : slice_get olds server.0 ≡ Some old
  pub seats : news ≡ slice_set olds server.0 new
  pub tries : TriesFor old new n first server now method net_old net_new held c

-- the connection on which an exchange began is at the server's seat
abbrev pub HasBegun : {X : Type 0} → List History → SessionNo → ServerNo → Connected X → Type 0
HasBegun seats n server (Begun busy fresh) = (busy.server.0 ≡ server.0) × AtSeat seats busy.server.0 (λ h. HasConn h n busy.id)
HasBegun seats n server Dead = ⊤
HasBegun seats n server Refused = ⊤

-- the exchange begins with no byte moved and no call failed
abbrev pub BeginsNew : {X : Type 0} → MethodKind → Connected X → Type 0
BeginsNew method (Begun busy fresh) = busy.exchange ≡ new_exchange method busy.link.sent_count busy.link.taken_count
BeginsNew method Dead = ⊤
BeginsNew method Refused = ⊤
