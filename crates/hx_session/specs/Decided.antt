use Rattle.hx_base.specs.Counts.{Rose}
use Rattle.hx_pool.specs.History.{opens_of}
-- What the parts of a step decide, and why: an own answer, or that the exchange is cut off.
use Rattle.std.specs.Prelude.{◌≡◌, ◌⊎◌, ℕ, ◌<◌, ◌≤◌, [], Option, Some, None, ⊤, List, Err, false, slice_get, slice_set, Bool, true}
use Rattle.hx_conn.specs.Conns.{BusyNow}
use Rattle.hx_connecting.specs.Sessions as seen
use Rattle.hx_link.specs.Nets.{NetState}
use Rattle.hx_link.specs.Told.{LinkState}
use Rattle.hx_record.specs.declared.served.Carried.{Carried}
use Rattle.hx_record.specs.declared.served.CutCause.{CutCause}
use Rattle.hx_record.specs.declared.served.CutCause.TheVariants as cut
use Rattle.hx_record.specs.declared.served.Kind.TheVariants as kind
use Rattle.hx_record.specs.declared.served.Served.{Served}
use Rattle.hx_session.specs.declared.stage.Came.{Came}
use Rattle.hx_session.specs.declared.stage.Came.TheVariants.{On, Moved, Ends}
use Rattle.hx_session.specs.Causes.{Buries, CutsFor, Decides, HasCome, Limits, Unserved, all_drain, no_numbers, no_dial}
use Rattle.hx_base.specs.declared.numbers.Millis.{Millis}
use Rattle.hx_base.specs.declared.numbers.OutOfIds.{OutOfIds}
use Rattle.hx_base.specs.declared.numbers.ServerNo.{ServerNo}
use Rattle.hx_base.specs.declared.numbers.SessionNo.{SessionNo}
use Rattle.hx_config.specs.declared.parts.Server.{Server as Origin}
use Rattle.hx_pool.specs.Opening.{Opens, open_limit}
use Rattle.hx_pool.specs.SeatView.{History}
use Rattle.hx_connecting.specs.Choice.{AskedAll, in_turn}
use Rattle.hx_connecting.specs.Connecting.{OpensNone}
use Rattle.hx_session.specs.declared.deadline.Late.{Late}
use Rattle.hx_session.specs.declared.deadline.Late.TheVariants.{Client, Connect, Server}
use Rattle.hx_session.specs.declared.moves.Move.{Move}
use Rattle.hx_session.specs.declared.moves.Move.TheVariants.{Idle, Bytes, Waits, Ended, Failed}
use Rattle.hx_conn.specs.Conns.{IsBusy, RestedNow}
use Rattle.hx_session.specs.Desks.{DeskNow}
use Rattle.hx_session.specs.Exchanged.{ExchangeNow}
use Rattle.hx_session.specs.Moves.{with_client}
use Rattle.hx_session.specs.Seen.{conn_seen, own_seen, session_seen}
use Rattle.hx_session.specs.Stages.{StageNow, Reading, Choosing, Exchanging, Answering, Left, stage_now}

-- where no server took a request: the servers of its backend and the turn, the seats before these were asked and behind that,
-- the server that was chosen, if one was, and what trying to connect to it made of the seats and of the net
pub record Lack : Type 0 where
  pub out : Bool
  pub session : SessionNo
  pub servers : List Origin
  pub turn : ℕ
  pub olds : List History
  pub asked : List History
  pub chosen : Option ServerNo
  pub news : List History
  pub net : NetState
  pub net' : NetState

-- the chosen server's seat had no number left
abbrev pub IsSpent : Lack → ServerNo → Type 0
IsSpent k v = (old : History) × (new : History) × (why : OutOfIds) × (slice_get k.asked v.0 ≡ Some old)
    × (k.news ≡ slice_set k.asked v.0 new) × ((mid : History) × Opens mid new k.session (Err why))

-- a connection that was opened was closed again, since its dial or its attach failed
abbrev pub IsUnreached : Lack → ServerNo → Type 0
IsUnreached k v = Rose k.net.faults k.net'.faults

-- that is why no server took it
abbrev pub HasLack : Lack → Unserved → Type 0
HasLack k all_drain = (k.out ≡ true) × (k.chosen ≡ None) × AskedAll (in_turn k.servers k.turn) false k.olds k.asked × (k.news ≡ k.asked)
HasLack k no_numbers = (k.out ≡ true) × (v : ServerNo) × (k.chosen ≡ Some v) × IsSpent k v
HasLack k no_dial = (k.out ≡ true) × (v : ServerNo) × (k.chosen ≡ Some v) × IsUnreached k v

-- a server that was chosen couldn't be had: no number was left at its seat, or a connection that was opened there was closed again
pub record RefusesAt (n : SessionNo) (v : ServerNo) (olds news : List History) (net net' : NetState) : Type 0 where
  pub old : History
  pub mid : History
  pub new : History
  pub was : slice_get olds v.0 ≡ Some old
  pub seats : news ≡ slice_set olds v.0 new
  pub none : OpensNone mid new n v net net'

-- none was chosen, or the one that was couldn't be had
abbrev pub ServesNone : SessionNo → Option ServerNo → List History → List History → NetState → NetState → Type 0
ServesNone n None olds news net net' = news ≡ olds
ServesNone n (Some v) olds news net net' = RefusesAt n v olds news net net'

-- so it was of a request that waits for its exchange
abbrev pub OutOf : SessionNo → StageNow → List History → List History → NetState → NetState → Type 0
OutOf n (Reading held) olds news net net' = ⊥
OutOf n (Choosing c) olds news net net' = ServesNone n c.server olds news net net'
OutOf n (Exchanging e) olds news net net' = ⊥
OutOf n (Answering a) olds news net net' = ⊥
OutOf n Left olds news net net' = ⊥

abbrev pub CameOut : {X : Type 0} → SessionNo → Came X → List History → List History → NetState → NetState → Type 0
CameOut n (On stage w) olds news net net' = OutOf n (stage_now stage) olds news net net'
CameOut n (Moved stage w served) olds news net net' = ⊥
CameOut n (Ends e) olds news net net' = ⊥

-- for a request for which no server is chosen each was asked, and drains
abbrev pub AsksAll : List Origin → ℕ → StageNow → List History → List History → Type 0
AsksAll servers turn (Choosing c) olds news = c.server ≡ None → AskedAll (in_turn servers turn) false olds news
AsksAll servers turn s olds news = ⊤

abbrev pub CameAsks : {X : Type 0} → List Origin → ℕ → Came X → List History → List History → Type 0
CameAsks servers turn (On stage w) olds news = AsksAll servers turn (stage_now stage) olds news
CameAsks servers turn c olds news = ⊤

-- a step goes on with a request that waits for its exchange
abbrev pub waits_out : StageNow → Bool
waits_out (Choosing c) = true
waits_out s = false

abbrev pub came_out : {X : Type 0} → Came X → Bool
came_out (On stage w) = waits_out (stage_now stage)
came_out c = false

-- the server that is chosen while a step goes on
abbrev pub server_of : StageNow → Option ServerNo
server_of (Choosing c) = c.server
server_of s = None

abbrev pub came_chosen : {X : Type 0} → Came X → Option ServerNo
came_chosen (On stage w) = server_of (stage_now stage)
came_chosen c = None

-- the same, by what a call made of the seats and of the net: each server of the backend was asked in turn, and drains; a seat has
-- no number left; or the net failed
abbrev pub LacksAt : List Origin → List History → List History → NetState → NetState → Unserved → Type 0
LacksAt servers olds news net net' all_drain = (turn : ℕ) × AskedAll (in_turn servers turn) false olds news
LacksAt servers olds news net net' no_numbers =
    (v : ServerNo) × (h : History) × (slice_get news v.0 ≡ Some h) × (opens_of h.mine ≡ open_limit h.about.thread)
LacksAt servers olds news net net' no_dial = Rose net.faults net'.faults

-- a step that is over, and moved
abbrev pub IsMoved : {X : Type 0} → Came X → Type 0
IsMoved (On stage w) = ⊥
IsMoved (Moved stage w served) = ⊤
IsMoved (Ends e) = ⊥

-- the timeouts, and why no server took the request if none did
pub record Terms : Type 0 where
  pub client : Option Millis
  pub keep_alive : Option Millis
  pub connect : Option Millis
  pub server : Option Millis
  pub lack : Lack

abbrev pub limits_in : Terms → Limits
limits_in t = record { client = t.client; keep_alive = t.keep_alive; connect = t.connect; server = t.server }

abbrev pub terms_of : Limits → Lack → Terms
terms_of limits lack = record { client = limits.client; keep_alive = limits.keep_alive; connect = limits.connect; server = limits.server; lack = lack }

-- a link of which no byte was moved: it had to wait, or failed
pub record MovesNoByte (a b : LinkState) : Type 0 where
  pub link : b ≡ record a {
    faults = b.faults;
    read_waits = b.read_waits;
    read_wait_at = b.read_wait_at;
    read_waited = b.read_waited;
    write_waits = b.write_waits;
    write_wait_at = b.write_wait_at;
    read_length = b.read_length;
    write_length = b.write_length;
  }
  pub faults : a.faults ≤ b.faults

-- the connection of an exchange, on whose link no byte was moved
pub record BusyStays (a b : BusyNow) : Type 0 where
  pub busy : b ≡ record a { link = b.link; exchange = record a.exchange { failed = b.exchange.failed } }
  pub link : MovesNoByte a.link b.link

-- since a step began no byte was moved on a link, and a server may have been chosen, and nothing else changed
pub record IsSoFar (d0 : DeskNow) (s0 : StageNow) (net0 : NetState) (d : DeskNow) (s : StageNow) (net : NetState) : Type 0 where
  pub desk : d ≡ with_client d0 d.client
  pub client : MovesNoByte d0.client d.client
  pub exchange : (e : ExchangeNow) → s ≡ Exchanging e → (e0 : ExchangeNow) × (s0 ≡ Exchanging e0) × BusyStays e0.busy e.busy
  pub was : (e0 : ExchangeNow) → s0 ≡ Exchanging e0 → (e : ExchangeNow) × (s ≡ Exchanging e)
  pub own : own_seen s ≡ own_seen s0
  pub net_same : net ≡ net0

-- an own answer of that status was decided for its cause since a session stood so
abbrev pub OwnAnswers : Terms → ℕ → DeskNow → StageNow → NetState → NetState → ℕ → Type 0
OwnAnswers limits now d0 s0 net0 net status = (front : ℕ) → Decides (limits_in limits) (session_seen front d0 s0) net0 net now (HasLack limits.lack) status

-- and an exchange was cut off for that one, at a desk whose client's link is so then
abbrev pub CutsWhy : Terms → ℕ → DeskNow → StageNow → NetState → LinkState → NetState → BusyNow → CutCause → Type 0
CutsWhy limits now d0 s0 net0 client net b why =
    (l : LinkState) × Buries b net0 net l × ((front : ℕ) → CutsFor (limits_in limits) (session_seen front d0 s0) client b l now why)

abbrev pub CutsRecord : Terms → ℕ → DeskNow → StageNow → NetState → LinkState → NetState → Option Served → Type 0
CutsRecord limits now d0 s0 net0 client net served =
    (r : Served) (c : Carried) (why : CutCause) (b : BusyNow)
    → served ≡ Some r → r.kind ≡ kind.Cut c why → conn_seen s0 ≡ Some (seen.Exchanging b) → CutsWhy limits now d0 s0 net0 client net b why

-- what the parts of a step have come to
abbrev pub CameDecides : {X : Type 0} → Terms → ℕ → DeskNow → StageNow → NetState → DeskNow → Came X → NetState → Type 0
CameDecides limits now d0 s0 net0 d (On stage w) net = IsSoFar d0 s0 net0 d (stage_now stage) net
CameDecides limits now d0 s0 net0 d (Moved stage w served) net =
    (own_seen s0 ≡ None → (status : ℕ) → own_seen (stage_now stage) ≡ Some status → OwnAnswers limits now d0 s0 net0 net status)
    × CutsRecord limits now d0 s0 net0 d.client net served
CameDecides limits now d0 s0 net0 d (Ends e) net =
    CutsRecord limits now d0 s0 net0 d.client net e.served
    × ((r : Served) (c : Carried) (why : CutCause) → e.served ≡ Some r → r.kind ≡ kind.Cut c why → e.held ≡ None)

-- and a whole step
pub record DoneDecides (limits : Terms) (now : ℕ) (d0 : DeskNow) (s0 : StageNow) (net0 : NetState) (d : DeskNow) (s : StageNow) (net : NetState) (served : Option Served) : Type 0 where
  pub own : own_seen s0 ≡ None → (status : ℕ) → own_seen s ≡ Some status → OwnAnswers limits now d0 s0 net0 net status
  pub cut : CutsRecord limits now d0 s0 net0 d.client net served

-- the link as it is buried
abbrev pub loose : LinkState → LinkState
loose l = record l { on_loop = None }

-- a part that ends an exchange: by an own answer, or by cutting it off, after which its link is buried
abbrev pub EndsAs : {X : Type 0} → DeskNow → BusyNow → NetState → (ℕ → Type 0) → (CutCause → Type 0) → DeskNow → Came X → NetState → Type 0
EndsAs d b net Own Cuts d' (On stage w) net' = ⊥
EndsAs d b net Own Cuts d' (Moved stage w served) net' =
    ((status : ℕ) × (own_seen (stage_now stage) ≡ Some status) × Own status) × (served ≡ None) × IsBusy b × Buries b net net' (loose b.link)
EndsAs d b net Own Cuts d' (Ends e) net' =
    ((r : Served) × (c : Carried) × (why : CutCause) × (e.served ≡ Some r) × (r.kind ≡ kind.Cut c why) × Cuts why)
    × (e.held ≡ None) × (d'.client ≡ d.client) × IsBusy b × Buries b net net' (loose b.link)

-- something was given for the request, or nothing yet
abbrev pub Given : DeskNow → Type 0
Given d = d.gave_from < d.given

abbrev pub Ungiven : DeskNow → Type 0
Ungiven d = d.given ≤ d.gave_from

-- the connection may close without an answer, or it may not
pub record IsSilent (d : DeskNow) (b : BusyNow) : Type 0 where
  pub later : 2 ≤ d.number
  pub used : 1 ≤ b.uses
  pub nothing : b.link.taken_count ≡ b.exchange.taken_from
  pub given : Ungiven d

abbrev pub IsHeard : DeskNow → BusyNow → Type 0
IsHeard d b = (d.number ≤ 1) ⊎ (b.uses ≡ 0) ⊎ (b.exchange.taken_from < b.link.taken_count)

-- an event of the server's side: an own answer of that status, or a cut for that cause
abbrev pub EndsByServer : {X : Type 0} → DeskNow → BusyNow → NetState → CutCause → ℕ → DeskNow → Came X → NetState → Type 0
EndsByServer d b net why status d' came net' = EndsAs d b net (λ k. (k ≡ status) × Ungiven d) (λ w. (w ≡ why) × Given d) d' came net'

-- its link ended or failed: the same, or the connection closes without an answer
abbrev pub LosesServer : {X : Type 0} → DeskNow → BusyNow → NetState → CutCause → ℕ → DeskNow → Came X → NetState → Type 0
LosesServer d b net why status d' came net' =
    EndsAs d b net (λ k. (k ≡ status) × IsHeard d b) (λ w. ((w ≡ why) × Given d) ⊎ ((w ≡ cut.Silent) × IsSilent d b)) d' came net'

-- a part that cuts an exchange off for that cause, or gives it up for an own answer of that status
abbrev pub CutsAs : {X : Type 0} → DeskNow → BusyNow → NetState → CutCause → DeskNow → Came X → NetState → Type 0
CutsAs d b net why d' came net' = EndsAs d b net (λ k. ⊥) (λ w. w ≡ why) d' came net'

abbrev pub GivesUp : {X : Type 0} → DeskNow → BusyNow → NetState → ℕ → DeskNow → Came X → NetState → Type 0
GivesUp d b net status d' came net' = EndsAs d b net (λ k. k ≡ status) (λ w. ⊥) d' came net'

-- a part after which no own answer is decided, and no record given
abbrev pub PassesOn : {X : Type 0} → Came X → Type 0
PassesOn (On stage w) = ⊤
PassesOn (Moved stage w served) = (own_seen (stage_now stage) ≡ None) × (served ≡ None)
PassesOn (Ends e) = ⊥

-- or one that gives that record
abbrev pub HasPassed : {X : Type 0} → Came X → Served → Type 0
HasPassed (On stage w) r = ⊥
HasPassed (Moved stage w served) r = (own_seen (stage_now stage) ≡ None) × (served ≡ Some r)
HasPassed (Ends e) r = e.served ≡ Some r

-- an own answer that is decided there has that status
abbrev pub OwnIs : ℕ → StageNow → Type 0
OwnIs k s = (status : ℕ) → own_seen s ≡ Some status → status ≡ k

-- the client's deadline has come, or nothing of a request is there
abbrev pub ClientComes : Terms → ℕ → DeskNow → StageNow → Type 0
ClientComes limits now d s =
    HasCome limits.client d.since.0 now ⊎ ((d.from.bytes ≡ []) × ((held : Option RestedNow) × (s ≡ Reading held)))

-- a deadline of the server's side has come, by the status of its own answer
abbrev pub ServerLate : Terms → ℕ → DeskNow → ℕ → Type 0
ServerLate limits now d status =
    ((status ≡ 503) × HasCome limits.connect d.since.0 now) ⊎ ((status ≡ 504) × HasCome limits.server d.since.0 now)

-- the own answer of a deadline
abbrev pub status_for : Late → ℕ
status_for Client = 408
status_for Connect = 503
status_for Server = 504

-- a call that moved no byte
abbrev pub IsQuiet : Move → Type 0
IsQuiet Idle = ⊤
IsQuiet Bytes = ⊥
IsQuiet Waits = ⊤
IsQuiet Ended = ⊥
IsQuiet Failed = ⊤

-- where the session leaves with a cut it holds nothing
abbrev pub GivesOwnOnly : {X : Type 0} → Came X → Type 0
GivesOwnOnly (On stage w) = ⊤
GivesOwnOnly (Moved stage w served) = ⊤
GivesOwnOnly (Ends e) = (r : Served) (c : Carried) (why : CutCause) → e.served ≡ Some r → r.kind ≡ kind.Cut c why → e.held ≡ None
