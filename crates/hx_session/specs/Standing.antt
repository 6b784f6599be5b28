-- How a session stands with its worker's seats and net, and what each part of a step keeps of that.
use Rattle.std.specs.Prelude.{◌≡◌, ◌≢◌, ◌+◌, ◌≤◌, false, List, Option, Some, None, ⊤}
use Rattle.hx_base.specs.declared.numbers.ServerNo.{ServerNo}
use Rattle.hx_config.specs.declared.parts.Back.{Back}
use Rattle.hx_conn.specs.Conns.{RestedNow}
use Rattle.hx_link.specs.Nets.{NetState}
use Rattle.hx_pool.specs.SeatView.{History}
use Rattle.hx_connecting.specs.Around.{HasAround, abouts, resting}
use Rattle.hx_connecting.specs.Closing.{HasHeld}
use Rattle.hx_session.specs.declared.stage.Came.{Came}
use Rattle.hx_session.specs.declared.stage.Came.TheVariants.{On, Moved, Ends}
use Rattle.hx_session.specs.declared.step.Waits.{Waits}
use Rattle.hx_session.specs.declared.step.Waits.TheVariants as waits
use Rattle.hx_record.specs.declared.served.Left.{Left as Leave}
use Rattle.hx_record.specs.declared.served.LeftCause.{LeftCause}
use Rattle.hx_session.specs.Over.{left_of}
use Rattle.hx_session.specs.Desks.{DeskNow}
use Rattle.hx_session.specs.Doings.{IsSameClient}
use Rattle.hx_session.specs.Ending.{HasOwn}
use Rattle.hx_session.specs.Exchanged.{ExchangeNow}
use Rattle.hx_session.specs.Fits.{GoesTo}
use Rattle.hx_session.specs.Parting.{PartTouches, StageTouches}
use Rattle.hx_session.specs.Picking.{Picks, PicksTo}
use Rattle.hx_session.specs.Seen.{chosen_seen, conn_seen}
use Rattle.hx_session.specs.Stages.{StageNow, Reading, Choosing, Exchanging, Answering, Left, StandsSo, stage_now}
use Rattle.hx_session.specs.Telling.{CameTells, TellsNone}

-- the session's own number isn't the caretaker's, and its records are numbered from 1, each with a byte of a request at least
pub record IsCounted (d : DeskNow) : Type 0 where
  pub session : d.session.0 ≢ 0
  pub one : 1 ≤ d.number
  pub few : d.number ≤ d.ask_from + 1
  pub ordered : d.ask_from ≤ d.taken

-- and its client's link is on its worker's loop
pub record IsNumbered (d : DeskNow) : Type 0 where
  pub counted : IsCounted d
  pub on_loop : d.client.on_loop ≡ Some d.worker.0

-- the server of what a session holds
abbrev pub server_held : Option RestedNow → Option ServerNo
server_held None = None
server_held (Some r) = Some r.server

-- a request goes to the server of the connection that the session holds
abbrev pub GoesToHeld : Option RestedNow → Option ServerNo → Type 0
GoesToHeld None server = ⊤
GoesToHeld (Some r) server = server ≡ Some r.server

-- the session goes on, its request goes to the connection that it holds, and no call on its connection failed in the exchange
abbrev pub IsGood : StageNow → Type 0
IsGood (Reading held) = ⊤
IsGood (Choosing c) = GoesToHeld c.held c.server
IsGood (Exchanging e) = e.busy.exchange.failed ≡ false
IsGood (Answering a) = ⊤
IsGood Left = ⊥

-- the server that was chosen for the request
abbrev pub server_of : StageNow → Option ServerNo
server_of (Choosing c) = c.server
server_of _ = None

-- a session that goes on, with its seats, however its connection fared
pub record IsSet (d : DeskNow) (s : StageNow) (seats : List History) : Type 0 where
  pub stands : StandsSo d s
  pub numbered : IsNumbered d
  pub around : HasAround d.worker d.session (conn_seen s) seats
  pub own : HasOwn seats d.session s

-- the same between the parts of a step, where no call on its connection failed
pub record IsPlaced (d : DeskNow) (s : StageNow) (seats : List History) : Type 0 where
  pub set : IsSet d s seats
  pub good : IsGood s

-- the counts are those of the client's link
pub record IsTallied (d : DeskNow) : Type 0 where
  pub taken : d.taken ≡ d.client.taken_count
  pub given : d.given ≡ d.client.sent_count

-- a session that leaves, and what it still holds
pub record IsLeaving (d : DeskNow) (held : Option RestedNow) (seats : List History) : Type 0 where
  pub tallied : IsTallied d
  pub session : d.session.0 ≢ 0
  pub ordered : d.ask_from ≤ d.taken
  -- all that was given is in records
  pub told : d.gave_from ≡ d.given
  pub on_loop : d.client.on_loop ≡ Some d.worker.0
  pub around : HasAround d.worker d.session (resting held) seats
  pub own : HasHeld seats d.session held

-- a session that has left
pub record IsGone (d : DeskNow) (seats : List History) : Type 0 where
  pub tallied : IsTallied d
  pub session : d.session.0 ≢ 0
  pub ordered : d.ask_from ≤ d.taken
  pub told : d.gave_from ≡ d.given
  pub no_loop : d.client.on_loop ≡ None
  pub around : HasAround d.worker d.session None seats

-- a step that is over: the session goes on, or it has left and gave its end
abbrev pub IsDone : DeskNow → StageNow → List History → Waits → Option Leave → Type 0
IsDone d Left seats w left = IsGone d seats × (w ≡ waits.Ended) × ((why : LeftCause) × (left ≡ Some (left_of d why)))
IsDone d (Reading held) seats w left = IsPlaced d (Reading held) seats × (w ≡ waits.Ended → ⊥) × (left ≡ None)
IsDone d (Choosing c) seats w left = IsPlaced d (Choosing c) seats × (w ≡ waits.Ended → ⊥) × (left ≡ None)
IsDone d (Exchanging e) seats w left = IsPlaced d (Exchanging e) seats × (w ≡ waits.Ended → ⊥) × (left ≡ None)
IsDone d (Answering a) seats w left = IsPlaced d (Answering a) seats × (w ≡ waits.Ended → ⊥) × (left ≡ None)

abbrev pub CamePlaced : {X : Type 0} → DeskNow → Came X → List History → Type 0
CamePlaced d (On stage w) seats = IsPlaced d (stage_now stage) seats
CamePlaced d (Moved stage w served) seats = IsPlaced d (stage_now stage) seats
CamePlaced d (Ends e) seats = IsLeaving d e.held seats

-- whose desk it is, and that its client's link stays the same one
pub record KeepsWho (d d' : DeskNow) : Type 0 where
  pub worker : d'.worker ≡ d.worker
  pub session : d'.session ≡ d.session
  pub since : d'.since ≡ d.since
  pub client : IsSameClient d.client d'.client

-- and its client's link's loop
pub record KeepsDesk (d d' : DeskNow) : Type 0 where
  pub who : KeepsWho d d'
  pub on_loop : d'.client.on_loop ≡ d.client.on_loop

-- the same connection in the same exchange
pub record IsSameConn (e e' : ExchangeNow) : Type 0 where
  pub server : e'.busy.server ≡ e.busy.server
  pub id : e'.busy.id ≡ e.busy.id
  pub uses : e'.busy.uses ≡ e.busy.uses
  pub on_loop : e'.busy.link.on_loop ≡ e.busy.link.on_loop

-- a desk in an exchange that goes on
pub record KeepsAsk (d d' : DeskNow) : Type 0 where
  pub desk : KeepsDesk d d'
  pub number : d'.number ≡ d.number
  pub ask_from : d'.ask_from ≡ d.ask_from
  pub taken : d.taken ≤ d'.taken

-- what no part of a step changes
pub record KeepsPlace (d d' : DeskNow) (seats seats' : List History) (net net' : NetState) : Type 0 where
  pub desk : KeepsDesk d d'
  pub about : abouts seats' ≡ abouts seats
  pub loop_no : net'.loop_no ≡ net.loop_no

-- what no step changes
pub record KeepsOver (d d' : DeskNow) (seats seats' : List History) (net net' : NetState) : Type 0 where
  pub who : KeepsWho d d'
  pub about : abouts seats' ≡ abouts seats
  pub loop_no : net'.loop_no ≡ net.loop_no

-- the servers of its connection and of its choice are the backend's
abbrev pub IsRoutedTo : Back → StageNow → Type 0
IsRoutedTo back s = GoesTo back (conn_seen s) (server_of s)

abbrev pub CameRouted : {X : Type 0} → Back → Came X → Type 0
CameRouted back (On stage w) = IsRoutedTo back (stage_now stage)
CameRouted back (Moved stage w served) = IsRoutedTo back (stage_now stage)
CameRouted back (Ends e) = ⊤

-- what a part of a step that begins here promises
pub record Goes {X : Type 0} (d : DeskNow) (s : StageNow) (seats : List History) (net : NetState)
    (d' : DeskNow) (came : Came X) (seats' : List History) (net' : NetState) : Type 0 where
  pub placed : CamePlaced d' came seats'
  pub keeps : KeepsPlace d d' seats seats' net net'
  pub touches : PartTouches d s seats net d' came seats' net'
  pub picks : Picks (conn_seen s) (chosen_seen s) seats came seats'
  pub routed : (back : Back) → IsRoutedTo back s → CameRouted back came
  pub told : CameTells d s d' came

-- the same of a part that only comes to another stage
pub record ComesTo (d : DeskNow) (s : StageNow) (seats : List History) (net : NetState)
    (d' : DeskNow) (s' : StageNow) (seats' : List History) (net' : NetState) : Type 0 where
  pub placed : IsPlaced d' s' seats'
  pub keeps : KeepsPlace d d' seats seats' net net'
  pub touches : StageTouches d s seats net d' s' seats' net'
  pub picks : PicksTo (conn_seen s) (chosen_seen s) seats s' seats'
  pub routed : (back : Back) → IsRoutedTo back s → IsRoutedTo back s'
  pub told : TellsNone d d'

-- what always holds of a session between its calls
abbrev pub IsSound : DeskNow → StageNow → Type 0
IsSound d Left = IsTallied d × (d.session.0 ≢ 0) × (d.client.on_loop ≡ None)
IsSound d (Reading held) = StandsSo d (Reading held) × IsGood (Reading held) × IsCounted d
IsSound d (Choosing c) = StandsSo d (Choosing c) × IsGood (Choosing c) × IsCounted d
IsSound d (Exchanging e) = StandsSo d (Exchanging e) × IsGood (Exchanging e) × IsCounted d
IsSound d (Answering a) = StandsSo d (Answering a) × IsGood (Answering a) × IsCounted d
