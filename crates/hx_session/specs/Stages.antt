-- Where a session stands, and what holds there.
use Rattle.std.specs.Prelude.{◌≡◌, ℕ, ◌≤◌, List, [], ◌++◌, Option, IfSome, false}
use Rattle.hx_base.specs.declared.numbers.ServerNo.{ServerNo}
use Rattle.hx_message.specs.OwnAnswer.{IsOwnAnswer}
use Rattle.hx_base.specs.declared.numbers.ThreadNo.{ThreadNo}
use Rattle.hx_base.specs.declared.numbers.SessionNo.{SessionNo}
use Rattle.hx_base.specs.declared.numbers.Millis.{Millis}
use Rattle.hx_link.specs.Pipes.{pipe}
use Rattle.hx_link.specs.Told.{LinkState}
use Rattle.hx_conn.specs.Conns.{RestedNow}
use Rattle.hx_message.specs.declared.BodyKind.{BodyKind}
use Rattle.hx_session_parts.specs.declared.asks.Asked.{Asked}
use Rattle.hx_session_parts.specs.Asks.{IsAsked}
use Rattle.hx_session.specs.declared.stage.Choosing.{Choosing as Held}
use Rattle.hx_session.specs.declared.stage.Answering.{Answering as Own}
use Rattle.hx_session.specs.declared.stage.Stage.{Stage}
use Rattle.hx_session.specs.declared.stage.Stage.TheVariants as is
use Rattle.hx_session.specs.Since.{HasSince}
use Rattle.hx_session.specs.Desks.{DeskNow, IsDesk}
use Rattle.hx_session.specs.Exchanged.{ExchangeNow, exchange_now}
use Rattle.hx_session.specs.Carried.{IsCarried}
use Rattle.hx_session.specs.Over.{BeginsAnew}

-- a request whose exchange hasn't begun
pub record ChoosingNow : Type 0 where
  pub length : ℕ
  pub kind : BodyKind
  pub server : Option ServerNo
  pub held : Option RestedNow

pub record AnsweringNow : Type 0 where
  pub status : ℕ
  pub held : Option RestedNow

pub data StageNow : Type 0 where
  Reading : Option RestedNow → StageNow
  Choosing : ChoosingNow → StageNow
  Exchanging : ExchangeNow → StageNow
  Answering : AnsweringNow → StageNow
  Left : StageNow

abbrev pub choosing_now : {X : Type 0} → Held X → ChoosingNow
choosing_now c = record { length = c.length; kind = c.kind; server = c.server; held = c.held }

abbrev pub stage_of_choosing : {X : Type 0} → Held X → StageNow
stage_of_choosing c = Choosing (choosing_now c)

abbrev pub own_stage : ℕ → Option RestedNow → StageNow
own_stage status held = Answering (record { status = status; held = held })

abbrev pub stage_of_answering : {X : Type 0} → Own X → StageNow
stage_of_answering a = own_stage a.status a.held

abbrev pub stage_now : {X : Type 0} → Stage X → StageNow
stage_now (is.Reading held) = Reading held
stage_now (is.Choosing c) = stage_of_choosing c
stage_now (is.Exchanging e) = Exchanging (exchange_now e)
stage_now (is.Answering a) = stage_of_answering a
stage_now is.Left = Left

-- between two requests nothing waits, and what was taken behind the last record is in the pipe
pub record IsBetween (d : DeskNow) : Type 0 where
  pub anew : BeginsAnew d
  pub to : d.to.bytes ≡ []
  pub up : d.up.bytes ≡ []
  pub down : d.down.bytes ≡ []

-- an own answer is being given
pub record IsAnswering (d : DeskNow) (status : ℕ) : Type 0 where
  pub desk : IsDesk d
  pub text : List ℕ
  pub own : IsOwnAnswer status text
  pub gave : List ℕ
  pub gives : HasSince d.client.sent d.client.sent_count d.gave_from gave
  pub back : text ≡ gave ++ d.to.bytes
  pub ordered : d.ask_from ≤ d.taken

-- a request that can be served is at the front of the bytes, with a head of so many bytes and a body of that kind
pub record IsAhead (bytes : List ℕ) (length : ℕ) (kind : BodyKind) : Type 0 where
  pub ask : Asked
  pub is : IsAsked bytes ask
  pub length_is : length ≡ ask.head.length
  pub kind_is : kind ≡ ask.kind

-- what holds at each stage
abbrev pub StandsSo : DeskNow → StageNow → Type 0
StandsSo d (Reading held) = IsBetween d
StandsSo d (Choosing c) = IsBetween d × IsAhead d.from.bytes c.length c.kind
StandsSo d (Exchanging e) = IsCarried d e
StandsSo d (Answering a) = IsAnswering d a.status
StandsSo d Left = IsDesk d

-- a client's link of which nothing was taken and to which nothing was given
pub record IsNewClient (l : LinkState) : Type 0 where
  pub taken_count : l.taken_count ≡ 0
  pub sent_count : l.sent_count ≡ 0
  pub taken : IfSome l.taken (λ bytes. bytes ≡ [])
  pub sent : IfSome l.sent (λ bytes. bytes ≡ [])

-- a session that begins
abbrev pub new_desk : LinkState → ThreadNo → SessionNo → Millis → DeskNow
new_desk client worker n now = record {
  worker = worker;
  session = n;
  number = 1;
  client = client;
  from = pipe [] 16384;
  to = pipe [] 18432;
  up = pipe [] 18432;
  down = pipe [] 18432;
  taken = 0;
  given = 0;
  ask_from = 0;
  gave_from = 0;
  ended = false;
  since = now;
  moved = now;
  waits_since = now;
}
