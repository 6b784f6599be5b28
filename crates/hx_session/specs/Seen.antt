-- A session as its worker sees it, made from what its parts work with.
use Rattle.std.specs.Prelude.{◌≡◌, ℕ, ◌+◌, ◌-◌, ◌*◌, Bool, true, false, length, Option, Some, None, if◌then◌else◌}
use Rattle.hx_base.specs.declared.numbers.ServerNo.{ServerNo}
use Rattle.hx_conn.specs.Conns.{RestedNow}
use Rattle.hx_frame.specs.declared.progress.MeterState.{MeterState}
use Rattle.hx_frame.specs.declared.progress.MeterState.TheVariants as state
use Rattle.hx_session.specs.declared.exchange.AnswerWay.{AnswerWay}
use Rattle.hx_session.specs.declared.exchange.AnswerWay.TheVariants as way
use Rattle.hx_record.specs.declared.served.Kind.{Kind}
use Rattle.hx_record.specs.declared.served.Served.{Served}
use Rattle.hx_session.specs.Desks.{DeskNow}
use Rattle.hx_session.specs.Over.{closing_of, served_of}
use Rattle.hx_session.specs.Stages.{StageNow, Reading, Choosing, Exchanging, Answering, Left}
use Rattle.hx_connecting.specs.Sessions as seen
use Rattle.hx_connecting.specs.Around.{resting}

-- the connection that it has
abbrev pub conn_seen : StageNow → Option seen.Holding
conn_seen (Reading held) = resting held
conn_seen (Choosing c) = resting c.held
conn_seen (Exchanging e) = Some (seen.Exchanging e.busy)
conn_seen (Answering a) = resting a.held
conn_seen Left = None

-- the server that was chosen, where the request doesn't go over a connection that the session has
abbrev pub unless_held : Option RestedNow → Option ServerNo → Option ServerNo
unless_held None server = server
unless_held (Some r) server = None

abbrev pub chosen_seen : StageNow → Option ServerNo
chosen_seen (Choosing c) = unless_held c.held c.server
chosen_seen s = None

abbrev pub closing_seen : StageNow → Bool
closing_seen (Exchanging e) = closing_of e.answer
closing_seen s = false

-- how many bytes went on: of what was taken of the client, and of the answer that is carried
abbrev pub put_seen : DeskNow → StageNow → ℕ
put_seen d (Exchanging e) = (d.client.taken_count - length d.from.bytes) + e.answered
put_seen d s = d.client.taken_count - length d.from.bytes

-- how far it is in its request, which ends came, and whether a body is bad
abbrev pub one_if : Bool → ℕ
one_if b = if b then 1 else 0

abbrev pub is_bad : MeterState → Bool
is_bad state.Bad = true
is_bad _ = false

abbrev pub bad_answer : AnswerWay → ℕ
bad_answer way.Heads = 0
bad_answer (way.Body b) = one_if (is_bad b.state)

abbrev pub stage_no : DeskNow → StageNow → ℕ
stage_no d (Reading held) = one_if d.ended
stage_no d (Choosing c) = 1 + one_if d.ended
stage_no d (Exchanging e) = 2 + one_if d.ended + one_if e.ended + one_if (is_bad e.ask.state) + bad_answer e.answer
stage_no d (Answering a) = 6 + one_if d.ended
stage_no d Left = 8

abbrev pub own_seen : StageNow → Option ℕ
own_seen (Answering a) = Some a.status
own_seen s = None

abbrev pub over_seen : StageNow → Bool
over_seen Left = true
over_seen s = false

abbrev pub session_seen : ℕ → DeskNow → StageNow → seen.SessionNow
session_seen front d s = record {
  worker = d.worker;
  number = d.session;
  front = front;
  since = d.since.0;
  client = d.client;
  conn = conn_seen s;
  chosen = chosen_seen s;
  served = d.number - 1;
  asked = d.ask_from;
  gave = d.gave_from;
  closing = closing_seen s;
  put = put_seen d s;
  stage = 8 * (d.number - 1) + stage_no d s;
  own = own_seen s;
  over = over_seen s;
}

-- the record of a request up to that byte of the client was made, and the next one begins behind it
pub record GivesRecord (old new : DeskNow) (kind : Kind) (s : Served) : Type 0 where
  pub to : ℕ
  pub served : s ≡ served_of old kind to
  pub number : new.number ≡ old.number + 1
  pub asked : new.ask_from ≡ to
  pub given : new.gave_from ≡ old.given
