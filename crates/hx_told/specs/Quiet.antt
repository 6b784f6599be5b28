-- That nothing was left to do for a session that was stopped, by the bytes that are told and the script's plans.
use Rattle.std.specs.Prelude.{◌≡◌, ◌⊎◌, ℕ, ◌-◌, List, [], ◌∷◌, ◌++◌, Contains, Some, drop, length, slice_get}
use Rattle.hx_base.specs.declared.numbers.Millis.{Millis}
use Rattle.hx_base.specs.declared.plan.Plan.{Plan}
use Rattle.hx_link.specs.MemoryLinks.{WaitsFor}
use Rattle.hx_message.specs.declared.MethodKind.{MethodKind}
use Rattle.hx_message.specs.Partial.{HasWholeRequest}
use Rattle.hx_planned.specs.Plans.{nth_plan}
use Rattle.hx_record.specs.declared.bytes.ClientBytes.{ClientBytes}
use Rattle.hx_record.specs.declared.bytes.ConnBytes.{ConnBytes}
use Rattle.hx_record.specs.declared.served.Carried.{Carried}
use Rattle.hx_record.specs.declared.served.CutCause.TheVariants as cut
use Rattle.hx_record.specs.declared.served.Kind.TheVariants as kind
use Rattle.hx_record.specs.declared.served.Left.{Left}
use Rattle.hx_record.specs.declared.served.LeftCause.TheVariants as left
use Rattle.hx_record.specs.declared.served.Served.{Served}
use Rattle.hx_record.specs.declared.served.Told.TheVariants as line
use Rattle.hx_run.specs.Dues.{ComeInOrder}
use Rattle.hx_script.specs.declared.transcript.Transcript.{Transcript}
use Rattle.hx_script_parts.specs.Meaning.{Meaning}
use Rattle.hx_script_parts.specs.declared.script.ClientLine.{ClientLine}
use Rattle.hx_session.specs.Bad.{WantsMore}
use Rattle.hx_session.specs.Standstill.{AnswerPassed, AskPassed}

-- a read at the moment of a link of this plan, of which these bytes were taken and on which those were sent, has to wait: no piece and no end is due,
-- and its first call doesn't fail
abbrev pub IsWaiting : Plan → List ℕ → List ℕ → Millis → Type 0
IsWaiting plan took sent now = WaitsFor plan (length took) (length sent) now.0

-- without an exchange: its client has nothing due, and what was taken behind the last record may become a request
pub record StoodIdle (its : ClientLine) (c : ClientBytes) (l : Left) (now : Millis) : Type 0 where
  pub client : IsWaiting its.plan c.took c.gave now
  pub more : WantsMore (drop l.ask.from c.took)

-- in an exchange, which the stop cut off: its connection has nothing due, nor has its client unless the request is whole; all bytes of the
-- request went out, and all of the answer, which isn't whole, came back
pub record StoodInExchange (script : Meaning) (t : Transcript) (its : ClientLine) (c : ClientBytes) (l : Left) (now : Millis) : Type 0 where
  pub record_ : Served
  pub told : Contains t.records (line.Served record_)
  pub worker : record_.worker ≡ l.worker
  pub session : record_.session ≡ l.session
  pub carried : Carried
  pub cut_off : record_.kind ≡ kind.Cut carried cut.Stop
  pub conn : ConnBytes
  pub there : Contains t.conns conn
  pub server_is : conn.server ≡ carried.server
  pub id_is : conn.id ≡ carried.id
  pub plan : Plan
  pub its_plan : nth_plan carried.server (carried.id.0 - 1) script.plans ≡ Some plan
  pub server : IsWaiting plan conn.took conn.sent now
  pub client : ((n : ℕ) → HasWholeRequest (drop record_.ask.from c.took) n → ⊥) → IsWaiting its.plan c.took c.gave now
  pub goes_out : AskPassed (drop record_.ask.from c.took) (drop carried.sent.from conn.sent)
  pub comes_back : (method : MethodKind) × AnswerPassed method carried.closing (drop carried.took.from conn.took) (drop record_.gave.from c.gave)

-- of a session that was stopped: its client is told, and at the last moment nothing was left to do for it
pub record IsQuiet (script : Meaning) (ordered : List ClientLine) (t : Transcript) (l : Left) : Type 0 where
  pub earlier : List Millis
  pub now : Millis
  pub last : script.moments ≡ earlier ++ now ∷ []
  pub client : ClientBytes
  pub there : Contains t.clients client
  pub worker : client.worker ≡ l.worker
  pub session : client.session ≡ l.session
  pub line_is : ClientLine
  pub its : slice_get ordered (l.session.0 - 1) ≡ Some line_is
  pub stood : StoodIdle line_is client l now ⊎ StoodInExchange script t line_is client l now

-- so it was of each session that was stopped, whose clients are the script's as they come
pub record QuietByScript (script : Meaning) (t : Transcript) : Type 0 where
  pub ordered : List ClientLine
  pub in_order : ComeInOrder script.clients ordered
  pub quiet : (l : Left) → Contains t.records (line.Left l) → l.cause ≡ left.Stop → IsQuiet script ordered t l
