-- A session that didn't move: each link that it has to read, or to write bytes that wait, had to wait in the call, at its moment, and
-- nothing is left to do with the bytes that it has.
use Rattle.std.specs.Prelude.{◌≡◌, ◌⊎◌, ℕ, ◌<◌, Bool, true, List, drop, length, take, Ok, Option, Some, None, IfSome}
use Rattle.hx_base.specs.Counts.{Rose}
use Rattle.httparse.specs.Grammar.{ResponseHead, ReadsResponse, HasNoResponse, MayBecomeResponse}
use Rattle.hx_conn.specs.Conns.{BusyNow}
use Rattle.hx_frame.specs.Meters.{IsProperPart}
use Rattle.hx_link.specs.Told.{LinkState}
use Rattle.hx_message.specs.declared.BodyKind.{BodyKind}
use Rattle.hx_message.specs.declared.MethodKind.{MethodKind}
use Rattle.hx_message.specs.Body.{answer_kind}
use Rattle.hx_message.specs.Forwarded.{ForwardsRequest, ForwardsAnswer, BeginsInterims, IsFinal}
use Rattle.hx_message.specs.Limits.{head_limit}
use Rattle.hx_message.specs.Partial.{HasWholeRequest, HasWholeAnswer, EndsRequest}
use Rattle.hx_session.specs.Bad.{WantsMore}
use Rattle.hx_connecting.specs.Sessions.{SessionNow, Holding, Resting, Exchanging}

-- a read in the call, at the moment, had to wait, and no byte was moved since
pub record ReadWaits (old new : LinkState) (now : ℕ) : Type 0 where
  pub waits : Rose old.read_waits new.read_waits
  pub at : new.read_wait_at ≡ now
  pub waited : new.read_waited ≡ true

-- a write in the call, at the moment, had to wait
pub record WriteWaits (old new : LinkState) (now : ℕ) : Type 0 where
  pub waits : Rose old.write_waits new.write_waits
  pub at : new.write_wait_at ≡ now

-- the bytes of the request that begins there, as far as they are there, went out so
abbrev pub AskPassed : List ℕ → List ℕ → Type 0
AskPassed bytes sent = (n : ℕ) → EndsRequest bytes n → ForwardsRequest (take n bytes) sent

-- behind interim heads no head is there and one may come, or a final head is there whose body goes on: so no head, frame or chunk is
-- one to be refused
abbrev pub MayGoOn : MethodKind → List ℕ → Type 0
MayGoOn method took =
    (gs : List ResponseHead) × (rest : List ℕ) × BeginsInterims took gs rest
    × (((length rest < head_limit) × HasNoResponse rest × MayBecomeResponse rest)
    ⊎ ((g : ResponseHead) × (body : List ℕ) × (kind : BodyKind) × ReadsResponse rest g body × IsFinal g
    × (answer_kind method g ≡ Ok kind) × IsProperPart kind body))

-- the bytes of an answer that isn't whole all were given as they go on, and more of them may come
pub record AnswerPassed (method : MethodKind) (closing : Bool) (took gave : List ℕ) : Type 0 where
  pub comes_back : ForwardsAnswer took closing gave
  pub not_whole : (n : ℕ) → HasWholeAnswer method took n → ⊥
  pub goes_on : MayGoOn method took

-- in an exchange: its server is waited for, and so is its client while the request isn't whole, unless a link to which bytes wait has to
-- wait; all bytes of the request, and of the answer, went on, unless they wait for their link
pub record StandsInExchange (s s' : SessionNow) (a b : BusyNow) (now : ℕ) : Type 0 where
  pub server : ReadWaits a.link b.link now ⊎ WriteWaits s.client s'.client now
  pub client :
      WriteWaits a.link b.link now
      ⊎ IfSome s'.client.taken (λ taken.
      ((n : ℕ) → HasWholeRequest (drop s'.asked taken) n → ⊥) → ReadWaits s.client s'.client now)
  pub goes_out :
      WriteWaits a.link b.link now
      ⊎ IfSome s'.client.taken (λ taken. IfSome b.link.sent (λ sent.
      AskPassed (drop s'.asked taken) (drop b.exchange.sent_from sent)))
  pub comes_back :
      WriteWaits s.client s'.client now
      ⊎ IfSome b.link.taken (λ took. IfSome s'.client.sent (λ given.
      AnswerPassed b.exchange.method s'.closing (drop b.exchange.taken_from took) (drop s'.gave given)))

-- between exchanges: its client is waited for, and no head is there
pub record StandsIdle (s s' : SessionNow) (now : ℕ) : Type 0 where
  pub client : ReadWaits s.client s'.client now
  pub more : IfSome s'.client.taken (λ taken. WantsMore (drop s'.asked taken))

-- where an own answer is decided, bytes of it wait for the client
abbrev pub StandsBy : SessionNow → SessionNow → Option ℕ → Option Holding → ℕ → Type 0
StandsBy s s' (Some status) c now = WriteWaits s.client s'.client now
StandsBy s s' None None now = StandsIdle s s' now
StandsBy s s' None (Some (Resting r)) now = StandsIdle s s' now
StandsBy s s' None (Some (Exchanging b)) now =
    (a : BusyNow) × (s.conn ≡ Some (Exchanging a)) × StandsInExchange s s' a b now

abbrev pub Stands : SessionNow → SessionNow → ℕ → Type 0
Stands s s' now = StandsBy s s' s'.own s'.conn now
