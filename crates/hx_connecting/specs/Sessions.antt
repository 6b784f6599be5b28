-- What a session shows to contracts, and what a call of it changes around it.
use Rattle.std.specs.Prelude.{◌≡◌, ℕ, ◌==◌, ◌≤◌, ◌+◌, ◌*◌, Bool, true, false, List, [], drop, Option, Some, None, MatchOption, IfSome, ⊤}
use Rattle.hx_base.specs.declared.numbers.ThreadNo.{ThreadNo}
use Rattle.hx_base.specs.declared.numbers.SessionNo.{SessionNo}
use Rattle.hx_base.specs.declared.numbers.ServerNo.{ServerNo}
use Rattle.hx_base.specs.declared.numbers.ConnId.{ConnId}
use Rattle.hx_conn.specs.Conns.{RestedNow, BusyNow}
use Rattle.hx_link.specs.Told.{LinkState, IsCounted}
use Rattle.httparse.specs.Grammar.{RequestHead}
use Rattle.hx_message.specs.Body.{kind_of_method}
use Rattle.hx_message.specs.Forwarded.{BeginsRequest}
use Rattle.hx_message.specs.OwnAnswer.{IsOwnAnswer}
use Rattle.hx_message.specs.Partial.{IsPrefix, BeginsForwardedRequest, BeginsForwardedAnswer}
use Rattle.hx_link.specs.Nets.{NetState}
use Rattle.hx_pool.specs.SeatView.{History}

-- it is there, and P holds of it
abbrev pub IsSomeAnd : {A : Type 0} → Option A → (A → Type 0) → Type 0
IsSomeAnd o P = MatchOption o ⊥ P

-- a session's connection: it rests with the session (mode never), or an exchange is under way on it
pub data Holding : Type 0 where
  Resting : RestedNow → Holding
  Exchanging : BusyNow → Holding

abbrev pub conn_link : Holding → LinkState
conn_link (Resting r) = r.link
conn_link (Exchanging b) = b.link

abbrev pub conn_server : Holding → ServerNo
conn_server (Resting r) = r.server
conn_server (Exchanging b) = b.server

abbrev pub conn_id : Holding → ConnId
conn_id (Resting r) = r.id
conn_id (Exchanging b) = b.id

abbrev pub conn_uses : Holding → ℕ
conn_uses (Resting r) = r.uses
conn_uses (Exchanging b) = b.uses

pub record SessionNow : Type 0 where
  pub worker : ThreadNo
  pub number : SessionNo
  -- the place of its frontend in the configuration
  pub front : ℕ
  -- the moment of its admission
  pub since : ℕ
  pub client : LinkState
  pub conn : Option Holding
  -- the server that was chosen for the request whose exchange hasn't begun
  pub chosen : Option ServerNo
  -- how many records it gave, and where the next one's ranges begin in what was taken of the client and given to it
  pub served : ℕ
  pub asked : ℕ
  pub gave : ℕ
  -- in the exchange under way a final head went out with closing
  pub closing : Bool
  -- how many bytes were put from one pipe to another, those of heads that were spelled among them, and how often its stage
  -- was raised
  pub put : ℕ
  pub stage : ℕ
  -- the status of an own answer that was decided and whose record wasn't given
  pub own : Option ℕ
  -- it gave its Left
  pub over : Bool

-- the request that comes next, or is under way, is the session's first
abbrev pub is_first : SessionNow → Bool
is_first s = s.served == 0

-- the seats by server, the turn of each backend, and the net
pub record Around : Type 0 where
  pub seats : List History
  pub turns : List ℕ
  pub net : NetState

abbrev pub around_with : List History → List ℕ → NetState → Around
around_with seats turns net = record { seats = seats; turns = turns; net = net }

-- a session as it is admitted
abbrev pub admitted : ThreadNo → SessionNo → ℕ → ℕ → LinkState → SessionNow
admitted t n front now client = record {
  worker = t;
  number = n;
  front = front;
  since = now;
  client = client;
  conn = None;
  chosen = None;
  served = 0;
  asked = 0;
  gave = 0;
  closing = false;
  put = 0;
  stage = 0;
  own = None;
  over = false;
}

-- an exchange under way is as far as a cut of it could tell: its request begins behind the last record and has its method, what was
-- sent begins the text that goes out for the request, and what was given begins that for the answer
pub record CarriesPart (s : SessionNow) (b : BusyNow) (taken given sent took : List ℕ) : Type 0 where
  pub head : RequestHead
  pub rest : List ℕ
  pub begins : BeginsRequest (drop s.asked taken) head rest
  pub method : kind_of_method head.method ≡ b.exchange.method
  pub goes_out : BeginsForwardedRequest (drop s.asked taken) (drop b.exchange.sent_from sent)
  pub comes_back : BeginsForwardedAnswer (drop b.exchange.taken_from took) s.closing (drop s.gave given)

abbrev pub Carries : SessionNow → Option Holding → Type 0
Carries s None = ⊤
Carries s (Some (Resting r)) = ⊤
Carries s (Some (Exchanging b)) =
    IfSome s.client.taken (λ taken. IfSome s.client.sent (λ given. IfSome b.link.sent (λ sent. IfSome b.link.taken (λ took.
    CarriesPart s b taken given sent took))))

-- what was given since the last record, where no exchange is under way: a part of the own answer that was decided, or nothing
abbrev pub GivesOwn : Option ℕ → List ℕ → Type 0
GivesOwn None given = given ≡ []
GivesOwn (Some status) given = (text : List ℕ) × IsOwnAnswer status text × IsPrefix given text

abbrev pub Gives : SessionNow → Option Holding → Type 0
Gives s (Some (Exchanging b)) = ⊤
Gives s c = IfSome s.client.sent (λ given. GivesOwn s.own (drop s.gave given))

-- what always holds of a session
pub record IsSession (s : SessionNow) : Type 0 where
  pub number : 1 ≤ s.number.0
  pub asked : s.asked ≤ s.client.taken_count
  pub given : s.gave ≤ s.client.sent_count
  pub counted : IsCounted s.client
  pub carries : Carries s s.conn
  pub gives : Gives s s.conn
  -- a request has at most eight stages
  pub stages : s.stage ≤ 8 * (s.served + 1)
  -- it is over with nothing in its hands
  pub over : s.over ≡ true → s.conn ≡ None
