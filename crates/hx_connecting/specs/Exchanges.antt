-- How the exchange on a session's connection goes through a call: where it begins, that it stays one, and how a passed one ends.
use Rattle.std.specs.Prelude.{◌≡◌, ◌⊎◌, ℕ, ◌+◌, List, length, Option, Some, None, IfSome, ⊤}
use Rattle.hx_base.specs.Spans.{bytes_in}
use Rattle.hx_base.specs.declared.what.What.{What}
use Rattle.hx_conn.specs.Conns.{RestedNow, BusyNow}
use Rattle.hx_link.specs.Told.{IsCounted}
use Rattle.hx_message.specs.Message.{Persists}
use Rattle.hx_record.specs.declared.served.Carried.{Carried}
use Rattle.hx_record.specs.declared.served.Kind.{Kind}
use Rattle.hx_record.specs.declared.served.Kind.TheVariants as kind
use Rattle.hx_record.specs.declared.served.Served.{Served}
use Rattle.hx_connecting.specs.Sessions.{Holding, Resting, Exchanging, SessionNow, IsSomeAnd}
use Rattle.hx_connecting.specs.Touches.{Touch, Came, Had, Opened, Took, Went, Stays, Rests, Ends, EndsTakenBack}

-- an exchange begins behind so many uses, where that was sent and taken
pub record BeginsAt (b : BusyNow) (uses sent taken : ℕ) : Type 0 where
  pub uses_are : b.uses ≡ uses
  pub sent_from : b.exchange.sent_from ≡ sent
  pub taken_from : b.exchange.taken_from ≡ taken

-- the same exchange, further on
pub record IsSameExchange (a b : BusyNow) : Type 0 where
  pub begins : BeginsAt b a.uses a.exchange.sent_from a.exchange.taken_from
  pub method : b.exchange.method ≡ a.exchange.method

-- a passed exchange rests with its session (mode never), and its link tells as many bytes as it counts
abbrev pub RestsAfter : BusyNow → RestedNow → Option Served → Type 0
RestsAfter b r served =
    (r.uses ≡ b.uses + 1) × ((x : Served) × (c : Carried) × (served ≡ Some x) × (x.kind ≡ kind.Passed c)) × IsCounted r.link

-- from what the session had to what it has; over a connection that rests no byte is moved
abbrev pub HadGoes : Holding → Holding → Option Served → Type 0
HadGoes (Exchanging a) (Exchanging b) served = IsSameExchange a b
HadGoes (Exchanging a) (Resting r) served = RestsAfter a r served
HadGoes (Resting r) (Exchanging b) served = BeginsAt b r.uses r.link.sent_count r.link.taken_count
HadGoes (Resting q) (Resting r) served =
    (r.uses ≡ q.uses) × (r.link.sent_count ≡ q.link.sent_count) × (r.link.taken_count ≡ q.link.taken_count)

-- from a connection that the call took, by what it told at rest
abbrev pub TookGoes : Option What → ℕ → Holding → Type 0
TookGoes before uses (Resting r) = ⊥
TookGoes before uses (Exchanging b) =
    (b.uses ≡ uses)
    × IsSomeAnd before (λ w. IfSome w.told (λ l. BeginsAt b uses (length l.sent) (length l.taken)))

abbrev pub OpenedGoes : Holding → Type 0
OpenedGoes (Resting r) = ⊥
OpenedGoes (Exchanging b) = BeginsAt b 0 0 0

abbrev pub CameGoes : Came → Option Holding → Option What → Holding → Option Served → Type 0
CameGoes Had None before new served = ⊥
CameGoes Had (Some old) before new served = HadGoes old new served
CameGoes Opened old before new served = OpenedGoes new
CameGoes (Took place uses) old before new served = TookGoes before uses new

-- only a connection whose exchange passed in the call is parked
abbrev pub ExchangeGoes : SessionNow → SessionNow → Touch → Went → Option What → Option Served → Type 0
ExchangeGoes s s' x Stays before served =
    (new : Holding) × (s'.conn ≡ Some new) × CameGoes x.came s.conn before new served
ExchangeGoes s s' x (Rests place uses) before served =
    (b : BusyNow) × (s.conn ≡ Some (Exchanging b)) × (x.came ≡ Had) × (uses ≡ b.uses + 1)
    × ((r : Served) × (c : Carried) × (served ≡ Some r) × (r.kind ≡ kind.Passed c))
ExchangeGoes s s' x Ends before served = ⊤
ExchangeGoes s s' x (EndsTakenBack place uses) before served = x.came ≡ Had

abbrev pub IsClosed : Went → Type 0
IsClosed Stays = ⊥
IsClosed (Rests place uses) = ⊥
IsClosed Ends = ⊤
IsClosed (EndsTakenBack place uses) = ⊤

-- all that moved over the connection is in the exchanges up to this one, and it may have another
pub record EndsWith (b : BusyNow) (c : Carried) (sent taken : List ℕ) : Type 0 where
  pub all_sent : c.sent.to ≡ length sent
  pub all_taken : c.took.to ≡ length taken
  pub persists : Persists b.exchange.method (bytes_in taken c.took)

-- a passed exchange ends its connection, or all bytes of it are in exchanges
abbrev pub PassedEnds : SessionNow → Touch → Option What → Kind → Type 0
PassedEnds s x after (kind.Passed c) =
    IsClosed x.went
    ⊎ ((b : BusyNow) × (s.conn ≡ Some (Exchanging b))
    × IsSomeAnd after (λ w. IfSome w.told (λ l. EndsWith b c l.sent l.taken)))
PassedEnds s x after (kind.Cut c why) = IsClosed x.went
PassedEnds s x after (kind.Own status) = IsClosed x.went ⊎ ((r : RestedNow) × (s.conn ≡ Some (Resting r)))
