-- What a connection that rests and a busy one are, by what their link tells.
use Rattle.std.specs.Prelude.{◌≡◌, ℕ, ◌+◌, ◌≤◌, true, false, List, take, drop, None, IsSome, IfSome}
use Rattle.hx_base.specs.declared.numbers.ConnId.{ConnId}
use Rattle.hx_base.specs.declared.numbers.ServerNo.{ServerNo}
use Rattle.hx_message.specs.Message.{IsRequest, IsAnswer, Persists}
use Rattle.hx_message.specs.Exchanges.{AreExchanges}
use Rattle.hx_link.specs.Told.{LinkState, IsCounted}
use Rattle.hx_link.specs.Nets.{TellsDial}
use Rattle.hx_conn.specs.declared.exchange.Exchange.{Exchange}

-- of the bytes that were sent and taken, where the link tells both
abbrev pub WhereTold : LinkState → (List ℕ → List ℕ → Type 0) → Type 0
WhereTold l P = IfSome l.sent (λ sent. IfSome l.taken (λ taken. P sent taken))

-- a connection at rest, as contracts see it
pub record RestedNow : Type 0 where
  pub link : LinkState
  pub id : ConnId
  pub server : ServerNo
  -- how many whole exchanges it has carried
  pub uses : ℕ

-- what always holds of a connection that rests
pub record IsRested (r : RestedNow) : Type 0 where
  -- its bytes are as many whole exchanges as it has uses, and nothing more
  pub exchanges : WhereTold r.link (λ sent taken. AreExchanges sent taken r.uses)
  -- its server and its id are those of its dial
  pub dial : TellsDial r.server r.id r.link
  pub no_loop : r.link.on_loop ≡ None
  -- its link never failed
  pub no_fault : r.link.faults ≡ 0
  pub counted : IsCounted r.link
  pub few : r.uses ≤ 65535

-- a connection with an exchange under way, as contracts see it
pub record BusyNow : Type 0 where
  pub link : LinkState
  pub id : ConnId
  pub server : ServerNo
  -- how many whole exchanges it has carried before this one
  pub uses : ℕ
  pub exchange : Exchange

-- the bytes sent in the exchange are a whole request of its method
abbrev pub AskIsWhole : BusyNow → Type 0
AskIsWhole b = IfSome b.link.sent (λ sent. IsRequest (drop b.exchange.sent_from sent) b.exchange.method)

-- the first n of the bytes taken in the exchange
abbrev pub answered : BusyNow → ℕ → List ℕ → List ℕ
answered b n taken = take n (drop b.exchange.taken_from taken)

-- what always holds of a busy connection
pub record IsBusy (b : BusyNow) : Type 0 where
  -- before the exchange its bytes are as many whole exchanges as it has uses
  pub exchanges : WhereTold b.link (λ sent taken.
      AreExchanges (take b.exchange.sent_from sent) (take b.exchange.taken_from taken) b.uses)
  pub sent : b.exchange.sent_from ≤ b.link.sent_count
  pub taken : b.exchange.taken_from ≤ b.link.taken_count
  pub ask : b.exchange.asked ≡ true → AskIsWhole b
  -- once the answer's end was found, so many bytes are there and are a whole answer
  pub there : IfSome b.exchange.answer (λ a. b.exchange.taken_from + a.len ≤ b.link.taken_count)
  pub answer : IfSome b.exchange.answer (λ a.
      IfSome b.link.taken (λ taken. IsAnswer b.exchange.method (answered b a.len taken)))
  pub persists : IfSome b.exchange.answer (λ a. a.persistent ≡ true →
      IfSome b.link.taken (λ taken. Persists b.exchange.method (answered b a.len taken)))
  pub dial : TellsDial b.server b.id b.link
  pub on_loop : IsSome b.link.on_loop
  -- its link failed exactly where a call of this exchange did
  pub no_fault : b.exchange.failed ≡ false → b.link.faults ≡ 0
  pub fault : b.exchange.failed ≡ true → 1 ≤ b.link.faults
  pub counted : IsCounted b.link
  pub few : b.uses ≤ 65535
