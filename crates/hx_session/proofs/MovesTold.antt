-- What a call in an exchange tells where nothing is moved on its links.
use Rattle.std.proofs.Common.{◌≡◌, ℕ, Bool, refl, ap, List}
use Rattle.hx_link.specs.declared.answers.Got.TheVariants as got
use Rattle.hx_link.specs.declared.answers.Put.TheVariants as put
use Rattle.hx_link.specs.Links.{LinkReads, LinkWrites}
use Rattle.hx_link.specs.Pipes.{PipeNow}
use Rattle.hx_link.specs.Told.{LinkState}
use Rattle.hx_base.specs.declared.numbers.Millis.{Millis}
use Rattle.hx_conn.specs.Conns.{BusyNow}
use Rattle.hx_conn.specs.Steps.{after_call}
use Rattle.hx_session.specs.declared.exchange.AnswerWay.{AnswerWay}
use Rattle.hx_session.specs.declared.exchange.AskWay.{AskWay}
use Rattle.hx_session.specs.Desks.{DeskNow}
use Rattle.hx_session.specs.Exchanged.{ExchangeNow}
use Rattle.hx_session.specs.Stages.{Exchanging}
use Rattle.hx_session.specs.Telling.{CarriesSame, IsSameExchange, IsStillTold}
use Rattle.hx_session.proofs.TellLemmas.{link_same}

-- a call that moved nothing, on the connection of the exchange
pub call_same : (e : ExchangeNow) (b : BusyNow) (failed : Bool) → b ≡ after_call e.busy b.link failed → CarriesSame e.busy.link b.link → IsSameExchange e (record e { busy = b })
call_same e b failed is link = record {
  server = ap (λ (x : BusyNow). x.server) is;
  id = ap (λ (x : BusyNow). x.id) is;
  uses = ap (λ (x : BusyNow). x.uses) is;
  sent_from = ap (λ (x : BusyNow). x.exchange.sent_from) is;
  taken_from = ap (λ (x : BusyNow). x.exchange.taken_from) is;
  method = ap (λ (x : BusyNow). x.exchange.method) is;
  link = link;
}

pub read_waits_same : (a b : LinkState) (now : ℕ) (into : List ℕ) → LinkReads a b now got.NotYet into → CarriesSame a b
read_waits_same a b now into r = record { taken = ap (λ (l : LinkState). l.taken) r.0; sent = ap (λ (l : LinkState). l.sent) r.0; ended = ap (λ (l : LinkState). l.told_end) r.0 }

pub read_fails_same : (a b : LinkState) (now : ℕ) (into : List ℕ) → LinkReads a b now got.Failed into → CarriesSame a b
read_fails_same a b now into r = record { taken = ap (λ (l : LinkState). l.taken) r.0; sent = ap (λ (l : LinkState). l.sent) r.0; ended = ap (λ (l : LinkState). l.told_end) r.0 }

pub write_waits_same : (a b : LinkState) (now : ℕ) (bytes : List ℕ) → LinkWrites a b now put.NotYet bytes → CarriesSame a b
write_waits_same a b now bytes w = record { taken = ap (λ (l : LinkState). l.taken) w.0; sent = ap (λ (l : LinkState). l.sent) w.0; ended = ap (λ (l : LinkState). l.told_end) w.0 }

pub write_fails_same : (a b : LinkState) (now : ℕ) (bytes : List ℕ) → LinkWrites a b now put.Failed bytes → CarriesSame a b
write_fails_same a b now bytes w = record { taken = ap (λ (l : LinkState). l.taken) w.0; sent = ap (λ (l : LinkState). l.sent) w.0; ended = ap (λ (l : LinkState). l.told_end) w.0 }

-- the exchange but for how far its answer, or its request, is
pub answer_same : (e : ExchangeNow) (answered : ℕ) (answer : AnswerWay) → IsSameExchange e (record e { answered = answered; answer = answer })
answer_same e answered answer = record { server = refl; id = refl; uses = refl; sent_from = refl; taken_from = refl; method = refl; link = link_same e.busy.link }

pub ask_same : (e : ExchangeNow) (ask : AskWay) → IsSameExchange e (record e { ask = ask })
ask_same e ask = record { server = refl; id = refl; uses = refl; sent_from = refl; taken_from = refl; method = refl; link = link_same e.busy.link }

-- the pipes and the moment change alone
pub still_pipes : (d : DeskNow) (from to up down : PipeNow) (since : Millis) (e f : ExchangeNow) → IsSameExchange e f
    → IsStillTold d (Exchanging e) (record d { from = from; to = to; up = up; down = down; waits_since = since }) (Exchanging f)
still_pipes d from to up down since e f same = record {
  none = record { number = refl; ask_from = refl; gave_from = refl; finished = refl };
  who = (refl, refl);
  client = link_same d.client;
  stage = (f, refl, same);
}
