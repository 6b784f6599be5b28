-- An exchange that goes on, on the same connection, and what its link tells.
use Rattle.std.proofs.Common.{◌≡◌, ℕ, Bool, List, refl, sym, ap, subst, ◌∙◌, Option, Some, None}
use Rattle.std.specs.Prelude.{IfSome}
use Rattle.hx_conn.specs.Conns.{RestedNow, BusyNow}
use Rattle.hx_conn.specs.Steps.{WritesAsk, ReadsAnswer, ask_ended, answer_ended, after_call, is_failed_put, is_failed_got}
use Rattle.hx_conn.specs.WhatTold.{told_of, what_of_link}
use Rattle.hx_link.specs.Told.{LinkState}
use Rattle.hx_link.specs.Pipes.{PipeNow}
use Rattle.hx_link.specs.declared.answers.Got.{Got}
use Rattle.hx_link.specs.declared.answers.Put.{Put}
use Rattle.hx_record.specs.declared.served.Kind.TheVariants as kind
use Rattle.hx_record.specs.declared.served.Served.{Served}
use Rattle.hx_connecting.specs.Around.{resting}
use Rattle.hx_connecting.specs.Links.{IsSameLink}
use Rattle.hx_connecting.specs.Ways.{HasNoExchange, GivesOwn, IsOwn, ExchangeStays, ToldStays}
use Rattle.hx_connecting.proofs.WayLemmas.{reads_same, writes_same, same_self}
use Rattle.hx_session.specs.declared.stage.Came.{Came}
use Rattle.hx_session.specs.declared.stage.Came.TheVariants.{On, Moved, Ends}
use Rattle.hx_session.specs.Desks.{DeskNow}
use Rattle.hx_session.specs.Over.{served_of}
use Rattle.hx_session.specs.Parting.{CameKeeps}
use Rattle.hx_session.specs.Telling.{CarriesSame}

pub carries_told : (a b : LinkState) → CarriesSame a b → (what_of_link b).told ≡ (what_of_link a).told
carries_told a b k = ap (λ (s : Option (List ℕ)). told_of s b.taken b.told_end) k.sent ∙ (ap (λ (t : Option (List ℕ)). told_of a.sent t b.told_end) k.taken ∙ ap (λ (e : Bool). told_of a.sent a.taken e) k.ended)

pub busy_self : (b : BusyNow) → ExchangeStays b b
busy_self b = record { server = refl; id = refl; link = same_self b.link; same = record { begins = record { uses_are = refl; sent_from = refl; taken_from = refl }; method = refl } }

-- the whole request was written, or the whole answer was read
pub asked_stays : (a b : BusyNow) → b ≡ ask_ended a → ExchangeStays a b
asked_stays a b e = subst (λ (x : BusyNow). ExchangeStays a x) (sym e) (record { server = refl; id = refl; link = same_self a.link; same = record { begins = record { uses_are = refl; sent_from = refl; taken_from = refl }; method = refl } })

pub ended_stays : (a b : BusyNow) (len : ℕ) (persistent : Bool) → b ≡ answer_ended a len persistent → ExchangeStays a b
ended_stays a b len persistent e =
    subst (λ (x : BusyNow). ExchangeStays a x) (sym e) (record { server = refl; id = refl; link = same_self a.link; same = record { begins = record { uses_are = refl; sent_from = refl; taken_from = refl }; method = refl } })

-- one call of the link
call_stays : (a b : BusyNow) (failed : Bool) → b ≡ after_call a b.link failed → IsSameLink (what_of_link a.link) (what_of_link b.link) → ExchangeStays a b
call_stays a b failed e link = record {
  server = ap (λ (x : BusyNow). x.server) e;
  id = ap (λ (x : BusyNow). x.id) e;
  link = link;
  same = record {
    begins = record { uses_are = ap (λ (x : BusyNow). x.uses) e; sent_from = ap (λ (x : BusyNow). x.exchange.sent_from) e; taken_from = ap (λ (x : BusyNow). x.exchange.taken_from) e };
    method = ap (λ (x : BusyNow). x.exchange.method) e;
  };
}

pub writes_stay : (a b : BusyNow) (now : ℕ) (result : Put) (bytes : List ℕ) → WritesAsk a b now result bytes → ExchangeStays a b
writes_stay a b now result bytes w = call_stays a b (is_failed_put result) w.0 (writes_same a.link b.link now result bytes w.1)

pub reads_stay : (a b : BusyNow) (now : ℕ) (before after : PipeNow) (result : Got) → ReadsAnswer a b now before after result → ExchangeStays a b
reads_stay a b now before after result r = call_stays a b (is_failed_got result) r.busy (reads_same a.link b.link now result r.read.into r.read.reads)

-- no byte is moved with what comes
pub keeps_any : {X : Type 0} (c : Came X) (a b : BusyNow) → ToldStays a b → CameKeeps c a b
keeps_any (On stage w) a b e = e
keeps_any (Moved stage w None) a b e = tt
keeps_any (Moved stage w (Some r)) a b e = e
keeps_any (Ends x) a b e = ends x.served
  where
    ends : (o : Option Served) → IfSome o (λ r. ToldStays a b)
    ends None = tt
    ends (Some r) = e

-- an own answer's record is given outside of an exchange
rests_free : (held : Option RestedNow) → HasNoExchange (resting held)
rests_free None = tt
rests_free (Some r) = tt

pub own_given : (d : DeskNow) (status to : ℕ) (held : Option RestedNow) (r : Served) → r ≡ served_of d (kind.Own status) to → GivesOwn (Some r) (resting held)
own_given d status to held r e = (subst (λ (x : Served). IsOwn x.kind) (sym e) tt, rests_free held)
