-- A connection whose exchange passed, and one that a session goes on with.
use Rattle.std.proofs.Common.{◌≡◌, ◌+◌, ℕ, Bool, List, refl, sym, ap, subst, ◌∙◌, Option, Some, None}
use Rattle.std.specs.Prelude.{IfSome}
use Rattle.hx_base.specs.declared.numbers.ServerNo.{ServerNo}
use Rattle.hx_base.specs.declared.numbers.SessionNo.{SessionNo}
use Rattle.hx_base.specs.declared.numbers.ThreadNo.{ThreadNo}
use Rattle.hx_conn.specs.Conns.{RestedNow, BusyNow, IsBusy}
use Rattle.hx_conn.specs.Steps.{refusal, rested_of, answer_ended}
use Rattle.hx_conn.specs.WhatTold.{what_of_link}
use Rattle.hx_conn.specs.declared.exchange.AnswerEnd.{AnswerEnd}
use Rattle.hx_link.specs.Nets.{NetState}
use Rattle.hx_pool.specs.declared.entries.Note.{Note}
use Rattle.hx_pool.specs.SeatView.{History}
use Rattle.hx_record.specs.declared.served.Kind.{Kind}
use Rattle.hx_record.specs.declared.served.Kind.TheVariants as kind
use Rattle.hx_record.specs.declared.served.Served.{Served}
use Rattle.hx_connecting.specs.Around.{resting}
use Rattle.hx_connecting.specs.Exchanges.{PassedEnds}
use Rattle.hx_connecting.specs.Sessions.{SessionNow, Holding, Exchanging as OnConn}
use Rattle.hx_connecting.specs.Touches.{Touch}
use Rattle.hx_connecting.specs.Ways.{WayFor, RestWay}
use Rattle.hx_connecting.proofs.TouchedCalls.{IsPassed, EndsFor, told_if}
use Rattle.hx_session.specs.declared.stage.Came.{Came}
use Rattle.hx_session.specs.declared.stage.Came.TheVariants.{On, Moved, Ends}
use Rattle.hx_session.specs.Desks.{DeskNow}
use Rattle.hx_session.specs.Exchanged.{ExchangeNow}
use Rattle.hx_session.specs.Over.{carried_of}
use Rattle.hx_connecting.specs.Outcomes.{Outcome, Leaving}
use Rattle.hx_session.specs.Stages.{stage_now}
use Rattle.hx_session.specs.Parting.{CameWay, RestsSo, came_outcome, outcome_of}
use Rattle.hx_session.specs.Standing.{GoesToHeld}
use Rattle.hx_session.specs.Telling.{GivesPassed}
use Rattle.hx_session.proofs.EndingLemmas.{passed_ends}
use Rattle.hx_session.proofs.PartingLemmas.{for_behind}
use Rattle.hx_session.proofs.StaysLemmas.{ended_stays}

pub kind_of : (d d1 : DeskNow) (e : ExchangeNow) (r : Served) (k : GivesPassed d d1 e r) → r.kind ≡ kind.Passed (carried_of e k.took_to)
kind_of d d1 e r k = ap (λ (x : Served). x.kind) k.gives.served

pub is_passed : (d d1 : DeskNow) (e : ExchangeNow) (r : Served) → GivesPassed d d1 e r → IsPassed (Some r)
is_passed d d1 e r k = (r, carried_of e k.took_to, refl, kind_of d d1 e r k)

ends_at : (e : ExchangeNow) (b : BusyNow) (persistent : Bool) (took : ℕ) → b ≡ answer_ended e.busy e.answered persistent → IsBusy b → took ≡ e.busy.exchange.taken_from + e.answered → refusal b ≡ None
    → (s : SessionNow) (x : Touch) → s.conn ≡ Some (OnConn b) → PassedEnds s x (Some (what_of_link (rested_of b).link)) (kind.Passed (carried_of e took))
ends_at e b persistent took is busy counted none s x was =
    let z : BusyNow = answer_ended e.busy e.answered persistent in
    let a : AnswerEnd = record { len = e.answered; persistent = persistent } in
    subst (λ (y : BusyNow). PassedEnds s x (Some (what_of_link (rested_of y).link)) (kind.Passed (carried_of e took))) (sym is)
    (passed_ends s x z z a (carried_of e took) (was ∙ ap (λ (y : BusyNow). Some (OnConn y)) is) (subst IsBusy is busy) refl refl (subst (λ (y : BusyNow). refusal y ≡ None) is none) refl
    (ap (λ (n : ℕ). (carried_of e n).took) counted))

-- all that moved over it is in exchanges, where it may rest
pub passed_for : (d d1 : DeskNow) (e : ExchangeNow) (b : BusyNow) (persistent : Bool) (r : Served) → GivesPassed d d1 e r → b ≡ answer_ended e.busy e.answered persistent → IsBusy b → refusal b ≡ None → EndsFor b (Some r)
passed_for d d1 e b persistent r k is busy none = λ s x was.
    subst (λ (z : Kind). PassedEnds s x (Some (what_of_link (rested_of b).link)) z) (sym (kind_of d d1 e r k)) (ends_at e b persistent k.took_to is busy k.counted none s x was)

-- the same of the exchange before its answer's end was noted
pub rest_behind : (t : ThreadNo) (n m : SessionNo) (first : Bool) (z : Outcome) (b b' : BusyNow) (persistent : Bool) (len : ℕ) (olds news : List History) (net net' : NetState) (held : Option RestedNow) (served : Option Served) → n ≡ m
    → b' ≡ answer_ended b len persistent → RestWay t n first (Some (OnConn b')) z olds news net net' held served → RestWay t m first (Some (OnConn b)) z olds news net net' held served
rest_behind t n m first z b b' persistent len olds news net net' held served same is w =
    let told = told_if served (ap (λ (x : BusyNow). (what_of_link x.link).told) is) in
    subst (λ (v : SessionNo). RestWay t v first (Some (OnConn b)) z olds news net net' held served) same (record {
      touch = w.touch;
      may = w.may;
      at = w.at;
      way = for_behind t n b b' (resting held) z news w.at.added net net' w.touch served (ended_stays b b' len persistent is) told w.way;
    })

-- behind the part that gives the record
pub rests_came : {X : Type 0} (came : Came X) (t : ThreadNo) (n : SessionNo) (c : Option Holding) (news : List History) (added : List (List Note)) (net net' : NetState) (x : Option Touch) (held : Option RestedNow) (r : Served)
    → RestsSo came held r → WayFor t n c (resting held) (came_outcome came) news added net net' x (Some r) → CameWay came t n c news added net net' x
rests_came (On stage w) t n c news added net net' x held r k way = absurd k
rests_came (Moved stage w served) t n c news added net net' x held r k way =
    subst (λ (o : Option Holding). WayFor t n c o (outcome_of (stage_now stage)) news added net net' x served) (sym k.0) (subst (λ (o : Option Served). WayFor t n c (resting held) (outcome_of (stage_now stage)) news added net net' x o) (sym k.1) way)
rests_came (Ends e) t n c news added net net' x held r k way =
    subst (λ (o : Option RestedNow). WayFor t n c (resting o) Leaving news added net net' x e.served) (sym k.0) (subst (λ (o : Option Served). WayFor t n c (resting held) Leaving news added net net' x o) (sym k.1) way)

some_same : (a b : ServerNo) → Some a ≡ Some b → b ≡ a
some_same a b e = cc

-- a request goes to the server of what the session holds
pub held_to : (held : Option RestedNow) (o : Option ServerNo) (server : ServerNo) → GoesToHeld held o → o ≡ Some server → IfSome held (λ r. r.server ≡ server)
held_to None o server good is = tt
held_to (Some r) o server good is = some_same server r.server (sym is ∙ good)
