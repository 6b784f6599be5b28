-- A passed exchange whose connection may rest has all its bytes in exchanges.
use Rattle.std.proofs.Common.{◌≡◌, ℕ, ◌+◌, ◌-◌, ◌≤◌, Bool, true, false, not, List, [], ◌∷◌, length, take, drop, refl, sym, ap, subst, ◌∙◌, inr, arith, Option, Some, None}
use Rattle.std.specs.Prelude.{IfSome, nat_lt, is_none, ◌==◌, if◌then◌else◌}
use Rattle.std.proofs.lemmas.Bool.{ltb-false}
use Rattle.hx_base.specs.Spans.{bytes_in}
use Rattle.hx_base.specs.declared.numbers.Span.{Span}
use Rattle.hx_message.specs.declared.MethodKind.{MethodKind}
use Rattle.hx_conn.specs.WhatTold as whats
use Rattle.hx_conn.specs.WhatTold.{what_of_link}
use Rattle.hx_conn.specs.Conns.{BusyNow, IsBusy, answered}
use Rattle.hx_conn.specs.Steps.{refusal, rested_of}
use Rattle.hx_conn.specs.Causes.{has_leftover, is_persistent, first_of}
use Rattle.hx_conn.specs.declared.causes.RestCause.{RestCause}
use Rattle.hx_conn.specs.declared.causes.RestCause.TheVariants.{AskOpen, AnswerOpen, Leftover, NoPersistence, UsesSpent, Faulted}
use Rattle.hx_conn.specs.declared.exchange.AnswerEnd.{AnswerEnd}
use Rattle.hx_message.specs.Message.{Persists}
use Rattle.hx_record.specs.declared.served.Carried.{Carried}
use Rattle.hx_record.specs.declared.served.Kind.TheVariants as kind
use Rattle.hx_session.specs.Over.{span}
use Rattle.hx_connecting.specs.Sessions.{SessionNow, Exchanging}
use Rattle.hx_connecting.specs.Touches.{Touch}
use Rattle.hx_connecting.specs.Exchanges.{PassedEnds, EndsWith}

-- the first cause isn't one where none is
not_first : (c : Bool) (why : RestCause) (rest : Option RestCause) → (if c then Some why else rest) ≡ None → (c ≡ false) × (rest ≡ None)
not_first true why rest e = cc
not_first false why rest e = (refl, e)

not_not : (b : Bool) → not b ≡ false → b ≡ true
not_not true e = refl
not_not false e = cc

-- where no cause speaks against rest nothing lies past the answer, and the connection persists
may_rest : (b : BusyNow) (a : AnswerEnd) → b.exchange.answer ≡ Some a → refusal b ≡ None → (nat_lt (b.exchange.taken_from + a.len) b.link.taken_count ≡ false) × (a.persistent ≡ true)
may_rest b a is none =
    let e = b.exchange in
    let faults : List (Bool × RestCause) = (b.uses == 65535, UsesSpent) ∷ (e.failed, Faulted) ∷ [] in
    let lasts : List (Bool × RestCause) = (not (is_persistent e.answer), NoPersistence) ∷ faults in
    let lefts : List (Bool × RestCause) = (has_leftover e b.link.taken_count e.answer, Leftover) ∷ lasts in
    let opens : List (Bool × RestCause) = (is_none e.answer, AnswerOpen) ∷ lefts in
    let one = not_first (not e.asked) AskOpen (first_of opens) none in
    let two = not_first (is_none e.answer) AnswerOpen (first_of lefts) one.1 in
    let three = not_first (has_leftover e b.link.taken_count e.answer) Leftover (first_of lasts) two.1 in
    let four = not_first (not (is_persistent e.answer)) NoPersistence (first_of faults) three.1 in (
      subst (λ (o : Option AnswerEnd). has_leftover e b.link.taken_count o ≡ false) is three.0,
      not_not a.persistent (subst (λ (o : Option AnswerEnd). not (is_persistent o) ≡ false) is four.0),
    )

ends_told : (b b1 : BusyNow) (a : AnswerEnd) (c : Carried) (s t : Option (List ℕ)) (ended : Bool) → IfSome s (λ x. length x ≡ b1.link.sent_count) → IfSome t (λ x. length x ≡ b1.link.taken_count)
    → b1.exchange.method ≡ b.exchange.method → c.sent.to ≡ b1.link.sent_count → c.took ≡ span b1.exchange.taken_from (b1.exchange.taken_from + a.len)
    → b1.exchange.taken_from + a.len ≡ b1.link.taken_count → IfSome t (λ x. Persists b1.exchange.method (answered b1 a.len x))
    → IfSome (whats.told_of s t ended) (λ l. EndsWith b c l.sent l.taken)
ends_told b b1 a c None t ended hs ht method sent took all persists = tt
ends_told b b1 a c (Some s) None ended hs ht method sent took all persists = tt
ends_told b b1 a c (Some s) (Some t) ended hs ht method sent took all persists =
    let from = b1.exchange.taken_from in
    let len : (from + a.len) - from ≡ a.len = omega arith in
    record {
      all_sent = sent ∙ sym hs;
      all_taken = ap (λ (x : Span). x.to) took ∙ (all ∙ sym ht);
      persists = subst (λ (x : Span). Persists b.exchange.method (bytes_in t x)) (sym took)
          (subst (λ (k : ℕ). Persists b.exchange.method (take k (drop from t))) (sym len)
          (subst (λ (m : MethodKind). Persists m (take a.len (drop from t))) method persists));
    }

pub passed_ends : (s : SessionNow) (x : Touch) (b b1 : BusyNow) (a : AnswerEnd) (c : Carried) → s.conn ≡ Some (Exchanging b) → IsBusy b1 → b1.exchange.method ≡ b.exchange.method
    → b1.exchange.answer ≡ Some a → refusal b1 ≡ None → c.sent.to ≡ b1.link.sent_count → c.took ≡ span b1.exchange.taken_from (b1.exchange.taken_from + a.len)
    → PassedEnds s x (Some (what_of_link (rested_of b1).link)) (kind.Passed c)
passed_ends s x b b1 a c was busy method is none sent took =
    let ok = may_rest b1 a is none in
    let there : b1.exchange.taken_from + a.len ≤ b1.link.taken_count = subst (λ (o : Option AnswerEnd). IfSome o (λ a. b1.exchange.taken_from + a.len ≤ b1.link.taken_count)) is busy.there in
    let high : b1.link.taken_count ≤ b1.exchange.taken_from + a.len = ltb-false (b1.exchange.taken_from + a.len) b1.link.taken_count ok.0 in
    let all : b1.exchange.taken_from + a.len ≡ b1.link.taken_count = omega (arith, there, high) in
    let lasts = subst (λ (o : Option AnswerEnd). IfSome o (λ a. a.persistent ≡ true → IfSome b1.link.taken (λ taken. Persists b1.exchange.method (answered b1 a.len taken)))) is busy.persists ok.1 in
    inr (b, was, ends_told b b1 a c b1.link.sent b1.link.taken b1.link.told_end busy.counted.sent busy.counted.taken method sent took all lasts)
