-- Why a session closes a connection.
use Rattle.std.proofs.Common.{◌≡◌, ◌⊎◌, ◌+◌, ◌<◌, ◌==◌, ◌&&◌, not, ℕ, zero, suc, Bool, true, false, List, [], ◌∷◌, ◌++◌, length, refl, sym, ap, subst, ◌∙◌, inl, inr, arith, Option, Some, None, ⊎_elim}
use Rattle.std.specs.Prelude.{IfSome, if◌then◌else◌, nat_lt, slice_get}
use Rattle.std.proofs.lemmas.Bool.{ltb-true, eqb-true}
use Rattle.hx_base.specs.Spans.{bytes_in}
use Rattle.hx_base.specs.declared.numbers.ConnId.{ConnId}
use Rattle.hx_base.specs.declared.numbers.SessionNo.{SessionNo}
use Rattle.hx_base.specs.declared.numbers.ThreadNo.{ThreadNo}
use Rattle.hx_base.specs.declared.what.LinkTold.{LinkTold}
use Rattle.hx_conn.specs.Causes.{first_of}
use Rattle.hx_conn.specs.Conns.{BusyNow, IsBusy}
use Rattle.hx_conn.specs.Steps.{answer_ended, refusal}
use Rattle.hx_conn.specs.WhatTold as whats
use Rattle.hx_conn.specs.WhatTold.{what_of_link}
use Rattle.hx_conn.specs.declared.causes.RestCause.{RestCause}
use Rattle.hx_conn.specs.declared.causes.RestCause.TheVariants.{AskOpen, Leftover, NoPersistence, UsesSpent, Faulted}
use Rattle.hx_link.specs.Nets.{NetState}
use Rattle.hx_message.specs.declared.MethodKind.{MethodKind}
use Rattle.hx_message.specs.Body.{persists}
use Rattle.hx_message.specs.Message.{IsAnswerWith, Persists}
use Rattle.hx_message.proofs.Unique.{one_answer}
use Rattle.hx_pool.specs.declared.entries.Entry.{Entry}
use Rattle.hx_pool.specs.declared.entries.Note.{Note}
use Rattle.hx_pool.specs.History.{marks_of}
use Rattle.hx_pool.specs.SeatView.{History}
use Rattle.hx_record.specs.declared.served.Carried.{Carried}
use Rattle.hx_record.specs.declared.served.CutCause.{CutCause}
use Rattle.hx_record.specs.declared.served.Served.{Served}
use Rattle.hx_connecting.specs.Adding.{EachAdds}
use Rattle.hx_connecting.specs.Closings.{not_reusable}
use Rattle.hx_connecting.specs.Exchanges.{IsClosed}
use Rattle.hx_connecting.specs.Outcomes.{Outcome, CloseNone}
use Rattle.hx_connecting.specs.Touches.{Touch, Came, Had, Opened, Took, Went, Stays, Rests, Ends, EndsTakenBack, came_marks, went_marks, touch_marks, marks_at}
use Rattle.hx_connecting.proofs.TouchedCalls.{BreaksOff, CauseAt}
use Rattle.hx_session.specs.declared.exchange.BodyWay.{BodyWay}
use Rattle.hx_session.specs.Answering.{IsBodyCarried}
use Rattle.hx_session.specs.Carried.{IsCarried}
use Rattle.hx_session.specs.Desks.{DeskNow}
use Rattle.hx_session.specs.Ending.{CutsOff}
use Rattle.hx_session.specs.Exchanged.{ExchangeNow}
use Rattle.hx_session.specs.Over.{IsOver, carried_of}
use Rattle.hx_session.specs.Since.{HasSince}
use Rattle.hx_session.specs.Telling.{GivesPassed}
use Rattle.hx_session.proofs.PassedLemmas.{body_of, in_middle, whole_way}
use Rattle.hx_session.proofs.RestWays.{kind_of}

-- an exchange that is cut off is broken off
pub cut_breaks : (d d1 : DeskNow) (e : ExchangeNow) (why : CutCause) (r : Served) (z : Outcome) → CutsOff d d1 e why r → BreaksOff e.busy z (Some r)
cut_breaks d d1 e why r z k = (carried_of e k.took_to, why, ap (λ (x : Served). x.kind) k.served, refl, refl)

-- the marks of the entries at a seat
pub added_marks : (n : SessionNo) (first : Bool) (f : ℕ → List Entry) (i : ℕ) (olds news : List History) (added : List (List Note)) (j : ℕ) (es : List Note) → EachAdds n first f i olds news added → slice_get added j ≡ Some es
    → marks_of es ≡ f (i + j)
added_marks n first f i olds news [] j es e there = cc
added_marks n first f i [] [] (x ∷ added) j es e there = absurd e
added_marks n first f i [] (k ∷ news) (x ∷ added) j es e there = absurd e
added_marks n first f i (o ∷ olds) [] (x ∷ added) j es e there = absurd e
added_marks n first f i (o ∷ olds) (k ∷ news) (x ∷ added) zero es e there = ap marks_of (some_is es x (sym there)) ∙ (e.0.marked.marks ∙ ap f (omega arith))
  where
    some_is : (a b : List Note) → Some a ≡ Some b → a ≡ b
    some_is a b z = cc
added_marks n first f i (o ∷ olds) (k ∷ news) (x ∷ added) (suc j) es e there = added_marks n first f (i + 1) olds news added j es e.1 there ∙ ap f (omega arith)

-- a connection that is touched and not closed leaves no Close
free_if : (b : Bool) (ms : List Entry) → CloseNone ms → CloseNone (if b then ms else [])
free_if true ms none = none
free_if false ms none = tt

went_free : (t : ThreadNo) (n : SessionNo) (first : Bool) (id : ConnId) (came : Came) (went : Went) → IsClosed went ⊎ CloseNone (came_marks t n first id came ++ went_marks t n id went)
went_free t n first id came Ends = inl tt
went_free t n first id came (EndsTakenBack place uses) = inl tt
went_free t n first id Had Stays = inr tt
went_free t n first id Opened Stays = inr (tt, tt)
went_free t n first id (Took p u) Stays = inr (tt, tt)
went_free t n first id Had (Rests place uses) = inr (tt, tt)
went_free t n first id Opened (Rests place uses) = inr (tt, (tt, tt))
went_free t n first id (Took p u) (Rests place uses) = inr (tt, (tt, tt))

pub closed_or_free : (t : ThreadNo) (n : SessionNo) (first : Bool) (x : Touch) → IsClosed x.went ⊎ ((i : ℕ) → CloseNone (marks_at t n first (Some x) i))
closed_or_free t n first x = ⊎_elim (λ c. inl c) (λ none. inr (λ i. free_if (x.server.0 == i) (touch_marks t n first x) none)) (went_free t n first x.id x.came x.went)

-- an answer that doesn't say so, or runs to the end, is none after which its connection persists
both : (p t : Bool) → p ≡ true → (t ≡ true → ⊥) → (p && not t) ≡ false → ⊥
both true true p n e = n refl
both true false p n e = cc
both false t p n e = cc

persists_not : (y : BodyWay) (m : MethodKind) (wants written : Bool) (taken put : List ℕ) (body : IsBodyCarried y wants written m taken put) → IsAnswerWith m taken body.head body.kind → (y.persists && not y.to_end) ≡ false
    → Persists m taken → ⊥
persists_not y m wants written taken put body answers ends (g, kind, other, lasts, runs) =
    let one = one_answer m taken body.head g body.kind kind answers other in
    both y.persists y.to_end (body.lasts ∙ (ap persists one.0 ∙ lasts)) (λ e. runs (sym one.1 ∙ body.to_end.0 e)) ends

-- of a connection whose exchange passed: bytes came past the answer, the answer ends it, or it was used as often as may be
abbrev NotRest : BusyNow → Carried → Option LinkTold → Type 0
NotRest b p o = IfSome o (λ l. p.took.to < length l.taken) ⊎ (IfSome o (λ l. Persists b.exchange.method (bytes_in l.taken p.took) → ⊥) ⊎ (b.uses ≡ 65535))

left_told : (s t : Option (List ℕ)) (ended : Bool) (to count : ℕ) → to < count → IfSome t (λ x. length x ≡ count) → IfSome (whats.told_of s t ended) (λ l. to < length l.taken)
left_told None t ended to count low k = tt
left_told (Some s) None ended to count low k = tt
left_told (Some s) (Some t) ended to count low k = omega (arith, low, k)

last_told : (s t : Option (List ℕ)) (ended : Bool) (m : MethodKind) (count from : ℕ) (taken down : List ℕ) (p : Carried) → HasSince t count from (taken ++ down) → from ≡ p.took.from → p.took.to ≡ p.took.from + length taken
    → (Persists m taken → ⊥) → IfSome (whats.told_of s t ended) (λ l. Persists m (bytes_in l.taken p.took) → ⊥)
last_told None t ended m count from taken down p k begins ends never = tt
last_told (Some s) None ended m count from taken down p k begins ends never = tt
last_told (Some s) (Some t) ended m count from taken down p k begins ends never =
    let at = k.bytes_are in
    λ lasts. never (subst (λ (xs : List ℕ). Persists m xs) (in_middle t at.0 taken down p.took at.2 (at.1 ∙ begins) ends) lasts)

by_first : (c : Bool) (why w : RestCause) (rest : Option RestCause) → (if c then Some w else rest) ≡ Some why → (c ≡ true) ⊎ (rest ≡ Some why)
by_first true why w rest e = inl refl
by_first false why w rest e = inr e

not_true : (b : Bool) → not b ≡ true → b ≡ false
not_true true e = cc
not_true false e = refl

true_not : (b : Bool) → b ≡ true → not b ≡ true → ⊥
true_not true e f = cc
true_not false e f = cc

false_not : (b : Bool) → b ≡ false → b ≡ true → ⊥
false_not true e f = cc
false_not false e f = cc

none_why : (why : RestCause) → None ≡ Some why → ⊥
none_why why e = cc

not_rest : (d d1 : DeskNow) (e : ExchangeNow) (y : BodyWay) (persistent : Bool) (r : Served) (k : GivesPassed d d1 e r) → IsCarried d e → IsOver d e y → e.busy.exchange.failed ≡ false → persistent ≡ (y.persists && not y.to_end)
    → IsBusy (answer_ended e.busy e.answered persistent) → (why : RestCause) → refusal (answer_ended e.busy e.answered persistent) ≡ Some why → NotRest (answer_ended e.busy e.answered persistent) (carried_of e k.took_to) (what_of_link e.busy.link).told
not_rest d d1 e y persistent r k carried over good lasts busy why refused =
    let x = e.busy.exchange in
    let l = e.busy.link in
    let a = carried.answer in
    let body = body_of e.answer y e a.taken a.put over.body a.way in
    let asked : x.asked ≡ true = sym carried.ask.written ∙ body.timely over.timely in
    let End : Type 0 = (e.ended ≡ true) × (d.down.bytes ≡ []) in
    let answers = (whole_way y x.method a.taken a.put body.head body.kind End body.way body.state body.to_end over.ends).0 in
    let faults : List (Bool × RestCause) = (x.failed, Faulted) ∷ [] in
    let spent : List (Bool × RestCause) = (e.busy.uses == 65535, UsesSpent) ∷ faults in
    let ends : List (Bool × RestCause) = (not persistent, NoPersistence) ∷ spent in
    let lefts : List (Bool × RestCause) = (nat_lt (x.taken_from + e.answered) l.taken_count, Leftover) ∷ ends in
    ⊎_elim
    (λ unasked. absurd (true_not x.asked asked unasked))
    (λ one. ⊎_elim
    (λ more. inl (left_told l.sent l.taken l.told_end k.took_to l.taken_count (omega (arith, k.counted, ltb-true (x.taken_from + e.answered) l.taken_count more)) busy.counted.taken))
    (λ two. ⊎_elim
    (λ lost. inr (inl (last_told l.sent l.taken l.told_end x.method l.taken_count x.taken_from a.taken d.down.bytes (carried_of e k.took_to) a.front refl (omega (arith, k.counted, a.answered))
    (persists_not y x.method e.ask.wants_close e.ask.written a.taken a.put body answers (sym lasts ∙ not_true persistent lost)))))
    (λ three. ⊎_elim
    (λ used. inr (inr (eqb-true e.busy.uses 65535 used)))
    (λ four. ⊎_elim (λ bad. absurd (false_not x.failed good bad)) (λ five. absurd (none_why why five)) (by_first x.failed why Faulted None four))
    (by_first (e.busy.uses == 65535) why UsesSpent (first_of faults) three))
    (by_first (not persistent) why NoPersistence (first_of spent) two))
    (by_first (nat_lt (x.taken_from + e.answered) l.taken_count) why Leftover (first_of ends) one))
    (by_first (not x.asked) why AskOpen (first_of lefts) refused)

pub rest_causes : (d d1 : DeskNow) (e : ExchangeNow) (b : BusyNow) (y : BodyWay) (persistent : Bool) (r : Served) (k : GivesPassed d d1 e r) → IsCarried d e → IsOver d e y → e.busy.exchange.failed ≡ false
    → b ≡ answer_ended e.busy e.answered persistent → persistent ≡ (y.persists && not y.to_end) → IsBusy b → (n : SessionNo) (z : Outcome) (net net' : NetState) (why : RestCause) → refusal b ≡ Some why → CauseAt n b z net net' (Some r)
rest_causes d d1 e b y persistent r k carried over good is lasts busy n z net net' why refused = λ s s' h front x w left was server id number told comes.
    let p = carried_of e k.took_to in
    let there : BusyNow = answer_ended e.busy e.answered persistent in
    let cause = not_rest d d1 e y persistent r k carried over good lasts (subst IsBusy is busy) why (subst (λ (q : BusyNow). refusal q ≡ Some why) is refused) in
    let here : NotRest b p (what_of_link b.link).told = subst (λ (q : BusyNow). NotRest q p (what_of_link q.link).told) (sym is) cause in
    let after : NotRest b p w.told = subst (λ (o : Option LinkTold). NotRest b p o) (sym told) here in
    not_reusable b p was (r, refl, kind_of d d1 e r k) (⊎_elim (λ u. inl u) (λ u. ⊎_elim (λ v. inr (inl v)) (λ v. inr (inr (inl v))) u) after)
