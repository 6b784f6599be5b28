-- What each call keeps of a connection.
use Rattle.std.proofs.Common.{◌≡◌, ℕ, ◌+◌, ◌^◌, ◌<◌, ◌≤◌, List, [], ◌∷◌, ◌++◌, length, take, drop, Option, Some, None, refl, sym, ap, ◌∙◌, subst, arith, add-one}
use Rattle.std.specs.Prelude.{Bool, true, false, ◌||◌, not, IsSome, IfSome, option_map, suc, is_none, ◌==◌}
use Rattle.std.proofs.lemmas.Bool.{ltb-false, eqb-false}
use Rattle.std.proofs.lemmas.List.{take_all, take-append-drop, take-append-le, drop-append-le, length-drop}
use Rattle.hx_message.specs.declared.MethodKind.{MethodKind}
use Rattle.hx_message.specs.Message.{IsRequest, IsAnswer, IsWholeAnswer, Persists}
use Rattle.hx_message.specs.Exchanges.{AreExchanges}
use Rattle.hx_link.specs.declared.answers.Got.{Got}
use Rattle.hx_link.specs.declared.answers.Got.TheVariants as got
use Rattle.hx_link.specs.Told.{LinkState, IsCounted, CountsOne}
use Rattle.hx_link.specs.Sources.{GotFits}
use Rattle.hx_link.specs.Links.{LinkReads, ReadKeepsLimit}
use Rattle.hx_conn.specs.declared.causes.RestCause.{RestCause}
use Rattle.hx_conn.specs.declared.causes.RestCause.TheVariants.{AskOpen, AnswerOpen, Leftover, NoPersistence, UsesSpent, Faulted}
use Rattle.hx_conn.specs.declared.exchange.AnswerEnd.{AnswerEnd}
use Rattle.hx_conn.specs.declared.exchange.Exchange.{Exchange}
use Rattle.hx_conn.specs.Causes.{death_of, first_of, rest_cause, has_leftover, is_persistent}
use Rattle.hx_conn.specs.Conns.{WhereTold, RestedNow, IsRested, BusyNow, IsBusy, answered}
use Rattle.hx_link.specs.Moves.{got_count}
use Rattle.hx_conn.specs.Steps.{begun, after_call, is_failed_got, AnswerIsWhole, answer_ended, refusal, rested_of}

-- what holds of a told value holds of it in another way
if_some : {A : Type 0} (P Q : A → Type 0) (o : Option A) → ((x : A) → P x → Q x) → IfSome o P → IfSome o Q
if_some P Q (Some x) f p = f x p
if_some P Q None f p = tt

-- before the first exchange there is nothing
pub none_told : (sent taken : Option (List ℕ)) → IfSome sent (λ s. s ≡ []) → IfSome taken (λ t. t ≡ [])
    → IfSome sent (λ s. IfSome taken (λ t. AreExchanges s t 0))
none_told (Some s) (Some t) p q = (p, q)
none_told (Some s) None p q = tt
none_told None taken p q = tt

-- all bytes are those of the exchanges before
all_told : (sent taken : Option (List ℕ)) (m n k : ℕ) → IfSome sent (λ s. length s ≡ m) → IfSome taken (λ t. length t ≡ n)
    → IfSome sent (λ s. IfSome taken (λ t. AreExchanges s t k))
    → IfSome sent (λ s. IfSome taken (λ t. AreExchanges (take m s) (take n t) k))
all_told (Some s) (Some t) m n k p q e =
    let sent : take m s ≡ s = take_all m s (omega arith) in
    let taken : take n t ≡ t = take_all n t (omega arith) in
    rw (sent, taken) e
all_told (Some s) None m n k p q e = tt
all_told None taken m n k p q e = tt

pub begins : (r : RestedNow) (method : MethodKind) (loop_no : ℕ) → IsRested r → IsBusy (begun r method loop_no)
begins r method loop_no is = record {
  exchanges = all_told r.link.sent r.link.taken r.link.sent_count r.link.taken_count r.uses is.counted.sent is.counted.taken is.exchanges;
  sent = omega arith;
  taken = omega arith;
  ask = λ asked. absurd (cc);
  there = tt;
  answer = tt;
  persists = tt;
  dial = is.dial;
  on_loop = refl;
  no_fault = λ ok. is.no_fault;
  fault = λ failed. absurd (cc);
  counted = record { taken = is.counted.taken; sent = is.counted.sent };
  few = is.few;
}

-- a read that had to wait changes nothing of what is kept
pub rests_on : (r : RestedNow) (link : LinkState) (now : ℕ) (result : Got) (byte : List ℕ) → death_of result ≡ None
    → LinkReads r.link link now result byte → IsCounted link → IsRested r → IsRested (record r { link = link })
rests_on r link now (got.Bytes n) byte alive reads counted is = absurd (cc)
rests_on r link now got.NotYet byte alive reads counted is = record {
  exchanges = subst (λ (l : LinkState). WhereTold l (λ sent taken. AreExchanges sent taken r.uses)) (sym reads.0) is.exchanges;
  dial = subst (λ (l : LinkState). IfSome l.dial (λ d. d ≡ (r.server.0, r.id.0))) (sym reads.0) is.dial;
  no_loop = ap (λ (l : LinkState). l.on_loop) reads.0 ∙ is.no_loop;
  no_fault = ap (λ (l : LinkState). l.faults) reads.0 ∙ is.no_fault;
  counted = counted;
  few = is.few;
}
rests_on r link now got.End byte alive reads counted is = absurd (cc)
rests_on r link now got.Failed byte alive reads counted is = absurd (cc)

-- bytes that are taken later stand behind those of the exchanges before
more_exchanges : (sent taken : Option (List ℕ)) (more : List ℕ) (m n count k : ℕ) → IfSome taken (λ t. length t ≡ count) → n ≤ count
    → IfSome sent (λ s. IfSome taken (λ t. AreExchanges (take m s) (take n t) k))
    → IfSome sent (λ s. IfSome (option_map (λ xs. xs ++ more) taken) (λ t. AreExchanges (take m s) (take n t) k))
more_exchanges (Some s) (Some t) more m n count k len le e =
    let same : take n (t ++ more) ≡ take n t = take-append-le n t more (omega arith) in
    rw same e
more_exchanges (Some s) None more m n count k len le e = tt
more_exchanges None taken more m n count k len le e = tt

-- and behind the answer
more_answered : (taken : Option (List ℕ)) (more : List ℕ) (from n count : ℕ) (P : List ℕ → Type 0)
    → IfSome taken (λ t. length t ≡ count) → from + n ≤ count → IfSome taken (λ t. P (take n (drop from t)))
    → IfSome (option_map (λ xs. xs ++ more) taken) (λ t. P (take n (drop from t)))
more_answered (Some t) more from n count P len le p =
    let rest : drop from (t ++ more) ≡ drop from t ++ more = drop-append-le from t more (omega arith) in
    let same : take n (drop from t ++ more) ≡ take n (drop from t) =
    take-append-le n (drop from t) more (omega (arith, length-drop from t)) in
    rw (rest, same) p
more_answered None more from n count P len le p = tt

more_answer : (answer : Option AnswerEnd) (taken : Option (List ℕ)) (more : List ℕ) (from count : ℕ) (m : MethodKind)
    → IfSome taken (λ t. length t ≡ count) → IfSome answer (λ a. from + a.len ≤ count)
    → IfSome answer (λ a. IfSome taken (λ t. IsAnswer m (take a.len (drop from t))))
    → IfSome answer (λ a. IfSome (option_map (λ xs. xs ++ more) taken) (λ t. IsAnswer m (take a.len (drop from t))))
more_answer (Some a) taken more from count m len le is = more_answered taken more from a.len count (IsAnswer m) len le is
more_answer None taken more from count m len le is = tt

more_persists : (answer : Option AnswerEnd) (taken : Option (List ℕ)) (more : List ℕ) (from count : ℕ) (m : MethodKind)
    → IfSome taken (λ t. length t ≡ count) → IfSome answer (λ a. from + a.len ≤ count)
    → IfSome answer (λ a. a.persistent ≡ true → IfSome taken (λ t. Persists m (take a.len (drop from t))))
    → IfSome answer (λ a. a.persistent ≡ true → IfSome (option_map (λ xs. xs ++ more) taken) (λ t. Persists m (take a.len (drop from t))))
more_persists (Some a) taken more from count m len le is =
    λ persistent. more_answered taken more from a.len count (Persists m) len le (is persistent)
more_persists None taken more from count m len le is = tt

-- how many bytes a read gives
pub count_fits : (result : Got) (room : ℕ) → GotFits result room → got_count result ≤ room
count_fits (got.Bytes n) room fits = fits.1
count_fits got.NotYet room fits = omega arith
count_fits got.End room fits = omega arith
count_fits got.Failed room fits = omega arith

pub count_small : (result : Got) (count : ℕ) → count < 2 ^ 64 → ReadKeepsLimit count result → count + got_count result < 2 ^ 64
count_small (got.Bytes n) count small limit = omega (arith, limit)
count_small got.NotYet count small limit = omega arith
count_small got.End count small limit = omega arith
count_small got.Failed count small limit = omega arith

pub count_taken : (old new : LinkState) (now : ℕ) (result : Got) (into : List ℕ) → LinkReads old new now result into
    → new.taken_count ≡ old.taken_count + got_count result
count_taken old new now (got.Bytes n) into reads = ap (λ (l : LinkState). l.taken_count) reads
count_taken old new now got.NotYet into reads = ap (λ (l : LinkState). l.taken_count) reads.0 ∙ omega arith
count_taken old new now got.End into reads = ap (λ (l : LinkState). l.taken_count) reads ∙ omega arith
count_taken old new now got.Failed into reads = ap (λ (l : LinkState). l.taken_count) reads.0 ∙ omega arith

pub count_sent : (old new : LinkState) (now : ℕ) (result : Got) (into : List ℕ) → LinkReads old new now result into
    → new.sent_count ≡ old.sent_count
count_sent old new now (got.Bytes n) into reads = ap (λ (l : LinkState). l.sent_count) reads
count_sent old new now got.NotYet into reads = ap (λ (l : LinkState). l.sent_count) reads.0
count_sent old new now got.End into reads = ap (λ (l : LinkState). l.sent_count) reads
count_sent old new now got.Failed into reads = ap (λ (l : LinkState). l.sent_count) reads.0

or_false : (x : Bool) → (x || false) ≡ x
or_false true = refl
or_false false = refl

or_true : (x : Bool) → (x || true) ≡ true
or_true true = refl
or_true false = refl

there_more : (answer : Option AnswerEnd) (from count n : ℕ) → IfSome answer (λ a. from + a.len ≤ count)
    → IfSome answer (λ a. from + a.len ≤ count + n)
there_more (Some a) from count n le = omega (arith, le)
there_more None from count n le = tt

-- a link of which more is told, and the same faults
reads_bytes : (b : BusyNow) (n asked : ℕ) (more : List ℕ)
    → let link = record b.link { taken_count = b.link.taken_count + n; taken = option_map (λ xs. xs ++ more) b.link.taken; read_waited = false; read_length = asked } in
    IsCounted link → IsBusy b → IsBusy (record b { link = link })
reads_bytes b n asked more counted is = record {
  exchanges = more_exchanges b.link.sent b.link.taken more b.exchange.sent_from b.exchange.taken_from b.link.taken_count b.uses is.counted.taken is.taken is.exchanges;
  sent = is.sent;
  taken = omega (arith, is.taken);
  ask = is.ask;
  there = there_more b.exchange.answer b.exchange.taken_from b.link.taken_count n is.there;
  answer = more_answer b.exchange.answer b.link.taken more b.exchange.taken_from b.link.taken_count b.exchange.method is.counted.taken is.there is.answer;
  persists = more_persists b.exchange.answer b.link.taken more b.exchange.taken_from b.link.taken_count b.exchange.method is.counted.taken is.there is.persists;
  dial = is.dial;
  on_loop = is.on_loop;
  no_fault = is.no_fault;
  fault = is.fault;
  counted = counted;
  few = is.few;
}

-- a call that didn't fail leaves the exchange as it is
same_exchange : (e : Exchange) → record e { failed = e.failed || false } ≡ e
same_exchange e = ap (λ (x : Bool). record e { failed = x }) (or_false e.failed)

reads_wait : (b : BusyNow) (waits at asked : ℕ) → let link = record b.link { read_waits = waits; read_wait_at = at; read_waited = true; read_length = asked } in
    IsCounted link → IsBusy b → IsBusy (record b { link = link })
reads_wait b waits at asked counted is = record {
  exchanges = is.exchanges;
  sent = is.sent;
  taken = is.taken;
  ask = is.ask;
  there = is.there;
  answer = is.answer;
  persists = is.persists;
  dial = is.dial;
  on_loop = is.on_loop;
  no_fault = is.no_fault;
  fault = is.fault;
  counted = counted;
  few = is.few;
}

reads_end : (b : BusyNow) (asked : ℕ) → let link = record b.link { told_end = true; read_length = asked } in IsCounted link → IsBusy b → IsBusy (record b { link = link })
reads_end b asked counted is = record {
  exchanges = is.exchanges;
  sent = is.sent;
  taken = is.taken;
  ask = is.ask;
  there = is.there;
  answer = is.answer;
  persists = is.persists;
  dial = is.dial;
  on_loop = is.on_loop;
  no_fault = is.no_fault;
  fault = is.fault;
  counted = counted;
  few = is.few;
}

reads_fault : (b : BusyNow) (faults asked : ℕ) → CountsOne b.link.faults faults → let link = record b.link { faults = faults; read_length = asked } in
    IsCounted link → IsBusy b → IsBusy (record b { link = link; exchange = record b.exchange { failed = true } })
reads_fault b faults asked counts counted is = record {
  exchanges = is.exchanges;
  sent = is.sent;
  taken = is.taken;
  ask = is.ask;
  there = is.there;
  answer = is.answer;
  persists = is.persists;
  dial = is.dial;
  on_loop = is.on_loop;
  no_fault = λ ok. absurd (cc);
  fault = λ failed. omega (arith, counts.1);
  counted = counted;
  few = is.few;
}

-- where no call failed
unfailed : (b : BusyNow) (l : LinkState) → IsBusy (record b { link = l }) → IsBusy (after_call b l false)
unfailed b l is = subst (λ (e : Exchange). IsBusy (record b { link = l; exchange = e })) (sym (same_exchange b.exchange)) is

failed : (b : BusyNow) (l : LinkState) → IsBusy (record b { link = l; exchange = record b.exchange { failed = true } }) → IsBusy (after_call b l true)
failed b l is =
    subst (λ (x : Bool). IsBusy (record b { link = l; exchange = record b.exchange { failed = x } })) (sym (or_true b.exchange.failed)) is

pub read_keeps : (b : BusyNow) (link : LinkState) (now : ℕ) (result : Got) (into : List ℕ) → LinkReads b.link link now result into
    → IsCounted link → IsBusy b → IsBusy (after_call b link (is_failed_got result))
read_keeps b link now (got.Bytes n) into reads counted is =
    let P : LinkState → Type 0 = λ l. IsBusy (after_call b l false) in
    subst P (sym reads) (unfailed b _ (reads_bytes b n link.read_length (take n into) (subst IsCounted reads counted) is))
read_keeps b link now got.NotYet into reads counted is =
    let P : LinkState → Type 0 = λ l. IsBusy (after_call b l false) in
    subst P (sym reads.0) (unfailed b _ (reads_wait b link.read_waits now link.read_length (subst IsCounted reads.0 counted) is))
read_keeps b link now got.End into reads counted is =
    let P : LinkState → Type 0 = λ l. IsBusy (after_call b l false) in
    subst P (sym reads) (unfailed b _ (reads_end b link.read_length (subst IsCounted reads counted) is))
read_keeps b link now got.Failed into reads counted is =
    let P : LinkState → Type 0 = λ l. IsBusy (after_call b l true) in
    subst P (sym reads.0) (failed b _ (reads_fault b link.faults link.read_length reads.1 (subst IsCounted reads.0 counted) is))

-- a whole answer is an answer
whole_is_answer : (m : MethodKind) (taken : Option (List ℕ)) (from n : ℕ) (Ended : Type 0)
    → IfSome taken (λ t. IsWholeAnswer m (take n (drop from t)) Ended) → IfSome taken (λ t. IsAnswer m (take n (drop from t)))
whole_is_answer m (Some t) from n Ended whole = (whole.0, whole.1, whole.2)
whole_is_answer m None from n Ended whole = tt

pub answer_keeps : (b : BusyNow) (n : ℕ) (persistent : Bool) → AnswerIsWhole b n persistent → IsBusy b → IsBusy (answer_ended b n persistent)
answer_keeps b n persistent whole is = record {
  exchanges = is.exchanges;
  sent = is.sent;
  taken = is.taken;
  ask = is.ask;
  there = whole.there;
  answer = whole_is_answer b.exchange.method b.link.taken b.exchange.taken_from n _ whole.answer;
  persists = whole.persists;
  dial = is.dial;
  on_loop = is.on_loop;
  no_fault = is.no_fault;
  fault = is.fault;
  counted = is.counted;
  few = is.few;
}

-- no cause holds
pub record MayRest (e : Exchange) (taken uses : ℕ) : Type 0 where
  pub asked : e.asked ≡ true
  pub answered : IsSome e.answer
  pub all_read : has_leftover e taken e.answer ≡ false
  pub persistent : is_persistent e.answer ≡ true
  pub fresh : (uses == 65535) ≡ false
  pub ok : e.failed ≡ false

first_none : (c : Bool) (why : RestCause) (cs : List (Bool × RestCause)) → first_of ((c, why) ∷ cs) ≡ None → (c ≡ false) × (first_of cs ≡ None)
first_none true why cs none = absurd (cc)
first_none false why cs none = (refl, none)

not_false : (x : Bool) → not x ≡ false → x ≡ true
not_false true is = refl
not_false false is = absurd (cc)

some_of : (o : Option AnswerEnd) → is_none o ≡ false → IsSome o
some_of (Some a) is = refl
some_of None is = absurd (cc)

may_rest : (e : Exchange) (taken uses : ℕ) → rest_cause e taken uses ≡ None → MayRest e taken uses
may_rest e taken uses none =
    let faults = (e.failed, Faulted) ∷ [] in
    let spends = (uses == 65535, UsesSpent) ∷ faults in
    let closes = (not (is_persistent e.answer), NoPersistence) ∷ spends in
    let leaves = (has_leftover e taken e.answer, Leftover) ∷ closes in
    let a = first_none (not e.asked) AskOpen ((is_none e.answer, AnswerOpen) ∷ leaves) none in
    let b = first_none (is_none e.answer) AnswerOpen leaves a.1 in
    let c = first_none (has_leftover e taken e.answer) Leftover closes b.1 in
    let d = first_none (not (is_persistent e.answer)) NoPersistence spends c.1 in
    let f = first_none (uses == 65535) UsesSpent faults d.1 in
    let g = first_none e.failed Faulted [] f.1 in
    record {
      asked = not_false e.asked a.0;
      answered = some_of e.answer b.0;
      all_read = c.0;
      persistent = not_false (is_persistent e.answer) d.0;
      fresh = f.0;
      ok = g.0;
    }

-- one exchange more, with the bytes that came since
one_more : (sent taken : Option (List ℕ)) (m : MethodKind) (s_from t_from n count k : ℕ)
    → IfSome sent (λ s. IfSome taken (λ t. AreExchanges (take s_from s) (take t_from t) k))
    → IfSome sent (λ s. IsRequest (drop s_from s) m) → IfSome taken (λ t. length t ≡ count) → count ≤ t_from + n
    → IfSome taken (λ t. IsAnswer m (take n (drop t_from t))) → IfSome taken (λ t. Persists m (take n (drop t_from t)))
    → IfSome sent (λ s. IfSome taken (λ t. AreExchanges s t (suc k)))
one_more (Some s) (Some t) m s_from t_from n count k before asks len all answers persists =
    let rest : take n (drop t_from t) ≡ drop t_from t = take_all n (drop t_from t) (omega (arith, length-drop t_from t)) in
    (take s_from s, drop s_from s, take t_from t, drop t_from t, m, sym (take-append-drop s_from s), sym (take-append-drop t_from t), asks, subst (IsAnswer m) rest answers, subst (Persists m) rest persists, before)
one_more (Some s) None m s_from t_from n count k before asks len all answers persists = tt
one_more None taken m s_from t_from n count k before asks len all answers persists = tt

-- the exchanges with this one, where its answer's end was found
with_this : (b : BusyNow) (answer : Option AnswerEnd) → IsBusy b → b.exchange.asked ≡ true → IsSome answer
    → has_leftover b.exchange b.link.taken_count answer ≡ false → is_persistent answer ≡ true
    → IfSome answer (λ a. IfSome b.link.taken (λ t. IsAnswer b.exchange.method (answered b a.len t)))
    → IfSome answer (λ a. a.persistent ≡ true → IfSome b.link.taken (λ t. Persists b.exchange.method (answered b a.len t)))
    → IfSome b.link.sent (λ s. IfSome b.link.taken (λ t. AreExchanges s t (suc b.uses)))
with_this b (Some a) is asked some all persistent answers persists =
    let le : b.link.taken_count ≤ b.exchange.taken_from + a.len = ltb-false _ _ all in
    one_more b.link.sent b.link.taken b.exchange.method b.exchange.sent_from b.exchange.taken_from a.len b.link.taken_count b.uses
    is.exchanges (is.ask asked) is.counted.taken le answers (persists persistent)
with_this b None is asked some all persistent answers persists = absurd (cc)

pub rests : (b : BusyNow) → refusal b ≡ None → IsBusy b → IsRested (rested_of b)
rests b none is =
    let may = may_rest b.exchange b.link.taken_count b.uses none in
    let fresh : b.uses < 65535 = omega (arith, is.few, eqb-false b.uses 65535 may.fresh) in
    record {
      exchanges = subst (λ (k : ℕ). WhereTold b.link (λ sent taken. AreExchanges sent taken k)) (sym (add-one b.uses))
          (with_this b b.exchange.answer is may.asked may.answered may.all_read may.persistent is.answer is.persists);
      dial = is.dial;
      no_loop = refl;
      no_fault = is.no_fault may.ok;
      counted = record { taken = is.counted.taken; sent = is.counted.sent };
      few = omega arith;
    }
