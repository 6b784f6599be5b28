-- What ends an exchange early, seen in its bytes.
use Rattle.std.proofs.Common.{◌≡◌, ◌<◌, ◌+◌, ℕ, Bool, true, false, List, [], ◌∷◌, ◌++◌, length, take, drop, Ok, refl, sym, ap, subst, ◌∙◌, inl, inr, arith, length-append}
use Rattle.std.specs.Prelude.{IfSome}
use Rattle.std.proofs.lemmas.List.{append-nil}
use Rattle.std.proofs.Math.Seq.{take-append-add, take-append_seam}
use Rattle.httparse.proofs.GrammarLemmas.{ReadsRequest-append, ReadsResponse-append}
use Rattle.hx_frame.specs.declared.progress.MeterState.{MeterState}
use Rattle.hx_frame.specs.declared.progress.MeterState.TheVariants.{Going, Bad}
use Rattle.hx_frame.specs.Meters.{IsProperPart, MeterFits, NoBodyBegins}
use Rattle.hx_frame.proofs.EndLemmas.{interims_more, one_final_body}
use Rattle.hx_message.specs.declared.BodyKind.{BodyKind}
use Rattle.hx_message.specs.declared.BodyKind.TheVariants.{Nothing, Length, Chunked, ToEnd}
use Rattle.hx_message.specs.declared.MethodKind.{MethodKind}
use Rattle.hx_message.specs.Body.{Framed, answer_kind}
use Rattle.hx_message.specs.Partial.{HasWholeAnswer, HasWholeRequest}
use Rattle.hx_session_parts.specs.Answers.{AnswerLooks, BreaksAnswer}
use Rattle.hx_session_parts.specs.declared.answers.AnswerLook.TheVariants as answer
use Rattle.hx_session_parts.specs.OnWay.{AreInterimsOnWay}
use Rattle.hx_session_parts.proofs.OnWayLemmas.{begins_interims}
use Rattle.hx_session.specs.declared.exchange.AnswerWay.{AnswerWay}
use Rattle.hx_session.specs.declared.exchange.AnswerWay.TheVariants.{Heads, Body}
use Rattle.hx_session.specs.declared.exchange.BodyWay.{BodyWay}
use Rattle.hx_session.specs.Answering.{CarriesAnswer, BreaksCarried}
use Rattle.hx_session.specs.Bad.{Breaks, HasBadChunks, IsBrokenAnswer}
use Rattle.hx_session.specs.Breaking.{BreaksHere}
use Rattle.hx_session.specs.Carried.{IsCarried}
use Rattle.hx_session.specs.Causes.{AnswerBroke, IsNoAnswer}
use Rattle.hx_session.specs.Desks.{DeskNow}
use Rattle.hx_session.specs.Exchanged.{ExchangeNow}
use Rattle.hx_session.specs.Finishing.{HasBadAnswer, IsCutShort, IsAskCutShort}
use Rattle.hx_session.specs.Leaving.{NoneWhole}
use Rattle.hx_session.proofs.IdleLemmas.{no_final, no_whole, none_there, since_bytes}
use Rattle.hx_session.proofs.MessageEnds.{going_none, answer_unwhole}

-- only chunks can be bad
first_of : (body more : List ℕ) (x : ℕ) → (0 < length more) → (rest : List ℕ) × (length more ≡ 1 + length rest)
first_of body [] x some = absurd (omega (arith, some))
first_of body (m ∷ ms) x some = (ms, omega arith)

bad_chunked : (kind : BodyKind) (body first : List ℕ) → length first ≡ 1 → IsProperPart kind body → NoBodyBegins kind (body ++ first) → kind ≡ Chunked
bad_chunked Nothing body first one (more, some, is) none = absurd (omega (arith, some, ap length is, length-append body more))
bad_chunked (Length n) body first one (more, some, is) none =
    let rest = first_of body more 0 some in
    absurd (none rest.0 (omega (arith, one, is, rest.1, length-append body more, length-append (body ++ first) rest.0, length-append body first)))
bad_chunked Chunked body first one part none = refl
bad_chunked ToEnd body first one part none = absurd (none [] tt)

breaks_at : (body waiting : List ℕ) → IsProperPart Chunked body → BreaksHere Chunked body waiting → Breaks Chunked (body ++ waiting)
breaks_at body waiting part here = (
  length body,
  omega (arith, here.some, length-append body waiting),
  subst (IsProperPart Chunked) (sym (take-append_seam body waiting)) part,
  subst (NoBodyBegins Chunked) (sym (take-append-add body waiting 1)) here.none,
)

take_one : (xs : List ℕ) → 0 < length xs → length (take 1 xs) ≡ 1
take_one [] some = absurd (omega (arith, some))
take_one (x ∷ xs) some = refl

-- the chunks of a request
pub bad_ask : (d : DeskNow) (e : ExchangeNow) (c : IsCarried d e) → e.ask.state ≡ Bad → IfSome d.client.taken (λ bytes. HasBadChunks (drop d.ask_from bytes))
bad_ask d e c bad =
    let a = c.ask in
    let w = a.way in
    let here = a.breaks bad in
    let part : IsProperPart a.kind w.body = (subst (λ (x : MeterState). MeterFits a.kind w.body x) (sym a.state ∙ bad) w.used.fits).0 in
    let chunked : a.kind ≡ Chunked = bad_chunked a.kind w.body (take 1 d.from.bytes) (take_one d.from.bytes here.some) part here.none in
    since_bytes HasBadChunks d.client.taken d.client.taken_count d.ask_from (a.taken ++ d.from.bytes) a.front (
      a.head,
      w.body ++ d.from.bytes,
      record { reads = ReadsRequest-append a.taken a.head w.body d.from.bytes w.begins.reads; version = w.begins.version },
      w.framed ∙ ap Ok chunked,
      breaks_at w.body d.from.bytes (subst (λ (k : BodyKind). IsProperPart k w.body) chunked part) (subst (λ (k : BodyKind). BreaksHere k w.body d.from.bytes) chunked here),
    )

-- and of an answer
bad_body : (a : AnswerWay) (b : BodyWay) (wants written : Bool) (m : MethodKind) (taken put waiting : List ℕ) (k : CarriesAnswer a wants written m taken put) → BreaksCarried a wants written m taken put waiting k → a ≡ Body b → b.state ≡ Bad
    → IsBrokenAnswer m (taken ++ waiting)
bad_body Heads b wants written m taken put waiting k breaks is bad = absurd (other is)
  where
    other : Heads ≡ Body b → ⊥
    other z = cc
bad_body (Body x) b wants written m taken put waiting k breaks is bad =
    let w = k.way in
    let here = breaks (ap (λ (y : BodyWay). y.state) (one x b is) ∙ bad) in
    let part : IsProperPart k.kind w.body = (subst (λ (y : MeterState). MeterFits k.kind w.body y) (sym k.state ∙ (ap (λ (y : BodyWay). y.state) (one x b is) ∙ bad)) w.used.fits).0 in
    let chunked : k.kind ≡ Chunked = bad_chunked k.kind w.body (take 1 waiting) (take_one waiting here.some) part here.none in (
      w.interims,
      w.rest ++ waiting,
      interims_more w.interims taken w.rest waiting (begins_interims w.interims taken w.rest w.begins),
      inr (
        k.head,
        w.body ++ waiting,
        ReadsResponse-append w.rest k.head w.body waiting w.reads,
        w.final,
        w.framed ∙ ap Ok chunked,
        breaks_at w.body waiting (subst (λ (q : BodyKind). IsProperPart q w.body) chunked part) (subst (λ (q : BodyKind). BreaksHere q w.body waiting) chunked here),
      ),
    )
  where
    one : (p q : BodyWay) → Body p ≡ Body q → p ≡ q
    one p q z = cc

pub bad_answer : (d : DeskNow) (e : ExchangeNow) → IsCarried d e → HasBadAnswer e → AnswerBroke e.busy
bad_answer d e c (b, is, bad) =
    let r = c.answer in
    since_bytes (IsBrokenAnswer e.busy.exchange.method) e.busy.link.taken e.busy.link.taken_count e.busy.exchange.taken_from (r.taken ++ d.down.bytes) r.front
    (bad_body e.answer b e.ask.wants_close e.ask.written e.busy.exchange.method r.taken r.put d.down.bytes r.way r.breaks is bad)

-- a head that is to be refused
heads_of : (a : AnswerWay) (wants written : Bool) (m : MethodKind) (taken put : List ℕ) → CarriesAnswer a wants written m taken put → a ≡ Heads → AreInterimsOnWay taken put
heads_of Heads wants written m taken put k is = k
heads_of (Body b) wants written m taken put k is = absurd (other is)
  where
    other : Body b ≡ Heads → ⊥
    other z = cc

pub broken_head : (d : DeskNow) (e : ExchangeNow) → IsCarried d e → e.answer ≡ Heads → BreaksAnswer e.busy.exchange.method d.down.bytes → AnswerBroke e.busy
broken_head d e c heads breaks =
    let r = c.answer in
    let m = e.busy.exchange.method in
    let h = heads_of e.answer e.ask.wants_close e.ask.written m r.taken r.put r.way heads in
    since_bytes (IsBrokenAnswer m) e.busy.link.taken e.busy.link.taken_count e.busy.exchange.taken_from (r.taken ++ d.down.bytes) r.front
    (h.0, d.down.bytes, interims_more h.0 r.taken [] d.down.bytes (begins_interims h.0 r.taken [] h.1), inl breaks)

-- no answer is there, not even one that runs to the end
pub no_head : (d : DeskNow) (e : ExchangeNow) → IsCarried d e → e.answer ≡ Heads → AnswerLooks e.busy.exchange.method d.down.bytes answer.More → IfSome e.busy.link.taken (λ bytes. IsNoAnswer e.busy.exchange.method (drop e.busy.exchange.taken_from bytes))
no_head d e c heads (few, none, may) =
    let r = c.answer in
    let m = e.busy.exchange.method in
    let h = heads_of e.answer e.ask.wants_close e.ask.written m r.taken r.put r.way heads in
    let begins = interims_more h.0 r.taken [] d.down.bytes (begins_interims h.0 r.taken [] h.1) in
    since_bytes (IsNoAnswer m) e.busy.link.taken e.busy.link.taken_count e.busy.exchange.taken_from (r.taken ++ d.down.bytes) r.front (record {
      not_whole = λ n whole. no_whole m h.0 (r.taken ++ d.down.bytes) d.down.bytes n begins none whole;
      not_to_end = λ runs. no_final h.0 runs.1.interims (r.taken ++ d.down.bytes) d.down.bytes runs.1.rest runs.1.body runs.0 begins none runs.1.begins runs.1.reads runs.1.final;
    })

same_kind : (k l : BodyKind) (r s : Framed) → r ≡ s → r ≡ Ok k → s ≡ Ok l → k ≡ l
same_kind k l r s e a b = cc

false_true : (b : Bool) → b ≡ false → b ≡ true → ⊥
false_true b e f = cc

short_body : (a : AnswerWay) (b : BodyWay) (wants written : Bool) (m : MethodKind) (taken put : List ℕ) → CarriesAnswer a wants written m taken put → a ≡ Body b → b.state ≡ Going → b.to_end ≡ false → IsNoAnswer m taken
short_body Heads b wants written m taken put k is going not_so = absurd (other is)
  where
    other : Heads ≡ Body b → ⊥
    other z = cc
short_body (Body x) b wants written m taken put k is going not_so =
    let w = k.way in
    let same = one x b is in
    let part : IsProperPart k.kind w.body = subst (λ (y : MeterState). MeterFits k.kind w.body y) (sym k.state ∙ (ap (λ (y : BodyWay). y.state) same ∙ going)) w.used.fits in
    let begins = begins_interims w.interims taken w.rest w.begins in
    record {
      not_whole = λ n whole. answer_unwhole m x.closing taken put [] k.head k.kind x.meter w
          (λ front more at body. going_none k.kind w.body front more part (sym (append-nil w.body) ∙ at) body) n (subst (λ (xs : List ℕ). HasWholeAnswer m xs n) (sym (append-nil taken)) whole);
      not_to_end = λ runs.
          let u = one_final_body w.interims runs.1.interims taken w.rest runs.1.rest w.body runs.1.body k.head runs.0 begins w.reads w.final runs.1.begins runs.1.reads runs.1.final in
          let to_end = same_kind k.kind ToEnd (answer_kind m k.head) (answer_kind m runs.0) (ap (answer_kind m) u.0) w.framed runs.1.framed in
          false_true b.to_end not_so (sym (ap (λ (y : BodyWay). y.to_end) same) ∙ k.to_end.1 to_end);
    }
  where
    one : (p q : BodyWay) → Body p ≡ Body q → p ≡ q
    one p q z = cc

pub cut_short : (d : DeskNow) (e : ExchangeNow) → IsCarried d e → IsCutShort d e → IfSome e.busy.link.taken (λ bytes. IsNoAnswer e.busy.exchange.method (drop e.busy.exchange.taken_from bytes))
cut_short d e c s =
    let r = c.answer in
    let m = e.busy.exchange.method in
    let all : r.taken ++ d.down.bytes ≡ r.taken = ap (λ (xs : List ℕ). r.taken ++ xs) s.none ∙ append-nil r.taken in
    since_bytes (IsNoAnswer m) e.busy.link.taken e.busy.link.taken_count e.busy.exchange.taken_from (r.taken ++ d.down.bytes) r.front
    (subst (IsNoAnswer m) (sym all) (short_body e.answer s.body e.ask.wants_close e.ask.written m r.taken r.put r.way s.is s.going s.not_so))

-- the request isn't whole, whose client ended
pub ask_short : (d : DeskNow) (e : ExchangeNow) → IsCarried d e → IsAskCutShort d e → NoneWhole d.client d.ask_from
ask_short d e c s =
    let a = c.ask in
    since_bytes (λ bytes. (n : ℕ) → HasWholeRequest bytes n → ⊥) d.client.taken d.client.taken_count d.ask_from (a.taken ++ d.from.bytes) a.front
    (subst (λ (xs : List ℕ). (n : ℕ) → HasWholeRequest (a.taken ++ xs) n → ⊥) (sym s.none) (none_there d e a s.going))
