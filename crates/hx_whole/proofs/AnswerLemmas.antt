-- A whole answer within the limits is found, never breaks, and ends once, or with its link.
use Rattle.std.proofs.Common.{◌≡◌, ◌↔◌, ◌⊎◌, ℕ, ◌≤◌, true, List, [], ◌∷◌, ◌++◌, length, Ok, Err, sym, ap, subst, ◌∙◌, inl, inr, arith, append_assoc}
use Rattle.httparse.specs.Grammar.{ResponseHead, ReadsResponse, HasNoResponse, status_code}
use Rattle.httparse.proofs.GrammarLemmas.{response_unique, ReadsResponse-append}
use Rattle.hx_message.specs.declared.MethodKind.{MethodKind}
use Rattle.hx_message.specs.declared.BodyKind.{BodyKind}
use Rattle.hx_message.specs.declared.BodyKind.TheVariants.{ToEnd}
use Rattle.hx_message.specs.declared.FrameFault.{FrameFault}
use Rattle.hx_message.specs.Body.{answer_kind, persists, IsBody}
use Rattle.hx_message.specs.Forwarded.{IsInterim, IsFinal, BeginsInterims}
use Rattle.hx_message.specs.Message.{IsAnswerWith, IsAnswer, Persists, RunsToEnd}
use Rattle.hx_message.proofs.Unique.{interim_final, one_answer}
use Rattle.hx_head.specs.declared.refusal.Refusal.{Refusal}
use Rattle.hx_head.specs.declared.refusal.Refusal.TheVariants.{NotAHead, TooLong, TooManyFields, Version, Status}
use Rattle.hx_head.specs.Causes.{RefusesAnswer}
use Rattle.hx_message.specs.Limits.{IsShortAnswer}
use Rattle.hx_frame.specs.Meters.{IsProperPart, NoBodyBegins}
use Rattle.hx_frame.proofs.EndLemmas.{one_body_end}
use Rattle.hx_session_parts.specs.Answers.{BreaksAnswer}
use Rattle.hx_session_parts.proofs.OnWayLemmas.{begins_interims}
use Rattle.hx_whole.proofs.FramingLemmas.{no_fault, one_kind}
use Rattle.hx_whole.proofs.FrontLemmas.{behind, answer_of_all, answer_comes, answer_in_front}
use Rattle.hx_whole.proofs.InterimLemmas.{HasFinal, IsNext, one_final, final_more, head_follows, next_head}

-- the final head of a whole answer
final_of : (m : MethodKind) (bytes : List ℕ) (g : ResponseHead) (kind : BodyKind) (x : IsAnswerWith m bytes g kind)
    → HasFinal bytes g x.body
final_of m bytes g kind x = record {
  interims = x.interims;
  rest = x.rest;
  begins = x.begins;
  reads = x.reads;
  final = x.final;
}

-- and of a short one
final_of_short : (bytes : List ℕ) (x : IsShortAnswer bytes) → HasFinal bytes x.head x.body
final_of_short bytes x = record {
  interims = x.interims;
  rest = x.rest;
  begins = begins_interims x.interims bytes x.rest x.begins;
  reads = x.reads;
  final = x.final;
}

-- the status of a head that goes on
goes_on : (g k : ResponseHead) → IsInterim g ⊎ (IsFinal g × (g ≡ k)) → (100 ≤ status_code g) × (status_code g ≡ 101 → ⊥)
goes_on g k (inl (least, most, other)) = (least, other)
goes_on g k (inr (final, same)) = (omega (arith, final), λ is. omega (arith, final, is))

-- a short head that goes on isn't refused
not_refused : (why : Refusal) (bytes more rest : List ℕ) (k g : ResponseHead) → IsNext (bytes ++ more) k g rest
    → RefusesAnswer why bytes → ⊥
not_refused NotAHead bytes more rest k g x never = never (behind bytes more) g rest (answer_comes bytes more rest g x.reads)
not_refused TooLong bytes more rest k g x (enough, none, unfinished) =
    let found = answer_in_front bytes more rest g (length g.fields) x.reads x.short enough in
    none g found.0 found.1
not_refused TooManyFields bytes more rest k g x (many, exceeds) =
    let over = many (behind bytes more) g rest (answer_comes bytes more rest g x.reads) in
    omega (arith, over, x.short.fields_few)
not_refused Version bytes more rest k g x never = never
not_refused Status bytes more rest k g x (h, r, reads, low, few) =
    let u = response_unique (bytes ++ more) h g (r ++ behind bytes more) rest (answer_of_all bytes more r h reads) x.reads in
    omega (arith, low, ap status_code u.0, (goes_on g k x.kind).0)

-- nor does it break an answer whose final head gives a kind of body
not_broken : (m : MethodKind) (bytes more rest : List ℕ) (k g : ResponseHead) (kind : BodyKind) → answer_kind m k ≡ Ok kind
    → IsNext (bytes ++ more) k g rest → BreaksAnswer m bytes → ⊥
not_broken m bytes more rest k g kind framed x (inl (why, refused)) = not_refused why bytes more rest k g x refused
not_broken m bytes more rest k g kind framed x (inr (h, (r, reads, short), why)) =
    let u = response_unique (bytes ++ more) h g (r ++ more) rest (ReadsResponse-append bytes h r more reads) x.reads in
    by_cause u.0 x.kind why
  where
    by_cause : h ≡ g → IsInterim g ⊎ (IsFinal g × (g ≡ k))
        → (status_code h ≡ 101) ⊎ (IsFinal h × ((fault : FrameFault) × (answer_kind m h ≡ Err fault))) → ⊥
    by_cause same next (inl changes) = (goes_on g k next).1 (ap status_code (sym same) ∙ changes)
    by_cause same (inl interim) (inr (final, faulty)) = interim_final g h (sym same) interim final
    by_cause same (inr (final, is)) (inr (final', (fault, faulty))) =
        no_fault (answer_kind m k) kind fault framed (ap (answer_kind m) (sym (same ∙ is)) ∙ faulty)

-- behind interim heads no front of a whole answer within the limits is broken
pub answers_found : (m : MethodKind) (taken bytes more : List ℕ) (gs : List ResponseHead) → IsAnswer m (taken ++ (bytes ++ more))
    → IsShortAnswer (taken ++ (bytes ++ more)) → BeginsInterims taken gs [] → BreaksAnswer m bytes → ⊥
answers_found m taken bytes more gs (g, kind, x) s begins =
    let all = taken ++ (bytes ++ more) in
    let same = (one_final all s.body x.body s.head g (final_of_short all s) (final_of m all g kind x)).0 in
    let next = next_head gs s.interims taken (bytes ++ more) s.rest s.body s.head begins s.begins s.reads s.final s.short in
    not_broken m bytes more next.1 s.head next.0 kind (ap (answer_kind m) same ∙ x.framed) next.2

-- behind interim heads all of a whole answer has a head
pub answers_have_heads : (m : MethodKind) (taken bytes : List ℕ) (gs : List ResponseHead) → IsAnswer m (taken ++ bytes)
    → BeginsInterims taken gs [] → HasNoResponse bytes → ⊥
answers_have_heads m taken bytes gs (g, kind, x) begins =
    head_follows taken bytes x.body gs g begins (final_of m (taken ++ bytes) g kind x)

-- what follows the final head of a whole answer is its body
body_of : (m : MethodKind) (bytes body : List ℕ) (g h : ResponseHead) (kind whole : BodyKind) (x : IsAnswerWith m bytes h whole)
    → HasFinal bytes g body → answer_kind m g ≡ Ok kind → (g ≡ h) × (kind ≡ whole) × (body ≡ x.body) × IsBody kind body
body_of m bytes body g h kind whole x final framed =
    let u = one_final bytes body x.body g h final (final_of m bytes h whole x) in
    let same = one_kind (answer_kind m h) kind whole (ap (answer_kind m) (sym u.0) ∙ framed) x.framed in (
      u.0,
      same,
      u.1,
      subst (λ (xs : List ℕ). IsBody kind xs) (sym u.1) (subst (λ (k : BodyKind). IsBody k x.body) (sym same) x.whole),
    )

-- where all of a whole answer was taken, a body that tells its own end doesn't go on
pub answers_end : (m : MethodKind) (taken rest body : List ℕ) (gs : List ResponseHead) (g : ResponseHead) (kind : BodyKind)
    → IsAnswer m taken → BeginsInterims taken gs rest → ReadsResponse rest g body → IsFinal g → answer_kind m g ≡ Ok kind
    → (kind ≡ ToEnd → ⊥) → IsProperPart kind body → ⊥
answers_end m taken rest body gs g kind (h, whole, x) begins reads final framed own (more, some, longer) =
    let has : HasFinal taken g body = record { interims = gs; rest = rest; begins = begins; reads = reads; final = final } in
    let none = one_body_end kind body more own (body_of m taken body g h kind whole x has framed).3 longer in
    omega (arith, some, ap length none)

-- no byte of a whole answer is one after which no body follows
pub answers_never_break : (m : MethodKind) (taken later rest body : List ℕ) (next : ℕ)
    (gs : List ResponseHead) (g : ResponseHead) (kind : BodyKind)
    → IsAnswer m (taken ++ next ∷ later) → BeginsInterims taken gs rest → ReadsResponse rest g body → IsFinal g
    → answer_kind m g ≡ Ok kind → NoBodyBegins kind (body ++ next ∷ []) → ⊥
answers_never_break m taken later rest body next gs g kind (h, whole, x) begins reads final framed none =
    let has : HasFinal taken g body = record { interims = gs; rest = rest; begins = begins; reads = reads; final = final } in
    let more = final_more taken body (next ∷ later) g has in
    let is = (body_of m (taken ++ next ∷ later) (body ++ next ∷ later) g h kind whole x more framed).3 in
    none later (subst (λ (xs : List ℕ). IsBody kind xs) (sym (append_assoc body (next ∷ []) later)) is)

-- a whole answer that tells its own end, at the front of another, is all of it
pub answers_end_once : (m : MethodKind) (taken rest : List ℕ) (g : ResponseHead) (kind : BodyKind) → IsAnswerWith m taken g kind
    → (kind ≡ ToEnd → ⊥) → IsAnswer m (taken ++ rest) → rest ≡ []
answers_end_once m taken rest g kind x own (h, whole, y) =
    let more = final_more taken x.body rest g (final_of m taken g kind x) in
    one_body_end kind x.body rest own x.whole (body_of m (taken ++ rest) (x.body ++ rest) g h kind whole y more x.framed).3

-- the final head and the kind of the body tell whether the answer runs to the end, and whether the connection persists
pub answers_tell_end : (m : MethodKind) (bytes : List ℕ) (g : ResponseHead) (kind : BodyKind) → IsAnswerWith m bytes g kind
    → (RunsToEnd m bytes ↔ (kind ≡ ToEnd)) × (Persists m bytes ↔ ((persists g ≡ true) × (kind ≡ ToEnd → ⊥)))
answers_tell_end m bytes g kind x = (
  (
    λ (h, y). (one_answer m bytes g h kind ToEnd x y).1,
    λ is. (g, subst (λ (k : BodyKind). IsAnswerWith m bytes g k) is x),
  ),
  (
    λ (h, whole, y, lasts, own).
        let u = one_answer m bytes g h kind whole x y in
        (ap persists u.0 ∙ lasts, λ is. own (sym u.1 ∙ is)),
    λ (lasts, own). (g, kind, x, lasts, own),
  ),
)

-- the kind of the body, by the head of a front that has its final head, is that of the whole
pub answers_keep_kind : (m : MethodKind) (taken later rest body : List ℕ)
    (gs : List ResponseHead) (g h : ResponseHead) (kind whole : BodyKind)
    → IsAnswerWith m (taken ++ later) h whole → BeginsInterims taken gs rest → ReadsResponse rest g body → IsFinal g
    → answer_kind m g ≡ Ok kind → (g ≡ h) × (kind ≡ whole)
answers_keep_kind m taken later rest body gs g h kind whole x begins reads final framed =
    let has : HasFinal taken g body = record { interims = gs; rest = rest; begins = begins; reads = reads; final = final } in
    let u = body_of m (taken ++ later) (body ++ later) g h kind whole x (final_more taken body later g has) framed in
    (u.0, u.1)
