-- Why a message is refused.
use Rattle.std.proofs.Common.{◌≡◌, ◌≤◌, ℕ, List, [], length, take, drop, sym, subst, ◌∙◌, inl, inr, Ok, Err, arith}
use Rattle.std.proofs.lemmas.List.{take-append-drop, length-drop}
use Rattle.httparse.specs.Grammar.{RequestHead, ResponseHead, ReadsRequest, ReadsResponse}
use Rattle.httparse.proofs.GrammarLemmas.{ReadsRequest-append, ReadsResponse-append}
use Rattle.hx_message.specs.declared.MethodKind.{MethodKind}
use Rattle.hx_message.specs.declared.MethodKind.TheVariants.{Connect}
use Rattle.hx_message.specs.declared.BodyKind.{BodyKind}
use Rattle.hx_message.specs.declared.FrameFault.{FrameFault}
use Rattle.hx_message.specs.declared.FrameFault.TheVariants.{UnknownCoding, BothLengths, SeveralLengths, BadLength, BadHost}
use Rattle.hx_message.specs.Body.{request_kind, answer_kind}
use Rattle.hx_message.specs.Forwarded.{BeginsRequest}
use Rattle.hx_message.specs.Limits.{head_limit, field_limit, IsShort}
use Rattle.hx_head.specs.declared.head.RequestHead as request
use Rattle.hx_head.specs.declared.head.AnswerHead as answer
use Rattle.hx_head.specs.declared.head.HeadRead.TheVariants.{Refused}
use Rattle.hx_head.specs.declared.refusal.Refusal.{Refusal}
use Rattle.hx_head.specs.declared.refusal.Refusal.TheVariants as refusal
use Rattle.hx_head.specs.Causes.{code_of, RequestCause}
use Rattle.hx_head.specs.Heads.{IsRequestAt, IsAnswerAt, IsRequestOf, IsAnswerOf}
use Rattle.hx_session_parts.specs.declared.fault.AskFault.{AskFault}
use Rattle.hx_session_parts.specs.declared.fault.AskFault.TheVariants.{NotImplemented}
use Rattle.hx_session_parts.specs.Asks.{HasHead, RefusesAsk, fault_of_cause, fault_of_framing}
use Rattle.hx_session_parts.specs.Answers.{HasAnswerHead, IsShortHead, BreaksAnswer}
use Rattle.hx_session_parts.proofs.GrowthLemmas.{few_fields, few_answer_fields}

pub begins_at : (bytes : List ℕ) (h : request.RequestHead) (g : RequestHead) → IsRequestAt bytes h g → BeginsRequest bytes g (drop h.length bytes)
begins_at bytes h g at =
    record {
      reads = subst (λ (b : List ℕ). ReadsRequest b g (drop h.length bytes)) (take-append-drop h.length bytes)
          (ReadsRequest-append (take h.length bytes) g [] (drop h.length bytes) at.reads);
      version = at.version;
    }

pub reads_at : (bytes : List ℕ) (h : answer.AnswerHead) (g : ResponseHead) → IsAnswerAt bytes h g → ReadsResponse bytes g (drop h.length bytes)
reads_at bytes h g at =
    subst (λ (b : List ℕ). ReadsResponse b g (drop h.length bytes)) (take-append-drop h.length bytes)
    (ReadsResponse-append (take h.length bytes) g [] (drop h.length bytes) at.reads)

-- a head of at most so many bytes and fields is within the limits
short_here : (bytes : List ℕ) (n fields : ℕ) → n ≤ head_limit → fields ≤ field_limit → IsShort bytes (drop n bytes) fields
short_here bytes n fields size few = record { size = omega (arith, size, length-drop n bytes); fields_few = few }

head_here : (bytes : List ℕ) (h : request.RequestHead) (g : RequestHead) → IsRequestAt bytes h g → h.length ≤ head_limit → HasHead bytes g
head_here bytes h g at short =
    (drop h.length bytes, begins_at bytes h g at, short_here bytes h.length (length g.fields) short (few_fields bytes h g at))

answer_here : (bytes : List ℕ) (h : answer.AnswerHead) (g : ResponseHead) → IsAnswerAt bytes h g → IsShortHead h → HasAnswerHead bytes g
answer_here bytes h g at short =
    (drop h.length bytes, reads_at bytes h g at, short_here bytes h.length (length g.fields) short (few_answer_fields bytes h g at))

pub refuses_head : (bytes : List ℕ) (why : ℕ) (f : AskFault) → RequestCause bytes (Refused why)
    → ((cause : Refusal) → why ≡ code_of cause → f ≡ fault_of_cause cause) → RefusesAsk f bytes
refuses_head bytes why f (refusal.NotAHead, is, r) told = subst (λ (x : AskFault). RefusesAsk x bytes) (sym (told refusal.NotAHead is)) (inl r)
refuses_head bytes why f (refusal.TooLong, is, r) told = subst (λ (x : AskFault). RefusesAsk x bytes) (sym (told refusal.TooLong is)) (inl r)
refuses_head bytes why f (refusal.TooManyFields, is, r) told = subst (λ (x : AskFault). RefusesAsk x bytes) (sym (told refusal.TooManyFields is)) (inr r)
refuses_head bytes why f (refusal.Version, is, r) told = subst (λ (x : AskFault). RefusesAsk x bytes) (sym (told refusal.Version is)) r
refuses_head bytes why f (refusal.Status, is, r) told = absurd r

frame_bad : (bytes : List ℕ) (fault : FrameFault) (g : RequestHead) → HasHead bytes g → request_kind g ≡ Err fault → RefusesAsk (fault_of_framing fault) bytes
frame_bad bytes BothLengths g has is = inr (g, BothLengths, has, is, λ e. cc)
frame_bad bytes SeveralLengths g has is = inr (g, SeveralLengths, has, is, λ e. cc)
frame_bad bytes BadLength g has is = inr (g, BadLength, has, is, λ e. cc)
frame_bad bytes UnknownCoding g has is = (g, has, inl is)
frame_bad bytes BadHost g has is = inr (g, BadHost, has, is, λ e. cc)

pub refuses_frame : (bytes : List ℕ) (h : request.RequestHead) (fault : FrameFault) → IsRequestOf bytes h → h.length ≤ head_limit
    → ((g : RequestHead) → IsRequestAt bytes h g → Err fault ≡ request_kind g) → RefusesAsk (fault_of_framing fault) bytes
refuses_frame bytes h fault (g, at) short kind = frame_bad bytes fault g (head_here bytes h g at short) (sym (kind g at))

pub refuses_connect : (bytes : List ℕ) (h : request.RequestHead) (kind : BodyKind) → IsRequestOf bytes h → h.length ≤ head_limit → h.method ≡ Connect
    → ((g : RequestHead) → IsRequestAt bytes h g → Ok kind ≡ request_kind g) → RefusesAsk NotImplemented bytes
refuses_connect bytes h kind (g, at) short method framed = (g, head_here bytes h g at short, inr (kind, sym (framed g at), sym at.kind ∙ method))

pub breaks_switch : (method : MethodKind) (bytes : List ℕ) (h : answer.AnswerHead) → IsAnswerOf bytes h → IsShortHead h → h.status ≡ 101 → BreaksAnswer method bytes
breaks_switch method bytes h (g, at) short is = inr (g, answer_here bytes h g at short, inl (sym at.status ∙ is))

pub breaks_frame : (method : MethodKind) (bytes : List ℕ) (h : answer.AnswerHead) (fault : FrameFault) → IsAnswerOf bytes h → IsShortHead h → 200 ≤ h.status
    → ((g : ResponseHead) → IsAnswerAt bytes h g → Err fault ≡ answer_kind method g) → BreaksAnswer method bytes
breaks_frame method bytes h fault (g, at) short final kind =
    inr (g, answer_here bytes h g at short, inr (subst (λ n. 200 ≤ n) at.status final, (fault, sym (kind g at))))
