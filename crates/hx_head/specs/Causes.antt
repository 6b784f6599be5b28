-- Why reading a head answers what it answers, by the first 16,384 bytes (RFC 9112, sections 2 to 5).
use Rattle.std.specs.Prelude.{◌≡◌, ℕ, ◌<◌, ◌≤◌, List, length}
use Rattle.httparse.specs.Grammar as grammar
use Rattle.httparse.specs.Grammar.{ReadsRequest, HasNoRequest, NeverHasRequest, MayBecomeRequest, ReadsResponse, HasNoResponse, NeverHasResponse, MayBecomeResponse, status_code}
use Rattle.httparse.specs.Spans.{RequestOverflows, RequestExceeds, ResponseOverflows, ResponseExceeds}
use Rattle.hx_head.specs.declared.head.RequestHead.{RequestHead}
use Rattle.hx_head.specs.declared.head.AnswerHead.{AnswerHead}
use Rattle.hx_head.specs.declared.head.HeadRead.{HeadRead}
use Rattle.hx_head.specs.declared.head.HeadRead.TheVariants.{Whole, More, Refused}
use Rattle.hx_head.specs.declared.refusal.Refusal.{Refusal}
use Rattle.hx_head.specs.declared.refusal.Refusal.TheVariants.{NotAHead, TooLong, TooManyFields, Version, Status}
use Rattle.hx_message.specs.Limits.{head_limit, field_limit}
use Rattle.hx_head.specs.Reads.{front}

-- the number of a refusal
abbrev pub code_of : Refusal → ℕ
code_of NotAHead = 1
code_of TooLong = 2
code_of TooManyFields = 3
code_of Version = 4
code_of Status = 5

-- a request head of HTTP/1.0 with at most 100 fields is at the front
abbrev pub HasOldRequest : List ℕ → Type 0
HasOldRequest bytes =
    (g : grammar.RequestHead) × (rest : List ℕ) × ReadsRequest bytes g rest × (g.minor ≡ 0)
    × (length g.fields ≤ field_limit)

-- an answer head with a status below 100 and at most 100 fields is at the front
abbrev pub HasLowAnswer : List ℕ → Type 0
HasLowAnswer bytes =
    (g : grammar.ResponseHead) × (rest : List ℕ) × ReadsResponse bytes g rest × (status_code g < 100)
    × (length g.fields ≤ field_limit)

-- why a request head is refused
abbrev pub RefusesRequest : Refusal → List ℕ → Type 0
RefusesRequest NotAHead bytes = NeverHasRequest (front bytes)
RefusesRequest TooLong bytes =
    (head_limit ≤ length bytes) × HasNoRequest (front bytes) × MayBecomeRequest (front bytes)
RefusesRequest TooManyFields bytes =
    RequestOverflows field_limit (front bytes) × RequestExceeds field_limit (front bytes)
RefusesRequest Version bytes = HasOldRequest (front bytes)
RefusesRequest Status bytes = ⊥

-- a whole head has at most 16,384 bytes; where bytes are wanted there are fewer and no head, and
-- bytes can follow that make one or the target is being read; each refusal has its cause
abbrev pub RequestCause : List ℕ → HeadRead RequestHead → Type 0
RequestCause bytes (Whole h) = h.length ≤ head_limit
RequestCause bytes More = (length bytes < head_limit) × HasNoRequest bytes × MayBecomeRequest bytes
RequestCause bytes (Refused why) = (cause : Refusal) × (why ≡ code_of cause) × RefusesRequest cause bytes

-- a head of HTTP/1.0 is refused for its version
abbrev pub RefusesOld : List ℕ → HeadRead RequestHead → Type 0
RefusesOld bytes result = HasOldRequest (front bytes) → result ≡ Refused (code_of Version)

-- why an answer head is refused
abbrev pub RefusesAnswer : Refusal → List ℕ → Type 0
RefusesAnswer NotAHead bytes = NeverHasResponse (front bytes)
RefusesAnswer TooLong bytes =
    (head_limit ≤ length bytes) × HasNoResponse (front bytes) × MayBecomeResponse (front bytes)
RefusesAnswer TooManyFields bytes =
    ResponseOverflows field_limit (front bytes) × ResponseExceeds field_limit (front bytes)
RefusesAnswer Version bytes = ⊥
RefusesAnswer Status bytes = HasLowAnswer (front bytes)

-- the same as for a request, but that an answer has no target
abbrev pub AnswerCause : List ℕ → HeadRead AnswerHead → Type 0
AnswerCause bytes (Whole h) = h.length ≤ head_limit
AnswerCause bytes More = (length bytes < head_limit) × HasNoResponse bytes × MayBecomeResponse bytes
AnswerCause bytes (Refused why) = (cause : Refusal) × (why ≡ code_of cause) × RefusesAnswer cause bytes

-- a head with a status below 100 is refused for its status
abbrev pub RefusesLow : List ℕ → HeadRead AnswerHead → Type 0
RefusesLow bytes result = HasLowAnswer (front bytes) → result ≡ Refused (code_of Status)
