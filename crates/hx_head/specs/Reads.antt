-- What reading a head finds among the first 16,384 bytes.
use Rattle.std.specs.Prelude.{◌≡◌, ℕ, ◌≤◌, List, length, take, ⊤}
use Rattle.httparse.specs.declared.spans.HeaderSpan.{HeaderSpan}
use Rattle.httparse.specs.declared.spans.RequestSpans.{RequestSpans}
use Rattle.httparse.specs.declared.spans.ResponseSpans.{ResponseSpans}
use Rattle.httparse.specs.Spans as spans
use Rattle.httparse.specs.Grammar as grammar
use Rattle.httparse.specs.Grammar.{ReadsRequest, ReadsResponse, status_code}
use Rattle.hx_head.specs.declared.head.RequestHead.{RequestHead}
use Rattle.hx_head.specs.declared.head.AnswerHead.{AnswerHead}
use Rattle.hx_head.specs.declared.head.HeadRead.{HeadRead}
use Rattle.hx_head.specs.declared.head.HeadRead.TheVariants.{Whole, More, Refused}
use Rattle.hx_head.specs.Heads.{IsRequestAt, IsAnswerAt}
use Rattle.hx_message.specs.Limits.{head_limit, field_limit}

-- the bytes among which a head is looked for
abbrev pub front : List ℕ → List ℕ
front bytes = take head_limit bytes

-- P of the head, if one was read
abbrev pub IfWhole : {H : Type 0} → HeadRead H → (H → Type 0) → Type 0
IfWhole (Whole h) P = P h
IfWhole More P = ⊤
IfWhole (Refused why) P = ⊤

-- a head was read, and P holds of it
abbrev pub IsWholeAnd : {H : Type 0} → HeadRead H → (H → Type 0) → Type 0
IsWholeAnd (Whole h) P = P h
IsWholeAnd More P = ⊥
IsWholeAnd (Refused why) P = ⊥

-- a request head of HTTP/1.1 with at most 100 fields at the front is found
abbrev pub FindsRequest : List ℕ → HeadRead RequestHead → Type 0
FindsRequest bytes result =
    (g : grammar.RequestHead) (rest : List ℕ) → ReadsRequest (front bytes) g rest
    → g.minor ≡ 1 → length g.fields ≤ field_limit
    → IsWholeAnd result (λ h. IsRequestAt bytes h g)

-- an answer head with at most 100 fields and a status of at least 100 at the front is found
abbrev pub FindsAnswer : List ℕ → HeadRead AnswerHead → Type 0
FindsAnswer bytes result =
    (g : grammar.ResponseHead) (rest : List ℕ) → ReadsResponse (front bytes) g rest
    → 100 ≤ status_code g → length g.fields ≤ field_limit
    → IsWholeAnd result (λ h. IsAnswerAt bytes h g)

-- whatever request head the parser's answer names, h names it too
abbrev pub IsSameRequest : List ℕ → List HeaderSpan → RequestSpans → RequestHead → Type 0
IsSameRequest bytes headers r h =
    (g : grammar.RequestHead) → spans.IsRequestAt (front bytes) headers r g → IsRequestAt bytes h g

-- the same for an answer head
abbrev pub IsSameAnswer : List ℕ → List HeaderSpan → ResponseSpans → AnswerHead → Type 0
IsSameAnswer bytes headers r h =
    (g : grammar.ResponseHead) → spans.IsResponseAt (front bytes) headers r g → IsAnswerAt bytes h g
