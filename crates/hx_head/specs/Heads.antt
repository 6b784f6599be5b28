-- Which head of the grammar a head's ranges name (RFC 9112, sections 2 to 5).
use Rattle.std.specs.Prelude.{◌≡◌, ℕ, ◌≤◌, List, [], length, take, map, All}
use Rattle.hx_base.specs.declared.numbers.Span.{Span}
use Rattle.hx_base.specs.Spans.{bytes_in}
use Rattle.httparse.specs.declared.spans.HeaderSpan.{HeaderSpan}
use Rattle.httparse.specs.declared.spans.Span as httparse
use Rattle.httparse.specs.Grammar as grammar
use Rattle.httparse.specs.Grammar.{ReadsRequest, ReadsResponse, status_code, reason_phrase}
use Rattle.hx_head.specs.declared.head.FieldSpan.{FieldSpan}
use Rattle.hx_head.specs.declared.head.RequestHead.{RequestHead}
use Rattle.hx_head.specs.declared.head.AnswerHead.{AnswerHead}
use Rattle.hx_message.specs.Body.{kind_of_method}
use Rattle.hx_message.specs.Fields.{NameAndValue, read_fields}
use Rattle.hx_message.specs.Limits.{field_limit}

-- a range of the crate httparse
abbrev pub span_of : httparse.Span → Span
span_of s = record { from = s.start; to = s.end }

-- the ranges of a field
abbrev pub field_of : HeaderSpan → FieldSpan
field_of h = record { name = span_of h.name; value = span_of h.value }

-- the range lies in the first n bytes
abbrev pub IsIn : ℕ → Span → Type 0
IsIn n s = (s.from ≤ s.to) × (s.to ≤ n)

-- the name and the value of the field lie in the first n bytes
abbrev pub IsFieldIn : ℕ → FieldSpan → Type 0
IsFieldIn n f = IsIn n f.name × IsIn n f.value

-- the name and the value that the ranges cover
abbrev pub field_in : List ℕ → FieldSpan → NameAndValue
field_in bytes f = (bytes_in bytes f.name, bytes_in bytes f.value)

-- the first length bytes are the request head g of HTTP/1.1, with at most 100 fields, and the ranges cover its parts
pub record IsRequestAt (bytes : List ℕ) (h : RequestHead) (g : grammar.RequestHead) : Type 0 where
  pub there : h.length ≤ length bytes
  pub reads : ReadsRequest (take h.length bytes) g []
  pub version : g.minor ≡ 1
  pub kind : h.method ≡ kind_of_method g.method
  pub word_in : IsIn h.length h.word
  pub word : bytes_in bytes h.word ≡ g.method
  pub target_in : IsIn h.length h.target
  pub target : bytes_in bytes h.target ≡ g.target
  pub count : h.count ≤ field_limit
  pub fields_in : All (IsFieldIn h.length) (take h.count h.fields)
  pub fields : map (field_in bytes) (take h.count h.fields) ≡ read_fields g.fields

-- the same for an answer head, of HTTP/1.0 or 1.1 and with a status of at least 100
pub record IsAnswerAt (bytes : List ℕ) (h : AnswerHead) (g : grammar.ResponseHead) : Type 0 where
  pub there : h.length ≤ length bytes
  pub reads : ReadsResponse (take h.length bytes) g []
  pub version : h.minor ≡ g.minor
  pub status : h.status ≡ status_code g
  pub least : 100 ≤ h.status
  pub reason_in : IsIn h.length h.reason
  pub reason : bytes_in bytes h.reason ≡ reason_phrase g.reason
  pub count : h.count ≤ field_limit
  pub fields_in : All (IsFieldIn h.length) (take h.count h.fields)
  pub fields : map (field_in bytes) (take h.count h.fields) ≡ read_fields g.fields

-- the ranges name some request head
abbrev pub IsRequestOf : List ℕ → RequestHead → Type 0
IsRequestOf bytes h = (g : grammar.RequestHead) × IsRequestAt bytes h g

-- the ranges name some answer head
abbrev pub IsAnswerOf : List ℕ → AnswerHead → Type 0
IsAnswerOf bytes h = (g : grammar.ResponseHead) × IsAnswerAt bytes h g
