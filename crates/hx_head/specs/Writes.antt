-- What a call that writes a text into a slice answers and leaves (RFC 9110, section 7.6).
use Rattle.std.specs.Prelude.{◌≡◌, ℕ, ◌<◌, ◌≤◌, ◌^◌, Bool, List, ◌∷◌, ◌++◌, length, drop, Result, Ok, Err, codes, decimal}
use Rattle.std.specs.List.{flat_map}
use Rattle.httparse.specs.Ascii.{space, crlf_bytes}
use Rattle.httparse.specs.Grammar as grammar
use Rattle.hx_base.specs.Spans.{bytes_in}
use Rattle.hx_message.specs.Forwarded.{field_line, forwarded_request, forwarded_answer, closing_line}
use Rattle.hx_head.specs.declared.forward.NoRoom.{NoRoom}
use Rattle.hx_head.specs.declared.head.FieldSpan.{FieldSpan}
use Rattle.hx_head.specs.declared.head.RequestHead.{RequestHead}
use Rattle.hx_head.specs.declared.head.AnswerHead.{AnswerHead}
use Rattle.hx_head.specs.Heads.{IsIn, field_in, IsRequestAt, IsAnswerAt}

-- the text stands at the front and what is behind it stays, or there is no room for it and nothing changed
abbrev pub Puts : List ℕ → List ℕ → List ℕ → Result ℕ NoRoom → Type 0
Puts text old new (Ok n) = (n ≡ length text) × (length text ≤ length old) × (new ≡ text ++ drop n old)
Puts text old new (Err e) = (e.needed ≡ length text) × (length old < length text) × (new ≡ old)

-- the text that goes out for the request head
abbrev pub WritesRequest : List ℕ → RequestHead → List ℕ → List ℕ → Result ℕ NoRoom → Type 0
WritesRequest bytes h old new result =
    (g : grammar.RequestHead) → IsRequestAt bytes h g → Puts (forwarded_request g) old new result

-- the text that goes out for the answer head, whether or not it tells of the end
abbrev pub WritesAnswer : List ℕ → AnswerHead → Bool → List ℕ → List ℕ → Result ℕ NoRoom → Type 0
WritesAnswer bytes h closing old new result =
    (g : grammar.ResponseHead) → IsAnswerAt bytes h g → Puts (forwarded_answer g closing) old new result

-- ---- private: the text piece by piece

-- so far the text stands at the front of the slice, which ends at at; what follows is as at the start
pub record IsWritten (start text out : List ℕ) (at : ℕ) : Type 0 where
  pub out_is : out ≡ text ++ drop at start
  pub at_is : at ≡ length text
  pub fits : at ≤ length start

-- a call that goes on from at to next has added the piece
abbrev pub AddsPiece : List ℕ → List ℕ → ℕ → List ℕ → ℕ → Type 0
AddsPiece piece old at new next =
    (start text : List ℕ) → IsWritten start text old at → IsWritten start (text ++ piece) new next

-- the lines of these fields
abbrev pub lines_of : List ℕ → List FieldSpan → List ℕ
lines_of bytes fields = flat_map (λ f. field_line (field_in bytes f)) fields

-- the ranges of a request line lie in the bytes, which are few
pub record RequestIn (bytes : List ℕ) (h : RequestHead) : Type 0 where
  pub small : length bytes < 2 ^ 32
  pub word : IsIn (length bytes) h.word
  pub target : IsIn (length bytes) h.target

-- the range of a status line lies in the bytes, which are few
pub record AnswerIn (bytes : List ℕ) (h : AnswerHead) : Type 0 where
  pub small : length bytes < 2 ^ 32
  pub reason : IsIn (length bytes) h.reason

-- the text by the ranges of a request head, with these fields
unfoldable pub request_text : List ℕ → RequestHead → List FieldSpan → List ℕ
request_text bytes h fields =
    bytes_in bytes h.word ++ space ∷ bytes_in bytes h.target ++ codes " HTTP/1.1\r\n"
    ++ lines_of bytes fields ++ crlf_bytes

-- the text by the ranges of an answer head, with these fields
unfoldable pub answer_text : List ℕ → AnswerHead → List FieldSpan → Bool → List ℕ
answer_text bytes h fields closing =
    codes "HTTP/1.1 " ++ decimal h.status ++ space ∷ bytes_in bytes h.reason ++ crlf_bytes
    ++ lines_of bytes fields ++ closing_line closing ++ crlf_bytes
