-- Bodies: which kind a head gives, and which bytes are a body of a kind (RFC 9112, section 6.3), and
-- whether the connection persists (RFC 9112, section 9.3).
use Rattle.std.specs.Prelude.{◌≡◌, ℕ, Bool, true, ◌&&◌, ◌||◌, not, List, [], ◌∷◌, length, if◌then◌else◌, ◌==◌, nat_lt, nat_le, codes, Result, Ok, Err, ⊤}
use Rattle.std.specs.List.{list_any, list_all}
use Rattle.std.specs.Char.{is_ascii_digit}
use Rattle.std.specs.Str.{str_eq_ignore_ascii_case, bytes_eq}
use Rattle.std.specs.Str.Parse.{digits_value}
use Rattle.httparse.specs.Ascii.{comma}
use Rattle.httparse.specs.Grammar.{RequestHead, ResponseHead, status_code}
use Rattle.hx_message.specs.Chunked.{ChunkedBody, IsChunkedBody, print_chunked}
use Rattle.hx_message.specs.Fields.{NameAndValue, read_fields, values_of, connection_options}
use Rattle.hx_message.specs.declared.MethodKind.{MethodKind}
use Rattle.hx_message.specs.declared.MethodKind.TheVariants.{Head, Connect, Other}
use Rattle.hx_message.specs.declared.BodyKind.{BodyKind}
use Rattle.hx_message.specs.declared.BodyKind.TheVariants.{Nothing, Length, Chunked, ToEnd}
use Rattle.hx_message.specs.declared.FrameFault.{FrameFault}
use Rattle.hx_message.specs.declared.FrameFault.TheVariants.{UnknownCoding, BothLengths, SeveralLengths, BadLength, BadHost}

-- methods are told apart with letter case
abbrev pub kind_of_method : List ℕ → MethodKind
kind_of_method m =
    if bytes_eq m (codes "HEAD") then Head else if bytes_eq m (codes "CONNECT") then Connect else Other

-- the greatest length of a body: 2 ^ 63 - 1
abbrev pub most_length : ℕ
most_length = 9223372036854775807

-- the kind of a body, or the first fault of its framing
abbrev pub Framed : Type 0
Framed = Result BodyKind FrameFault

-- one to nineteen digits, and at most the greatest length
abbrev pub is_length : List ℕ → Bool
is_length value =
    nat_lt 0 (length value) && nat_le (length value) 19 && list_all is_ascii_digit value
    && nat_le (digits_value 10 value) most_length

-- the kind by the values of Content-Length
abbrev pub length_kind : List (List ℕ) → Framed
length_kind [] = Ok Nothing
length_kind (value ∷ []) =
    if list_any (λ b. b == comma) value then Err SeveralLengths
    else if is_length value then Ok (Length (digits_value 10 value)) else Err BadLength
length_kind (value ∷ other ∷ values) = Err SeveralLengths

-- the kind by the values of Transfer-Encoding and of Content-Length
abbrev pub field_kind : List (List ℕ) → List (List ℕ) → Framed
field_kind [] lengths = length_kind lengths
field_kind (coding ∷ []) lengths =
    if str_eq_ignore_ascii_case (codes "chunked") coding
    then if length lengths == 0 then Ok Chunked else Err BothLengths
    else Err UnknownCoding
field_kind (coding ∷ other ∷ codings) lengths = Err UnknownCoding

-- the kind of a body by the two fields that frame it, or the first fault
abbrev pub kind_of_fields : List NameAndValue → Framed
kind_of_fields fields =
    field_kind (values_of (codes "Transfer-Encoding") fields) (values_of (codes "Content-Length") fields)

-- a request names its host once, which is tested last (RFC 9112, section 3.2)
abbrev pub with_host : List NameAndValue → Framed → Framed
with_host fields (Err fault) = Err fault
with_host fields (Ok kind) =
    if length (values_of (codes "Host") fields) == 1 then Ok kind else Err BadHost

-- the kind of a request's body, or the first fault (RFC 9112, section 6.3)
unfoldable pub request_kind : RequestHead → Framed
request_kind g = with_host (read_fields g.fields) (kind_of_fields (read_fields g.fields))

-- an answer without a length runs to the end
abbrev pub or_to_end : Framed → Framed
or_to_end (Ok Nothing) = Ok ToEnd
or_to_end (Ok (Length n)) = Ok (Length n)
or_to_end (Ok Chunked) = Ok Chunked
or_to_end (Ok ToEnd) = Ok ToEnd
or_to_end (Err fault) = Err fault

-- a status whose answer has no body
abbrev pub is_bodiless_status : ℕ → Bool
is_bodiless_status status = (nat_le 100 status && nat_lt status 200) || status == 204 || status == 304

-- an answer to HEAD, and these statuses, have no body, whatever the fields say
abbrev pub is_bodiless : MethodKind → ℕ → Bool
is_bodiless Head status = true
is_bodiless Connect status = is_bodiless_status status
is_bodiless Other status = is_bodiless_status status

-- an answer of HTTP/1.0 knows no coding (RFC 9112, section 6.1)
unfoldable pub answer_kind : MethodKind → ResponseHead → Framed
answer_kind m g =
    if is_bodiless m (status_code g) then Ok Nothing
    else if g.minor == 0 && nat_lt 0 (length (values_of (codes "Transfer-Encoding") (read_fields g.fields)))
    then Err UnknownCoding
    else or_to_end (kind_of_fields (read_fields g.fields))

-- close is among the Connection options
abbrev pub has_close : List NameAndValue → Bool
has_close fields = list_any (str_eq_ignore_ascii_case (codes "close")) (connection_options fields)

-- the request wants its connection closed (RFC 9112, section 9.3)
unfoldable pub wants_close : RequestHead → Bool
wants_close g = has_close (read_fields g.fields)

-- the answer lets its connection go on (RFC 9112, section 9.3)
unfoldable pub persists : ResponseHead → Bool
persists g = g.minor == 1 && not (has_close (read_fields g.fields))

-- bytes are a whole body of that kind; one that runs to the end is any bytes, and its link's end makes it whole
abbrev pub IsBody : BodyKind → List ℕ → Type 0
IsBody Nothing bytes = bytes ≡ []
IsBody (Length n) bytes = length bytes ≡ n
IsBody Chunked bytes = (b : ChunkedBody) × IsChunkedBody b × (bytes ≡ print_chunked b)
IsBody ToEnd bytes = ⊤
