-- The texts in which heads go out, and messages with them, whole or in part (RFC 9110, section 7.6;
-- RFC 9112, sections 2.3, 3 and 4).
use Rattle.std.specs.Prelude.{◌≡◌, ℕ, ◌<◌, ◌≤◌, ◌⊎◌, Bool, false, List, [], ◌∷◌, ◌++◌, if◌then◌else◌, codes}
use Rattle.std.specs.List.{flat_map}
use Rattle.httparse.specs.Ascii.{colon, space, crlf_bytes}
use Rattle.httparse.specs.Grammar.{RequestHead, ResponseHead, ReadsRequest, ReadsResponse, status_code, reason_phrase}
use Rattle.hx_message.specs.Fields.{NameAndValue, read_fields, staying}

-- name: value
abbrev pub field_line : NameAndValue → List ℕ
field_line f = f.0 ++ colon ∷ space ∷ f.1 ++ crlf_bytes

-- a request head as it goes out
unfoldable pub forwarded_request : RequestHead → List ℕ
forwarded_request g =
    g.method ++ space ∷ g.target ++ codes " HTTP/1.1\r\n"
    ++ flat_map field_line (staying (read_fields g.fields)) ++ crlf_bytes

-- the line that tells the client of the end
abbrev pub closing_line : Bool → List ℕ
closing_line closing = if closing then codes "Connection: close\r\n" else []

-- an answer head as it goes out
unfoldable pub forwarded_answer : ResponseHead → Bool → List ℕ
forwarded_answer g closing =
    codes "HTTP/1.1 " ++ g.digits ++ space ∷ reason_phrase g.reason ++ crlf_bytes
    ++ flat_map field_line (staying (read_fields g.fields)) ++ closing_line closing ++ crlf_bytes

-- bytes begin with a request head of HTTP/1.1, and then rest
pub record BeginsRequest (bytes : List ℕ) (g : RequestHead) (rest : List ℕ) : Type 0 where
  pub reads : ReadsRequest bytes g rest
  pub version : g.minor ≡ 1

-- an interim head, but for that of a change of protocol (RFC 9110, section 15.2)
abbrev pub IsInterim : ResponseHead → Type 0
IsInterim g = (100 ≤ status_code g) × (status_code g < 200) × (status_code g ≡ 101 → ⊥)

-- a final head
abbrev pub IsFinal : ResponseHead → Type 0
IsFinal g = 200 ≤ status_code g

-- bytes begin with these interim heads, one after the other, and then rest
abbrev pub BeginsInterims : List ℕ → List ResponseHead → List ℕ → Type 0
BeginsInterims bytes [] rest = bytes ≡ rest
BeginsInterims bytes (g ∷ gs) rest =
    (middle : List ℕ) × ReadsResponse bytes g middle × IsInterim g × BeginsInterims middle gs rest

-- no request head begins the bytes
abbrev pub NoRequestBegins : List ℕ → Type 0
NoRequestBegins bytes = (g : RequestHead) (rest : List ℕ) → BeginsRequest bytes g rest → ⊥

-- no answer head that goes on begins the bytes
abbrev pub NoAnswerBegins : List ℕ → Type 0
NoAnswerBegins bytes =
    (g : ResponseHead) (rest : List ℕ) → ReadsResponse bytes g rest → IsInterim g ⊎ IsFinal g → ⊥

-- text is what goes out for the bytes of a request, whole or in part
abbrev pub ForwardsRequest : List ℕ → List ℕ → Type 0
ForwardsRequest bytes text =
    ((g : RequestHead) × (rest : List ℕ) × BeginsRequest bytes g rest × (text ≡ forwarded_request g ++ rest))
    ⊎ (NoRequestBegins bytes × (text ≡ []))

-- what goes out behind the interim heads
abbrev pub ForwardsFinal : List ℕ → Bool → List ℕ → Type 0
ForwardsFinal bytes closing text =
    ((g : ResponseHead) × (rest : List ℕ) × ReadsResponse bytes g rest × IsFinal g
    × (text ≡ forwarded_answer g closing ++ rest))
    ⊎ (NoAnswerBegins bytes × (text ≡ []))

-- text is what goes out for the bytes of an answer, whole or in part
abbrev pub ForwardsAnswer : List ℕ → Bool → List ℕ → Type 0
ForwardsAnswer bytes closing text =
    (gs : List ResponseHead) × (rest : List ℕ) × BeginsInterims bytes gs rest
    × (last : List ℕ) × ForwardsFinal rest closing last
    × (text ≡ flat_map (λ g. forwarded_answer g false) gs ++ last)
