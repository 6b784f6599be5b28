-- The answers that the proxy gives itself (RFC 9110, section 15).
use Rattle.std.specs.Prelude.{◌≡◌, ℕ, List, ◌∷◌, ◌++◌, codes, decimal}
use Rattle.httparse.specs.Ascii.{space, crlf_bytes}

-- the reason of a status that has an own answer
pub data HasReason : ℕ → List ℕ → Type 0 where
  bad_request : HasReason 400 (codes "Bad Request")
  timeout : HasReason 408 (codes "Request Timeout")
  too_large : HasReason 431 (codes "Request Header Fields Too Large")
  not_implemented : HasReason 501 (codes "Not Implemented")
  bad_gateway : HasReason 502 (codes "Bad Gateway")
  unavailable : HasReason 503 (codes "Service Unavailable")
  gateway_timeout : HasReason 504 (codes "Gateway Timeout")
  version : HasReason 505 (codes "HTTP Version Not Supported")

-- an answer without a body that closes its connection
unfoldable pub own_text : ℕ → List ℕ → List ℕ
own_text status reason =
    codes "HTTP/1.1 " ++ decimal status ++ space ∷ reason ++ crlf_bytes
    ++ codes "Content-Length: 0\r\nConnection: close\r\n" ++ crlf_bytes

-- the text is the own answer of that status
abbrev pub IsOwnAnswer : ℕ → List ℕ → Type 0
IsOwnAnswer status text = (reason : List ℕ) × HasReason status reason × (text ≡ own_text status reason)
