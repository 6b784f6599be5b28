-- Own answers are short.
use Rattle.std.proofs.Common.{◌≡◌, ◌≤◌, ℕ, List, length, sym, subst, lit≤}
use Rattle.std.specs.Prelude.{codes, decimal}
use Rattle.hx_message.specs.OwnAnswer.{HasReason, IsOwnAnswer, own_text}
use Rattle.hx_message.specs.OwnAnswer.HasReason.{bad_request, timeout, too_large, not_implemented, bad_gateway, unavailable, gateway_timeout, version}
use Rattle.hx_session_parts.specs.declared.fault.AskFault.{AskFault}
use Rattle.hx_session_parts.specs.declared.fault.AskFault.TheVariants.{Bad, TooLarge, NotImplemented, Version}
use Rattle.hx_session_parts.specs.Asks.{status_of}
use Rattle.hx_session.specs.Ending.{HasOwnText}
use Rattle.hx_answers.proofs.OwnLemmas.{text_with, spelled_400, spelled_408, spelled_431, spelled_501, spelled_502, spelled_503, spelled_504, spelled_505}

by_digits : (k : ℕ) (digits reason : List ℕ) → decimal k ≡ digits → length (text_with digits reason) ≤ 18432 → length (own_text k reason) ≤ 18432
unfolding own_text
by_digits k digits reason spelled few = subst (λ (ds : List ℕ). length (text_with ds reason) ≤ 18432) (sym spelled) few

own_length : (status : ℕ) (reason : List ℕ) → HasReason status reason → length (own_text status reason) ≤ 18432
own_length _ _ bad_request = by_digits 400 (codes "400") (codes "Bad Request") spelled_400 (lit≤ tt)
own_length _ _ timeout = by_digits 408 (codes "408") (codes "Request Timeout") spelled_408 (lit≤ tt)
own_length _ _ too_large = by_digits 431 (codes "431") (codes "Request Header Fields Too Large") spelled_431 (lit≤ tt)
own_length _ _ not_implemented = by_digits 501 (codes "501") (codes "Not Implemented") spelled_501 (lit≤ tt)
own_length _ _ bad_gateway = by_digits 502 (codes "502") (codes "Bad Gateway") spelled_502 (lit≤ tt)
own_length _ _ unavailable = by_digits 503 (codes "503") (codes "Service Unavailable") spelled_503 (lit≤ tt)
own_length _ _ gateway_timeout = by_digits 504 (codes "504") (codes "Gateway Timeout") spelled_504 (lit≤ tt)
own_length _ _ version = by_digits 505 (codes "505") (codes "HTTP Version Not Supported") spelled_505 (lit≤ tt)

pub own_short : (status : ℕ) (text : List ℕ) → IsOwnAnswer status text → length text ≤ 18432
own_short status text own = subst (λ (xs : List ℕ). length xs ≤ 18432) (sym own.2) (own_length status own.0 own.1)

-- a request's fault has an own answer
pub fault_text : (f : AskFault) → HasOwnText (status_of f)
fault_text Bad = (codes "Bad Request", bad_request)
fault_text TooLarge = (codes "Request Header Fields Too Large", too_large)
fault_text NotImplemented = (codes "Not Implemented", not_implemented)
fault_text Version = (codes "HTTP Version Not Supported", version)

pub unavailable_text : HasOwnText 503
unavailable_text = (codes "Service Unavailable", unavailable)

pub gateway_text : HasOwnText 502
gateway_text = (codes "Bad Gateway", bad_gateway)

pub request_text : HasOwnText 400
request_text = (codes "Bad Request", bad_request)

pub timeout_text : HasOwnText 408
timeout_text = (codes "Request Timeout", timeout)

pub late_text : HasOwnText 504
late_text = (codes "Gateway Timeout", gateway_timeout)
