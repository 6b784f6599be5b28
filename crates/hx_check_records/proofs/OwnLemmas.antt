-- A status has one own answer.
use Rattle.std.proofs.Common.{◌≡◌, ℕ, List, refl, sym, ap, ◌∙◌}
use Rattle.std.specs.Prelude.{◌==◌, codes, if◌then◌else◌}
use Rattle.hx_message.specs.OwnAnswer.{HasReason, IsOwnAnswer, own_text}
use Rattle.hx_message.specs.OwnAnswer.HasReason.{bad_request, timeout, too_large, not_implemented, bad_gateway, unavailable, gateway_timeout, version}

-- the reason by the status
reason_of : ℕ → List ℕ
reason_of n =
    if n == 400 then codes "Bad Request"
    else if n == 408 then codes "Request Timeout"
    else if n == 431 then codes "Request Header Fields Too Large"
    else if n == 501 then codes "Not Implemented"
    else if n == 502 then codes "Bad Gateway"
    else if n == 503 then codes "Service Unavailable"
    else if n == 504 then codes "Gateway Timeout"
    else codes "HTTP Version Not Supported"

reason_is : (n : ℕ) (reason : List ℕ) → HasReason n reason → reason ≡ reason_of n
unfolding reason_of
reason_is n reason bad_request = refl
reason_is n reason timeout = refl
reason_is n reason too_large = refl
reason_is n reason not_implemented = refl
reason_is n reason bad_gateway = refl
reason_is n reason unavailable = refl
reason_is n reason gateway_timeout = refl
reason_is n reason version = refl

pub one_own : (n : ℕ) (t u : List ℕ) → IsOwnAnswer n t → IsOwnAnswer n u → t ≡ u
one_own n t u (r, has, is) (s, has', is') =
    is ∙ ap (own_text n) (reason_is n r has ∙ sym (reason_is n s has')) ∙ sym is'
