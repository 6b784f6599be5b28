-- A text with a reason is the own answer of its status.
use Rattle.std.proofs.Common.{◌≡◌, ℕ, List, ◌∷◌, ◌++◌, sym, ap, subst, ◌∙◌, arith}
use Rattle.std.specs.Prelude.{codes, decimal}
use Rattle.std.proofs.lemmas.Fmt.{decimal-digits_of}
use Rattle.httparse.specs.Ascii.{space, crlf_bytes}
use Rattle.hx_message.specs.OwnAnswer.{HasReason, IsOwnAnswer, own_text}

abbrev pub text_with : List ℕ → List ℕ → List ℕ
text_with digits reason =
    codes "HTTP/1.1 " ++ digits ++ space ∷ reason ++ crlf_bytes
    ++ codes "Content-Length: 0\r\nConnection: close\r\n" ++ crlf_bytes

pub is_own : (status k : ℕ) (text digits reason : List ℕ) → HasReason k reason → decimal k ≡ digits → status ≡ k → text ≡ text_with digits reason → IsOwnAnswer status text
unfolding own_text
is_own status k text digits reason has spelled is same =
    (reason, subst (λ n. HasReason n reason) (sym is) has, same ∙ ap (λ ds. text_with ds reason) (sym spelled) ∙ ap (λ n. own_text n reason) (sym is))

pub spelled_400 : decimal 400 ≡ codes "400"
spelled_400 = decimal-digits_of 400 (omega arith) (omega arith)

pub spelled_408 : decimal 408 ≡ codes "408"
spelled_408 = decimal-digits_of 408 (omega arith) (omega arith)

pub spelled_431 : decimal 431 ≡ codes "431"
spelled_431 = decimal-digits_of 431 (omega arith) (omega arith)

pub spelled_501 : decimal 501 ≡ codes "501"
spelled_501 = decimal-digits_of 501 (omega arith) (omega arith)

pub spelled_502 : decimal 502 ≡ codes "502"
spelled_502 = decimal-digits_of 502 (omega arith) (omega arith)

pub spelled_503 : decimal 503 ≡ codes "503"
spelled_503 = decimal-digits_of 503 (omega arith) (omega arith)

pub spelled_504 : decimal 504 ≡ codes "504"
spelled_504 = decimal-digits_of 504 (omega arith) (omega arith)

pub spelled_505 : decimal 505 ≡ codes "505"
spelled_505 = decimal-digits_of 505 (omega arith) (omega arith)
