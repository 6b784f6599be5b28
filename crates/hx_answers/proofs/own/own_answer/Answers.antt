use Rattle.std.proofs.Common.{ℕ, List, Bor, ap}
use Rattle.std.specs.Prelude.{codes}
use Rattle.hx_message.specs.OwnAnswer.HasReason.{bad_request, timeout, too_large, not_implemented, bad_gateway, unavailable, gateway_timeout, version}
use Rattle.hx_answers.proofs.OwnLemmas.{is_own, spelled_400, spelled_408, spelled_431, spelled_501, spelled_502, spelled_503, spelled_504, spelled_505}
use Rattle.hx_answers.proofs.own.own_answer.Goals as goal
use Rattle.hx_answers.proofs.own.own_answer.Goals.{in-400, in-408, in-431, in-501, in-502, in-503, in-504, in-505}

pub returns-clause-some : goal.returns-clause-some
returns-clause-some c =
    let status = c.args.status in
    let text = c.match-status.text.now in
    elim c.match-status.branch [
      | in-400 w ↦ is_own status 400 text (codes "400") (codes "Bad Request") bad_request spelled_400 w.in-400.is (ap (λ (b : Bor (List ℕ)). b.now) w.text-is)
      | in-408 w ↦ is_own status 408 text (codes "408") (codes "Request Timeout") timeout spelled_408 w.in-408.is (ap (λ (b : Bor (List ℕ)). b.now) w.text-is)
      | in-431 w ↦ is_own status 431 text (codes "431") (codes "Request Header Fields Too Large") too_large spelled_431 w.in-431.is (ap (λ (b : Bor (List ℕ)). b.now) w.text-is)
      | in-501 w ↦ is_own status 501 text (codes "501") (codes "Not Implemented") not_implemented spelled_501 w.in-501.is (ap (λ (b : Bor (List ℕ)). b.now) w.text-is)
      | in-502 w ↦ is_own status 502 text (codes "502") (codes "Bad Gateway") bad_gateway spelled_502 w.in-502.is (ap (λ (b : Bor (List ℕ)). b.now) w.text-is)
      | in-503 w ↦ is_own status 503 text (codes "503") (codes "Service Unavailable") unavailable spelled_503 w.in-503.is (ap (λ (b : Bor (List ℕ)). b.now) w.text-is)
      | in-504 w ↦ is_own status 504 text (codes "504") (codes "Gateway Timeout") gateway_timeout spelled_504 w.in-504.is (ap (λ (b : Bor (List ℕ)). b.now) w.text-is)
      | in-505 w ↦ is_own status 505 text (codes "505") (codes "HTTP Version Not Supported") version spelled_505 w.in-505.is (ap (λ (b : Bor (List ℕ)). b.now) w.text-is)
    ]
