use Rattle.std.proofs.Common.{sym, ◌∙◌}
use Rattle.std.proofs.lemmas.Bool.{false≢true}
use Rattle.hx_check_records.proofs.RequestLemmas.{out_parts, out_from, out_fault}
use Rattle.hx_check_records.proofs.requests.goes_out.Goals as goal

pub returns-then-is_connect : goal.returns-then-is_connect
returns-then-is_connect c =
    (λ no. absurd (false≢true no), λ out. absurd (out.not_connect (c.is_connect.ensures.0 c.if-is_connect.true)))

pub returns-in-Err : goal.returns-in-Err
returns-in-Err c =
    let g = c.requires.0 in
    let at = c.requires.1.at in (
      λ no. absurd (false≢true no),
      λ out. absurd (out_fault c.args.ask.now c.args.sent.now c.args.head.now g c.requires.1 _ _ (sym c.in-Err.is ∙ c.body_of_request.ensures g at) out),
    )

pub returns-in-Ok : goal.returns-in-Ok
returns-in-Ok c =
    let g = c.requires.0 in
    let stands = c.requires.1 in
    let framed = sym c.in-Ok.is ∙ c.body_of_request.ensures g stands.at in
    let says = c.goes_out_with.ensures g stands in (
      λ yes.
          let parts = says.0 yes in
          out_from c.args.ask.now c.args.sent.now c.args.head.now g stands c.in-Ok.kind
          (λ is. false≢true (sym c.if-is_connect.false ∙ c.is_connect.ensures.1 is)) framed parts.0 parts.1,
      λ out. says.1 (out_parts c.args.ask.now c.args.sent.now c.args.head.now g stands _ c.in-Ok.kind framed out),
    )
