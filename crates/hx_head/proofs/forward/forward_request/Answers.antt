use Rattle.std.proofs.Common.{ℕ, List, length, take, All, sym, ap, subst, ◌∙◌, rules}
use Rattle.std.proofs.lemmas.List.Elements.{All-filter}
use Rattle.hx_head.specs.Heads.{IsFieldIn}
use Rattle.hx_head.specs.Staying.{stays_in}
use Rattle.hx_head.specs.Writes.{Puts, request_text}
use Rattle.hx_head.proofs.WriteLemmas.{forwarded_is}
use Rattle.hx_head.proofs.forward.forward_request.Goals as goal

pub put_request-requires-clause-fields : goal.put_request-requires-clause-fields
put_request-requires-clause-fields c =
    let bytes = take c.args.head.now.length c.args.bytes.now in
    let fields = take c.args.head.now.count c.args.head.now.fields in
    let within : All (IsFieldIn (length bytes)) fields = search rules in
    subst (All (IsFieldIn (length bytes))) (sym c.keep_staying-count.ensures.kept) (All-filter (stays_in bytes fields) (IsFieldIn (length bytes)) fields within)

pub returns : goal.returns
returns c g at =
    let bytes = take c.args.head.now.length c.args.bytes.now in
    subst (λ (text : List ℕ). Puts text c.args.out.now c.put_request.new.out c.put_request.result)
    (ap (request_text bytes c.args.head.now) c.keep_staying-count.ensures.kept ∙ forwarded_is c.args.bytes.now c.args.head.now g at) c.put_request.ensures
