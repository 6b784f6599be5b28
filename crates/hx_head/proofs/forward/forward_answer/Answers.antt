use Rattle.std.proofs.Common.{ℕ, List, length, take, All, sym, ap, subst, ◌∙◌, rules}
use Rattle.std.proofs.lemmas.List.Elements.{All-filter}
use Rattle.hx_head.specs.declared.head.FieldSpan.{FieldSpan}
use Rattle.hx_head.specs.Heads.{IsFieldIn}
use Rattle.hx_head.specs.Staying.{stays_in}
use Rattle.hx_head.specs.Writes.{Puts, answer_text}
use Rattle.hx_head.proofs.WriteLemmas.{forwarded_answer_is}
use Rattle.hx_head.proofs.forward.forward_answer.Goals as goal

pub put_answer-requires-clause-fields : goal.put_answer-requires-clause-fields
put_answer-requires-clause-fields c =
    let bytes = take c.args.head.now.length c.args.bytes.now in
    let fields = take c.args.head.now.count c.args.head.now.fields in
    let within : All (IsFieldIn (length bytes)) fields = search rules in
    subst (All (IsFieldIn (length bytes))) (sym c.keep_staying-count.ensures.kept) (All-filter (stays_in bytes fields) (IsFieldIn (length bytes)) fields within)

pub returns : goal.returns
returns c g at =
    let bytes = take c.args.head.now.length c.args.bytes.now in
    subst (λ (text : List ℕ). Puts text c.args.out.now c.put_answer.new.out c.put_answer.result)
    (ap (λ (fs : List FieldSpan). answer_text bytes c.args.head.now fs c.args.closing) c.keep_staying-count.ensures.kept ∙ forwarded_answer_is c.args.bytes.now c.args.head.now c.args.closing g at) c.put_answer.ensures
