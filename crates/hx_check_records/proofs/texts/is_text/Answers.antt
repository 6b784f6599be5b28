use Rattle.std.proofs.Common.{◌++◌, length, sym, ap, ◌∙◌, length-append}
use Rattle.std.proofs.lemmas.Bool.{false≢true}
use Rattle.hx_check_records.proofs.PrefixLemmas.{begins_all, all_begins}
use Rattle.hx_check_records.proofs.texts.is_text.Goals as goal

pub returns-then-has_size : goal.returns-then-has_size
returns-then-has_size c =
    let xs = c.args.bytes.now in
    let text = c.args.text.now in
    let rest = c.args.rest.now in (
      λ yes. begins_all xs (text ++ rest) (c.has_size.ensures.0 c.if-has_size.true ∙ sym (length-append text rest)) (c.begins_text.ensures.0 yes),
      λ is. c.begins_text.ensures.1 (all_begins xs (text ++ rest) is),
    )

pub returns-else-has_size : goal.returns-else-has_size
returns-else-has_size c = (
  λ yes. absurd (false≢true (sym c.if-has_size.false ∙ yes)),
  λ is. c.has_size.ensures.1 (ap length is ∙ length-append c.args.text.now c.args.rest.now),
)
