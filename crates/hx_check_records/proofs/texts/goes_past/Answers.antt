use Rattle.std.proofs.Common.{ℕ, List, ◌++◌, length, drop, sym, ap, subst, ◌∙◌}
use Rattle.std.proofs.lemmas.Bool.{false≢true}
use Rattle.hx_message.specs.Partial.{IsPrefix}
use Rattle.hx_check_records.proofs.PrefixLemmas.{begins_past, begins_on, text_behind}
use Rattle.hx_check_records.proofs.texts.goes_past.Goals as goal

pub returns-then-front : goal.returns-then-front
returns-then-front c =
    let xs = c.args.bytes.now in
    let text = c.args.text.now in
    let rest = c.args.rest.now in
    let back = c.behind-back.ensures in
    let is = text_behind text xs (c.starts-front.ensures.0 c.if-front.true) in (
      λ yes. begins_on xs text c.behind-back.result.now rest (is ∙ ap (λ (t : List ℕ). text ++ t) (sym back)) (c.starts.ensures.0 yes),
      λ begins. c.starts.ensures.1 (subst (λ (t : List ℕ). IsPrefix t rest) (sym back) (begins_past xs text rest c.requires begins).1),
    )

pub returns-else-front : goal.returns-else-front
returns-else-front c =
    let xs = c.args.bytes.now in
    let text = c.args.text.now in (
      λ yes. absurd (false≢true (sym c.if-front.false ∙ yes)),
      λ begins. c.starts-front.ensures.1 (drop (length text) xs, (begins_past xs text c.args.rest.now c.requires begins).0),
    )
