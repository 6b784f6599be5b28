use Rattle.std.proofs.Common.{List, sym, ap, ◌∙◌, arith}
use Rattle.std.proofs.lemmas.Result.{err_from_is_err_and}
use Rattle.std.proofs.lemmas.Bool.{eqb-true}
use Rattle.std.proofs.lemmas.List.{nil_from_length}
use Rattle.hx_config.specs.declared.sections.Frontend.{Frontend}
use Rattle.hx_config.specs.declared.parts.Front.{Front}
use Rattle.hx_config.specs.Meaning.{all_placed}
use Rattle.hx_config.proofs.Finishing.{behind, one_more, stops, is_over, first_removed}
use Rattle.hx_config.proofs.finish.place_all.Goals as goal

pub returns-in_err-front : goal.returns-in_err-front
returns-in_err-front c =
    let p = err_from_is_err_and c.from_residual.result c.from_residual.ensures.1 in
    let rest = first_removed c.loop-rest.rest.items c.remove.new.self.items c.remove.result (omega arith) c.remove.ensures.value c.remove.ensures.items in
    rw (p.1, p.2) (stops c.in_err-front.field-0.0 c.args.backs.now c.remove.result c.remove.new.self.items c.loop-rest.placed.items _ c.in_err-front.ensures
    (ap (λ (fs : List Frontend). behind c.loop-rest.placed.items (all_placed c.args.backs.now fs)) (sym rest) ∙ c.loop-rest.invariant))

pub loop-rest-preserved : goal.loop-rest-preserved
loop-rest-preserved c =
    let rest = first_removed c.loop-rest.rest.items c.remove.new.self.items c.remove.result (omega arith) c.remove.ensures.value c.remove.ensures.items in
    ap (λ (xs : List Front). behind xs (all_placed c.args.backs.now c.remove.new.self.items)) c.in_ok-push.ensures.items
    ∙ one_more c.args.backs.now c.remove.result c.remove.new.self.items c.loop-rest.placed.items c.in_ok-front.front _ c.in_ok-front.ensures
    (ap (λ (fs : List Frontend). behind c.loop-rest.placed.items (all_placed c.args.backs.now fs)) (sym rest) ∙ c.loop-rest.invariant)

pub returns : goal.returns
returns c =
    is_over c.args.backs.now c.loop-rest.rest.items c.loop-rest.placed.items _
    (nil_from_length c.loop-rest.rest.items (omega (arith, eqb-true _ _ (sym c.is_empty.ensures ∙ c.loop-rest-test.false)))) c.loop-rest.invariant
