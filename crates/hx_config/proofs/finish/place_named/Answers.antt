use Rattle.std.proofs.Common.{ℕ, List, sym, ap, ◌∙◌}
use Rattle.std.specs.Prelude.{bytes_eq}
use Rattle.hx_config.proofs.Finishing.{found_here, found_later, found_nowhere}
use Rattle.hx_config.proofs.finish.place_named.Goals as goal

pub returns-then-same-clause-place : goal.returns-then-same-clause-place
returns-then-same-clause-place c =
    sym (found_here c.args.name.now c.args.backs.now c.loop-i.i c.index-backs-i.result _ c.loop-i-test.true c.index-backs-i.is
    (sym (c.same.ensures ∙ ap (λ (xs : List ℕ). bytes_eq xs c.args.name.now) c.as_slice.ensures) ∙ c.if-same.true) c.loop-i.invariant)

pub loop-i-preserved : goal.loop-i-preserved
loop-i-preserved c =
    found_later c.args.name.now c.args.backs.now c.loop-i.i c.index-backs-i.result _ c.loop-i-test.true c.index-backs-i.is
    (sym (c.same.ensures ∙ ap (λ (xs : List ℕ). bytes_eq xs c.args.name.now) c.as_slice.ensures) ∙ c.if-same.false) c.loop-i.invariant

pub returns-clause-place : goal.returns-clause-place
returns-clause-place c = sym (found_nowhere c.args.name.now c.args.backs.now c.loop-i.i _ c.loop-i-test.false c.loop-i.invariant)
