use Rattle.std.proofs.Common.{ℕ, List, sym, ap, ◌∙◌, bytes_eq}
use Rattle.hx_script_parts.proofs.Naming.{front_here, front_later, front_nowhere}
use Rattle.hx_script_parts.proofs.names.front_named.Goals as goal

pub returns-then-same-clause-place : goal.returns-then-same-clause-place
returns-then-same-clause-place c =
    sym (front_here c.args.name.now c.args.fronts.now c.loop-i.i c.index-fronts-i.result _ c.loop-i-test.true c.index-fronts-i.is
    (sym (c.same.ensures ∙ ap (λ (xs : List ℕ). bytes_eq xs c.args.name.now) c.as_slice.ensures) ∙ c.if-same.true) c.loop-i.invariant)

pub loop-i-preserved : goal.loop-i-preserved
loop-i-preserved c =
    front_later c.args.name.now c.args.fronts.now c.loop-i.i c.index-fronts-i.result _ c.loop-i-test.true c.index-fronts-i.is
    (sym (c.same.ensures ∙ ap (λ (xs : List ℕ). bytes_eq xs c.args.name.now) c.as_slice.ensures) ∙ c.if-same.false) c.loop-i.invariant

pub returns-clause-place : goal.returns-clause-place
returns-clause-place c = sym (front_nowhere c.args.name.now c.args.fronts.now c.loop-i.i _ c.loop-i-test.false c.loop-i.invariant)
