use Rattle.std.proofs.Common.{sym, ap, ◌∙◌, subst}
use Rattle.hx_numbered.specs.Numbered.{Numbered}
use Rattle.hx_numbered.specs.Numbers.{IsAt, IsGapFor, value_of, removed}
use Rattle.hx_numbered.proofs.Finding.{not_found, gap_free, key_read}
use Rattle.hx_numbered.proofs.Writing.{takes_out, not_out, TakesOut}
use Rattle.hx_numbered.proofs.numbered.Numbered.remove.Goals as goal

-- what the two removals leave
out : (g : _) (c : goal.After-try_remove g) → TakesOut c.self.inside.slab.slots c.try_remove.new.self.slots c.self.inside.order.items c.remove-key.new.self.items c.args.number c.try_remove.result
out g c =
    let i = c.self.inside in let e = c.try_remove.ensures in
    let at = subst (λ l. IsAt l c.args.number c.in-Ok.at) c.as_slice.ensures.value c.in-Ok.ensures.found in
    takes_out i.slab.slots c.try_remove.new.self.slots i.order.items c.remove-key.new.self.items c.args.number c.in-Ok.at c.remove-key.result.1 c.try_remove.result
    c.self.invariant at (key_read i.order.items c.in-Ok.at c.remove-key.result at.in_range c.remove-key.ensures.value) e.value e.slots c.remove-key.ensures.items

pub invariant_of-self : goal.invariant_of-self
invariant_of-self g c = (out g c).still

pub returns-in-Ok-clause-value : goal.returns-in-Ok-clause-value
returns-in-Ok-clause-value g c = (out g c).value ∙ ap (λ (v : Numbered g.row.T.Denot). value_of v.items c.args.number) c.self.view_is

pub returns-in-Ok-clause-rest : goal.returns-in-Ok-clause-rest
returns-in-Ok-clause-rest g c = (out g c).rest ∙ ap (λ (v : Numbered g.row.T.Denot). removed v.items c.args.number) c.self.view_is

pub returns-in-Err-clause-value : goal.returns-in-Err-clause-value
returns-in-Err-clause-value g c =
    let i = c.self.inside in
    let gap = subst (λ l. IsGapFor l c.args.number c.in-Err.field-0) c.as_slice.ensures.value c.in-Err.ensures.absent in
    sym (not_found i.slab.slots i.order.items c.args.number c.self.invariant.filled (gap_free i.order.items c.args.number c.in-Err.field-0 gap))
    ∙ ap (λ (v : Numbered g.row.T.Denot). value_of v.items c.args.number) c.self.view_is

pub returns-in-Err-clause-rest : goal.returns-in-Err-clause-rest
returns-in-Err-clause-rest g c =
    let i = c.self.inside in
    let gap = subst (λ l. IsGapFor l c.args.number c.in-Err.field-0) c.as_slice.ensures.value c.in-Err.ensures.absent in
    sym (not_out c.args.self.now.items c.args.number
    (sym (ap (λ (v : Numbered g.row.T.Denot). value_of v.items c.args.number) c.self.view_is)
    ∙ not_found i.slab.slots i.order.items c.args.number c.self.invariant.filled (gap_free i.order.items c.args.number c.in-Err.field-0 gap)))
