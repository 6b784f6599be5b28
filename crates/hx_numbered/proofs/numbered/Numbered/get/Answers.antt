use Rattle.std.proofs.Common.{sym, ap, ◌∙◌, subst}
use Rattle.hx_numbered.specs.Numbered.{Numbered}
use Rattle.hx_numbered.specs.Numbers.{IsAt, IsGapFor, value_of}
use Rattle.hx_numbered.specs.Listed.{under}
use Rattle.hx_numbered.proofs.Finding.{found, not_found, gap_free, key_read}
use Rattle.hx_numbered.proofs.numbered.Numbered.get.Goals as goal

pub returns-in-Ok : goal.returns-in-Ok
returns-in-Ok g c =
    let i = c.self.inside in
    let at = subst (λ l. IsAt l c.args.number c.in-Ok.at) c.as_slice.ensures.value c.in-Ok.ensures.found in
    c.get.ensures
    ∙ (ap (under i.slab.slots) (key_read i.order.items c.in-Ok.at c.index.result.now at.in_range c.index.ensures)
    ∙ (sym (found i.slab.slots i.order.items c.args.number c.in-Ok.at c.self.invariant.rising c.self.invariant.filled at)
    ∙ ap (λ (v : Numbered g.row.T.Denot). value_of v.items c.args.number) c.self.view_is))

pub returns-in-Err : goal.returns-in-Err
returns-in-Err g c =
    let i = c.self.inside in
    let gap = subst (λ l. IsGapFor l c.args.number c.in-Err.field-0) c.as_slice.ensures.value c.in-Err.ensures.absent in
    sym (not_found i.slab.slots i.order.items c.args.number c.self.invariant.filled (gap_free i.order.items c.args.number c.in-Err.field-0 gap))
    ∙ ap (λ (v : Numbered g.row.T.Denot). value_of v.items c.args.number) c.self.view_is
