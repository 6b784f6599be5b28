use Rattle.std.proofs.Common.{◌∷◌, ◌++◌, [], sym, ap, ◌∙◌, subst}
use Rattle.hx_numbered.specs.Numbered.{Numbered}
use Rattle.hx_numbered.specs.Numbers.{AreBelow}
use Rattle.hx_numbered.specs.Listed.{listed, IsListed}
use Rattle.hx_numbered.proofs.Rising.{order_below}
use Rattle.hx_numbered.proofs.Writing.{put_in, in_still}
use Rattle.hx_numbered.proofs.numbered.Numbered.insert_reserved.Goals as goal

pub invariant_of-self : goal.invariant_of-self
invariant_of-self g c =
    let i = c.self.inside in let e = c.insert_reserved-key.ensures in
    let below = subst (λ (v : Numbered g.row.T.Denot). AreBelow v.items c.args.number) (sym c.self.view_is) c.requires.greatest in
    subst (λ l. IsListed c.insert_reserved-key.new.self.slots l) (sym c.push_reserved.ensures.items)
    (in_still i.slab.slots c.insert_reserved-key.new.self.slots i.order.items c.insert_reserved-key.result c.args.number c.args.value
    e.was_vacant e.updates.changed e.updates.others c.self.invariant (order_below i.slab.slots i.order.items c.args.number c.self.invariant.filled below))

pub returns-clause-items : goal.returns-clause-items
returns-clause-items g c =
    let i = c.self.inside in let e = c.insert_reserved-key.ensures in
    ap (λ l. listed c.insert_reserved-key.new.self.slots l) c.push_reserved.ensures.items
    ∙ (put_in i.slab.slots c.insert_reserved-key.new.self.slots i.order.items c.insert_reserved-key.result c.args.number c.args.value
    e.was_vacant e.updates.changed e.updates.others c.self.invariant
    ∙ ap (λ (v : Numbered g.row.T.Denot). v.items ++ (c.args.number, c.args.value) ∷ []) c.self.view_is)
