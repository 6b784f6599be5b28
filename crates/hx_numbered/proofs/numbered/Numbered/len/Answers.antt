use Rattle.std.proofs.Common.{List, ℕ, length, sym, ap, ◌∙◌, subst}
use Rattle.hx_numbered.specs.Numbered.{Numbered}
use Rattle.hx_numbered.specs.Numbers.{IsRising}
use Rattle.hx_numbered.proofs.Rising.{listed_count, listed_rising}
use Rattle.hx_numbered.proofs.numbered.Numbered.len.Goals as goal

pub returns-clause-count : goal.returns-clause-count
returns-clause-count g c =
    let i = c.self.inside in
    ap (λ (l : List (ℕ × ℕ)). length l) c.as_slice.ensures.value
    ∙ (sym (listed_count i.slab.slots i.order.items c.self.invariant.filled) ∙ ap (λ (v : Numbered g.row.T.Denot). length v.items) c.self.view_is)

pub returns-clause-rising : goal.returns-clause-rising
returns-clause-rising g c =
    let i = c.self.inside in
    subst (λ (v : Numbered g.row.T.Denot). IsRising v.items) c.self.view_is (listed_rising i.slab.slots i.order.items c.self.invariant.filled c.self.invariant.rising)
