use Rattle.std.proofs.Common.{◌<◌, ◌≤◌, length, get_or, sym, ap, ◌∙◌, subst}
use Rattle.std.proofs.lemmas.Bool.{ltb-true, ltb-false}
use Rattle.hx_numbered.specs.Numbered.{Numbered}
use Rattle.hx_numbered.specs.Numbers.{IsJustAbove, number_above}
use Rattle.hx_numbered.proofs.Finding.{above_found, number_here, number_none}
use Rattle.hx_numbered.proofs.numbered.Numbered.number_above.Goals as goal

pub returns-in-Some : goal.returns-in-Some
returns-in-Some g c =
    let i = c.self.inside in
    let at = subst (λ l. IsJustAbove l c.args.number c.place_above-at.result) c.as_slice.ensures.value c.place_above-at.ensures in
    let p = c.in-Some.field-0.now in
    let low : c.place_above-at.result < length i.order.items = subst (λ l. c.place_above-at.result < length l) c.deref.ensures.value (ltb-true _ _ (sym c.in-Some.ensures.lookup.0)) in
    let is = c.in-Some.ensures.lookup.1 ∙ ap (λ l. get_or l c.place_above-at.result p) c.deref.ensures.value in
    sym (number_here i.order.items c.place_above-at.result p low is)
    ∙ (sym (above_found i.slab.slots i.order.items c.args.number c.place_above-at.result c.self.invariant.filled at)
    ∙ ap (λ (v : Numbered g.row.T.Denot). number_above v.items c.args.number) c.self.view_is)

pub returns-in-None : goal.returns-in-None
returns-in-None g c =
    let i = c.self.inside in
    let at = subst (λ l. IsJustAbove l c.args.number c.place_above-at.result) c.as_slice.ensures.value c.place_above-at.ensures in
    let high : length i.order.items ≤ c.place_above-at.result = subst (λ l. length l ≤ c.place_above-at.result) c.deref.ensures.value (ltb-false _ _ (sym c.in-None.ensures.lookup.0)) in
    sym (number_none i.order.items c.place_above-at.result high)
    ∙ (sym (above_found i.slab.slots i.order.items c.args.number c.place_above-at.result c.self.invariant.filled at)
    ∙ ap (λ (v : Numbered g.row.T.Denot). number_above v.items c.args.number) c.self.view_is)
