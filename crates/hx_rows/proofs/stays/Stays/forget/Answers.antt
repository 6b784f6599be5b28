use Rattle.std.proofs.Common.{◌≤◌, sym, ap, ◌∙◌, subst}
use Rattle.hx_rows.specs.Stays.{AreApart, NoneAt, IsAt, others_at}
use Rattle.hx_rows.proofs.Listing.{left_is, apart_mid, others_mid, others_none}
use Rattle.hx_rows.proofs.stays.Stays.forget.Goals as goal

pub invariant_of-self : goal.invariant_of-self
invariant_of-self c =
    let xs = c.self.inside.items.items in
    let at = subst (λ l. IsAt c.args.place l c.in-Some.i) c.as_slice.ensures.value c.in-Some.ensures in
    let left = left_is xs c.remove.new.self.items c.in-Some.i at.before at.chosen at.behind at.parts at.index c.remove.ensures.items in (
      subst AreApart (sym left) (apart_mid at.before at.chosen at.behind (subst AreApart at.parts c.self.invariant.0)),
      subst (λ k. 64 ≤ k) (sym c.remove.ensures.capacity) c.self.invariant.1,
    )

pub returns-in-Some : goal.returns-in-Some
returns-in-Some c =
    let xs = c.self.inside.items.items in
    let at = subst (λ l. IsAt c.args.place l c.in-Some.i) c.as_slice.ensures.value c.in-Some.ensures in
    let left = left_is xs c.remove.new.self.items c.in-Some.i at.before at.chosen at.behind at.parts at.index c.remove.ensures.items in
    left ∙ (sym (others_mid c.args.place at.before at.chosen at.behind (subst AreApart at.parts c.self.invariant.0) at.at)
    ∙ (ap (others_at c.args.place) (sym at.parts) ∙ ap (others_at c.args.place) c.self.view_is))

pub returns-in_default : goal.returns-in_default
returns-in_default c =
    sym (others_none c.args.place c.args.self.now
    (subst (NoneAt c.args.place) (c.as_slice.ensures.value ∙ c.self.view_is) c.in_default.ensures))
