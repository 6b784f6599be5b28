use Rattle.std.proofs.Common.{◌≤◌, sym, subst}
use Rattle.hx_rows.specs.Stays.{AreApart, BestFits, Pulls}
use Rattle.hx_rows.proofs.Listing.{left_is, apart_mid, pulls}
use Rattle.hx_rows.proofs.stays.Stays.pull_best.Goals as goal

pub invariant_of-self : goal.invariant_of-self
invariant_of-self c =
    let xs = c.self.inside.items.items in
    let best = subst (λ l. BestFits c.args.mode c.args.first l c.in_ok-i.i) c.as_slice.ensures.value c.in_ok-i.ensures in
    let l = best.last in
    let left = left_is xs c.remove.new.self.items c.in_ok-i.i l.before l.chosen l.behind l.parts l.index c.remove.ensures.items in (
      subst AreApart (sym left) (apart_mid l.before l.chosen l.behind (subst AreApart l.parts c.self.invariant.0)),
      subst (λ k. 64 ≤ k) (sym c.remove.ensures.capacity) c.self.invariant.1,
    )

pub returns : goal.returns
returns c =
    let xs = c.self.inside.items.items in
    let best = subst (λ l. BestFits c.args.mode c.args.first l c.in_ok-i.i) c.as_slice.ensures.value c.in_ok-i.ensures in
    subst (λ old. Pulls c.args.mode c.args.first old c.remove.result c.remove.new.self.items) c.self.view_is
    (pulls c.args.mode c.args.first xs c.remove.new.self.items c.in_ok-i.i c.remove.result c.self.invariant.0 best c.remove.ensures.items c.remove.ensures.value)
