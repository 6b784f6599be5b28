use Rattle.std.proofs.Common.{◌≤◌, sym, ◌∙◌, subst, arith}
use Rattle.hx_rows.specs.Stays.{AreApart, NoneAt}
use Rattle.hx_rows.proofs.Listing.{apart_push, none_here, room}
use Rattle.hx_rows.proofs.stays.Stays.add.Goals as goal

pub push_reserved-requires : goal.push_reserved-requires
push_reserved-requires c =
    let none = subst (NoneAt c.args.stay.place) (sym (c.self.view_is ∙ c.forget.ensures)) (none_here c.args.stay.place c.args.self.now) in
    let some = room c.self.inside.items.items c.args.stay c.self.invariant.0 none c.requires.inside c.requires.face in
    let cap = c.self.invariant.1 in
    let len = c.self.inside.items.ok.0 in omega arith

pub invariant_of-self : goal.invariant_of-self
invariant_of-self c =
    let none = subst (NoneAt c.args.stay.place) (sym (c.self.view_is ∙ c.forget.ensures)) (none_here c.args.stay.place c.args.self.now) in (
      subst AreApart (sym c.push_reserved.ensures.items) (apart_push c.self.inside.items.items c.args.stay c.self.invariant.0 none c.requires.inside c.requires.face),
      subst (λ k. 64 ≤ k) (sym c.push_reserved.ensures.capacity) c.self.invariant.1,
    )
