use Rattle.std.proofs.Common.{◌≡◌, Some, sym, ap, ◌∙◌, subst}
use Rattle.std.specs.Prelude.{slice_set, vec_capacity}
use Rattle.std.specs.Option.{ghost_name_of}
use borrow.Follows.Closed.{read_of}
use Rattle.slab.specs.Slab.{with_value as with_slot}
use Rattle.hx_numbered.specs.Numbered.{Numbered, with_value_at}
use Rattle.hx_numbered.specs.Numbers.{IsAt, IsGapFor, value_of}
use Rattle.hx_numbered.specs.Listed.{under, IsListed, seen}
use Rattle.hx_numbered.proofs.Finding.{found, not_found, gap_free, key_read}
use Rattle.hx_numbered.proofs.Writing.{written_still, written_view}
use Rattle.hx_numbered.proofs.numbered.Numbered.get_mut.Goals as goal

pub invariant_of-self-lent : goal.invariant_of-self-lent
invariant_of-self-lent g c o =
    let i = c.self.inside in
    let at = subst (λ l. IsAt l c.args.number c.in-Ok.at) c.as_slice.ensures.value c.in-Ok.ensures.found in
    let key = key_read i.order.items c.in-Ok.at c.index.result.now at.in_range c.index.ensures in (
      λ w. subst (λ k. IsListed (slice_set i.slab.slots k (Some w)) i.order.items) (sym key) (written_still i.slab.slots i.order.items c.in-Ok.at w c.self.invariant at.in_range),
      c.self.invariant,
    )

pub returns-in-Ok : goal.returns-in-Ok
returns-in-Ok g c =
    let i = c.self.inside in
    let at = subst (λ l. IsAt l c.args.number c.in-Ok.at) c.as_slice.ensures.value c.in-Ok.ensures.found in
    let key = key_read i.order.items c.in-Ok.at c.index.result.now at.in_range c.index.ensures in
    let ends : (w : g.row.T.Denot) → seen (with_slot i.slab c.index.result.now.1 w) i.order.items (vec_capacity i.order) ≡ with_value_at c.args.self.now c.args.number w =
    λ w. written_view i.slab i.order.items (vec_capacity i.order) c.args.number c.in-Ok.at c.index.result.now.1 w c.self.invariant at key
    ∙ ap (λ (v : Numbered g.row.T.Denot). with_value_at v c.args.number w) c.self.view_is in (
      λ j. read_of (ghost_name_of c.get_mut.result) (λ w. ends w j) (c.self.view_is j),
      record {
        writes_back = tt;
        value = c.get_mut.ensures.value
            ∙ (ap (under i.slab.slots) key
            ∙ (sym (found i.slab.slots i.order.items c.args.number c.in-Ok.at c.self.invariant.rising c.self.invariant.filled at)
            ∙ ap (λ (v : Numbered g.row.T.Denot). value_of v.items c.args.number) c.self.view_is));
      },
    )

pub returns-in-Err : goal.returns-in-Err
returns-in-Err g c =
    let i = c.self.inside in
    let gap = subst (λ l. IsGapFor l c.args.number c.in-Err.field-0) c.as_slice.ensures.value c.in-Err.ensures.absent in (
      λ j. mathlib.Core.Logic.inr (c.self.view_is j),
      record {
        writes_back = tt;
        value = sym (not_found i.slab.slots i.order.items c.args.number c.self.invariant.filled (gap_free i.order.items c.args.number c.in-Err.field-0 gap))
            ∙ ap (λ (v : Numbered g.row.T.Denot). value_of v.items c.args.number) c.self.view_is;
      },
    )
