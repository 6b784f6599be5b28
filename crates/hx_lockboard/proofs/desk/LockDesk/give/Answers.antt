use Rattle.std.proofs.Common.{◌∷◌, Option, Some, None, ap, subst, sym, ◌∙◌, refl, arith}
use mathlib.Core.Option as maybe
use Rattle.atomic_table.specs.Table.{Me, Allows, step, rest}
use Rattle.hx_resting.specs.declared.values.Rows.{Rows}
use Rattle.hx_resting.specs.declared.roles.View.{View}
use Rattle.hx_lockboard.specs.Rule.{Kept}
use Rattle.hx_lockboard.specs.Views.{gave, settled}
use Rattle.hx_lockboard.specs.LockDesks.{carried_of}
use Rattle.hx_lockboard.proofs.Moves.{returns_value}
use Rattle.hx_lockboard.proofs.Desking.{desk_is}
use Rattle.hx_lockboard.proofs.desk.LockDesk.give.Goals as goal

pub exchange-requires : goal.exchange-requires
exchange-requires g c =
    let i = c.self.invariant in
    let out = rw (← c.self.view_is) at c.requires.out in
    let has = i.5 ∙ ap carried_of out in (i.0, (None, has ∙ ap (λ x. (0, None) ∷ x) (ap rest (sym has))))

pub store-requires : goal.store-requires
store-requires g c =
    let i = c.self.invariant in
    let w = i.1 in
    let me = c.self.inside.token.me in
    let out = rw (← c.self.view_is) at c.requires.out in
    let after = rw (← c.self.view_is) at c.requires.after in
    let own = rw (← c.self.view_is) at c.requires.own in
    let K = Kept g.V.Faced.shows c.self.inside.shared.now.key in (
      c.exchange.ensures.0 ∙ i.0,
      omega arith,
      subst (λ (m : Me (Option (Rows g.row.V.Denot)) View). Allows K c.self.inside.shared.now.table_id.slots c.exchange.new.seat.id m 0 (λ _. 0) (λ _. gave (step c.self.inside.shared.now.table_id.slots 0 0 0 maybe.none) m 0)) (sym c.exchange.ensures.3)
          (returns_value g.V.Faced.shows c.self.inside.shared.now.key _ c.exchange.new.seat.id (me.0, (0, Some c.args.rows) ∷ rest me.1) c.args.rows (rest me.1) i.4 out refl after own),
    )

pub invariant_of-self : goal.invariant_of-self
invariant_of-self g c =
    let i = c.self.invariant in
    let now = c.exchange.ensures.3 in
    let did = c.store.ensures.2 in
    let view = ap (λ m. m.0) did ∙ ap (λ m. settled m.0) now in
    let out = rw (← c.self.view_is) at c.requires.out in
    let none = ap rest (i.5 ∙ ap carried_of out) in (
      c.store.ensures.0 ∙ (c.exchange.ensures.0 ∙ i.0),
      i.1,
      i.2,
      i.3 ∙ sym (ap (λ v. v.terms) view),
      ap (λ v. v.role) view ∙ i.4,
      ap (λ m. m.1) did ∙ (ap (λ m. rest m.1) now ∙ (none ∙ ap (λ v. carried_of v.out) (sym view))),
    )

pub returns : goal.returns
returns g c =
    let now = c.exchange.ensures.3 in
    let did = c.store.ensures.2 in
    let view = ap (λ m. m.0) did ∙ ap (λ m. settled m.0) now in
    rw (← c.self.view_is) (desk_is c.self.inside.token.table_id c.store.new.seat.table_id (settled c.self.inside.token.me.0) c.store.new.seat.me.0 (c.store.ensures.0 ∙ c.exchange.ensures.0) view)
