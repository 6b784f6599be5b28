use Rattle.std.proofs.Common.{◌≡◌, ap, subst, sym, ◌∙◌, arith}
use Rattle.hx_resting.specs.declared.roles.View.{View}
use Rattle.hx_lockboard.specs.Views.{copy_of, told_by, Hears}
use Rattle.hx_lockboard.specs.LockDesks.{carried_of}
use Rattle.hx_lockboard.proofs.Moves.{copies, joins, hears}
use Rattle.hx_lockboard.proofs.desk.LockDesk.tell.Goals as goal

pub split_seat-copy-requires : goal.split_seat-copy-requires
split_seat-copy-requires g c =
    let i = c.self.invariant in
    let w = i.1 in (i.0, omega arith, copies g.V.Faced.shows c.self.inside.shared.now.key c.self.inside.token.id c.self.inside.token.me.0 i.4)

pub join_seat-requires : goal.join_seat-requires
join_seat-requires g c =
    let i = c.other.invariant in
    let w = i.1 in
    let made = c.split_seat-copy.ensures in
    let board = rw (← c.self.view_is, ← c.other.view_is) at c.requires.board in (
      i.0,
      made.3 ∙ (board ∙ i.0),
      ap (λ m. m.1) made.4,
      omega arith,
      joins g.V.Faced.shows c.other.inside.shared.now.key c.other.inside.token.id c.other.inside.token.me.0 c.split_seat-copy.result.id c.split_seat-copy.result.me.0 i.4 (ap (λ m. m.0.role) made.4),
    )

pub load-requires : goal.load-requires
load-requires g c =
    let i = c.other.invariant in
    let w = i.1 in
    let me = c.join_seat.ensures.2 in
    let home = rw (← c.other.view_is) at c.requires.home.1 in (
      c.join_seat.ensures.0 ∙ i.0,
      omega arith,
      hears g.V.Faced.shows c.other.inside.shared.now.key _ c.join_seat.new.seat.id c.join_seat.new.seat.me (ap (λ m. m.0.role) me ∙ i.4) (ap (λ m. m.0.out) me ∙ home),
    )

pub invariant_of-other : goal.invariant_of-other
invariant_of-other g c =
    let i = c.other.invariant in
    let me = c.join_seat.ensures.2 in
    let did = c.load.ensures.2 in
    let view = did.1.view in (
      c.load.ensures.0 ∙ (c.join_seat.ensures.0 ∙ i.0),
      i.1,
      i.2,
      i.3 ∙ (sym (ap (λ m. m.0.terms) me) ∙ sym (ap (λ v. v.terms) view)),
      ap (λ v. v.role) view ∙ (ap (λ m. m.0.role) me ∙ i.4),
      did.0 ∙ (ap (λ m. m.1) me ∙ (i.5 ∙ (sym (ap (λ m. carried_of m.0.out) me) ∙ sym (ap (λ v. carried_of v.out) view)))),
    )

pub returns-clause-told : goal.returns-clause-told
returns-clause-told g c =
    let did = c.load.ensures.2 in
    let copy = ap (λ m. m.0) c.split_seat-copy.ensures.4 in
    let heard : c.join_seat.new.seat.me.0 ≡ told_by c.other.inside.token.me.0 (copy_of c.self.inside.token.me.0) = ap (λ m. m.0) c.join_seat.ensures.2 ∙ ap (told_by c.other.inside.token.me.0) copy in
    rw (← c.self.view_is, ← c.other.view_is) (record {
      board = c.load.ensures.0 ∙ c.join_seat.ensures.0;
      hears = subst (λ (v : View). Hears v c.load.new.seat.me.0) heard did.1;
    })
