use Rattle.std.proofs.Common.{◌≡◌, ap, subst, sym, ◌∙◌, arith}
use Rattle.hx_places.specs.declared.view.View.{View}
use Rattle.hx_places.specs.Views.{carried_of, copy_of, told_by, Hears}
use Rattle.hx_places.proofs.Telling.{copies, joins, hears}
use Rattle.hx_places.proofs.Seating.{after_hearing, after_told, stands_of}
use Rattle.hx_places.proofs.seat.PlaceSeat.told.Goals as goal

pub split_seat-copy-requires : goal.split_seat-copy-requires
split_seat-copy-requires g c =
    let i = c.self.invariant in
    let w = i.1 in (
      i.0,
      omega arith,
      copies g.V.Faced.shows c.self.inside.shared.now.key c.self.inside.token.id c.self.inside.token.me.0 i.5.role,
    )

pub join_seat-requires : goal.join_seat-requires
join_seat-requires g c =
    let i = c.other.invariant in
    let w = i.1 in
    let made = c.split_seat-copy.ensures in
    let board = rw (← c.self.view_is, ← c.other.view_is) at c.requires.board in (
      i.0,
      made.3 ∙ (board ∙ i.0),
      ap (λ m. m.1) made.4,
      omega arith,
      joins g.V.Faced.shows c.other.inside.shared.now.key c.other.inside.token.id c.other.inside.token.me.0
          c.split_seat-copy.result.id c.split_seat-copy.result.me.0 i.5.role (ap (λ m. m.0.role) made.4),
    )

pub load-requires : goal.load-requires
load-requires g c =
    let i = c.other.invariant in
    let w = i.1 in
    let me = c.join_seat.ensures.2 in (
      c.join_seat.ensures.0 ∙ i.0,
      omega arith,
      hears g.V.Faced.shows c.other.inside.shared.now.key _ c.join_seat.new.seat.id c.join_seat.new.seat.me
          (ap (λ m. m.0.role) me ∙ i.5.role),
    )

pub invariant_of-other : goal.invariant_of-other
invariant_of-other g c =
    let i = c.other.invariant in
    let me = c.join_seat.ensures.2 in
    let did = c.load.ensures.2 in
    let view = did.1.view in (
      c.load.ensures.0 ∙ (c.join_seat.ensures.0 ∙ i.0),
      i.1,
      i.2,
      i.3,
      did.0 ∙ (ap (λ m. m.1) me
          ∙ (i.4 ∙ (sym (ap (λ m. carried_of m.0.hand) me) ∙ sym (ap (λ v. carried_of v.hand) view)))),
      after_hearing c.other.inside.terms c.other.inside.thread c.other.inside.opened c.join_seat.new.seat.me.0
          c.load.new.seat.me.0
          (after_told c.other.inside.terms c.other.inside.thread c.other.inside.opened c.other.inside.token.me.0
          c.split_seat-copy.result.me.0 _ i.5 (ap (λ m. m.0) me)) did.1,
    )

pub returns-clause-told : goal.returns-clause-told
returns-clause-told g c =
    let did = c.load.ensures.2 in
    let copy = ap (λ m. m.0) c.split_seat-copy.ensures.4 in
    let heard : c.join_seat.new.seat.me.0 ≡ told_by c.other.inside.token.me.0 (copy_of c.self.inside.token.me.0) =
    ap (λ m. m.0) c.join_seat.ensures.2 ∙ ap (told_by c.other.inside.token.me.0) copy in
    rw (← c.self.view_is, ← c.other.view_is) (record {
      board = c.load.ensures.0 ∙ c.join_seat.ensures.0;
      hears = subst (λ (v : View). Hears v c.load.new.seat.me.0) heard did.1;
      was = stands_of c.other.inside.terms c.other.inside.thread c.other.inside.opened c.other.inside.token.me.0
          c.other.invariant.5;
      one = stands_of c.other.inside.terms c.other.inside.thread c.other.inside.opened c.load.new.seat.me.0
          (after_hearing c.other.inside.terms c.other.inside.thread c.other.inside.opened c.join_seat.new.seat.me.0
          c.load.new.seat.me.0
          (after_told c.other.inside.terms c.other.inside.thread c.other.inside.opened c.other.inside.token.me.0
          c.split_seat-copy.result.me.0 _ c.other.invariant.5 (ap (λ m. m.0) c.join_seat.ensures.2)) did.1);
    })
