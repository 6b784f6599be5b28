use Rattle.std.proofs.Common.{arith, refl}
use Rattle.hx_pool.specs.declared.entries.Entry.TheVariants.{Up}
use Rattle.hx_places.specs.Turns.{turn_of}
use Rattle.hx_places.proofs.Heads.{ups}
use Rattle.hx_places.proofs.Seating.{at_ease, notes_of}
use Rattle.hx_places.proofs.seat.PlaceSeat.counted_up.Goals as goal

pub fetch_add-requires : goal.fetch_add-requires
fetch_add-requires g c =
    let i = c.self.invariant in
    let k = i.5 in
    let w = i.1 in
    let v = c.self.inside.token.me.0 in
    let ease = rw (← c.self.view_is) at c.requires.ease in
    let due = rw (← c.self.view_is) at c.requires.due in
    let said = rw (← c.self.view_is) at c.requires.said in (
      i.0,
      omega arith,
      ups g.V.Faced.shows c.self.inside.shared.now.key _ c.self.inside.token.id c.self.inside.token.me g.W.Says.note
          k.role said (λ j. at_ease c.self.inside.shared.now.key.rules.max (turn_of v.mine) (Up v.thread j) ease due),
    )

pub returns : goal.returns
returns g c =
    let s = c.self.inside in
    let said = rw (← c.self.view_is) at c.requires.said in
    rw (← c.self.view_is) (record {
      notes = notes_of s.token.table_id c.fetch_add.new.seat.table_id s.terms s.thread s.opened s.opened s.token.me.0
          c.fetch_add.new.seat.me.0 _ _ c.self.invariant.5 c.fetch_add.ensures.0 (said c.fetch_add.result) refl
          (omega arith) c.fetch_add.ensures.2.1;
    })
