use Rattle.std.proofs.Common.{arith, refl}
use Rattle.hx_pool.specs.declared.entries.Entry.TheVariants.{Down}
use Rattle.hx_places.specs.Turns.{turn_of}
use Rattle.hx_places.proofs.Heads.{downs}
use Rattle.hx_places.proofs.Seating.{at_ease, notes_of}
use Rattle.hx_places.proofs.seat.PlaceSeat.counted_down.Goals as goal

pub fetch_sub-requires : goal.fetch_sub-requires
fetch_sub-requires g c =
    let i = c.self.invariant in
    let k = i.5 in
    let w = i.1 in
    let v = c.self.inside.token.me.0 in
    let ease = rw (← c.self.view_is) at c.requires.ease in
    let due = rw (← c.self.view_is) at c.requires.due in
    let said = rw (← c.self.view_is) at c.requires.said in (
      i.0,
      omega arith,
      downs g.V.Faced.shows c.self.inside.shared.now.key _ c.self.inside.token.id c.self.inside.token.me
          g.W.Says.note k.role said
          (λ j. at_ease c.self.inside.shared.now.key.rules.max (turn_of v.mine) (Down v.thread j) ease due),
    )

pub returns : goal.returns
returns g c =
    let s = c.self.inside in
    let said = rw (← c.self.view_is) at c.requires.said in
    rw (← c.self.view_is) (record {
      notes = notes_of s.token.table_id c.fetch_sub.new.seat.table_id s.terms s.thread s.opened s.opened s.token.me.0
          c.fetch_sub.new.seat.me.0 _ _ c.self.invariant.5 c.fetch_sub.ensures.0 (said c.fetch_sub.result) refl
          (omega arith) c.fetch_sub.ensures.2.1;
    })
