use Rattle.std.proofs.Common.{arith, refl}
use Rattle.hx_pool.specs.declared.entries.Entry.TheVariants.{Round}
use Rattle.hx_places.specs.Turns.{turn_of}
use Rattle.hx_places.proofs.Heads.{raises}
use Rattle.hx_places.proofs.Seating.{at_ease, notes_of}
use Rattle.hx_places.proofs.seat.PlaceSeat.raised.Goals as goal

pub fetch_max-requires : goal.fetch_max-requires
fetch_max-requires g c =
    let i = c.self.invariant in
    let k = i.5 in
    let w = i.1 in
    let v = c.self.inside.token.me.0 in
    let ease = rw (← c.self.view_is) at c.requires.ease in
    let said = rw (← c.self.view_is) at c.requires.said in (
      i.0,
      omega arith,
      raises g.V.Faced.shows c.self.inside.shared.now.key _ c.self.inside.token.id c.self.inside.token.me
          g.W.Says.note c.args.k k.role said
          (λ j. at_ease c.self.inside.shared.now.key.rules.max (turn_of v.mine) (Round v.thread c.args.k j) ease tt),
    )

pub returns : goal.returns
returns g c =
    let s = c.self.inside in
    let said = rw (← c.self.view_is) at c.requires.said in
    rw (← c.self.view_is) (record {
      notes = notes_of s.token.table_id c.fetch_max.new.seat.table_id s.terms s.thread s.opened s.opened s.token.me.0
          c.fetch_max.new.seat.me.0 _ _ c.self.invariant.5 c.fetch_max.ensures.0 (said c.fetch_max.result) refl
          (omega arith) c.fetch_max.ensures.2.1;
    })
