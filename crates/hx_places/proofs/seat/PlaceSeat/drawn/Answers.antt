use Rattle.std.proofs.Common.{◌+◌, arith, refl}
use Rattle.hx_pool.specs.declared.entries.Entry.TheVariants.{Open}
use Rattle.hx_places.specs.Turns.{turn_of}
use Rattle.hx_places.proofs.Heads.{draws}
use Rattle.hx_places.proofs.Seating.{at_ease, notes_of}
use Rattle.hx_places.proofs.seat.PlaceSeat.drawn.Goals as goal

pub fetch_add-id-requires : goal.fetch_add-id-requires
fetch_add-id-requires g c =
    let i = c.self.invariant in
    let k = i.5 in
    let w = i.1 in
    let v = c.self.inside.token.me.0 in
    let room = rw (← c.self.view_is) at c.requires.room in
    let ease = rw (← c.self.view_is) at c.requires.ease in
    let said = rw (← c.self.view_is) at c.requires.said in (
      i.0,
      omega arith,
      draws g.V.Faced.shows c.self.inside.shared.now.key _ c.self.inside.token.id c.self.inside.token.me
          g.W.Says.note c.args.n k.role c.requires.session said room
          (λ j. at_ease c.self.inside.shared.now.key.rules.max (turn_of v.mine)
          (Open v.thread c.args.n (record { 0 = j })) ease tt),
    )

pub returns-clause-notes : goal.returns-clause-notes
returns-clause-notes g c =
    let s = c.self.inside in
    let said = rw (← c.self.view_is) at c.requires.said in
    rw (← c.self.view_is)
    (notes_of s.token.table_id c.fetch_add-id.new.seat.table_id s.terms s.thread s.opened
    (s.opened + 1) s.token.me.0 c.fetch_add-id.new.seat.me.0 _ _ c.self.invariant.5 c.fetch_add-id.ensures.0
    (said c.fetch_add-id.result) refl (omega arith) c.fetch_add-id.ensures.2.0.1)
