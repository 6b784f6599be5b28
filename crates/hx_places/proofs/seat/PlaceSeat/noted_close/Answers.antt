use Rattle.std.proofs.Common.{arith, refl}
use Rattle.hx_pool.specs.declared.entries.Entry.TheVariants.{Close}
use Rattle.hx_places.specs.Turns.{turn_of}
use Rattle.hx_places.proofs.Heads.{closes}
use Rattle.hx_places.proofs.Seating.{at_ease, notes_of}
use Rattle.hx_places.proofs.seat.PlaceSeat.noted_close.Goals as goal

pub load-requires : goal.load-requires
load-requires g c =
    let i = c.self.invariant in
    let k = i.5 in
    let w = i.1 in
    let v = c.self.inside.token.me.0 in
    let ease = rw (← c.self.view_is) at c.requires.ease in
    let held = rw (← c.self.view_is) at c.requires.held in
    let said = rw (← c.self.view_is) at c.requires.said in (
      i.0,
      omega arith,
      closes g.V.Faced.shows c.self.inside.shared.now.key _ c.self.inside.token.id c.self.inside.token.me
          g.W.Says.note c.args.n c.args.id held.0 k.role held.1 said
          (at_ease c.self.inside.shared.now.key.rules.max (turn_of v.mine) (Close v.thread c.args.n c.args.id) ease tt),
    )

pub returns : goal.returns
returns g c =
    let s = c.self.inside in
    let said = rw (← c.self.view_is) at c.requires.said in
    rw (← c.self.view_is) (record {
      notes = notes_of s.token.table_id c.load.new.seat.table_id s.terms s.thread s.opened s.opened s.token.me.0
          c.load.new.seat.me.0 _ _ c.self.invariant.5 c.load.ensures.0 (said c.load.result) refl
          (omega arith) c.load.ensures.2.1;
    })
