use Rattle.std.proofs.Common.{arith, refl}
use Rattle.hx_pool.specs.declared.entries.Entry.TheVariants.{SetGate}
use Rattle.hx_places.specs.Turns.{turn_of}
use Rattle.hx_places.proofs.Heads.{sets}
use Rattle.hx_places.proofs.Seating.{at_ease, notes_of}
use Rattle.hx_places.proofs.seat.PlaceSeat.wrote_gate.Goals as goal

pub store-requires : goal.store-requires
store-requires g c =
    let i = c.self.invariant in
    let k = i.5 in
    let w = i.1 in
    let v = c.self.inside.token.me.0 in
    let ease = rw (← c.self.view_is) at c.requires.ease in
    let said = rw (← c.self.view_is) at c.requires.said in (
      i.0,
      omega arith,
      sets g.V.Faced.shows c.self.inside.shared.now.key _ c.self.inside.token.id c.self.inside.token.me g.W.Says.note
          c.args.draining _ c.gate_word-word.ensures k.role said
          (at_ease c.self.inside.shared.now.key.rules.max (turn_of v.mine) (SetGate v.thread c.args.draining) ease tt),
    )

pub returns : goal.returns
returns g c =
    let s = c.self.inside in
    let said = rw (← c.self.view_is) at c.requires.said in
    rw (← c.self.view_is) (record {
      notes = notes_of s.token.table_id c.store.new.seat.table_id s.terms s.thread s.opened s.opened s.token.me.0
          c.store.new.seat.me.0 _ _ c.self.invariant.5 c.store.ensures.0 (said c.gate_word-word.result) refl
          (omega arith) c.store.ensures.2.1;
    })
