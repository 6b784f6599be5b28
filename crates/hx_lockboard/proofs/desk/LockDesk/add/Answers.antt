use Rattle.std.proofs.Common.{arith}
use Rattle.hx_lockboard.proofs.Moves.{notes}
use Rattle.hx_lockboard.proofs.desk.LockDesk.add.Goals as goal

pub fetch_add-requires : goal.fetch_add-requires
fetch_add-requires g c =
    let i = c.self.invariant in
    let w = i.1 in
    let out = rw (← c.self.view_is) at c.requires in (
      i.0,
      omega arith,
      notes g.V.Faced.shows c.self.inside.shared.now.key _ c.self.inside.token.id c.self.inside.token.me g.W.Says.note i.4 out,
    )
