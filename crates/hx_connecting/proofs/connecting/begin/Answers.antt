use Rattle.std.proofs.Common.{refl, subst, inl}
use Rattle.hx_base.specs.declared.numbers.ConnId.{ConnId}
use Rattle.hx_conn.specs.Steps.{ProbesDead}
use Rattle.hx_connecting.proofs.connecting.begin.Goals as goal

pub returns-in-Err-clause-dead : goal.returns-in-Err-clause-dead
returns-in-Err-clause-dead g c =
    let dead = c.in-Err.ensures.dead in
    (dead.0, inl (c.in-Err.dead.why, subst (λ (id : ConnId). ProbesDead c.args.rested c.args.now.0 (g.L.Link.state c.in-Err.dead.link) id c.in-Err.dead.why) dead.0 dead, refl))
