use Rattle.std.proofs.Common.{ap, subst}
use Rattle.std.specs.Prelude.{IfSome}
use Rattle.hx_session.specs.Desks.{desk_now, DeskNow}
use Rattle.hx_session.specs.First.{ServerComes}
use Rattle.hx_session.specs.Stages.{stage_now}
use Rattle.hx_session.proofs.FirstLemmas.{server_finds}
use Rattle.hx_session.proofs.deadline.find_late.Goals as goal

pub returns-in-Exchanging-clause-late : goal.returns-in-Exchanging-clause-late
returns-in-Exchanging-clause-late g c =
    let d : DeskNow = desk_now g.L.Link.state c.args.desk.now in
    server_finds d (stage_now c.args.stage.now) _ c.args.front.now c.args.back.now c.args.now.0 c.server_late.result (ap stage_now c.in-Exchanging.is)
    (subst (λ (x : DeskNow). IfSome c.server_late.result (λ l. ServerComes x.since.0 c.args.back.now c.args.now.0 l)) c.is_client_late.ensures.same c.server_late.ensures)
