use Rattle.hx_session.specs.Desks.{desk_now, DeskNow}
use Rattle.hx_session.specs.Stages.{Reading}
use Rattle.hx_session.proofs.DecidedLemmas.{late_answer, own_moved, own_stage_is, reads_late}
use Rattle.hx_session.proofs.phases.read_late.Goals as goal

pub returns-then-desk-clause-decides : goal.returns-then-desk-clause-decides
returns-then-desk-clause-decides g c = λ limits moment net comes is.
    let d : DeskNow = desk_now g.L.Link.state c.args.desk.now in
    let d2 : DeskNow = desk_now g.L.Link.state c.answer-stage.new.desk in
    let late = reads_late limits moment d c.args.held c.requires.between comes c.if-desk.true in
    own_moved limits moment d (Reading c.args.held) net d2 net c.answer-stage.result c.args.own.status (own_stage_is _ c.args.own.status c.args.held c.answer-stage.ensures.stage)
    (late_answer limits moment d (Reading c.args.held) net net c.args.own.status late is)
