use Rattle.hx_session.specs.Desks.{desk_now, DeskNow}
use Rattle.hx_session.specs.Stages.{stage_of_answering}
use Rattle.hx_session.proofs.PausedLemmas.{left_where}
use Rattle.hx_session.proofs.DecidedLemmas.{answering_decides, own_only}
use Rattle.hx_session.proofs.phases.end_answering.Goals as goal

pub returns-clause-left : goal.returns-clause-left
returns-clause-left g c = λ limits moment. c.leave_answering.ensures.left limits moment tt

pub returns-clause-own : goal.returns-clause-own
returns-clause-own g c = c.leave_answering.ensures.own

pub returns-clause-still : goal.returns-clause-still
returns-clause-still g c =
    let d : DeskNow = desk_now g.L.Link.state c.args.desk.now in
    left_where d (stage_of_answering c.args.answering) (desk_now g.L.Link.state c.leave_answering.new.desk) c.leave_answering.result c.leave_answering.ensures.moved

pub returns-clause-decides : goal.returns-clause-decides
returns-clause-decides g c = λ limits moment net.
    let d2 : DeskNow = desk_now g.L.Link.state c.leave_answering.new.desk in
    answering_decides limits moment (desk_now g.L.Link.state c.args.desk.now) d2 _ net net c.leave_answering.result c.leave_answering.ensures.moved (own_only _ _ d2 c.leave_answering.result c.leave_answering.ensures.own)
