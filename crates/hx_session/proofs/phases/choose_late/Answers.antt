use Rattle.std.proofs.Common.{refl}
use Rattle.hx_session.specs.Desks.{desk_now, DeskNow}
use Rattle.hx_session.specs.Stages.{stage_of_choosing}
use Rattle.hx_session.proofs.PartLemmas.{goes_answering}
use Rattle.hx_session.proofs.TellLemmas.{answers_none}
use Rattle.hx_session.proofs.DecidedLemmas.{late_answer, own_moved, own_stage_is}
use Rattle.hx_session.proofs.phases.choose_late.Goals as goal

pub returns : goal.returns
returns g c = record {
  goes = λ seats net p.
      let d : DeskNow = desk_now g.L.Link.state c.args.desk.now in
      let d2 : DeskNow = desk_now g.L.Link.state c.answer-stage.new.desk in
      goes_answering d d2 (stage_of_choosing c.args.choosing) c.args.own.status c.args.choosing.held seats net c.answer-stage.result c.args.own.waits refl c.requires.between p.set.numbered p.set.around p.set.own
      c.answer-stage.ensures.stage c.answer-stage.ensures.answers (answers_none d d2 c.args.own.status c.answer-stage.ensures.answers);
  left = λ limits moment. tt;
  moved = tt;
  decides = λ limits moment net late is.
      let d : DeskNow = desk_now g.L.Link.state c.args.desk.now in
      let d2 : DeskNow = desk_now g.L.Link.state c.answer-stage.new.desk in
      own_moved limits moment d (stage_of_choosing c.args.choosing) net d2 net c.answer-stage.result c.args.own.status (own_stage_is _ c.args.own.status c.args.choosing.held c.answer-stage.ensures.stage)
      (late_answer limits moment d (stage_of_choosing c.args.choosing) net net c.args.own.status late is);
}
