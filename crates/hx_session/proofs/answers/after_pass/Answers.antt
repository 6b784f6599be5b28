use Rattle.std.proofs.Common.{sym, subst, refl}
use Rattle.hx_record.specs.declared.served.LeftCause.TheVariants as cause
use Rattle.hx_session.specs.declared.stage.Came.{Came}
use Rattle.hx_session.specs.Desks.{desk_now, DeskNow}
use Rattle.hx_session.specs.Parting.{RestsSo}
use Rattle.hx_session.specs.Stages.{Exchanging}
use Rattle.hx_session.specs.Telling.{CameTells}
use Rattle.hx_session.proofs.TellLemmas.{passed_closes, passed_moves}
use Rattle.hx_session.specs.Still.{HasMoved}
use Rattle.hx_session.specs.Decided.{HasPassed}
use Rattle.hx_session.proofs.answers.after_pass.Goals as goal

pub returns-then-closing-clause-told : goal.returns-then-closing-clause-told
returns-then-closing-clause-told g c = λ d e is gives told.
    let d1 : DeskNow = desk_now g.L.Link.state c.args.desk.now in
    let l = g.L.Link.state c.finish_client.new.client in
    subst (λ (x : Came g.row.L.Denot). CameTells d (Exchanging e) (record d1 { client = l }) x) (sym c.leave_after.ensures)
    (passed_closes d d1 l e c.args.served c.args.closing c.if-closing.true is gives (told cause.Closing) c.finish_client.ensures.finishes)

pub returns-else-closing-clause-told : goal.returns-else-closing-clause-told
returns-else-closing-clause-told g c = λ d e is gives told.
    let d1 : DeskNow = desk_now g.L.Link.state c.args.desk.now in
    passed_moves d d1 e c.args.held c.args.served c.args.closing c.if-closing.false is gives (told cause.End)

pub returns-then-closing-clause-rests : goal.returns-then-closing-clause-rests
returns-then-closing-clause-rests g c = subst (λ (x : Came g.row.L.Denot). RestsSo x c.args.held c.args.served) (sym c.leave_after.ensures) (refl, refl)

pub returns-then-closing-clause-moved : goal.returns-then-closing-clause-moved
returns-then-closing-clause-moved g c = subst (λ (x : Came g.row.L.Denot). HasMoved x) (sym c.leave_after.ensures) tt

pub returns-then-closing-clause-passed : goal.returns-then-closing-clause-passed
returns-then-closing-clause-passed g c = subst (λ (x : Came g.row.L.Denot). HasPassed x c.args.served) (sym c.leave_after.ensures) refl
