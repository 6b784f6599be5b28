use Rattle.std.proofs.Common.{map}
use Rattle.hx_config.specs.Views.{meaning}
use Rattle.hx_session_tests.proofs.Benches.{may_step, stepped_off, stepped_on, not_over}
use Rattle.hx_session_tests.proofs.tests.bench.step_on.Goals as goal

pub step-requires : goal.step-requires
step-requires g c =
    let v = c.requires.visit in
    let m = may_step (meaning c.args.config.now) (map g.S.HasHistory.history c.args.seats.now) c.args.turns.now c.args.net.now.state c.args.session.now v in
    record { going = λ on. m.going; turns = v.has.turns; seats = m.serve; holds = m.holds; net = m.net }

pub returns-clause-off : goal.returns-clause-off
returns-clause-off g c = λ ended.
    let e = c.step.ensures in let h = g.S.HasHistory.history in
    stepped_off (meaning c.args.config.now) (map h c.args.seats.now) (map h c.step.new.seats) c.args.turns.now c.step.new.turns c.args.net.now.state c.step.new.net.state
    c.args.session.now c.step.new.self c.step.result c.requires.visit
    (record { same = e.same; adds = e.adds; links = e.links; chooses = e.chooses; tells = e.tells; keeps = e.keeps; ended = e.ended; turns = e.turns; going = e.going; left = e.left; holds = e.holds; serve = e.seats })
    (e.ended.0 ended)

pub returns-clause-on : goal.returns-clause-on
returns-clause-on g c = λ never.
    let e = c.step.ensures in let h = g.S.HasHistory.history in
    stepped_on (meaning c.args.config.now) (map h c.args.seats.now) (map h c.step.new.seats) c.args.turns.now c.step.new.turns c.args.net.now.state c.step.new.net.state
    c.args.session.now c.step.new.self c.step.result c.requires.visit
    (record { same = e.same; adds = e.adds; links = e.links; chooses = e.chooses; tells = e.tells; keeps = e.keeps; ended = e.ended; turns = e.turns; going = e.going; left = e.left; holds = e.holds; serve = e.seats })
    (not_over c.step.new.self.over (λ over. never (e.ended.1 over)))
