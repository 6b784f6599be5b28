use Rattle.std.proofs.Common.{◌∙◌}
use Rattle.hx_resting.proofs.Chosen.{took_at}
use Rattle.hx_resting.proofs.take.take_at.Goals as goal

pub returns-clause-took : goal.returns-clause-took
returns-clause-took g c = took_at g.V.Faced.shows (g.D.Desk.page c.args.desk.now) (g.D.Desk.page c.leave.new.desk) c.args.resting.now.items c.remove-rest.new.self.items c.args.taker.t c.args.taker.n c.args.taker.first c.args.i c.remove-rest.result c.requires.inside
    c.remove-rest.ensures.value c.remove-rest.ensures.items c.face-face.result c.face-face.ensures c.len-count.result (c.len-count.ensures ∙ c.args.resting.now.ok.0) c.leave.ensures
