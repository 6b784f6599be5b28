use Rattle.std.proofs.Common.{◌-◌, arith, subst, Bool}
use Rattle.hx_session.specs.Cutting.{Drops}
use Rattle.hx_session.proofs.LookEnds.{found_in, lost_in}
use Rattle.hx_session.proofs.cuts.find_answer_end.Goals as goal

pub returns-then-drop_answer-clause-ends : goal.returns-then-drop_answer-clause-ends
returns-then-drop_answer-clause-ends c = λ taken put on.
    let old = c.args.down.now.bytes in
    let new = c.drop_answer.new.down.bytes in
    found_in c.args.method taken old new (c.len-before.result - c.len.result)
    (subst (λ (b : Bool). Drops c.args.method taken old new b) c.if-drop_answer.true (c.drop_answer.ensures.ends taken put on)) (omega (arith, c.len-before.ensures.len, c.len.ensures.len))

pub returns-else-drop_answer-clause-ends : goal.returns-else-drop_answer-clause-ends
returns-else-drop_answer-clause-ends c = λ taken put on.
    let old = c.args.down.now.bytes in
    let new = c.drop_answer.new.down.bytes in
    lost_in c.args.method taken old new (subst (λ (b : Bool). Drops c.args.method taken old new b) c.if-drop_answer.false (c.drop_answer.ensures.ends taken put on))
