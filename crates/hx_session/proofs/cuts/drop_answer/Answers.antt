use Rattle.std.proofs.Common.{◌≤◌, length, drop, arith, sym, ap, subst, ◌∙◌}
use Rattle.hx_link.specs.Pipes.{PipeNow}
use Rattle.hx_session_parts.specs.Answers.{IsAnswerTo}
use Rattle.hx_session.specs.Cutting.{Drops}
use Rattle.hx_session.proofs.LookEnds.{no_heads, more_heads, heads_then, drops_none, looked_none}
use Rattle.hx_session.proofs.cuts.drop_answer.Goals as goal

pub returns-in-More-clause-ends : goal.returns-in-More-clause-ends
returns-in-More-clause-ends c = λ taken put on.
    let m = c.args.method in
    let now = c.loop-head.down.bytes in
    let new = c.look_down.new.down.bytes in
    let fewer : length new ≤ length now = omega (arith, ap (λ (p : PipeNow). length p.bytes) c.look_down.ensures.same) in
    heads_then m taken put c.args.down.now.bytes now new _ c.loop-head.invariant.1 fewer on (λ xs put' o. drops_none m xs put' now o (looked_none m now c.look_down.result c.look_down.ensures.looks c.in-More.is) new)

pub returns-in-Final-clause-ends : goal.returns-in-Final-clause-ends
returns-in-Final-clause-ends c = λ taken put on.
    let m = c.args.method in
    let now = c.loop-head.down.bytes in
    let new = c.ends_here.new.down.bytes in
    let same = c.look_down.ensures.same in
    let found = c.ends_here.result in
    let to = c.in-Final.ensures.looks in
    let fewer : length new ≤ length now = omega (arith, ap (λ (p : PipeNow). length p.bytes) same, c.ends_here.ensures.fewer) in
    heads_then m taken put c.args.down.now.bytes now new found c.loop-head.invariant.1 fewer on
    (λ xs put' o. subst (λ (p : PipeNow). Drops m xs p.bytes new found) same (c.ends_here.ensures.ends to.0 m xs put' o (subst (λ (p : PipeNow). IsAnswerTo m p.bytes c.in-Final.answered to.0) (sym same) to.1)))

pub loop-head-init : goal.loop-head-init
loop-head-init c = (omega arith, no_heads c.args.down.now.bytes)

pub loop-head-preserved : goal.loop-head-preserved
loop-head-preserved c =
    let same = c.look_down.ensures.same in (
      omega (arith, ap (λ (p : PipeNow). length p.bytes) same, c.drop_head.ensures.fewer, c.loop-head.invariant.0),
      more_heads c.args.down.now.bytes c.loop-head.down.bytes c.drop_head.new.down.bytes c.in-Interim.head c.loop-head.invariant.1 c.in-Interim.ensures.looks
          (c.drop_head.ensures.left ∙ ap (λ (p : PipeNow). drop c.in-Interim.head.length p.bytes) same),
    )
