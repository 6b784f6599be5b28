use Rattle.std.proofs.Common.{◌≡◌, ℕ, List, [], drop, ap, subst, ◌∙◌, Some, None}
use Rattle.hx_link.specs.Pipes.{PipeNow}
use Rattle.hx_session.specs.Cutting.{EndsBodyIn}
use Rattle.hx_session.proofs.LookEnds.{drops_found, drops_lost}
use Rattle.hx_session.proofs.cuts.ends_here.Goals as goal

pub returns-in-Some-clause-ends : goal.returns-in-Some-clause-ends
returns-in-Some-clause-ends c = λ g m taken put on to.
    let a = c.args.answered.now in
    let bytes = c.args.down.now.bytes in
    let left : c.whole.result.now ≡ drop a.head.length bytes = c.whole.ensures.value ∙ ap (λ (p : PipeNow). p.bytes) c.drop_front.ensures.bytes in
    let ends = c.in-Some.ensures.ends a.kind [] c.new-meter.ensures.used (λ bad. absurd (c.new-meter.ensures.good bad)) in
    drops_found m taken put bytes c.drop_front-in-Some.new.self.bytes a g c.new-meter.result c.in-Some.used on to c.new-meter.ensures.used
    (subst (λ (xs : List ℕ). EndsBodyIn a.kind [] xs (Some c.in-Some.used)) left ends)
    (ap (λ (p : PipeNow). p.bytes) c.drop_front-in-Some.ensures.bytes ∙ ap (λ (p : PipeNow). drop c.in-Some.used p.bytes) c.drop_front.ensures.bytes)

pub returns-in-None-clause-ends : goal.returns-in-None-clause-ends
returns-in-None-clause-ends c = λ g m taken put on to.
    let a = c.args.answered.now in
    let bytes = c.args.down.now.bytes in
    let left : c.whole.result.now ≡ drop a.head.length bytes = c.whole.ensures.value ∙ ap (λ (p : PipeNow). p.bytes) c.drop_front.ensures.bytes in
    let ends = c.in-None.ensures.ends a.kind [] c.new-meter.ensures.used (λ bad. absurd (c.new-meter.ensures.good bad)) in
    drops_lost m taken put bytes _ a g c.new-meter.result on to c.new-meter.ensures.used (subst (λ (xs : List ℕ). EndsBodyIn a.kind [] xs None) left ends)
