use Rattle.std.proofs.Common.{◌∙◌, Some, None, arith}
use Rattle.hx_session.proofs.LookEnds.{answer_at, answer_all, ends_by}
use Rattle.hx_session.proofs.cuts.answer_end.Goals as goal

pub returns-in-Some-clause-ends : goal.returns-in-Some-clause-ends
returns-in-Some-clause-ends g c = λ k bad.
    let x = c.args.exchange.now in
    let m = x.busy.exchange.method in
    let waiting = c.args.desk.now.down.bytes in
    let ends = ends_by x.answer m c.method.result waiting (Some c.in-Some.n) c.method.ensures c.in-Some.ensures.ends x.ask.wants_close x.ask.written k.taken k.put k.way bad in
    answer_at m x.busy.exchange.taken_from c.sum_of.result c.in-Some.n k.taken waiting ends (omega (arith, c.sum_of.ensures, c.taken-taken.ensures.from, k.answered))

pub returns-in-None-clause-ends : goal.returns-in-None-clause-ends
returns-in-None-clause-ends g c = λ k bad.
    let x = c.args.exchange.now in
    let m = x.busy.exchange.method in
    let waiting = c.args.desk.now.down.bytes in
    let ends = ends_by x.answer m c.method.result waiting None c.method.ensures c.in-None.ensures.ends x.ask.wants_close x.ask.written k.taken k.put k.way bad in
    answer_all m x.busy.exchange.taken_from c.taken-taken.result.to k.taken waiting ends (c.taken-taken.ensures.to ∙ k.front.count)
