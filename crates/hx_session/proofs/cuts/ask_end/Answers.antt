use Rattle.std.proofs.Common.{refl, arith, length-append, Some, None}
use Rattle.hx_session.specs.Desks.{desk_now, DeskNow}
use Rattle.hx_session.proofs.LookEnds.{ask_at, ask_all, ask_found}
use Rattle.hx_session.proofs.cuts.ask_end.Goals as goal

pub returns-in-Some-clause-ends : goal.returns-in-Some-clause-ends
returns-in-Some-clause-ends g c = λ e k same bad.
    let d : DeskNow = desk_now g.L.Link.state c.args.desk.now in
    ask_at d e _ c.in-Some.used k (ask_found d e c.args.ask.now c.whole.result.now (Some c.in-Some.used) k same bad c.whole.ensures.value c.in-Some.ensures.ends)
    (omega (arith, c.len-at_hand.ensures.len, k.desk.taken, k.ask.front.count, length-append k.ask.taken c.args.desk.now.from.bytes))

pub returns-in-None-clause-ends : goal.returns-in-None-clause-ends
returns-in-None-clause-ends g c = λ e k same bad.
    let d : DeskNow = desk_now g.L.Link.state c.args.desk.now in
    ask_all d e _ k (ask_found d e c.args.ask.now c.whole.result.now None k same bad c.whole.ensures.value c.in-None.ensures.ends) refl
