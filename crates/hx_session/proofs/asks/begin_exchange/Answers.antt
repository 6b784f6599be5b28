use Rattle.std.proofs.Common.{refl}
use Rattle.hx_link.specs.Pipes.{PipeNow}
use Rattle.hx_session.specs.Desks.{desk_now, DeskNow}
use Rattle.hx_session.specs.Exchanged.{exchange_now, ExchangeNow}
use Rattle.hx_session.specs.Carried.{IsCarried}
use Rattle.hx_session.proofs.FinishLemmas.{begins_carried, begun_placed, begun_routed}
use Rattle.hx_session.proofs.asks.begin_exchange.Goals as goal

pub returns-clause-placed : goal.returns-clause-placed
returns-clause-placed g c = λ seats n at.
    let d : DeskNow = desk_now g.L.Link.state c.args.desk.now in
    let from : PipeNow = c.spell_ask.new.from in
    let up : PipeNow = c.spell_ask.new.to in
    let e : ExchangeNow = exchange_now c.begin.result in
    let spelled = c.in-Some.ensures.spelled in
    let a = c.args.asked.now in
    let carried : IsCarried (record d { from = from; up = up }) e =
    begins_carried d a c.args.busy c.in-Some.meter e from up c.requires.between c.requires.asked c.requires.begins c.nth-nth.ensures.meaning.counted c.begin.ensures spelled.0 spelled.1 c.in-Some.ensures.good in
    begun_placed d (record d { from = from; up = up }) c.args.busy e a c.in-Some.meter seats from up refl carried c.requires.begins c.begin.ensures n at

pub returns-clause-routed : goal.returns-clause-routed
returns-clause-routed g c = λ back contains. begun_routed back c.args.busy (exchange_now c.begin.result) c.begin.ensures.busy_is contains
