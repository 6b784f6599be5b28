use Rattle.hx_session.proofs.OwnLemmas.{request_text}
use Rattle.hx_session.specs.Desks.{desk_now, DeskNow}
use Rattle.hx_session.specs.Exchanged.{exchange_now, ExchangeNow}
use Rattle.hx_session.proofs.DecidedLemmas.{bad_decides}
use Rattle.hx_session.proofs.EventLemmas.{bad_ask}
use Rattle.hx_session.proofs.answers.refuse_ask.Goals as goal

pub end_by_server-requires-clause-known : goal.end_by_server-requires-clause-known
end_by_server-requires-clause-known g c = request_text

pub returns-clause-decides : goal.returns-clause-decides
returns-clause-decides g c = λ limits moment.
    let d : DeskNow = desk_now g.L.Link.state c.args.desk.now in
    let d2 : DeskNow = desk_now g.L.Link.state c.end_by_server.new.desk in
    let e : ExchangeNow = exchange_now c.args.exchange in
    let carried = c.requires.placed.set.stands in
    bad_decides limits moment d d2 e (g.N.Net.state c.args.net.now) (g.N.Net.state c.end_by_server.new.net) c.end_by_server.result carried (bad_ask d e carried c.requires.bad) c.end_by_server.ensures.by_server
