use Rattle.std.proofs.Common.{ℕ, subst}
use Rattle.hx_link.specs.Nets.{NetState}
use Rattle.hx_session.specs.Desks.{desk_now, DeskNow}
use Rattle.hx_session.specs.Exchanged.{exchange_now, ExchangeNow}
use Rattle.hx_session.proofs.DecidedLemmas.{client_decides, cut_decides}
use Rattle.hx_session.specs.Causes.{client}
use Rattle.hx_session.specs.Decided.{EndsByServer}
use Rattle.std.proofs.Common.{inl, inr}
use Rattle.hx_record.specs.declared.served.CutCause.TheVariants as cut
use Rattle.hx_session.proofs.phases.cut_late.Goals as goal

pub returns-then-len-gt0-clause-decides : goal.returns-then-len-gt0-clause-decides
returns-then-len-gt0-clause-decides g c = λ limits moment late is.
    let d : DeskNow = desk_now g.L.Link.state c.args.desk.now in
    let d2 : DeskNow = desk_now g.L.Link.state c.cut.new.desk in
    cut_decides limits moment d d d2 (exchange_now c.args.exchange) (g.N.Net.state c.args.net.now) (g.N.Net.state c.cut.new.net) cut.Client c.cut.result (λ front. client (inr (inr (inl late)))) c.cut.ensures.cuts

pub returns-clause-decides : goal.returns-clause-decides
returns-clause-decides g c = λ limits moment late is.
    let d : DeskNow = desk_now g.L.Link.state c.args.desk.now in
    let d2 : DeskNow = desk_now g.L.Link.state c.end_by_server.new.desk in
    let e : ExchangeNow = exchange_now c.args.exchange in
    let net : NetState = g.N.Net.state c.args.net.now in
    let net2 : NetState = g.N.Net.state c.end_by_server.new.net in
    client_decides limits moment d d2 e net net2 c.end_by_server.result late (subst (λ (n : ℕ). EndsByServer d e.busy net cut.Client n d2 c.end_by_server.result net2) is c.end_by_server.ensures.by_server)
