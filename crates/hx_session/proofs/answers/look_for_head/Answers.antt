use Rattle.hx_message.specs.declared.MethodKind.{MethodKind}
use Rattle.hx_session_parts.specs.Answers.{BreaksAnswer}
use Rattle.hx_session.specs.Causes.{ServerEnded}
use Rattle.std.proofs.Common.{List, map, sym, subst, ap}
use Rattle.hx_link.specs.Nets.{NetState}
use Rattle.hx_link.specs.Pipes.{PipeNow}
use Rattle.hx_pool.specs.SeatView.{History}
use Rattle.hx_session.specs.Desks.{desk_now, DeskNow}
use Rattle.hx_session.specs.Exchanged.{exchange_now, ExchangeNow}
use Rattle.hx_session.specs.Stages.{Exchanging}
use Rattle.hx_session.specs.Standing.{Goes, KeepsAsk}
use Rattle.hx_session.specs.Telling.{IsStillTold}
use Rattle.hx_connecting.specs.Journals.{room_of}
use Rattle.hx_connecting.proofs.RoomLemmas.{rooms_none}
use Rattle.hx_session.proofs.PartLemmas.{went_on, still_on}
use Rattle.hx_session.proofs.TellLemmas.{still_same}
use Rattle.hx_session.proofs.PausedLemmas.{heads_leave, left_where, spelled_leaves}
use Rattle.hx_session.specs.Finishing.{SpellsNone}
use Rattle.hx_session.proofs.DecidedLemmas.{as_loss, as_server, spelled_decides, broken_decides, ended_cut, loss_decides, stays_decide}
use Rattle.hx_session.proofs.EventLemmas.{broken_head, no_head}
use Rattle.hx_session.specs.Decided.{EndsByServer, LosesServer}
use Rattle.hx_record.specs.declared.served.CutCause.TheVariants as cut
use Rattle.std.proofs.Common.{inl}
use Rattle.hx_session.proofs.answers.look_for_head.Goals as goal

pub returns-in-Interim : goal.returns-in-Interim
returns-in-Interim g c =
    let d : DeskNow = desk_now g.L.Link.state c.args.desk.now in
    let d2 : DeskNow = desk_now g.L.Link.state c.spell_interim-spelled.new.desk in
    let e : ExchangeNow = exchange_now c.args.exchange in
    let e2 : ExchangeNow = exchange_now c.spell_interim-spelled.new.exchange in
    let seats : List History = map g.S.HasHistory.history c.args.seats.now in
    let net : NetState = g.N.Net.state c.args.net.now in
    let s = c.spell_interim-spelled.ensures in
    let keeps : KeepsAsk d d2 = subst (λ (p : PipeNow). KeepsAsk (record d { down = p }) d2) c.look_down.ensures.same s.keeps in
    let still : IsStillTold d (Exchanging e) d2 (Exchanging e2) = subst (λ (p : PipeNow). IsStillTold (record d { down = p }) (Exchanging e) d2 (Exchanging e2)) c.look_down.ensures.same s.told in
    record {
      goes = went_on d d2 e e2 seats net c.goes_on.result c.requires.placed keeps s.conn s.carried s.good (c.goes_on.ensures.placed d2 seats) c.goes_on.ensures.routed (c.goes_on.ensures.told d d2 (Exchanging e) still) c.goes_on.ensures.conn c.goes_on.ensures.none s.stays still (c.goes_on.ensures.picks seats);
      still = λ idle. spelled_leaves d e d2 e2 c.spell_interim-spelled.result c.goes_on.result (λ no_. subst (λ (p : PipeNow). SpellsNone (record d { down = p }) e d2 e2) c.look_down.ensures.same (s.full no_)) c.goes_on.ensures.still idle;
      decides = λ limits moment. spelled_decides limits moment d e d2 e2 net c.spell_interim-spelled.result c.goes_on.result (λ no_. subst (λ (p : PipeNow). SpellsNone (record d { down = p }) e d2 e2) c.look_down.ensures.same (s.full no_)) c.goes_on.ensures.still c.goes_on.ensures.passes;
      rooms = rooms_none g.S.HasHistory.history (room_of g.S.HasHistory.kept_from g.S.HasHistory.spare) c.args.seats.now;
    }

pub returns-in-Final : goal.returns-in-Final
returns-in-Final g c =
    let d : DeskNow = desk_now g.L.Link.state c.args.desk.now in
    let d2 : DeskNow = desk_now g.L.Link.state c.spell_final-spelled.new.desk in
    let e : ExchangeNow = exchange_now c.args.exchange in
    let e2 : ExchangeNow = exchange_now c.spell_final-spelled.new.exchange in
    let seats : List History = map g.S.HasHistory.history c.args.seats.now in
    let net : NetState = g.N.Net.state c.args.net.now in
    let s = c.spell_final-spelled.ensures in
    let keeps : KeepsAsk d d2 = subst (λ (p : PipeNow). KeepsAsk (record d { down = p }) d2) c.look_down.ensures.same s.keeps in
    let still : IsStillTold d (Exchanging e) d2 (Exchanging e2) = subst (λ (p : PipeNow). IsStillTold (record d { down = p }) (Exchanging e) d2 (Exchanging e2)) c.look_down.ensures.same s.told in
    record {
      goes = went_on d d2 e e2 seats net c.goes_on-in-Final.result c.requires.placed keeps s.conn s.carried s.good (c.goes_on-in-Final.ensures.placed d2 seats) c.goes_on-in-Final.ensures.routed (c.goes_on-in-Final.ensures.told d d2 (Exchanging e) still) c.goes_on-in-Final.ensures.conn c.goes_on-in-Final.ensures.none s.stays still (c.goes_on-in-Final.ensures.picks seats);
      still = λ idle. spelled_leaves d e d2 e2 c.spell_final-spelled.result c.goes_on-in-Final.result (λ no_. subst (λ (p : PipeNow). SpellsNone (record d { down = p }) e d2 e2) c.look_down.ensures.same (s.full no_)) c.goes_on-in-Final.ensures.still idle;
      decides = λ limits moment. spelled_decides limits moment d e d2 e2 net c.spell_final-spelled.result c.goes_on-in-Final.result (λ no_. subst (λ (p : PipeNow). SpellsNone (record d { down = p }) e d2 e2) c.look_down.ensures.same (s.full no_)) c.goes_on-in-Final.ensures.still c.goes_on-in-Final.ensures.passes;
      rooms = rooms_none g.S.HasHistory.history (room_of g.S.HasHistory.kept_from g.S.HasHistory.spare) c.args.seats.now;
    }

pub returns-else-exchange-clause-rooms : goal.returns-else-exchange-clause-rooms
returns-else-exchange-clause-rooms g c = rooms_none g.S.HasHistory.history (room_of g.S.HasHistory.kept_from g.S.HasHistory.spare) c.args.seats.now

pub returns-else-exchange-clause-goes : goal.returns-else-exchange-clause-goes
returns-else-exchange-clause-goes g c =
    let d : DeskNow = desk_now g.L.Link.state c.args.desk.now in
    let e : ExchangeNow = exchange_now c.args.exchange in
    let seats : List History = map g.S.HasHistory.history c.args.seats.now in
    let net : NetState = g.N.Net.state c.args.net.now in
    let k = c.goes_on-else-exchange.ensures in
    let came = c.goes_on-else-exchange.result in
    subst (λ (p : PipeNow). Goes d (Exchanging e) seats net (record d { down = p }) came seats net) (sym c.look_down.ensures.same) (still_on d e seats net came c.requires.placed k.conn k.none (k.placed d seats) k.routed (k.told d d (Exchanging e) (still_same d (Exchanging e))) (k.picks seats))

pub returns-else-exchange-clause-still : goal.returns-else-exchange-clause-still
returns-else-exchange-clause-still g c = λ idle.
    let d : DeskNow = desk_now g.L.Link.state c.args.desk.now in
    let e : ExchangeNow = exchange_now c.args.exchange in
    heads_leave d e (record d { down = c.look_down.new.down }) c.goes_on-else-exchange.result (ap (λ (p : PipeNow). record d { down = p }) c.look_down.ensures.same)
    c.if-exchange.false c.requires.heads c.in-More.ensures.looks c.goes_on-else-exchange.ensures.still idle

pub returns-then-exchange-clause-still : goal.returns-then-exchange-clause-still
returns-then-exchange-clause-still g c = λ idle.
    let d : DeskNow = desk_now g.L.Link.state c.args.desk.now in
    left_where d (Exchanging (exchange_now c.args.exchange)) (desk_now g.L.Link.state c.lose_server.new.desk) c.lose_server.result c.lose_server.ensures.moved

pub returns-in-Broken-clause-still : goal.returns-in-Broken-clause-still
returns-in-Broken-clause-still g c = λ idle.
    let d : DeskNow = desk_now g.L.Link.state c.args.desk.now in
    left_where d (Exchanging (exchange_now c.args.exchange)) (desk_now g.L.Link.state c.end_by_server.new.desk) c.end_by_server.result c.end_by_server.ensures.moved

pub returns-else-exchange-clause-decides : goal.returns-else-exchange-clause-decides
returns-else-exchange-clause-decides g c = λ limits moment.
    let d : DeskNow = desk_now g.L.Link.state c.args.desk.now in
    let e : ExchangeNow = exchange_now c.args.exchange in
    let net : NetState = g.N.Net.state c.args.net.now in
    stays_decide limits moment d (record d { down = c.look_down.new.down }) e net c.goes_on-else-exchange.result (ap (λ (p : PipeNow). record d { down = p }) c.look_down.ensures.same) c.goes_on-else-exchange.ensures.still c.goes_on-else-exchange.ensures.passes

pub returns-then-exchange-clause-decides : goal.returns-then-exchange-clause-decides
returns-then-exchange-clause-decides g c = λ limits moment.
    let d : DeskNow = desk_now g.L.Link.state c.args.desk.now in
    let d2 : DeskNow = desk_now g.L.Link.state c.lose_server.new.desk in
    let e : ExchangeNow = exchange_now c.args.exchange in
    let net : NetState = g.N.Net.state c.args.net.now in
    let net2 : NetState = g.N.Net.state c.lose_server.new.net in
    let carried = c.requires.placed.set.stands in
    let server_ended : ServerEnded e.busy = (carried.ended c.if-exchange.true, no_head d e carried c.requires.heads c.in-More.ensures.looks) in
    let loses = subst (λ (p : PipeNow). LosesServer (record d { down = p }) e.busy net cut.Ended 502 d2 c.lose_server.result net2) c.look_down.ensures.same
    (as_loss (record d { down = c.look_down.new.down }) e.busy net _ cut.Ended _ 502 d2 c.lose_server.result net2 c.bad_gateway-why-then-exchange.ensures.same c.bad_gateway-why-then-exchange.ensures.status c.lose_server.ensures.loses) in
    loss_decides limits moment d d2 e net net2 cut.Ended c.lose_server.result carried (λ busy. inl server_ended) (λ busy. ended_cut limits moment d e carried server_ended) loses

pub returns-in-Broken-clause-decides : goal.returns-in-Broken-clause-decides
returns-in-Broken-clause-decides g c = λ limits moment.
    let d : DeskNow = desk_now g.L.Link.state c.args.desk.now in
    let d2 : DeskNow = desk_now g.L.Link.state c.end_by_server.new.desk in
    let e : ExchangeNow = exchange_now c.args.exchange in
    let net : NetState = g.N.Net.state c.args.net.now in
    let net2 : NetState = g.N.Net.state c.end_by_server.new.net in
    let carried = c.requires.placed.set.stands in
    let ends = subst (λ (p : PipeNow). EndsByServer (record d { down = p }) e.busy net cut.Broken 502 d2 c.end_by_server.result net2) c.look_down.ensures.same
    (as_server (record d { down = c.look_down.new.down }) e.busy net _ cut.Broken _ 502 d2 c.end_by_server.result net2 c.bad_gateway-why.ensures.same c.bad_gateway-why.ensures.status c.end_by_server.ensures.by_server) in
    broken_decides limits moment d d2 e net net2 c.end_by_server.result carried (broken_head d e carried c.requires.heads (subst (λ (m : MethodKind). BreaksAnswer m d.down.bytes) c.method.ensures c.in-Broken.ensures.looks)) ends
