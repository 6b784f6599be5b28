use Rattle.hx_session.specs.Causes.{ServerEnded}
use Rattle.std.proofs.Common.{List, map, inl}
use Rattle.hx_link.specs.Nets.{NetState}
use Rattle.hx_pool.specs.SeatView.{History}
use Rattle.hx_session.specs.Desks.{desk_now, DeskNow}
use Rattle.hx_session.specs.Exchanged.{exchange_now, ExchangeNow}
use Rattle.hx_session.specs.Stages.{Exchanging}
use Rattle.hx_connecting.specs.Journals.{room_of}
use Rattle.hx_connecting.proofs.RoomLemmas.{rooms_none}
use Rattle.hx_session.proofs.PartLemmas.{went_on, still_on}
use Rattle.hx_session.proofs.TellLemmas.{still_same}
use Rattle.hx_session.proofs.PausedLemmas.{left_where, stays_left}
use Rattle.hx_session.proofs.DecidedLemmas.{as_loss, as_server, broken_decides, client_cut, cut_decides, ended_cut, loss_decides, passes_decide}
use Rattle.hx_session.proofs.EventLemmas.{ask_short, bad_answer, cut_short}
use Rattle.hx_record.specs.declared.served.CutCause.TheVariants as cut
use Rattle.hx_session.proofs.answers.go_on.Goals as goal

pub returns-in-PassAsk : goal.returns-in-PassAsk
returns-in-PassAsk g c =
    let d : DeskNow = desk_now g.L.Link.state c.args.desk.now in
    let d2 : DeskNow = desk_now g.L.Link.state c.pass_ask.new.desk in
    let e : ExchangeNow = exchange_now c.args.exchange in
    let e2 : ExchangeNow = exchange_now c.pass_ask.new.exchange in
    let seats : List History = map g.S.HasHistory.history c.args.seats.now in
    let net : NetState = g.N.Net.state c.args.net.now in
    let p = c.pass_ask.ensures in
    record {
      goes = went_on d d2 e e2 seats net c.goes_on.result c.requires.placed p.keeps p.conn p.carried p.good (c.goes_on.ensures.placed d2 seats) c.goes_on.ensures.routed (c.goes_on.ensures.told d d2 (Exchanging e) p.told) c.goes_on.ensures.conn c.goes_on.ensures.none p.stays p.told (c.goes_on.ensures.picks seats);
      still = left_where d (Exchanging e) d2 c.goes_on.result c.goes_on.ensures.still;
      decides = λ limits moment. passes_decide limits moment d d2 (Exchanging e) net c.goes_on.result c.goes_on.ensures.passes (left_where d (Exchanging e) d2 c.goes_on.result c.goes_on.ensures.still);
      rooms = rooms_none g.S.HasHistory.history (room_of g.S.HasHistory.kept_from g.S.HasHistory.spare) c.args.seats.now;
    }

pub returns-in-PassAnswer : goal.returns-in-PassAnswer
returns-in-PassAnswer g c =
    let d : DeskNow = desk_now g.L.Link.state c.args.desk.now in
    let d2 : DeskNow = desk_now g.L.Link.state c.pass_answer.new.desk in
    let e : ExchangeNow = exchange_now c.args.exchange in
    let e2 : ExchangeNow = exchange_now c.pass_answer.new.exchange in
    let seats : List History = map g.S.HasHistory.history c.args.seats.now in
    let net : NetState = g.N.Net.state c.args.net.now in
    let p = c.pass_answer.ensures in
    record {
      goes = went_on d d2 e e2 seats net c.goes_on-in-PassAnswer.result c.requires.placed p.keeps p.conn p.carried p.good (c.goes_on-in-PassAnswer.ensures.placed d2 seats) c.goes_on-in-PassAnswer.ensures.routed (c.goes_on-in-PassAnswer.ensures.told d d2 (Exchanging e) p.told) c.goes_on-in-PassAnswer.ensures.conn c.goes_on-in-PassAnswer.ensures.none p.stays p.told (c.goes_on-in-PassAnswer.ensures.picks seats);
      still = left_where d (Exchanging e) d2 c.goes_on-in-PassAnswer.result c.goes_on-in-PassAnswer.ensures.still;
      decides = λ limits moment. passes_decide limits moment d d2 (Exchanging e) net c.goes_on-in-PassAnswer.result c.goes_on-in-PassAnswer.ensures.passes (left_where d (Exchanging e) d2 c.goes_on-in-PassAnswer.result c.goes_on-in-PassAnswer.ensures.still);
      rooms = rooms_none g.S.HasHistory.history (room_of g.S.HasHistory.kept_from g.S.HasHistory.spare) c.args.seats.now;
    }

pub returns-in-Nothing-clause-rooms : goal.returns-in-Nothing-clause-rooms
returns-in-Nothing-clause-rooms g c = rooms_none g.S.HasHistory.history (room_of g.S.HasHistory.kept_from g.S.HasHistory.spare) c.args.seats.now

pub returns-in-Nothing-clause-goes : goal.returns-in-Nothing-clause-goes
returns-in-Nothing-clause-goes g c =
    let d : DeskNow = desk_now g.L.Link.state c.args.desk.now in
    let e : ExchangeNow = exchange_now c.args.exchange in
    let seats : List History = map g.S.HasHistory.history c.args.seats.now in
    let net : NetState = g.N.Net.state c.args.net.now in
    let k = c.goes_on-in-Nothing.ensures in
    still_on d e seats net c.goes_on-in-Nothing.result c.requires.placed k.conn k.none (k.placed d seats) k.routed (k.told d d (Exchanging e) (still_same d (Exchanging e))) (k.picks seats)

pub look_for_head-requires-clause-heads : goal.look_for_head-requires-clause-heads
look_for_head-requires-clause-heads g c = c.in-LookForHead.ensures.0

pub returns-in-LookForHead-clause-still : goal.returns-in-LookForHead-clause-still
returns-in-LookForHead-clause-still g c = c.look_for_head.ensures.still c.in-LookForHead.ensures.1

pub returns-in-Nothing-clause-still : goal.returns-in-Nothing-clause-still
returns-in-Nothing-clause-still g c =
    let d : DeskNow = desk_now g.L.Link.state c.args.desk.now in
    let e : ExchangeNow = exchange_now c.args.exchange in
    stays_left d e c.goes_on-in-Nothing.result (c.in-Nothing.ensures.0, inl c.in-Nothing.ensures.1) c.goes_on-in-Nothing.ensures.still

pub returns-in-BadAsk-clause-still : goal.returns-in-BadAsk-clause-still
returns-in-BadAsk-clause-still g c =
    let d : DeskNow = desk_now g.L.Link.state c.args.desk.now in
    left_where d (Exchanging (exchange_now c.args.exchange)) (desk_now g.L.Link.state c.refuse_ask.new.desk) c.refuse_ask.result c.refuse_ask.ensures.moved

pub returns-in-BadAnswer-clause-still : goal.returns-in-BadAnswer-clause-still
returns-in-BadAnswer-clause-still g c =
    let d : DeskNow = desk_now g.L.Link.state c.args.desk.now in
    left_where d (Exchanging (exchange_now c.args.exchange)) (desk_now g.L.Link.state c.end_by_server.new.desk) c.end_by_server.result c.end_by_server.ensures.moved

pub returns-in-ClientEnded-clause-still : goal.returns-in-ClientEnded-clause-still
returns-in-ClientEnded-clause-still g c =
    let d : DeskNow = desk_now g.L.Link.state c.args.desk.now in
    left_where d (Exchanging (exchange_now c.args.exchange)) (desk_now g.L.Link.state c.cut.new.desk) c.cut.result c.cut.ensures.moved

pub returns-in-Finish-clause-still : goal.returns-in-Finish-clause-still
returns-in-Finish-clause-still g c =
    let d : DeskNow = desk_now g.L.Link.state c.args.desk.now in
    left_where d (Exchanging (exchange_now c.args.exchange)) (desk_now g.L.Link.state c.finish.new.desk) c.finish.result c.finish.ensures.moved

pub returns-in-ServerEnded-clause-still : goal.returns-in-ServerEnded-clause-still
returns-in-ServerEnded-clause-still g c =
    let d : DeskNow = desk_now g.L.Link.state c.args.desk.now in
    left_where d (Exchanging (exchange_now c.args.exchange)) (desk_now g.L.Link.state c.lose_server.new.desk) c.lose_server.result c.lose_server.ensures.moved

pub refuse_ask-requires-clause-bad : goal.refuse_ask-requires-clause-bad
refuse_ask-requires-clause-bad g c = c.in-BadAsk.ensures

pub returns-in-Nothing-clause-decides : goal.returns-in-Nothing-clause-decides
returns-in-Nothing-clause-decides g c = λ limits moment.
    let d : DeskNow = desk_now g.L.Link.state c.args.desk.now in
    let e : ExchangeNow = exchange_now c.args.exchange in
    let net : NetState = g.N.Net.state c.args.net.now in
    passes_decide limits moment d d (Exchanging e) net c.goes_on-in-Nothing.result c.goes_on-in-Nothing.ensures.passes
    (stays_left d e c.goes_on-in-Nothing.result (c.in-Nothing.ensures.0, inl c.in-Nothing.ensures.1) c.goes_on-in-Nothing.ensures.still)

pub returns-in-BadAnswer-clause-decides : goal.returns-in-BadAnswer-clause-decides
returns-in-BadAnswer-clause-decides g c = λ limits moment.
    let d : DeskNow = desk_now g.L.Link.state c.args.desk.now in
    let d2 : DeskNow = desk_now g.L.Link.state c.end_by_server.new.desk in
    let e : ExchangeNow = exchange_now c.args.exchange in
    let carried = c.requires.placed.set.stands in
    broken_decides limits moment d d2 e (g.N.Net.state c.args.net.now) (g.N.Net.state c.end_by_server.new.net) c.end_by_server.result carried (bad_answer d e carried c.in-BadAnswer.ensures)
    (as_server d e.busy _ _ cut.Broken _ 502 d2 c.end_by_server.result _ c.bad_gateway-why.ensures.same c.bad_gateway-why.ensures.status c.end_by_server.ensures.by_server)

pub returns-in-ClientEnded-clause-decides : goal.returns-in-ClientEnded-clause-decides
returns-in-ClientEnded-clause-decides g c = λ limits moment.
    let d : DeskNow = desk_now g.L.Link.state c.args.desk.now in
    let d2 : DeskNow = desk_now g.L.Link.state c.cut.new.desk in
    let e : ExchangeNow = exchange_now c.args.exchange in
    let carried = c.requires.placed.set.stands in
    let short = c.in-ClientEnded.ensures in
    cut_decides limits moment d d d2 e (g.N.Net.state c.args.net.now) (g.N.Net.state c.cut.new.net) cut.Client c.cut.result
    (client_cut limits moment d e (carried.desk.ended short.ended) (ask_short d e carried short)) c.cut.ensures.cuts

pub returns-in-ServerEnded-clause-decides : goal.returns-in-ServerEnded-clause-decides
returns-in-ServerEnded-clause-decides g c = λ limits moment.
    let d : DeskNow = desk_now g.L.Link.state c.args.desk.now in
    let d2 : DeskNow = desk_now g.L.Link.state c.lose_server.new.desk in
    let e : ExchangeNow = exchange_now c.args.exchange in
    let carried = c.requires.placed.set.stands in
    let short = c.in-ServerEnded.ensures in
    let server_ended : ServerEnded e.busy = (carried.ended short.ended, cut_short d e carried short) in
    loss_decides limits moment d d2 e (g.N.Net.state c.args.net.now) (g.N.Net.state c.lose_server.new.net) cut.Ended c.lose_server.result carried (λ busy. inl server_ended)
    (λ busy. ended_cut limits moment d e carried server_ended)
    (as_loss d e.busy _ _ cut.Ended _ 502 d2 c.lose_server.result _ c.bad_gateway-why-in-ServerEnded.ensures.same c.bad_gateway-why-in-ServerEnded.ensures.status c.lose_server.ensures.loses)
