use Rattle.std.proofs.Common.{◌≡◌, List, map, sym, subst}
use Rattle.hx_link.specs.Nets.{NetState}
use Rattle.hx_pool.specs.SeatView.{History}
use Rattle.hx_connecting.proofs.AddingLemmas.{holds_stand}
use Rattle.hx_session.specs.Seen.{conn_seen}
use Rattle.hx_session.specs.Stages.{Exchanging}
use Rattle.hx_session.specs.Desks.{desk_now, DeskNow}
use Rattle.hx_session.specs.Exchanged.{exchange_now, ExchangeNow}
use Rattle.hx_session.proofs.PartLemmas.{goes_from_exchange}
use Rattle.hx_session.proofs.StandingLemmas.{set_on}
use Rattle.hx_session.proofs.PausedLemmas.{sends_paused, where_then}
use Rattle.hx_session.specs.Stages.{StageNow}
use Rattle.hx_session.specs.Waiting.{IsPaused, IsNone}
use Rattle.hx_session.proofs.DecidedLemmas.{sends_far, sends_fail}
use Rattle.hx_session.proofs.phases.send_some.Goals as goal

pub after_server_move-requires-clause-set : goal.after_server_move-requires-clause-set
after_server_move-requires-clause-set g c =
    let d : DeskNow = desk_now g.L.Link.state c.args.desk.now in
    let d2 : DeskNow = desk_now g.L.Link.state c.send-sent.new.desk in
    let e : ExchangeNow = exchange_now c.args.exchange in
    let e2 : ExchangeNow = exchange_now c.send-sent.new.exchange in
    let r = c.send-sent.ensures in
    set_on d d2 e e2 (map g.S.HasHistory.history c.args.seats.now) c.requires.placed.set r.keeps r.conn r.carried

pub returns : goal.returns
returns g c =
    let f = g.S.HasHistory.history in
    let d : DeskNow = desk_now g.L.Link.state c.args.desk.now in
    let d2 : DeskNow = desk_now g.L.Link.state c.send-sent.new.desk in
    let d3 : DeskNow = desk_now g.L.Link.state c.after_server_move.new.desk in
    let e : ExchangeNow = exchange_now c.args.exchange in
    let e2 : ExchangeNow = exchange_now c.send-sent.new.exchange in
    let olds : List History = map f c.args.seats.now in
    let news : List History = map f c.after_server_move.new.seats in
    let net : NetState = g.N.Net.state c.args.net.now in
    let net2 : NetState = g.N.Net.state c.after_server_move.new.net in
    let r = c.send-sent.ensures in
    record {
      goes = goes_from_exchange d d2 d3 e e2 olds news net net2 c.after_server_move.result (holds_stand d.worker d.session (conn_seen (Exchanging e)) 0 olds c.requires.placed.set.around.holds) r.keeps r.conn r.stays (c.after_server_move.ensures.keeps d e r.told) c.after_server_move.ensures.goes (c.after_server_move.ensures.told d e r.told);
      rooms = c.after_server_move.ensures.rooms;
      decides = λ limits moment. c.after_server_move.ensures.decides limits moment d e (λ quiet. sends_far d d2 e e2 net c.args.at.now.0 c.send-sent.result quiet r.none);
      still = λ d0 s0 k. where_then c.after_server_move.result (λ s w. (d3 ≡ d2) × (s ≡ Exchanging e2) × IsNone c.send-sent.result) (λ s w. IsPaused d0 s0 d3 s c.args.at.now.0)
          (λ s w q. subst (λ (x : DeskNow). IsPaused d0 s0 x s c.args.at.now.0) (sym q.0) (subst (λ (x : StageNow). IsPaused d0 s0 d2 x c.args.at.now.0) (sym q.1) (sends_paused d0 d d2 s0 e e2 c.args.at.now.0 c.send-sent.result q.2 r.none k)))
          c.after_server_move.ensures.still;
    }

pub after_server_move-requires-clause-failed : goal.after_server_move-requires-clause-failed
after_server_move-requires-clause-failed g c = λ is.
    let d : DeskNow = desk_now g.L.Link.state c.args.desk.now in
    let d2 : DeskNow = desk_now g.L.Link.state c.send-sent.new.desk in
    sends_fail d d2 (exchange_now c.args.exchange) (exchange_now c.send-sent.new.exchange) c.args.at.now.0 c.send-sent.result is c.send-sent.ensures.none
