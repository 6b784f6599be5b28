use Rattle.std.proofs.Common.{◌∙◌, List, map, sym, ap, inr, Some}
use Rattle.hx_link.specs.Nets.{NetState}
use Rattle.hx_pool.specs.SeatView.{History}
use Rattle.hx_session.specs.declared.exchange.AnswerWay.{AnswerWay}
use Rattle.hx_session.specs.Desks.{desk_now, DeskNow}
use Rattle.hx_session.specs.Exchanged.{exchange_now}
use Rattle.hx_session.specs.Over.{early_of}
use Rattle.hx_session.specs.Parting.{came_outcome}
use Rattle.hx_connecting.specs.Sessions.{Exchanging as OnConn}
use Rattle.hx_session.proofs.RestLemmas.{rest_routed}
use Rattle.hx_session.proofs.RestWays.{rests_came}
use Rattle.hx_session.proofs.StandingLemmas.{place_in, place_then}
use Rattle.hx_session.proofs.DecidedLemmas.{cut_decides, passed_decides}
use Rattle.hx_session.specs.Causes.{early}
use Rattle.hx_record.specs.declared.served.CutCause.TheVariants as cut
use Rattle.hx_record.specs.declared.served.Served.{Served}
use Rattle.hx_session.specs.Over.{carried_of}
use Rattle.hx_session.specs.Stages.{Exchanging}
use Rattle.hx_session.proofs.answers.finish.Goals as goal

pub pass-held-requires-clause-over : goal.pass-held-requires-clause-over
pass-held-requires-clause-over g c =
    let w = c.requires.whole in (
      w.body,
      record {
        body = w.is;
        ends = w.ends;
        given = w.given;
        timely = sym (c.if-is_early.ensures ∙ ap (λ (x : AnswerWay). early_of x) w.is);
      },
    )

pub returns : goal.returns
returns g c =
    let f = g.S.HasHistory.history in
    let d0 : DeskNow = desk_now g.L.Link.state c.args.desk.now in
    let d1 : DeskNow = desk_now g.L.Link.state c.pass-held.new.desk in
    let d2 : DeskNow = desk_now g.L.Link.state c.after_pass.new.desk in
    let olds : List History = map f c.args.seats.now in
    let news : List History = map f c.pass-held.new.seats in
    let net0 : NetState = g.N.Net.state c.args.net.now in
    let net1 : NetState = g.N.Net.state c.pass-held.new.net in
    let passed = c.pass-held.ensures in
    let w = passed.touches (came_outcome c.after_pass.result) in
    record {
      goes = record {
        placed = c.after_pass.ensures.placed news passed.placed;
        keeps = place_then d0 d1 d2 olds news news net0 net1 net1 passed.keeps (place_in d1 d2 news net1 c.after_pass.ensures.keeps);
        touches = inr (record {
          touch = w.touch;
          may = (c.after_pass.ensures.touches d0 w.touch w.may).0;
          counts = (c.after_pass.ensures.touches d0 w.touch w.may).1;
          at = w.at;
          way = rests_came c.after_pass.result d0.worker d0.session (Some (OnConn c.args.exchange.busy)) news w.at.added net0 net1 w.touch c.pass-held.result.1 c.pass-held.result.0 c.after_pass.ensures.rests w.way;
        });
        picks = c.after_pass.ensures.picks (exchange_now c.args.exchange) olds news;
        routed = λ back r. c.after_pass.ensures.routed back (rest_routed back c.args.exchange.busy.server c.pass-held.result.1 r.to_conn passed.server);
        told = c.after_pass.ensures.told d0 (exchange_now c.args.exchange) c.is_closing-closing.ensures passed.gives passed.told;
      };
      rooms = passed.rooms;
      moved = c.after_pass.ensures.moved;
      decides = λ limits moment. passed_decides limits moment d0 d2 (Exchanging (exchange_now c.args.exchange)) net0 net1 c.after_pass.result c.pass-held.result.0 (carried_of (exchange_now c.args.exchange) passed.gives.took_to)
          (ap (λ (r : Served). r.kind) passed.gives.gives.served) c.after_pass.ensures.passed;
    }

pub returns-then-is_early-clause-decides : goal.returns-then-is_early-clause-decides
returns-then-is_early-clause-decides g c = λ limits moment.
    let d : DeskNow = desk_now g.L.Link.state c.args.desk.now in
    let d2 : DeskNow = desk_now g.L.Link.state c.cut.new.desk in
    cut_decides limits moment d d d2 (exchange_now c.args.exchange) (g.N.Net.state c.args.net.now) (g.N.Net.state c.cut.new.net) cut.Early c.cut.result (λ front. early) c.cut.ensures.cuts
