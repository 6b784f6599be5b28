use Rattle.std.proofs.Common.{List, map, refl, sym, ap, subst, inr, arith, Some, None}
use Rattle.hx_pool.specs.SeatView.{History}
use Rattle.hx_connecting.specs.Sessions.{Exchanging as OnConn}
use Rattle.hx_connecting.specs.Ways.{WayFor}
use Rattle.hx_connecting.specs.Outcomes.{Deciding}
use Rattle.hx_connecting.proofs.TouchedCalls.{broken_cause}
use Rattle.hx_connecting.proofs.WayCalls.{busy_some}
use Rattle.hx_session.specs.Seen.{conn_seen}
use Rattle.hx_session.specs.Parting.{first_of, outcome_of}
use Rattle.hx_session.specs.Desks.{desk_now, DeskNow}
use Rattle.hx_session.specs.Stages.{StageNow}
use Rattle.hx_session.specs.Standing.{IsPlaced, IsRoutedTo}
use Rattle.hx_session.proofs.StandingLemmas.{answers_keep, answers_set, gave_none}
use Rattle.hx_session.proofs.TellLemmas.{answers_none}
use Rattle.hx_session.specs.Seen.{chosen_seen}
use Rattle.hx_session.proofs.PickLemmas.{to_unchosen}
use Rattle.hx_session.proofs.DecidedLemmas.{closes_buries}
use Rattle.hx_session.specs.Seen.{own_seen}
use Rattle.hx_session.proofs.ending.give_up.Goals as goal

pub returns : goal.returns
returns g c =
    let f = g.S.HasHistory.history in
    let d : DeskNow = desk_now g.L.Link.state c.args.desk.now in
    let d2 : DeskNow = desk_now g.L.Link.state c.answer-stage.new.desk in
    let news : List History = map f c.close_busy.new.seats in
    let b = c.args.exchange.busy in
    let set = c.requires.set in
    let st = set.stands in
    let a = c.answer-stage.ensures.answers in
    let net = g.N.Net.state c.args.net.now in
    let net2 = g.N.Net.state c.close_busy.new.net in
    let w = busy_some d.worker d.session (first_of d) b Deciding (map f c.args.seats.now) news net net2 None set.around c.close_busy.ensures.meaning (broken_cause d.session b Deciding net net2 None refl) c.close_busy.ensures.closes in
    let gave = gave_none d.client.sent d.client.sent_count d.gave_from st.answer.gave (omega (arith, c.requires.nothing, st.desk.given)) st.answer.gives in
    record {
      goes = record {
        placed = subst (λ (s : StageNow). IsPlaced d2 s news) (sym c.answer-stage.ensures.stage)
            (answers_set d d2 c.args.own.status None news a st.desk gave set.numbered (c.close_busy.ensures.around d.worker set.around) tt);
        keeps = record { desk = answers_keep d d2 c.args.own.status a; about = c.close_busy.ensures.abouts; loop_no = c.close_busy.ensures.loop_ };
        touches = inr (record {
          touch = w.touch;
          may = tt;
          counts = tt;
          at = w.at;
          way = subst (λ (s : StageNow). WayFor d.worker d.session (Some (OnConn b)) (conn_seen s) (outcome_of s) news w.at.added net net2 w.touch None) (sym c.answer-stage.ensures.stage) w.way;
        });
        picks = to_unchosen b (map f c.args.seats.now) news _ (ap chosen_seen c.answer-stage.ensures.stage);
        routed = λ back r. subst (λ (s : StageNow). IsRoutedTo back s) (sym c.answer-stage.ensures.stage) (record { to_conn = tt; to_chosen = tt });
        told = answers_none d d2 c.args.own.status a;
      };
      rooms = c.close_busy.ensures.rooms;
      moved = tt;
      gives = ((c.args.own.status, ap own_seen c.answer-stage.ensures.stage, refl), refl, c.close_busy.ensures.meaning, closes_buries b d.session (map f c.args.seats.now) news net net2 c.close_busy.ensures.meaning c.close_busy.ensures.closes);
    }
