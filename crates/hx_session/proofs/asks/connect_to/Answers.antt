use Rattle.std.proofs.Common.{List, map, inr, ap, subst, sym, Option, Bool, None}
use Rattle.std.specs.Prelude.{Contains, IfSome}
use Rattle.hx_base.specs.declared.numbers.ServerNo.{ServerNo}
use Rattle.hx_link.specs.Pipes.{PipeNow}
use Rattle.hx_pool.specs.SeatView.{History}
use Rattle.hx_connecting.specs.Choosing.{servers_of}
use Rattle.hx_connecting.specs.Closing.{ConnectsTo}
use Rattle.hx_connecting.specs.Around.{resting}
use Rattle.hx_connecting.specs.Sessions.{Holding}
use Rattle.hx_connecting.specs.Ways.{SomeWay}
use Rattle.hx_connecting.proofs.WayCalls.{connects_way}
use Rattle.hx_session.proofs.RestWays.{held_to}
use Rattle.hx_session.specs.Parting.{first_of, outcome_of}
use Rattle.hx_session.proofs.PartingLemmas.{first_is}
use Rattle.hx_session.specs.Desks.{desk_now, DeskNow}
use Rattle.hx_session.specs.Stages.{choosing_now, stage_now}
use Rattle.hx_session.specs.Standing.{IsNumbered, KeepsDesk}
use Rattle.hx_session.specs.Telling.{TellsNone}
use Rattle.hx_session.proofs.LackLemmas.{refuses_at}
use Rattle.hx_session.proofs.PickLemmas.{to_connected}
use Rattle.hx_session.proofs.asks.connect_to.Goals as goal

pub returns : goal.returns
returns g c =
    let d : DeskNow = desk_now g.L.Link.state c.args.desk.now in
    let from : PipeNow = c.look_again-asked.new.from in
    let e = ap (λ (q : PipeNow). record d { from = q }) c.look_again-asked.ensures.same in
    let news : List History = map g.S.HasHistory.history c.connect-connected.new.seats in
    let olds : List History = map g.S.HasHistory.history c.args.seats.now in
    let set = c.requires.placed.set in
    let k = c.connect-connected.ensures in
    let a = c.after_connect.ensures in
    let first : Bool = c.is_first.result in
    let net = g.N.Net.state c.args.net.now in
    let net2 = g.N.Net.state c.connect-connected.new.net in
    let connects = subst (λ (b : Bool). ConnectsTo olds news d.session b c.args.to.0 c.args.to.2.0 c.look_again-asked.result.head.method (g.N.Net.state c.args.net.now) (g.N.Net.state c.connect-connected.new.net) c.args.choosing.held c.connect-connected.result) (first_is d first set.numbered.counted.one c.is_first.ensures) k.connects in
    record {
      comes = record {
        placed = a.placed news (subst IsNumbered (sym e) set.numbered) (k.around d.worker set.around c.requires.loop_) k.own;
        keeps = record { desk = subst (λ (x : DeskNow). KeepsDesk x (desk_now g.L.Link.state c.after_connect.new.desk)) e a.who; about = k.abouts; loop_no = k.loop_ };
        touches = inr (subst (λ (o : Option Holding). SomeWay d.worker d.session (first_of d) (resting c.args.choosing.held) o (outcome_of (stage_now c.after_connect.result)) olds news net net2 None) (sym a.conn)
            (connects_way d.worker d.session (first_of d) (outcome_of (stage_now c.after_connect.result)) c.args.to.0 olds news c.args.to.2.0 c.look_again-asked.result.head.method net net2 c.args.choosing.held c.connect-connected.result set.around
            (held_to c.args.choosing.held c.args.choosing.server c.args.to.0 c.requires.placed.good c.requires.chosen) connects));
        picks = to_connected d.worker d.session (first_of d) olds news _ _ _ _ c.connect-connected.result (choosing_now c.args.choosing) c.args.to.0 _ c.requires.chosen c.requires.placed.good set.around connects a.picks;
        routed = λ back r. a.routed back news (subst (λ (o : Option ServerNo). IfSome o (λ v. Contains (servers_of back) v)) c.requires.chosen r.to_chosen) k.own;
        told = subst (λ (x : DeskNow). TellsNone x (desk_now g.L.Link.state c.after_connect.new.desk)) e a.told;
      };
      rooms = k.rooms;
      own = a.own;
      lacks = λ status is. refuses_at olds news d.session (first_of d) c.args.to.0 c.args.to.2.0 c.look_again-asked.result.head.method net net2 c.args.choosing.held c.connect-connected.result (a.lacks status is) connects;
    }

pub look_again-asked-requires : goal.look_again-asked-requires
look_again-asked-requires g c = (c.requires.placed.set.stands.1.ask, c.requires.placed.set.stands.1.is)
