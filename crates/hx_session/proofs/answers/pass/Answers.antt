use Rattle.std.proofs.Common.{◌≡◌, ℕ, List, map, drop, length, sym, ap, subst, ◌∙◌, Some}
use Rattle.hx_base.specs.declared.numbers.SessionNo.{SessionNo}
use Rattle.hx_conn.specs.Conns.{BusyNow}
use Rattle.hx_link.specs.Pipes.{PipeNow, pipe}
use Rattle.hx_pool.specs.SeatView.{History}
use Rattle.hx_connecting.specs.Around.{HasAround, resting}
use Rattle.hx_connecting.specs.Closing.{HasHeld}
use Rattle.hx_connecting.specs.Sessions.{Exchanging}
use Rattle.hx_connecting.proofs.BusyLemmas.{around_busy}
use Rattle.hx_session.specs.Desks.{desk_now, DeskNow}
use Rattle.hx_session.specs.Exchanged.{exchange_now, ExchangeNow}
use Rattle.hx_session.proofs.RestLemmas.{rest_ready, passed_placed, passed_keeps, rests_to}
use Rattle.hx_connecting.specs.Ways.{RestWay}
use Rattle.hx_connecting.proofs.WayCalls.{rests_way}
use Rattle.hx_session.proofs.ClosingLemmas.{rest_causes}
use Rattle.hx_session.proofs.RestWays.{is_passed, passed_for, rest_behind}
use Rattle.hx_session.specs.Parting.{first_of}
use Rattle.hx_session.proofs.answers.pass.Goals as goal

pub end_answer-busy-requires : goal.end_answer-busy-requires
end_answer-busy-requires g c = record {
  desk = desk_now g.L.Link.state c.args.desk.now;
  body = c.requires.over.0;
  carried = c.requires.placed.set.stands;
  over = c.requires.over.1;
}

pub rest-held-requires : goal.rest-held-requires
rest-held-requires g c =
    let d : DeskNow = desk_now g.L.Link.state c.args.desk.now in
    let d1 : DeskNow = desk_now g.L.Link.state c.tell_passed-served.new.desk in
    let ends = c.end_answer-busy.ensures in
    let set = c.requires.placed.set in
    let r = rest_ready d d1 c.args.exchange.busy c.end_answer-busy.result c.args.exchange.answered ends.0 (map g.S.HasHistory.history c.args.seats.now)
    (ap (λ (x : DeskNow). x.session) c.tell_passed-served.ensures.next.desk) ends.1 set.numbered.counted.session set.around set.own in
    record { has = r.has; may = r.may; one = r.one }

pub returns-clause-placed : goal.returns-clause-placed
returns-clause-placed g c =
    let f = g.S.HasHistory.history in
    let d : DeskNow = desk_now g.L.Link.state c.args.desk.now in
    let d1 : DeskNow = desk_now g.L.Link.state c.tell_passed-served.new.desk in
    let down : PipeNow = c.drop_front.new.self in
    let d3 : DeskNow = record d1 { down = down } in
    let e : ExchangeNow = exchange_now c.args.exchange in
    let next = c.tell_passed-served.ensures.next in
    let olds : List History = map f c.args.seats.now in
    let news : List History = map f c.rest-held.new.seats in
    let q = c.rest-held.result in
    let b = c.args.exchange.busy in
    let b2 = c.end_answer-busy.result in
    let ends = c.end_answer-busy.ensures in
    let set = c.requires.placed.set in
    let session : d1.session ≡ d.session = ap (λ (x : DeskNow). x.session) next.desk in
    let same_down : d1.down ≡ d.down = ap (λ (x : DeskNow). x.down) next.desk in
    let is : down ≡ pipe (drop (length d.down.bytes) d.down.bytes) d.down.capacity =
    c.drop_front.ensures.bytes ∙ (ap (λ (k : ℕ). pipe (drop k d1.down.bytes) d1.down.capacity) c.len-unread.ensures.len ∙ ap (λ (p : PipeNow). pipe (drop (length p.bytes) p.bytes) p.capacity) same_down) in
    let around : HasAround d.worker d1.session (resting q) news =
    c.rest-held.ensures.around d.worker (around_busy d.worker d1.session b b2 olds (ap (λ (x : BusyNow). x.server) ends.1) (ap (λ (x : BusyNow). x.id) ends.1) (ap (λ (x : BusyNow). x.uses) ends.1)
    (ap (λ (x : BusyNow). x.link.on_loop) ends.1) (subst (λ (n : SessionNo). HasAround d.worker n (Some (Exchanging b)) olds) (sym session) set.around)) in
    passed_placed d d3 e c.requires.over.0 next.ask_to down q olds news c.requires.placed c.requires.over.1 next.ends is (ap (λ (x : DeskNow). record x { down = down }) next.desk)
    (subst (λ (n : SessionNo). HasAround d.worker n (resting q) news) session around) (subst (λ (n : SessionNo). HasHeld news n q) session c.rest-held.ensures.own)

pub returns-clause-keeps : goal.returns-clause-keeps
returns-clause-keeps g c =
    let d : DeskNow = desk_now g.L.Link.state c.args.desk.now in
    let d1 : DeskNow = desk_now g.L.Link.state c.tell_passed-served.new.desk in
    let next = c.tell_passed-served.ensures.next in
    let down : PipeNow = c.drop_front.new.self in
    record {
      desk = passed_keeps d (record d1 { down = down }) next.ask_to down (ap (λ (x : DeskNow). record x { down = down }) next.desk);
      about = c.rest-held.ensures.abouts;
      loop_no = c.rest-held.ensures.loop_;
    }

pub returns-clause-server : goal.returns-clause-server
returns-clause-server g c =
    rests_to _ _ _ c.args.exchange.busy c.end_answer-busy.result _ _ c.rest-held.result (ap (λ (x : BusyNow). x.server) c.end_answer-busy.ensures.1) c.rest-held.ensures.rests

pub returns-clause-gives : goal.returns-clause-gives
returns-clause-gives g c =
    let told = c.tell_passed-served.ensures.gives in
    record {
      took_to = told.took_to;
      counted = told.counted;
      rises = told.rises;
      method = told.method;
      gives = record { to = told.gives.to; served = told.gives.served; number = told.gives.number; asked = told.gives.asked; given = told.gives.given };
      client = told.client;
    }

pub returns-clause-touches : goal.returns-clause-touches
returns-clause-touches g c = λ z.
    let f = g.S.HasHistory.history in
    let d : DeskNow = desk_now g.L.Link.state c.args.desk.now in
    let d1 : DeskNow = desk_now g.L.Link.state c.tell_passed-served.new.desk in
    let e : ExchangeNow = exchange_now c.args.exchange in
    let olds : List History = map f c.args.seats.now in
    let news : List History = map f c.rest-held.new.seats in
    let net = g.N.Net.state c.args.net.now in
    let net2 = g.N.Net.state c.rest-held.new.net in
    let q = c.rest-held.result in
    let r = c.tell_passed-served.result in
    let b = c.args.exchange.busy in
    let b2 = c.end_answer-busy.result in
    let ends = c.end_answer-busy.ensures in
    let gives = c.tell_passed-served.ensures.gives in
    let session : d1.session ≡ d.session = ap (λ (x : DeskNow). x.session) c.tell_passed-served.ensures.next.desk in
    let around : HasAround d.worker d1.session (Some (Exchanging b2)) olds =
    around_busy d.worker d1.session b b2 olds (ap (λ (x : BusyNow). x.server) ends.1) (ap (λ (x : BusyNow). x.id) ends.1) (ap (λ (x : BusyNow). x.uses) ends.1)
    (ap (λ (x : BusyNow). x.link.on_loop) ends.1) (subst (λ (n : SessionNo). HasAround d.worker n (Some (Exchanging b)) olds) (sym session) c.requires.placed.set.around) in
    let w : RestWay d.worker d1.session (first_of d) (Some (Exchanging b2)) z olds news net net2 q (Some r) =
    rests_way d.worker d1.session (first_of d) z olds news b2 net net2 q (Some r) around (is_passed d d1 e r gives) (λ none. passed_for d d1 e b2 ends.0 r gives ends.1 c.nth-nth.ensures.meaning none) c.nth-nth.ensures.meaning.counted
    (rest_causes d d1 e b2 c.requires.over.0 ends.0 r gives c.requires.placed.set.stands c.requires.over.1 c.requires.placed.good ends.1 (ends.2 c.requires.over.0 c.requires.over.1.body) c.nth-nth.ensures.meaning d1.session z net net2) c.rest-held.ensures.rests in
    rest_behind d.worker d1.session d.session (first_of d) z b b2 ends.0 c.args.exchange.answered olds news net net2 q (Some r) session ends.1 w
