use Rattle.std.proofs.Common.{◌≡◌, ℕ, List, length, map, sym, ap, subst, ◌∙◌, ⊎_elim, inl, inr, Some, refl}
use Rattle.std.proofs.lemmas.List.{length-map}
use Rattle.hx_base.specs.declared.numbers.ThreadNo.{ThreadNo}
use Rattle.hx_link.specs.Nets.{NetState}
use Rattle.hx_pool.specs.SeatView.{History}
use Rattle.hx_connecting.specs.Choice.{HaveSeats}
use Rattle.hx_session.specs.Desks.{desk_now, DeskNow}
use Rattle.hx_session.specs.Stages.{StageNow, stage_now}
use Rattle.hx_session.specs.Standing.{KeepsPlace}
use Rattle.hx_session.proofs.StandingLemmas.{place_then}
use Rattle.hx_session.proofs.PartLemmas.{place_turn, over_then}
use Rattle.hx_session.proofs.StepLemmas.{abouts_count}
use Rattle.hx_connecting.specs.Journals.{room_of}
use Rattle.hx_connecting.proofs.AddingLemmas.{holds_stand}
use Rattle.hx_connecting.proofs.RoomLemmas.{rooms_both}
use Rattle.hx_session.specs.Stages.{StageNow, stage_now}
use Rattle.hx_session.specs.Seen.{conn_seen, chosen_seen}
use Rattle.hx_session.proofs.PartingLemmas.{parted}
use Rattle.hx_session.specs.Picking.{or_chose}
use Rattle.std.proofs.Common.{Option}
use Rattle.hx_base.specs.declared.numbers.ServerNo.{ServerNo}
use Rattle.hx_session.specs.Fits.{limits_with}
use Rattle.hx_session.proofs.PausedLemmas.{begins_still, where_then}
use Rattle.hx_session.specs.Still.{IsStill}
use Rattle.hx_session.specs.Decided.{Lack, came_chosen, came_out, terms_of}
use Rattle.hx_session.proofs.LackLemmas.{far_net, lacks, lifts, ties}
use Rattle.hx_session.proofs.phases.advance.Goals as goal

pub do_phase-came-requires-clause-routed : goal.do_phase-came-requires-clause-routed
do_phase-came-requires-clause-routed g c =
    let back = c.args.scene.back.now in
    c.take_turn-came.ensures.routed (c.move_to_server-came.ensures.routed back (c.move_to_client-came.ensures.routed back (c.meet_deadline-came.ensures.goes.routed back c.requires.routed)))

pub do_phase-came-requires-clause-placed : goal.do_phase-came-requires-clause-placed
do_phase-came-requires-clause-placed g c = c.take_turn-came.ensures.placed (desk_now g.L.Link.state c.move_to_server-came.new.desk) c.move_to_server-came.ensures.placed

pub do_phase-came-requires-clause-loop_ : goal.do_phase-came-requires-clause-loop_
do_phase-came-requires-clause-loop_ g c =
    let a = c.meet_deadline-came.ensures.goes.keeps in
    let b = c.move_to_client-came.ensures.keeps in
    let e = c.move_to_server-came.ensures.keeps in
    e.loop_no ∙ (b.loop_no ∙ (a.loop_no ∙ (c.requires.loop_ ∙ ap (λ (t : ThreadNo). t.0) (sym (e.desk.who.worker ∙ (b.desk.who.worker ∙ a.desk.who.worker))))))

pub returns-clause-keeps : goal.returns-clause-keeps
returns-clause-keeps g c =
    let f = g.S.HasHistory.history in
    let n = g.N.Net.state in
    let d0 : DeskNow = desk_now g.L.Link.state c.args.desk.now in
    let d1 : DeskNow = desk_now g.L.Link.state c.meet_deadline-came.new.desk in
    let d2 : DeskNow = desk_now g.L.Link.state c.move_to_client-came.new.desk in
    let d3 : DeskNow = desk_now g.L.Link.state c.move_to_server-came.new.desk in
    let d5 : DeskNow = desk_now g.L.Link.state c.do_phase-came.new.desk in
    let d6 : DeskNow = desk_now g.L.Link.state c.move_from_client-came.new.desk in
    let d7 : DeskNow = desk_now g.L.Link.state c.move_from_server-came.new.desk in
    let d8 : DeskNow = desk_now g.L.Link.state c.conclude.new.desk in
    let s0 : List History = map f c.args.seats.now in
    let s1 : List History = map f c.meet_deadline-came.new.seats in
    let s2 : List History = map f c.move_to_client-came.new.seats in
    let s3 : List History = map f c.move_to_server-came.new.seats in
    let s4 : List History = map f c.take_turn-came.new.seats in
    let s5 : List History = map f c.do_phase-came.new.seats in
    let s6 : List History = map f c.move_from_client-came.new.seats in
    let s7 : List History = map f c.move_from_server-came.new.seats in
    let s8 : List History = map f c.conclude.new.seats in
    let n0 : NetState = n c.args.net.now in
    let n1 : NetState = n c.meet_deadline-came.new.net in
    let n2 : NetState = n c.move_to_client-came.new.net in
    let n3 : NetState = n c.move_to_server-came.new.net in
    let n5 : NetState = n c.do_phase-came.new.net in
    let n6 : NetState = n c.move_from_client-came.new.net in
    let n7 : NetState = n c.move_from_server-came.new.net in
    let n8 : NetState = n c.conclude.new.net in
    let k2 : KeepsPlace d0 d2 s0 s2 n0 n2 = place_then d0 d1 d2 s0 s1 s2 n0 n1 n2 c.meet_deadline-came.ensures.goes.keeps c.move_to_client-came.ensures.keeps in
    let k3 : KeepsPlace d0 d3 s0 s3 n0 n3 = place_then d0 d2 d3 s0 s2 s3 n0 n2 n3 k2 c.move_to_server-came.ensures.keeps in
    let k4 : KeepsPlace d0 d3 s0 s4 n0 n3 = place_turn d0 d3 s0 s3 s4 n0 n3 k3 c.take_turn-came.ensures.about in
    let k5 : KeepsPlace d0 d5 s0 s5 n0 n5 = place_then d0 d3 d5 s0 s4 s5 n0 n3 n5 k4 c.do_phase-came.ensures.keeps in
    let k6 : KeepsPlace d0 d6 s0 s6 n0 n6 = place_then d0 d5 d6 s0 s5 s6 n0 n5 n6 k5 c.move_from_client-came.ensures.keeps in
    let k7 : KeepsPlace d0 d7 s0 s7 n0 n7 = place_then d0 d6 d7 s0 s6 s7 n0 n6 n7 k6 c.move_from_server-came.ensures.keeps in
    over_then d0 d7 d8 s0 s7 s8 n0 n7 n8 k7 c.conclude.ensures.keeps

pub returns-clause-told : goal.returns-clause-told
returns-clause-told g c =
    let d : DeskNow = desk_now g.L.Link.state c.args.desk.now in
    let s : StageNow = stage_now c.args.stage in
    c.conclude.ensures.told d s (c.move_from_server-came.ensures.told d s (c.move_from_client-came.ensures.told d s (c.do_phase-came.ensures.told d s
    (c.take_turn-came.ensures.told d (desk_now g.L.Link.state c.move_to_server-came.new.desk) s (c.move_to_server-came.ensures.told d s (c.move_to_client-came.ensures.told d s c.meet_deadline-came.ensures.goes.told))))))

pub returns-clause-routed : goal.returns-clause-routed
returns-clause-routed g c =
    let back = c.args.scene.back.now in
    c.conclude.ensures.routed back (c.move_from_server-came.ensures.routed back (c.move_from_client-came.ensures.routed back (c.do_phase-came.ensures.routed back
    (c.take_turn-came.ensures.routed (c.move_to_server-came.ensures.routed back (c.move_to_client-came.ensures.routed back (c.meet_deadline-came.ensures.goes.routed back c.requires.routed)))))))

pub take_turn-came-requires-clause-seats : goal.take_turn-came-requires-clause-seats
take_turn-came-requires-clause-seats g c =
    let f = g.S.HasHistory.history in
    let olds = c.args.seats.now in
    let news = c.move_to_server-came.new.seats in
    let about = c.move_to_server-came.ensures.keeps.about ∙ (c.move_to_client-came.ensures.keeps.about ∙ c.meet_deadline-came.ensures.goes.keeps.about) in
    let count : length news ≡ length olds = sym (length-map news f) ∙ (abouts_count (map f olds) (map f news) about ∙ length-map olds f) in
    subst (λ (n : ℕ). HaveSeats c.args.scene.back.now.servers n) (sym count) c.requires.seats

pub do_phase-came-requires-clause-seats : goal.do_phase-came-requires-clause-seats
do_phase-came-requires-clause-seats g c =
    let f = g.S.HasHistory.history in
    let olds = c.args.seats.now in
    let news = c.take_turn-came.new.seats in
    let about = c.take_turn-came.ensures.about ∙ (c.move_to_server-came.ensures.keeps.about ∙ (c.move_to_client-came.ensures.keeps.about ∙ c.meet_deadline-came.ensures.goes.keeps.about)) in
    let count : length news ≡ length olds = sym (length-map news f) ∙ (abouts_count (map f olds) (map f news) about ∙ length-map olds f) in
    subst (λ (n : ℕ). HaveSeats c.args.scene.back.now.servers n) (sym count) c.requires.seats

pub returns-clause-touches : goal.returns-clause-touches
returns-clause-touches g c =
    let f = g.S.HasHistory.history in
    let n = g.N.Net.state in
    let d0 : DeskNow = desk_now g.L.Link.state c.args.desk.now in
    let d1 : DeskNow = desk_now g.L.Link.state c.meet_deadline-came.new.desk in
    let d3 : DeskNow = desk_now g.L.Link.state c.move_to_server-came.new.desk in
    let s : StageNow = stage_now c.args.stage in
    let hs : List History = map f c.args.seats.now in
    let n0 : NetState = n c.args.net.now in
    let k1 = c.meet_deadline-came.ensures.goes.keeps.desk.who in
    let k2 = c.move_to_client-came.ensures.keeps.desk.who in
    let k3 = c.move_to_server-came.ensures.keeps.desk.who in
    let k5 = c.do_phase-came.ensures.keeps.desk.who in
    let k6 = c.move_from_client-came.ensures.keeps.desk.who in
    let k7 = c.move_from_server-came.ensures.keeps.desk.who in
    let w2 = k2.worker ∙ k1.worker in
    let w3 = k3.worker ∙ w2 in
    let w5 = k5.worker ∙ w3 in
    let w6 = k6.worker ∙ w5 in
    let w7 = k7.worker ∙ w6 in
    let m2 = k2.session ∙ k1.session in
    let m3 = k3.session ∙ m2 in
    let m5 = k5.session ∙ m3 in
    let m6 = k6.session ∙ m5 in
    let m7 = k7.session ∙ m6 in
    let p1 = parted d0 d1 s hs (map f c.meet_deadline-came.new.seats) n0 (n c.meet_deadline-came.new.net) c.meet_deadline-came.result
    (holds_stand d0.worker d0.session (conn_seen s) 0 hs c.requires.placed.set.around.holds) c.meet_deadline-came.ensures.goes.touches in
    let p2 = c.move_to_client-came.ensures.touches d0 s hs n0 k1.worker k1.session p1 in
    let p3 = c.move_to_server-came.ensures.touches d0 s hs n0 w2 m2 p2 in
    let p4 = c.take_turn-came.ensures.touches d3 (n c.move_to_server-came.new.net) d0 s hs n0 w3 m3 p3 in
    let p5 = c.do_phase-came.ensures.touches d0 s hs n0 w3 m3 p4 in
    let p6 = c.move_from_client-came.ensures.touches d0 s hs n0 w5 m5 p5 in
    let p7 = c.move_from_server-came.ensures.touches d0 s hs n0 w6 m6 p6 in
    c.conclude.ensures.touches d0 s hs n0 w7 m7 p7

pub returns-clause-rooms : goal.returns-clause-rooms
returns-clause-rooms g c =
    let f = g.S.HasHistory.history in
    let r = room_of g.S.HasHistory.kept_from g.S.HasHistory.spare in
    let a = c.args.seats.now in
    let e8 = c.conclude.new.seats in
    let s7 = c.move_from_server-came.new.seats in
    let s6 = c.move_from_client-came.new.seats in
    let s5 = c.do_phase-came.new.seats in
    let s4 = c.take_turn-came.new.seats in
    let s3 = c.move_to_server-came.new.seats in
    let s2 = c.move_to_client-came.new.seats in
    let s1 = c.meet_deadline-came.new.seats in
    rooms_both f r a s1 e8 c.meet_deadline-came.ensures.rooms (rooms_both f r s1 s2 e8 c.move_to_client-came.ensures.rooms (rooms_both f r s2 s3 e8 c.move_to_server-came.ensures.rooms
    (rooms_both f r s3 s4 e8 c.take_turn-came.ensures.rooms (rooms_both f r s4 s5 e8 c.do_phase-came.ensures.rooms (rooms_both f r s5 s6 e8 c.move_from_client-came.ensures.rooms
    (rooms_both f r s6 s7 e8 c.move_from_server-came.ensures.rooms c.conclude.ensures.rooms))))))

pub returns-clause-picks : goal.returns-clause-picks
returns-clause-picks g c =
    let f = g.S.HasHistory.history in
    let s : StageNow = stage_now c.args.stage in
    let k = conn_seen s in
    let v = chosen_seen s in
    let hs : List History = map f c.args.seats.now in
    let so = c.take_turn-came.ensures.picks (desk_now g.L.Link.state c.move_to_server-came.new.desk) s hs c.move_to_server-came.ensures.placed
    (c.move_to_server-came.ensures.picks k v hs (c.move_to_client-came.ensures.picks k v hs c.meet_deadline-came.ensures.goes.picks)) in
    let w : Option ServerNo = or_chose v so.chose in
    record {
      fits = c.requires.turn;
      chose = so.chose;
      asked = so.asked;
      takes = so.takes;
      picks = c.conclude.ensures.picks k w so.asked (c.move_from_server-came.ensures.picks k w so.asked (c.move_from_client-came.ensures.picks k w so.asked (c.do_phase-came.ensures.picks k w so.asked so.picks)));
    }

pub returns-clause-first : goal.returns-clause-first
returns-clause-first g c = λ f one.
    let state = g.L.Link.state in
    let l = state c.args.desk.now.client in
    ⊎_elim
    (λ a.
    let given = c.move_to_server-came.ensures.first l (c.move_to_client-came.ensures.first l a) in
    let chosen = c.take_turn-came.ensures.first l (desk_now state c.move_to_server-came.new.desk) given in
    let read = c.move_from_client-came.ensures.first l (c.do_phase-came.ensures.first l chosen) in
    inl (c.conclude.ensures.first l (c.move_from_server-came.ensures.first l read)))
    (λ b. inr b)
    (c.meet_deadline-came.ensures.first f one)

pub returns-clause-left : goal.returns-clause-left
returns-clause-left g c =
    let limits = limits_with (Some c.args.scene.front.now) (Some c.args.scene.back.now) in
    let moment = c.args.scene.now.0 in
    let given = c.move_to_server-came.ensures.left limits moment (c.move_to_client-came.ensures.left limits moment c.meet_deadline-came.ensures.left) in
    let chosen = c.take_turn-came.ensures.left limits moment (desk_now g.L.Link.state c.move_to_server-came.new.desk) given in
    let read = c.move_from_client-came.ensures.left limits moment (c.do_phase-came.ensures.left limits moment chosen) in
    c.conclude.ensures.left limits moment (c.move_from_server-came.ensures.left limits moment read)

pub returns-clause-own : goal.returns-clause-own
returns-clause-own g c = λ status taken k.
    let late = c.meet_deadline-came.ensures.own status taken k in
    let given = c.move_to_server-came.ensures.own status taken (c.move_to_client-came.ensures.own status taken late) in
    let chosen = c.take_turn-came.ensures.own status taken (desk_now g.L.Link.state c.move_to_server-came.new.desk) given in
    let read = c.move_from_client-came.ensures.own status taken (c.do_phase-came.ensures.own status taken chosen) in
    c.conclude.ensures.own status taken (c.move_from_server-came.ensures.own status taken read)

pub returns-clause-still : goal.returns-clause-still
returns-clause-still g c =
    let state = g.L.Link.state in
    let d : DeskNow = desk_now state c.args.desk.now in
    let d1 : DeskNow = desk_now state c.meet_deadline-came.new.desk in
    let s : StageNow = stage_now c.args.stage in
    let moment = c.args.scene.now.0 in
    let begun = where_then c.meet_deadline-came.result (λ t w. (d1 ≡ d) × (t ≡ s)) (λ t w. IsStill d s d1 t)
    (λ t w q. subst (λ (x : DeskNow). IsStill d s x t) (sym q.0) (subst (λ (x : StageNow). IsStill d s d x) (sym q.1) (begins_still d s))) c.meet_deadline-came.ensures.still in
    let sent = c.move_to_server-came.ensures.still d s (c.move_to_client-came.ensures.still d s begun) in
    let chosen = c.take_turn-came.ensures.still d (desk_now state c.move_to_server-came.new.desk) s moment sent in
    let idle = c.do_phase-came.ensures.still d s moment chosen in
    c.conclude.ensures.still d s moment (c.move_from_server-came.ensures.still d s (c.move_from_client-came.ensures.still d s idle))

pub returns-clause-decides : goal.returns-clause-decides
returns-clause-decides g c =
    let f = g.S.HasHistory.history in
    let state = g.L.Link.state in
    let d : DeskNow = desk_now state c.args.desk.now in
    let d3 : DeskNow = desk_now state c.move_to_server-came.new.desk in
    let s : StageNow = stage_now c.args.stage in
    let net : NetState = g.N.Net.state c.args.net.now in
    let came = c.take_turn-came.result in
    let lack : Lack = record {
      out = came_out came;
      session = d3.session;
      servers = c.args.scene.back.now.servers;
      turn = c.args.turn.now;
      olds = map f c.args.seats.now;
      asked = map f c.take_turn-came.new.seats;
      chosen = came_chosen came;
      news = map f c.do_phase-came.new.seats;
      net = g.N.Net.state c.move_to_server-came.new.net;
      net' = g.N.Net.state c.do_phase-came.new.net;
    } in
    let terms = terms_of (limits_with (Some c.args.scene.front.now) (Some c.args.scene.back.now)) lack in
    let moment = c.args.scene.now.0 in
    let sent = c.move_to_server-came.ensures.decides terms moment d s net (c.move_to_client-came.ensures.decides terms moment d s net (c.meet_deadline-came.ensures.decides lack)) in
    let chosen = c.take_turn-came.ensures.decides terms moment d d3 s net (g.N.Net.state c.move_to_server-came.new.net) sent in
    let hs : List History = map f c.args.seats.now in
    let k = conn_seen s in
    let v = chosen_seen s in
    let picks = c.move_to_server-came.ensures.picks k v hs (c.move_to_client-came.ensures.picks k v hs c.meet_deadline-came.ensures.goes.picks) in
    let asks = c.take_turn-came.ensures.asks d3 k v hs c.move_to_server-came.ensures.placed picks in
    let out = c.do_phase-came.ensures.decides terms moment d s net chosen (lacks lack came refl refl asks) in
    let read = c.move_from_client-came.ensures.decides terms moment d s net out in
    let a = c.move_from_client-came.ensures.stays in
    let b = c.move_from_server-came.ensures.stays in
    let z = c.conclude.ensures.stays in
    let tie = ties (map f c.do_phase-came.new.seats) (map f c.move_from_client-came.new.seats) (map f c.move_from_server-came.new.seats) (map f c.conclude.new.seats)
    (g.N.Net.state c.do_phase-came.new.net) (g.N.Net.state c.move_from_client-came.new.net) (g.N.Net.state c.move_from_server-came.new.net) (g.N.Net.state c.conclude.new.net)
    c.do_phase-came.result c.move_from_client-came.result c.move_from_server-came.result a b z in (
      lack,
      c.conclude.ensures.decides terms moment d s net (c.move_from_server-came.ensures.decides terms moment d s net read),
      lifts lack (map f c.conclude.new.seats) net (g.N.Net.state c.conclude.new.net) (λ yes.
          let y = tie (c.do_phase-came.ensures.out yes) in
          (y.0, far_net terms moment d s net d3 came (g.N.Net.state c.move_to_server-came.new.net) yes chosen, y.1)),
    )
