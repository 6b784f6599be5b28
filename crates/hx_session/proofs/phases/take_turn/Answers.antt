use Rattle.std.proofs.Common.{List, map, subst}
use Rattle.hx_pool.specs.SeatView.{History}
use Rattle.hx_session.specs.declared.stage.Came.{Came}
use Rattle.hx_session.specs.Stages.{StageNow, stage_now}
use Rattle.hx_session.specs.Telling.{CameTells}
use Rattle.hx_session.proofs.TellLemmas.{chooses_same, chosen_still}
use Rattle.hx_session.specs.Standing.{CamePlaced, CameRouted}
use Rattle.hx_session.proofs.GateLemmas.{in_placed, in_abouts, in_routed, in_turn_below}
use Rattle.hx_session.specs.Parting.{Parted}
use Rattle.hx_session.proofs.PartingLemmas.{turn_then}
use Rattle.hx_connecting.specs.Journals.{room_of}
use Rattle.hx_connecting.proofs.RoomLemmas.{rooms_none}
use Rattle.hx_session.specs.Picking.{Picks}
use Rattle.hx_session.specs.Seen.{conn_seen, chosen_seen}
use Rattle.hx_session.proofs.PickLemmas.{so_turn, so_same}
use Rattle.hx_session.specs.First.{FreshOn}
use Rattle.hx_session.proofs.FirstLemmas.{turn_fresh}
use Rattle.hx_session.specs.Owning.{CameOwn}
use Rattle.hx_session.proofs.OwningLemmas.{turn_own}
use Rattle.hx_session.proofs.PausedLemmas.{turn_paused}
use Rattle.hx_session.specs.Still.{WhereOn}
use Rattle.hx_session.specs.Waiting.{IsPaused}
use Rattle.hx_session.proofs.DecidedLemmas.{turn_far}
use Rattle.hx_session.proofs.LackLemmas.{asks_on}
use Rattle.hx_session.specs.Decided.{CameDecides}
use Rattle.hx_session.proofs.phases.take_turn.Goals as goal

pub returns-clause-placed : goal.returns-clause-placed
returns-clause-placed g c = λ d p.
    let f = g.S.HasHistory.history in
    let olds : List History = map f c.args.seats.now in
    let news : List History = map f c.choose_server.new.seats in
    in_placed d c.args.back.now.servers c.args.turn.now c.choose_server.new.turn olds news (stage_now c.in-On.stage) (stage_now c.choose_server.result) c.choose_server.ensures.chooses
    (subst (λ (x : Came g.row.L.Denot). CamePlaced d x olds) c.in-On.is p)

pub returns-clause-about : goal.returns-clause-about
returns-clause-about g c =
    let f = g.S.HasHistory.history in
    in_abouts c.args.back.now.servers c.args.turn.now c.choose_server.new.turn (map f c.args.seats.now) (map f c.choose_server.new.seats) (stage_now c.in-On.stage) (stage_now c.choose_server.result) c.choose_server.ensures.chooses

pub returns-clause-routed : goal.returns-clause-routed
returns-clause-routed g c = λ r.
    let f = g.S.HasHistory.history in
    in_routed c.args.back.now c.args.turn.now c.choose_server.new.turn (map f c.args.seats.now) (map f c.choose_server.new.seats) (stage_now c.in-On.stage) (stage_now c.choose_server.result) c.choose_server.ensures.chooses
    (subst (λ (x : Came g.row.L.Denot). CameRouted c.args.back.now x) c.in-On.is r)

pub returns-clause-turn : goal.returns-clause-turn
returns-clause-turn g c =
    let f = g.S.HasHistory.history in
    in_turn_below c.args.back.now.servers c.args.turn.now c.choose_server.new.turn (map f c.args.seats.now) (map f c.choose_server.new.seats) (stage_now c.in-On.stage) (stage_now c.choose_server.result) c.choose_server.ensures.chooses
    c.requires.turn

pub returns-clause-told : goal.returns-clause-told
returns-clause-told g c = λ d0 d s0 t.
    let f = g.S.HasHistory.history in
    let s : StageNow = stage_now c.in-On.stage in
    let s2 : StageNow = stage_now c.choose_server.result in
    chosen_still d0 d s0 s s2 (subst (λ (x : Came g.row.L.Denot). CameTells d0 s0 d x) c.in-On.is t)
    (chooses_same c.args.back.now.servers c.args.turn.now c.choose_server.new.turn (map f c.args.seats.now) (map f c.choose_server.new.seats) s s2 c.choose_server.ensures.chooses)

pub returns-clause-touches : goal.returns-clause-touches
returns-clause-touches g c = λ d net d0 s0 hs net0 t n p.
    let f = g.S.HasHistory.history in
    let olds : List History = map f c.args.seats.now in
    let news : List History = map f c.choose_server.new.seats in
    let on = subst (λ (x : Came g.row.L.Denot). Parted d0 s0 hs net0 d x olds net) c.in-On.is p in
    turn_then d0 d s0 c.in-On.stage c.choose_server.result c.in-On.waits c.args.back.now.servers c.args.turn.now c.choose_server.new.turn hs olds news net0 net t n on c.choose_server.ensures.chooses

pub returns-in_default-clause-rooms : goal.returns-in_default-clause-rooms
returns-in_default-clause-rooms g c = rooms_none g.S.HasHistory.history (room_of g.S.HasHistory.kept_from g.S.HasHistory.spare) c.args.seats.now

pub returns-clause-picks : goal.returns-clause-picks
returns-clause-picks g c = λ d s0 hs placed p.
    let f = g.S.HasHistory.history in
    let olds : List History = map f c.args.seats.now in
    let news : List History = map f c.choose_server.new.seats in
    let at = subst (λ (x : Came g.row.L.Denot). CamePlaced d x olds) c.in-On.is placed in
    so_turn c.args.back.now.servers c.args.turn.now c.choose_server.new.turn s0 c.in-On.stage c.choose_server.result c.in-On.waits c.in-On.waits hs olds news at.good
    (subst (λ (x : Came g.row.L.Denot). Picks (conn_seen s0) (chosen_seen s0) hs x olds) c.in-On.is p) c.choose_server.ensures.chooses

pub returns-in_default-clause-picks : goal.returns-in_default-clause-picks
returns-in_default-clause-picks g c = λ d s0 hs placed p. so_same c.args.back.now.servers c.args.turn.now s0 hs c.args.came (map g.S.HasHistory.history c.args.seats.now) p

pub returns-clause-first : goal.returns-clause-first
returns-clause-first g c = λ l d f.
    let h = g.S.HasHistory.history in
    turn_fresh l d c.args.back.now.servers c.args.turn.now c.choose_server.new.turn (map h c.args.seats.now) (map h c.choose_server.new.seats) (stage_now c.in-On.stage) (stage_now c.choose_server.result) c.choose_server.ensures.chooses
    (subst (λ (x : Came g.row.L.Denot). FreshOn l d x) c.in-On.is f)

pub returns-clause-own : goal.returns-clause-own
returns-clause-own g c = λ status taken d k.
    let h = g.S.HasHistory.history in
    turn_own status taken d c.args.back.now.servers c.args.turn.now c.choose_server.new.turn (map h c.args.seats.now) (map h c.choose_server.new.seats) (stage_now c.in-On.stage) (stage_now c.choose_server.result)
    c.choose_server.ensures.chooses (subst (λ (x : Came g.row.L.Denot). CameOwn status taken d x) c.in-On.is k)

pub returns-clause-still : goal.returns-clause-still
returns-clause-still g c = λ d0 d s0 moment k.
    let h = g.S.HasHistory.history in
    turn_paused d0 d s0 moment c.args.back.now.servers c.args.turn.now c.choose_server.new.turn (map h c.args.seats.now) (map h c.choose_server.new.seats) (stage_now c.in-On.stage) (stage_now c.choose_server.result)
    c.choose_server.ensures.chooses (subst (λ (x : Came g.row.L.Denot). WhereOn x (λ s w. IsPaused d0 s0 d s moment)) c.in-On.is k)

pub returns-clause-decides : goal.returns-clause-decides
returns-clause-decides g c = λ limits moment d0 d s0 net0 net k.
    let h = g.S.HasHistory.history in
    turn_far d0 d s0 net0 net c.args.back.now.servers c.args.turn.now c.choose_server.new.turn (map h c.args.seats.now) (map h c.choose_server.new.seats) (stage_now c.in-On.stage) (stage_now c.choose_server.result)
    c.choose_server.ensures.chooses (subst (λ (x : Came g.row.L.Denot). CameDecides limits moment d0 s0 net0 d x net) c.in-On.is k)

pub returns-clause-asks : goal.returns-clause-asks
returns-clause-asks g c = λ d k v hs placed p.
    let f = g.S.HasHistory.history in
    let olds : List History = map f c.args.seats.now in
    asks_on c.args.back.now.servers c.args.turn.now c.choose_server.new.turn d k v hs olds (map f c.choose_server.new.seats) c.in-On.stage c.in-On.waits (stage_now c.choose_server.result)
    (subst (λ (x : Came g.row.L.Denot). CamePlaced d x olds) c.in-On.is placed) (subst (λ (x : Came g.row.L.Denot). Picks k v hs x olds) c.in-On.is p) c.choose_server.ensures.chooses
