use Rattle.std.proofs.Common.{subst, List, map, sym}
use Rattle.hx_session.specs.declared.stage.Came.{Came}
use Rattle.hx_session.specs.Desks.{desk_now, DeskNow}
use Rattle.hx_session.specs.Stages.{stage_now}
use Rattle.hx_session.specs.Telling.{CameTells}
use Rattle.hx_session.proofs.TellLemmas.{came_then}
use Rattle.hx_link.specs.Nets.{NetState}
use Rattle.hx_pool.specs.SeatView.{History}
use Rattle.hx_session.specs.Parting.{Parted}
use Rattle.hx_session.proofs.PartingLemmas.{parts_then}
use Rattle.hx_connecting.specs.Journals.{room_of}
use Rattle.hx_connecting.proofs.RoomLemmas.{rooms_none}
use Rattle.hx_session.specs.Picking.{Picks}
use Rattle.hx_session.proofs.PickLemmas.{picks_then}
use Rattle.hx_session.specs.First.{FreshOn}
use Rattle.hx_session.specs.Owning.{CameOwn}
use Rattle.hx_session.specs.Still.{WhereOn}
use Rattle.hx_session.specs.Waiting.{PausedOrChosen}
use Rattle.hx_session.proofs.DecidedLemmas.{came_from}
use Rattle.hx_session.specs.Decided.{CameDecides}
use Rattle.hx_session.specs.Decided.{CameOut}
use Rattle.hx_session.proofs.phases.do_phase.Goals as goal

pub returns-clause-told : goal.returns-clause-told
returns-clause-told g c = λ d0 s0 t.
    let d : DeskNow = desk_now g.L.Link.state c.args.desk.now in
    let d2 : DeskNow = desk_now g.L.Link.state c.do_stage.new.desk in
    came_then d0 d d2 s0 (stage_now c.in-On.stage) c.do_stage.result (subst (λ (x : Came g.row.L.Denot). CameTells d0 s0 d x) c.in-On.is t) c.do_stage.ensures.goes.told

pub returns-clause-touches : goal.returns-clause-touches
returns-clause-touches g c = λ d0 s0 hs net0 t n p.
    let f = g.S.HasHistory.history in
    let d : DeskNow = desk_now g.L.Link.state c.args.desk.now in
    let d2 : DeskNow = desk_now g.L.Link.state c.do_stage.new.desk in
    let olds : List History = map f c.args.seats.now in
    let news : List History = map f c.do_stage.new.seats in
    let net : NetState = g.N.Net.state c.args.net.now in
    let net2 : NetState = g.N.Net.state c.do_stage.new.net in
    let on = subst (λ (x : Came g.row.L.Denot). Parted d0 s0 hs net0 d x olds net) c.in-On.is p in
    parts_then d0 d d2 s0 c.in-On.stage c.in-On.waits hs olds news net0 net net2 c.do_stage.result t n on c.do_stage.ensures.goes.touches

pub returns-in_default-clause-rooms : goal.returns-in_default-clause-rooms
returns-in_default-clause-rooms g c = rooms_none g.S.HasHistory.history (room_of g.S.HasHistory.kept_from g.S.HasHistory.spare) c.args.seats.now

pub returns-clause-picks : goal.returns-clause-picks
returns-clause-picks g c = λ k v hs p.
    let f = g.S.HasHistory.history in
    let olds : List History = map f c.args.seats.now in
    let news : List History = map f c.do_stage.new.seats in
    picks_then k v hs olds news c.in-On.stage c.in-On.waits c.do_stage.result (subst (λ (x : Came g.row.L.Denot). Picks k v hs x olds) c.in-On.is p) c.do_stage.ensures.goes.picks

pub returns-clause-first : goal.returns-clause-first
returns-clause-first g c = λ l f. c.do_stage.ensures.first l (subst (λ (x : Came g.row.L.Denot). FreshOn l (desk_now g.L.Link.state c.args.desk.now) x) c.in-On.is f)

pub returns-clause-left : goal.returns-clause-left
returns-clause-left g c = λ limits moment k. c.do_stage.ensures.left limits moment

pub returns-clause-own : goal.returns-clause-own
returns-clause-own g c = λ status taken k. c.do_stage.ensures.own status taken (subst (λ (x : Came g.row.L.Denot). CameOwn status taken (desk_now g.L.Link.state c.args.desk.now) x) c.in-On.is k)

pub returns-clause-still : goal.returns-clause-still
returns-clause-still g c = λ d0 s0 moment k.
    let d : DeskNow = desk_now g.L.Link.state c.args.desk.now in
    c.do_stage.ensures.still d0 s0 moment (subst (λ (x : Came g.row.L.Denot). WhereOn x (λ s w. PausedOrChosen d0 s0 d s moment)) c.in-On.is k)

pub returns-clause-decides : goal.returns-clause-decides
returns-clause-decides g c = λ limits moment d0 s0 net0 k h.
    let f = g.S.HasHistory.history in
    let d : DeskNow = desk_now g.L.Link.state c.args.desk.now in
    let d2 : DeskNow = desk_now g.L.Link.state c.do_stage.new.desk in
    let net : NetState = g.N.Net.state c.args.net.now in
    came_from limits moment d0 d d2 s0 (stage_now c.in-On.stage) net0 net (g.N.Net.state c.do_stage.new.net) c.do_stage.result (subst (λ (x : Came g.row.L.Denot). CameDecides limits moment d0 s0 net0 d x net) c.in-On.is k) (c.do_stage.ensures.decides limits moment (λ o. h (subst (λ (x : Came g.row.L.Denot). CameOut d.session x (map f c.args.seats.now) (map f c.do_stage.new.seats) net (g.N.Net.state c.do_stage.new.net)) (sym c.in-On.is) o)))
