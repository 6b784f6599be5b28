use Rattle.std.proofs.Common.{subst, List, map, ap, sym, ◌∙◌}
use Rattle.hx_session.specs.declared.stage.Came.{Came}
use Rattle.hx_session.specs.declared.stage.Stage.{Stage}
use Rattle.hx_session.specs.Desks.{desk_now, DeskNow}
use Rattle.hx_session.specs.Exchanged.{exchange_now, ExchangeNow}
use Rattle.hx_session.specs.Telling.{CameTells, IsStillTold}
use Rattle.hx_session.proofs.TellLemmas.{came_then}
use Rattle.hx_session.specs.Stages.{Exchanging, stage_now}
use Rattle.hx_session.specs.Standing.{CameRouted, IsRoutedTo}
use Rattle.hx_link.specs.Nets.{NetState}
use Rattle.hx_pool.specs.SeatView.{History}
use Rattle.hx_session.specs.Parting.{Parted}
use Rattle.hx_session.proofs.PartingLemmas.{parts_then}
use Rattle.hx_session.specs.declared.stage.Stage.TheVariants as is
use Rattle.hx_session.specs.declared.stage.Came.TheVariants.{On}
use Rattle.hx_connecting.specs.Journals.{room_of}
use Rattle.hx_connecting.proofs.RoomLemmas.{rooms_none}
use Rattle.hx_session.specs.Picking.{Picks}
use Rattle.hx_session.proofs.PickLemmas.{picks_then}
use Rattle.hx_session.specs.First.{ReadOn}
use Rattle.hx_session.proofs.FirstLemmas.{read_not, read_was}
use Rattle.hx_session.proofs.LeavingLemmas.{told_leaves}
use Rattle.hx_session.specs.Owning.{CameOwn}
use Rattle.hx_session.specs.Seen.{own_seen}
use Rattle.hx_session.proofs.OwningLemmas.{none_own}
use Rattle.hx_session.specs.Still.{WhereOn}
use Rattle.hx_session.specs.Waiting.{IsUnread}
use Rattle.hx_session.proofs.DecidedLemmas.{came_from}
use Rattle.hx_session.specs.Decided.{CameDecides, IsSoFar}
use Rattle.hx_session.proofs.phases.move_from_server.Goals as goal

pub returns-clause-routed : goal.returns-clause-routed
returns-clause-routed g c = λ back r.
    let on = subst (λ (x : Came g.row.L.Denot). CameRouted back x) c.in-On.is r in
    c.read_some.ensures.goes.routed back (subst (λ (x : Stage g.row.L.Denot). IsRoutedTo back (stage_now x)) c.in-Exchanging.is on)

pub returns-clause-told : goal.returns-clause-told
returns-clause-told g c = λ d0 s0 t.
    let d : DeskNow = desk_now g.L.Link.state c.args.desk.now in
    let d2 : DeskNow = desk_now g.L.Link.state c.read_some.new.desk in
    let e : ExchangeNow = exchange_now c.in-Exchanging.exchange in
    let on = subst (λ (x : Came g.row.L.Denot). CameTells d0 s0 d x) c.in-On.is t in
    came_then d0 d d2 s0 (Exchanging e) c.read_some.result (subst (λ (x : Stage g.row.L.Denot). IsStillTold d0 s0 d (stage_now x)) c.in-Exchanging.is on) c.read_some.ensures.goes.told

pub returns-clause-touches : goal.returns-clause-touches
returns-clause-touches g c = λ d0 s0 hs net0 t n p.
    let f = g.S.HasHistory.history in
    let d : DeskNow = desk_now g.L.Link.state c.args.desk.now in
    let d2 : DeskNow = desk_now g.L.Link.state c.read_some.new.desk in
    let olds : List History = map f c.args.seats.now in
    let news : List History = map f c.read_some.new.seats in
    let net : NetState = g.N.Net.state c.args.net.now in
    let net2 : NetState = g.N.Net.state c.read_some.new.net in
    let on = subst (λ (x : Came g.row.L.Denot). Parted d0 s0 hs net0 d x olds net) c.in-On.is p in
    let there = subst (λ (x : Stage g.row.L.Denot). Parted d0 s0 hs net0 d (On x c.in-On.waits) olds net) c.in-Exchanging.is on in
    parts_then d0 d d2 s0 (is.Exchanging c.in-Exchanging.exchange) c.in-On.waits hs olds news net0 net net2 c.read_some.result t n there c.read_some.ensures.goes.touches

pub returns-in_default-clause-rooms : goal.returns-in_default-clause-rooms
returns-in_default-clause-rooms g c = rooms_none g.S.HasHistory.history (room_of g.S.HasHistory.kept_from g.S.HasHistory.spare) c.args.seats.now

pub returns-in_default-stage-clause-rooms : goal.returns-in_default-stage-clause-rooms
returns-in_default-stage-clause-rooms g c = rooms_none g.S.HasHistory.history (room_of g.S.HasHistory.kept_from g.S.HasHistory.spare) c.args.seats.now

pub returns-clause-picks : goal.returns-clause-picks
returns-clause-picks g c = λ k v hs p.
    let f = g.S.HasHistory.history in
    let olds : List History = map f c.args.seats.now in
    let news : List History = map f c.read_some.new.seats in
    let on = subst (λ (x : Came g.row.L.Denot). Picks k v hs x olds) c.in-On.is p in
    let there = subst (λ (x : Stage g.row.L.Denot). Picks k v hs (On x c.in-On.waits) olds) c.in-Exchanging.is on in
    picks_then k v hs olds news (is.Exchanging c.in-Exchanging.exchange) c.in-On.waits c.read_some.result there c.read_some.ensures.goes.picks

pub returns-clause-first : goal.returns-clause-first
returns-clause-first g c = λ l r.
    let d : DeskNow = desk_now g.L.Link.state c.args.desk.now in
    let on = subst (λ (x : Came g.row.L.Denot). ReadOn l d x) c.in-On.is r in
    absurd (read_not on.1.0 (exchange_now c.in-Exchanging.exchange) (sym on.1.1 ∙ ap stage_now c.in-Exchanging.is))

pub returns-in_default-clause-first : goal.returns-in_default-clause-first
returns-in_default-clause-first g c = λ l r. read_was l (desk_now g.L.Link.state c.args.desk.now) c.args.came r

pub returns-in_default-stage-clause-first : goal.returns-in_default-stage-clause-first
returns-in_default-stage-clause-first g c = λ l r. read_was l (desk_now g.L.Link.state c.args.desk.now) c.args.came r

pub returns-clause-left : goal.returns-clause-left
returns-clause-left g c = λ limits moment k.
    let d : DeskNow = desk_now g.L.Link.state c.args.desk.now in
    let d2 : DeskNow = desk_now g.L.Link.state c.read_some.new.desk in
    told_leaves limits moment d d2 d2 (exchange_now c.in-Exchanging.exchange) c.read_some.result c.read_some.ensures.goes.told

pub returns-clause-own : goal.returns-clause-own
returns-clause-own g c = λ status taken k.
    let on = subst (λ (x : Came g.row.L.Denot). CameOwn status taken (desk_now g.L.Link.state c.args.desk.now) x) c.in-On.is k in
    absurd (none_own (own_seen (stage_now c.in-On.stage)) status (ap (λ (x : Stage g.row.L.Denot). own_seen (stage_now x)) c.in-Exchanging.is) on.1)

pub returns-clause-still : goal.returns-clause-still
returns-clause-still g c = λ d0 s0 k.
    let d : DeskNow = desk_now g.L.Link.state c.args.desk.now in
    let on = subst (λ (x : Came g.row.L.Denot). WhereOn x (λ s w. IsUnread d0 s0 d s c.args.now.0)) c.in-On.is k in
    c.read_some.ensures.still d0 s0 (subst (λ (x : Stage g.row.L.Denot). IsUnread d0 s0 d (stage_now x) c.args.now.0) c.in-Exchanging.is on)

pub returns-clause-decides : goal.returns-clause-decides
returns-clause-decides g c = λ limits moment d0 s0 net0 k.
    let d : DeskNow = desk_now g.L.Link.state c.args.desk.now in
    let d2 : DeskNow = desk_now g.L.Link.state c.read_some.new.desk in
    let net : NetState = g.N.Net.state c.args.net.now in
    let on = subst (λ (x : Came g.row.L.Denot). CameDecides limits moment d0 s0 net0 d x net) c.in-On.is k in
    let there = subst (λ (x : Stage g.row.L.Denot). IsSoFar d0 s0 net0 d (stage_now x) net) c.in-Exchanging.is on in
    came_from limits moment d0 d d2 s0 (Exchanging (exchange_now c.in-Exchanging.exchange)) net0 net (g.N.Net.state c.read_some.new.net) c.read_some.result there (c.read_some.ensures.decides limits moment)
