use Rattle.std.proofs.Common.{◌≡◌, true, false, sym, subst}
use Rattle.hx_session.specs.Stages.{StageNow}
use Rattle.hx_session.specs.Standing.{IsRoutedTo}
use Rattle.std.proofs.Common.{List, map}
use Rattle.hx_link.specs.Nets.{NetState}
use Rattle.hx_pool.specs.SeatView.{History}
use Rattle.hx_connecting.specs.Journals.{room_of}
use Rattle.hx_connecting.proofs.RoomLemmas.{rooms_none}
use Rattle.hx_session.specs.declared.stage.Came.{Came}
use Rattle.hx_session.specs.Desks.{desk_now, DeskNow}
use Rattle.hx_session.specs.Parting.{Parted}
use Rattle.hx_session.proofs.PartingLemmas.{moves_then, stands_then}
use Rattle.hx_session.specs.Picking.{Picks}
use Rattle.hx_session.specs.Stages.{stage_now}
use Rattle.std.proofs.Common.{◌∙◌}
use Rattle.hx_session.proofs.PickLemmas.{done_on, done_left}
use Rattle.hx_session.specs.Leaving.{CameLeaves}
use Rattle.hx_session.specs.Owning.{CameOwn}
use Rattle.hx_session.specs.Still.{WhereOn}
use Rattle.hx_session.specs.Waiting.{StandsStill}
use Rattle.hx_session.proofs.DecidedLemmas.{done_stays}
use Rattle.hx_session.specs.Decided.{CameDecides}
use Rattle.hx_session.proofs.phases.conclude.Goals as goal

true_false : true ≡ false → ⊥
true_false e = cc

pub returns-in-Ends-clause-routed : goal.returns-in-Ends-clause-routed
returns-in-Ends-clause-routed g c = λ back r. subst (λ (x : StageNow). IsRoutedTo back x) (sym c.give_left.ensures.stage) (record { to_conn = tt; to_chosen = tt })

pub returns-in-Ends-clause-touches : goal.returns-in-Ends-clause-touches
returns-in-Ends-clause-touches g c = λ d0 s0 hs net0 t n p.
    let d : DeskNow = desk_now g.L.Link.state c.args.desk.now in
    let olds : List History = map g.S.HasHistory.history c.args.seats.now in
    let net : NetState = g.N.Net.state c.args.net.now in
    c.give_left.ensures.touches d0 s0 hs net0 t n (subst (λ (x : Came g.row.L.Denot). Parted d0 s0 hs net0 d x olds net) c.in-Ends.is p)

pub returns-in-On-clause-touches : goal.returns-in-On-clause-touches
returns-in-On-clause-touches g c = λ d0 s0 hs net0 t n p.
    let d : DeskNow = desk_now g.L.Link.state c.args.desk.now in
    let olds : List History = map g.S.HasHistory.history c.args.seats.now in
    let net : NetState = g.N.Net.state c.args.net.now in
    stands_then d0 d s0 c.in-On.stage c.in-On.waits hs olds net0 net (subst (λ (x : Came g.row.L.Denot). Parted d0 s0 hs net0 d x olds net) c.in-On.is p)

pub returns-in-Moved-clause-touches : goal.returns-in-Moved-clause-touches
returns-in-Moved-clause-touches g c = λ d0 s0 hs net0 t n p.
    let d : DeskNow = desk_now g.L.Link.state c.args.desk.now in
    let olds : List History = map g.S.HasHistory.history c.args.seats.now in
    let net : NetState = g.N.Net.state c.args.net.now in
    moves_then d0 d s0 c.in-Moved.stage c.in-Moved.waits c.in-Moved.served hs olds net0 net (subst (λ (x : Came g.row.L.Denot). Parted d0 s0 hs net0 d x olds net) c.in-Moved.is p)

pub returns-in-On-clause-rooms : goal.returns-in-On-clause-rooms
returns-in-On-clause-rooms g c = rooms_none g.S.HasHistory.history (room_of g.S.HasHistory.kept_from g.S.HasHistory.spare) c.args.seats.now

pub returns-in-Moved-clause-rooms : goal.returns-in-Moved-clause-rooms
returns-in-Moved-clause-rooms g c = rooms_none g.S.HasHistory.history (room_of g.S.HasHistory.kept_from g.S.HasHistory.spare) c.args.seats.now

pub returns-in-On-clause-picks : goal.returns-in-On-clause-picks
returns-in-On-clause-picks g c = λ k v hs p.
    let olds : List History = map g.S.HasHistory.history c.args.seats.now in
    done_on k v hs olds c.in-On.stage c.in-On.waits (subst (λ (x : Came g.row.L.Denot). Picks k v hs x olds) c.in-On.is p)

pub returns-in-Moved-clause-picks : goal.returns-in-Moved-clause-picks
returns-in-Moved-clause-picks g c = λ k v hs p. subst (λ (x : Came g.row.L.Denot). Picks k v hs x (map g.S.HasHistory.history c.args.seats.now)) c.in-Moved.is p

pub returns-in-Ends-clause-picks : goal.returns-in-Ends-clause-picks
returns-in-Ends-clause-picks g c = λ k v hs p.
    let f = g.S.HasHistory.history in
    let olds : List History = map f c.args.seats.now in
    let news : List History = map f c.give_left.new.seats in
    let ends = subst (λ (x : Came g.row.L.Denot). Picks k v hs x olds) c.in-Ends.is p in
    done_left k v hs news (stage_now c.give_left.result.stage) c.give_left.ensures.stage (λ none. let q = ends none in c.give_left.ensures.seats q.0 ∙ q.1)

pub returns-in-Ends-clause-left : goal.returns-in-Ends-clause-left
returns-in-Ends-clause-left g c = λ limits moment k. c.give_left.ensures.left limits moment (subst (λ (x : Came g.row.L.Denot). CameLeaves limits moment (desk_now g.L.Link.state c.args.desk.now) x) c.in-Ends.is k)

pub returns-in-Ends-clause-own : goal.returns-in-Ends-clause-own
returns-in-Ends-clause-own g c = λ status taken k. c.give_left.ensures.own status taken (subst (λ (x : Came g.row.L.Denot). CameOwn status taken (desk_now g.L.Link.state c.args.desk.now) x) c.in-Ends.is k)

pub returns-in-On-clause-still : goal.returns-in-On-clause-still
returns-in-On-clause-still g c = λ d0 s0 moment k is. subst (λ (x : Came g.row.L.Denot). WhereOn x (λ s w. StandsStill d0 s0 (desk_now g.L.Link.state c.args.desk.now) s moment)) c.in-On.is k

pub returns-in-Ends-clause-still : goal.returns-in-Ends-clause-still
returns-in-Ends-clause-still g c = λ d0 s0 moment k is. absurd (true_false (sym c.give_left.ensures.moved ∙ is))

pub returns-in-On-clause-decides : goal.returns-in-On-clause-decides
returns-in-On-clause-decides g c = λ limits moment d0 s0 net0 k.
    let d : DeskNow = desk_now g.L.Link.state c.args.desk.now in
    let net : NetState = g.N.Net.state c.args.net.now in
    done_stays limits moment d0 s0 net0 d (stage_now c.in-On.stage) net (subst (λ (x : Came g.row.L.Denot). CameDecides limits moment d0 s0 net0 d x net) c.in-On.is k)

pub returns-in-Moved-clause-decides : goal.returns-in-Moved-clause-decides
returns-in-Moved-clause-decides g c = λ limits moment d0 s0 net0 k.
    let d : DeskNow = desk_now g.L.Link.state c.args.desk.now in
    let net : NetState = g.N.Net.state c.args.net.now in
    let x = subst (λ (x : Came g.row.L.Denot). CameDecides limits moment d0 s0 net0 d x net) c.in-Moved.is k in
    record { own = x.0; cut = x.1 }

pub returns-in-Ends-clause-decides : goal.returns-in-Ends-clause-decides
returns-in-Ends-clause-decides g c = λ limits moment d0 s0 net0 k.
    let d : DeskNow = desk_now g.L.Link.state c.args.desk.now in
    let net : NetState = g.N.Net.state c.args.net.now in
    c.give_left.ensures.decides limits moment d0 s0 net0 (subst (λ (x : Came g.row.L.Denot). CameDecides limits moment d0 s0 net0 d x net) c.in-Ends.is k)
