use Rattle.hx_connecting.specs.Journals.{room_of}
use Rattle.hx_connecting.proofs.RoomLemmas.{rooms_none}
use Rattle.std.proofs.Common.{◌≡◌, refl, sym, subst, List, map, ap}
use Rattle.hx_pool.specs.SeatView.{History}
use Rattle.hx_session.specs.declared.stage.Stage.{Stage}
use Rattle.hx_session.specs.declared.stage.Stage.TheVariants.{Choosing, Answering}
use Rattle.hx_session.specs.declared.stage.Came.TheVariants.{On}
use Rattle.hx_session.specs.Desks.{desk_now, DeskNow}
use Rattle.hx_session.specs.Stages.{stage_now}
use Rattle.hx_link.specs.Nets.{NetState}
use Rattle.hx_session.specs.Standing.{Goes, IsPlaced}
use Rattle.hx_session.proofs.PartLemmas.{goes_still}
use Rattle.hx_session.specs.Exchanged.{exchange_now}
use Rattle.hx_session.proofs.LeavingLemmas.{told_leaves}
use Rattle.hx_session.specs.Seen.{own_seen}
use Rattle.hx_session.proofs.OwningLemmas.{none_own}
use Rattle.hx_session.proofs.PausedLemmas.{moved_where}
use Rattle.hx_session.proofs.DecidedLemmas.{late_decides, not_there}
use Rattle.hx_session.specs.Decided.{CameDecides}
use Rattle.hx_session.specs.Stages.{StandsSo}
use Rattle.hx_session.proofs.phases.meet_server_late.Goals as goal

pub returns-in-Reading-clause-rooms : goal.returns-in-Reading-clause-rooms
returns-in-Reading-clause-rooms g c = rooms_none g.S.HasHistory.history (room_of g.S.HasHistory.kept_from g.S.HasHistory.spare) c.args.seats.now

pub returns-in-Choosing-clause-rooms : goal.returns-in-Choosing-clause-rooms
returns-in-Choosing-clause-rooms g c = rooms_none g.S.HasHistory.history (room_of g.S.HasHistory.kept_from g.S.HasHistory.spare) c.args.seats.now

pub returns-in-Answering-clause-rooms : goal.returns-in-Answering-clause-rooms
returns-in-Answering-clause-rooms g c = rooms_none g.S.HasHistory.history (room_of g.S.HasHistory.kept_from g.S.HasHistory.spare) c.args.seats.now

pub returns-in-Choosing-clause-goes : goal.returns-in-Choosing-clause-goes
returns-in-Choosing-clause-goes g c =
    let d : DeskNow = desk_now g.L.Link.state c.args.desk.now in
    let seats : List History = map g.S.HasHistory.history c.args.seats.now in
    let net : NetState = g.N.Net.state c.args.net.now in
    let stage : Stage g.row.L.Denot = Choosing c.in-Choosing.choosing in
    let placed = subst (λ (x : Stage g.row.L.Denot). IsPlaced d (stage_now x) seats) c.in-Choosing.is c.requires.placed in
    subst (λ (x : Stage g.row.L.Denot). Goes d (stage_now x) seats net d (On stage c.args.own.waits) seats net) (sym c.in-Choosing.is) (goes_still d d stage c.args.own.waits seats net refl placed)

pub returns-in-Answering-clause-goes : goal.returns-in-Answering-clause-goes
returns-in-Answering-clause-goes g c =
    let d : DeskNow = desk_now g.L.Link.state c.args.desk.now in
    let seats : List History = map g.S.HasHistory.history c.args.seats.now in
    let net : NetState = g.N.Net.state c.args.net.now in
    let stage : Stage g.row.L.Denot = Answering c.in-Answering.answering in
    let placed = subst (λ (x : Stage g.row.L.Denot). IsPlaced d (stage_now x) seats) c.in-Answering.is c.requires.placed in
    subst (λ (x : Stage g.row.L.Denot). Goes d (stage_now x) seats net d (On stage c.args.own.waits) seats net) (sym c.in-Answering.is) (goes_still d d stage c.args.own.waits seats net refl placed)

pub returns-in-Exchanging-clause-left : goal.returns-in-Exchanging-clause-left
returns-in-Exchanging-clause-left g c = λ limits moment.
    let d : DeskNow = desk_now g.L.Link.state c.args.desk.now in
    let d2 : DeskNow = desk_now g.L.Link.state c.end_by_server.new.desk in
    told_leaves limits moment d d2 d2 (exchange_now c.in-Exchanging.exchange) c.end_by_server.result c.end_by_server.ensures.goes.told

pub returns-in-Exchanging-clause-own : goal.returns-in-Exchanging-clause-own
returns-in-Exchanging-clause-own g c = λ status taken k. absurd (none_own (own_seen (stage_now c.args.stage)) status (ap (λ (x : Stage g.row.L.Denot). own_seen (stage_now x)) c.in-Exchanging.is) k.1)

pub returns-in-Exchanging-clause-still : goal.returns-in-Exchanging-clause-still
returns-in-Exchanging-clause-still g c =
    let d : DeskNow = desk_now g.L.Link.state c.args.desk.now in
    let d2 : DeskNow = desk_now g.L.Link.state c.end_by_server.new.desk in
    moved_where c.end_by_server.result (λ s w. (d2 ≡ d) × (s ≡ stage_now c.args.stage)) c.end_by_server.ensures.moved

pub returns-in-Reading-clause-still : goal.returns-in-Reading-clause-still
returns-in-Reading-clause-still g c = (refl, sym (ap stage_now c.in-Reading.is))

pub returns-in-Choosing-clause-still : goal.returns-in-Choosing-clause-still
returns-in-Choosing-clause-still g c = (refl, sym (ap stage_now c.in-Choosing.is))

pub returns-in-Answering-clause-still : goal.returns-in-Answering-clause-still
returns-in-Answering-clause-still g c = (refl, sym (ap stage_now c.in-Answering.is))

pub returns-in-Exchanging-clause-decides : goal.returns-in-Exchanging-clause-decides
returns-in-Exchanging-clause-decides g c = λ limits moment late.
    let d : DeskNow = desk_now g.L.Link.state c.args.desk.now in
    let d2 : DeskNow = desk_now g.L.Link.state c.end_by_server.new.desk in
    let carried = subst (λ (x : Stage g.row.L.Denot). StandsSo d (stage_now x)) c.in-Exchanging.is c.requires.placed.set.stands in
    subst (λ (x : Stage g.row.L.Denot). CameDecides limits moment d (stage_now x) (g.N.Net.state c.args.net.now) d2 c.end_by_server.result (g.N.Net.state c.end_by_server.new.net)) (sym c.in-Exchanging.is)
    (late_decides limits moment d d2 (exchange_now c.in-Exchanging.exchange) (g.N.Net.state c.args.net.now) (g.N.Net.state c.end_by_server.new.net) c.args.own.status c.end_by_server.result carried late c.end_by_server.ensures.by_server)

pub returns-in-Reading-clause-decides : goal.returns-in-Reading-clause-decides
returns-in-Reading-clause-decides g c = λ limits moment late. not_there limits moment (desk_now g.L.Link.state c.args.desk.now) (stage_now c.args.stage) (g.N.Net.state c.args.net.now) _ (ap stage_now c.in-Reading.is)

pub returns-in-Choosing-clause-decides : goal.returns-in-Choosing-clause-decides
returns-in-Choosing-clause-decides g c = λ limits moment late. not_there limits moment (desk_now g.L.Link.state c.args.desk.now) (stage_now c.args.stage) (g.N.Net.state c.args.net.now) _ (ap stage_now c.in-Choosing.is)

pub returns-in-Answering-clause-decides : goal.returns-in-Answering-clause-decides
returns-in-Answering-clause-decides g c = λ limits moment late. not_there limits moment (desk_now g.L.Link.state c.args.desk.now) (stage_now c.args.stage) (g.N.Net.state c.args.net.now) _ (ap stage_now c.in-Answering.is)

pub returns-in-Left-clause-decides : goal.returns-in-Left-clause-decides
returns-in-Left-clause-decides g c = λ limits moment late. not_there limits moment (desk_now g.L.Link.state c.args.desk.now) (stage_now c.args.stage) (g.N.Net.state c.args.net.now) _ (ap stage_now c.in-Left.is)
