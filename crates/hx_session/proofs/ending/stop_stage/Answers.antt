use Rattle.std.proofs.Common.{sym, subst, Some, None, List, map, refl, inl, inr}
use Rattle.hx_record.specs.declared.served.LeftCause.TheVariants as cause
use Rattle.hx_session.specs.declared.stage.Came.TheVariants.{Ends}
use Rattle.hx_session.specs.declared.stage.Stage.{Stage}
use Rattle.hx_session.specs.Desks.{desk_now, DeskNow}
use Rattle.hx_session.specs.Stages.{StandsSo, stage_now}
use Rattle.hx_session.specs.Telling.{StopTells}
use Rattle.hx_session.proofs.StandingLemmas.{cut_kept, own_kept}
use Rattle.hx_session.proofs.ToldLemmas.{stop_own}
use Rattle.hx_connecting.specs.Journals.{room_of}
use Rattle.hx_connecting.proofs.RoomLemmas.{rooms_none}
use Rattle.hx_pool.specs.SeatView.{History}
use Rattle.hx_connecting.specs.Outcomes.{Leaving}
use Rattle.hx_connecting.proofs.TouchedCalls.{broken_cause}
use Rattle.hx_connecting.proofs.WayCalls.{busy_some}
use Rattle.hx_session.specs.Exchanged.{exchange_now}
use Rattle.hx_session.proofs.ClosingLemmas.{cut_breaks}
use Rattle.hx_session.specs.Parting.{PartTouches, first_of}
use Rattle.hx_session.proofs.StaysLemmas.{own_given}
use Rattle.hx_session.specs.Standing.{IsPlaced}
use Rattle.hx_session.proofs.ending.stop_stage.Goals as goal

pub returns-in-Answering-clause-told : goal.returns-in-Answering-clause-told
returns-in-Answering-clause-told g c =
    let d : DeskNow = desk_now g.L.Link.state c.args.desk.now in
    let d1 : DeskNow = desk_now g.L.Link.state c.tell_own.new.desk in
    let stands = subst (λ (x : Stage g.row.L.Denot). StandsSo d (stage_now x)) c.in-Answering.is c.requires.placed.set.stands in
    subst (λ (x : Stage g.row.L.Denot). StopTells (stage_now x) d d1 (Some c.tell_own.result)) (sym c.in-Answering.is)
    (stop_own d d1 c.in-Answering.field-0.status c.in-Answering.field-0.held c.tell_own.result stands
    c.tell_own.ensures.served c.tell_own.ensures.next)

pub returns-in-Reading-clause-rooms : goal.returns-in-Reading-clause-rooms
returns-in-Reading-clause-rooms g c = rooms_none g.S.HasHistory.history (room_of g.S.HasHistory.kept_from g.S.HasHistory.spare) c.args.seats.now

pub returns-in-Choosing-clause-rooms : goal.returns-in-Choosing-clause-rooms
returns-in-Choosing-clause-rooms g c = rooms_none g.S.HasHistory.history (room_of g.S.HasHistory.kept_from g.S.HasHistory.spare) c.args.seats.now

pub returns-in-Answering-clause-rooms : goal.returns-in-Answering-clause-rooms
returns-in-Answering-clause-rooms g c = rooms_none g.S.HasHistory.history (room_of g.S.HasHistory.kept_from g.S.HasHistory.spare) c.args.seats.now

pub returns-in-Exchanging-clause-touches : goal.returns-in-Exchanging-clause-touches
returns-in-Exchanging-clause-touches g c =
    let f = g.S.HasHistory.history in
    let d : DeskNow = desk_now g.L.Link.state c.args.desk.now in
    let olds : List History = map f c.args.seats.now in
    let news : List History = map f c.cut_off.new.seats in
    let b = c.in-Exchanging.exchange.busy in
    let net = g.N.Net.state c.args.net.now in
    let net2 = g.N.Net.state c.cut_off.new.net in
    let d1 : DeskNow = desk_now g.L.Link.state c.cut_off.new.desk in
    let p = subst (λ (x : Stage g.row.L.Denot). IsPlaced d (stage_now x) olds) c.in-Exchanging.is c.requires.placed in
    let w = busy_some d.worker d.session (first_of d) b Leaving olds news net net2 (Some c.cut_off.result) p.set.around c.cut_off.ensures.meaning
    (broken_cause d.session b Leaving net net2 (Some c.cut_off.result) (cut_breaks d d1 (exchange_now c.in-Exchanging.exchange) _ c.cut_off.result Leaving c.cut_off.ensures.cuts)) c.cut_off.ensures.closes in
    subst (λ (x : Stage g.row.L.Denot). PartTouches d (stage_now x) olds net d1 (Ends (record { cause = cause.Stop; held = None; served = Some c.cut_off.result })) news net2) (sym c.in-Exchanging.is)
    (inr (record { touch = w.touch; may = inr refl; counts = tt; at = w.at; way = w.way }))

pub returns-in-Answering-clause-touches : goal.returns-in-Answering-clause-touches
returns-in-Answering-clause-touches g c =
    let d : DeskNow = desk_now g.L.Link.state c.args.desk.now in
    let d1 : DeskNow = desk_now g.L.Link.state c.tell_own.new.desk in
    let seats : List History = map g.S.HasHistory.history c.args.seats.now in
    let net = g.N.Net.state c.args.net.now in
    let held = c.in-Answering.field-0.held in
    let status = c.in-Answering.field-0.status in
    subst (λ (x : Stage g.row.L.Denot). PartTouches d (stage_now x) seats net d1 (Ends (record { cause = cause.Stop; held = held; served = Some c.tell_own.result })) seats net) (sym c.in-Answering.is)
    (inl (refl, refl, refl, tt, own_given d status d.taken held c.tell_own.result c.tell_own.ensures.served))

pub returns-in-Answering-clause-keeps : goal.returns-in-Answering-clause-keeps
returns-in-Answering-clause-keeps g c =
    let d : DeskNow = desk_now g.L.Link.state c.args.desk.now in
    let d1 : DeskNow = desk_now g.L.Link.state c.tell_own.new.desk in
    record { desk = own_kept d d1 c.tell_own.ensures.next; about = refl; loop_no = refl }

pub returns-in-Exchanging-clause-keeps : goal.returns-in-Exchanging-clause-keeps
returns-in-Exchanging-clause-keeps g c =
    let d : DeskNow = desk_now g.L.Link.state c.args.desk.now in
    let d1 : DeskNow = desk_now g.L.Link.state c.cut_off.new.desk in
    record { desk = cut_kept d d1 _ _ _ c.cut_off.ensures.cuts; about = c.cut_off.ensures.about; loop_no = c.cut_off.ensures.loop_ }
