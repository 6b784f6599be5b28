use Rattle.std.proofs.Common.{None}
use Rattle.hx_record.specs.declared.served.LeftCause.TheVariants as fault_cause
use Rattle.std.proofs.Common.{List, map, refl, sym, ap, subst, ◌∙◌, inl, inr}
use Rattle.hx_pool.specs.SeatView.{History}
use Rattle.hx_connecting.specs.Journals.{room_of}
use Rattle.hx_connecting.proofs.RoomLemmas.{rooms_none}
use Rattle.hx_session.specs.declared.stage.Stage.{Stage}
use Rattle.hx_session.specs.Seen.{conn_seen}
use Rattle.hx_session.specs.Desks.{desk_now, DeskNow}
use Rattle.hx_session.specs.Stages.{stage_now}
use Rattle.hx_session.specs.Standing.{IsPlaced, Goes}
use Rattle.hx_session.proofs.StandingLemmas.{goes_ends, leaves_between, place_in, desk_none}
use Rattle.hx_session.proofs.TellLemmas.{none_same}
use Rattle.hx_session.proofs.PickLemmas.{held_none}
use Rattle.hx_session.specs.declared.stage.Came.{Came}
use Rattle.hx_session.specs.First.{IsEnding}
use Rattle.hx_session.proofs.FirstLemmas.{answering_not}
use Rattle.hx_session.specs.Leaving.{CameLeaves}
use Rattle.hx_session.specs.Telling.{HasNoRequest}
use Rattle.hx_session.specs.Exchanged.{exchange_now}
use Rattle.hx_session.proofs.LeavingLemmas.{told_leaves}
use Rattle.hx_session.specs.Seen.{own_seen}
use Rattle.hx_session.proofs.OwningLemmas.{none_own, own_here}
use Rattle.hx_session.specs.Still.{HasMoved}
use Rattle.hx_session.proofs.DecidedLemmas.{answering_decides, cut_decides, ends_none, own_only}
use Rattle.hx_session.specs.Decided.{CameDecides}
use Rattle.hx_session.specs.Causes.{client}
use Rattle.hx_record.specs.declared.served.CutCause.TheVariants as cut_cause
use Rattle.hx_session.specs.Exchanged.{ExchangeNow}
use Rattle.hx_session.proofs.ending.leave_or_cut.Goals as goal

pub returns-in-Reading : goal.returns-in-Reading
returns-in-Reading g c =
    let d : DeskNow = desk_now g.L.Link.state c.args.desk.now in
    let seats : List History = map g.S.HasHistory.history c.args.seats.now in
    let net = g.N.Net.state c.args.net.now in
    let p = subst (λ (x : Stage g.row.L.Denot). IsPlaced d (stage_now x) seats) c.in-Reading.is c.requires.placed in
    record {
      goes = goes_ends d d _ seats seats net net c.leave.result _ c.leave.ensures (place_in d d seats net (desk_none d)) (leaves_between d c.in-Reading.held seats p.set.stands p.set.numbered p.set.around p.set.own)
          (inl (refl, refl, sym (ap (λ (x : Stage g.row.L.Denot). conn_seen (stage_now x)) c.in-Reading.is), tt, tt)) (none_same d, inr (inl refl), subst (λ (x : Stage g.row.L.Denot). HasNoRequest (stage_now x)) (sym c.in-Reading.is) tt)
          (λ none. (held_none _ (sym (ap (λ (x : Stage g.row.L.Denot). conn_seen (stage_now x)) c.in-Reading.is) ∙ none), refl));
      rooms = rooms_none g.S.HasHistory.history (room_of g.S.HasHistory.kept_from g.S.HasHistory.spare) c.args.seats.now;
      own = λ status taken k. absurd (none_own (own_seen (stage_now c.args.stage)) status (ap (λ (x : Stage g.row.L.Denot). own_seen (stage_now x)) c.in-Reading.is) k.1);
      left = λ limits moment. subst (λ (x : Came g.row.L.Denot). CameLeaves limits moment d x) (sym c.leave.ensures) c.requires.fault;
      decides = λ limits moment d0 rose. subst (λ (x : Came g.row.L.Denot). CameDecides limits moment d0 (stage_now c.args.stage) net d x net) (sym c.leave.ensures) (ends_none {X = g.row.L.Denot} limits moment d0 (stage_now c.args.stage) net d net (record { cause = fault_cause.Fault; held = c.in-Reading.held; served = None }) refl);
      moved = subst (λ (x : Came g.row.L.Denot). HasMoved x) (sym c.leave.ensures) tt;
      leaves = λ held e. subst (λ (x : Came g.row.L.Denot). IsEnding x) (sym c.leave.ensures) tt;
    }

pub returns-in-Choosing : goal.returns-in-Choosing
returns-in-Choosing g c =
    let d : DeskNow = desk_now g.L.Link.state c.args.desk.now in
    let seats : List History = map g.S.HasHistory.history c.args.seats.now in
    let net = g.N.Net.state c.args.net.now in
    let p = subst (λ (x : Stage g.row.L.Denot). IsPlaced d (stage_now x) seats) c.in-Choosing.is c.requires.placed in
    record {
      goes = goes_ends d d _ seats seats net net c.leave-in-Choosing.result _ c.leave-in-Choosing.ensures (place_in d d seats net (desk_none d)) (leaves_between d _ seats p.set.stands.0 p.set.numbered p.set.around p.set.own)
          (inl (refl, refl, sym (ap (λ (x : Stage g.row.L.Denot). conn_seen (stage_now x)) c.in-Choosing.is), tt, tt)) (none_same d, inr (inl refl), subst (λ (x : Stage g.row.L.Denot). HasNoRequest (stage_now x)) (sym c.in-Choosing.is) tt)
          (λ none. (held_none _ (sym (ap (λ (x : Stage g.row.L.Denot). conn_seen (stage_now x)) c.in-Choosing.is) ∙ none), refl));
      rooms = rooms_none g.S.HasHistory.history (room_of g.S.HasHistory.kept_from g.S.HasHistory.spare) c.args.seats.now;
      own = λ status taken k. absurd (none_own (own_seen (stage_now c.args.stage)) status (ap (λ (x : Stage g.row.L.Denot). own_seen (stage_now x)) c.in-Choosing.is) k.1);
      left = λ limits moment. subst (λ (x : Came g.row.L.Denot). CameLeaves limits moment d x) (sym c.leave-in-Choosing.ensures) c.requires.fault;
      decides = λ limits moment d0 rose. subst (λ (x : Came g.row.L.Denot). CameDecides limits moment d0 (stage_now c.args.stage) net d x net) (sym c.leave-in-Choosing.ensures) (ends_none {X = g.row.L.Denot} limits moment d0 (stage_now c.args.stage) net d net (record { cause = fault_cause.Fault; held = c.in-Choosing.field-0.held; served = None }) refl);
      moved = subst (λ (x : Came g.row.L.Denot). HasMoved x) (sym c.leave-in-Choosing.ensures) tt;
      leaves = λ held e. subst (λ (x : Came g.row.L.Denot). IsEnding x) (sym c.leave-in-Choosing.ensures) tt;
    }

pub returns-in-Answering : goal.returns-in-Answering
returns-in-Answering g c =
    let d : DeskNow = desk_now g.L.Link.state c.args.desk.now in
    let d2 : DeskNow = desk_now g.L.Link.state c.leave_answering.new.desk in
    let seats : List History = map g.S.HasHistory.history c.args.seats.now in
    let net = g.N.Net.state c.args.net.now in
    let p = subst (λ (x : Stage g.row.L.Denot). IsPlaced d (stage_now x) seats) c.in-Answering.is c.requires.placed in
    record {
      goes = subst (λ (x : Stage g.row.L.Denot). Goes d (stage_now x) seats net d2 c.leave_answering.result seats net) (sym c.in-Answering.is) (c.leave_answering.ensures.goes seats net p);
      rooms = rooms_none g.S.HasHistory.history (room_of g.S.HasHistory.kept_from g.S.HasHistory.spare) c.args.seats.now;
      own = λ status taken k. own_here c.in-Answering.answering.status status d.client.taken_count taken d2 c.leave_answering.result (sym (ap (λ (x : Stage g.row.L.Denot). own_seen (stage_now x)) c.in-Answering.is) ∙ k.1) k.0 c.leave_answering.ensures.own;
      left = λ limits moment. c.leave_answering.ensures.left limits moment c.requires.fault;
      decides = λ limits moment d0 rose. subst (λ (x : Stage g.row.L.Denot). CameDecides limits moment d0 (stage_now x) net d2 c.leave_answering.result net) (sym c.in-Answering.is)
          (answering_decides limits moment d0 d2 _ net net c.leave_answering.result c.leave_answering.ensures.moved (own_only _ _ d2 c.leave_answering.result c.leave_answering.ensures.own));
      moved = c.leave_answering.ensures.moved;
      leaves = λ held e. absurd (answering_not _ held (sym (ap stage_now c.in-Answering.is) ∙ e));
    }

pub returns-in-Exchanging-clause-left : goal.returns-in-Exchanging-clause-left
returns-in-Exchanging-clause-left g c = λ limits moment.
    let d : DeskNow = desk_now g.L.Link.state c.args.desk.now in
    let d2 : DeskNow = desk_now g.L.Link.state c.cut.new.desk in
    told_leaves limits moment d d2 d2 (exchange_now c.in-Exchanging.exchange) c.cut.result c.cut.ensures.goes.told

pub returns-in-Exchanging-clause-own : goal.returns-in-Exchanging-clause-own
returns-in-Exchanging-clause-own g c = λ status taken k. absurd (none_own (own_seen (stage_now c.args.stage)) status (ap (λ (x : Stage g.row.L.Denot). own_seen (stage_now x)) c.in-Exchanging.is) k.1)

pub returns-in-Exchanging-clause-decides : goal.returns-in-Exchanging-clause-decides
returns-in-Exchanging-clause-decides g c = λ limits moment d0 rose.
    let d : DeskNow = desk_now g.L.Link.state c.args.desk.now in
    let d2 : DeskNow = desk_now g.L.Link.state c.cut.new.desk in
    let net = g.N.Net.state c.args.net.now in
    let net2 = g.N.Net.state c.cut.new.net in
    let e : ExchangeNow = exchange_now c.in-Exchanging.exchange in
    subst (λ (x : Stage g.row.L.Denot). CameDecides limits moment d0 (stage_now x) net d2 c.cut.result net2) (sym c.in-Exchanging.is)
    (cut_decides limits moment d0 d d2 e net net2 cut_cause.Client c.cut.result (λ front. client (inr (inl rose))) c.cut.ensures.cuts)
