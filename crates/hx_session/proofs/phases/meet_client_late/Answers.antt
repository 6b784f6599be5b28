use Rattle.std.proofs.Common.{◌≡◌, List, map, sym, subst, ap, ◌∙◌}
use Rattle.hx_pool.specs.SeatView.{History}
use Rattle.hx_connecting.specs.Journals.{room_of}
use Rattle.hx_connecting.proofs.RoomLemmas.{rooms_none}
use Rattle.hx_session.specs.declared.stage.Stage.{Stage}
use Rattle.hx_session.specs.Desks.{desk_now, DeskNow}
use Rattle.hx_session.specs.Stages.{stage_now}
use Rattle.hx_session.specs.Standing.{IsPlaced, Goes}
use Rattle.hx_session.specs.Exchanged.{exchange_now}
use Rattle.hx_session.proofs.LeavingLemmas.{told_leaves}
use Rattle.hx_session.specs.Seen.{own_seen}
use Rattle.hx_session.proofs.OwningLemmas.{none_own, own_here}
use Rattle.hx_session.proofs.PausedLemmas.{moved_where}
use Rattle.hx_session.proofs.DecidedLemmas.{answering_decides, own_only}
use Rattle.hx_session.specs.Decided.{CameDecides, ClientComes}
use Rattle.hx_session.proofs.DecidedLemmas.{not_reading, not_there}
use Rattle.hx_session.proofs.phases.meet_client_late.Goals as goal

pub returns-in-Reading : goal.returns-in-Reading
returns-in-Reading g c =
    let f = g.S.HasHistory.history in
    let d : DeskNow = desk_now g.L.Link.state c.args.desk.now in
    let d2 : DeskNow = desk_now g.L.Link.state c.read_late.new.desk in
    let seats : List History = map f c.args.seats.now in
    let net = g.N.Net.state c.args.net.now in
    let p = subst (λ (x : Stage g.row.L.Denot). IsPlaced d (stage_now x) seats) c.in-Reading.is c.requires.placed in
    record {
      goes = subst (λ (x : Stage g.row.L.Denot). Goes d (stage_now x) seats net d2 c.read_late.result seats net) (sym c.in-Reading.is) (c.read_late.ensures.goes seats net p);
      rooms = rooms_none g.S.HasHistory.history (room_of g.S.HasHistory.kept_from g.S.HasHistory.spare) c.args.seats.now;
      own = λ status taken k. absurd (none_own (own_seen (stage_now c.args.stage)) status (ap (λ (x : Stage g.row.L.Denot). own_seen (stage_now x)) c.in-Reading.is) k.1);
      still = moved_where c.read_late.result (λ s w. (d2 ≡ d) × (s ≡ stage_now c.args.stage)) c.read_late.ensures.moved;
      decides = λ limits moment comes is. subst (λ (x : Stage g.row.L.Denot). CameDecides limits moment d (stage_now x) net d2 c.read_late.result net) (sym c.in-Reading.is)
          (c.read_late.ensures.decides limits moment net (subst (λ (x : Stage g.row.L.Denot). ClientComes limits moment d (stage_now x)) c.in-Reading.is comes) is);
      left = λ limits moment k. c.read_late.ensures.left limits moment k;
    }

pub returns-in-Choosing : goal.returns-in-Choosing
returns-in-Choosing g c =
    let f = g.S.HasHistory.history in
    let d : DeskNow = desk_now g.L.Link.state c.args.desk.now in
    let d2 : DeskNow = desk_now g.L.Link.state c.choose_late.new.desk in
    let seats : List History = map f c.args.seats.now in
    let net = g.N.Net.state c.args.net.now in
    let p = subst (λ (x : Stage g.row.L.Denot). IsPlaced d (stage_now x) seats) c.in-Choosing.is c.requires.placed in
    record {
      goes = subst (λ (x : Stage g.row.L.Denot). Goes d (stage_now x) seats net d2 c.choose_late.result seats net) (sym c.in-Choosing.is) (c.choose_late.ensures.goes seats net p);
      rooms = rooms_none g.S.HasHistory.history (room_of g.S.HasHistory.kept_from g.S.HasHistory.spare) c.args.seats.now;
      own = λ status taken k. absurd (none_own (own_seen (stage_now c.args.stage)) status (ap (λ (x : Stage g.row.L.Denot). own_seen (stage_now x)) c.in-Choosing.is) k.1);
      still = moved_where c.choose_late.result (λ s w. (d2 ≡ d) × (s ≡ stage_now c.args.stage)) c.choose_late.ensures.moved;
      decides = λ limits moment comes is. subst (λ (x : Stage g.row.L.Denot). CameDecides limits moment d (stage_now x) net d2 c.choose_late.result net) (sym c.in-Choosing.is)
          (c.choose_late.ensures.decides limits moment net (not_reading limits moment d (stage_now c.args.stage) _ (ap stage_now c.in-Choosing.is) (λ held z. cc) comes) is);
      left = λ limits moment k. c.choose_late.ensures.left limits moment;
    }

pub returns-in-Answering : goal.returns-in-Answering
returns-in-Answering g c =
    let f = g.S.HasHistory.history in
    let d : DeskNow = desk_now g.L.Link.state c.args.desk.now in
    let d2 : DeskNow = desk_now g.L.Link.state c.leave_answering.new.desk in
    let seats : List History = map f c.args.seats.now in
    let net = g.N.Net.state c.args.net.now in
    let p = subst (λ (x : Stage g.row.L.Denot). IsPlaced d (stage_now x) seats) c.in-Answering.is c.requires.placed in
    record {
      goes = subst (λ (x : Stage g.row.L.Denot). Goes d (stage_now x) seats net d2 c.leave_answering.result seats net) (sym c.in-Answering.is) (c.leave_answering.ensures.goes seats net p);
      rooms = rooms_none g.S.HasHistory.history (room_of g.S.HasHistory.kept_from g.S.HasHistory.spare) c.args.seats.now;
      own = λ status taken k. own_here c.in-Answering.answering.status status d.client.taken_count taken d2 c.leave_answering.result (sym (ap (λ (x : Stage g.row.L.Denot). own_seen (stage_now x)) c.in-Answering.is) ∙ k.1) k.0 c.leave_answering.ensures.own;
      still = moved_where c.leave_answering.result (λ s w. (d2 ≡ d) × (s ≡ stage_now c.args.stage)) c.leave_answering.ensures.moved;
      decides = λ limits moment comes is. subst (λ (x : Stage g.row.L.Denot). CameDecides limits moment d (stage_now x) net d2 c.leave_answering.result net) (sym c.in-Answering.is)
          (answering_decides limits moment d d2 _ net net c.leave_answering.result c.leave_answering.ensures.moved (own_only _ _ d2 c.leave_answering.result c.leave_answering.ensures.own));
      left = λ limits moment k. c.leave_answering.ensures.left limits moment k;
    }

pub returns-in-Exchanging-clause-left : goal.returns-in-Exchanging-clause-left
returns-in-Exchanging-clause-left g c = λ limits moment k.
    let d : DeskNow = desk_now g.L.Link.state c.args.desk.now in
    let d2 : DeskNow = desk_now g.L.Link.state c.cut_late.new.desk in
    told_leaves limits moment d d2 d2 (exchange_now c.in-Exchanging.exchange) c.cut_late.result c.cut_late.ensures.goes.told

pub returns-in-Exchanging-clause-own : goal.returns-in-Exchanging-clause-own
returns-in-Exchanging-clause-own g c = λ status taken k. absurd (none_own (own_seen (stage_now c.args.stage)) status (ap (λ (x : Stage g.row.L.Denot). own_seen (stage_now x)) c.in-Exchanging.is) k.1)

pub returns-in-Exchanging-clause-still : goal.returns-in-Exchanging-clause-still
returns-in-Exchanging-clause-still g c =
    let d : DeskNow = desk_now g.L.Link.state c.args.desk.now in
    let d2 : DeskNow = desk_now g.L.Link.state c.cut_late.new.desk in
    moved_where c.cut_late.result (λ s w. (d2 ≡ d) × (s ≡ stage_now c.args.stage)) c.cut_late.ensures.moved

pub returns-in-Exchanging-clause-decides : goal.returns-in-Exchanging-clause-decides
returns-in-Exchanging-clause-decides g c = λ limits moment comes is.
    let d : DeskNow = desk_now g.L.Link.state c.args.desk.now in
    let d2 : DeskNow = desk_now g.L.Link.state c.cut_late.new.desk in
    subst (λ (x : Stage g.row.L.Denot). CameDecides limits moment d (stage_now x) (g.N.Net.state c.args.net.now) d2 c.cut_late.result (g.N.Net.state c.cut_late.new.net)) (sym c.in-Exchanging.is)
    (c.cut_late.ensures.decides limits moment (not_reading limits moment d (stage_now c.args.stage) _ (ap stage_now c.in-Exchanging.is) (λ held z. cc) comes) is)

pub returns-in-Left-clause-decides : goal.returns-in-Left-clause-decides
returns-in-Left-clause-decides g c = λ limits moment comes is. not_there limits moment (desk_now g.L.Link.state c.args.desk.now) (stage_now c.args.stage) (g.N.Net.state c.args.net.now) _ (ap stage_now c.in-Left.is)
