use Rattle.hx_session.proofs.LackLemmas.{not_out}
use Rattle.std.proofs.Common.{List, map, sym, subst, ap, ◌∙◌, refl}
use Rattle.hx_pool.specs.SeatView.{History}
use Rattle.hx_connecting.specs.Journals.{room_of}
use Rattle.hx_connecting.proofs.RoomLemmas.{rooms_none}
use Rattle.hx_session.specs.declared.stage.Stage.{Stage}
use Rattle.hx_session.specs.Desks.{desk_now, DeskNow}
use Rattle.hx_session.specs.Stages.{stage_now}
use Rattle.hx_session.specs.Standing.{IsPlaced, Goes}
use Rattle.std.proofs.Common.{None}
use Rattle.hx_link.specs.Nets.{NetState}
use Rattle.hx_session.specs.declared.stage.Came.TheVariants.{Moved}
use Rattle.hx_session.proofs.PartLemmas.{goes_to}
use Rattle.hx_session.specs.First.{IsFresh}
use Rattle.hx_session.proofs.FirstLemmas.{answering_not}
use Rattle.hx_session.specs.Exchanged.{exchange_now}
use Rattle.hx_session.proofs.LeavingLemmas.{told_leaves}
use Rattle.hx_session.specs.Seen.{own_seen}
use Rattle.hx_session.proofs.OwningLemmas.{none_own, own_here}
use Rattle.hx_session.proofs.PausedLemmas.{phase_idle}
use Rattle.hx_session.specs.Waiting.{PausedOrChosen}
use Rattle.hx_session.specs.Stages.{Reading as Wanting, Exchanging as Carrying, stage_of_answering}
use Rattle.hx_session.specs.Standing.{IsGood}
use Rattle.hx_session.proofs.DecidedLemmas.{own_lacks, unserved_answer, not_there}
use Rattle.hx_session.specs.Decided.{CameDecides}
use Rattle.hx_session.specs.Decided.{OutOf}
use Rattle.hx_session.proofs.phases.do_stage.Goals as goal

pub returns-in-Reading : goal.returns-in-Reading
returns-in-Reading g c =
    let f = g.S.HasHistory.history in
    let d : DeskNow = desk_now g.L.Link.state c.args.desk.now in
    let d2 : DeskNow = desk_now g.L.Link.state c.read_head.new.desk in
    let seats : List History = map f c.args.seats.now in
    let net = g.N.Net.state c.args.net.now in
    let p = subst (λ (x : Stage g.row.L.Denot). IsPlaced d (stage_now x) seats) c.in-Reading.is c.requires.placed in
    record {
      goes = subst (λ (x : Stage g.row.L.Denot). Goes d (stage_now x) seats net d2 c.read_head.result seats net) (sym c.in-Reading.is) (c.read_head.ensures.goes seats net p);
      rooms = rooms_none g.S.HasHistory.history (room_of g.S.HasHistory.kept_from g.S.HasHistory.spare) c.args.seats.now;
      own = λ status taken k. absurd (none_own (own_seen (stage_now c.args.stage)) status (ap (λ (x : Stage g.row.L.Denot). own_seen (stage_now x)) c.in-Reading.is) k.1);
      still = λ d0 s0 moment k. phase_idle d0 d d2 s0 (Wanting c.in-Reading.held) moment c.read_head.result (subst (λ (x : Stage g.row.L.Denot). PausedOrChosen d0 s0 d (stage_now x) moment) c.in-Reading.is k) c.read_head.ensures.still;
      out = λ yes. absurd (not_out (stage_now c.args.stage) _ (ap stage_now c.in-Reading.is) refl yes);
      decides = λ limits moment h. subst (λ (x : Stage g.row.L.Denot). CameDecides limits moment d (stage_now x) net d2 c.read_head.result net) (sym c.in-Reading.is) (c.read_head.ensures.decides limits moment net);
      left = c.read_head.ensures.left;
      first = λ l x. c.read_head.ensures.first l (subst (λ (y : Stage g.row.L.Denot). IsFresh l d (stage_now y)) c.in-Reading.is x);
    }

pub returns-in-Answering : goal.returns-in-Answering
returns-in-Answering g c =
    let f = g.S.HasHistory.history in
    let d : DeskNow = desk_now g.L.Link.state c.args.desk.now in
    let d2 : DeskNow = desk_now g.L.Link.state c.end_answering.new.desk in
    let seats : List History = map f c.args.seats.now in
    let net = g.N.Net.state c.args.net.now in
    let p = subst (λ (x : Stage g.row.L.Denot). IsPlaced d (stage_now x) seats) c.in-Answering.is c.requires.placed in
    record {
      goes = subst (λ (x : Stage g.row.L.Denot). Goes d (stage_now x) seats net d2 c.end_answering.result seats net) (sym c.in-Answering.is) (c.end_answering.ensures.goes seats net p);
      rooms = rooms_none g.S.HasHistory.history (room_of g.S.HasHistory.kept_from g.S.HasHistory.spare) c.args.seats.now;
      own = λ status taken k. own_here c.in-Answering.answering.status status d.client.taken_count taken d2 c.end_answering.result (sym (ap (λ (x : Stage g.row.L.Denot). own_seen (stage_now x)) c.in-Answering.is) ∙ k.1) k.0 c.end_answering.ensures.own;
      still = λ d0 s0 moment k. phase_idle d0 d d2 s0 (stage_of_answering c.in-Answering.answering) moment c.end_answering.result (subst (λ (x : Stage g.row.L.Denot). PausedOrChosen d0 s0 d (stage_now x) moment) c.in-Answering.is k) c.end_answering.ensures.still;
      out = λ yes. absurd (not_out (stage_now c.args.stage) _ (ap stage_now c.in-Answering.is) refl yes);
      decides = λ limits moment h. subst (λ (x : Stage g.row.L.Denot). CameDecides limits moment d (stage_now x) net d2 c.end_answering.result net) (sym c.in-Answering.is) (c.end_answering.ensures.decides limits moment net);
      left = c.end_answering.ensures.left;
      first = λ l x. absurd (answering_not _ x.held (sym (ap stage_now c.in-Answering.is) ∙ x.is));
    }

pub returns-in-Choosing-clause-goes : goal.returns-in-Choosing-clause-goes
returns-in-Choosing-clause-goes g c =
    let f = g.S.HasHistory.history in
    let d : DeskNow = desk_now g.L.Link.state c.args.desk.now in
    let d2 : DeskNow = desk_now g.L.Link.state c.go_out-stage.new.desk in
    let olds : List History = map f c.args.seats.now in
    let news : List History = map f c.go_out-stage.new.seats in
    let net : NetState = g.N.Net.state c.args.net.now in
    let net2 : NetState = g.N.Net.state c.go_out-stage.new.net in
    subst (λ (x : Stage g.row.L.Denot). Goes d (stage_now x) olds net d2 (Moved c.go_out-stage.result c.args.scene.waits None) news net2) (sym c.in-Choosing.is)
    (goes_to d d2 _ olds news net net2 c.go_out-stage.result c.args.scene.waits c.go_out-stage.ensures.comes c.go_out-stage.ensures.comes.told)

pub returns-in-Exchanging-clause-left : goal.returns-in-Exchanging-clause-left
returns-in-Exchanging-clause-left g c = λ limits moment.
    let d : DeskNow = desk_now g.L.Link.state c.args.desk.now in
    let d2 : DeskNow = desk_now g.L.Link.state c.go_on.new.desk in
    told_leaves limits moment d d2 d2 (exchange_now c.in-Exchanging.exchange) c.go_on.result c.go_on.ensures.goes.told

pub returns-in-Choosing-clause-own : goal.returns-in-Choosing-clause-own
returns-in-Choosing-clause-own g c = λ status taken k. absurd (none_own (own_seen (stage_now c.args.stage)) status (ap (λ (x : Stage g.row.L.Denot). own_seen (stage_now x)) c.in-Choosing.is) k.1)

pub returns-in-Exchanging-clause-own : goal.returns-in-Exchanging-clause-own
returns-in-Exchanging-clause-own g c = λ status taken k. absurd (none_own (own_seen (stage_now c.args.stage)) status (ap (λ (x : Stage g.row.L.Denot). own_seen (stage_now x)) c.in-Exchanging.is) k.1)

pub returns-in-Exchanging-clause-still : goal.returns-in-Exchanging-clause-still
returns-in-Exchanging-clause-still g c = λ d0 s0 moment k.
    let d : DeskNow = desk_now g.L.Link.state c.args.desk.now in
    let d2 : DeskNow = desk_now g.L.Link.state c.go_on.new.desk in
    phase_idle d0 d d2 s0 (Carrying (exchange_now c.in-Exchanging.exchange)) moment c.go_on.result (subst (λ (x : Stage g.row.L.Denot). PausedOrChosen d0 s0 d (stage_now x) moment) c.in-Exchanging.is k) c.go_on.ensures.still

pub returns-in-Left-clause-still : goal.returns-in-Left-clause-still
returns-in-Left-clause-still g c = λ d0 s0 moment k. absurd (subst (λ (x : Stage g.row.L.Denot). IsGood (stage_now x)) c.in-Left.is c.requires.placed.good)

pub returns-in-Exchanging-clause-decides : goal.returns-in-Exchanging-clause-decides
returns-in-Exchanging-clause-decides g c = λ limits moment h.
    let d : DeskNow = desk_now g.L.Link.state c.args.desk.now in
    let d2 : DeskNow = desk_now g.L.Link.state c.go_on.new.desk in
    subst (λ (x : Stage g.row.L.Denot). CameDecides limits moment d (stage_now x) (g.N.Net.state c.args.net.now) d2 c.go_on.result (g.N.Net.state c.go_on.new.net)) (sym c.in-Exchanging.is) (c.go_on.ensures.decides limits moment)

pub returns-in-Choosing-clause-decides : goal.returns-in-Choosing-clause-decides
returns-in-Choosing-clause-decides g c = λ limits moment h.
    let d : DeskNow = desk_now g.L.Link.state c.args.desk.now in
    let d2 : DeskNow = desk_now g.L.Link.state c.go_out-stage.new.desk in
    let net : NetState = g.N.Net.state c.args.net.now in
    let net2 : NetState = g.N.Net.state c.go_out-stage.new.net in
    let f = g.S.HasHistory.history in
    own_lacks limits moment d (stage_now c.args.stage) net d2 net2 c.go_out-stage.result 503 c.go_out-stage.ensures.own (λ status is. unserved_answer limits moment d (stage_now c.args.stage) net net2 (h (subst (λ (x : Stage g.row.L.Denot). OutOf d.session (stage_now x) (map f c.args.seats.now) (map f c.go_out-stage.new.seats) net net2) (sym c.in-Choosing.is) (c.go_out-stage.ensures.lacks status is))))

pub returns-in-Left-clause-decides : goal.returns-in-Left-clause-decides
returns-in-Left-clause-decides g c = λ limits moment h. not_there limits moment (desk_now g.L.Link.state c.args.desk.now) (stage_now c.args.stage) (g.N.Net.state c.args.net.now) _ (ap stage_now c.in-Left.is)
