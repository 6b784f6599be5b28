use Rattle.std.proofs.Common.{ap, arith, length, refl, sym, subst, ◌∙◌}
use Rattle.hx_link.specs.Pipes.{PipeNow}
use Rattle.hx_session.specs.Desks.{desk_now, DeskNow}
use Rattle.hx_session.specs.Ending.{HasOwnText}
use Rattle.hx_session.specs.declared.stage.Stage.TheVariants.{Reading}
use Rattle.hx_session.proofs.OwnLemmas.{fault_text}
use Rattle.hx_session.proofs.PartLemmas.{goes_choosing}
use Rattle.hx_session.specs.Stages.{Reading}
use Rattle.hx_session.specs.Standing.{Goes, IsPlaced}
use Rattle.std.proofs.lemmas.List.{nil_from_length}
use Rattle.hx_session.proofs.LeavingLemmas.{empty_more}
use Rattle.hx_session.specs.Waiting.{LeavesNothing}
use Rattle.hx_session.proofs.DecidedLemmas.{own_moved, own_stage_is, refused_cause, unowned}
use Rattle.hx_session.specs.Decided.{CameDecides}
use Rattle.hx_session.specs.Stages.{stage_of_choosing}
use Rattle.hx_session.proofs.asks.read_head.Goals as goal

pub answer-stage-requires-clause-known : goal.answer-stage-requires-clause-known
answer-stage-requires-clause-known g c = subst HasOwnText (sym c.status.ensures) (fault_text c.in-Refused.fault)

pub returns-in-Whole : goal.returns-in-Whole
returns-in-Whole g c = record {
  goes = λ seats net p.
      let d : DeskNow = desk_now g.L.Link.state c.args.desk.now in
      let from : PipeNow = c.look_up.new.from in
      let server = c.held_server in
      goes_choosing d (record d { from = from }) c.args.held (record { length = c.in-Whole.asked.head.length; kind = c.in-Whole.asked.kind; server = server.result; held = c.args.held }) _ c.args.waits seats net
      (ap (λ (q : PipeNow). record d { from = q }) c.look_up.ensures.same) refl refl server.ensures (record { ask = c.in-Whole.asked; is = c.in-Whole.ensures.looks; length_is = refl; kind_is = refl }) p;
  first = λ l f. omega (arith, c.len.ensures.len, c.if-len-eq0.false, ap length f.from);
  left = λ limits moment. tt;
  still = tt;
  decides = λ limits moment net. unowned limits moment (desk_now g.L.Link.state c.args.desk.now) (Reading c.args.held) net (record (desk_now g.L.Link.state c.args.desk.now) { from = c.look_up.new.from }) net (stage_of_choosing {X = g.row.L.Denot} (record { length = c.in-Whole.asked.head.length; kind = c.in-Whole.asked.kind; server = c.held_server.result; held = c.args.held })) refl;
}

pub returns-in-More-clause-goes : goal.returns-in-More-clause-goes
returns-in-More-clause-goes g c = λ seats net p.
    let d : DeskNow = desk_now g.L.Link.state c.args.desk.now in
    let from : PipeNow = c.look_up.new.from in
    let d2 : DeskNow = record d { from = from } in
    let e = ap (λ (q : PipeNow). record d { from = q }) c.look_up.ensures.same in
    subst (λ (x : DeskNow). Goes x (Reading c.args.held) seats net d2 c.wait_for_head-in-More.result seats net) e
    (c.wait_for_head-in-More.ensures.goes seats net (subst (λ (x : DeskNow). IsPlaced x (Reading c.args.held) seats) (sym e) p))

pub wait_for_head-requires-clause-more : goal.wait_for_head-requires-clause-more
wait_for_head-requires-clause-more g c = empty_more c.args.desk.now.from.bytes (nil_from_length _ (sym c.len.ensures.len ∙ c.if-len-eq0.true))

pub returns-in-More-clause-still : goal.returns-in-More-clause-still
returns-in-More-clause-still g c =
    let d : DeskNow = desk_now g.L.Link.state c.args.desk.now in
    let d2 : DeskNow = record d { from = c.look_up.new.from } in
    subst (λ (x : DeskNow). LeavesNothing x (Reading c.args.held) d2 c.wait_for_head-in-More.result) (ap (λ (q : PipeNow). record d { from = q }) c.look_up.ensures.same) c.wait_for_head-in-More.ensures.still

pub returns-in-More-clause-decides : goal.returns-in-More-clause-decides
returns-in-More-clause-decides g c = λ limits moment net.
    let d : DeskNow = desk_now g.L.Link.state c.args.desk.now in
    let d2 : DeskNow = record d { from = c.look_up.new.from } in
    subst (λ (x : DeskNow). CameDecides limits moment x (Reading c.args.held) net d2 c.wait_for_head-in-More.result net) (ap (λ (q : PipeNow). record d { from = q }) c.look_up.ensures.same) (c.wait_for_head-in-More.ensures.decides limits moment net)

pub returns-in-Refused-clause-decides : goal.returns-in-Refused-clause-decides
returns-in-Refused-clause-decides g c = λ limits moment net.
    let d : DeskNow = desk_now g.L.Link.state c.args.desk.now in
    let d2 : DeskNow = desk_now g.L.Link.state c.answer-stage.new.desk in
    own_moved limits moment d (Reading c.args.held) net d2 net c.answer-stage.result c.status.result (own_stage_is _ c.status.result c.args.held c.answer-stage.ensures.stage)
    (refused_cause limits moment d c.args.held net c.in-Refused.fault c.status.result c.requires.between c.in-Refused.ensures.looks c.status.ensures)
