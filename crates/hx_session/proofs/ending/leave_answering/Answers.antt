use Rattle.std.proofs.Common.{refl, inl, arith, sym, ap, subst, ◌∙◌}
use Rattle.hx_session.specs.Desks.{desk_now, DeskNow}
use Rattle.hx_session.specs.Stages.{own_stage}
use Rattle.hx_session.proofs.StandingLemmas.{goes_ends, own_leaves, own_keeps, place_in}
use Rattle.hx_session.proofs.TellLemmas.{own_told}
use Rattle.hx_session.proofs.StaysLemmas.{own_given}
use Rattle.hx_session.proofs.PickLemmas.{held_none}
use Rattle.hx_session.specs.declared.stage.Came.{Came}
use Rattle.hx_session.specs.Leaving.{CameLeaves}
use Rattle.hx_session.proofs.LeavingLemmas.{own_leaves_by}
use Rattle.hx_link.specs.Told.{LinkState}
use Rattle.hx_record.specs.declared.served.Served.{Served}
use Rattle.hx_session.specs.Owning.{CameOwn}
use Rattle.hx_session.specs.Still.{HasMoved}
use Rattle.hx_session.proofs.ending.leave_answering.Goals as goal

pub tell_own-served-requires : goal.tell_own-served-requires
tell_own-served-requires g c = record {
  few = c.requires.counted.few;
  within = omega (arith, c.requires.counted.ordered, c.requires.stands.desk.few_taken);
}

pub returns : goal.returns
returns g c = record {
  goes = λ seats net p.
      let d : DeskNow = desk_now g.L.Link.state c.args.desk.now in
      let d1 : DeskNow = desk_now g.L.Link.state c.tell_own-served.new.desk in
      let d2 : DeskNow = desk_now g.L.Link.state c.drop_waiting.new.self in
      let status = c.args.answering.status in
      let held = c.args.answering.held in
      goes_ends d d2 (own_stage status held) seats seats net net c.leave_after.result _ c.leave_after.ensures
      (place_in d d2 seats net (own_keeps d d1 d2 c.tell_own-served.ensures.next c.drop_waiting.ensures))
      (own_leaves d d1 d2 status held seats c.tell_own-served.ensures.next c.drop_waiting.ensures p) (inl (refl, refl, refl, tt, own_given d status d.taken held c.tell_own-served.result c.tell_own-served.ensures.served))
      (own_told d d1 d2 status held c.tell_own-served.result c.args.left c.requires.going p.set.stands c.requires.cause c.tell_own-served.ensures.served c.tell_own-served.ensures.next c.drop_waiting.ensures)
      (λ none. (held_none held none, refl));
  left = λ limits moment k.
      let d : DeskNow = desk_now g.L.Link.state c.args.desk.now in
      let d1 : DeskNow = desk_now g.L.Link.state c.tell_own-served.new.desk in
      let d2 : DeskNow = desk_now g.L.Link.state c.drop_waiting.new.self in
      let keeps = own_keeps d d1 d2 c.tell_own-served.ensures.next c.drop_waiting.ensures in
      let client = ap (λ (x : DeskNow). x.client) c.drop_waiting.ensures ∙ ap (λ (x : DeskNow). x.client) c.tell_own-served.ensures.next in
      subst (λ (x : Came g.row.L.Denot). CameLeaves limits moment d2 x) (sym c.leave_after.ensures) (own_leaves_by limits moment d d2 c.args.left client keeps.who.since c.requires.cause k);
  moved = subst (λ (x : Came g.row.L.Denot). HasMoved x) (sym c.leave_after.ensures) tt;
  own =
      let d : DeskNow = desk_now g.L.Link.state c.args.desk.now in
      let d2 : DeskNow = desk_now g.L.Link.state c.drop_waiting.new.self in
      let status = c.args.answering.status in
      let client = ap (λ (x : DeskNow). x.client) c.drop_waiting.ensures ∙ ap (λ (x : DeskNow). x.client) c.tell_own-served.ensures.next in
      subst (λ (x : Came g.row.L.Denot). CameOwn status d.client.taken_count d2 x) (sym c.leave_after.ensures)
      (ap (λ (l : LinkState). l.taken_count) client, (c.tell_own-served.result, refl, ap (λ (r : Served). r.kind) c.tell_own-served.ensures.served));
}
