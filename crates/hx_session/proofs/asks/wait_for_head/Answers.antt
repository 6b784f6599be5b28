use Rattle.std.proofs.Common.{◌≡◌, false, true, inl, refl, sym, ◌∙◌, subst}
use Rattle.hx_session.specs.Desks.{desk_now, DeskNow}
use Rattle.hx_session.specs.declared.stage.Stage.TheVariants.{Reading}
use Rattle.hx_session.proofs.PartLemmas.{goes_away, goes_still}
use Rattle.hx_session.specs.declared.stage.Came.{Came}
use Rattle.hx_session.specs.Leaving.{CameLeaves}
use Rattle.hx_session.proofs.LeavingLemmas.{between_none}
use Rattle.hx_session.specs.Waiting.{LeavesNothing}
use Rattle.hx_session.specs.Stages.{Reading as Wanting}
use Rattle.hx_session.proofs.DecidedLemmas.{ends_none, far_self}
use Rattle.hx_session.specs.Decided.{CameDecides}
use Rattle.hx_record.specs.declared.served.LeftCause.TheVariants as left_cause
use Rattle.std.proofs.Common.{None}
use Rattle.hx_session.proofs.asks.wait_for_head.Goals as goal

false_true : false ≡ true → ⊥
false_true e = cc

pub returns-then-desk : goal.returns-then-desk
returns-then-desk g c = record {
  goes = λ seats net p.
      let d : DeskNow = desk_now g.L.Link.state c.args.desk.now in
      goes_away d d c.args.held c.leave.result _ seats net refl c.leave.ensures refl refl (inl refl) c.requires.between p;
  first = λ l f. absurd (false_true (sym f.ended ∙ c.if-desk.true));
  left = λ limits moment.
      let d : DeskNow = desk_now g.L.Link.state c.args.desk.now in
      subst (λ (x : Came g.row.L.Denot). CameLeaves limits moment d x) (sym c.leave.ensures)
      (c.requires.between.anew.desk.ended c.if-desk.true, between_none d c.requires.between c.requires.more.1);
  decides = λ limits moment net.
      let d : DeskNow = desk_now g.L.Link.state c.args.desk.now in
      subst (λ (x : Came g.row.L.Denot). CameDecides limits moment d (Wanting c.args.held) net d x net) (sym c.leave.ensures) (ends_none {X = g.row.L.Denot} limits moment d (Wanting c.args.held) net d net (record { cause = left_cause.End; held = c.args.held; served = None }) refl);
  still =
      let d : DeskNow = desk_now g.L.Link.state c.args.desk.now in
      subst (λ (x : Came g.row.L.Denot). LeavesNothing d (Wanting c.args.held) d x) (sym c.leave.ensures) tt;
}

pub returns-else-desk : goal.returns-else-desk
returns-else-desk g c = record {
  goes = λ seats net p.
      let d : DeskNow = desk_now g.L.Link.state c.args.desk.now in
      goes_still d d (Reading c.args.held) c.args.waits seats net refl p;
  first = λ l f. record { held = f.held; is = f.is; client = f.client; from = f.from; room = f.room; to = f.to; ended = f.ended };
  left = λ limits moment. tt;
  decides = λ limits moment net. far_self (desk_now g.L.Link.state c.args.desk.now) (Wanting c.args.held) net;
  still = (refl, refl, (c.if-desk.false, c.requires.more));
}
