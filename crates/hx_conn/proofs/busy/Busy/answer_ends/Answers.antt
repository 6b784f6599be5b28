use Rattle.std.proofs.Common.{subst, sym}
use Rattle.hx_conn.specs.Conns.{BusyNow}
use Rattle.hx_conn.specs.Steps.{AnswerIsWhole}
use Rattle.hx_conn.proofs.ConnLemmas.{answer_keeps}
use Rattle.hx_conn.proofs.busy.Busy.answer_ends.Goals as goal

pub invariant_of-self : goal.invariant_of-self
invariant_of-self g c =
    let whole = subst (λ (b : BusyNow). AnswerIsWhole b c.args.length c.args.persistent) (sym c.self.view_is) c.requires in
    record {
      meaning = answer_keeps _ c.args.length c.args.persistent whole c.self.invariant.meaning;
      sent = c.self.invariant.sent;
      taken = c.self.invariant.taken;
    }
