use Rattle.std.proofs.Common.{◌∙◌, sym, ap, length}
use Rattle.hx_plain.proofs.Chosen.{swept}
use Rattle.hx_plain.proofs.sweep.sweep.Goals as goal

pub returns-clause-swept : goal.returns-clause-swept
returns-clause-swept g c =
    let scan = rw c.as_slice.ensures.value at c.in-Some.ensures in
    let counted = c.len-count.ensures ∙ (sym c.as_slice.ensures.len ∙ ap length c.as_slice.ensures.value) in
    swept g.V.Faced.shows c.args.ledger.now c.look_for_resting.new.ledger c.leave.new.ledger c.args.resting.now.items c.remove-rest.new.self.items c.args.t c.args.from c.in-Some.passed c.in-Some.i scan.0 scan.1 scan.2
    c.remove-rest.result c.remove-rest.ensures.value c.remove-rest.ensures.items c.face-face.result c.face-face.ensures c.len-count.result counted (rw c.caretaker_of.ensures at c.leave.ensures)
