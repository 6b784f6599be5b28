use Rattle.std.proofs.Common.{◌∙◌, sym, ap, length}
use Rattle.hx_plain.proofs.Chosen.{took_best}
use Rattle.hx_plain.proofs.take.take_best.Goals as goal

pub returns-clause-took : goal.returns-clause-took
returns-clause-took g c =
    let best = rw c.as_slice.ensures.value at c.in-Some.ensures in
    let counted = c.len-count.ensures ∙ (sym c.as_slice.ensures.len ∙ ap length c.as_slice.ensures.value) in
    took_best g.V.Faced.shows c.args.ledger.now c.leave.new.ledger c.args.resting.now.items c.remove-rest.new.self.items c.args.taker.t c.args.taker.n c.args.taker.first c.args.mode c.in-Some.i best
    c.remove-rest.result c.remove-rest.ensures.value c.remove-rest.ensures.items c.face-face.result c.face-face.ensures c.len-count.result counted c.leave.ensures
