use Rattle.std.proofs.Common.{arith, subst}
use Rattle.hx_base.specs.declared.numbers.Face.{Face}
use Rattle.hx_link.specs.Told.{LinkState}
use Rattle.hx_link.specs.Nets.{NetBuries}
use Rattle.hx_pool.specs.Causes.{caretaker}
use Rattle.hx_pool.specs.Opening.{Closes}
use Rattle.hx_caretaker.proofs.SweepLemmas.{journal_by}
use Rattle.hx_caretaker.proofs.sweep.close_taken.Goals as goal

pub returns : goal.returns
returns g c =
    let h = g.S.HasHistory.history in let state = g.N.Net.state in record {
      closes = subst (λ (f : Face). Closes (h c.args.seat.now) (h c.close.new.self) caretaker f.id) c.face.ensures c.close.ensures.answer;
      rested = c.end.ensures.meaning;
      buries = subst (λ (l : LinkState). NetBuries (state c.args.net.now) (state c.bury.new.self) l) c.end.ensures.link c.bury.ensures.buries;
      journal = journal_by _ _ _ _ _ _ _ _ 1 c.close.ensures.answer.makes c.close.ensures.grows c.close.ensures.kept (omega arith);
    }
