use Rattle.std.proofs.Common.{All, subst, arith}
use Rattle.std.proofs.lemmas.List.{take_all}
use Rattle.std.proofs.lemmas.List.Elements.{All-more}
use Rattle.hx_script.specs.PrintedForm.{IsToldMark}
use Rattle.hx_told.proofs.servers.are_told.Goals as goal

pub loop-mark-preserved : goal.loop-mark-preserved
loop-mark-preserved c = All-more IsToldMark c.args.marks.now c.loop-mark.mark-index _ (omega arith) c.loop-mark.invariant (c.is_told.ensures.told c.if-not-is_told.false)

pub returns : goal.returns
returns c = record { told = λ _. subst (All IsToldMark) (take_all c.loop-mark.mark-index c.args.marks.now (omega arith)) c.loop-mark.invariant }
