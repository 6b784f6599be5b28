use Rattle.hx_check_parts.proofs.TotalsLemmas.{totals_more}
use Rattle.hx_check_parts.proofs.MarkLemmas.{no_entry}
use Rattle.hx_check_parts.proofs.sums.sums_of.Goals as goal

pub loop-mark-preserved : goal.loop-mark-preserved
loop-mark-preserved c =
    let more = totals_more c.args.marks.now c.loop-mark.mark-index no_entry c.loop-mark-test.true in
    cc
