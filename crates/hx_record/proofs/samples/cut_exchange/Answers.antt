use Rattle.hx_record.proofs.CutSampleLemmas.{cut_true, cut_short, cut_early}
use Rattle.hx_record.proofs.samples.cut_exchange.Goals as goal

pub returns-clause-is_true : goal.returns-clause-is_true
returns-clause-is_true c = cut_true

pub returns-clause-took_too_short : goal.returns-clause-took_too_short
returns-clause-took_too_short c = cut_short

pub returns-clause-not_early : goal.returns-clause-not_early
returns-clause-not_early c = cut_early
