use Rattle.hx_record.proofs.CutSampleLemmas.{own_true, own_in_part, own_short, own_other}
use Rattle.hx_record.proofs.samples.own_answers.Goals as goal

pub returns-clause-is_true : goal.returns-clause-is_true
returns-clause-is_true c = own_true

pub returns-clause-in_part : goal.returns-clause-in_part
returns-clause-in_part c = own_in_part

pub returns-clause-not_whole : goal.returns-clause-not_whole
returns-clause-not_whole c = own_short

pub returns-clause-other_status : goal.returns-clause-other_status
returns-clause-other_status c = own_other
