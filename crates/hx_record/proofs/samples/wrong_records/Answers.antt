use Rattle.hx_record.proofs.WrongSamples.{gave, ask_short, too_low, too_high, other_given, closing_untold}
use Rattle.hx_record.proofs.samples.wrong_records.Goals as goal

pub returns-clause-gave_too_short : goal.returns-clause-gave_too_short
returns-clause-gave_too_short c = gave

pub returns-clause-ask_too_short : goal.returns-clause-ask_too_short
returns-clause-ask_too_short c = ask_short

pub returns-clause-number_too_low : goal.returns-clause-number_too_low
returns-clause-number_too_low c = too_low

pub returns-clause-number_too_high : goal.returns-clause-number_too_high
returns-clause-number_too_high c = too_high

pub returns-clause-other_answer_given : goal.returns-clause-other_answer_given
returns-clause-other_answer_given c = other_given

pub returns-clause-closed_untold : goal.returns-clause-closed_untold
returns-clause-closed_untold c = closing_untold
