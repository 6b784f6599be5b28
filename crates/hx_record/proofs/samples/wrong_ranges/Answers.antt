use Rattle.hx_record.proofs.WrongSamples.{asks_gap, sent_gap, late_record, ends_twice, first_is_two, second_is_three}
use Rattle.hx_record.proofs.samples.wrong_ranges.Goals as goal

pub returns-clause-gap_in_asks : goal.returns-clause-gap_in_asks
returns-clause-gap_in_asks c = asks_gap

pub returns-clause-gap_in_sent : goal.returns-clause-gap_in_sent
returns-clause-gap_in_sent c = sent_gap

pub returns-clause-told_after_end : goal.returns-clause-told_after_end
returns-clause-told_after_end c = late_record

pub returns-clause-left_twice : goal.returns-clause-left_twice
returns-clause-left_twice c = ends_twice

pub returns-clause-begins_at_two : goal.returns-clause-begins_at_two
returns-clause-begins_at_two c = first_is_two

pub returns-clause-leaves_out_two : goal.returns-clause-leaves_out_two
returns-clause-leaves_out_two c = second_is_three
