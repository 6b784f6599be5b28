use Rattle.hx_record.proofs.FollowSamples.{covers_first, follows_first, not_behind_gap, not_told_again, covers_conn, follows_conn, not_counted_again, not_read_on}
use Rattle.hx_record.proofs.samples.records_follow.Goals as goal

pub returns-clause-client : goal.returns-clause-client
returns-clause-client c = covers_first

pub returns-clause-second : goal.returns-clause-second
returns-clause-second c = follows_first

pub returns-clause-gap : goal.returns-clause-gap
returns-clause-gap c = not_behind_gap

pub returns-clause-told_again : goal.returns-clause-told_again
returns-clause-told_again c = not_told_again

pub returns-clause-conn : goal.returns-clause-conn
returns-clause-conn c = covers_conn

pub returns-clause-second_on_conn : goal.returns-clause-second_on_conn
returns-clause-second_on_conn c = follows_conn

pub returns-clause-counted_again : goal.returns-clause-counted_again
returns-clause-counted_again c = not_counted_again

pub returns-clause-read_on : goal.returns-clause-read_on
returns-clause-read_on c = not_read_on
