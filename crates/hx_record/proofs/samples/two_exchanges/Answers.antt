use Rattle.hx_record.proofs.TrueSamples.{first_true, second_true, two_client, two_conn}
use Rattle.hx_record.proofs.samples.two_exchanges.Goals as goal

pub returns-clause-first_is_true : goal.returns-clause-first_is_true
returns-clause-first_is_true c = first_true

pub returns-clause-second_is_true : goal.returns-clause-second_is_true
returns-clause-second_is_true c = second_true

pub returns-clause-client : goal.returns-clause-client
returns-clause-client c = two_client

pub returns-clause-conn : goal.returns-clause-conn
returns-clause-conn c = two_conn
