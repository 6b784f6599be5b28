use Rattle.hx_record.proofs.TrueSamples.{one_true, one_client, one_conn}
use Rattle.hx_record.proofs.samples.one_exchange.Goals as goal

pub returns-clause-is_true : goal.returns-clause-is_true
returns-clause-is_true c = one_true

pub returns-clause-client : goal.returns-clause-client
returns-clause-client c = one_client

pub returns-clause-conn : goal.returns-clause-conn
returns-clause-conn c = one_conn
