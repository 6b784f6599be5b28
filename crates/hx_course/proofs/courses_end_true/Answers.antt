use Rattle.hx_course.proofs.EndLemmas.{records_end, clients_end, conns_end, dials_end, sessions_end}
use Rattle.hx_course.proofs.courses_end_true.Goals as goal

pub returns-clause-records : goal.returns-clause-records
returns-clause-records c = records_end

pub returns-clause-clients : goal.returns-clause-clients
returns-clause-clients c = clients_end

pub returns-clause-conns : goal.returns-clause-conns
returns-clause-conns c = conns_end

pub returns-clause-dials : goal.returns-clause-dials
returns-clause-dials c = dials_end

pub returns-clause-sessions : goal.returns-clause-sessions
returns-clause-sessions c = sessions_end
