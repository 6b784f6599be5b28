use Rattle.std.proofs.Common.{sym, ap}
use Rattle.hx_session.specs.Decided.{status_for}
use Rattle.hx_session.proofs.OwnLemmas.{timeout_text, unavailable_text, late_text}
use Rattle.hx_session.proofs.phases.own_of.Goals as goal

pub returns-in-Client : goal.returns-in-Client
returns-in-Client c = record { known = timeout_text; status = sym (ap status_for c.in-Client.is) }

pub returns-in-Connect : goal.returns-in-Connect
returns-in-Connect c = record { known = unavailable_text; status = sym (ap status_for c.in-Connect.is) }

pub returns-in-Server : goal.returns-in-Server
returns-in-Server c = record { known = late_text; status = sym (ap status_for c.in-Server.is) }
