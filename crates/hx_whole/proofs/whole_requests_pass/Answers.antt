use Rattle.hx_whole.proofs.RequestLemmas.{requests_found, requests_end, requests_never_break, requests_end_once, requests_tell_close}
use Rattle.hx_whole.proofs.whole_requests_pass.Goals as goal

pub returns-clause-found : goal.returns-clause-found
returns-clause-found c = requests_found

pub returns-clause-ends : goal.returns-clause-ends
returns-clause-ends c = requests_end

pub returns-clause-never_breaks : goal.returns-clause-never_breaks
returns-clause-never_breaks c = requests_never_break

pub returns-clause-once : goal.returns-clause-once
returns-clause-once c = requests_end_once

pub returns-clause-close : goal.returns-clause-close
returns-clause-close c = requests_tell_close
