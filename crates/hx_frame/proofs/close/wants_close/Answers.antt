use Rattle.hx_frame.proofs.KindLemmas.{close_of_request}
use Rattle.hx_frame.proofs.close.wants_close.Goals as goal

pub returns : goal.returns
returns c g at = close_of_request c.args.bytes.now c.args.head.now g c.has_close.result at c.has_close.ensures
