use Rattle.std.proofs.Common.{arith, sym}
use Rattle.std.proofs.lemmas.List.{take_all}
use Rattle.hx_head.proofs.request.front_of.Goals as goal

pub returns-then-bytes-lt-HEAD_LIMIT-clause-front : goal.returns-then-bytes-lt-HEAD_LIMIT-clause-front
returns-then-bytes-lt-HEAD_LIMIT-clause-front c = sym (take_all 16384 c.args.bytes.now (omega arith))
