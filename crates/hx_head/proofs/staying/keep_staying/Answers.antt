use Rattle.std.proofs.Common.{false, arith}
use Rattle.std.proofs.lemmas.List.{get_or-replicate}
use Rattle.hx_head.proofs.staying.keep_staying.Goals as goal

pub mark_named-requires-clause-none : goal.mark_named-requires-clause-none
mark_named-requires-clause-none c k lt = get_or-replicate 100 k false false (omega (arith, lt, c.requires.few))
