use Rattle.std.proofs.Common.{eq-eqb, ne_eqb}
use Rattle.hx_frame.proofs.KindLemmas.{persists_by, persists_not}
use Rattle.hx_frame.proofs.close.persists.Goals as goal

pub returns-then-head-eq1 : goal.returns-then-head-eq1
returns-then-head-eq1 c g at =
    persists_by c.args.bytes.now c.args.head.now g c.has_close.result at c.has_close.ensures (eq-eqb c.args.head.now.minor 1 c.if-head-eq1.true)

pub returns-else-head-eq1 : goal.returns-else-head-eq1
returns-else-head-eq1 c g at = persists_not c.args.bytes.now c.args.head.now g at (ne_eqb c.args.head.now.minor 1 c.if-head-eq1.false)
