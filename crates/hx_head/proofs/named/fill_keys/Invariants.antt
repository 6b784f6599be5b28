use Rattle.hx_head.specs.Staying.{AreKeys}
use Rattle.hx_head.proofs.named.fill_keys.Given as goal

abbrev pub invariant-loop-i : goal.invariant-loop-i
invariant-loop-i l = AreKeys l.bytes l.fields l.i l.keys
