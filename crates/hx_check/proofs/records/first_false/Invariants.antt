use Rattle.hx_check_parts.specs.Each.{HoldsBelow}
use Rattle.hx_check.specs.Records.{RecordIn}
use Rattle.hx_check.proofs.records.first_false.Given as goal

abbrev pub invariant-loop-k : goal.invariant-loop-k
invariant-loop-k l = HoldsBelow (RecordIn l.clients l.conns) l.records l.k
