use Rattle.std.proofs.Common.{drop}
use Rattle.hx_rows.specs.Stays.{NoneAt}
use Rattle.hx_rows.proofs.stays.index_at.Given as goal

abbrev pub invariant-loop-i : goal.invariant-loop-i
invariant-loop-i l = NoneAt l.place (drop l.i l.stays) → NoneAt l.place l.stays
