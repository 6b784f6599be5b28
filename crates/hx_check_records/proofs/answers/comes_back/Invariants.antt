use Rattle.std.proofs.Common.{◌↔◌, length}
use Rattle.hx_check_records.specs.Exchanges.{ComesBack}
use Rattle.hx_check_records.proofs.answers.comes_back.Given as goal

abbrev pub invariant-heads : goal.invariant-heads
invariant-heads l = ComesBack l.method l.closing l.took l.gave ↔ ComesBack l.method l.closing l.rest l.left

abbrev pub decreases-heads : goal.decreases-heads
decreases-heads l = length l.rest
