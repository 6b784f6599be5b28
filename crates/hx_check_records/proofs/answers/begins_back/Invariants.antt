use Rattle.std.proofs.Common.{◌↔◌, length}
use Rattle.hx_check_records.specs.Exchanges.{BeginsBack}
use Rattle.hx_check_records.proofs.answers.begins_back.Given as goal

abbrev pub invariant-heads : goal.invariant-heads
invariant-heads l = BeginsBack l.closing l.took l.gave ↔ BeginsBack l.closing l.rest l.left

abbrev pub decreases-heads : goal.decreases-heads
decreases-heads l = length l.rest
