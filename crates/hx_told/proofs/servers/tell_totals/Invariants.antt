use Rattle.std.proofs.Common.{◌≡◌, take}
use Rattle.hx_told.specs.Servers.{all_sums}
use Rattle.hx_told.proofs.servers.tell_totals.Given as goal

abbrev pub invariant-loop-seat : goal.invariant-loop-seat
invariant-loop-seat g l = l.totals.items ≡ all_sums (take l.seat-index l.seats)
