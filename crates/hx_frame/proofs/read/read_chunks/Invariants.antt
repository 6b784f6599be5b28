use Rattle.std.proofs.Common.{◌≡◌, ◌≤◌, ◌+◌, ◌-◌, cond, length, drop, IsTrue}
use Rattle.hx_frame.specs.Chunks.{is_small, is_over, read_chunks, used_before}
use Rattle.hx_frame.proofs.read.read_chunks.Given as goal

abbrev pub invariant-loop-read : goal.invariant-loop-read
invariant-loop-read l = record {
  small : IsTrue (is_small l.read.state);
  within : l.read.used ≤ length l.piece;
  read : read_chunks l.fn.state l.piece ≡ used_before l.read.used (read_chunks l.read.state (drop l.read.used l.piece));
}

abbrev pub decreases-loop-read : goal.decreases-loop-read
decreases-loop-read l = length l.piece - l.read.used + cond (is_over l.read.state) 0 1
