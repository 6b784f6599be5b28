use Rattle.std.proofs.Common.{◌≡◌, ◌≤◌, min, drop}
use Rattle.hx_config_parts.specs.Numbers.{value, value_from}
use Rattle.hx_config_parts.proofs.numbers.value_of.Given as goal

abbrev pub invariant-loop-b : goal.invariant-loop-b
invariant-loop-b l = record {
  small : l.n ≤ 1000000000000000;
  same : min (value_from l.n (drop l.b-index l.word)) 1000000000000000 ≡ min (value l.word) 1000000000000000;
}
