use Rattle.std.proofs.Common.{◌≡◌, ◌≤◌, ◌^◌, min, drop}
use Rattle.hx_config_parts.specs.Numbers.{value, value_from}
use Rattle.hx_transcripts_parts.proofs.numbers.value_of.Given as goal

abbrev pub invariant-loop-b : goal.invariant-loop-b
invariant-loop-b l = record {
  small : l.n ≤ 2 ^ 64;
  same : min (value_from l.n (drop l.b-index l.word)) (2 ^ 64) ≡ min (value l.word) (2 ^ 64);
}
