use Rattle.std.proofs.Common.{◌≡◌, ◌+◌, drop}
use Rattle.std.specs.List.{prefix_len}
use Rattle.hx_config_parts.specs.Numbers.{is_digit}
use Rattle.hx_config_parts.proofs.numbers.digit_len.Given as goal

abbrev pub invariant-loop-i : goal.invariant-loop-i
invariant-loop-i l = l.i + prefix_len is_digit (drop l.i l.word) ≡ prefix_len is_digit l.word
