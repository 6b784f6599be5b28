use Rattle.std.proofs.Common.{◌≡◌, ◌+◌, drop}
use Rattle.std.specs.List.{prefix_len}
use Rattle.hx_config_parts.specs.Lexical.{is_kept}
use Rattle.hx_config_parts.proofs.lines.line_len.Given as goal

abbrev pub invariant-loop-i : goal.invariant-loop-i
invariant-loop-i l = l.i + prefix_len is_kept (drop l.i l.rest) ≡ prefix_len is_kept l.rest
