use Rattle.std.proofs.Common.{◌≡◌, take, drop}
use Rattle.hx_config_parts.specs.Addresses.{cut_at}
use Rattle.hx_config_parts.proofs.Cuts.{behind}
use Rattle.hx_config_parts.proofs.addresses.cut.Given as goal

abbrev pub invariant-loop-i : goal.invariant-loop-i
invariant-loop-i l = behind (take l.i l.word) (cut_at l.mark (drop l.i l.word)) ≡ cut_at l.mark l.word
