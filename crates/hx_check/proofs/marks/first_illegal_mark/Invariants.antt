use Rattle.std.proofs.Common.{◌≡◌, ℕ, ◌+◌, take}
use Rattle.hx_check_parts.specs.Each.{HoldsBelow, HoldsOfEach}
use Rattle.hx_script.specs.declared.transcript.ServerPart.{ServerPart}
use Rattle.hx_check.specs.Lines.{told_line, server_lines}
use Rattle.hx_check.specs.Rules.{LegalMark}
use Rattle.hx_check.proofs.marks.first_illegal_mark.Given as goal

abbrev pub invariant-loop-k : goal.invariant-loop-k
invariant-loop-k l = record {
  below : HoldsBelow (λ (i : ℕ) (p : ServerPart). HoldsOfEach (LegalMark p) p.marks) l.servers l.k;
  line : l.line ≡ told_line (server_lines (take l.k l.servers) + 3);
}
