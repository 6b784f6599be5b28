use Rattle.std.proofs.Common.{◌≡◌, take, drop}
use Rattle.hx_transcripts_parts.specs.Numbers.{cut_at}
use Rattle.hx_transcripts_parts.proofs.CutLemmas.{behind}
use Rattle.hx_transcripts_parts.proofs.numbers.cut.Given as goal

abbrev pub invariant-loop-i : goal.invariant-loop-i
invariant-loop-i l = behind (take l.i l.word) (cut_at l.mark (drop l.i l.word)) ≡ cut_at l.mark l.word
