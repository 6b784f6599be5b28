use Rattle.std.proofs.Common.{◌≡◌, ◌+◌, drop}
use Rattle.std.specs.List.{prefix_len}
use Rattle.hx_transcripts_parts.specs.Lexical.{is_inside}
use Rattle.hx_transcripts_parts.proofs.words.word_len.Given as goal

abbrev pub invariant-loop-i : goal.invariant-loop-i
invariant-loop-i l = l.i + prefix_len is_inside (drop l.i l.rest) ≡ prefix_len is_inside l.rest
