use Rattle.std.proofs.Common.{◌≡◌, drop}
use Rattle.hx_config_parts.specs.Lexical.{words_of}
use Rattle.hx_config_parts.proofs.words.skip_blanks.Given as goal

abbrev pub invariant-loop-i : goal.invariant-loop-i
invariant-loop-i l = words_of (drop l.i l.rest) ≡ words_of l.rest
