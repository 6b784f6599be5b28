use Rattle.std.proofs.Common.{sym, ◌∙◌}
use Rattle.hx_config_parts.proofs.Lexing.{skip_one}
use Rattle.hx_config_parts.proofs.words.skip_blanks.Goals as goal

pub loop-i-preserved : goal.loop-i-preserved
loop-i-preserved c =
    skip_one c.args.rest.now c.loop-i.i _ c.loop-i-test.true
    (sym c.is_blank_byte.ensures ∙ c.if-not-is_blank_byte.false) c.loop-i.invariant
