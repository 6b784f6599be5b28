use Rattle.std.proofs.Common.{sym, ◌∙◌, arith}
use Rattle.hx_config_parts.specs.Lexical.{is_inside}
use Rattle.hx_config_parts.proofs.Lexing.{no_word, word_in_front, prefix_in}
use Rattle.hx_config_parts.proofs.words.split_word.Goals as goal

pub returns-then-n-eq0 : goal.returns-then-n-eq0
returns-then-n-eq0 c =
    sym c.skip_blanks-rest.ensures.words
    ∙ no_word c.skip_blanks-rest.result.now c.skip_blanks-rest.ensures.skipped (sym c.word_len-n.ensures ∙ c.if-n-eq0.true)

pub split_at-requires : goal.split_at-requires
split_at-requires c = omega (arith, prefix_in is_inside c.skip_blanks-rest.result.now)

pub returns : goal.returns
returns c =
    rw (c.split_at.ensures.front, c.split_at.ensures.back)
    (sym c.skip_blanks-rest.ensures.words
    ∙ word_in_front c.skip_blanks-rest.result.now c.word_len-n.result c.word_len-n.ensures c.if-n-eq0.false)
