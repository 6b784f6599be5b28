use Rattle.std.proofs.Common.{arith}
use Rattle.std.proofs.lemmas.Result.{err_from_is_err_and}
use Rattle.hx_config.proofs.Choices.{goes_on, stops, is_over, shorter}
use Rattle.hx_config.proofs.options.choose.Goals as goal

pub returns-in_err-chosen : goal.returns-in_err-chosen
returns-in_err-chosen c =
    let p = err_from_is_err_and c.from_residual.result c.from_residual.ensures.1 in
    rw (p.1, p.2) (stops c.in_err-chosen.field-0.0 c.loop-words.chosen c.loop-words.words _ (grind (arith, c.is_empty.ensures.empty)) c.in_err-chosen.ensures c.loop-words.invariant)

pub loop-words-smaller : goal.loop-words-smaller
loop-words-smaller c = shorter c.loop-words.chosen c.in_ok-chosen.chosen c.loop-words.words _ c.in_ok-chosen.ensures

pub loop-words-preserved : goal.loop-words-preserved
loop-words-preserved c = goes_on c.loop-words.chosen c.in_ok-chosen.chosen c.loop-words.words _ _ (grind (arith, c.is_empty.ensures.empty)) c.in_ok-chosen.ensures c.loop-words.invariant

pub returns : goal.returns
returns c = is_over c.loop-words.chosen c.loop-words.words _ (grind (arith, c.is_empty.ensures.empty)) c.loop-words.invariant
