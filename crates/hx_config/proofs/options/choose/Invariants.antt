use Rattle.std.proofs.Common.{◌≡◌, length}
use Rattle.hx_config.specs.Options.{chosen_by}
use Rattle.hx_config.proofs.options.choose.Given as goal

abbrev pub invariant-loop-words : goal.invariant-loop-words
invariant-loop-words l = chosen_by l.chosen l.words ≡ chosen_by l.fn.start l.initial.words

abbrev pub decreases-loop-words : goal.decreases-loop-words
decreases-loop-words l = length l.words
