use Rattle.std.proofs.Common.{rules}
use Rattle.hx_startup.specs.Options.{words_of}
use Rattle.hx_startup.proofs.StartLemmas.{check_ends}
use Rattle.hx_startup.proofs.start.start_up.Goals as goal

pub returns-then-options : goal.returns-then-options
returns-then-options g c =
    let taken = c.in-Ok.ensures.taken in
    check_ends (words_of c.args.words.now) _ _ (g.D.Door.state c.args.door.now) c.in-Ok.options.config.now c.in-Ok-read.config c.check.result
    taken.takes (taken.check.0 (search rules)) taken.config c.in-Ok-read.ensures c.check.ensures
