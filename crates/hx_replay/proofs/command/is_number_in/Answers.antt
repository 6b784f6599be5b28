use Rattle.hx_replay.proofs.WordLemmas.{number_in}
use Rattle.hx_replay.proofs.command.is_number_in.Goals as goal

pub returns-in-Some : goal.returns-in-Some
returns-in-Some c =
    number_in c.args.text.now c.in-Some.n c.args.low c.args.high c.is_between.result c.in-Some.ensures.some.1 c.in-Some.ensures.some.0 c.ranges.high.fits c.is_between.ensures
