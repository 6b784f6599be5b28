use Rattle.hx_check.specs.Broken.BreaksAt.{limit}
use Rattle.hx_check.proofs.check.check_limit.Goals as goal

pub returns-in-Some : goal.returns-in-Some
returns-in-Some c = let e = c.in-Some.ensures in (e.0, limit c.requires.legal c.requires.mode e.1, e.2)
