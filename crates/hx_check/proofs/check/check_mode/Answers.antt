use Rattle.hx_check.specs.Broken.BreaksAt.{mode}
use Rattle.hx_check.proofs.check.check_mode.Goals as goal

pub returns-in-Some : goal.returns-in-Some
returns-in-Some c = let e = c.in-Some.ensures in (e.0, mode c.requires.legal e.1, e.2)
