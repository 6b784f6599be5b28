use Rattle.std.proofs.Common.{◌+◌, refl}
use Rattle.hx_check.specs.Lines.{totals_at}
use Rattle.hx_check.specs.Broken.BreaksAt.{totals}
use Rattle.hx_check.proofs.LineLemmas.{told_more}
use Rattle.hx_check.proofs.check.check_sums.Goals as goal

pub returns-in-Some : goal.returns-in-Some
returns-in-Some c =
    let t = c.args.t.now in
    let k = c.in-Some.k in
    let need = c.requires in (
      totals_at t + k,
      totals need.marks need.records need.lefts need.clients need.conns (k, c.in-Some.ensures, refl),
      told_more (totals_at t) k c.totals_at.result c.behind.result c.behind.ensures c.totals_at.ensures,
    )
