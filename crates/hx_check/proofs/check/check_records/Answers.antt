use Rattle.std.proofs.Common.{◌+◌, refl}
use Rattle.hx_check.specs.Lines.{records_at}
use Rattle.hx_check.specs.Broken.BreaksAt.{records}
use Rattle.hx_check.proofs.LineLemmas.{told_more}
use Rattle.hx_check.proofs.check.check_records.Goals as goal

pub returns-in-Some : goal.returns-in-Some
returns-in-Some c =
    let t = c.args.t.now in
    let k = c.in-Some.k in (
      records_at t + k,
      records c.requires.marks (k, c.in-Some.ensures, refl),
      told_more (records_at t) k c.records_at.result c.behind.result c.behind.ensures c.records_at.ensures,
    )
