use Rattle.std.proofs.Common.{◌+◌, ◌*◌, refl}
use Rattle.hx_check.specs.Lines.{clients_at}
use Rattle.hx_check.specs.Broken.BreaksAt.{clients}
use Rattle.hx_check.proofs.LineLemmas.{told_more}
use Rattle.hx_check.proofs.check.check_clients.Goals as goal

pub returns-in-Some : goal.returns-in-Some
returns-in-Some c =
    let t = c.args.t.now in
    let k = c.in-Some.k in (
      clients_at t + 2 * k,
      clients c.requires.marks c.requires.records c.requires.lefts (k, c.in-Some.ensures, refl),
      told_more (clients_at t) (2 * k) c.clients_at.result c.pairs_behind.result c.pairs_behind.ensures c.clients_at.ensures,
    )
