use Rattle.hx_check.specs.Broken.BreaksAt.{conns}
use Rattle.hx_check.specs.Conns.{line_of}
use Rattle.hx_check.proofs.BreakLemmas.{conn_breaks}
use Rattle.hx_check.proofs.check.check_conns.Goals as goal

pub returns-in-Some : goal.returns-in-Some
returns-in-Some c =
    let t = c.args.t.now in
    let need = c.requires in (
      line_of t c.in-Some.at,
      conns need.marks need.records need.lefts need.clients (conn_breaks t c.in-Some.at c.in-Some.ensures),
      c.conn_line.ensures,
    )
