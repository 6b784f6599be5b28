use Rattle.std.proofs.Common.{ap, arith, subst}
use Rattle.hx_link.specs.Links.{LinkReads}
use Rattle.hx_conn.specs.Conns.{RestedNow}
use Rattle.hx_conn.proofs.rested.Rested.probe.Goals as goal

pub returns-in-Some-clause-dead : goal.returns-in-Some-clause-dead
returns-in-Some-clause-dead g c =
    let reads = subst (λ (r : RestedNow). LinkReads r.link (g.L.Link.state c.read-got.new.self) c.args.now.0 c.read-got.result c.read-got.new.into) c.self.view_is c.read-got.ensures.reads in (
      ap (λ (r : RestedNow). r.id) c.self.view_is,
      (
        c.in-Some.cause,
        c.code.ensures,
        record {
          answer = c.read-got.result;
          byte = c.read-got.new.into;
          one = omega (arith, c.read-got.auto.into);
          fits = c.read-got.ensures.fits;
          reads = reads;
          tells = c.in-Some.ensures;
        },
      ),
    )
