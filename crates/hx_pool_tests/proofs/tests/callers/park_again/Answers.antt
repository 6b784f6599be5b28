use Rattle.std.proofs.Common.{◌≡◌, ℕ, ◌+◌, ◌-◌, sym, subst, arith}
use Rattle.hx_pool.specs.Held.{Has}
use Rattle.hx_pool_tests.proofs.tests.callers.park_again.Goals as goal

pub park-requires : goal.park-requires
park-requires g c =
    let old = g.S.HasHistory.history c.args.seat.now in
    let f = c.args.face in
    let e : (f.uses + 1) - 1 ≡ f.uses = omega arith in
    record {
      session = c.requires.session;
      server = sym c.requires.server;
      has = subst (λ (k : ℕ). Has old.mine c.args.n f.id.0 k) (sym e) c.requires.has;
      used = omega arith;
    }
