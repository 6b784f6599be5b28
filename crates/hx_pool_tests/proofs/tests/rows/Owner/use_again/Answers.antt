use Rattle.std.proofs.Common.{◌≡◌, ℕ, ◌+◌, ◌-◌, sym, subst, arith}
use Rattle.hx_pool.specs.Held.{Has}
use Rattle.hx_pool_tests.proofs.tests.rows.Owner.use_again.Goals as goal

pub let_rest-requires-clause-has : goal.let_rest-requires-clause-has
let_rest-requires-clause-has c =
    let f = c.in-Some.face in
    let e : (f.uses + 1) - 1 ≡ f.uses = omega arith in
    subst (λ (k : ℕ). Has c.take.new.self.seat.view.mine (record { 0 = 1 }) f.id.0 k) (sym e) c.in-Some.ensures.has
