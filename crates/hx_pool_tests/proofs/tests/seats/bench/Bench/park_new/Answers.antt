use Rattle.std.proofs.Common.{◌≡◌, List, ap, ◌∙◌, sym, subst, arith}
use Rattle.hx_base.specs.declared.numbers.SessionNo.{SessionNo}
use Rattle.hx_pool.specs.declared.entries.Note.{Note}
use Rattle.hx_pool.specs.Held.{Has}
use Rattle.hx_pool.specs.SeatView.{About}
use Rattle.hx_pool.proofs.Calls.{has_opened}
use Rattle.hx_pool_tests.proofs.SeatCalls.{park_about}
use Rattle.hx_pool_tests.proofs.tests.seats.bench.Bench.park_new.Goals as goal

pub invariant_of-self : goal.invariant_of-self
invariant_of-self c = record { ours = ap (λ (a : About). a.server) c.in_default.ensures.answer.1.makes.about ∙ c.args.self.now.ours }

pub park-requires : goal.park-requires
park-requires c =
    let old = c.args.self.now.seat.history in
    let m = c.in-Ok.ensures.answer.1.makes in
    let one : SessionNo = record { 0 = 1 } in
    record {
      session = λ (h : 1 ≡ 0). absurd (omega arith);
      server = sym (ap (λ (a : About). a.server) m.about ∙ c.args.self.now.ours);
      has = subst (λ (l : List Note). Has l one c.in-Ok.id.0 0) (sym m.mine) (has_opened old.mine old.about.thread one c.in-Ok.id);
      used = omega arith;
    }

pub invariant_of-self-2 : goal.invariant_of-self-2
invariant_of-self-2 c = record { ours = ap (λ (a : About). a.server) (park_about _ _ _ _ c.park.result c.park.ensures.answer ∙ c.in-Ok.ensures.answer.1.makes.about) ∙ c.args.self.now.ours }
