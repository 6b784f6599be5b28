use Rattle.std.proofs.Common.{◌≡◌, ℕ, ◌+◌, ◌-◌, List, ap, ◌∙◌, sym, subst, arith}
use Rattle.hx_base.specs.declared.numbers.SessionNo.{SessionNo}
use Rattle.hx_pool.specs.declared.entries.Note.{Note}
use Rattle.hx_pool.specs.Held.{Has}
use Rattle.hx_pool.specs.SeatView.{About}
use Rattle.hx_pool.proofs.Calls.{has_taken}
use Rattle.hx_pool_tests.proofs.SeatCalls.{park_about}
use Rattle.hx_pool_tests.proofs.tests.seats.bench.Bench.use_again.Goals as goal

pub invariant_of-self : goal.invariant_of-self
invariant_of-self c = record { ours = ap (λ (a : About). a.server) c.in_default.ensures.answer.looks.makes.about ∙ c.args.self.now.ours }

pub invariant_of-self-then-uses : goal.invariant_of-self-then-uses
invariant_of-self-then-uses c = record { ours = ap (λ (a : About). a.server) c.in-Some.ensures.answer.takes.makes.about ∙ c.args.self.now.ours }

pub park-requires : goal.park-requires
park-requires c =
    let old = c.args.self.now.seat.history in
    let new = c.take_own.new.self.history in
    let t = c.in-Some.ensures.answer in
    let f = c.in-Some.card.face in
    let one : SessionNo = record { 0 = 1 } in
    let has : Has new.mine one f.id.0 f.uses = subst (λ (l : List Note). Has l one f.id.0 f.uses) (sym t.takes.makes.mine) (has_taken old.mine t.takes.looks old.about.thread one c.args.first t.place f t.takes.count) in
    let e : (f.uses + 1) - 1 ≡ f.uses = omega arith in
    record {
      session = λ (h : 1 ≡ 0). absurd (omega arith);
      server = sym (ap (λ (a : About). a.server) t.takes.makes.about ∙ c.args.self.now.ours);
      has = subst (λ (k : ℕ). Has new.mine one f.id.0 k) (sym e) has;
      used = omega arith;
    }

pub invariant_of-self-2 : goal.invariant_of-self-2
invariant_of-self-2 c = record { ours = ap (λ (a : About). a.server) (park_about _ _ _ _ c.park.result c.park.ensures.answer ∙ c.in-Some.ensures.answer.takes.makes.about) ∙ c.args.self.now.ours }
