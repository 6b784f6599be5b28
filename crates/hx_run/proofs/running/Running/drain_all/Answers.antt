use Rattle.std.proofs.Common.{◌≡◌, ℕ, arith, length, refl, subst, ap, ◌∙◌}
use Rattle.hx_config.specs.Limits.{all_servers}
use Rattle.hx_config.specs.Meaning.{Meaning}
use Rattle.hx_run.specs.Cares.{drains_below}
use Rattle.hx_run.specs.Courses.{CaresOn}
use Rattle.hx_run.proofs.Coursing.{cares_none, drains_next}
use Rattle.hx_run.proofs.Working.{goes_both}
use Rattle.hx_run.proofs.running.Running.drain_all.Goals as goal

pub loop-at-init : goal.loop-at-init
loop-at-init c = (
  record { config = refl; most = refl; turns = omega arith },
  c.requires.empty,
  λ i h low. absurd (omega (arith, low)),
  cares_none c.args.self.now,
  omega arith,
  refl,
)

pub loop-at-preserved : goal.loop-at-preserved
loop-at-preserved c =
    let same = ap (λ (m : Meaning). length (all_servers m.backs)) c.loop-at.invariant.0.config in (
      goes_both c.args.self.now c.loop-at.self c.drain.new.self c.loop-at.invariant.0 c.drain.ensures.goes,
      c.drain.ensures.empty,
      c.in_ok-drain.ensures.closed c.loop-at.at (omega (arith, c.servers.ensures.few, c.loop-at-test.true)) c.loop-at.invariant.2,
      drains_next c.loop-at.at _ c.args.self.now c.loop-at.self c.drain.new.self (omega (arith, c.servers.ensures.few, c.loop-at-test.true)) c.loop-at.invariant.3 c.in_ok-drain.ensures.course,
      omega (arith, c.servers.ensures.all, c.loop-at-test.true, same),
      c.drain.ensures.turns ∙ c.loop-at.invariant.5,
    )

pub returns-clause-course : goal.returns-clause-course
returns-clause-course c =
    let same = ap (λ (m : Meaning). length (all_servers m.backs)) c.loop-at.invariant.0.config in
    let all : c.loop-at.at ≡ length (all_servers c.args.self.now.worker.config.backs) = omega (arith, c.servers.ensures.all, c.loop-at-test.false, c.loop-at.invariant.4, same) in
    subst (λ (n : ℕ). CaresOn (drains_below n) c.args.self.now c.loop-at.self) all c.loop-at.invariant.3
