use Rattle.std.proofs.Common.{◌≡◌, ◌+◌, ◌-◌, suc, arith}
use Rattle.hx_script_parts.proofs.Endings.{one_passed, none_passed, all_passed, passed_len}
use Rattle.hx_script_parts.proofs.lines.skip_lines.Goals as goal

pub returns-in_default-clause-behind : goal.returns-in_default-clause-behind
returns-in_default-clause-behind c =
    let left : c.args.count - c.loop.counter ≡ suc (c.args.count - (c.loop.counter + 1)) = omega arith in
    none_passed _ (c.args.count - (c.loop.counter + 1)) c.loop.rest.now _ left c.in_default.ensures c.loop.invariant.same

pub loop-preserved : goal.loop-preserved
loop-preserved c = record {
  fewer = (let len = passed_len c.loop.rest.now c.in-Some.field-0-0.now c.in-Some.after.now c.in-Some.ensures in omega (arith, len, c.loop.invariant.fewer));
  same = (let left : c.args.count - c.loop.counter ≡ suc (c.args.count - (c.loop.counter + 1)) = omega arith in
      one_passed _ (c.args.count - (c.loop.counter + 1)) c.loop.rest.now c.in-Some.field-0-0.now c.in-Some.after.now _ left c.in-Some.ensures c.loop.invariant.same);
}

pub returns-clause-behind : goal.returns-clause-behind
returns-clause-behind c = all_passed (c.args.count - c.loop.counter) c.loop.rest.now _ (omega arith) c.loop.invariant.same
