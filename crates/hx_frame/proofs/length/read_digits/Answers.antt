use Rattle.std.proofs.Common.{◌≡◌, ℕ, ◌^◌, ◌<◌, get_or, ap, add-one, arith}
use Rattle.std.specs.Char.{is_ascii_digit, digit_value}
use Rattle.std.proofs.lemmas.Bool.Decides.{nat_tests}
use Rattle.std.proofs.lemmas.Int.Digits.{digits_value_more}
use Rattle.std.proofs.Math.Nat.{pow-suc}
use Rattle.hx_frame.proofs.FramingLemmas.{power_le, list_all_next}
use Rattle.hx_frame.proofs.length.read_digits.Goals as goal

pub overflow_mul-number : goal.overflow_mul-number
overflow_mul-number c = omega (arith, power_le c.loop-digit.digit-index 18, c.loop-digit.invariant.small)

pub overflow_add-number : goal.overflow_add-number
overflow_add-number c =
    let digit : c.from.result < 10 = grind (arith, nat_tests) in
    omega (arith, power_le c.loop-digit.digit-index 18, c.loop-digit.invariant.small)

pub loop-digit-preserved : goal.loop-digit-preserved
loop-digit-preserved c =
    let digit : digit_value (get_or c.args.text.now c.loop-digit.digit-index 0) ≡ c.from.result = grind (arith, nat_tests) in
    let few : c.from.result < 10 = grind (arith, nat_tests) in
    record {
      digits = list_all_next is_ascii_digit c.args.text.now c.loop-digit.digit-index c.loop-digit-test.true c.loop-digit.invariant.digits (grind (arith, nat_tests));
      value = omega (arith, digits_value_more 10 c.args.text.now _ c.loop-digit-test.true, c.loop-digit.invariant.value);
      small = omega (arith, pow-suc c.loop-digit.digit-index 10, pow-suc 10 c.loop-digit.digit-index, ap (λ (n : ℕ). 10 ^ n) (add-one c.loop-digit.digit-index), c.loop-digit.invariant.small);
    }
