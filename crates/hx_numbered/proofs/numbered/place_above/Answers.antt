use Rattle.std.proofs.Common.{arith}
use Rattle.hx_numbered.proofs.Rising.{rising_at}
use Rattle.hx_numbered.proofs.numbered.place_above.Goals as goal

pub returns-in-Ok : goal.returns-in-Ok
returns-in-Ok c =
    let f = c.in-Ok.ensures.found in record {
      in_range = omega (arith, f.in_range);
      others = λ j less. grind (arith, rising_at c.args.order.now j c.in-Ok.at c.requires, f.in_range, f.has);
      greater = λ j more here. omega (arith, rising_at c.args.order.now c.in-Ok.at j c.requires (omega (arith, more)) here, f.has);
    }

pub returns-in-Err : goal.returns-in-Err
returns-in-Err c =
    let f = c.in-Err.ensures.absent in record {
      in_range = f.in_range;
      others = λ j less. omega (arith, f.smaller j less);
      greater = f.greater;
    }
