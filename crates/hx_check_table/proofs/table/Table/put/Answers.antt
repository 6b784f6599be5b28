use Rattle.std.proofs.Common.{◌≡◌, Bool, cond, Some, Option, ap, ◌∙◌}
use Rattle.hx_check_table.specs.Tables.{value_at}
use Rattle.hx_check_table.proofs.Numbers.{same_numbers}
use Rattle.hx_check_table.proofs.table.Table.put.Goals as goal

pub returns : goal.returns
returns g c x y z =
    c.in_ok-insert.ensures.updates.0 (x, y, z)
    ∙ ap (λ (same : Bool). cond same (Some c.args.value) (value_at c.args.self.now x y z)) (same_numbers c.args.a c.args.b c.args.c x y z)
