use Rattle.std.proofs.Common.{◌^◌, ◌<◌, arith}
use Rattle.hx_frame.proofs.SmallLemmas.{top_of_digits}
use Rattle.hx_frame.proofs.chunk.in_size.Goals as goal

pub overflow_mul-result : goal.overflow_mul-result
overflow_mul-result c =
    let small : c.args.size < 2 ^ 60 = top_of_digits c.args.size c.args.room (omega arith) c.requires in
    omega arith

pub overflow_add-result : goal.overflow_add-result
overflow_add-result c =
    let small : c.args.size < 2 ^ 60 = top_of_digits c.args.size c.args.room (omega arith) c.requires in
    omega (arith, c.in-Some-2.ensures.value)
