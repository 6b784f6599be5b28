use Rattle.std.proofs.Common.{arith}
use Rattle.std.proofs.lemmas.List.Folds.{length-flat_map-take}
use Rattle.hx_message.specs.Forwarded.{field_line}
use Rattle.hx_head.specs.declared.head.FieldSpan.{FieldSpan}
use Rattle.hx_head.specs.Heads.{field_in}
use Rattle.hx_head.proofs.lines.put_fields.Goals as goal

pub put_field-at-requires : goal.put_field-at-requires
put_field-at-requires c =
    let none : FieldSpan = record { name = record { from = 0; to = 0 }; value = record { from = 0; to = 0 } } in
    let room = length-flat_map-take (λ (f : FieldSpan). field_line (field_in c.args.bytes.now f)) c.args.fields.now c.loop-i.i none c.loop-i-test.true in
    rw (c.part.ensures.part, c.part-in-loop-i.ensures.part) (omega (arith, room, c.loop-i.invariant.next, c.requires.room))
