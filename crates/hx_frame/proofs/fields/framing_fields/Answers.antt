use Rattle.std.specs.Prelude.{codes}
use Rattle.hx_head.specs.declared.head.FieldSpan.{FieldSpan}
use Rattle.hx_frame.proofs.FramingLemmas.{found_next}
use Rattle.hx_frame.proofs.fields.framing_fields.Goals as goal

pub loop-i-preserved : goal.loop-i-preserved
loop-i-preserved c =
    let none : FieldSpan = record { name = record { from = 0; to = 0 }; value = record { from = 0; to = 0 } } in
    record {
      coding = found_next c.args.bytes.now (codes "Transfer-Encoding") c.args.fields.now c.loop-i.i none _ c.loop-i-test.true (c.with_field.ensures _ c.loop-i.invariant.coding);
      length = found_next c.args.bytes.now (codes "Content-Length") c.args.fields.now c.loop-i.i none _ c.loop-i-test.true (c.with_field-in-loop-i.ensures _ c.loop-i.invariant.length);
      host = found_next c.args.bytes.now (codes "Host") c.args.fields.now c.loop-i.i none _ c.loop-i-test.true (c.with_field-in-loop-i-2.ensures _ c.loop-i.invariant.host);
    }
