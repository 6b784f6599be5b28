use Rattle.std.proofs.Common.{◌≡◌, drop}
use Rattle.hx_script_parts.specs.QuotedReading.{with_front, read_from}
use Rattle.hx_script_parts.specs.declared.quoted.ReadMode.TheVariants.{InText}
use Rattle.hx_script_parts.proofs.quoted.read_body.Given as goal

abbrev pub invariant-loop-i : goal.invariant-loop-i
invariant-loop-i l = with_front l.bytes.items (read_from l.mode (drop l.i l.text)) ≡ read_from InText l.text
