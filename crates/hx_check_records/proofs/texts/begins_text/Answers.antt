use Rattle.std.proofs.Common.{arith}
use Rattle.hx_check_records.proofs.PrefixLemmas.{begins_more, begins_within}
use Rattle.hx_check_records.proofs.texts.begins_text.Goals as goal

pub returns-then-bytes-text : goal.returns-then-bytes-text
returns-then-bytes-text c =
    let xs = c.args.bytes.now in
    let text = c.args.text.now in
    let rest = c.args.rest.now in (
      λ yes. begins_more xs text rest (c.starts.ensures.0 yes),
      λ begins. c.starts.ensures.1 (begins_within xs text rest (omega arith) begins),
    )
