use Rattle.std.proofs.Common.{arith}
use Rattle.hx_session_parts.proofs.GrowthLemmas.{answer_room}
use Rattle.hx_check_records.proofs.texts.spell_answer.Goals as goal

pub unreachable-requires : goal.unreachable-requires
unreachable-requires c =
    let stands = c.requires.head.1 in
    let less = answer_room c.args.bytes.now c.args.head.now c.args.closing c.args.out.now _ _ _ c.in-Err.is c.forward_answer.ensures c.requires.head.0 stands.at stands.most in
    omega (arith, less, c.requires.room)
