use Rattle.std.proofs.Common.{arith}
use Rattle.hx_session_parts.proofs.GrowthLemmas.{request_room}
use Rattle.hx_check_records.proofs.texts.spell_request.Goals as goal

pub unreachable-requires : goal.unreachable-requires
unreachable-requires c =
    let stands = c.requires.head.1 in
    let less = request_room c.args.bytes.now c.args.head.now c.args.out.now _ _ _ c.in-Err.is c.forward_request.ensures c.requires.head.0 stands.at stands.most in
    omega (arith, less, c.requires.room)
