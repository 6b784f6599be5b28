use Rattle.std.proofs.Common.{ℕ, List, sym, subst, arith}
use Rattle.hx_head.specs.Heads.{IsRequestAt}
use Rattle.hx_session_parts.proofs.GrowthLemmas.{request_room}
use Rattle.hx_session_parts.proofs.asks.spell_ask.Goals as goal

pub returns-in-Err-clause-room : goal.returns-in-Err-clause-room
returns-in-Err-clause-room c =
    let g = c.requires.asked.0 in
    let at = subst (λ (bs : List ℕ). IsRequestAt bs c.args.asked.now.head g) (sym c.whole.ensures.value) c.requires.asked.1.at in
    let less = request_room c.whole.result.now c.args.asked.now.head c.grow.result.now c.forward_request.new.out c.forward_request.result c.in-Err.field-0 c.in-Err.is c.forward_request.ensures g at c.requires.asked.1.short in
    omega (arith, less, c.grow.ensures.size, c.room-room.ensures.room)
