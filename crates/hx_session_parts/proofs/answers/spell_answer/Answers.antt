use Rattle.std.proofs.Common.{ℕ, List, sym, subst, arith}
use Rattle.hx_head.specs.Heads.{IsAnswerAt}
use Rattle.hx_session_parts.proofs.GrowthLemmas.{answer_room}
use Rattle.hx_session_parts.proofs.answers.spell_answer.Goals as goal

pub returns-in-Err-clause-room : goal.returns-in-Err-clause-room
returns-in-Err-clause-room c =
    λ _.
    let g = c.requires.head.0 in
    let at = subst (λ (bs : List ℕ). IsAnswerAt bs c.args.head.now g) (sym c.whole.ensures.value) c.requires.head.1 in
    let less = answer_room c.whole.result.now c.args.head.now c.args.closing c.grow.result.now c.forward_answer.new.out c.forward_answer.result c.in-Err.field-0 c.in-Err.is c.forward_answer.ensures g at c.requires.short in
    omega (arith, less, c.grow.ensures.size, c.room-room.ensures.room)
