use Rattle.std.proofs.Common.{◌≡◌, ◌&&◌, not, ap, ◌∙◌}
use Rattle.hx_session.specs.declared.exchange.AnswerWay.{AnswerWay}
use Rattle.hx_session.specs.declared.exchange.AnswerWay.TheVariants.{Body}
use Rattle.hx_session.specs.declared.exchange.BodyWay.{BodyWay}
use Rattle.hx_session.specs.Exchanged.{exchange_now}
use Rattle.hx_session.proofs.FinishLemmas.{answer_whole}
use Rattle.hx_session.proofs.answers.end_answer.Goals as goal

same_body : (a : AnswerWay) (x y : BodyWay) → a ≡ Body x → a ≡ Body y → x ≡ y
same_body a x y e f = cc

pub answer_ends-requires : goal.answer_ends-requires
answer_ends-requires g c =
    let k = c.requires in
    let same = same_body c.args.exchange.answer c.in-Body.body k.body c.in-Body.is k.over.body in
    answer_whole k.desk (exchange_now c.args.exchange) k.body _ k.carried k.over (c.lasts-persistent.ensures ∙ ap (λ (b : BodyWay). b.persists && not b.to_end) same)
