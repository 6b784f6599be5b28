use Rattle.std.proofs.lemmas.Result.{IfOk-weaker}
use Rattle.hx_startup.proofs.TextLemmas.{passed_joined}
use Rattle.hx_startup.proofs.check.put_passed.Goals as goal

pub returns : goal.returns
returns c =
    IfOk-weaker c.put-2.result _ _ (λ m h. passed_joined c.args.out.now.items _ _ _ c.args.line c.in_ok-put.ensures c.in_ok-put_number.ensures h) c.put-2.ensures
