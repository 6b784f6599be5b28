use Rattle.std.proofs.Common.{sym, subst, ◌∙◌}
use Rattle.std.proofs.lemmas.Bool.{false≢true}
use Rattle.hx_message.specs.declared.MethodKind.{MethodKind}
use Rattle.hx_check_records.specs.Exchanges.{GoesOut}
use Rattle.hx_check_records.proofs.RequestLemmas.{one_method, none_out}
use Rattle.hx_check_records.proofs.requests.method_out.Goals as goal

pub returns-in-None : goal.returns-in-None
returns-in-None c = λ m out. none_out c.args.ask.now c.args.sent.now m c.in-None.ensures out

pub returns-else-goes_out : goal.returns-else-goes_out
returns-else-goes_out c = λ m out.
    let found = c.in-Some.ensures in
    let same = one_method c.args.ask.now c.args.sent.now c.in-Some.head found.0 found.1 m out in
    false≢true (sym c.if-goes_out.false ∙ c.goes_out.ensures.1 (subst (λ (k : MethodKind). GoesOut k c.args.ask.now c.args.sent.now) same out))
