use Rattle.std.proofs.Common.{subst}
use Rattle.std.proofs.lemmas.Bool.{false≢true}
use Rattle.hx_message.specs.declared.MethodKind.{MethodKind}
use Rattle.hx_check_records.specs.Exchanges.{ComesBack}
use Rattle.hx_check_records.proofs.RequestLemmas.{same_method}
use Rattle.hx_check_records.proofs.records.pass_holds.Goals as goal

pub returns-in-Some : goal.returns-in-Some
returns-in-Some c =
    let out = c.in-Some.ensures in (
      λ yes. (c.in-Some.method, out, c.comes_back.ensures.0 yes),
      λ (m, out', back).
          let same = same_method c.args.ask.now c.args.sent.now m c.in-Some.method out' out in
          c.comes_back.ensures.1 (subst (λ (k : MethodKind). ComesBack k c.args.closing c.args.took.now c.args.gave.now) same back),
    )

pub returns-in-None : goal.returns-in-None
returns-in-None c = (λ no. absurd (false≢true no), λ (m, out, back). absurd (c.in-None.ensures m out))
