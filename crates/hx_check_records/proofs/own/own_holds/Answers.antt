use Rattle.std.proofs.Common.{List, ℕ, subst}
use Rattle.hx_message.specs.Partial.{IsPrefix}
use Rattle.hx_check_records.proofs.OwnLemmas.{one_own}
use Rattle.hx_check_records.proofs.own.own_holds.Goals as goal

pub returns-in-Some : goal.returns-in-Some
returns-in-Some c =
    let own = c.in-Some.ensures.some in
    let text = c.in-Some.text.now in (
      λ yes. (text, own, c.starts.ensures.0 yes),
      λ (t, is, begins). c.starts.ensures.1 (subst (λ (x : List ℕ). IsPrefix c.args.gave.now x) (one_own c.args.status t text is own) begins),
    )
