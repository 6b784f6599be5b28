use Rattle.std.proofs.Common.{◌≡◌, sym, ◌∙◌, ap}
use Rattle.std.specs.Prelude.{decimal}
use Rattle.hx_replay.proofs.WordLemmas.{other_number, no_number}
use Rattle.hx_replay.proofs.command.number_of.Goals as goal

pub returns-else-is_same-clause-none : goal.returns-else-is_same-clause-none
returns-else-is_same-clause-none c n small is =
    let same : c.in-Ok.n ≡ n = other_number c.args.text.now c.parse.result c.in-Ok.n n c.parse.ensures.value.0 c.in-Ok.is small is in
    let yes' = c.is_same.ensures.1 (c.format.ensures.text ∙ ap decimal same ∙ sym is) in
    absurd cc

pub returns-in-Err-clause-none : goal.returns-in-Err-clause-none
returns-in-Err-clause-none c n small is = no_number c.args.text.now c.parse.result c.in-Err.field-0 n c.parse.ensures.value.0 c.in-Err.is small is
