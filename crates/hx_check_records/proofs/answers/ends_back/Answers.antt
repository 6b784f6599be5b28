use Rattle.std.proofs.Common.{sym, ◌∙◌}
use Rattle.std.proofs.lemmas.Bool.{false≢true}
use Rattle.hx_check_records.proofs.AnswerLemmas.{back_final, back_ends, back_fault}
use Rattle.hx_check_records.proofs.answers.ends_back.Goals as goal

pub returns-in-Err : goal.returns-in-Err
returns-in-Err c =
    let g = c.requires.0 in
    let stands = c.requires.1 in (
      λ no. absurd (false≢true no),
      λ back.
          absurd (back_fault c.args.method c.args.closing c.args.took.now c.args.head.now g stands c.args.gave.now _ c.requires.2
          (sym c.in-Err.is ∙ c.body_of_answer.ensures g stands.at) back),
    )

pub returns-in-Ok : goal.returns-in-Ok
returns-in-Ok c =
    let g = c.requires.0 in
    let stands = c.requires.1 in
    let framed = sym c.in-Ok.is ∙ c.body_of_answer.ensures g stands.at in
    let says = c.ends_with.ensures g stands in (
      λ yes.
          let parts = says.0 yes in
          back_final c.args.method c.args.closing c.args.took.now c.args.head.now g stands c.args.gave.now c.in-Ok.kind c.requires.2 framed
          parts.0 parts.1,
      λ back.
          says.1 (back_ends c.args.method c.args.closing c.args.took.now c.args.head.now g stands c.args.gave.now c.in-Ok.kind c.requires.2 framed back),
    )
