use Rattle.std.proofs.Common.{ℕ, List, drop, sym, ap, subst, arith}
use Rattle.std.proofs.lemmas.List.{length-drop}
use Rattle.std.proofs.lemmas.Bool.{false≢true}
use Rattle.std.specs.Prelude.{length}
use Rattle.hx_check_records.specs.Exchanges.{ComesBack}
use Rattle.hx_check_records.proofs.AnswerLemmas.{some_head, back_step, back_again, none_back, back_behind}
use Rattle.hx_check_records.proofs.answers.comes_back.Goals as goal

pub heads-smaller : goal.heads-smaller
heads-smaller c =
    let s = some_head c.heads.rest.now c.in-Interim.head c.in-Interim.ensures.0 c.in-Interim.ensures.1 in
    omega (arith, s.0, s.1, ap length c.behind-rest.ensures, length-drop c.in-Interim.head.length c.heads.rest.now)

pub heads-preserved : goal.heads-preserved
heads-preserved c =
    let rest = c.heads.rest.now in
    let left = c.heads.left.now in
    let h = c.in-Interim.head in
    let g = c.in-Interim.ensures.0 in
    let stands = c.in-Interim.ensures.1 in
    let interim = c.in-Interim.ensures.2 in
    let is = (c.in-Some.ensures g stands).1 in (
      λ x.
          subst (λ (t : List ℕ). ComesBack c.args.method c.args.closing t c.behind-left.result.now) (sym c.behind-rest.ensures)
          (subst (λ (t : List ℕ). ComesBack c.args.method c.args.closing (drop h.length rest) t) (sym c.behind-left.ensures)
          (back_step c.args.closing rest left h g c.in-Some.n stands interim is c.args.method (c.heads.invariant.0 x))),
      λ y.
          c.heads.invariant.1
          (back_again c.args.closing rest left h g c.in-Some.n stands interim is c.args.method
          (subst (λ (t : List ℕ). ComesBack c.args.method c.args.closing (drop h.length rest) t) c.behind-left.ensures
          (subst (λ (t : List ℕ). ComesBack c.args.method c.args.closing t c.behind-left.result.now) c.behind-rest.ensures y))),
    )

pub returns-in-Neither : goal.returns-in-Neither
returns-in-Neither c = (
  λ no. absurd (false≢true no),
  λ x. absurd (none_back c.args.method c.args.closing c.heads.rest.now c.heads.left.now c.in-Neither.ensures (c.heads.invariant.0 x)),
)

pub returns-in-None : goal.returns-in-None
returns-in-None c =
    let g = c.in-Interim.ensures.0 in
    let stands = c.in-Interim.ensures.1 in (
      λ no. absurd (false≢true no),
      λ x.
          let b = back_behind c.args.method c.args.closing c.heads.rest.now c.in-Interim.head g stands c.heads.left.now c.in-Interim.ensures.2
          (c.heads.invariant.0 x) in
          absurd (c.in-None.ensures g stands (b.0, b.1)),
    )
