use Rattle.std.proofs.Common.{ℕ, List, drop, sym, ap, subst, ◌∙◌, arith}
use Rattle.std.proofs.lemmas.List.{length-drop}
use Rattle.std.proofs.lemmas.Bool.{false≢true}
use Rattle.std.specs.Prelude.{length}
use Rattle.hx_check_records.specs.Exchanges.{BeginsBack}
use Rattle.hx_check_records.proofs.AnswerLemmas.{some_head, begins_step, begins_again, begins_first, begins_last, begins_ends, none_begins_back, not_behind}
use Rattle.hx_check_records.proofs.answers.begins_back.Goals as goal

pub heads-smaller : goal.heads-smaller
heads-smaller c =
    let s = some_head c.heads.rest.now c.in-Interim.head c.in-Interim.ensures.0 c.in-Interim.ensures.1 in
    omega (arith, s.0, s.1, ap length c.behind-rest.ensures, length-drop c.in-Interim.head.length c.heads.rest.now)

pub heads-preserved : goal.heads-preserved
heads-preserved c =
    let rest = c.heads.rest.now in
    let left = c.heads.left.now in
    let h = c.in-Interim.head in
    let g = c.in-Interim.ensures.0 in
    let stands = c.in-Interim.ensures.1 in
    let interim = c.in-Interim.ensures.2 in
    let is = (c.in-Some.ensures g stands).1 in (
      λ x.
          subst (λ (t : List ℕ). BeginsBack c.args.closing t c.behind-left.result.now) (sym c.behind-rest.ensures)
          (subst (λ (t : List ℕ). BeginsBack c.args.closing (drop h.length rest) t) (sym c.behind-left.ensures)
          (begins_step c.args.closing rest left h g c.in-Some.n stands interim is (c.heads.invariant.0 x))),
      λ y.
          c.heads.invariant.1
          (begins_again c.args.closing rest left h g c.in-Some.n stands interim is
          (subst (λ (t : List ℕ). BeginsBack c.args.closing (drop h.length rest) t) c.behind-left.ensures
          (subst (λ (t : List ℕ). BeginsBack c.args.closing t c.behind-left.result.now) c.behind-rest.ensures y))),
    )

pub returns-in-Neither : goal.returns-in-Neither
returns-in-Neither c = (
  λ no. absurd (false≢true no),
  λ x.
      sym c.if-is_nothing.false
      ∙ c.is_nothing.ensures.1 (none_begins_back c.args.closing c.heads.rest.now c.heads.left.now c.in-Neither.ensures (c.heads.invariant.0 x)),
)

pub returns-in-Final : goal.returns-in-Final
returns-in-Final c =
    let g = c.in-Final.ensures.0 in
    let stands = c.in-Final.ensures.1 in
    let final = c.in-Final.ensures.2 in
    let says = c.begins_final.ensures g stands in (
      λ yes. c.heads.invariant.1 (begins_last c.args.closing c.heads.rest.now c.in-Final.head g stands c.heads.left.now final (says.0 yes)),
      λ x. says.1 (begins_ends c.args.closing c.heads.rest.now c.in-Final.head g stands c.heads.left.now final (c.heads.invariant.0 x)),
    )

pub returns-in-None : goal.returns-in-None
returns-in-None c =
    let g = c.in-Interim.ensures.0 in
    let stands = c.in-Interim.ensures.1 in
    let interim = c.in-Interim.ensures.2 in
    let says = c.begins_interim.ensures g stands in (
      λ yes. c.heads.invariant.1 (begins_first c.args.closing c.heads.rest.now c.in-Interim.head g stands c.heads.left.now interim (says.0 yes)),
      λ x.
          says.1 (not_behind c.args.closing c.heads.rest.now c.heads.left.now c.in-Interim.head g stands interim (c.in-None.ensures g stands)
          (c.heads.invariant.0 x)),
    )
