use Rattle.std.proofs.Common.{arith, ◌≡◌, ◌≤◌, ◌<◌, length, get_or, List, sym, ◌∙◌, ap}
use Rattle.std.proofs.lemmas.Bool.{ltb-false, ltb-true}
use Rattle.hx_base.specs.declared.plan.Piece.{Piece}
use Rattle.hx_link.proofs.PlaceLemmas.{ready_past, left_none, ready_there, left_there, all_taken, has_end}
use Rattle.hx_link.proofs.place.find_due.Goals as goal

pub returns-in-None : goal.returns-in-None
returns-in-None c =
    let past : length c.args.plan.now.pieces ≤ c.args.at.piece =
    omega (arith, ltb-false _ _ (sym c.in-None.ensures.lookup.0), ap length c.as_slice.ensures) in
    let due = sym c.is_end_due.ensures.due ∙ c.if-is_end_due.true in
    record {
      due = (ready_past c.args.plan.now c.args.at c.args.sent c.args.now.0 c.requires.place past ∙ due, left_none c.args.plan.now.pieces c.args.at c.requires.place past, all_taken c.args.plan.now.pieces c.args.at c.requires.place past, has_end c.args.plan.now.end c.args.sent c.args.now.0 due);
    }

pub returns-in_default : goal.returns-in_default
returns-in_default c =
    let past : length c.args.plan.now.pieces ≤ c.args.at.piece =
    omega (arith, ltb-false _ _ (sym c.in-None.ensures.lookup.0), ap length c.as_slice.ensures) in
    let not_due = sym c.is_end_due.ensures.due ∙ c.if-is_end_due.false in
    record { due = ready_past c.args.plan.now c.args.at c.args.sent c.args.now.0 c.requires.place past ∙ not_due }

pub returns-in-Some : goal.returns-in-Some
returns-in-Some c =
    let len = ap length c.as_slice.ensures in
    let there : c.args.at.piece < length c.args.plan.now.pieces = omega (arith, ltb-true _ _ (sym c.in-Some.ensures.lookup.0), len) in
    let is : c.in-Some.p.now ≡ get_or c.args.plan.now.pieces c.args.at.piece c.in-Some.p.now =
    c.in-Some.ensures.lookup.1 ∙ ap (λ (ps : List Piece). get_or ps c.args.at.piece c.in-Some.p.now) c.as_slice.ensures in
    let due = sym c.is_due.ensures.due ∙ c.if-is_due.true in
    let left = left_there c.args.plan.now.pieces c.args.at c.requires.place c.requires.next there in
    record {
      due = (ready_there c.args.plan.now c.args.at c.in-Some.p.now c.args.sent c.args.now.0 c.requires.place c.requires.next there is ∙ due, omega (arith, left, c.requires.next there), there);
    }

pub returns-in_default-2 : goal.returns-in_default-2
returns-in_default-2 c =
    let len = ap length c.as_slice.ensures in
    let there : c.args.at.piece < length c.args.plan.now.pieces = omega (arith, ltb-true _ _ (sym c.in-Some.ensures.lookup.0), len) in
    let is : c.in-Some.p.now ≡ get_or c.args.plan.now.pieces c.args.at.piece c.in-Some.p.now =
    c.in-Some.ensures.lookup.1 ∙ ap (λ (ps : List Piece). get_or ps c.args.at.piece c.in-Some.p.now) c.as_slice.ensures in
    let not_due = sym c.is_due.ensures.due ∙ c.if-is_due.false in
    record { due = ready_there c.args.plan.now c.args.at c.in-Some.p.now c.args.sent c.args.now.0 c.requires.place c.requires.next there is ∙ not_due }
