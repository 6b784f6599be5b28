use Rattle.std.proofs.Common.{rules, sym, subst, arith}
use Rattle.std.proofs.lemmas.List.Sums.{fold_more}
use Rattle.hx_check_parts.specs.Marks.{marked, no_marks, table_before, IsStepAt}
use Rattle.hx_check_parts.specs.Last.{Counts}
use Rattle.hx_check_parts.specs.Lasts.{Keeps}
use Rattle.hx_check_parts.proofs.EachLemmas.{holds_more, fails_first, is_not_true}
use Rattle.hx_check_parts.proofs.MarkLemmas.{no_entry}
use Rattle.hx_check_parts.proofs.legal.first_illegal_by_tables.Goals as goal

pub returns-then-not-is_step : goal.returns-then-not-is_step
returns-then-not-is_step c =
    let marks = c.args.marks.now in
    let T = table_before marks c.loop-k.k in
    let says = c.is_step.ensures T c.loop-k.invariant.numbers (c.here_by_tables.ensures T c.loop-k.invariant.keeps) in
    fails_first (IsStepAt marks) marks c.loop-k.k no_entry c.loop-k-test.true c.loop-k.invariant.below
    (λ holds. is_not_true c.is_step.result c.if-not-is_step.true (says.1 holds))

pub loop-k-preserved : goal.loop-k-preserved
loop-k-preserved c =
    let marks = c.args.marks.now in
    let T = table_before marks c.loop-k.k in
    let numbers = c.after-numbers.result in
    let more = sym (fold_more marked no_marks marks c.loop-k.k no_entry c.loop-k-test.true) in
    let says = c.is_step.ensures T c.loop-k.invariant.numbers (c.here_by_tables.ensures T c.loop-k.invariant.keeps) in
    record {
      below = holds_more (IsStepAt marks) marks c.loop-k.k no_entry c.loop-k-test.true c.loop-k.invariant.below (says.0 (search rules));
      numbers = subst (λ T. Counts T numbers.next numbers.round) more (c.after-numbers.ensures.tells T c.loop-k.invariant.numbers);
      keeps = subst (λ T. Keeps T c.note.new.self) more (c.in_ok-note.ensures T c.loop-k.invariant.keeps);
      small = omega arith;
    }
