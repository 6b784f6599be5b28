use Rattle.std.proofs.Common.{◌+◌, rules, sym, subst}
use Rattle.std.proofs.lemmas.List.Sums.{fold_more}
use Rattle.hx_check_parts.specs.Marks.{marked, no_marks, table_before, IsWithinAt}
use Rattle.hx_check_parts.specs.Last.{CountsRests}
use Rattle.hx_check_parts.proofs.EachLemmas.{holds_more, fails_first, is_not_true}
use Rattle.hx_check_parts.proofs.MarkLemmas.{no_entry}
use Rattle.hx_check_parts.proofs.limit.first_past_limit.Goals as goal

pub returns-then-not-lets : goal.returns-then-not-lets
returns-then-not-lets c =
    let marks = c.args.marks.now in
    let says = c.lets.ensures (table_before marks c.loop-k.k) c.loop-k.invariant.tells in
    fails_first (IsWithinAt c.args.rules marks) marks c.loop-k.k no_entry c.loop-k-test.true c.loop-k.invariant.below
    (λ holds. is_not_true c.lets.result c.if-not-lets.true (says.1 holds))

pub loop-k-preserved : goal.loop-k-preserved
loop-k-preserved c =
    let marks = c.args.marks.now in
    let rests = c.count.new.self in
    let says = c.lets.ensures (table_before marks c.loop-k.k) c.loop-k.invariant.tells in
    record {
      below = holds_more (IsWithinAt c.args.rules marks) marks c.loop-k.k no_entry c.loop-k-test.true c.loop-k.invariant.below (says.0 (search rules));
      tells = subst (λ T. CountsRests T rests.rows rests.all) (sym (fold_more marked no_marks marks c.loop-k.k no_entry c.loop-k-test.true))
          (c.count.ensures.tells (table_before marks c.loop-k.k) c.loop-k.invariant.tells);
      few = c.count.ensures.grows (c.loop-k.k + 1) c.loop-k.invariant.few;
    }
