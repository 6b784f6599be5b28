use Rattle.std.proofs.Common.{◌≡◌, List, ap, rules, sym, subst, ◌∙◌}
use Rattle.std.specs.Prelude.{reverse}
use Rattle.std.specs.List.Sorted.{IsPermutation, IsStableByKey}
use Rattle.std.specs.Ordering.{nat_cmp}
use Rattle.std.proofs.lemmas.List.{reverse-reverse}
use Rattle.std.proofs.lemmas.List.Sorted.{IsPermutation-trans, IsNonDecreasingBy-from_sort_by_key, answers_always}
use Rattle.hx_run.specs.Cares.{DueOrder, StandInOrder, order_moment}
use Rattle.hx_run.proofs.due.orders_due.Goals as goal

pub returns-clause-same : goal.returns-clause-same
returns-clause-same c =
    IsPermutation-trans c.args.orders c.sort_by_key.new.self.items c.reverse.new.self.items
    (subst (λ (l : List DueOrder). IsPermutation l c.sort_by_key.new.self.items) c.into_vec-due.ensures c.sort_by_key.ensures.permutation)
    c.reverse.ensures.permutation

pub returns-clause-in_order : goal.returns-clause-in_order
returns-clause-in_order c =
    let sorted = c.sort_by_key.new.self.items in
    let back : reverse c.reverse.new.self.items ≡ sorted = ap (λ (l : List DueOrder). reverse l) c.reverse.ensures.items ∙ reverse-reverse sorted in
    subst (λ (l : List DueOrder). StandInOrder c.args.orders l) (sym back) (record {
      rising = IsNonDecreasingBy-from_sort_by_key order_moment _ c.in_ok-sort_by_key.ensures.sorted (λ a r q k. search rules);
      ties = subst (λ (l : List DueOrder). IsStableByKey order_moment nat_cmp l sorted) c.into_vec-due.ensures
          (c.sort_by_key.ensures.stable order_moment (answers_always _ _ _ (λ f a r g h. search rules)));
    })
