-- What a binary search finds among numbers that rise.
use Rattle.std.proofs.Common.{◌≡◌, ℕ, ◌≤◌, List, length, Result, Ok, Err, IfOk, IfErr, sym, ap, arith}
use Rattle.std.specs.List.Sorted.{IsSearchInRange, IsBinarySearchResult, IsNonDecreasingBy}
use Rattle.std.specs.Ordering.{nat_cmp, ordering_index}
use Rattle.std.proofs.lemmas.Cmp.{ranked}
use Rattle.std.proofs.lemmas.List.Sorted.{IsNonDecreasingBy-from_default}
use Rattle.std.proofs.lemmas.Bool.Decides.{nat_tests}
use Rattle.hx_numbered.specs.Numbers.{IsRising, IsAt, IsGapFor, number_at}
use Rattle.hx_numbered.proofs.Rising.{rising_at}

module _ (order : List (ℕ × ℕ)) (rising : IsRising order) (n : ℕ) where
  -- the comparisons with n rise along the list, as a binary search asks
  comparisons_rise : IsNonDecreasingBy (λ pair. ordering_index (nat_cmp pair.0 n)) order
  comparisons_rise = IsNonDecreasingBy-from_default (λ pair. ordering_index (nat_cmp pair.0 n)) order (0, 0) (λ i j le in_range.
      let numbers_rise : number_at order i ≤ number_at order j = grind (arith, rising_at order i j rising, λ (same : i ≡ j). ap (number_at order) same) in
      grind (arith, nat_tests))

  -- it ends at the number, or at the gap for it
  pub searched : (r : Result ℕ ℕ) → IsSearchInRange r (length order) → IsBinarySearchResult (λ pair. nat_cmp pair.0 n) order r → record { found : IfOk r (IsAt order n); absent : IfErr r (IsGapFor order n) }
  searched (Ok at) in_range equal = record { found = record { in_range = in_range; has = ranked _ n _ (sym (equal (0, 0))) }; absent = tt }
  searched (Err at) in_range parted = record {
    found = tt;
    absent = record {
      in_range = in_range;
      smaller = λ j lt. ranked _ n _ (sym ((parted comparisons_rise).0 j (0, 0) (omega arith) lt));
      greater = λ j le lt. ranked _ n _ (sym ((parted comparisons_rise).1 j (0, 0) le lt));
    };
  }
