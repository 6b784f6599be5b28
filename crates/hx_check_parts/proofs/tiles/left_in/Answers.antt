use Rattle.std.proofs.Common.{List, length, ℕ, ap}
use Rattle.hx_check_parts.proofs.LeftLemmas.{holds, ends}
use Rattle.hx_check_parts.proofs.tiles.left_in.Goals as goal

pub returns : goal.returns
returns c records there covered = (
  λ yes.
      holds c.args.left records c.args.k there c.args.clients.now c.args.covered _ _
      (ap (λ (xs : List ℕ). length xs) c.took-took.ensures) (ap (λ (xs : List ℕ). length xs) c.gave-gave.ensures) covered
      (c.ends_at.ensures.0 yes),
  λ left.
      c.ends_at.ensures.1
      (ends c.args.left records c.args.k there c.args.clients.now c.args.covered _ _
      (ap (λ (xs : List ℕ). length xs) c.took-took.ensures) (ap (λ (xs : List ℕ). length xs) c.gave-gave.ensures) covered left),
)
