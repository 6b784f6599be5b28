use Rattle.std.proofs.Common.{◌≡◌, ℕ, Bool, List, sym, subst}
use Rattle.hx_check_records.specs.Exchanges.{CutIs}
use Rattle.hx_check.proofs.records.was_cut_holds.Goals as goal

along : (closing : Bool) (q s a g q' s' a' g' : List ℕ) → q ≡ q' → s ≡ s' → a ≡ a' → g ≡ g' → CutIs closing q s a g → CutIs closing q' s' a' g'
along closing q s a g q' s' a' g' e f h i x =
    subst (λ (t : List ℕ). CutIs closing q' s' a' t) i
    (subst (λ (t : List ℕ). CutIs closing q' s' t g) h
    (subst (λ (t : List ℕ). CutIs closing q' t a g) f (subst (λ (t : List ℕ). CutIs closing t s a g) e x)))

pub returns : goal.returns
returns c = (
  λ yes. (
    c.ranges_lie.ensures.0 c.if-not-ranges_lie.false,
    along c.args.c.closing _ _ _ _ _ _ _ _ c.ask_of-ask.ensures c.sent_of.ensures c.took_of.ensures c.gave_of-gave.ensures (c.cut_holds.ensures.0 yes),
  ),
  λ (ranges, cut).
      c.cut_holds.ensures.1
      (along c.args.c.closing _ _ _ _ _ _ _ _ (sym c.ask_of-ask.ensures) (sym c.sent_of.ensures) (sym c.took_of.ensures) (sym c.gave_of-gave.ensures) cut),
)
