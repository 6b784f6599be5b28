-- Ranges that follow each other, and where they end.
use Rattle.std.proofs.Common.{◌≡◌, ℕ, ◌+◌, ◌≤◌, ◌<◌, ◌==◌, ◌&&◌, Bool, true, false, cond, List, [], ◌∷◌, ◌++◌, Option, None, Some, length, refl, sym, ap, ◌∙◌, arith}
use Rattle.std.specs.Prelude.{◌↔◌, fold, not, nat_lt}
use Rattle.std.proofs.lemmas.Option.{none-some}
use Rattle.std.proofs.lemmas.List.Sums.{fold-append}
use Rattle.std.specs.Option.{unwrap_or}
use Rattle.hx_base.specs.Spans.{AreContiguous}
use Rattle.hx_base.specs.declared.numbers.Span.{Span}
use Rattle.hx_check_parts.specs.Sessions.{reach, reached}

-- one range more
pub reached_more : (xs : List Span) (s : Span) → reached (xs ++ s ∷ []) ≡ reach (reached xs) s
reached_more xs s = fold-append reach (Some 0) xs (s ∷ [])

stuck : (xs : List Span) → fold reach None xs ≡ None
stuck [] = refl
stuck (s ∷ xs) = stuck xs

follows : (from : ℕ) (s : Span) → ((s.from == from) && not (nat_lt s.to s.from)) ≡ true → (s.from ≡ from) × (s.from ≤ s.to)
follows from s goes_on = (grind (arith, goes_on), grind (arith, goes_on))

leaves_gap : (from : ℕ) (s : Span) → ((s.from == from) && not (nat_lt s.to s.from)) ≡ false → s.from ≡ from → s.from ≤ s.to → ⊥
leaves_gap from s stops same rises = grind (arith, stops, same, rises)

one_more : (s : Span) (xs : List Span) (from to : ℕ) (b : Bool) → ((s.from == from) && not (nat_lt s.to s.from)) ≡ b
    → (AreContiguous s.to xs to ↔ (fold reach (Some s.to) xs ≡ Some to))
    → AreContiguous from (s ∷ xs) to ↔ (fold reach (cond b (Some s.to) None) xs ≡ Some to)
one_more s xs from to true goes_on rest = (
  λ (same, rises, behind). rest.0 behind,
  λ h. let f = follows from s goes_on in (f.0, f.1, rest.1 h),
)
one_more s xs from to false stops rest = (
  λ (same, rises, behind). absurd (leaves_gap from s stops same rises),
  λ h. absurd (none-some to (sym (stuck xs) ∙ h)),
)

pub contiguous : (xs : List Span) (from to : ℕ) → AreContiguous from xs to ↔ (fold reach (Some from) xs ≡ Some to)
contiguous [] from to = (λ e. ap Some e, λ e. ap (λ (o : Option ℕ). unwrap_or o 0) e)
contiguous (s ∷ xs) from to =
    one_more s xs from to ((s.from == from) && not (nat_lt s.to s.from)) refl (contiguous xs s.to to)
