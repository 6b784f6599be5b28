-- The bytes that a meter used of those at hand.
use Rattle.std.proofs.Common.{◌≡◌, ℕ, zero, suc, ◌+◌, ◌-◌, ◌≤◌, List, [], ◌∷◌, length, take, refl, ap, subst, ◌∙◌, arith}
use Rattle.std.proofs.lemmas.List.{length-take}
use Rattle.hx_message.specs.declared.BodyKind.{BodyKind}
use Rattle.hx_frame.specs.Meters.{FeedSays}
use Rattle.hx_frame.specs.declared.progress.MeterState.{MeterState}

take_take : (k m : ℕ) (xs : List ℕ) → k ≤ m → take k (take m xs) ≡ take k xs
take_take zero m xs le = refl
take_take (suc k) zero xs le = absurd (omega arith)
take_take (suc k) (suc m) [] le = refl
take_take (suc k) (suc m) (x ∷ xs) le = ap (λ (ys : List ℕ). x ∷ ys) (take_take k m xs (omega arith))

pub moved_is : (n room : ℕ) (bytes piece : List ℕ) → piece ≡ take room bytes → n ≤ length piece → take n piece ≡ take n bytes
moved_is n room bytes piece is within =
    ap (take n) is ∙ take_take n room bytes (omega (arith, within, ap length is, length-take room bytes))

pub moved_few : (n room : ℕ) (bytes piece : List ℕ) → piece ≡ take room bytes → n ≤ length piece → n ≤ length bytes
moved_few n room bytes piece is within = omega (arith, within, ap length is, length-take room bytes)

pub says_of : (kind : BodyKind) (old now : MeterState) (before bytes piece : List ℕ) (n room held capacity : ℕ) → piece ≡ take room bytes → held + room ≡ capacity
    → FeedSays kind old now before piece n → FeedSays kind old now before (take (capacity - held) bytes) n
says_of kind old now before bytes piece n room held capacity is fits says =
    let same : room ≡ capacity - held = omega (arith, fits) in
    subst (λ (xs : List ℕ). FeedSays kind old now before xs n) (is ∙ ap (λ (k : ℕ). take k bytes) same) says
