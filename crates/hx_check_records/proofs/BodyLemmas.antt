-- A body that was fed to a meter at once.
use Rattle.std.proofs.Common.{◌≡◌, ℕ, ◌+◌, List, [], length, take, drop, refl, sym, ap, subst, arith}
use Rattle.std.proofs.lemmas.List.{take-append-drop, take_all, length-drop}
use Rattle.hx_message.specs.declared.BodyKind.{BodyKind}
use Rattle.hx_message.specs.declared.BodyKind.TheVariants.{Nothing, Length, Chunked, ToEnd}
use Rattle.hx_message.specs.Body.{IsBody}
use Rattle.hx_frame.specs.declared.progress.MeterState.{MeterState}
use Rattle.hx_frame.specs.declared.progress.MeterState.TheVariants.{Going, Done, Bad}
use Rattle.hx_frame.specs.Meters.{MeterFits, IsProperPart, FeedEnds, FeedSays}
use Rattle.hx_frame.proofs.EndLemmas.{one_body_end}

-- the meter ended: the body is what was used
pub done_is : (kind : BodyKind) (old now : MeterState) (bytes : List ℕ) (n : ℕ) → FeedSays kind old now [] bytes n → now ≡ Done
    → (n ≡ length bytes → IsBody kind bytes) × (IsBody kind bytes → n ≡ length bytes)
done_is kind old now bytes n says is =
    let fits = subst (MeterFits kind (take n bytes)) is says.fits in (
      λ all. subst (λ (xs : List ℕ). IsBody kind xs) (take_all n bytes (omega (arith, all))) fits.0,
      λ whole.
          let none = one_body_end kind (take n bytes) (drop n bytes) fits.1 fits.0
          (subst (λ (xs : List ℕ). IsBody kind xs) (sym (take-append-drop n bytes)) whole) in
          omega (arith, says.within, ap length none, length-drop n bytes),
    )

-- the meter goes on: all was used, and a body has more
going_part : (kind : BodyKind) (old now : MeterState) (bytes : List ℕ) (n : ℕ) → FeedSays kind old now [] bytes n → now ≡ Going
    → IsProperPart kind bytes
going_part kind Going now bytes n says is =
    let all = subst (λ (s : MeterState). FeedEnds kind [] bytes n s) is (says.going refl) in
    subst (λ (xs : List ℕ). IsProperPart kind xs) (take_all n bytes (omega (arith, all))) (subst (MeterFits kind (take n bytes)) is says.fits)
going_part kind Done now bytes n says is = let ended = says.ended (λ e. cc) in absurd cc
going_part kind Bad now bytes n says is = let ended = says.ended (λ e. cc) in absurd cc

whole_to_end : (kind : BodyKind) (bytes : List ℕ) → IsProperPart kind bytes → IsBody kind bytes → kind ≡ ToEnd
whole_to_end Nothing bytes (more, some, longer) whole =
    absurd (omega (arith, some, ap length (one_body_end Nothing bytes more (λ e. cc) whole longer)))
whole_to_end (Length k) bytes (more, some, longer) whole =
    absurd (omega (arith, some, ap length (one_body_end (Length k) bytes more (λ e. cc) whole longer)))
whole_to_end Chunked bytes (more, some, longer) whole =
    absurd (omega (arith, some, ap length (one_body_end Chunked bytes more (λ e. cc) whole longer)))
whole_to_end ToEnd bytes part whole = refl

pub going_is : (kind : BodyKind) (old now : MeterState) (bytes : List ℕ) (n : ℕ) → FeedSays kind old now [] bytes n → now ≡ Going
    → (kind ≡ ToEnd → IsBody kind bytes) × (IsBody kind bytes → kind ≡ ToEnd)
going_is kind old now bytes n says is =
    (λ to_end. subst (λ (k : BodyKind). IsBody k bytes) (sym to_end) tt, whole_to_end kind bytes (going_part kind old now bytes n says is))

-- the meter stopped at a byte after which no body follows
pub bad_is : (kind : BodyKind) (old now : MeterState) (bytes : List ℕ) (n : ℕ) → FeedSays kind old now [] bytes n
    → (old ≡ Bad → ⊥) → now ≡ Bad → IsBody kind bytes → ⊥
bad_is kind Going now bytes n says good is whole =
    let ends = subst (λ (s : MeterState). FeedEnds kind [] bytes n s) is (says.going refl) in
    ends.1 (drop (n + 1) bytes) (subst (λ (xs : List ℕ). IsBody kind xs) (sym (take-append-drop (n + 1) bytes)) whole)
bad_is kind Done now bytes n says good is whole = let ended = says.ended (λ e. cc) in absurd cc
bad_is kind Bad now bytes n says good is whole = good refl
