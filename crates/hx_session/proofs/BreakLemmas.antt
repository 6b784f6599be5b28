-- Bodies that break, as their bytes go on.
use Rattle.std.proofs.Common.{◌≡◌, ◌<◌, ◌+◌, ◌≤◌, ℕ, zero, suc, Bool, List, [], ◌∷◌, ◌++◌, length, take, drop, refl, sym, ap, subst, ◌∙◌, append_assoc, arith}
use Rattle.std.proofs.lemmas.List.{append-nil, length-append, length-drop, length-take}
use Rattle.std.proofs.Math.Seq.{take-add}
use Rattle.hx_message.specs.declared.BodyKind.{BodyKind}
use Rattle.hx_message.specs.declared.MethodKind.{MethodKind}
use Rattle.hx_frame.specs.declared.progress.MeterState.{MeterState}
use Rattle.hx_frame.specs.declared.progress.MeterState.TheVariants.{Going, Done, Bad}
use Rattle.hx_frame.specs.Meters.{FeedSays, NoBodyBegins}
use Rattle.hx_session.specs.declared.exchange.AnswerWay.{AnswerWay}
use Rattle.hx_session.specs.declared.exchange.AnswerWay.TheVariants.{Heads, Body}
use Rattle.hx_session.specs.Answering.{CarriesAnswer, BreaksCarried}
use Rattle.hx_session.specs.Breaking.{BreaksHere}

-- more bytes wait behind it
first_same : (xs ys : List ℕ) → 0 < length xs → take 1 (xs ++ ys) ≡ take 1 xs
first_same [] ys some = absurd (omega (arith, some))
first_same (x ∷ xs) ys some = refl

here_more : (kind : BodyKind) (body waiting more : List ℕ) → BreaksHere kind body waiting → BreaksHere kind body (waiting ++ more)
here_more kind body waiting more b = record {
  some = omega (arith, b.some, length-append waiting more);
  none = subst (λ (xs : List ℕ). NoBodyBegins kind (body ++ xs)) (sym (first_same waiting more b.some)) b.none;
}

pub breaks_more : (a : AnswerWay) (wants written : Bool) (m : MethodKind) (taken put waiting more : List ℕ) (k : CarriesAnswer a wants written m taken put) → BreaksCarried a wants written m taken put waiting k
    → BreaksCarried a wants written m taken put (waiting ++ more) k
breaks_more Heads wants written m taken put waiting more k b = tt
breaks_more (Body x) wants written m taken put waiting more k b = λ bad. here_more k.kind k.way.body waiting more (b bad)

pub heads_unbroken : (a : AnswerWay) (wants written : Bool) (m : MethodKind) (taken put waiting : List ℕ) (k : CarriesAnswer a wants written m taken put) → a ≡ Heads → BreaksCarried a wants written m taken put waiting k
heads_unbroken Heads wants written m taken put waiting k is = tt
heads_unbroken (Body x) wants written m taken put waiting k is = cc

pub going_unbroken : (kind : BodyKind) (s : MeterState) (body waiting : List ℕ) → s ≡ Going → s ≡ Bad → BreaksHere kind body waiting
going_unbroken kind s body waiting a b = cc

-- a feed that came to a byte that breaks the body
feed_going : (kind : BodyKind) (s : MeterState) (body from : List ℕ) (room n : ℕ) → FeedSays kind Going s body (take room from) n → s ≡ Bad → BreaksHere kind (body ++ take n from) (drop n from)
feed_going kind Going body from room n says bad = cc
feed_going kind Done body from room n says bad = cc
feed_going kind Bad body from room n says bad =
    let ends = says.going refl in
    let low : n + 1 ≤ room = omega (arith, ends.0, length-take room from) in
    let inside : n < length from = omega (arith, ends.0, length-take room from) in
    let same : take (n + 1) (take room from) ≡ take n from ++ take 1 (drop n from) = take_take (n + 1) room from low ∙ take-add n 1 from in
    record {
      some = omega (arith, inside, length-drop n from);
      none = subst (NoBodyBegins kind) (sym (append_assoc body (take n from) (take 1 (drop n from)))) (subst (λ (xs : List ℕ). NoBodyBegins kind (body ++ xs)) same ends.1);
    }
  where
    take_take : (k r : ℕ) (xs : List ℕ) → k ≤ r → take k (take r xs) ≡ take k xs
    take_take zero r xs le = refl
    take_take (suc k) zero xs le = absurd (omega (arith, le))
    take_take (suc k) (suc r) [] le = refl
    take_take (suc k) (suc r) (x ∷ xs) le = ap (λ (l : List ℕ). x ∷ l) (take_take k r xs (omega (arith, le)))

pub feed_breaks : (kind : BodyKind) (old s : MeterState) (body from : List ℕ) (room n : ℕ) → FeedSays kind old s body (take room from) n → (old ≡ Bad → BreaksHere kind body from) → s ≡ Bad → BreaksHere kind (body ++ take n from) (drop n from)
feed_breaks kind Going s body from room n says before bad = feed_going kind s body from room n says bad
feed_breaks kind Done s body from room n says before bad = absurd (not_both s (says.ended (λ e. cc)).1 bad)
  where
    not_both : (x : MeterState) → x ≡ Done → x ≡ Bad → ⊥
    not_both x a b = cc
feed_breaks kind Bad s body from room n says before bad =
    let none = (says.ended (λ e. cc)).0 in
    let b = before refl in
    subst (λ (k : ℕ). BreaksHere kind (body ++ take k from) (drop k from)) (sym none) (subst (λ (xs : List ℕ). BreaksHere kind xs from) (sym (append-nil body)) b)
