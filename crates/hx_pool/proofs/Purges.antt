-- What the calls under a quota make together.
use Rattle.std.proofs.Common.{◌≡◌, ℕ, zero, suc, ◌+◌, ◌<◌, ◌≤◌, List, [], ◌∷◌, ◌++◌, cond, false, refl, sym, ap, ◌∙◌, subst, arith, inl, inr, ◌⊎◌, ⊎_elim}
use Rattle.std.proofs.lemmas.List.{append_cancel_left, append-nil}
use Rattle.std.proofs.lemmas.List.Sums.{sum_by-append}
use mathlib.Core.Logic.{dite}
use native.Mathlib.Decide.{ℕ_discrete}
use Rattle.hx_base.specs.declared.numbers.ThreadNo.{ThreadNo}
use Rattle.hx_base.specs.declared.numbers.PlaceNo.{PlaceNo}
use Rattle.hx_base.specs.Shown.{Shown}
use Rattle.hx_pool.specs.declared.budget.Quota.{Quota}
use Rattle.hx_pool.specs.declared.entries.Note.{Note}
use Rattle.hx_pool.specs.declared.entries.Found.{Found}
use Rattle.hx_pool.specs.declared.entries.Found.TheVariants.{Resting}
use Rattle.hx_pool.specs.declared.entries.Entry.{Entry}
use Rattle.hx_pool.specs.declared.entries.Entry.TheVariants.{Look}
use Rattle.hx_pool.specs.SeatView.{History}
use Rattle.hx_pool.specs.Causes.{AllLooks, Among, IsTakeAt, IsUnavailable, IsCovered, nth_place, caretaker}
use Rattle.hx_pool.specs.Taking.{taking}
use Rattle.hx_pool.specs.History.{is_take, takes_of}
use Rattle.hx_pool.specs.Purge.{PurgesOne, EndsPurge, PurgesNone, IsUnderQuota, KeepsQuota}

pub takes_of-append : (xs ys : List Note) → takes_of (xs ++ ys) ≡ takes_of xs + takes_of ys
takes_of-append xs ys = sum_by-append (λ (x : Note). cond (is_take x) 1 0) xs ys

pub among_left : (P : Entry → Type 0) (xs ys : List Note) → Among P xs → Among P (xs ++ ys)
among_left P [] ys a = absurd a
among_left P (x ∷ xs) ys a = ⊎_elim (λ h. inl h) (λ h. inr (among_left P xs ys h)) a

pub among_right : (P : Entry → Type 0) (xs ys : List Note) → Among P ys → Among P (xs ++ ys)
among_right P [] ys a = a
among_right P (x ∷ xs) ys a = inr (among_right P xs ys a)

-- more looks leave a place as unavailable as it was
pub unavailable_by : (t : ThreadNo) (es fs : List Note) (at : PlaceNo) → ((x : Found) → Among (λ e. e ≡ Look t at x) es → Among (λ e. e ≡ Look t at x) fs) → IsUnavailable t es at → IsUnavailable t fs at
unavailable_by t es fs at h m = ⊎_elim (λ a. inl (a.0, a.1, h a.0 a.2)) (λ b. inr (b.0, b.1, b.2, h (Resting b.0) b.3, h (Resting b.1) b.4)) m

pub covered_left : (t : ThreadNo) (es more : List Note) (at : PlaceNo) → IsCovered t es at → IsCovered t (es ++ more) at
covered_left t es more at c = ⊎_elim (λ a. inl (among_left (IsTakeAt at) es more a)) (λ b. inr (unavailable_by t es (es ++ more) at (λ x a. among_left (λ e. e ≡ Look t at x) es more a) b)) c

takes_looks : (t : ThreadNo) (xs : List Note) → AllLooks t xs → takes_of xs ≡ 0
takes_looks t [] h = refl
takes_looks t (x ∷ xs) h = ap (λ (y : Note). takes_of (y ∷ xs)) h.0.2 ∙ takes_looks t xs h.1

pub le_cases : (a b : ℕ) → (a ≤ b) ⊎ (b < a)
le_cases zero b = inl (omega arith)
le_cases (suc a) zero = inr (omega arith)
le_cases (suc a) (suc b) = ⊎_elim (λ (h : a ≤ b). inl (omega arith)) (λ (h : b < a). inr (omega arith)) (le_cases a b)

-- a call that takes keeps the quota
pub purge_goes : (old new : History) (q r : Quota) (v : Shown) → PurgesOne old new q r v → KeepsQuota old new q r
purge_goes old new q r v p c e es added m u =
    let t : ThreadNo = old.about.thread in
    let tail : List Note = taking t caretaker false (nth_place t old.about.threads p.at) v.face p.takes.count in
    let own : List Note = p.takes.looks ++ tail in
    let is : added ≡ own = append_cancel_left old.mine added own (sym m ∙ p.takes.makes.mine) in
    let a1 = takes_of-append es own in
    let a2 = takes_of-append p.takes.looks tail in
    let a3 = takes_looks t p.takes.looks p.takes.looked in
    let a4 : takes_of tail ≡ 1 = refl in
    let l = p.left in let ul = u.left in let s = p.seen in
    subst (λ xs. IsUnderQuota old.about c e r (es ++ xs)) (sym is) (record {
      stands = p.stands;
      left = omega arith;
      covered = λ i h. let w : PlaceNo = nth_place t old.about.threads i in
          ⊎_elim
          (λ (from : q.seen ≤ i). dite (ℕ_discrete i p.at)
          (λ here. inl (subst (λ j. Among (IsTakeAt (nth_place t old.about.threads j)) (es ++ own)) (sym here)
          (among_right (IsTakeAt (nth_place t old.about.threads p.at)) es own (among_right (IsTakeAt (nth_place t old.about.threads p.at)) p.takes.looks tail (inl refl)))))
          (λ ne. inr (unavailable_by t p.takes.looks (es ++ own) w (λ x a. among_right (λ e. e ≡ Look t w x) es own (among_left (λ e. e ≡ Look t w x) p.takes.looks tail a)) (p.none i from (omega arith)))))
          (λ (no : i < q.seen). covered_left t es own w (u.covered i no)) (le_cases q.seen i);
    })

ends_goes : (old new : History) (q r : Quota) → EndsPurge old new q r → KeepsQuota old new q r
ends_goes old new q r p c e es added m u =
    let t : ThreadNo = old.about.thread in
    let is : added ≡ p.looks = append_cancel_left old.mine added p.looks (sym m ∙ p.makes.makes.mine) in
    let a1 = takes_of-append es p.looks in
    let a3 = takes_looks t p.looks p.looked in
    let l = p.left in let ul = u.left in let s = p.seen in
    subst (λ xs. IsUnderQuota old.about c e r (es ++ xs)) (sym is) (record {
      stands = record { inside = omega arith; at = λ h. absurd (omega arith) };
      left = omega arith;
      covered = λ i h. let w : PlaceNo = nth_place t old.about.threads i in
          ⊎_elim
          (λ (from : q.seen ≤ i). inr (unavailable_by t p.looks (es ++ p.looks) w (λ x a. among_right (λ e. e ≡ Look t w x) es p.looks a) (p.none i from (omega arith))))
          (λ (no : i < q.seen). covered_left t es p.looks w (u.covered i no)) (le_cases q.seen i);
    })

-- a call that takes nothing keeps the quota too
pub purge_stays : (old new : History) (q r : Quota) → PurgesNone old new q r → KeepsQuota old new q r
purge_stays old new q r p = ⊎_elim
    (λ s. λ c e es added m u.
    let is : added ≡ [] = append_cancel_left old.mine added [] (sym m ∙ s.2.makes.mine) in
    subst (λ xs. IsUnderQuota old.about c e r (es ++ xs)) (sym is) (subst (λ xs. IsUnderQuota old.about c e r xs) (sym (append-nil es)) (subst (λ k. IsUnderQuota old.about c e k es) (sym s.1) u)))
    (λ s. ends_goes old new q r s.1) p
