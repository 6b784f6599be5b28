-- Which connection of the other rows a takeover gets.
use Rattle.std.proofs.Common.{◌≡◌, ◌≢◌, ◌⊎◌, inl, inr, ⊎_elim, ℕ, ◌+◌, ◌*◌, ◌-◌, ◌<◌, ◌≤◌, Bool, true, false, cond, List, Option, Some, None, refl, sym, ap, ◌∙◌, subst, arith}
use Rattle.std.specs.Prelude.{not, ◌&&◌, MatchOption}
use Rattle.std.proofs.lemmas.Bool.{cases_eq}
use Rattle.hx_base.specs.declared.numbers.ThreadNo.{ThreadNo}
use Rattle.hx_base.specs.declared.numbers.Face.{Face}
use Rattle.hx_base.specs.declared.rules.Mode.{Mode}
use Rattle.hx_pool.specs.declared.entries.Found.TheVariants.{Empty, Resting, Leaving}
use Rattle.hx_pool.specs.Table.{Spot, Vacant, Holds, Leaves, found_of}
use Rattle.hx_pool.specs.Rules.{allows}
use Rattle.hx_pool.specs.Taking.{is_safe}
use Rattle.hx_resting.specs.Rows.{Rested, spot_in}
use Rattle.hx_resting.specs.Row.{nth_no, IsUnfit, fits}
use Rattle.hx_lockboard.specs.Order.{IsFit, IsClear, IsFirstInRow, AreClear, IsFirstOver, StartsAt, spot_on}

-- what is in neither list that the request may take, it may not take
in_neither : (a s f : Bool) → (a && cond f s (not s)) ≡ false → (a && cond (not f) s (not s)) ≡ false → a ≡ false
in_neither true true true x y = absurd (cc)
in_neither true true false x y = absurd (cc)
in_neither true false true x y = absurd (cc)
in_neither true false false x y = absurd (cc)
in_neither false s f x y = refl

-- what is in a list may be taken
pub in_list : (a s safe : Bool) → (a && cond safe s (not s)) ≡ true → a ≡ true
in_list true s safe e = refl
in_list false s safe e = absurd (cc)

same_spot : (f g : Face) → Holds f ≡ Holds g → f ≡ g
same_spot f g e = cc

-- what a look shows to rest there does
pub shown_rest : (s : Spot) (f : Face) → found_of s ≡ Resting f → s ≡ Holds f
shown_rest s f e =
    let P : Spot → Type 0 = λ z. found_of z ≡ Resting f → z ≡ Holds f in
    let all : (z : Spot) → P z = λ z. elim z as P [ Vacant ↦ λ h. cc | Holds g ↦ λ h. cc | Leaves t ↦ λ h. cc ] in
    all s e

pub unfit_one : (may : ℕ → Bool) (s : Spot) (f : Face) → s ≡ Holds f → may f.uses ≡ false → IsUnfit may s
unfit_one may s f is bad g holds = ap (λ (h : Face). may h.uses) (same_spot g f (sym holds ∙ is)) ∙ bad

-- nothing rests there
pub unfit_none : (may : ℕ → Bool) (s : Spot) → ((f : Face) → found_of s ≢ Resting f) → IsUnfit may s
unfit_none may s none f holds = absurd (none f (ap found_of holds))

module _ (t : ThreadNo) (threads : ℕ) (rests : List Rested) where
  pub clear_none : (may : ℕ → Bool) (step : ℕ) → IsClear t threads rests may step 0
  clear_none may step p h = absurd (omega arith)

  pub clear_more : (may : ℕ → Bool) (step k : ℕ) → IsClear t threads rests may step k → IsUnfit may (spot_on t threads rests step k) → IsClear t threads rests may step (k + 1)
  clear_more may step k c u p h = ⊎_elim
      (λ (e : p ≡ k). subst (λ (i : ℕ). IsUnfit may (spot_on t threads rests step i)) (sym e) u)
      (λ (ne : p ≢ k). c p (omega arith))
      (cases_eq p k)

  module _ (mode : Mode) (first : Bool) where
    pub clear_both : (step : ℕ) → IsClear t threads rests (fits mode first first) step 64 → IsClear t threads rests (fits mode first (not first)) step 64 → IsClear t threads rests (allows mode first) step 64
    clear_both step x y p h f holds = in_neither (allows mode first f.uses) (is_safe f.uses) first (x p h f holds) (y p h f holds)

    pub rows_none : AreClear t threads rests mode first 1
    rows_none j a b = absurd (omega arith)

    pub rows_more : (k : ℕ) → AreClear t threads rests mode first k → IsClear t threads rests (allows mode first) k 64 → AreClear t threads rests mode first (k + 1)
    rows_more k c u j a b = ⊎_elim
        (λ (e : j ≡ k). subst (λ (i : ℕ). IsClear t threads rests (allows mode first) i 64) (sym e) u)
        (λ (ne : j ≢ k). c j a (omega arith))
        (cases_eq j k)

    -- the other list is gone through behind the preferred one
    pub first_other : (step : ℕ) (o : Option ℕ) → IsClear t threads rests (fits mode first first) step 64
        → MatchOption o (IsClear t threads rests (fits mode first (not first)) step 64) (λ p. (p < 64) × IsFit (fits mode first (not first)) (spot_on t threads rests step p) × IsClear t threads rests (fits mode first (not first)) step p)
        → MatchOption o (IsClear t threads rests (allows mode first) step 64) (λ p. IsFirstInRow t threads rests mode first step p)
    first_other step None x m = clear_both step x m
    first_other step (Some p) x m = record { safe = not first; inside = m.0; fit = m.1; before = m.2; liked = inr (refl, x) }

    pub starts_inside : (q : ℕ) → t.0 < threads → StartsAt t threads rests mode first q → (64 ≤ q) × (q ≤ 64 * threads)
    starts_inside q low s = ⊎_elim
        (λ (l : (q ≡ 64) × AreClear t threads rests mode first threads). let e = l.0 in (omega arith, omega arith))
        (λ (o : IsFirstOver t threads rests mode first q). let e = o.at in let a = o.ahead in let b = o.below in let i = o.order.inside in (omega arith, omega arith))
        s

    -- where nothing was found from there on, the other rows had nothing, and the search began at their first place
    pub starts_first : (q c : ℕ) → c ≡ 64 * threads - q → StartsAt t threads rests mode first q → ((i : ℕ) → i < c → IsUnfit (allows mode first) (spot_in rests (nth_no t threads (q + i)))) → q ≡ 64
    starts_first q c is s none = ⊎_elim (λ (l : (q ≡ 64) × AreClear t threads rests mode first threads). l.0)
        (λ (o : IsFirstOver t threads rests mode first q).
        let e = o.at in
        let b = o.below in
        let i = o.order.inside in
        let f = o.order.fit in
        let z : q + 0 ≡ 64 * o.step + o.place = omega arith in
        let bad = none 0 (omega arith) f.face (ap (λ (j : ℕ). spot_in rests (nth_no t threads j)) z ∙ f.holds) in
        let good = in_list (allows mode first f.face.uses) (is_safe f.face.uses) o.order.safe f.good in
        absurd (cc)) s
