-- A place that has nothing for a request, list by list.
use Rattle.std.proofs.Common.{◌≡◌, ◌≢◌, ◌⊎◌, inl, inr, ⊎_elim, ℕ, Bool, true, false, cond, List, ◌++◌, refl, sym, ap, ◌∙◌}
use Rattle.std.specs.Prelude.{not, ◌&&◌}
use Rattle.hx_base.specs.declared.numbers.ThreadNo.{ThreadNo}
use Rattle.hx_base.specs.declared.numbers.PlaceNo.{PlaceNo}
use Rattle.hx_base.specs.declared.numbers.Face.{Face}
use Rattle.hx_base.specs.declared.rules.Mode.{Mode}
use Rattle.hx_pool.specs.declared.entries.Found.{Found}
use Rattle.hx_pool.specs.declared.entries.Found.TheVariants.{Empty, Resting, Leaving}
use Rattle.hx_pool.specs.declared.entries.Entry.TheVariants.{Look}
use Rattle.hx_pool.specs.declared.entries.Note.{Note}
use Rattle.hx_pool.specs.Rules.{allows}
use Rattle.hx_pool.specs.Causes.{Among, IsUnavailableTo}
use Rattle.hx_pool.specs.Taking.{is_safe}
use Rattle.hx_pool.proofs.Purges.{among_left, among_right}
use Rattle.hx_resting.specs.Row.{fits}

pub bool_cases : (b : Bool) → (b ≡ true) ⊎ (b ≡ false)
bool_cases true = inl refl
bool_cases false = inr refl

-- a connection is in the list that the request prefers, or in the other
pub two_lists : (s first : Bool) → (s ≡ first) ⊎ (s ≡ not first)
two_lists true true = inl refl
two_lists true false = inr refl
two_lists false true = inr refl
two_lists false false = inl refl

pub fit_of : (a s safe : Bool) → a ≡ true → s ≡ safe → (a && cond safe s (not s)) ≡ true
fit_of true true true e d = refl
fit_of true true false e d = absurd (cc)
fit_of true false true e d = absurd (cc)
fit_of true false false e d = refl
fit_of false s safe e d = absurd (cc)

pub same_face : (f g : Face) → Resting f ≡ Resting g → f ≡ g
same_face f g e = cc

true_false : (b : Bool) → b ≡ true → b ≡ false → ⊥
true_false b e d = cc

-- a look that shows a face whose uses may not be taken
pub unfit_face : (may : ℕ → Bool) (f : Face) → may f.uses ≡ false → (g : Face) → may g.uses ≡ true → Resting f ≢ Resting g
unfit_face may f bad g good e = true_false (may g.uses) good (ap (λ (h : Face). may h.uses) (sym (same_face f g e)) ∙ bad)

-- other looks that have these among them show it too
pub by_looks : (may : ℕ → Bool) (t : ThreadNo) (xs ys : List Note) (at : PlaceNo) → ((x : Found) → Among (λ e. e ≡ Look t at x) xs → Among (λ e. e ≡ Look t at x) ys)
    → IsUnavailableTo may t xs at → IsUnavailableTo may t ys at
by_looks may t xs ys at h m = ⊎_elim (λ a. inl (a.0, a.1, h a.0 a.2)) (λ b. inr (b.0, b.1, b.2, h (Resting b.0) b.3, h (Resting b.1) b.4)) m

pub more_left : (may : ℕ → Bool) (t : ThreadNo) (xs ys : List Note) (at : PlaceNo) → IsUnavailableTo may t xs at → IsUnavailableTo may t (xs ++ ys) at
more_left may t xs ys at m = by_looks may t xs (xs ++ ys) at (λ x a. among_left (λ e. e ≡ Look t at x) xs ys a) m

pub more_right : (may : ℕ → Bool) (t : ThreadNo) (xs ys : List Note) (at : PlaceNo) → IsUnavailableTo may t ys at → IsUnavailableTo may t (xs ++ ys) at
more_right may t xs ys at m = by_looks may t ys (xs ++ ys) at (λ x a. among_right (λ e. e ≡ Look t at x) xs ys a) m

module _ (mode : Mode) (first : Bool) (t : ThreadNo) (es : List Note) (at : PlaceNo) where
  -- two looks, neither of which shows one of its list that may be taken
  two_looks : (x y : Found) → ((f : Face) → fits mode first first f.uses ≡ true → x ≢ Resting f) → Among (λ e. e ≡ Look t at x) es
      → ((f : Face) → fits mode first (not first) f.uses ≡ true → y ≢ Resting f) → Among (λ e. e ≡ Look t at y) es → IsUnavailableTo (allows mode first) t es at
  two_looks Empty y nx ax ny ay = inl (Empty, (λ f may e. cc), ax)
  two_looks Leaving y nx ax ny ay = inl (Leaving, (λ f may e. cc), ax)
  two_looks (Resting f) Empty nx ax ny ay = inl (Empty, (λ g may e. cc), ay)
  two_looks (Resting f) Leaving nx ax ny ay = inl (Leaving, (λ g may e. cc), ay)
  two_looks (Resting f) (Resting g) nx ax ny ay =
      let differ : allows mode first f.uses ≡ true → allows mode first g.uses ≡ true → f ≢ g = λ good also same. ⊎_elim
      (λ (e : is_safe f.uses ≡ first). nx f (fit_of (allows mode first f.uses) (is_safe f.uses) first good e) refl)
      (λ (e : is_safe f.uses ≡ not first). ny g (fit_of (allows mode first g.uses) (is_safe g.uses) (not first) also (ap (λ (h : Face). is_safe h.uses) (sym same) ∙ e)) refl)
      (two_lists (is_safe f.uses) first) in
      ⊎_elim
      (λ (good : allows mode first f.uses ≡ true). ⊎_elim
      (λ (also : allows mode first g.uses ≡ true). inr (f, g, differ good also, ax, ay))
      (λ (bad : allows mode first g.uses ≡ false). inl (Resting g, unfit_face (allows mode first) g bad, ay))
      (bool_cases (allows mode first g.uses)))
      (λ (bad : allows mode first f.uses ≡ false). inl (Resting f, unfit_face (allows mode first) f bad, ax))
      (bool_cases (allows mode first f.uses))

  -- nothing of either list
  pub both_lists : IsUnavailableTo (fits mode first first) t es at → IsUnavailableTo (fits mode first (not first)) t es at → IsUnavailableTo (allows mode first) t es at
  both_lists m k = ⊎_elim (λ a. ⊎_elim (λ b. two_looks a.0 b.0 a.1 a.2 b.1 b.2) (λ d. inr d) k) (λ d. inr d) m

  -- nothing of the preferred list, where nothing of the other is allowed
  pub one_list : ((u : ℕ) → fits mode first (not first) u ≡ false) → IsUnavailableTo (fits mode first first) t es at → IsUnavailableTo (allows mode first) t es at
  one_list none m = ⊎_elim
      (λ a. inl (
        a.0,
        (λ f good. ⊎_elim
            (λ (e : is_safe f.uses ≡ first). a.1 f (fit_of (allows mode first f.uses) (is_safe f.uses) first good e))
            (λ (e : is_safe f.uses ≡ not first). absurd (true_false (fits mode first (not first) f.uses) (fit_of (allows mode first f.uses) (is_safe f.uses) (not first) good e) (none f.uses)))
            (two_lists (is_safe f.uses) first)),
        a.2,
      ))
      (λ d. inr d)
      m
