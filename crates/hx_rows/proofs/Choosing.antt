-- Which stay a request likes best, and that nothing is left for it.
use Rattle.std.proofs.Common.{◌≡◌, ◌⊎◌, inl, inr, ⊎_elim, ℕ, ◌≤◌, Bool, true, false, cond, List, [], ◌∷◌, ◌++◌, refl, sym, ap, ◌∙◌, subst, arith}
use Rattle.std.specs.Prelude.{not, ◌&&◌}
use Rattle.hx_base.specs.declared.rules.Mode.{Mode}
use Rattle.hx_pool.specs.declared.entries.Note.{Note}
use Rattle.hx_pool.specs.Rules.{allows}
use Rattle.hx_pool.specs.SeatView.{History}
use Rattle.hx_pool.specs.Taking.{is_safe, last_park, IsBest, NoneRestsIn}
use Rattle.hx_resting.specs.Row.{fits}
use Rattle.hx_rows.specs.declared.stays.Stay.{Stay}
use Rattle.hx_rows.specs.Stays.{stay_at, NoneFits, Pulls, Lists, RestsAt, IsBehind, AllBehind, AreInOrder, Follows}

pub fit_true : (a b safe : Bool) → (a && cond safe b (not b)) ≡ true → (a ≡ true) × (b ≡ safe)
fit_true true true true e = (refl, refl)
fit_true true true false e = absurd (cc)
fit_true true false true e = absurd (cc)
fit_true true false false e = (refl, refl)
fit_true false b safe e = absurd (cc)

pub fit_false : (a b safe : Bool) → a ≡ true → (a && cond safe b (not b)) ≡ false → b ≡ not safe
fit_false true true true y e = absurd (cc)
fit_false true true false y e = refl
fit_false true false true y e = refl
fit_false true false false y e = absurd (cc)
fit_false false b safe y e = absurd (cc)

fit_neither : (a b : Bool) → (a && cond true b (not b)) ≡ false → (a && cond false b (not b)) ≡ false → a ≡ false
fit_neither true true e f = absurd (cc)
fit_neither true false e f = absurd (cc)
fit_neither false b e f = refl

same_list : (first u w : Bool) → w ≡ first → cond first (u && not w) (w && not u) ≡ false
same_list true true true e = refl
same_list true false true e = refl
same_list true u false e = absurd (cc)
same_list false u true e = absurd (cc)
same_list false u false e = refl

other_list : (first u w : Bool) → w ≡ not first → u ≡ not first → cond first (u && not w) (w && not u) ≡ false
other_list true true w d e = absurd (cc)
other_list true false w d e = refl
other_list false true true d e = refl
other_list false true false d e = absurd (cc)
other_list false false w d e = absurd (cc)

not_both : (b : Bool) → b ≡ not b → ⊥
not_both true e = cc
not_both false e = cc

lists_cut : (bs : List Stay) (c : Stay) (es : List Stay) (y : Stay) → Lists (bs ++ c ∷ es) y → Lists bs y ⊎ ((y ≡ c) ⊎ Lists es y)
lists_cut [] c es y l = inr l
lists_cut (b ∷ bs) c es y (inl e) = inl (inl e)
lists_cut (b ∷ bs) c es y (inr l) = ⊎_elim (λ h. inl (inr h)) (λ r. inr r) (lists_cut bs c es y l)

none_in : (mode : Mode) (first safe : Bool) (xs : List Stay) (y : Stay) → NoneFits mode first safe xs → Lists xs y → fits mode first safe y.face.uses ≡ false
none_in mode first safe [] y n l = elim l [ ]
none_in mode first safe (x ∷ xs) y n (inl e) = ap (λ (z : Stay). fits mode first safe z.face.uses) e ∙ n.0
none_in mode first safe (x ∷ xs) y n (inr l) = none_in mode first safe xs y n.1 l

behind_mid : (row : ℕ) (H : List Note) (z : Stay) (bs : List Stay) (c : Stay) (es : List Stay) → AllBehind H row z (bs ++ c ∷ es) → IsBehind H row z c
behind_mid row H z [] c es b = b.0
behind_mid row H z (x ∷ xs) c es b = behind_mid row H z xs c es b.1

ordered : (row : ℕ) (H : List Note) (bs : List Stay) (c : Stay) (es : List Stay) (y : Stay) → AreInOrder H row (bs ++ c ∷ es) → Lists bs y → IsBehind H row y c
ordered row H [] c es y o l = elim l [ ]
ordered row H (b ∷ bs) c es y o (inl e) = subst (λ z. IsBehind H row z c) (sym e) (behind_mid row H b bs c es o.0)
ordered row H (b ∷ bs) c es y o (inr l) = ordered row H bs c es y o.1 l

-- the one that was pulled is the best of those that rest
pub is_best : (h : History) (H : List Note) (first : Bool) (stays left : List Stay) (x : Stay) → Follows stays h.about.thread.0 H → Pulls h.about.rules.mode first stays x left
    → RestsAt H h.about.thread.0 x → IsBest h H first x.face
is_best h H first stays left x f pull rests p g low at ok =
    let row : ℕ = h.about.thread.0 in
    let mode : Mode = h.about.rules.mode in
    let y : Stay = stay_at p g in
    let b = pull.best in
    let l = b.last in
    let chosen : l.chosen ≡ x = pull.is in
    let listed : Lists stays y = f.listed y (low, at) in
    let fit = fit_true (allows mode first l.chosen.face.uses) (is_safe l.chosen.face.uses) b.safe l.good in
    let safe : is_safe x.face.uses ≡ b.safe = ap (λ (z : Stay). is_safe z.face.uses) (sym chosen) ∙ fit.1 in (
      ⊎_elim
          (λ (e : b.safe ≡ first). same_list first (is_safe g.uses) (is_safe x.face.uses) (safe ∙ e))
          (λ (e : (b.safe ≡ not first) × NoneFits mode first first stays). other_list first (is_safe g.uses) (is_safe x.face.uses) (safe ∙ e.0)
          (fit_false (allows mode first g.uses) (is_safe g.uses) first ok (none_in mode first first stays y e.1 listed)))
          b.liked,
      (λ same. ⊎_elim
          (λ (r : Lists l.before y).
          let o = ordered row H l.before l.chosen l.behind y (subst (AreInOrder H row) l.parts f.order) r in
          subst (λ (z : Stay). last_park H g.id.0 ≤ last_park H z.face.id.0) chosen (o (low, at) (subst (RestsAt H row) (sym chosen) rests)))
          (λ (r : (y ≡ l.chosen) ⊎ Lists l.behind y). ⊎_elim
          (λ (e : y ≡ l.chosen). let is = ap (λ (z : Stay). last_park H z.face.id.0) (e ∙ chosen) in omega arith)
          (λ (r : Lists l.behind y). absurd (not_both b.safe
          (sym (same ∙ safe) ∙ fit_false (allows mode first g.uses) (is_safe g.uses) b.safe ok (none_in mode first b.safe l.behind y l.none r))))
          r)
          (lists_cut l.before l.chosen l.behind y (subst (λ zs. Lists zs y) l.parts listed))),
    )

-- nothing that rests is for the request
pub none_rests : (h : History) (H : List Note) (row : ℕ) (first : Bool) (stays : List Stay) → Follows stays row H → NoneFits h.about.rules.mode first true stays
    → NoneFits h.about.rules.mode first false stays → NoneRestsIn h H row first
none_rests h H row first stays f safe idle p g low at =
    let mode : Mode = h.about.rules.mode in
    let listed : Lists stays (stay_at p g) = f.listed (stay_at p g) (low, at) in
    fit_neither (allows mode first g.uses) (is_safe g.uses) (none_in mode first true stays (stay_at p g) safe listed) (none_in mode first false stays (stay_at p g) idle listed)
