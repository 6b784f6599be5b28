-- Values in a row of places: one is taken out of the middle, one is put at the end.
use Rattle.std.proofs.Common.{◌≡◌, ◌≢◌, ℕ, ◌<◌, eqb, Bool, true, false, cond, List, [], ◌∷◌, ◌++◌, refl, sym, ap, ◌∙◌, Some, ⊎_elim, eq-eqb, ne_eqb}
use Rattle.std.proofs.lemmas.Bool.{cases_eq}
use Rattle.hx_base.specs.declared.numbers.ServerNo.{ServerNo}
use Rattle.hx_base.specs.declared.numbers.Face.{Face}
use Rattle.hx_pool.specs.declared.entries.Note.{Note}
use Rattle.hx_pool.specs.Table.{Vacant, Holds, spot_no}
use Rattle.hx_pool.specs.History.{what_of}
use Rattle.hx_pool.specs.Taking.{last_park}
use Rattle.hx_resting.specs.Rows.{Rested, spot_in, IsAtBoard, AreApart, AreKept, AreLater, AreRising}

module _ (n : ℕ) where
  -- what stands at a place after the head is known
  spot_here : (x : Rested) (xs : List Rested) (p : ℕ) → p ≡ (spot_no x.place) → spot_in (x ∷ xs) p ≡ Holds x.shown.face
  spot_here x xs p e = ap (λ b. cond b (Holds x.shown.face) (spot_in xs p)) (eq-eqb p (spot_no x.place) e)

  spot_there : (x : Rested) (xs : List Rested) (p : ℕ) → p ≢ (spot_no x.place) → spot_in (x ∷ xs) p ≡ spot_in xs p
  spot_there x xs p ne = ap (λ b. cond b (Holds x.shown.face) (spot_in xs p)) (ne_eqb p (spot_no x.place) ne)

  pub at_mid : (xs : List Rested) (r : Rested) (ys : List Rested) → AreApart n (xs ++ r ∷ ys) → spot_in (xs ++ r ∷ ys) (spot_no r.place) ≡ Holds r.shown.face
  at_mid [] r ys a = spot_here r ys (spot_no r.place) refl
  at_mid (x ∷ xs) r ys a =
      let rest = at_mid xs r ys a.2 in
      let ne : (spot_no r.place) ≢ (spot_no x.place) = λ e. let v = a.1 in let w = ap (spot_in (xs ++ r ∷ ys)) e in cc in
      spot_there x (xs ++ r ∷ ys) (spot_no r.place) ne ∙ rest

  pub without_mid : (xs : List Rested) (r : Rested) (ys : List Rested) (p : ℕ) → AreApart n (xs ++ r ∷ ys) → spot_in (xs ++ ys) p ≡ cond (eqb p (spot_no r.place)) Vacant (spot_in (xs ++ r ∷ ys) p)
  without_mid [] r ys p a = ⊎_elim
      (λ (e : p ≡ (spot_no r.place)). ap (spot_in ys) e ∙ (a.1 ∙ sym (ap (λ b. cond b Vacant (spot_in (r ∷ ys) p)) (eq-eqb p (spot_no r.place) e))))
      (λ (ne : p ≢ (spot_no r.place)). sym (ap (λ b. cond b Vacant (spot_in (r ∷ ys) p)) (ne_eqb p (spot_no r.place) ne) ∙ spot_there r ys p ne))
      (cases_eq p (spot_no r.place))
  without_mid (x ∷ xs) r ys p a =
      let mid = at_mid xs r ys a.2 in
      let apart : (spot_no x.place) ≢ (spot_no r.place) = λ e. let v = a.1 in let w = ap (spot_in (xs ++ r ∷ ys)) e in cc in
      ⊎_elim
      (λ (e : p ≡ (spot_no x.place)).
      let ne : p ≢ (spot_no r.place) = λ f. apart (sym e ∙ f) in
      spot_here x (xs ++ ys) p e ∙ sym (ap (λ b. cond b Vacant (spot_in (x ∷ xs ++ r ∷ ys) p)) (ne_eqb p (spot_no r.place) ne) ∙ spot_here x (xs ++ r ∷ ys) p e))
      (λ (ne : p ≢ (spot_no x.place)).
      spot_there x (xs ++ ys) p ne ∙ (without_mid xs r ys p a.2 ∙ ap (λ s. cond (eqb p (spot_no r.place)) Vacant s) (sym (spot_there x (xs ++ r ∷ ys) p ne))))
      (cases_eq p (spot_no x.place))

  pub apart_without : (xs : List Rested) (r : Rested) (ys : List Rested) → AreApart n (xs ++ r ∷ ys) → AreApart n (xs ++ ys)
  apart_without [] r ys a = a.2
  apart_without (x ∷ xs) r ys a =
      let P : Bool → Type 0 = λ b. cond b Vacant (spot_in (xs ++ r ∷ ys) (spot_no x.place)) ≡ Vacant in
      let both : (b : Bool) → P b = λ b. elim b as P [ true ↦ refl | false ↦ a.1 ] in
      (a.0, without_mid xs r ys (spot_no x.place) a.2 ∙ both (eqb (spot_no x.place) (spot_no r.place)), apart_without xs r ys a.2)

  pub kept_without : (notes : List Note) (server : ServerNo) (xs : List Rested) (r : Rested) (ys : List Rested) → AreKept notes server (xs ++ r ∷ ys) → AreKept notes server (xs ++ ys)
  kept_without notes server [] r ys k = k.2
  kept_without notes server (x ∷ xs) r ys k = (k.0, k.1, kept_without notes server xs r ys k.2)

  pub kept_mid : (notes : List Note) (server : ServerNo) (xs : List Rested) (r : Rested) (ys : List Rested) → AreKept notes server (xs ++ r ∷ ys) → (r.shown.server ≡ server) × (what_of notes r.shown.face.id.0 ≡ Some r.shown.what)
  kept_mid notes server [] r ys k = (k.0, k.1)
  kept_mid notes server (x ∷ xs) r ys k = kept_mid notes server xs r ys k.2

  later_without : (notes : List Note) (m : ℕ) (xs : List Rested) (r : Rested) (ys : List Rested) → AreLater notes m (xs ++ r ∷ ys) → AreLater notes m (xs ++ ys)
  later_without notes m [] r ys l = l.1
  later_without notes m (x ∷ xs) r ys l = (l.0, later_without notes m xs r ys l.1)

  pub rising_without : (notes : List Note) (xs : List Rested) (r : Rested) (ys : List Rested) → AreRising notes (xs ++ r ∷ ys) → AreRising notes (xs ++ ys)
  rising_without notes [] r ys l = l.1
  rising_without notes (x ∷ xs) r ys l = (later_without notes (last_park notes x.shown.face.id.0) xs r ys l.0, rising_without notes xs r ys l.1)

  later_mid : (notes : List Note) (m : ℕ) (xs : List Rested) (r : Rested) (ys : List Rested) → AreLater notes m (xs ++ r ∷ ys) → m < last_park notes r.shown.face.id.0
  later_mid notes m [] r ys l = l.0
  later_mid notes m (x ∷ xs) r ys l = later_mid notes m xs r ys l.1

  -- what stands before another in the row was parked earlier
  pub before_mid : (notes : List Note) (ws : List Rested) (x : Rested) (xs : List Rested) (r : Rested) (ys : List Rested) → AreRising notes (ws ++ x ∷ (xs ++ r ∷ ys)) → last_park notes x.shown.face.id.0 < last_park notes r.shown.face.id.0
  before_mid notes [] x xs r ys l = later_mid notes (last_park notes x.shown.face.id.0) xs r ys l.0
  before_mid notes (w ∷ ws) x xs r ys l = before_mid notes ws x xs r ys l.1

  -- one more at a vacant place
  pub spot_push : (rests : List Rested) (r : Rested) (p : ℕ) → spot_in rests (spot_no r.place) ≡ Vacant → spot_in (rests ++ r ∷ []) p ≡ cond (eqb p (spot_no r.place)) (Holds r.shown.face) (spot_in rests p)
  spot_push [] r p v = refl
  spot_push (x ∷ xs) r p v =
      let apart : (spot_no r.place) ≢ (spot_no x.place) = λ e. let w = spot_here x xs (spot_no r.place) e in cc in
      let v' : spot_in xs (spot_no r.place) ≡ Vacant = sym (spot_there x xs (spot_no r.place) apart) ∙ v in
      ⊎_elim
      (λ (e : p ≡ (spot_no x.place)).
      let ne : p ≢ (spot_no r.place) = λ f. apart (sym f ∙ e) in
      spot_here x (xs ++ r ∷ []) p e ∙ sym (ap (λ b. cond b (Holds r.shown.face) (spot_in (x ∷ xs) p)) (ne_eqb p (spot_no r.place) ne) ∙ spot_here x xs p e))
      (λ (ne : p ≢ (spot_no x.place)). spot_there x (xs ++ r ∷ []) p ne ∙ (spot_push xs r p v' ∙ ap (λ s. cond (eqb p (spot_no r.place)) (Holds r.shown.face) s) (sym (spot_there x xs p ne))))
      (cases_eq p (spot_no x.place))

  pub apart_push : (rests : List Rested) (r : Rested) → IsAtBoard n r.place → spot_in rests (spot_no r.place) ≡ Vacant → AreApart n rests → AreApart n (rests ++ r ∷ [])
  apart_push [] r low v a = (low, refl, tt)
  apart_push (x ∷ xs) r low v a =
      let apart : (spot_no r.place) ≢ (spot_no x.place) = λ e. let w = spot_here x xs (spot_no r.place) e in cc in
      let v' : spot_in xs (spot_no r.place) ≡ Vacant = sym (spot_there x xs (spot_no r.place) apart) ∙ v in
      (a.0, spot_push xs r (spot_no x.place) v' ∙ (ap (λ b. cond b (Holds r.shown.face) (spot_in xs (spot_no x.place))) (ne_eqb (spot_no x.place) (spot_no r.place) (λ e. apart (sym e))) ∙ a.1), apart_push xs r low v' a.2)

  -- a place that is taken is that of a value
  pub spot_from : (rests : List Rested) (p : ℕ) (f : Face) → spot_in rests p ≡ Holds f → (xs : List Rested) × (r : Rested) × (ys : List Rested) × (rests ≡ xs ++ r ∷ ys) × ((spot_no r.place) ≡ p) × (r.shown.face ≡ f)
  spot_from [] p f h = cc
  spot_from (x ∷ xs) p f h = ⊎_elim
      (λ (e : p ≡ (spot_no x.place)). let w = spot_here x xs p e in ([], x, xs, refl, sym e, cc))
      (λ (ne : p ≢ (spot_no x.place)). let t = spot_from xs p f (sym (spot_there x xs p ne) ∙ h) in (x ∷ t.0, t.1, t.2, ap (λ l. x ∷ l) t.3, t.4, t.5))
      (cases_eq p (spot_no x.place))

  pub in_row : (xs : List Rested) (r : Rested) (ys : List Rested) → AreApart n (xs ++ r ∷ ys) → IsAtBoard n r.place
  in_row [] r ys a = a.0
  in_row (x ∷ xs) r ys a = in_row xs r ys a.2
