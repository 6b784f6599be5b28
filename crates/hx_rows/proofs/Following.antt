-- The stays of a row, while its thread parks, takes and looks.
use Rattle.std.proofs.Common.{◌≡◌, ◌≢◌, ◌⊎◌, inl, inr, ⊎_elim, ℕ, ◌+◌, ◌≤◌, eqb, cond, List, [], ◌∷◌, ◌++◌, length, refl, sym, ap, ◌∙◌, subst, arith, ne_eqb, eq-eqb}
use Rattle.std.proofs.lemmas.Bool.{cases_eq, cond_both}
use Rattle.hx_base.specs.declared.numbers.ThreadNo.{ThreadNo}
use Rattle.hx_base.specs.declared.numbers.SessionNo.{SessionNo}
use Rattle.hx_base.specs.declared.numbers.PlaceNo.{PlaceNo}
use Rattle.hx_base.specs.declared.numbers.Face.{Face}
use Rattle.hx_base.specs.Shown.{Shown}
use Rattle.hx_pool.specs.declared.entries.Entry.TheVariants.{Park}
use Rattle.hx_pool.specs.declared.entries.Note.{Note}
use Rattle.hx_pool.specs.Table.{Table, Holds, ParkNeeds, spot_at, spot_no, empty_table}
use Rattle.hx_pool.specs.History.{table_after, MeetsNeeds, IsLegal}
use Rattle.hx_pool.specs.Causes.{place_of}
use Rattle.hx_pool.specs.Taking.{park_after, park_from, last_park}
use Rattle.hx_pool.specs.Parking.{parked}
use Rattle.hx_pool.proofs.Histories.{EachStep-first, EachStep-second}
use Rattle.hx_pool.proofs.Tables.{put_same, put_other, sound_at}
use Rattle.hx_pool.proofs.Rows.{AllElsewhere}
use Rattle.hx_rows.specs.declared.stays.Stay.{Stay}
use Rattle.hx_rows.specs.Stays.{stay_at, NoneAt, others_at, Lists, RestsAt, AllBehind, AreInOrder, Follows}
use Rattle.hx_rows.proofs.Resting.{table_more, rested_then, keeps_then, park_from-append}

-- the list is only looked through, and nothing was parked in the row
module _ (row : ℕ) (H more : List Note) (legal : IsLegal (H ++ more)) (apart : AllElsewhere row more) where
  before : (x : Stay) → RestsAt (H ++ more) row x → RestsAt H row x
  before x r = (r.0, rested_then H more (place_of row x.place) x.face r.0 apart legal r.1)

  last_same : (x : Stay) → RestsAt (H ++ more) row x → last_park (H ++ more) x.face.id.0 ≡ last_park H x.face.id.0
  last_same x r = (keeps_then H more (place_of row x.place) x.face r.0 apart legal r.1).0

  behind_more : (x : Stay) (ys : List Stay) → AllBehind H row x ys → AllBehind (H ++ more) row x ys
  behind_more x [] b = tt
  behind_more x (y ∷ ys) b = (
    (λ r s. let a = last_same x r in let c = last_same y s in let l = b.0 (before x r) (before y s) in omega arith),
    behind_more x ys b.1,
  )

  order_more : (xs : List Stay) → AreInOrder H row xs → AreInOrder (H ++ more) row xs
  order_more [] o = tt
  order_more (x ∷ xs) o = (behind_more x xs o.0, order_more xs o.1)

  pub follows_more : (stays : List Stay) → Follows stays row H → Follows stays row (H ++ more)
  follows_more stays f = record { listed = λ x r. f.listed x (before x r); order = order_more stays f.order }

-- one that doesn't rest any more goes
lists_mid : (bs : List Stay) (x : Stay) (es : List Stay) (y : Stay) → Lists (bs ++ x ∷ es) y → (y ≡ x) ⊎ Lists (bs ++ es) y
lists_mid [] x es y (inl e) = inl e
lists_mid [] x es y (inr l) = inr l
lists_mid (b ∷ bs) x es y (inl e) = inr (inl e)
lists_mid (b ∷ bs) x es y (inr l) = ⊎_elim (λ e. inl e) (λ r. inr (inr r)) (lists_mid bs x es y l)

behind_less : (row : ℕ) (H : List Note) (z : Stay) (bs : List Stay) (x : Stay) (es : List Stay) → AllBehind H row z (bs ++ x ∷ es)
    → AllBehind H row z (bs ++ es)
behind_less row H z [] x es b = b.1
behind_less row H z (c ∷ bs) x es b = (b.0, behind_less row H z bs x es b.1)

order_less : (row : ℕ) (H : List Note) (bs : List Stay) (x : Stay) (es : List Stay) → AreInOrder H row (bs ++ x ∷ es)
    → AreInOrder H row (bs ++ es)
order_less row H [] x es o = o.1
order_less row H (c ∷ bs) x es o = (behind_less row H c bs x es o.0, order_less row H bs x es o.1)

pub follows_less : (row : ℕ) (H : List Note) (bs : List Stay) (x : Stay) (es : List Stay) → (RestsAt H row x → ⊥)
    → Follows (bs ++ x ∷ es) row H → Follows (bs ++ es) row H
follows_less row H bs x es gone f = record {
  listed = λ y r. ⊎_elim (λ (e : y ≡ x). absurd (gone (subst (RestsAt H row) e r))) (λ (l : Lists (bs ++ es) y). l)
      (lists_mid bs x es y (f.listed y r));
  order = order_less row H bs x es f.order;
}

-- without those at a place
none_others : (p : ℕ) (xs : List Stay) → NoneAt p (others_at p xs)
none_others p [] = tt
none_others p (x ∷ xs) = ⊎_elim
    (λ (e : x.place ≡ p). subst (NoneAt p) (sym (ap (λ b. cond b (others_at p xs) (x ∷ others_at p xs)) (eq-eqb x.place p e))) (none_others p xs))
    (λ (ne : x.place ≢ p). subst (NoneAt p) (sym (ap (λ b. cond b (others_at p xs) (x ∷ others_at p xs)) (ne_eqb x.place p ne))) (ne, none_others p xs))
    (cases_eq x.place p)

lists_others : (p : ℕ) (xs : List Stay) (y : Stay) → y.place ≢ p → Lists xs y → Lists (others_at p xs) y
lists_others p [] y ne l = elim l [ ]
lists_others p (x ∷ xs) y ne l = ⊎_elim
    (λ (e : x.place ≡ p). subst (λ zs. Lists zs y) (sym (ap (λ b. cond b (others_at p xs) (x ∷ others_at p xs)) (eq-eqb x.place p e)))
    (⊎_elim (λ (is : y ≡ x). absurd (ne (ap (λ (z : Stay). z.place) is ∙ e))) (λ (r : Lists xs y). lists_others p xs y ne r) l))
    (λ (other : x.place ≢ p). subst (λ zs. Lists zs y) (sym (ap (λ b. cond b (others_at p xs) (x ∷ others_at p xs)) (ne_eqb x.place p other)))
    (⊎_elim (λ (is : y ≡ x). inl is) (λ (r : Lists xs y). inr (lists_others p xs y ne r)) l))
    (cases_eq x.place p)

behind_others : (row : ℕ) (H : List Note) (p : ℕ) (z : Stay) (xs : List Stay) → AllBehind H row z xs → AllBehind H row z (others_at p xs)
behind_others row H p z [] b = tt
behind_others row H p z (x ∷ xs) b =
    cond_both (eqb x.place p) (others_at p xs) (x ∷ others_at p xs) (AllBehind H row z)
    (λ _. behind_others row H p z xs b.1) (λ _. (b.0, behind_others row H p z xs b.1))

order_others : (row : ℕ) (H : List Note) (p : ℕ) (xs : List Stay) → AreInOrder H row xs → AreInOrder H row (others_at p xs)
order_others row H p [] o = tt
order_others row H p (x ∷ xs) o =
    cond_both (eqb x.place p) (others_at p xs) (x ∷ others_at p xs) (AreInOrder H row)
    (λ _. order_others row H p xs o.1) (λ _. (behind_others row H p x xs o.0, order_others row H p xs o.1))

lists_first : (xs ys : List Stay) (y : Stay) → Lists xs y → Lists (xs ++ ys) y
lists_first [] ys y l = elim l [ ]
lists_first (x ∷ xs) ys y (inl e) = inl e
lists_first (x ∷ xs) ys y (inr l) = inr (lists_first xs ys y l)

lists_last : (xs : List Stay) (y z : Stay) → y ≡ z → Lists (xs ++ z ∷ []) y
lists_last [] y z e = inl e
lists_last (x ∷ xs) y z e = inr (lists_last xs y z e)

park_bound : (i k o : ℕ) (xs : List Note) → o ≤ k → park_from i k o xs ≤ k + length xs
park_bound i k o [] h = omega arith
park_bound i k o (x ∷ xs) h =
    let P : ℕ → Type 0 = λ j. j ≤ k + 1 in
    let low : P (park_after i k o x.entry) = elim x.entry as (λ e. P (park_after i k o e)) [
      | Park t n id place uses ↦ cond_both (eqb id.0 i) k o P (λ _. omega arith) (λ _. omega arith)
      | _ ↦ omega arith
    ] in
    let r = park_bound i (k + 1) (park_after i k o x.entry) xs low in omega arith

holds_same : (f g : Face) → Holds f ≡ Holds g → f ≡ g
holds_same f g e = cc

-- one more was parked, at a place of the row
module _ (t : ThreadNo) (n : SessionNo) (place : PlaceNo) (v : Shown) (H : List Note) (legal : IsLegal (H ++ parked t n place v ∷ [])) where
  abbrev e : Note
  e = parked t n place v

  abbrev x : Stay
  x = stay_at place.place v.face

  need : ParkNeeds (table_after H) t n v.face.id place v.face.uses
  need = (EachStep-second MeetsNeeds empty_table H (e ∷ []) legal).0

  -- what rests at another place rested there before, and is another connection
  was : (y : Stay) → y.place ≢ place.place → RestsAt (H ++ e ∷ []) t.0 y → RestsAt H t.0 y
  was y ne r =
      let own = need.row in let inside = need.inside in let low = r.0 in
      let far : spot_no (place_of t.0 y.place) ≢ spot_no place = λ same. ne (omega arith) in (
        r.0,
        sym (ap (λ (T : Table). spot_at T (place_of t.0 y.place)) (table_more H e)
            ∙ put_other (table_after H).spots (spot_no place) (Holds v.face) (spot_no (place_of t.0 y.place)) far) ∙ r.1,
      )

  other : (y : Stay) → RestsAt H t.0 y → y.face.id.0 ≢ v.face.id.0
  other y r same =
      let at = ((sound_at H (EachStep-first MeetsNeeds empty_table H (e ∷ []) legal)).rests (place_of t.0 y.place) y.face r.0 r.1).0 in
      let held = need.held in let is = ap (table_after H).conns same in cc

  last_is : (i : ℕ) → last_park (H ++ e ∷ []) i ≡ cond (eqb v.face.id.0 i) (1 + length H) (last_park H i)
  last_is i = park_from-append i 1 0 H (e ∷ [])

  last_other : (y : Stay) → y.place ≢ place.place → RestsAt (H ++ e ∷ []) t.0 y → last_park (H ++ e ∷ []) y.face.id.0 ≡ last_park H y.face.id.0
  last_other y ne r = last_is y.face.id.0
      ∙ ap (λ b. cond b (1 + length H) (last_park H y.face.id.0)) (ne_eqb v.face.id.0 y.face.id.0 (λ same. other y (was y ne r) (sym same)))

  last_here : last_park (H ++ e ∷ []) v.face.id.0 ≡ 1 + length H
  last_here = last_is v.face.id.0 ∙ ap (λ b. cond b (1 + length H) (last_park H v.face.id.0)) (eq-eqb v.face.id.0 v.face.id.0 refl)

  behind_push : (y : Stay) (zs : List Stay) → y.place ≢ place.place → NoneAt place.place zs → AllBehind H t.0 y zs → AllBehind (H ++ e ∷ []) t.0 y (zs ++ x ∷ [])
  behind_push y [] ne none b = (
    (λ r s. let a = last_other y ne r in let c = last_here in let d = park_bound y.face.id.0 1 0 H (omega arith) in omega arith),
    tt,
  )
  behind_push y (z ∷ zs) ne none b = (
    (λ r s. let a = last_other y ne r in let c = last_other z none.0 s in let l = b.0 (was y ne r) (was z none.0 s) in omega arith),
    behind_push y zs ne none.1 b.1,
  )

  order_push : (zs : List Stay) → NoneAt place.place zs → AreInOrder H t.0 zs → AreInOrder (H ++ e ∷ []) t.0 (zs ++ x ∷ [])
  order_push [] none o = (tt, tt)
  order_push (z ∷ zs) none o = (behind_push z zs none.0 none.1 o.0, order_push zs none.1 o.1)

  here : (y : Stay) → y.place ≡ place.place → RestsAt (H ++ e ∷ []) t.0 y → y ≡ x
  here y same r =
      let own = need.row in
      let at : spot_no (place_of t.0 y.place) ≡ spot_no place = omega arith in
      let f : v.face ≡ y.face = holds_same v.face y.face
      (sym (ap (λ (T : Table). spot_at T (place_of t.0 y.place)) (table_more H e)
      ∙ put_same (table_after H).spots (spot_no place) (Holds v.face) (spot_no (place_of t.0 y.place)) at) ∙ r.1) in
      λ i. stay_at (same i) (sym f i)

  pub follows_parked : (stays : List Stay) → Follows stays t.0 H → Follows (others_at place.place stays ++ x ∷ []) t.0 (H ++ e ∷ [])
  follows_parked stays f = record {
    listed = λ y r. ⊎_elim
        (λ (same : y.place ≡ place.place). lists_last (others_at place.place stays) y x (here y same r))
        (λ (ne : y.place ≢ place.place). lists_first (others_at place.place stays) (x ∷ []) y (lists_others place.place stays y ne (f.listed y (was y ne r))))
        (cases_eq y.place place.place);
    order = order_push (others_at place.place stays) (none_others place.place stays) (order_others t.0 H place.place stays f.order);
  }
