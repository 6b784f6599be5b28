-- What an edit does to values that are listed under their numbers.
use Rattle.std.proofs.Common.{◌≡◌, ◌≢◌, ℕ, zero, suc, ◌<◌, List, [], ◌∷◌, ◌++◌, length, refl, sym, ap, ◌∙◌, subst, arith, Option, Some, None, IsSome, append_assoc, eq-eqb, ne_eqb}
use Rattle.std.specs.Prelude.{if◌then◌else◌, slice_set, remove}
use Rattle.std.specs.Prelude.{count_by, is_some, cond, min, ◌-◌, OnSome}
use Rattle.std.proofs.lemmas.List.Sums.{sum_by-set}
use Rattle.slab.specs.Slab.{Slab, with_value as with_slot}
use mathlib.Core.Logic.{dite}
use native.Mathlib.Decide.{ℕ_discrete}
use Rattle.hx_numbered.specs.Numbers.{AreAbove, AreBelow, IsRising, IsAt, value_of, with_value, removed}
use Rattle.hx_numbered.specs.Numbered.{Numbered, with_value_at}
use Rattle.hx_numbered.specs.Listed.{under, with_number, listed, AreFilled, NoneHas, KeysDiffer, IsListed, seen}
use Rattle.hx_numbered.proofs.Rising.{at_rest, later_above, some_there, first_is, rising_more, value_here, value_past}
use Rattle.hx_numbered.proofs.Finding.{key_at, found}

-- ---- slots

under_same : {T : Type 0} (slots : List (Option T)) (key : ℕ) (o : Option T) → IsSome (under slots key) → under (slice_set slots key o) key ≡ o
under_same [] key o i = cc
under_same (x ∷ slots) zero o i = refl
under_same (x ∷ slots) (suc key) o i = under_same slots key o i

under_other : {T : Type 0} (slots : List (Option T)) (key other : ℕ) (o : Option T) → (other ≡ key → ⊥) → under (slice_set slots key o) other ≡ under slots other
under_other [] key other o ne = refl
under_other (x ∷ slots) zero zero o ne = absurd (ne refl)
under_other (x ∷ slots) zero (suc other) o ne = refl
under_other (x ∷ slots) (suc key) zero o ne = refl
under_other (x ∷ slots) (suc key) (suc other) o ne = under_other slots key other o (λ e. ne (ap suc e))

-- slots that agree at the keys of the order list the same
same_listed : {T : Type 0} (slots more : List (Option T)) (key : ℕ) (order : List (ℕ × ℕ)) → NoneHas key order → ((other : ℕ) → other ≢ key → under more other ≡ under slots other) → listed more order ≡ listed slots order
same_listed slots more key [] none same = refl
same_listed {T} slots more key (p ∷ order) none same =
    ap (λ (o : Option T). with_number p.0 o ++ listed more order) (same p.1 none.0)
    ∙ ap (λ (l : List (ℕ × T)). with_number p.0 (under slots p.1) ++ l) (same_listed slots more key order none.1 same)

same_filled : {T : Type 0} (slots more : List (Option T)) (key : ℕ) (order : List (ℕ × ℕ)) → NoneHas key order → ((other : ℕ) → other ≢ key → under more other ≡ under slots other) → AreFilled slots order → AreFilled more order
same_filled slots more key [] none same f = tt
same_filled {T} slots more key (p ∷ order) none same f =
    (subst (λ (o : Option T). IsSome o) (sym (same p.1 none.0)) f.0, same_filled slots more key order none.1 same f.1)

-- the key of a later pair is another one
later_key : (p : ℕ × ℕ) (order : List (ℕ × ℕ)) (i : ℕ) → NoneHas p.1 order → i < length order → key_at order i ≡ p.1 → ⊥
later_key p [] i none low = absurd (omega (arith, low))
later_key p (q ∷ order) zero none low = none.0
later_key p (q ∷ order) (suc i) none low = later_key p order i none.1 (omega (arith, low))

filled_at : {T : Type 0} (slots : List (Option T)) (order : List (ℕ × ℕ)) (i : ℕ) → AreFilled slots order → i < length order → IsSome (under slots (key_at order i))
filled_at slots [] i f low = absurd (omega (arith, low))
filled_at slots (p ∷ order) zero f low = f.0
filled_at slots (p ∷ order) (suc i) f low = filled_at slots order i f.1 (omega (arith, low))

-- ---- another value under a number

with_here : {T : Type 0} (x : ℕ × T) (items : List (ℕ × T)) (n : ℕ) (v : T) → x.0 ≡ n → with_value (x ∷ items) n v ≡ (n, v) ∷ items
with_here x items n v e = ap (λ b. if b then (n, v) ∷ items else x ∷ with_value items n v) (eq-eqb x.0 n e)

with_past : {T : Type 0} (x : ℕ × T) (items : List (ℕ × T)) (n : ℕ) (v : T) → (x.0 ≡ n → ⊥) → with_value (x ∷ items) n v ≡ x ∷ with_value items n v
with_past x items n v ne = ap (λ b. if b then (n, v) ∷ items else x ∷ with_value items n v) (ne_eqb x.0 n ne)

pub written : {T : Type 0} (slots : List (Option T)) (order : List (ℕ × ℕ)) (n i : ℕ) (w : T) → IsRising order → AreFilled slots order → KeysDiffer order → IsAt order n i
    → listed (slice_set slots (key_at order i) (Some w)) order ≡ with_value (listed slots order) n w
written slots [] n i w r f d a = absurd (omega (arith, a.in_range))
written {T} slots (p ∷ order) n zero w r f d a =
    let v = some_there (under slots p.1) f.0 in
    let slots' : List (Option T) = slice_set slots p.1 (Some w) in
    first_is slots' p order w (under_same slots p.1 (Some w) f.0)
    ∙ (ap (λ k. (k, w) ∷ listed slots' order) a.has
    ∙ (ap (λ (l : List (ℕ × T)). (n, w) ∷ l) (same_listed slots slots' p.1 order d.0 (λ other ne. under_other slots p.1 other (Some w) ne))
    ∙ sym (ap (λ (l : List (ℕ × T)). with_value l n w) (first_is slots p order v.0 v.1) ∙ with_here (p.0, v.0) (listed slots order) n w a.has)))
written {T} slots (p ∷ order) n (suc i) w r f d a =
    let v = some_there (under slots p.1) f.0 in
    let b = at_rest p order n i a in
    let low = later_above p order n i r a in
    let slots' : List (Option T) = slice_set slots (key_at order i) (Some w) in
    let apart : p.1 ≡ key_at order i → ⊥ = λ e. later_key p order i d.0 b.in_range (sym e) in
    first_is slots' p order v.0 (under_other slots (key_at order i) p.1 (Some w) apart ∙ v.1)
    ∙ (ap (λ (l : List (ℕ × T)). (p.0, v.0) ∷ l) (written slots order n i w r.1 f.1 d.1 b)
    ∙ sym (ap (λ (l : List (ℕ × T)). with_value l n w) (first_is slots p order v.0 v.1) ∙ with_past (p.0, v.0) (listed slots order) n w (λ e. omega (arith, low, e))))

set_filled : {T : Type 0} (slots : List (Option T)) (order : List (ℕ × ℕ)) (key : ℕ) (w : T) → IsSome (under slots key) → AreFilled slots order → AreFilled (slice_set slots key (Some w)) order
set_filled slots [] key w there f = tt
set_filled {T} slots (p ∷ order) key w there f = (by_key p.1 f.0, set_filled slots order key w there f.1)
  where
    by_key : (other : ℕ) → IsSome (under slots other) → IsSome (under (slice_set slots key (Some w)) other)
    by_key other is = grind (arith, under_same slots key (Some w) there, under_other slots key other (Some w))

pub written_still : {T : Type 0} (slots : List (Option T)) (order : List (ℕ × ℕ)) (i : ℕ) (w : T) → IsListed slots order → i < length order → IsListed (slice_set slots (key_at order i) (Some w)) order
written_still slots order i w l low = record {
  rising = l.rising;
  filled = set_filled slots order (key_at order i) w (filled_at slots order i l.filled low) l.filled;
  differ = l.differ;
}

-- ---- a number taken out

out_here : {T : Type 0} (x : ℕ × T) (items : List (ℕ × T)) (n : ℕ) → x.0 ≡ n → removed (x ∷ items) n ≡ items
out_here x items n e = ap (λ b. if b then items else x ∷ removed items n) (eq-eqb x.0 n e)

out_past : {T : Type 0} (x : ℕ × T) (items : List (ℕ × T)) (n : ℕ) → (x.0 ≡ n → ⊥) → removed (x ∷ items) n ≡ x ∷ removed items n
out_past x items n ne = ap (λ b. if b then items else x ∷ removed items n) (ne_eqb x.0 n ne)

pub taken_out : {T : Type 0} (slots : List (Option T)) (order : List (ℕ × ℕ)) (n i : ℕ) → IsRising order → AreFilled slots order → KeysDiffer order → IsAt order n i
    → listed (slice_set slots (key_at order i) None) (remove order i) ≡ removed (listed slots order) n
taken_out slots [] n i r f d a = absurd (omega (arith, a.in_range))
taken_out {T} slots (p ∷ order) n zero r f d a =
    let v = some_there (under slots p.1) f.0 in
    same_listed slots (slice_set slots p.1 None) p.1 order d.0 (λ other ne. under_other slots p.1 other None ne)
    ∙ sym (ap (λ (l : List (ℕ × T)). removed l n) (first_is slots p order v.0 v.1) ∙ out_here (p.0, v.0) (listed slots order) n a.has)
taken_out {T} slots (p ∷ order) n (suc i) r f d a =
    let v = some_there (under slots p.1) f.0 in
    let b = at_rest p order n i a in
    let low = later_above p order n i r a in
    let slots' : List (Option T) = slice_set slots (key_at order i) None in
    let apart : p.1 ≡ key_at order i → ⊥ = λ e. later_key p order i d.0 b.in_range (sym e) in
    first_is slots' p (remove order i) v.0 (under_other slots (key_at order i) p.1 None apart ∙ v.1)
    ∙ (ap (λ (l : List (ℕ × T)). (p.0, v.0) ∷ l) (taken_out slots order n i r.1 f.1 d.1 b)
    ∙ sym (ap (λ (l : List (ℕ × T)). removed l n) (first_is slots p order v.0 v.1) ∙ out_past (p.0, v.0) (listed slots order) n (λ e. omega (arith, low, e))))

above_without : (m : ℕ) (order : List (ℕ × ℕ)) (i : ℕ) → AreAbove m order → AreAbove m (remove order i)
above_without m [] zero a = tt
above_without m [] (suc i) a = tt
above_without m (p ∷ order) zero a = a.1
above_without m (p ∷ order) (suc i) a = (a.0, above_without m order i a.1)

rising_without : (order : List (ℕ × ℕ)) (i : ℕ) → IsRising order → IsRising (remove order i)
rising_without [] zero r = tt
rising_without [] (suc i) r = tt
rising_without (p ∷ order) zero r = r.1
rising_without (p ∷ order) (suc i) r = (above_without p.0 order i r.0, rising_without order i r.1)

none_without : (key : ℕ) (order : List (ℕ × ℕ)) (i : ℕ) → NoneHas key order → NoneHas key (remove order i)
none_without key [] zero n = tt
none_without key [] (suc i) n = tt
none_without key (p ∷ order) zero n = n.1
none_without key (p ∷ order) (suc i) n = (n.0, none_without key order i n.1)

differ_without : (order : List (ℕ × ℕ)) (i : ℕ) → KeysDiffer order → KeysDiffer (remove order i)
differ_without [] zero d = tt
differ_without [] (suc i) d = tt
differ_without (p ∷ order) zero d = d.1
differ_without (p ∷ order) (suc i) d = (none_without p.1 order i d.0, differ_without order i d.1)

-- the key that went has no pair any more
gone_key : (order : List (ℕ × ℕ)) (i : ℕ) → KeysDiffer order → i < length order → NoneHas (key_at order i) (remove order i)
gone_key [] i d low = absurd (omega (arith, low))
gone_key (p ∷ order) zero d low = d.0
gone_key (p ∷ order) (suc i) d low = ((λ e. later_key p order i d.0 (omega (arith, low)) (sym e)), gone_key order i d.1 (omega (arith, low)))

filled_without : {T : Type 0} (slots : List (Option T)) (order : List (ℕ × ℕ)) (i : ℕ) → AreFilled slots order → AreFilled slots (remove order i)
filled_without slots [] zero f = tt
filled_without slots [] (suc i) f = tt
filled_without slots (p ∷ order) zero f = f.1
filled_without slots (p ∷ order) (suc i) f = (f.0, filled_without slots order i f.1)

pub out_still : {T : Type 0} (slots : List (Option T)) (order : List (ℕ × ℕ)) (i : ℕ) → IsListed slots order → i < length order → IsListed (slice_set slots (key_at order i) None) (remove order i)
out_still slots order i l low = record {
  rising = rising_without order i l.rising;
  filled = same_filled slots (slice_set slots (key_at order i) None) (key_at order i) (remove order i) (gone_key order i l.differ low)
      (λ other ne. under_other slots (key_at order i) other None ne) (filled_without slots order i l.filled);
  differ = differ_without order i l.differ;
}

-- ---- a greater number

-- a vacant key has no pair
vacant_key : {T : Type 0} (slots : List (Option T)) (order : List (ℕ × ℕ)) (key : ℕ) → under slots key ≡ None → AreFilled slots order → NoneHas key order
vacant_key slots [] key none f = tt
vacant_key {T} slots (p ∷ order) key none f = ((λ e. not_some (under slots p.1) f.0 (ap (λ k. under slots k) e ∙ none)), vacant_key slots order key none f.1)
  where
    not_some : (o : Option T) → IsSome o → o ≡ None → ⊥
    not_some None i e = cc
    not_some (Some v) i e = cc

listed_both : {T : Type 0} (slots : List (Option T)) (xs ys : List (ℕ × ℕ)) → listed slots (xs ++ ys) ≡ listed slots xs ++ listed slots ys
listed_both slots [] ys = refl
listed_both {T} slots (p ∷ xs) ys =
    ap (λ (l : List (ℕ × T)). with_number p.0 (under slots p.1) ++ l) (listed_both slots xs ys)
    ∙ sym (append_assoc (with_number p.0 (under slots p.1)) (listed slots xs) (listed slots ys))

filled_both : {T : Type 0} (slots : List (Option T)) (xs ys : List (ℕ × ℕ)) → AreFilled slots xs → AreFilled slots ys → AreFilled slots (xs ++ ys)
filled_both slots [] ys f g = g
filled_both slots (p ∷ xs) ys f g = (f.0, filled_both slots xs ys f.1 g)

none_more : (key : ℕ) (order : List (ℕ × ℕ)) (q : ℕ × ℕ) → NoneHas key order → (q.1 ≡ key → ⊥) → NoneHas key (order ++ q ∷ [])
none_more key [] q none ne = (ne, tt)
none_more key (p ∷ order) q none ne = (none.0, none_more key order q none.1 ne)

differ_more : (order : List (ℕ × ℕ)) (q : ℕ × ℕ) → NoneHas q.1 order → KeysDiffer order → KeysDiffer (order ++ q ∷ [])
differ_more [] q none d = (tt, tt)
differ_more (p ∷ order) q none d = (none_more p.1 order q d.0 (λ e. none.0 (sym e)), differ_more order q none.1 d.1)

module _ {T : Type 0} (slots more : List (Option T)) (order : List (ℕ × ℕ)) (key n : ℕ) (v : T) (vacant : under slots key ≡ None) (now : under more key ≡ Some v)
    (others : (other : ℕ) → other ≢ key → under more other ≡ under slots other) (l : IsListed slots order) where
  pub put_in : listed more (order ++ (n, key) ∷ []) ≡ listed slots order ++ (n, v) ∷ []
  put_in =
      listed_both more order ((n, key) ∷ [])
      ∙ (ap (λ (xs : List (ℕ × T)). xs ++ listed more ((n, key) ∷ [])) (same_listed slots more key order (vacant_key slots order key vacant l.filled) others)
      ∙ ap (λ (o : Option T). listed slots order ++ (with_number n o ++ [])) now)

  pub in_still : AreBelow order n → IsListed more (order ++ (n, key) ∷ [])
  in_still below = record {
    rising = rising_more order (n, key) below l.rising;
    filled = filled_both more order ((n, key) ∷ []) (same_filled slots more key order (vacant_key slots order key vacant l.filled) others l.filled)
        (subst (λ (o : Option T). IsSome o) (sym now) refl, tt);
    differ = differ_more order (n, key) (vacant_key slots order key vacant l.filled) l.differ;
  }

-- a number that isn't there isn't taken out
pub not_out : {T : Type 0} (items : List (ℕ × T)) (n : ℕ) → value_of items n ≡ None → removed items n ≡ items
not_out [] n none = refl
not_out {T} (x ∷ items) n none = dite (ℕ_discrete x.0 n)
    (λ (e : x.0 ≡ n). absurd (not_both x.1 (sym (value_here x items n e) ∙ none)))
    (λ ne. out_past x items n ne ∙ ap (λ (l : List (ℕ × T)). x ∷ l) (not_out items n (sym (value_past x items n ne) ∙ none)))
  where
    not_both : {T : Type 0} (v : T) → Some v ≡ None → ⊥
    not_both v e = cc

is_some_then : {T : Type 0} (o : Option T) (P : Type 0) → IsSome o → OnSome o P → P
is_some_then None P i p = cc
is_some_then (Some v) P i p = p

-- what a removal leaves
pub record TakesOut {T : Type 0} (slots slots' : List (Option T)) (order order' : List (ℕ × ℕ)) (n : ℕ) (o : Option T) : Type 0 where
  pub still : IsListed slots' order'
  pub value : o ≡ value_of (listed slots order) n
  pub rest : listed slots' order' ≡ removed (listed slots order) n

pub takes_out : {T : Type 0} (slots slots' : List (Option T)) (order order' : List (ℕ × ℕ)) (n i key : ℕ) (o : Option T) → IsListed slots order → IsAt order n i → key ≡ key_at order i → o ≡ under slots key
    → OnSome o (slots' ≡ slice_set slots key None) → order' ≡ remove order i → TakesOut slots slots' order order' n o
takes_out {T} slots slots' order order' n i key o l a e value out less =
    let is : o ≡ under slots (key_at order i) = value ∙ ap (λ k. under slots k) e in
    let there : IsSome o = subst (λ (x : Option T). IsSome x) (sym is) (filled_at slots order i l.filled a.in_range) in
    let slots_is : slots' ≡ slice_set slots (key_at order i) None = is_some_then o (slots' ≡ slice_set slots key None) there out ∙ ap (λ k. slice_set slots k None) e in
    record {
      still = subst (λ (s : List (Option T)). IsListed s order') (sym slots_is) (subst (λ m. IsListed (slice_set slots (key_at order i) None) m) (sym less) (out_still slots order i l a.in_range));
      value = is ∙ sym (found slots order n i l.rising l.filled a);
      rest = ap (λ (s : List (Option T)). listed s order') slots_is ∙ (ap (λ m. listed (slice_set slots (key_at order i) None) m) less ∙ taken_out slots order n i l.rising l.filled l.differ a);
    }

-- ---- another value in place

there_within : {T : Type 0} (slots : List (Option T)) (key : ℕ) → IsSome (under slots key) → key < length slots
there_within [] key i = cc
there_within (x ∷ slots) zero i = omega arith
there_within (x ∷ slots) (suc key) i = omega (arith, there_within slots key i)

-- there are as many values as before
count_same : {T : Type 0} (slots : List (Option T)) (key : ℕ) (w : T) → IsSome (under slots key) → count_by is_some (slice_set slots key (Some w)) ≡ count_by is_some slots
count_same {T} slots key w there =
    let v = some_there (under slots key) there in
    let e = sum_by-set (λ (o : Option T). cond (is_some o) 1 0) slots key (Some w) None (there_within slots key there) in
    let tells : Option T → ℕ = λ o. cond (is_some o) 1 0 in
    let one : tells (under slots key) ≡ 1 = ap tells v.1 in
    omega (arith, e, one)

-- what a contract sees then
pub written_view : {T : Type 0} (slab : Slab T) (order : List (ℕ × ℕ)) (capacity n i key : ℕ) (w : T) → IsListed slab.slots order → IsAt order n i → key ≡ key_at order i
    → seen (with_slot slab key w) order capacity ≡ with_value_at (seen slab order capacity) n w
written_view {T} slab order capacity n i key w l a e =
    let there : IsSome (under slab.slots key) = subst (λ k. IsSome (under slab.slots k)) (sym e) (filled_at slab.slots order i l.filled a.in_range) in
    let items : listed (slice_set slab.slots key (Some w)) order ≡ with_value (listed slab.slots order) n w =
    ap (λ k. listed (slice_set slab.slots k (Some w)) order) e ∙ written slab.slots order n i w l.rising l.filled l.differ a in
    both_are items (ap (λ k. min (slab.capacity - k) (capacity - length order)) (count_same slab.slots key w there))
  where
    both : {T : Type 0} → List (ℕ × T) → ℕ → Numbered T
    both xs m = record { items = xs; room = m }

    both_are : {T : Type 0} {xs ys : List (ℕ × T)} {m k : ℕ} → xs ≡ ys → m ≡ k → both xs m ≡ both ys k
    both_are p q = λ i. both (p i) (q i)
