-- Lists of stays: one is taken out, one is put in, and there are no more than a row has places.
use Rattle.std.proofs.Common.{◌≡◌, ◌≢◌, ℕ, suc, ◌+◌, ◌<◌, ◌≤◌, eqb, Bool, true, false, cond, List, [], ◌∷◌, ◌++◌, length, refl, sym, ap, ◌∙◌, subst, arith, get_or, take, drop, map, ne_eqb, eq-eqb}
use Rattle.std.proofs.lemmas.List.{take-append-drop, drop_more, length-take-le, length-map, length-append}
use Rattle.std.proofs.lemmas.Map.Steps.{length-le_from_distinct_below}
use Rattle.std.proofs.lemmas.Bool.{cond_both, eqb-true}
use Rattle.std.specs.Prelude.{◌||◌}
use Rattle.std.specs.List.{list_any}
use Rattle.std.specs.List.{IsDistinct, AllByRecursion}
use Rattle.hx_base.specs.declared.rules.Mode.{Mode}
use Rattle.hx_base.specs.PlaceWords.{IsFace}
use Rattle.hx_rows.specs.declared.stays.Stay.{Stay}
use Rattle.hx_rows.specs.Stays.{NoneAt, AreApart, others_at, BestFits, Pulls}

-- a list, cut at an index
pub cut : (xs : List Stay) (i : ℕ) (d : Stay) → i < length xs → xs ≡ take i xs ++ get_or xs i d ∷ drop (i + 1) xs
cut xs i d low = sym (take-append-drop i xs) ∙ ap (λ l. take i xs ++ l) (drop_more xs i d low)

pub index_is : (xs : List Stay) (i : ℕ) → i < length xs → length (take i xs) ≡ i
index_is xs i low = length-take-le i xs (omega arith)

taken_mid : (bs : List Stay) (x : Stay) (es : List Stay) → take (length bs) (bs ++ x ∷ es) ++ drop (suc (length bs)) (bs ++ x ∷ es) ≡ bs ++ es
taken_mid [] x es = refl
taken_mid (b ∷ bs) x es = ap (λ l. b ∷ l) (taken_mid bs x es)

get_mid : (bs : List Stay) (x : Stay) (es : List Stay) (d : Stay) → get_or (bs ++ x ∷ es) (length bs) d ≡ x
get_mid [] x es d = refl
get_mid (b ∷ bs) x es d = get_mid bs x es d

-- what is left without the one at the index
pub left_is : (xs ys : List Stay) (i : ℕ) (bs : List Stay) (x : Stay) (es : List Stay) → xs ≡ bs ++ x ∷ es → length bs ≡ i → ys ≡ take i xs ++ drop (suc i) xs
    → ys ≡ bs ++ es
left_is xs ys i bs x es parts index left = left
    ∙ (ap (λ l. take i l ++ drop (suc i) l) parts
    ∙ (ap (λ j. take j (bs ++ x ∷ es) ++ drop (suc j) (bs ++ x ∷ es)) (sym index) ∙ taken_mid bs x es))

-- and that one
pub one_is : (xs : List Stay) (i : ℕ) (d : Stay) (bs : List Stay) (x : Stay) (es : List Stay) → xs ≡ bs ++ x ∷ es → length bs ≡ i → get_or xs i d ≡ x
one_is xs i d bs x es parts index = ap (λ l. get_or l i d) parts ∙ (ap (λ j. get_or (bs ++ x ∷ es) j d) (sym index) ∙ get_mid bs x es d)

none_mid : (p : ℕ) (bs : List Stay) (x : Stay) (es : List Stay) → NoneAt p (bs ++ x ∷ es) → NoneAt p (bs ++ es) × (x.place ≢ p)
none_mid p [] x es n = (n.1, n.0)
none_mid p (b ∷ bs) x es n = let r = none_mid p bs x es n.1 in ((n.0, r.0), r.1)

pub apart_mid : (bs : List Stay) (x : Stay) (es : List Stay) → AreApart (bs ++ x ∷ es) → AreApart (bs ++ es)
apart_mid [] x es a = a.3
apart_mid (b ∷ bs) x es a = (a.0, a.1, (none_mid b.place bs x es a.2).0, apart_mid bs x es a.3)

pub one_mid : (bs : List Stay) (x : Stay) (es : List Stay) → AreApart (bs ++ x ∷ es) → (x.place < 64) × IsFace x.face
one_mid [] x es a = (a.0, a.1)
one_mid (b ∷ bs) x es a = one_mid bs x es a.3

pub others_none : (p : ℕ) (xs : List Stay) → NoneAt p xs → others_at p xs ≡ xs
others_none p [] n = refl
others_none p (x ∷ xs) n = ap (λ b. cond b (others_at p xs) (x ∷ others_at p xs)) (ne_eqb x.place p n.0) ∙ ap (λ l. x ∷ l) (others_none p xs n.1)

pub others_mid : (p : ℕ) (bs : List Stay) (x : Stay) (es : List Stay) → AreApart (bs ++ x ∷ es) → x.place ≡ p → others_at p (bs ++ x ∷ es) ≡ bs ++ es
others_mid p [] x es a at = ap (λ b. cond b (others_at p es) (x ∷ others_at p es)) (eq-eqb x.place p at) ∙ others_none p es (subst (λ q. NoneAt q es) at a.2)
others_mid p (b ∷ bs) x es a at =
    let far : b.place ≢ p = λ e. (none_mid b.place bs x es a.2).1 (at ∙ sym e) in
    ap (λ c. cond c (others_at p (bs ++ x ∷ es)) (b ∷ others_at p (bs ++ x ∷ es))) (ne_eqb b.place p far) ∙ ap (λ l. b ∷ l) (others_mid p bs x es a.3 at)

none_push : (p : ℕ) (xs : List Stay) (z : Stay) → NoneAt p xs → z.place ≢ p → NoneAt p (xs ++ z ∷ [])
none_push p [] z n ne = (ne, tt)
none_push p (x ∷ xs) z n ne = (n.0, none_push p xs z n.1 ne)

pub apart_push : (xs : List Stay) (z : Stay) → AreApart xs → NoneAt z.place xs → z.place < 64 → IsFace z.face → AreApart (xs ++ z ∷ [])
apart_push [] z a n low face = (low, face, tt, tt)
apart_push (x ∷ xs) z a n low face = (a.0, a.1, none_push x.place xs z a.2 (λ e. n.0 (sym e)), apart_push xs z a.3 n.1 low face)

none_other : (p q : ℕ) (xs : List Stay) → NoneAt p xs → NoneAt p (others_at q xs)
none_other p q [] n = tt
none_other p q (x ∷ xs) n =
    cond_both (eqb x.place q) (others_at q xs) (x ∷ others_at q xs) (NoneAt p) (λ _. none_other p q xs n.1) (λ _. (n.0, none_other p q xs n.1))

pub none_here : (p : ℕ) (xs : List Stay) → NoneAt p (others_at p xs)
none_here p [] = tt
none_here p (x ∷ xs) =
    let P : Bool → Type 0 = λ b. eqb x.place p ≡ b → NoneAt p (cond b (others_at p xs) (x ∷ others_at p xs)) in
    let go : (b : Bool) → P b = λ b. elim b as P [
      | true ↦ λ e. none_here p xs
      | false ↦ λ e. ((λ same. let y = eq-eqb x.place p same in let z = sym y ∙ e in cc), none_here p xs)
    ] in
    go (eqb x.place p) refl

distinct_head : (p : ℕ) (xs : List Stay) → NoneAt p xs → AllByRecursion (λ y. eqb p y ≡ false) (map (λ (x : Stay). x.place) xs)
distinct_head p [] n = tt
distinct_head p (x ∷ xs) n = (ne_eqb p x.place (λ e. n.0 (sym e)), distinct_head p xs n.1)

distinct : (xs : List Stay) → AreApart xs → IsDistinct eqb (map (λ (x : Stay). x.place) xs)
unfolding IsDistinct
distinct [] a = tt
distinct (x ∷ xs) a = (distinct_head x.place xs a.2, distinct xs a.3)

low_places : (xs : List Stay) → AreApart xs → (q : ℕ) → list_any (eqb q) (map (λ (x : Stay). x.place) xs) ≡ true → q < 64
low_places [] a q h = absurd (cc)
low_places (x ∷ xs) a q h =
    let P : Bool → Type 0 = λ b. eqb q x.place ≡ b → b || (list_any (eqb q) (map (λ (y : Stay). y.place) xs)) ≡ true → q < 64 in
    let go : (b : Bool) → P b = λ b. elim b as P [
      | true ↦ λ e r. let same = eqb-true q x.place e in let low = a.0 in omega arith
      | false ↦ λ e r. low_places xs a.3 q r
    ] in
    go (eqb q x.place) refl h

-- no two at one place: so there are no more than places
pub few : (xs : List Stay) → AreApart xs → length xs ≤ 64
few xs a =
    let most = length-le_from_distinct_below (map (λ (x : Stay). x.place) xs) 64 (distinct xs a) (low_places xs a) in
    let same = length-map xs (λ (x : Stay). x.place) in omega arith

-- so there is room for one more at another place
pub room : (xs : List Stay) (z : Stay) → AreApart xs → NoneAt z.place xs → z.place < 64 → IsFace z.face → length xs < 64
room xs z a n low face =
    let most = few (xs ++ z ∷ []) (apart_push xs z a n low face) in
    let sum = length-append xs (z ∷ []) in omega arith

pub few_mid : (bs : List Stay) (x : Stay) (es : List Stay) → AreApart (bs ++ x ∷ es) → length (bs ++ es) < 64
few_mid bs x es a =
    let most = few (bs ++ x ∷ es) a in
    let one = length-append bs (x ∷ es) in
    let two = length-append bs es in omega arith

pub pulls : (mode : Mode) (first : Bool) (xs ys : List Stay) (i : ℕ) (x : Stay) → AreApart xs → BestFits mode first xs i → ys ≡ take i xs ++ drop (suc i) xs → x ≡ get_or xs i x
    → Pulls mode first xs x ys
pulls mode first xs ys i x apart best left is =
    let l = best.last in
    let chosen : l.chosen ≡ x = sym (is ∙ one_is xs i x l.before l.chosen l.behind l.parts l.index) in
    let whole = subst AreApart l.parts apart in
    let one = one_mid l.before l.chosen l.behind whole in
    let rest = left_is xs ys i l.before l.chosen l.behind l.parts l.index left in record {
      index = i;
      best = best;
      is = chosen;
      left = rest;
      inside = subst (λ (z : Stay). z.place < 64) chosen one.0;
      face = subst (λ (z : Stay). IsFace z.face) chosen one.1;
      few = subst (λ (zs : List Stay). length zs < 64) (sym rest) (few_mid l.before l.chosen l.behind whole);
    }
