-- The orders of a script, moment by moment.
use Rattle.std.proofs.Common.{◌≡◌, ◌≢◌, ℕ, zero, suc, ◌+◌, ◌-◌, ◌<◌, ◌≤◌, List, [], ◌∷◌, ◌++◌, length, map, refl, sym, ap, ◌∙◌, subst, arith, tests, Bool, true, cond, not, inl, inr, ◌⊎◌, ⊎_elim, Option, Some, eq-eqb, ne_eqb}
use Rattle.std.specs.Prelude.{All, Contains, IfSome, drop, filter, take, reverse, slice_get, slice_index_or, ◌==◌, ◌&&◌}
use Rattle.std.specs.List.Sorted.{IsNonDecreasingBy, ties}
use Rattle.std.specs.Ordering.{nat_cmp, is_lt}
use Rattle.std.proofs.lemmas.Bool.{and_parts, ltb-true}
use Rattle.std.proofs.lemmas.Grind.{flat_map-append}
use Rattle.std.proofs.lemmas.List.{append-nil, reverse-append, reverse-reverse}
use Rattle.std.proofs.lemmas.List.Elements.{filter-append, All-head, All-push, All-tail}
use Rattle.hx_base.specs.declared.numbers.Millis.{Millis}
use Rattle.hx_base.specs.declared.order.Order.{Order}
use Rattle.hx_base.specs.declared.order.Order.TheVariants.{Drain}
use Rattle.hx_script_parts.specs.Limits.{are_rising, comes_before}
use Rattle.hx_run.specs.Cares.{Care, DueOrder, AreToCome, LastIsOther, StandInOrder, cares_at, is_at, moment_cares, order_moment, orders_at}

-- ---- lists

some_is : {A : Type 0} (a b : A) → Some a ≡ Some b → a ≡ b
some_is a b e = cc

get_end : {A : Type 0} (xs : List A) (x : A) → slice_get (xs ++ x ∷ []) (length xs) ≡ Some x
get_end [] x = refl
get_end (y ∷ xs) x = get_end xs x

long_end : {A : Type 0} (xs : List A) (x : A) → length (xs ++ x ∷ []) ≡ length xs + 1
long_end [] x = refl
long_end (y ∷ xs) x = let e = long_end xs x in omega (arith, e)

get_last : {A : Type 0} (xs : List A) (x : A) → slice_get (xs ++ x ∷ []) (length (xs ++ x ∷ []) - 1) ≡ Some x
get_last xs x =
    let long : length (xs ++ x ∷ []) - 1 ≡ length xs = omega (arith, long_end xs x) in
    subst (λ (n : ℕ). slice_get (xs ++ x ∷ []) n ≡ Some x) (sym long) (get_end xs x)

-- the head of a list the other way round is its last
last_of : {A : Type 0} (xs ys : List A) (y : A) → reverse xs ≡ y ∷ ys → slice_get xs (length xs - 1) ≡ Some y
last_of xs ys y e =
    let is : xs ≡ reverse ys ++ y ∷ [] = sym (reverse-reverse xs) ∙ (ap reverse e ∙ reverse-append (y ∷ []) ys) in
    subst (λ l. slice_get l (length l - 1) ≡ Some y) (sym is) (get_last (reverse ys) y)

all_none : {A : Type 0} (P : A → Type 0) → All P []
all_none P k d low = absurd (omega (arith, low))

all_more : {A : Type 0} (P : A → Type 0) (x : A) (xs : List A) → P x → All P xs → All P (x ∷ xs)
all_more P x xs p a zero d low = p
all_more P x xs p a (suc k) d low = a k d (omega (arith, low))

all_map : {A : Type 0} (P Q : A → Type 0) → ((x : A) → P x → Q x) → (xs : List A) → All P xs → All Q xs
all_map P Q f xs a k d low = f (slice_index_or xs k d) (a k d low)

-- the elements behind the first ones
all_behind : {A : Type 0} (P : A → Type 0) (xs ys : List A) → All P (xs ++ ys) → All P ys
all_behind P [] ys a = a
all_behind P (x ∷ xs) ys a = all_behind P xs ys (All-tail P x (xs ++ ys) a)

-- ---- moments that rise

in_first : {A : Type 0} (x : A) (xs : List A) → Contains (x ∷ xs) x
in_first x xs = (0, omega arith, refl)

in_next : {A : Type 0} (y : A) (xs : List A) (x : A) → Contains xs x → Contains (y ∷ xs) x
in_next y xs x h = (suc h.0, omega (arith, h.1), h.2)

in_either : {A : Type 0} (y : A) (xs : List A) (x : A) → Contains (y ∷ xs) x → (y ≡ x) ⊎ Contains xs x
in_either y xs x (zero, low, is) = inl is
in_either y xs x (suc k, low, is) = inr (k, omega (arith, low), is)

in_none : {A : Type 0} (x : A) → Contains [] x → ⊥
in_none x (k, low, is) = omega (arith, low)

rising_above : (now : Millis) (later : List Millis) (m : Millis) → are_rising (now ∷ later) ≡ true → Contains later m → now.0 < m.0
rising_above now [] m r h = absurd (in_none m h)
rising_above now (n ∷ later) m r h =
    let parts = and_parts (comes_before now (n ∷ later)) (are_rising (n ∷ later)) r in
    let low : now.0 < n.0 = ltb-true now.0 n.0 parts.0 in
    ⊎_elim (λ (e : n ≡ m). subst (λ (x : Millis). now.0 < x.0) e low)
    (λ (k : Contains later m). let far = rising_above n later m parts.1 k in omega (arith, low, far))
    (in_either n later m h)

-- the rest of moments that rise rises
pub rising_drop : (ms : List Millis) (i : ℕ) → are_rising ms ≡ true → are_rising (drop i ms) ≡ true
rising_drop ms zero r = r
rising_drop [] (suc i) r = r
rising_drop (m ∷ ms) (suc i) r = rising_drop ms i (and_parts (comes_before m ms) (are_rising ms) r).1

-- ---- the orders of one moment

abbrev of_moment : Millis → List Order → List DueOrder
of_moment now taken = map (λ (what : Order). (now, what)) taken

taken_at : (now : Millis) (taken : List Order) → map (λ (x : DueOrder). x.1) (filter (is_at now) (of_moment now taken)) ≡ taken
taken_at now [] = refl
taken_at now (w ∷ ws) =
    ap (λ (c : Bool). map (λ (x : DueOrder). x.1) (cond c ((now, w) ∷ filter (is_at now) (of_moment now ws)) (filter (is_at now) (of_moment now ws)))) (eq-eqb now.0 now.0 refl)
    ∙ ap (λ (l : List Order). w ∷ l) (taken_at now ws)

taken_none : (now m : Millis) (taken : List Order) → (now.0 ≡ m.0 → ⊥) → filter (is_at m) (of_moment now taken) ≡ []
taken_none now m [] ne = refl
taken_none now m (w ∷ ws) ne =
    ap (λ (c : Bool). cond c ((now, w) ∷ filter (is_at m) (of_moment now ws)) (filter (is_at m) (of_moment now ws))) (ne_eqb now.0 m.0 ne)
    ∙ taken_none now m ws ne

others_none : (now : Millis) (xs : List DueOrder) → All (λ (x : DueOrder). now.0 < x.0.0) xs → filter (is_at now) xs ≡ []
others_none now [] a = refl
others_none now (x ∷ xs) a =
    let far : now.0 < x.0.0 = All-head (λ (y : DueOrder). now.0 < y.0.0) x xs a in
    ap (λ (c : Bool). cond c (x ∷ filter (is_at now) xs) (filter (is_at now) xs)) (ne_eqb x.0.0 now.0 (λ e. omega (arith, e, far)))
    ∙ others_none now xs (All-tail (λ (y : DueOrder). now.0 < y.0.0) x xs a)

-- ---- orders by moment

rises_tail : (x : DueOrder) (xs : List DueOrder) → IsNonDecreasingBy order_moment (x ∷ xs) → IsNonDecreasingBy order_moment xs
rises_tail x xs up i j d le low = up (suc i) (suc j) d (omega (arith, le)) (omega (arith, low))

rises_behind : (xs ys : List DueOrder) → IsNonDecreasingBy order_moment (xs ++ ys) → IsNonDecreasingBy order_moment ys
rises_behind [] ys up = up
rises_behind (x ∷ xs) ys up = rises_behind xs ys (rises_tail x (xs ++ ys) up)

rises_from : (y : DueOrder) (ys : List DueOrder) → IsNonDecreasingBy order_moment (y ∷ ys) → All (λ (x : DueOrder). y.0.0 ≤ x.0.0) ys
rises_from y ys up k d low = up zero (suc k) d (omega arith) (omega (arith, low))

-- the first one is of no such moment
abbrev FirstIsOther : Millis → List DueOrder → Type 0
FirstIsOther now rest = (y : DueOrder) (ys : List DueOrder) → rest ≡ y ∷ ys → y.0.0 ≢ now.0

above : (now : Millis) (later : List Millis) (rest : List DueOrder) → All (λ (x : DueOrder). Contains (now ∷ later) x.0) rest → IsNonDecreasingBy order_moment rest → FirstIsOther now rest → are_rising (now ∷ later) ≡ true
    → All (λ (x : DueOrder). now.0 < x.0.0) rest
above now later [] among up other r = all_none (λ (x : DueOrder). now.0 < x.0.0)
above now later (y ∷ ys) among up other r =
    let low : now.0 < y.0.0 =
    ⊎_elim (λ (e : now ≡ y.0). absurd (other y ys refl (ap (λ (m : Millis). m.0) (sym e))))
    (λ (k : Contains later y.0). rising_above now later y.0 r k)
    (in_either now later y.0 (All-head (λ (x : DueOrder). Contains (now ∷ later) x.0) y ys among)) in
    all_more (λ (x : DueOrder). now.0 < x.0.0) y ys low
    (all_map (λ (x : DueOrder). y.0.0 ≤ x.0.0) (λ (x : DueOrder). now.0 < x.0.0) (λ x far. omega (arith, low, far)) ys (rises_from y ys up))

-- those of a moment are taken off the front, and the others are to come
to_come_next : (orders : List DueOrder) (now : Millis) (later : List Millis) (taken : List Order) (rest : List DueOrder) → are_rising (now ∷ later) ≡ true → AreToCome orders (now ∷ later) (of_moment now taken ++ rest) → FirstIsOther now rest
    → AreToCome orders later rest × (orders_at now orders ≡ taken)
to_come_next orders now later taken rest r s other =
    let among : All (λ (x : DueOrder). Contains (now ∷ later) x.0) rest = all_behind (λ (x : DueOrder). Contains (now ∷ later) x.0) (of_moment now taken) rest s.among in
    let up : IsNonDecreasingBy order_moment rest = rises_behind (of_moment now taken) rest s.rising in
    let far : All (λ (x : DueOrder). now.0 < x.0.0) rest = above now later rest among up other r in (
      record {
        among = λ k d low.
            ⊎_elim (λ (e : now ≡ (slice_index_or rest k d).0). let more = far k d low in absurd (omega (arith, more, ap (λ (m : Millis). m.0) e)))
            (λ (c : Contains later (slice_index_or rest k d).0). c)
            (in_either now later (slice_index_or rest k d).0 (among k d low));
        same = λ m inside.
            let more : now.0 < m.0 = rising_above now later m r inside in
            ap (λ (l : List DueOrder). l ++ filter (is_at m) rest) (sym (taken_none now m taken (λ e. omega (arith, e, more))))
            ∙ (sym (filter-append (is_at m) (of_moment now taken) rest) ∙ s.same m (in_next now later m inside));
        rising = up;
      },
      ap (λ (l : List DueOrder). map (λ (x : DueOrder). x.1) l)
          (sym (s.same now (in_first now later)) ∙ (filter-append (is_at now) (of_moment now taken) rest
          ∙ (ap (λ (l : List DueOrder). filter (is_at now) (of_moment now taken) ++ l) (others_none now rest far) ∙ append-nil (filter (is_at now) (of_moment now taken)))))
          ∙ taken_at now taken,
    )

pub next_moment : (orders : List DueOrder) (now : Millis) (later : List Millis) (due left : List DueOrder) (taken : List Order) → are_rising (now ∷ later) ≡ true → AreToCome orders (now ∷ later) (reverse due) → reverse due ≡ of_moment now taken ++ reverse left
    → LastIsOther now left → AreToCome orders later (reverse left) × (orders_at now orders ≡ taken)
next_moment orders now later due left taken r s is other =
    to_come_next orders now later taken (reverse left) r (subst (AreToCome orders (now ∷ later)) is s)
    (λ y ys e. subst (λ (o : Option DueOrder). IfSome o (λ x. x.0.0 ≢ now.0)) (last_of left ys y e) other)

-- ---- the orders of a script

same_tests : (a b : ℕ) → not (is_lt (nat_cmp a b)) && not (is_lt (nat_cmp b a)) ≡ (b == a)
same_tests a b = grind (arith, tests)

all_reverse : {A : Type 0} (P : A → Type 0) (xs : List A) → All P xs → All P (reverse xs)
all_reverse P [] a = a
all_reverse P (x ∷ xs) a =
    subst (λ l. All P l) (sym (reverse-append (x ∷ []) xs)) (All-push P (reverse xs) x (all_reverse P xs (All-tail P x xs a)) (All-head P x xs a))

pub all_to_come : (orders due : List DueOrder) (moments : List Millis) → StandInOrder orders (reverse due) → All (λ (x : DueOrder). Contains moments x.0) due → AreToCome orders moments (reverse due)
all_to_come orders due moments s among = record {
  among = all_reverse (λ (x : DueOrder). Contains moments x.0) due among;
  same = λ now inside.
      let tests : (x : DueOrder) → ties (λ (y z : DueOrder). is_lt (nat_cmp (order_moment y) (order_moment z))) (now, Drain (record { 0 = 0 })) x ≡ is_at now x = λ x. same_tests now.0 x.0.0 in
      (λ i. filter (λ (x : DueOrder). sym (tests x) i) (reverse due)) ∙ (s.ties (now, Drain (record { 0 = 0 })) ∙ (λ i. filter (λ (x : DueOrder). tests x i) orders));
  rising = s.rising;
}

-- ---- the moments of a script

-- the next one of several
pub record IsNext (ms : List Millis) (i k : ℕ) (now : Millis) : Type 0 where
  pub behind : take k ms ≡ take i ms ++ now ∷ []
  pub first : drop i ms ≡ now ∷ drop k ms
  pub there : Contains ms now

moment_next : (ms : List Millis) (i : ℕ) (d : Millis) → i < length ms → IsNext ms i (suc i) (slice_index_or ms i d)
moment_next [] i d low = absurd (omega (arith, low))
moment_next (m ∷ ms) zero d low = record { behind = refl; first = refl; there = in_first m ms }
moment_next (m ∷ ms) (suc i) d low =
    let r = moment_next ms i d (omega (arith, low)) in
    record { behind = ap (λ (l : List Millis). m ∷ l) r.behind; first = r.first; there = in_next m ms (slice_index_or ms i d) r.there }

pub moments_next : (ms : List Millis) (i : ℕ) (d : Millis) → i < length ms → IsNext ms i (i + 1) (slice_index_or ms i d)
moments_next ms i d low =
    let e : suc i ≡ i + 1 = omega arith in
    subst (λ (k : ℕ). IsNext ms i k (slice_index_or ms i d)) e (moment_next ms i d low)

pub drop_all : {A : Type 0} (ms : List A) (i : ℕ) → length ms ≤ i → (take i ms ≡ ms) × (drop i ms ≡ [])
drop_all [] zero low = (refl, refl)
drop_all [] (suc i) low = (refl, refl)
drop_all (m ∷ ms) zero low = absurd (omega (arith, low))
drop_all (m ∷ ms) (suc i) low = let r = drop_all ms i (omega (arith, low)) in (ap (λ l. m ∷ l) r.0, r.1)

pub cares_more : (orders : List DueOrder) (ms : List Millis) (now : Millis) → cares_at orders (ms ++ now ∷ []) ≡ cares_at orders ms ++ moment_cares orders now
cares_more orders ms now =
    flat_map-append (moment_cares orders) ms (now ∷ []) ∙ ap (λ (l : List Care). cares_at orders ms ++ l) (append-nil (moment_cares orders now))
