-- The caretaker's work at all seats of a thread.
use Rattle.std.proofs.Common.{◌≡◌, ◌≢◌, ℕ, zero, suc, ◌+◌, ◌*◌, ◌<◌, ◌≤◌, List, [], ◌∷◌, ◌++◌, length, map, get_or, refl, sym, ap, ◌∙◌, subst, arith, Some, inl, inr, append_assoc}
use Rattle.std.specs.List.{slice_get, slice_set}
use Rattle.std.proofs.lemmas.List.{append-nil}
use Rattle.hx_base.specs.declared.numbers.Millis.{Millis}
use Rattle.hx_base.specs.declared.order.Order.{Order}
use Rattle.hx_link.specs.Nets.{NetState}
use Rattle.hx_pool.specs.SeatView.{History}
use Rattle.hx_connecting.specs.Journals.{JournalRoom, JournalStays, JournalsStay}
use Rattle.hx_caretaker.specs.Sweeps.{Sweep, Sweeps, no_sweep, BuriesAll, care_marks}
use Rattle.hx_caretaker.specs.Caring.{CaresFor, CaresForAll, EachSweep, all_links, count_swept}
use Rattle.hx_caretaker.specs.Owners.{HoldsOn, AllHoldOn}
use Rattle.hx_caretaker.specs.Rounds.{Ticks, TicksAt}
use Rattle.hx_caretaker.specs.Orders.{Obeys, OrdersAt, ordered_server}
use Rattle.hx_caretaker.proofs.SweepLemmas.{buries_both, buries_none, room_same}

-- ---- seat by seat

-- the first i of the seats were worked on, and the others are as they were
abbrev pub UpTo : {S : Type 0} → (S → S → Sweep → Type 0) → ℕ → List S → List S → List Sweep → Type 0
UpTo P zero old new [] = new ≡ old
UpTo P zero old new (x ∷ xs) = ⊥
UpTo P (suc i) (a ∷ old) (b ∷ new) (x ∷ xs) = P a b x × UpTo P i old new xs
UpTo P (suc i) old new xs = ⊥

-- one more
upto_more : {S : Type 0} (P : S → S → Sweep → Type 0) (i : ℕ) (old new : List S) (xs : List Sweep) (d y : S) (x : Sweep) → UpTo P i old new xs → i < length new → P (get_or new i d) y x
    → UpTo P (suc i) old (slice_set new i y) (xs ++ x ∷ [])
upto_more P zero old [] [] d y x u low p = absurd (omega (arith, low))
upto_more {S} P zero old (b ∷ new) [] d y x u low p = subst (λ (l : List S). UpTo P 1 l (y ∷ new) (x ∷ [])) u (p, refl)
upto_more P zero old new (z ∷ xs) d y x u low p = absurd u
upto_more P (suc i) [] new xs d y x u low p = absurd u
upto_more P (suc i) (a ∷ old) [] xs d y x u low p = absurd u
upto_more P (suc i) (a ∷ old) (b ∷ new) [] d y x u low p = absurd u
upto_more P (suc i) (a ∷ old) (b ∷ new) (z ∷ xs) d y x u low p = (u.0, upto_more P i old new xs d y x u.1 (omega (arith, low)) p)

pub upto_size : {S : Type 0} (P : S → S → Sweep → Type 0) (i : ℕ) (old new : List S) (xs : List Sweep) → UpTo P i old new xs → length new ≡ length old
upto_size {S} P zero old new [] u = ap (λ (l : List S). length l) u
upto_size P zero old new (x ∷ xs) u = absurd u
upto_size P (suc i) [] new xs u = absurd u
upto_size P (suc i) (a ∷ old) [] xs u = absurd u
upto_size P (suc i) (a ∷ old) (b ∷ new) [] u = absurd u
upto_size P (suc i) (a ∷ old) (b ∷ new) (x ∷ xs) u = ap suc (upto_size P i old new xs u.1)

links_more : (xs : List Sweep) (x : Sweep) → all_links (xs ++ x ∷ []) ≡ all_links xs ++ x.links
links_more [] x = append-nil x.links
links_more (y ∷ xs) x = ap (λ l. y.links ++ l) (links_more xs x) ∙ sym (append_assoc y.links (all_links xs) x.links)

count_more : (xs : List Sweep) (x : Sweep) → count_swept (xs ++ x ∷ []) ≡ count_swept xs + length x.swept
count_more [] x = omega arith
count_more (y ∷ xs) x = let more = count_more xs x in omega arith

-- ---- rounds

-- a round was made at the seat
pub record Ticked {S : Type 0} (now : Millis) (h : S → History) (f : S → JournalRoom) (a b : S) (x : Sweep) : Type 0 where
  pub does : Sweeps (Ticks now) (h a) (h b) x
  pub holds : HoldsOn (h a) (h b)
  pub journal : JournalStays care_marks (f a) (f b)

-- rounds were made at the first i of the seats
pub record TicksTo {S : Type 0} (now : Millis) (h : S → History) (f : S → JournalRoom) (i : ℕ) (old new : List S) (net net' : NetState) (count : ℕ) : Type 0 where
  pub sweeps : List Sweep
  pub upto : UpTo (Ticked now h f) i old new sweeps
  pub buries : BuriesAll (all_links sweeps) net net'
  pub counts : count ≡ count_swept sweeps
  pub few : count ≤ 1024 * i

pub ticks_none : {S : Type 0} (now : Millis) (h : S → History) (f : S → JournalRoom) (xs : List S) (net : NetState) → TicksTo now h f 0 xs xs net net 0
ticks_none now h f xs net = record { sweeps = []; upto = refl; buries = buries_none net; counts = refl; few = omega arith }

next_is : (i : ℕ) → suc i ≡ i + 1
next_is i = omega arith

pub ticks_on : {S : Type 0} (now : Millis) (h : S → History) (f : S → JournalRoom) (i : ℕ) (old new : List S) (net mid net' : NetState) (count more : ℕ) (d y : S)
    → TicksTo now h f i old new net mid count → i < length new
    → CaresFor (Sweeps (Ticks now)) (h (get_or new i d)) (h y) mid net' more → HoldsOn (h (get_or new i d)) (h y) → JournalStays care_marks (f (get_or new i d)) (f y)
    → TicksTo now h f (i + 1) old (slice_set new i y) net net' (count + more)
ticks_on {S} now h f i old new net mid net' count more d y t low c holds journal =
    let x : Sweep = c.sweep in
    let done : Ticked now h f (get_or new i d) y x = record { does = c.does; holds = holds; journal = journal } in
    let sum = count_more t.sweeps x in let was = t.counts in let now_is = c.counts in let few = t.few in let most = c.does.few in record {
      sweeps = t.sweeps ++ x ∷ [];
      upto = subst (λ k. UpTo (Ticked now h f) k old (slice_set new i y) (t.sweeps ++ x ∷ [])) (next_is i)
          (upto_more (Ticked now h f) i old new t.sweeps d y x t.upto low done);
      buries = subst (λ l. BuriesAll l net net') (sym (links_more t.sweeps x)) (buries_both (all_links t.sweeps) x.links net mid net' t.buries c.buries);
      counts = omega arith;
      few = omega arith;
    }

ticked_each : {S : Type 0} (now : Millis) (h : S → History) (f : S → JournalRoom) (n : ℕ) (old new : List S) (xs : List Sweep) → UpTo (Ticked now h f) (length old) old new xs
    → EachSweep (TicksAt now) n (map h old) (map h new) xs
ticked_each now h f n [] [] [] u = tt
ticked_each now h f n [] (b ∷ new) [] u = cc
ticked_each now h f n [] new (x ∷ xs) u = absurd u
ticked_each now h f n (a ∷ old) [] xs u = absurd u
ticked_each now h f n (a ∷ old) (b ∷ new) [] u = absurd u
ticked_each now h f n (a ∷ old) (b ∷ new) (x ∷ xs) u = (u.0.does, ticked_each now h f (n + 1) old new xs u.1)

ticked_holds : {S : Type 0} (now : Millis) (h : S → History) (f : S → JournalRoom) (old new : List S) (xs : List Sweep) → UpTo (Ticked now h f) (length old) old new xs → AllHoldOn (map h old) (map h new)
ticked_holds now h f [] [] [] u = tt
ticked_holds now h f [] (b ∷ new) [] u = cc
ticked_holds now h f [] new (x ∷ xs) u = absurd u
ticked_holds now h f (a ∷ old) [] xs u = absurd u
ticked_holds now h f (a ∷ old) (b ∷ new) [] u = absurd u
ticked_holds now h f (a ∷ old) (b ∷ new) (x ∷ xs) u = (u.0.holds, ticked_holds now h f old new xs u.1)

ticked_rooms : {S : Type 0} (now : Millis) (h : S → History) (f : S → JournalRoom) (old new : List S) (xs : List Sweep) → UpTo (Ticked now h f) (length old) old new xs → JournalsStay care_marks (map f old) (map f new)
ticked_rooms now h f [] [] [] u = tt
ticked_rooms now h f [] (b ∷ new) [] u = cc
ticked_rooms now h f [] new (x ∷ xs) u = absurd u
ticked_rooms now h f (a ∷ old) [] xs u = absurd u
ticked_rooms now h f (a ∷ old) (b ∷ new) [] u = absurd u
ticked_rooms now h f (a ∷ old) (b ∷ new) (x ∷ xs) u = (u.0.journal, ticked_rooms now h f old new xs u.1)

-- what rounds at all seats owe
pub record TicksAll {S : Type 0} (now : Millis) (h : S → History) (f : S → JournalRoom) (old new : List S) (net net' : NetState) (count : ℕ) : Type 0 where
  pub cares : CaresForAll (TicksAt now) (map h old) (map h new) net net' count
  pub holds : AllHoldOn (map h old) (map h new)
  pub journals : JournalsStay care_marks (map f old) (map f new)
  pub size : length new ≡ length old

pub ticks_all : {S : Type 0} (now : Millis) (h : S → History) (f : S → JournalRoom) (old new : List S) (net net' : NetState) (count : ℕ) → TicksTo now h f (length old) old new net net' count
    → TicksAll now h f old new net net' count
ticks_all now h f old new net net' count t = record {
  cares = record { sweeps = t.sweeps; each = ticked_each now h f 0 old new t.sweeps t.upto; buries = t.buries; counts = t.counts };
  holds = ticked_holds now h f old new t.sweeps t.upto;
  journals = ticked_rooms now h f old new t.sweeps t.upto;
  size = upto_size (Ticked now h f) (length old) old new t.sweeps t.upto;
}

-- ---- orders

-- nothing at each
abbrev all_still : List History → List Sweep
all_still [] = []
all_still (h ∷ old) = no_sweep ∷ all_still old

-- a sweep at one, and nothing at the others
abbrev swept_at : List History → ℕ → Sweep → List Sweep
swept_at [] j x = []
swept_at (h ∷ old) zero x = x ∷ all_still old
swept_at (h ∷ old) (suc j) x = no_sweep ∷ swept_at old j x

each_still : (P : ℕ → History → History → Sweep → Type 0) (i : ℕ) (old : List History) → ((n : ℕ) (g : History) → i ≤ n → P n g g no_sweep) → EachSweep P i old old (all_still old)
each_still P i [] others = tt
each_still P i (h ∷ old) others = (others i h (omega arith), each_still P (i + 1) old (λ n g le. others n g (omega (arith, le))))

at_next : (i j : ℕ) → i + suc j ≡ (i + 1) + j
at_next i j = omega arith

at_zero : (i : ℕ) → i + 0 ≡ i
at_zero i = omega arith

each_at : (P : ℕ → History → History → Sweep → Type 0) (i j : ℕ) (old : List History) (h k : History) (x : Sweep) → slice_get old j ≡ Some h → P (i + j) h k x
    → ((n : ℕ) (g : History) → n ≢ i + j → P n g g no_sweep) → EachSweep P i old (slice_set old j k) (swept_at old j x)
each_at P i j [] h k x e p others = cc
each_at P i zero (a ∷ old) h k x e p others =
    let is : a ≡ h = cc in
    (subst (λ (g : History). P i g k x) (sym is) (subst (λ n. P n h k x) (at_zero i) p), each_still P (i + 1) old (λ n g le. others n g (λ q. omega (arith, le, q))))
each_at P i (suc j) (a ∷ old) h k x e p others = (
  others i a (λ q. omega (arith, q)),
  each_at P (i + 1) j old h k x e (subst (λ n. P n h k x) (at_next i j) p) (λ n g ne. others n g (λ q. ne (q ∙ at_next i j))),
)

links_still : (old : List History) → all_links (all_still old) ≡ []
links_still [] = refl
links_still (h ∷ old) = links_still old

links_at : (old : List History) (j : ℕ) (h : History) (x : Sweep) → slice_get old j ≡ Some h → all_links (swept_at old j x) ≡ x.links
links_at [] j h x e = cc
links_at (a ∷ old) zero h x e = ap (λ l. x.links ++ l) (links_still old) ∙ append-nil x.links
links_at (a ∷ old) (suc j) h x e = links_at old j h x e

count_still : (old : List History) → count_swept (all_still old) ≡ 0
count_still [] = refl
count_still (h ∷ old) = let more = count_still old in omega arith

count_at : (old : List History) (j : ℕ) (h : History) (x : Sweep) → slice_get old j ≡ Some h → count_swept (swept_at old j x) ≡ length x.swept
count_at [] j h x e = cc
count_at (a ∷ old) zero h x e = let none = count_still old in omega arith
count_at (a ∷ old) (suc j) h x e = let more = count_at old j h x e in omega arith

holds_same : (h : History) → HoldsOn h h
holds_same h = record { about = refl; one = λ one. one; others = λ n ne. refl; lets_go = λ none. none }

all_hold : (old : List History) → AllHoldOn old old
all_hold [] = tt
all_hold (h ∷ old) = (holds_same h, all_hold old)

holds_at : (old : List History) (j : ℕ) (h k : History) → slice_get old j ≡ Some h → HoldsOn h k → AllHoldOn old (slice_set old j k)
holds_at [] j h k e s = tt
holds_at (a ∷ old) zero h k e s = let is : a ≡ h = cc in (subst (λ (g : History). HoldsOn g k) (sym is) s, all_hold old)
holds_at (a ∷ old) (suc j) h k e s = (holds_same a, holds_at old j h k e s)

rooms_still : (m : ℕ) (old : List JournalRoom) → JournalsStay m old old
rooms_still m [] = tt
rooms_still m (r ∷ old) = (room_same m r, rooms_still m old)

pub rooms_at : (m : ℕ) (old : List JournalRoom) (j : ℕ) (r s : JournalRoom) → slice_get old j ≡ Some r → JournalStays m r s → JournalsStay m old (slice_set old j s)
rooms_at m [] j r s e stays = tt
rooms_at m (a ∷ old) zero r s e stays = let is : a ≡ r = cc in (subst (λ (q : JournalRoom). JournalStays m q s) (sym is) stays, rooms_still m old)
rooms_at m (a ∷ old) (suc j) r s e stays = (room_same m a, rooms_at m old j r s e stays)

zero_plus : (n : ℕ) → 0 + n ≡ n
zero_plus n = omega arith

-- an order at one of the seats
pub orders_at : (what : Order) (old : List History) (j : ℕ) (h k : History) (net net' : NetState) (count : ℕ) → j ≡ (ordered_server what).0 → slice_get old j ≡ Some h
    → CaresFor (Sweeps (Obeys what)) h k net net' count → HoldsOn h k → CaresForAll (OrdersAt what) old (slice_set old j k) net net' count × AllHoldOn old (slice_set old j k)
orders_at what old j h k net net' count is there c holds = (
  record {
    sweeps = swept_at old j c.sweep;
    each = each_at (OrdersAt what) 0 j old h k c.sweep there (inl (zero_plus j ∙ is, c.does)) (λ n g ne. inr ((λ e. ne (e ∙ (sym is ∙ sym (zero_plus j)))), refl, refl));
    buries = subst (λ l. BuriesAll l net net') (sym (links_at old j h c.sweep there)) c.buries;
    counts = c.counts ∙ sym (count_at old j h c.sweep there);
  },
  holds_at old j h k there holds,
)
