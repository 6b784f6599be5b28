-- Whether a server is drained, tried on histories of one thread that looks at all places of its row.
use Rattle.std.proofs.Common.{◌≡◌, ◌≢◌, ℕ, zero, suc, ◌<◌, true, List, [], ◌∷◌, ◌++◌, refl, sym, ap, ◌∙◌, subst, arith, lit<, inl, inr, ⊎_elim}
use mathlib.Core.Logic.{dite}
use native.Mathlib.Decide.{ℕ_discrete}
use Rattle.hx_base.specs.declared.numbers.ThreadNo.{ThreadNo}
use Rattle.hx_base.specs.declared.numbers.SessionNo.{SessionNo}
use Rattle.hx_base.specs.declared.numbers.ConnId.{ConnId}
use Rattle.hx_base.specs.declared.numbers.PlaceNo.{PlaceNo}
use Rattle.hx_base.specs.declared.numbers.Face.{Face}
use Rattle.hx_pool.specs.declared.entries.Found.TheVariants.{Empty}
use Rattle.hx_pool.specs.declared.entries.Entry.{Entry}
use Rattle.hx_pool.specs.declared.entries.Entry.TheVariants.{Open, Park, Look, Up, Gate, SetGate}
use Rattle.hx_pool.specs.declared.entries.Note.{Note}
use Rattle.hx_pool.specs.Table.{Vacant, Holds, face_of, spot_no, spot_at, with_spot}
use Rattle.hx_pool.specs.History.{plain, own_of, table_after, thread_of}
use Rattle.hx_pool.specs.SeatView.{AllBelow}
use Rattle.hx_pool.specs.Causes.{Among, IsCovered, place_of}
use Rattle.hx_pool.specs.Drain.{NoSetGate, IsPending, IsDrained}
use Rattle.hx_pool.proofs.Caretaking.{no_gate_both}
use Rattle.hx_pool.proofs.Counting.{all_own, below-second}
use Rattle.hx_pool.proofs.Purges.{among_left}
use Rattle.hx_pool.proofs.Tables.{spot_cases}

abbrev by : ThreadNo
by = record { 0 = 0 }

abbrev session : SessionNo
session = record { 0 = 1 }

abbrev id : ℕ → ConnId
id i = record { 0 = i }

abbrev opens : ℕ → Note
opens i = plain (Open by session (id i))

abbrev parks : Note
parks = plain (Park by session (id 1) (place_of 0 0) 1)

-- each of the row's first places is looked at, and is empty
looked : ℕ → List Note
looked zero = []
looked (suc k) = plain (Look by (place_of 0 k) Empty) ∷ looked k

-- a connection is with a session while the server is set draining and all places are looked at
abbrev begun : List Note
begun = opens 1 ∷ plain (SetGate by true) ∷ []

abbrev drained : List Note
drained = begun ++ looked 64

-- then it is parked, and nothing came after that
abbrev late : List Note
late = looked 64 ++ plain (Up by 0) ∷ parks ∷ []

abbrev pending : List Note
pending = begun ++ late

-- the thread went on, and did not take it back
abbrev left : List Note
left = late ++ opens 2 ∷ []

abbrev rests_on : List Note
rests_on = begun ++ left

look_at : (k p : ℕ) → p < k → Among (λ e. e ≡ Look by (place_of 0 p) Empty) (looked k)
unfolding looked
look_at zero p low = absurd (omega (arith, low))
look_at (suc k) p low = dite (ℕ_discrete p k)
    (λ e. inl (ap (λ j. Look by (place_of 0 j) Empty) (sym e)))
    (λ ne. inr (look_at k p (omega (arith, ne))))

-- so every place is covered
all_looked : (tail : List Note) (row p : ℕ) → row < 1 → p < 64 → IsCovered by (looked 64 ++ tail) (place_of row p)
all_looked tail row p first low =
    let zero_is : row ≡ 0 = omega arith in
    subst (λ (r : ℕ). IsCovered by (looked 64 ++ tail) (place_of r p)) (sym zero_is)
    (inr (inl (Empty, (λ f may e. cc), among_left (λ e. e ≡ Look by (place_of 0 p) Empty) (looked 64) tail (look_at 64 p low))))

nothing_rests : IsDrained 1 drained by
unfolding looked
nothing_rests = λ before later e quiet covered place f inside rests. let none : Vacant ≡ Holds f = rests in absurd (cc)

rests_pending : IsDrained 1 pending by
unfolding looked
rests_pending = λ before later e quiet covered place f inside rests.
    let T = table_after (begun ++ looked 64 ++ plain (Up by 0) ∷ []) in
    let s = Holds (face_of (id 1) 1) in
    let here : with_spot T (place_of 0 0) s (spot_no place) ≡ Holds f = rests in
    ⊎_elim
    (λ (c : (place ≡ place_of 0 0) × (with_spot T (place_of 0 0) s (spot_no place) ≡ s)).
    let is : s ≡ Holds f = sym c.1 ∙ here in
    let face : face_of (id 1) 1 ≡ f = cc in
    record {
      before = begun ++ looked 64 ++ plain (Up by 0) ∷ [];
      park = parks;
      later = [];
      parts = refl;
      t = by;
      n = session;
      is_park = ap (λ (p : PlaceNo). Park by session (id 1) p 1) (sym c.0) ∙ ap (λ (g : Face). Park by session g.id place g.uses) face;
      due = inl refl;
    })
    (λ (c : (place ≢ place_of 0 0) × (with_spot T (place_of 0 0) s (spot_no place) ≡ spot_at T place)).
    let none : Vacant ≡ Holds f = sym c.1 ∙ here in absurd (cc))
    (spot_cases T (place_of 0 0) s place (lit< tt) inside)

no_gates : (k : ℕ) → NoSetGate (looked k)
unfolding looked
no_gates zero = tt
no_gates (suc k) = (tt, no_gates k)

below_both : (k : ℕ) (xs ys : List Note) → AllBelow k xs → AllBelow k ys → AllBelow k (xs ++ ys)
below_both k [] ys a b = b
below_both k (x ∷ xs) ys a b = (a.0, below_both k xs ys a.1 b)

all_below : (k : ℕ) → AllBelow 1 (looked k)
unfolding looked
all_below zero = tt
all_below (suc k) = (lit< tt, all_below k)

-- the last entry
last_in : Note → List Note → Note
last_in x [] = x
last_in x (y ∷ ys) = last_in y ys

last_behind : (d : Note) (before later : List Note) (x : Note) → last_in d (before ++ x ∷ later) ≡ last_in x later
unfolding last_in
last_behind d [] later x = refl
last_behind d (y ∷ before) later x = last_behind y before later x

is_opens : (d : Note) → last_in d rests_on ≡ opens 2
unfolding last_in looked
is_opens d = refl

not_drained : ¬ IsDrained 1 rests_on by
unfolding looked last_in
not_drained d =
    let quiet : NoSetGate left = no_gate_both late (opens 2 ∷ []) (no_gate_both (looked 64) (plain (Up by 0) ∷ parks ∷ []) (no_gates 64) (tt, (tt, tt))) (tt, tt) in
    let p : IsPending rests_on (place_of 0 0) (face_of (id 1) 1) = d (opens 1 ∷ []) left refl quiet (all_looked (plain (Up by 0) ∷ parks ∷ opens 2 ∷ [])) (place_of 0 0) (face_of (id 1) 1) (lit< tt) refl in
    let low : AllBelow 1 rests_on = (lit< tt, (lit< tt, below_both 1 late (opens 2 ∷ []) (below_both 1 (looked 64) (plain (Up by 0) ∷ parks ∷ []) (all_below 64) (lit< tt, (lit< tt, tt))) (lit< tt, tt))) in
    let rest : AllBelow 1 (p.park ∷ p.later) = below-second 1 p.before (p.park ∷ p.later) (subst (AllBelow 1) p.parts low) in
    let first : p.t.0 < 1 = subst (λ (e : Entry). (thread_of e).0 < 1) p.is_park rest.0 in
    let own = all_own p.t p.later first rest.1 in
    let end : last_in p.park p.later ≡ opens 2 = sym (last_behind (opens 1) p.before p.later p.park) ∙ (ap (last_in (opens 1)) (sym p.parts) ∙ is_opens (opens 1)) in
    let entry : (last_in p.park p.later).entry ≡ Open by session (id 2) = ap (λ (x : Note). x.entry) end in
    ⊎_elim
    (λ (none : own_of p.t p.later ≡ []).
    let is : p.park.entry ≡ Open by session (id 2) = ap (λ (l : List Note). (last_in p.park l).entry) (sym none ∙ own) ∙ entry in
    let both = sym p.is_park ∙ is in cc)
    (λ (one : own_of p.t p.later ≡ plain (Gate p.t true) ∷ []).
    let is : Gate p.t true ≡ Open by session (id 2) = ap (λ (l : List Note). (last_in p.park l).entry) (sym one ∙ own) ∙ entry in cc)
    p.due
