-- Private: the values that rest in one thread's row, and what the looks through it show.
use Rattle.std.specs.Prelude.{◌≤◌, Option, Some, IfSome, true, false, not, ◌⊎◌, zero, suc, ◌≡◌, ◌≢◌, ℕ, ◌+◌, ◌<◌, ◌==◌, Bool, cond, List, [], ◌∷◌, ◌++◌, map, length}
use Rattle.hx_base.specs.declared.numbers.ThreadNo.{ThreadNo}
use Rattle.hx_base.specs.declared.numbers.SessionNo.{SessionNo}
use Rattle.hx_base.specs.declared.rules.Mode.{Mode}
use Rattle.hx_base.specs.Shown.{Shown}
use Rattle.hx_pool.specs.declared.entries.Note.{Note}
use Rattle.hx_pool.specs.declared.entries.Entry.TheVariants.{Look, Gate, Up, Down}
use Rattle.hx_pool.specs.declared.refusals.NoPark.{NoPark}
use Rattle.hx_pool.specs.declared.refusals.NoPark.TheVariants.{RowFull, Draining, PoolFull}
use Rattle.hx_pool.specs.Table.{Spot, Vacant, Holds, found_of}
use Rattle.hx_pool.specs.History.{plain}
use Rattle.hx_pool.specs.Causes.{place_of, caretaker}
use Rattle.hx_pool.specs.Taking.{taking}
use Rattle.hx_pool.specs.Parking.{gated}
use Rattle.hx_resting.specs.Row.{fits}
use Rattle.hx_plain.specs.declared.rest.Rest.{Rest}
use Rattle.hx_plain.specs.Book.{Book, add_notes}

-- a place of the row, and what rests there
pub record Rested : Type 0 where
  pub place : ℕ
  pub shown : Shown

-- what the values show
abbrev pub rests_of : {V : Type 0} → (V → Shown) → List (Rest V) → List Rested
rests_of shows xs = map (λ x. record { place = x.place; shown = shows x.v }) xs

-- what stands at a place of the row
abbrev pub spot_in : List Rested → ℕ → Spot
spot_in [] p = Vacant
spot_in (x ∷ xs) p = cond (p == x.place) (Holds x.shown.face) (spot_in xs p)

-- a thread's look at a place of its row
abbrev pub look_at : ThreadNo → List Rested → ℕ → Note
look_at t rests p = plain (Look t (place_of t.0 p) (found_of (spot_in rests p)))

-- the looks at c places, from one on
unfoldable pub looks_run : ThreadNo → List Rested → ℕ → ℕ → List Note
looks_run t rests from zero = []
looks_run t rests from (suc c) = looks_run t rests from c ++ look_at t rests (from + c) ∷ []

-- looks from place 0 on, and the places below j are taken
pub record Scanned (old new : Book) (t : ThreadNo) (rests : List Rested) (k j : ℕ) : Type 0 where
  pub book : new ≡ add_notes old (looks_run t rests 0 k)
  pub taken : (q : ℕ) → q < j → spot_in rests q ≢ Vacant

-- looks at c vacant places, from one on
pub record Ran (old new : Book) (t : ThreadNo) (rests : List Rested) (from c : ℕ) : Type 0 where
  pub book : new ≡ add_notes old (looks_run t rests from c)
  pub vacant : (q : ℕ) → q < c → spot_in rests (from + q) ≡ Vacant

-- the value at index i stands at the place
pub record CutAt (rests : List Rested) (i place : ℕ) : Type 0 where
  pub before : List Rested
  pub chosen : Rested
  pub behind : List Rested
  pub parts : rests ≡ before ++ chosen ∷ behind
  pub index : length before ≡ i
  pub at : chosen.place ≡ place

-- the request may take none of them of this list
abbrev pub NoneFits : Mode → Bool → Bool → List Rested → Type 0
NoneFits mode first safe [] = Unit {0}
NoneFits mode first safe (x ∷ xs) = (fits mode first safe x.shown.face.uses ≡ false) × NoneFits mode first safe xs

-- the value at index i is the last one that fits
pub record LastFits (mode : Mode) (first safe : Bool) (rests : List Rested) (i : ℕ) : Type 0 where
  pub before : List Rested
  pub chosen : Rested
  pub behind : List Rested
  pub parts : rests ≡ before ++ chosen ∷ behind
  pub index : length before ≡ i
  pub good : fits mode first safe chosen.shown.face.uses ≡ true
  pub none : NoneFits mode first safe behind

-- the best value: the last one of the list that the request likes, or, where that has none, of the other
pub record BestFits (mode : Mode) (first : Bool) (rests : List Rested) (i : ℕ) : Type 0 where
  pub safe : Bool
  pub last : LastFits mode first safe rests i
  pub liked : (safe ≡ first) ⊎ ((safe ≡ not first) × NoneFits mode first first rests)

-- the best value was taken out, and its steps were noted
pub record TookBest (old new : Book) (rests left : List Rested) (t : ThreadNo) (n : SessionNo) (first : Bool) (mode : Mode) (place : ℕ) (v : Shown) : Type 0 where
  pub index : ℕ
  pub best : BestFits mode first rests index
  pub chosen : best.last.chosen ≡ record { place = place; shown = v }
  pub left_is : left ≡ best.last.before ++ best.last.behind
  pub book : new ≡ add_notes old (taking t n first (place_of t.0 place) v.face (length rests))

-- c vacant places were passed, and the value at the next one was taken out
pub record Swept (old new : Book) (rests left : List Rested) (t : ThreadNo) (from c : ℕ) (v : Shown) : Type 0 where
  pub before : List Rested
  pub behind : List Rested
  pub parts : rests ≡ before ++ record { place = from + c; shown = v } ∷ behind
  pub left_is : left ≡ before ++ behind
  pub vacant : (q : ℕ) → q < c → spot_in rests (from + q) ≡ Vacant
  pub inside : from + c < 64
  pub book : new ≡ add_notes old (looks_run t rests from c ++ taking t caretaker false (place_of t.0 (from + c)) v.face (length rests))

-- the first vacant place of the row
pub record IsFirstVacant (rests : List Rested) (p : ℕ) : Type 0 where
  pub inside : p < 64
  pub vacant : spot_in rests p ≡ Vacant
  pub below : (q : ℕ) → q < p → spot_in rests q ≢ Vacant

-- a value may be put at the place, and the count went up
pub record Admits (old new : Book) (t : ThreadNo) (rests : List Rested) (draining : Bool) (max : Option ℕ) (p : ℕ) : Type 0 where
  pub first : IsFirstVacant rests p
  pub ready : draining ≡ false
  pub limit : IfSome max (λ m. length rests < m)
  pub book : new ≡ add_notes old (gated t (looks_run t rests 0 (p + 1)) (plain (Up t (length rests)) ∷ []))

-- the entries of a park that a draining gate refused
pub record IsShut (old new : Book) (t : ThreadNo) (rests : List Rested) : Type 0 where
  pub p : ℕ
  pub first : IsFirstVacant rests p
  pub book : new ≡ add_notes old (looks_run t rests 0 (p + 1) ++ plain (Gate t true) ∷ [])

-- the entries of a park that the count refused
pub record IsOverMax (old new : Book) (t : ThreadNo) (rests : List Rested) (max : Option ℕ) (c : ℕ) : Type 0 where
  pub p : ℕ
  pub first : IsFirstVacant rests p
  pub count : c ≡ length rests
  pub limit : (m : ℕ) × (max ≡ Some m) × (m ≤ length rests)
  pub book : new ≡ add_notes old (gated t (looks_run t rests 0 (p + 1)) (plain (Up t (length rests)) ∷ plain (Down t (length rests + 1)) ∷ []))

-- no value may be put into the row, and why
abbrev pub Refuses : Book → Book → ThreadNo → List Rested → Bool → Option ℕ → NoPark → Type 0
Refuses old new t rests draining max RowFull = Scanned old new t rests 64 64
Refuses old new t rests draining max Draining = (draining ≡ true) × IsShut old new t rests
Refuses old new t rests draining max (PoolFull c) = (draining ≡ false) × IsOverMax old new t rests max c
Refuses old new t rests draining max _ = ⊥
