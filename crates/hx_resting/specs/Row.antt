-- Private: what the looks through the rows show.
use Rattle.std.specs.Prelude.{◌≤◌, Option, Some, IfSome, true, false, not, ◌&&◌, ◌||◌, ◌⊎◌, zero, suc, ◌≡◌, ◌≢◌, ℕ, ◌+◌, ◌<◌, ◌==◌, Bool, cond, List, [], ◌∷◌, ◌++◌, length}
use Rattle.hx_base.specs.declared.numbers.ThreadNo.{ThreadNo}
use Rattle.hx_base.specs.declared.numbers.SessionNo.{SessionNo}
use Rattle.hx_base.specs.declared.numbers.Face.{Face}
use Rattle.hx_base.specs.declared.rules.Mode.{Mode}
use Rattle.hx_base.specs.declared.rules.Mode.TheVariants as mode
use Rattle.hx_base.specs.declared.rules.PoolRules.{PoolRules}
use Rattle.hx_pool.specs.declared.entries.Note.{Note}
use Rattle.hx_pool.specs.declared.entries.Entry.TheVariants.{Look, Gate, Up, Down}
use Rattle.hx_pool.specs.declared.refusals.NoPark.{NoPark}
use Rattle.hx_pool.specs.declared.refusals.NoPark.TheVariants.{Never, NoneKept, RowFull, Draining, PoolFull}
use Rattle.hx_pool.specs.Table.{Spot, Vacant, Holds, found_of, spot_no}
use Rattle.hx_pool.specs.History.{plain}
use Rattle.hx_pool.specs.Rules.{allows}
use Rattle.hx_pool.specs.Causes.{nth_place}
use Rattle.hx_pool.specs.Taking.{is_safe, taking}
use Rattle.hx_pool.specs.Parking.{gated}
use Rattle.hx_resting.specs.declared.row.Wanted.{Wanted}
use Rattle.hx_resting.specs.Rows.{Rested, spot_in}
use Rattle.hx_resting.specs.Desks.{DeskView, adds_notes}

-- a place in the order of a thread, counted over all rows
abbrev pub nth_no : ThreadNo → ℕ → ℕ → ℕ
nth_no t threads q = spot_no (nth_place t threads q)

-- a thread's look at a place of its order
abbrev pub look_at : ThreadNo → ℕ → List Rested → ℕ → Note
look_at t threads rests q = plain (Look t (nth_place t threads q) (found_of (spot_in rests (nth_no t threads q))))

-- the looks at c places, from one on
unfoldable pub looks_run : ThreadNo → ℕ → List Rested → ℕ → ℕ → List Note
looks_run t threads rests from zero = []
looks_run t threads rests from (suc c) = looks_run t threads rests from c ++ look_at t threads rests (from + c) ∷ []

-- looks from place 0 on, and the places below j are taken
pub record Scanned (old new : DeskView) (t : ThreadNo) (threads : ℕ) (rests : List Rested) (k j : ℕ) : Type 0 where
  pub desk : new ≡ adds_notes old (looks_run t threads rests 0 k)
  pub taken : (q : ℕ) → q < j → spot_in rests (nth_no t threads q) ≢ Vacant

-- the caretaker takes each connection, a session what the mode allows
abbrev pub is_wanted : Wanted → ℕ → Bool
is_wanted w uses = w.all || allows w.mode w.first uses

-- nothing rests at a place, or what may not be taken
abbrev pub IsUnfit : (ℕ → Bool) → Spot → Type 0
IsUnfit may s = (f : Face) → s ≡ Holds f → may f.uses ≡ false

-- looks at c places with nothing to take, from one on
pub record Ran (old new : DeskView) (t : ThreadNo) (threads : ℕ) (may : ℕ → Bool) (rests : List Rested) (from c : ℕ) : Type 0 where
  pub desk : new ≡ adds_notes old (looks_run t threads rests from c)
  pub none : (q : ℕ) → q < c → IsUnfit may (spot_in rests (nth_no t threads (from + q)))

-- the value at index i stands at the place
pub record CutAt (rests : List Rested) (i place : ℕ) : Type 0 where
  pub before : List Rested
  pub chosen : Rested
  pub behind : List Rested
  pub parts : rests ≡ before ++ chosen ∷ behind
  pub index : length before ≡ i
  pub at : spot_no chosen.place ≡ place
  pub stands : spot_in rests place ≡ Holds chosen.shown.face

-- the same, and a value of its use count is wanted
pub record GoodAt (may : ℕ → Bool) (rests : List Rested) (i place : ℕ) : Type 0 where
  pub cut : CutAt rests i place
  pub good : may cut.chosen.shown.face.uses ≡ true

-- the request may take it, and it is in the list that is meant
abbrev pub fits : Mode → Bool → Bool → ℕ → Bool
fits mode first safe uses = allows mode first uses && cond safe (is_safe uses) (not (is_safe uses))

-- the same, and the value is in the row
abbrev pub fits_in : Mode → Bool → Bool → ℕ → Rested → Bool
fits_in mode first safe row x = (x.place.row == row) && fits mode first safe x.shown.face.uses

-- no value of the row fits
abbrev pub NoneFits : Mode → Bool → Bool → ℕ → List Rested → Type 0
NoneFits mode first safe row [] = Unit {0}
NoneFits mode first safe row (x ∷ xs) = (fits_in mode first safe row x ≡ false) × NoneFits mode first safe row xs

-- the value at index i is the last one that fits
pub record LastFits (mode : Mode) (first safe : Bool) (row : ℕ) (rests : List Rested) (i : ℕ) : Type 0 where
  pub before : List Rested
  pub chosen : Rested
  pub behind : List Rested
  pub parts : rests ≡ before ++ chosen ∷ behind
  pub index : length before ≡ i
  pub good : fits_in mode first safe row chosen ≡ true
  pub none : NoneFits mode first safe row behind

-- the best value: the last one of the list that the request likes, or, where that has none, of the other
pub record BestFits (mode : Mode) (first : Bool) (row : ℕ) (rests : List Rested) (i : ℕ) : Type 0 where
  pub safe : Bool
  pub last : LastFits mode first safe row rests i
  pub liked : (safe ≡ first) ⊎ ((safe ≡ not first) × NoneFits mode first first row rests)

-- the value at index i was taken out, and its steps were noted
pub record TookAt (old new : DeskView) (rests left : List Rested) (t : ThreadNo) (n : SessionNo) (first : Bool) (i : ℕ) (x : Rested) : Type 0 where
  pub before : List Rested
  pub behind : List Rested
  pub parts : rests ≡ before ++ x ∷ behind
  pub index : length before ≡ i
  pub left_is : left ≡ before ++ behind
  pub desk : new ≡ adds_notes old (taking t n first x.place x.shown.face (length rests))

-- c places with nothing to take were passed, and the value at the next one was taken out
pub record Swept (old new : DeskView) (rests left : List Rested) (t : ThreadNo) (threads : ℕ) (n : SessionNo) (first : Bool) (may : ℕ → Bool) (from c : ℕ) (x : Rested) : Type 0 where
  pub before : List Rested
  pub behind : List Rested
  pub parts : rests ≡ before ++ x ∷ behind
  pub left_is : left ≡ before ++ behind
  pub at : spot_no x.place ≡ nth_no t threads (from + c)
  pub good : may x.shown.face.uses ≡ true
  pub none : (q : ℕ) → q < c → IsUnfit may (spot_in rests (nth_no t threads (from + q)))
  pub desk : new ≡ adds_notes old (looks_run t threads rests from c ++ taking t n first x.place x.shown.face (length rests))

-- the best value was taken out, and its steps were noted
pub record TookBest (old new : DeskView) (rests left : List Rested) (t : ThreadNo) (n : SessionNo) (first : Bool) (mode : Mode) (x : Rested) : Type 0 where
  pub index : ℕ
  pub best : BestFits mode first t.0 rests index
  pub chosen : best.last.chosen ≡ x
  pub left_is : left ≡ best.last.before ++ best.last.behind
  pub desk : new ≡ adds_notes old (taking t n first x.place x.shown.face (length rests))

-- the first vacant place of the row
pub record IsFirstVacant (t : ThreadNo) (threads : ℕ) (rests : List Rested) (p : ℕ) : Type 0 where
  pub inside : p < 64
  pub vacant : spot_in rests (nth_no t threads p) ≡ Vacant
  pub below : (q : ℕ) → q < p → spot_in rests (nth_no t threads q) ≢ Vacant

-- the rules keep no connection
abbrev pub RefusedByRules : PoolRules → NoPark → Type 0
RefusedByRules rules Never = rules.mode ≡ mode.Never
RefusedByRules rules NoneKept = (rules.mode ≢ mode.Never) × ((rules.max ≡ Some 0) ⊎ (rules.delay.0 ≡ 0))
RefusedByRules rules _ = ⊥

-- a value may be put at the place, and the count went up
pub record Admits (old new : DeskView) (t : ThreadNo) (threads : ℕ) (rests : List Rested) (draining : Bool) (max : Option ℕ) (p : ℕ) : Type 0 where
  pub first : IsFirstVacant t threads rests p
  pub ready : draining ≡ false
  pub limit : IfSome max (λ m. length rests < m)
  pub desk : new ≡ adds_notes old (gated t (looks_run t threads rests 0 (p + 1)) (plain (Up t (length rests)) ∷ []))

-- a place is vacant, and the server is draining
pub record IsShut (old new : DeskView) (t : ThreadNo) (threads : ℕ) (rests : List Rested) : Type 0 where
  pub p : ℕ
  pub first : IsFirstVacant t threads rests p
  pub desk : new ≡ adds_notes old (looks_run t threads rests 0 (p + 1) ++ plain (Gate t true) ∷ [])

-- a place is vacant, and as many rest as may, so that the count went up and down again
pub record IsOverMax (old new : DeskView) (t : ThreadNo) (threads : ℕ) (rests : List Rested) (max : Option ℕ) (c : ℕ) : Type 0 where
  pub p : ℕ
  pub first : IsFirstVacant t threads rests p
  pub count : c ≡ length rests
  pub limit : (m : ℕ) × (max ≡ Some m) × (m ≤ length rests)
  pub desk : new ≡ adds_notes old (gated t (looks_run t threads rests 0 (p + 1)) (plain (Up t (length rests)) ∷ plain (Down t (length rests + 1)) ∷ []))

-- no value may be put into the row, and why
abbrev pub Refuses : DeskView → DeskView → ThreadNo → ℕ → List Rested → Bool → Option ℕ → NoPark → Type 0
Refuses old new t threads rests draining max RowFull = Scanned old new t threads rests 64 64
Refuses old new t threads rests draining max Draining = (draining ≡ true) × IsShut old new t threads rests
Refuses old new t threads rests draining max (PoolFull c) = (draining ≡ false) × IsOverMax old new t threads rests max c
Refuses old new t threads rests draining max _ = ⊥
