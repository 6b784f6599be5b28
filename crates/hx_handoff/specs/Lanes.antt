-- What contracts see of the ends of a lane.
use Rattle.std.specs.Prelude.{◌≡◌, ℕ, ◌<◌, ◌==◌, cond, List, [], ◌∷◌, ◌++◌, length, Option, Some, None, All}
use Rattle.std.specs.List.{filter_map}
use Rattle.atomic_table.specs.Seated.{TableId}
use Rattle.hx_handoff.specs.declared.rule.Handed.{Handed}
use Rattle.hx_handoff.specs.declared.rule.Settled.{Settled}

-- an end that hands in
pub record GiverNow (T : Type 0) : Type 0 where
  -- which lane it is, and how many items it holds at most
  pub lane : TableId
  pub capacity : ℕ
  -- which of the two givers it is
  pub number : ℕ
  -- all that it handed in, in its order
  pub handed : List T

-- the end that collects
pub record TakerNow (T : Type 0) : Type 0 where
  pub lane : TableId
  -- all that it collected, in order, each with its giver's number
  pub collected : List (Handed T)
  -- the givers that have ended, each with all that it handed in
  pub settled : List (Settled T)

-- the number is that of one of the two givers
abbrev pub IsGiver : ℕ → Type 0
IsGiver number = number < 2

module _ {T : Type 0} where
  -- a giver that handed nothing in
  abbrev pub new_giver : TableId → ℕ → ℕ → GiverNow T
  new_giver lane capacity number = record { lane = lane; capacity = capacity; number = number; handed = [] }

  -- a taker that collected nothing
  abbrev pub new_taker : TableId → TakerNow T
  new_taker lane = record { lane = lane; collected = []; settled = [] }

  -- the giver after it handed this item in
  abbrev pub with_item : GiverNow T → T → GiverNow T
  with_item g x = record g { handed = g.handed ++ x ∷ [] }

  -- an item of the giver of this number
  abbrev pub by_giver : ℕ → T → Handed T
  by_giver giver x = record { giver = giver; item = x }

  -- the taker after it collected this item of the giver of this number
  abbrev pub with_one : TakerNow T → ℕ → T → TakerNow T
  with_one t giver x = record t { collected = t.collected ++ by_giver giver x ∷ [] }

  -- a giver that has ended
  abbrev pub ended : ℕ → List T → Settled T
  ended giver handed = record { giver = giver; handed = handed }

  -- the taker after this giver ended
  abbrev pub with_ended : TakerNow T → GiverNow T → TakerNow T
  with_ended t g = record t { settled = t.settled ++ ended g.number g.handed ∷ [] }

  -- the item, where this giver handed it in
  abbrev pub item_of : ℕ → Handed T → Option T
  item_of giver h = cond (h.giver == giver) (Some h.item) None

  -- the items that this giver handed in, in order
  abbrev pub items_of : ℕ → List (Handed T) → List T
  items_of giver hs = filter_map (item_of giver) hs

  -- a list begins with another
  abbrev pub Begins : List T → List T → Type 0
  Begins whole first = (rest : List T) × (first ++ rest ≡ whole)

  -- of each giver that has ended a beginning of what it handed in was collected: in its order, each item once
  abbrev pub IsInOrder : List (Handed T) → List (Settled T) → Type 0
  IsInOrder collected settled = All (λ s. Begins s.handed (items_of s.giver collected)) settled

  -- of each giver that has ended all that it handed in was collected
  abbrev pub IsAllOf : List (Handed T) → List (Settled T) → Type 0
  IsAllOf collected settled = All (λ s. items_of s.giver collected ≡ s.handed) settled

  -- of this giver the lane holds the last items that it handed in
  abbrev pub HoldsLast : ℕ → List T → List (Handed T) → Type 0
  HoldsLast giver handed held = (before : List T) × (before ++ items_of giver held ≡ handed)

  -- at a moment the lane held as many items as it can
  abbrev pub WasFull : GiverNow T → Type 0
  WasFull g = (held : List (Handed T)) × (length held ≡ g.capacity) × HoldsLast g.number g.handed held
