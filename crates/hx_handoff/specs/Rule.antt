-- Private: the rule of a lane, over what it holds, oldest first, and over what each of its passes knows.
use Rattle.std.specs.Prelude.{◌≡◌, ℕ, ◌+◌, ◌≤◌, List, [], ◌∷◌, ◌++◌, Option, Some, None, All}
use mathlib.Core.Option.{some}
use lib.ListN.{get_elem?}
use Rattle.hx_handoff.specs.declared.rule.Handed.{Handed}
use Rattle.hx_handoff.specs.declared.rule.Settled.{Settled}
use Rattle.hx_handoff.specs.declared.rule.View.{View}
use Rattle.hx_handoff.specs.declared.rule.Role.{Role}
use Rattle.hx_handoff.specs.declared.rule.Role.TheVariants.{Taking, Giving, Spent}
use Rattle.hx_handoff.specs.Lanes.{items_of, ended}

module _ {T : Type 0} where
  -- a pass of which nothing is known
  abbrev pub spent_view : View T
  spent_view = record { role = Spent; number = 0; handed = []; collected = []; settled = [] }

  -- the pass that a lane is made with
  abbrev pub first_view : View T
  first_view = record { role = Taking; number = 0; handed = []; collected = []; settled = [] }

  -- a new giver's pass
  abbrev pub giver_view : ℕ → View T
  giver_view number = record { role = Giving; number = number; handed = []; collected = []; settled = [] }

  -- the taker's pass after it cut off one giver more
  abbrev pub after_cut : View T → View T
  after_cut v = record v { number = v.number + 1 }

  -- a giver's pass after it handed this in
  abbrev pub with_handed : View T → T → View T
  with_handed v x = record v { handed = v.handed ++ x ∷ [] }

  -- the taker's pass after it collected this
  abbrev pub with_collected : View T → Handed T → View T
  with_collected v x = record v { collected = v.collected ++ x ∷ [] }

  -- the taker's pass after this giver ended
  abbrev pub with_settled : View T → ℕ → List T → View T
  with_settled v giver handed = record v { settled = v.settled ++ ended giver handed ∷ [] }

-- what came to pass: which pass each giver has, until it ends, and what it handed in; what was collected, in order;
-- and the taker's pass
pub record Past (T : Type 0) : Type 0 where
  pub seat : ℕ → Option ℕ
  pub sent : ℕ → List T
  pub got : List (Handed T)
  pub taker : ℕ

module _ {T : Type 0} where
  -- a giver that has ended has no pass, and handed in what is known of it
  pub record IsEnded (past : Past T) (s : Settled T) : Type 0 where
    pub none : past.seat s.giver ≡ None
    pub all : s.handed ≡ past.sent s.giver

  -- the one taker knows what was collected, that later givers handed nothing in, and which givers have ended
  pub record KnowsTaker (past : Past T) (pass : ℕ) (v : View T) : Type 0 where
    pub one : pass ≡ past.taker
    pub collected : v.collected ≡ past.got
    pub later : (giver : ℕ) → v.number ≤ giver → (past.seat giver ≡ None) × (past.sent giver ≡ [])
    pub settled : All (IsEnded past) v.settled

  -- each giver has one pass, which knows what it handed in
  pub record KnowsGiver (past : Past T) (pass : ℕ) (v : View T) : Type 0 where
    pub one : past.seat v.number ≡ Some pass
    pub handed : v.handed ≡ past.sent v.number

  -- what a pass of each role knows
  abbrev pub Knows : Past T → ℕ → View T → Role → Type 0
  Knows past pass v Taking = KnowsTaker past pass v
  Knows past pass v Giving = KnowsGiver past pass v
  Knows past pass v Spent = Unit {0}

  -- the rule: what was collected and then what the lane holds is, of each giver, what it handed in
  pub record IsLane (items : List (Handed T)) (views : List (View T)) : Type 0 where
    pub past : Past T
    pub delivered : (giver : ℕ) → items_of giver (past.got ++ items) ≡ past.sent giver
    pub each : (pass : ℕ) (v : View T) → get_elem? views pass ≡ some v → Knows past pass v v.role
