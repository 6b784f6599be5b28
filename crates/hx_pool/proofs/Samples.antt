-- Histories of some servers: legal ones, and broken ones, each for a reason of its own.
use Rattle.std.proofs.Common.{◌≡◌, ℕ, Bool, true, false, List, [], ◌∷◌, ◌++◌, refl, ap, arith, rules, Some}
use Rattle.hx_base.specs.declared.numbers.ThreadNo.{ThreadNo}
use Rattle.hx_base.specs.declared.numbers.PlaceNo.{PlaceNo}
use Rattle.hx_base.specs.declared.rules.Mode.{Mode}
use Rattle.hx_base.specs.declared.rules.Mode.TheVariants.{Never, Safe, Aggressive, Always}
use Rattle.hx_base.specs.declared.rules.PoolRules.{PoolRules}
use Rattle.hx_pool.specs.declared.entries.Found.TheVariants.{Empty, Resting, Leaving}
use Rattle.hx_pool.specs.declared.entries.Entry.TheVariants.{Open, Park, Take, Free, Close, Look, Up, Down, Count, Gate, SetGate, Round}
use Rattle.hx_pool.specs.declared.entries.Note.{Note}
use Rattle.hx_pool.specs.Table.{Conn, HeldBy, Closed, Spot, Holds}
use Rattle.hx_pool.specs.History.{plain, table_after, IsLegal}
use Rattle.hx_pool.specs.Rules.{allows, KeepsMode, KeepsLimit}
use Rattle.hx_pool.specs.Purge.{quota_of}

abbrev by : ℕ → ThreadNo
by t = record { 0 = t }

abbrev opens : ℕ → ℕ → ℕ → Note
opens t n id = plain (Open (by t) (record { 0 = n }) (record { 0 = id }))

abbrev place : ℕ → ℕ → PlaceNo
place r k = record { row = r; place = k }

abbrev parks : ℕ → ℕ → ℕ → ℕ → ℕ → Note
parks t n id k uses = plain (Park (by t) (record { 0 = n }) (record { 0 = id }) (place t k) uses)

abbrev takes : ℕ → ℕ → Bool → ℕ → ℕ → ℕ → ℕ → List Note
takes t n first row k id uses = plain (Take (by t) (record { 0 = n }) first (place row k) (record { 0 = id }) uses)
    ∷ plain (Free (by t) (place row k)) ∷ []

abbrev closes : ℕ → ℕ → ℕ → Note
closes t n id = plain (Close (by t) (record { 0 = n }) (record { 0 = id }))

-- the caretaker's take of one, and its close
abbrev ends : ℕ → ℕ → ℕ → ℕ → List Note
ends row k id uses = takes 0 0 false row k id uses ++ closes 0 0 id ∷ []

abbrev drains : Note
drains = plain (SetGate (by 0) true)

abbrev in_mode : Mode → PoolRules
in_mode m = record { mode = m; max = Some 20; low = 0; delay = record { 0 = 5000 } }

abbrev session_in : Conn → ℕ
session_in (HeldBy t n) = n.0
session_in _ = 0

abbrev uses_in : Spot → ℕ
uses_in (Holds f) = f.uses
uses_in _ = 0

-- a history is legal, keeps the mode and the limit, and its first two connections end closed
pub record IsGood (rules : PoolRules) (H : List Note) : Type 0 where
  pub legal : IsLegal H
  pub mode : KeepsMode rules H
  pub limit : KeepsLimit rules H
  pub first : (table_after H).conns 1 ≡ Closed

-- one request on a connection
abbrev one_request : List Note
one_request = opens 0 1 1 ∷ parks 0 1 1 0 1 ∷ drains ∷ ends 0 0 1 1

one_request_is_good : IsGood (in_mode Always) one_request
one_request_is_good = record { legal = search rules; mode = search rules; limit = search rules; first = refl }

-- the same with every entry that the calls make
abbrev every_kind : List Note
every_kind = opens 0 1 1 ∷ plain (Look (by 0) (place 0 0) Empty) ∷ plain (Gate (by 0) false) ∷ plain (Up (by 0) 0) ∷ parks 0 1 1 0 1 ∷ plain (Gate (by 0) false) ∷ drains
    ∷ plain (Look (by 0) (place 0 0) (Resting (record { id = record { 0 = 1 }; uses = 1 }))) ∷ plain (Take (by 0) (record { 0 = 0 }) false (place 0 0) (record { 0 = 1 }) 1)
    ∷ plain (Look (by 1) (place 0 0) Leaving) ∷ plain (Free (by 0) (place 0 0)) ∷ plain (Down (by 0) 1) ∷ closes 0 0 1
    ∷ plain (Gate (by 0) true) ∷ plain (SetGate (by 0) false) ∷ plain (Count (by 1) 0) ∷ plain (Round (by 1) 2 0) ∷ plain (Round (by 0) 1 2) ∷ plain (Round (by 0) 3 2) ∷ []

every_kind_is_good : IsGood (in_mode Always) every_kind
every_kind_is_good = record { legal = search rules; mode = search rules; limit = search rules; first = refl }

-- two requests of one session
abbrev pipelined : List Note
pipelined = opens 0 1 1 ∷ parks 0 1 1 0 1 ∷ takes 0 1 false 0 0 1 1 ++ parks 0 1 1 0 2 ∷ drains ∷ ends 0 0 1 2

pipelined_is_good : IsGood (in_mode Always) pipelined
pipelined_is_good = record { legal = search rules; mode = search rules; limit = search rules; first = refl }

-- two sessions, each with a connection of its own
abbrev two_parked : List Note
two_parked = opens 0 1 1 ∷ parks 0 1 1 0 1 ∷ opens 0 2 2 ∷ parks 0 2 2 1 1 ∷ []

abbrev safe : List Note
safe = two_parked ++ drains ∷ ends 0 0 1 1 ++ ends 0 1 2 1

safe_is_good : IsGood (in_mode Safe) safe
safe_is_good = record { legal = search rules; mode = search rules; limit = search rules; first = refl }

-- a first request takes what was used again before
abbrev aggressive : List Note
aggressive = two_parked ++ takes 0 2 false 0 1 2 1 ++ parks 0 2 2 1 2 ∷ takes 0 3 true 0 1 2 2 ++ parks 0 3 2 1 3 ∷ drains ∷ ends 0 0 1 1 ++ ends 0 1 2 3

aggressive_is_good : IsGood (in_mode Aggressive) aggressive
aggressive_is_good = record { legal = search rules; mode = search rules; limit = search rules; first = refl }

-- a third thread takes over what the first parked
abbrev takeover : List Note
takeover = opens 0 1 1 ∷ parks 0 1 1 0 1 ∷ opens 1 1 2 ∷ parks 1 1 2 0 1 ∷ takes 2 1 true 0 0 1 1 ++ parks 2 1 1 0 2 ∷ drains ∷ ends 1 0 2 1 ++ ends 2 0 1 2

takeover_is_good : IsGood (in_mode Always) takeover
takeover_is_good = record { legal = search rules; mode = search rules; limit = search rules; first = refl }

-- half of what rests goes after a purge interval
abbrev purged : List Note
purged = two_parked ++ plain (Round (by 0) 1 0) ∷ ends 0 0 1 1 ++ drains ∷ ends 0 1 2 1

purged_is_good : IsGood (in_mode Safe) purged
purged_is_good = record { legal = search rules; mode = search rules; limit = search rules; first = refl }

-- the connection that rested had ended, so the session that took it closes it and opens another
abbrev ended_at_rest : List Note
ended_at_rest = opens 0 1 1 ∷ parks 0 1 1 0 1 ∷ takes 0 2 true 0 0 1 1 ++ closes 0 2 1 ∷ opens 0 2 2 ∷ parks 0 2 2 0 1 ∷ drains ∷ ends 0 0 2 1

ended_at_rest_is_good : IsGood (in_mode Always) ended_at_rest
ended_at_rest_is_good = record { legal = search rules; mode = search rules; limit = search rules; first = refl }

-- the caretaker opens nothing
opens_for_caretaker : ¬ IsLegal (opens 0 0 1 ∷ [])
opens_for_caretaker l = l.0.0 refl

-- numbers are given in order
skips_a_number : ¬ IsLegal (opens 0 1 2 ∷ [])
skips_a_number l = let e = l.0.1 in omega arith

-- a session parks what it holds
parks_of_another : ¬ IsLegal (opens 0 1 1 ∷ parks 0 2 1 0 1 ∷ [])
parks_of_another l = let e = ap session_in l.1.0.held in omega arith

-- in its own thread's row
parks_in_another_row : ¬ IsLegal (opens 0 1 1 ∷ plain (Park (by 0) (record { 0 = 1 }) (record { 0 = 1 }) (place 1 0) 1) ∷ [])
parks_in_another_row l = let e = l.1.0.row in omega arith

-- which has 64 places
parks_past_the_row : ¬ IsLegal (opens 0 1 1 ∷ parks 0 1 1 64 1 ∷ [])
parks_past_the_row l = let e = l.1.0.inside in omega arith

-- at a vacant one
parks_on_another : ¬ IsLegal (opens 0 1 1 ∷ opens 0 1 2 ∷ parks 0 1 1 0 1 ∷ parks 0 1 2 0 1 ∷ [])
parks_on_another l = let e = l.1.1.1.0.vacant in cc

-- with one use more
parks_with_two_uses : ¬ IsLegal (opens 0 1 1 ∷ parks 0 1 1 0 2 ∷ [])
parks_with_two_uses l = let e = l.1.0.used in omega arith

-- a take takes the face that rests there
takes_another_face : ¬ IsLegal (opens 0 1 1 ∷ parks 0 1 1 0 1 ∷ takes 0 1 false 0 0 1 2)
takes_another_face l = let e = ap uses_in l.1.1.0.1 in omega arith

-- once
takes_twice : ¬ IsLegal (opens 0 1 1 ∷ parks 0 1 1 0 1 ∷ takes 0 1 false 0 0 1 1 ++ takes 1 1 false 0 0 1 1)
takes_twice l = let e = l.1.1.1.1.0.1 in cc

-- the place is vacant only after its Free, which the taker makes
parks_before_the_free : ¬ IsLegal (opens 0 1 1 ∷ parks 0 1 1 0 1 ∷ plain (Take (by 0) (record { 0 = 1 }) false (place 0 0) (record { 0 = 1 }) 1) ∷ parks 0 1 1 0 2 ∷ [])
parks_before_the_free l = let e = l.1.1.1.0.vacant in cc

-- a session closes what it has, and not what rests
closes_at_rest : ¬ IsLegal (opens 0 1 1 ∷ parks 0 1 1 0 1 ∷ closes 0 1 1 ∷ [])
closes_at_rest l = let e = l.1.1.0 in cc

-- looks, counts and gates show what is
looks_past_it : ¬ IsLegal (opens 0 1 1 ∷ parks 0 1 1 0 1 ∷ plain (Look (by 0) (place 0 0) Empty) ∷ [])
looks_past_it l = let e = l.1.1.0.1 in cc

goes_below_nothing : ¬ IsLegal (plain (Down (by 0) 0) ∷ [])
goes_below_nothing l = let e = l.0.1 in omega arith

gate_is_ready : ¬ IsLegal (drains ∷ plain (Gate (by 1) false) ∷ [])
gate_is_ready l = let e = l.1.0 in cc

-- the modes: nothing is parked under never, a first request takes nothing under safe, and under aggressive nothing
-- with one use
parks_under_never : ¬ KeepsMode (in_mode Never) two_parked
parks_under_never k = k.1.0 refl

first_under_safe : ¬ KeepsMode (in_mode Safe) (two_parked ++ takes 0 3 true 0 1 2 1)
first_under_safe k = let e = k.1.1.1.1.0 (omega arith) in cc

first_under_aggressive : ¬ KeepsMode (in_mode Aggressive) (two_parked ++ takes 0 3 true 0 1 2 1)
first_under_aggressive k = let e = k.1.1.1.1.0 (omega arith) in cc

-- the limit: of two places at most one may hold a connection
rests_past_the_limit : ¬ KeepsLimit (record { mode = Safe; max = Some 1; low = 0; delay = record { 0 = 5000 } }) two_parked
rests_past_the_limit k = let e = k.1.1.1.0 in omega arith

-- of 5 resting 3 go, then of 2 one, then of 1 one; after four intervals at once all 5 go; of 7 four, and after two six
quotas : (quota_of 5 1 ≡ 3) × (quota_of 2 1 ≡ 1) × (quota_of 1 1 ≡ 1) × (quota_of 5 4 ≡ 5) × (quota_of 7 1 ≡ 4) × (quota_of 7 2 ≡ 6) × (quota_of 0 3 ≡ 0)
quotas = (refl, refl, refl, refl, refl, refl, refl)

-- which uses a request may go over
uses_allowed : (allows Safe true 9 ≡ false) × (allows Aggressive true 1 ≡ false) × (allows Aggressive true 2 ≡ true) × (allows Never false 2 ≡ false)
uses_allowed = (refl, refl, refl, refl)
