-- Marks of worked scripts, and what is wrong in one place.
use Rattle.std.specs.Prelude.{ℕ, Bool, true, false, List, [], ◌∷◌, ◌++◌, Option, ⊤}
use Rattle.hx_base.specs.declared.totals.Totals.{Totals}
use Rattle.hx_base.specs.declared.numbers.ThreadNo.{ThreadNo}
use Rattle.hx_base.specs.declared.numbers.SessionNo.{SessionNo}
use Rattle.hx_base.specs.declared.numbers.ConnId.{ConnId}
use Rattle.hx_base.specs.declared.numbers.PlaceNo.{PlaceNo}
use Rattle.hx_base.specs.declared.rules.Mode.{Mode}
use Rattle.hx_base.specs.declared.rules.PoolRules.{PoolRules}
use Rattle.hx_pool.specs.declared.entries.Entry.{Entry}
use Rattle.hx_pool.specs.declared.entries.Entry.TheVariants.{Open, Park, Take, Close, SetGate, Round}
use Rattle.hx_check_parts.specs.Marks.{MarkTable, marked}

-- this holds of each mark and the table before it
abbrev pub EachMark : (MarkTable → Entry → Type 0) → MarkTable → List Entry → Type 0
EachMark P T [] = ⊤
EachMark P T (e ∷ es) = P T e × EachMark P (marked T e) es

abbrev pub thread : ℕ → ThreadNo
thread t = record { 0 = t }

abbrev pub session : ℕ → SessionNo
session n = record { 0 = n }

abbrev pub conn : ℕ → ConnId
conn i = record { 0 = i }

abbrev pub at : ℕ → ℕ → PlaceNo
at row place = record { row = row; place = place }

abbrev pub rules : Mode → Option ℕ → ℕ → PoolRules
rules mode max low = record { mode = mode; max = max; low = low; delay = record { 0 = 5000 } }

abbrev pub totals : ℕ → ℕ → ℕ → ℕ → ℕ → ℕ → Totals
totals opened parked taken over care closed =
    record { opened = opened; parked = parked; taken = taken; over = over; care = care; closed = closed }

-- marks by thread, session and connection
abbrev pub opens : ℕ → ℕ → ℕ → Entry
opens t n i = Open (thread t) (session n) (conn i)

abbrev pub parks : ℕ → ℕ → ℕ → ℕ → ℕ → ℕ → Entry
parks t n i row place uses = Park (thread t) (session n) (conn i) (at row place) uses

abbrev pub takes : ℕ → ℕ → ℕ → ℕ → ℕ → ℕ → Bool → Entry
takes t n i row place uses first = Take (thread t) (session n) first (at row place) (conn i) uses

abbrev pub closes : ℕ → ℕ → ℕ → Entry
closes t n i = Close (thread t) (session n) (conn i)

abbrev pub drains : Entry
drains = SetGate (thread 0) true

-- the caretaker of thread 0 closes a connection that rests
abbrev pub sweeps : ℕ → ℕ → ℕ → ℕ → List Entry
sweeps i row place uses = takes 0 0 i row place uses false ∷ closes 0 0 i ∷ []

-- one request
abbrev pub one_get : List Entry
one_get = opens 0 1 1 ∷ parks 0 1 1 0 0 1 ∷ drains ∷ sweeps 1 0 0 1

-- two requests of one client
abbrev pub pipelined : List Entry
pipelined =
    opens 0 1 1 ∷ parks 0 1 1 0 0 1 ∷ takes 0 1 1 0 0 1 false ∷ parks 0 1 1 0 0 2 ∷ drains ∷ sweeps 1 0 0 2

-- two clients, where a first request shares no connection
abbrev pub safe : List Entry
safe =
    opens 0 1 1 ∷ parks 0 1 1 0 0 1 ∷ opens 0 2 2 ∷ parks 0 2 2 0 1 1 ∷ drains ∷ sweeps 1 0 0 1 ++ sweeps 2 0 1 1

-- the same, and an interval passed before the end
abbrev pub purged : List Entry
purged =
    opens 0 1 1 ∷ parks 0 1 1 0 0 1 ∷ opens 0 2 2 ∷ parks 0 2 2 0 1 1 ∷ Round (thread 0) 1 0
    ∷ (sweeps 1 0 0 1 ++ drains ∷ sweeps 2 0 1 1)

-- a first request takes only a connection that was used again
abbrev pub aggressive : List Entry
aggressive =
    opens 0 1 1 ∷ parks 0 1 1 0 0 1 ∷ opens 0 2 2 ∷ parks 0 2 2 0 1 1 ∷ takes 0 2 2 0 1 1 false ∷ parks 0 2 2 0 1 2
    ∷ takes 0 3 2 0 1 2 true ∷ parks 0 3 2 0 1 3 ∷ drains ∷ sweeps 1 0 0 1 ++ sweeps 2 0 1 3

-- three workers, the third of which takes over
abbrev pub taken_over : List Entry
taken_over =
    opens 0 1 1 ∷ parks 0 1 1 0 0 1 ∷ opens 1 1 2 ∷ parks 1 1 2 1 0 1 ∷ takes 2 1 1 0 0 1 true ∷ parks 2 1 1 2 0 2
    ∷ drains ∷ sweeps 2 1 0 1 ++ sweeps 1 2 0 2

-- the first connection ended while it rested
abbrev pub ended_at_rest : List Entry
ended_at_rest =
    opens 0 1 1 ∷ parks 0 1 1 0 0 1 ∷ takes 0 2 1 0 0 1 true ∷ closes 0 2 1 ∷ opens 0 2 2 ∷ parks 0 2 2 0 0 1
    ∷ drains ∷ sweeps 2 0 0 1

-- a take names a place where nothing rests
abbrev pub wrong_place : List Entry
wrong_place = opens 0 1 1 ∷ parks 0 1 1 0 0 1 ∷ drains ∷ sweeps 1 0 1 1

-- a thread parks in another one's row
abbrev pub parked_elsewhere : List Entry
parked_elsewhere = opens 0 1 1 ∷ parks 0 1 1 1 0 1 ∷ []

-- two rest in one place
abbrev pub parked_twice : List Entry
parked_twice = opens 0 1 1 ∷ parks 0 1 1 0 0 1 ∷ opens 0 2 2 ∷ parks 0 2 2 0 0 1 ∷ []

-- a park without one more use
abbrev pub same_uses : List Entry
same_uses = opens 0 1 1 ∷ parks 0 1 1 0 0 1 ∷ takes 0 1 1 0 0 1 false ∷ parks 0 1 1 0 0 1 ∷ []

-- an open passes a number over
abbrev pub number_left_out : List Entry
number_left_out = opens 0 1 1 ∷ opens 0 2 3 ∷ []

-- a session closes a connection that another has
abbrev pub closed_by_another : List Entry
closed_by_another = opens 0 1 1 ∷ closes 0 2 1 ∷ []

-- an interval comes twice
abbrev pub interval_again : List Entry
interval_again = Round (thread 0) 1 0 ∷ Round (thread 0) 1 1 ∷ []
