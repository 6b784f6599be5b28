-- Which SetGates and which Rounds a caretaker is asked for at one server.
use Rattle.std.specs.Prelude.{◌≡◌, ◌≢◌, ℕ, ◌==◌, nat_lt, Bool, true, false, List, [], ◌∷◌, ◌++◌, if◌then◌else◌}
use Rattle.std.specs.List.{flat_map}
use Rattle.hx_base.specs.declared.numbers.Millis.{Millis}
use Rattle.hx_base.specs.declared.order.Order.{Order}
use Rattle.hx_base.specs.declared.order.Order.TheVariants.{Drain, Ready}
use Rattle.hx_caretaker.specs.Orders.{ordered_server}
use Rattle.hx_pool.specs.declared.entries.Entry.{Entry}
use Rattle.hx_pool.specs.declared.entries.Entry.TheVariants.{Open, Park, Take, Free, Close, Look, Up, Down, Count, Gate, SetGate, Round}
use Rattle.hx_run.specs.Cares.{Care, Ordered, Ticked}
use Rattle.hx_cares.specs.Cared.{interval_at}

-- what a SetGate sets
abbrev pub gate_set : Entry → List Bool
gate_set e = elim e [ SetGate t draining ↦ draining ∷ [] | _ ↦ [] ]

-- what the SetGates among these marks set, in order
abbrev pub gates_in : List Entry → List Bool
gates_in es = flat_map gate_set es

-- whether an order drains
abbrev pub is_drain : Order → Bool
is_drain (Drain server) = true
is_drain (Ready server) = false

-- what an order to the server sets
abbrev pub gate_asked : ℕ → Care → List Bool
gate_asked server (Ordered what) = if (ordered_server what).0 == server then is_drain what ∷ [] else []
gate_asked server (Ticked now) = []

-- what the orders to the server set, in order
abbrev pub gates_asked : ℕ → List Care → List Bool
gates_asked server cares = flat_map (gate_asked server) cares

-- the interval of a Round
abbrev pub round_made : Entry → List ℕ
round_made e = elim e [ Round t k old ↦ k ∷ [] | _ ↦ [] ]

-- the intervals of the Rounds among these marks, in order
abbrev pub rounds_in : List Entry → List ℕ
rounds_in es = flat_map round_made es

-- the intervals of the rounds, each that is above the one before: where the last one was that
unfoldable pub rounds_from : ℕ → ℕ → List Care → List ℕ
rounds_from delay was [] = []
rounds_from delay was (Ordered what ∷ cares) = rounds_from delay was cares
rounds_from delay was (Ticked now ∷ cares) =
    if nat_lt was (interval_at delay now) then interval_at delay now ∷ rounds_from delay (interval_at delay now) cares
    else rounds_from delay was cares

-- the intervals of the rounds, each that is above those before it; none where no purge is set
abbrev pub rounds_asked : ℕ → List Care → List ℕ
rounds_asked delay cares = if delay == 0 then [] else rounds_from delay 0 cares
