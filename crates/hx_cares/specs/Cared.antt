-- The marks of a server of one thread: those of its sessions, and those with which the caretaker answered its orders and rounds.
use Rattle.std.specs.Prelude.{◌≡◌, ◌≢◌, ◌⊎◌, ℕ, ◌-◌, ◌/◌, ◌<◌, ◌≤◌, Bool, true, false, List, [], ◌∷◌, ◌++◌, length, count_by, ⊤}
use Rattle.hx_base.specs.declared.numbers.Millis.{Millis}
use Rattle.hx_base.specs.declared.numbers.SessionNo.{SessionNo}
use Rattle.hx_base.specs.declared.order.Order.{Order}
use Rattle.hx_base.specs.declared.order.Order.TheVariants.{Drain, Ready}
use Rattle.hx_caretaker.specs.Orders.{ordered_server}
use Rattle.hx_caretaker.specs.Sweeps.{Swept, sweep_marks}
use Rattle.hx_connecting.specs.Touches.{IsOf}
use Rattle.hx_plain.specs.PlainSeat.{first_thread}
use Rattle.hx_pool.specs.Purge.{quota_of}
use Rattle.hx_pool.specs.declared.entries.Entry.{Entry}
use Rattle.hx_pool.specs.declared.entries.Entry.TheVariants.{Open, Park, Take, Free, Close, Look, Up, Down, Count, Gate, SetGate, Round}
use Rattle.hx_run.specs.Cares.{Care, Ordered, Ticked}

-- a Park
abbrev pub is_parking : Entry → Bool
is_parking e = elim e [ Park t n id place uses ↦ true | _ ↦ false ]

-- a Take
abbrev pub is_taking : Entry → Bool
is_taking e = elim e [ Take t n first place id uses ↦ true | _ ↦ false ]

-- how many connections rest behind these marks: as many as were parked and not taken since
abbrev pub rest_behind : List Entry → ℕ
rest_behind es = count_by is_parking es - count_by is_taking es

-- the interval behind a mark: that of a Round, or as it was
abbrev pub round_after : ℕ → Entry → ℕ
round_after was e = elim e [ Round t k old ↦ k | _ ↦ was ]

-- the interval behind these marks, where it was that before them
abbrev pub round_from : ℕ → List Entry → ℕ
round_from was [] = was
round_from was (e ∷ es) = round_from (round_after was e) es

-- the interval to which the last Round raised, or 0
abbrev pub round_behind : List Entry → ℕ
round_behind es = round_from 0 es

-- each is in the name of session n, and none is a SetGate or a Round
abbrev pub AllBy : SessionNo → List Entry → Type 0
AllBy n [] = ⊤
AllBy n (e ∷ es) = IsOf n e × AllBy n es

-- behind these marks an order to drain: a SetGate that drains, then Takes of the caretaker, each followed by its Close, until nothing rests
pub record Drained (es more : List Entry) : Type 0 where
  pub swept : List Swept
  pub marks : more ≡ SetGate first_thread true ∷ sweep_marks first_thread swept
  pub until : rest_behind (es ++ more) ≡ 0

-- behind these marks an order to the server is carried out
abbrev pub Obeyed : Order → List Entry → List Entry → Type 0
Obeyed (Drain server) es more = Drained es more
Obeyed (Ready server) es more = more ≡ SetGate first_thread false ∷ []

-- how many whole intervals of so many milliseconds have passed at a moment
abbrev pub interval_at : ℕ → Millis → ℕ
interval_at delay now = now.0 / delay

-- behind these marks a round at a moment of a new interval: a Round that raises to it from the last one, then such Takes and Closes, as many as the
-- quota of what rests then says, by how many intervals are new
pub record Purged (delay : ℕ) (now : Millis) (es more : List Entry) : Type 0 where
  pub new : round_behind es < interval_at delay now
  pub swept : List Swept
  pub marks : more ≡ Round first_thread (interval_at delay now) (round_behind es) ∷ sweep_marks first_thread swept
  pub as_many : length swept ≡ quota_of (rest_behind es) (interval_at delay now - round_behind es)

-- behind these marks the caretaker of the server of that number, which purges after so many milliseconds, or never where that is 0, answers with
-- these what it is asked for. An order to another server, and a round in an interval that isn't new, leave no mark
abbrev pub Answers : ℕ → ℕ → List Entry → Care → List Entry → Type 0
Answers server delay es (Ordered what) more =
    ((ordered_server what).0 ≢ server × (more ≡ [])) ⊎ (((ordered_server what).0 ≡ server) × Obeyed what es more)
Answers server delay es (Ticked now) more =
    ((delay ≡ 0) × (more ≡ []))
    ⊎ ((delay ≢ 0) × ((interval_at delay now ≤ round_behind es) × (more ≡ []) ⊎ Purged delay now es more))

-- these are all marks of the server behind those orders and rounds: those of sessions, and in between, in order, the answers of the caretaker
pub data Cared (server delay : ℕ) : List Care → List Entry → Type 0 where
  -- before all
  none_yet : Cared server delay [] []
  -- a session made some
  session_made : (cares : List Care) (es : List Entry) (n : SessionNo) (more : List Entry) → Cared server delay cares es → n.0 ≢ 0
      → AllBy n more → Cared server delay cares (es ++ more)
  -- the caretaker was asked for one more
  asked_one : (cares : List Care) (es : List Entry) (care : Care) (more : List Entry) → Cared server delay cares es
      → Answers server delay es care more → Cared server delay (cares ++ care ∷ []) (es ++ more)
