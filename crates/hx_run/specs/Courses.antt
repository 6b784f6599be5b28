-- What holds of all that was told in a replay so far, and that its calls keep it.
use Rattle.std.specs.Prelude.{◌≡◌, ℕ, ◌<◌, Bool, true, List, [], ◌∷◌, ◌++◌, Contains, map, reverse}
use Rattle.hx_base.specs.declared.plan.Plan.{Plan}
use Rattle.hx_base.specs.declared.numbers.Millis.{Millis}
use Rattle.hx_base.specs.declared.order.Order.{Order}
use Rattle.hx_course.specs.Courses.{KeepsCourse}
use Rattle.hx_course.specs.Endings.{IsEmptied}
use Rattle.hx_course.specs.Graves.{Grave}
use Rattle.hx_link.specs.Nets.{NetState}
use Rattle.hx_plain.specs.PlainSeat.{first_thread}
use Rattle.hx_planned.specs.Plans.{KeepsPlans}
use Rattle.hx_pool.specs.SeatView.{History}
use Rattle.hx_record.specs.declared.served.Told.{Told}
use Rattle.hx_script_parts.specs.Limits.{are_rising}
use Rattle.hx_script_parts.specs.Meaning.{Meaning as Script}
use Rattle.hx_script_parts.specs.declared.script.ClientLine.{ClientLine}
use Rattle.hx_worker.specs.Workers.{WorkerNow}
use Rattle.hx_run.specs.Cares.{Care, Ordered, Ticked, DueOrder, AreToCome, all_cares, cares_at, moment_cares}
use Rattle.hx_run.specs.Dues.{ComeInOrder}
use Rattle.hx_run.specs.declared.due.Due.{Due}
use Rattle.hx_run.specs.Runs.{RunNow}
use Rattle.hx_run.specs.Standings.{AllStoodLast}
use Rattle.hx_run.specs.Turns.{Makes, counted}

-- the plan of a client's link
abbrev pub plan_of : ClientLine → Plan
plan_of line = line.plan

-- its records and the links that its net buried, whoever's they were, are those of a course of its worker's calls, in which each
-- link followed its plan: the connections these plans, and the clients those of the lines that came; and its calls at these moments
-- told those records, buried those links, and moved in so many steps as it has turns; its caretaker was asked for these orders and rounds
abbrev pub HasCourse : List Plan → List Millis → List ClientLine → List Care → RunNow → Type 0
HasCourse plans moments came cares r =
    (graves : List Grave) × KeepsCourse r.worker r.net.state r.records graves
    × KeepsPlans (map plan_of came) plans r.worker r.net.state graves
    × Makes plans moments came cares r.worker r.net.state r.records graves r.turns

-- a call keeps that, no client comes in it, and the caretaker is asked for these
abbrev pub CaresOn : List Care → RunNow → RunNow → Type 0
CaresOn asked a b =
    (plans : List Plan) (moments : List Millis) (came : List ClientLine) (cares : List Care) → HasCourse plans moments came cares a
    → HasCourse plans moments came (cares ++ asked) b

-- the caretaker is asked for nothing
abbrev pub KeepsOn : RunNow → RunNow → Type 0
KeepsOn a b =
    (plans : List Plan) (moments : List Millis) (came : List ClientLine) (cares : List Care) → HasCourse plans moments came cares a
    → HasCourse plans moments came cares b

-- so does the stop of sessions that stood still at the last moment
abbrev pub StopsOn : RunNow → RunNow → Type 0
StopsOn a b =
    (plans : List Plan) (moments : List Millis) (came : List ClientLine) (cares : List Care) → AllStoodLast moments a.worker
    → HasCourse plans moments came cares a → HasCourse plans moments came cares b

-- nor in a call at a moment
abbrev pub KeepsAt : Millis → RunNow → RunNow → Type 0
KeepsAt now a b =
    (plans : List Plan) (moments : List Millis) (came : List ClientLine) (cares : List Care) → Contains moments now
    → HasCourse plans moments came cares a → HasCourse plans moments came cares b

-- the caretaker makes its round at a moment
abbrev pub TicksOn : Millis → RunNow → RunNow → Type 0
TicksOn now a b =
    (plans : List Plan) (moments : List Millis) (came : List ClientLine) (cares : List Care) → Contains moments now
    → HasCourse plans moments came cares a → HasCourse plans moments came (cares ++ Ticked now ∷ []) b

-- a step keeps it, once it is counted where it moved
abbrev pub StepsOn : Millis → Bool → RunNow → RunNow → Type 0
StepsOn now moved a b = KeepsAt now a (counted moved b)

-- a call keeps it, and the client of that line comes
abbrev pub ComesOn : ClientLine → RunNow → RunNow → Type 0
ComesOn line a b =
    (plans : List Plan) (moments : List Millis) (came : List ClientLine) (cares : List Care) → HasCourse plans moments came cares a
    → HasCourse plans moments (came ++ line ∷ []) cares b

-- the orders of a moment are carried out that are due next, which are at the end of the list, and no more of that moment are due
pub record ObeysAll (now : Millis) (a : RunNow) (due : List DueOrder) (b : RunNow) (left : List DueOrder) : Type 0 where
  pub taken : List Order
  pub next : reverse due ≡ map (λ (what : Order). (now, what)) taken ++ reverse left
  pub keeps : CaresOn (map Ordered taken) a b

-- of the clients in order those at the beginning came, and the others are due, the next one last
abbrev pub HasCome : List Plan → List Millis → List ClientLine → List ClientLine → List Care → RunNow → Type 0
HasCome plans moments ordered due cares r =
    (came : List ClientLine) × (ordered ≡ came ++ reverse due) × HasCourse plans moments came cares r

-- calls keep that: clients that are due no more came
abbrev pub ComesAll : RunNow → List ClientLine → RunNow → List ClientLine → Type 0
ComesAll a due b left =
    (plans : List Plan) (moments : List Millis) (ordered : List ClientLine) (cares : List Care)
    → HasCome plans moments ordered due cares a → HasCome plans moments ordered left cares b

-- so do the calls of a moment: its orders, which are due no more, were carried out, and then a round was made
abbrev pub ComesAt : Millis → RunNow → Due → RunNow → Due → Type 0
ComesAt now a due b left =
    (plans : List Plan) (moments : List Millis) (ordered : List ClientLine) (orders : List DueOrder) (later : List Millis)
    (cares : List Care) → Contains moments now → are_rising (now ∷ later) ≡ true
    → AreToCome orders (now ∷ later) (reverse due.orders.items)
    → HasCome plans moments ordered due.clients.items cares a
    → AreToCome orders later (reverse left.orders.items)
    × HasCome plans moments ordered left.clients.items (cares ++ moment_cares orders now) b

-- and those of the first of all these moments, where these others are to come
abbrev pub ComesIn : List Millis → List Millis → List Millis → RunNow → Due → RunNow → Due → Type 0
ComesIn moments passed later a due b left =
    (plans : List Plan) (ordered : List ClientLine) (orders : List DueOrder) → are_rising moments ≡ true
    → AreToCome orders moments (reverse due.orders.items)
    → HasCome plans moments ordered due.clients.items [] a
    → AreToCome orders later (reverse left.orders.items)
    × HasCome plans moments ordered left.clients.items (cares_at orders passed) b

-- so do the calls of the moments up to one of these
pub record ComesUpTo (moments : List Millis) (a : RunNow) (due : Due) (b : RunNow) (left : Due) : Type 0 where
  pub passed : List Millis
  pub later : List Millis
  pub parts : moments ≡ passed ++ later
  pub comes : ComesIn moments passed later a due b left

-- a replay of a script came to this, and its caretaker was asked for these orders and rounds
pub record Replays (script : Script) (cares : List Care) (r : RunNow) : Type 0 where
  pub config_is : r.worker.config ≡ script.config
  -- the clients as they come, and those that are due
  pub ordered : List ClientLine
  pub in_order : ComeInOrder script.clients ordered
  pub due : List ClientLine
  pub come : HasCome script.plans script.moments ordered due cares r

-- a replay of a script made so many turns, and went on no further: it came to one of the script's moments, whose orders and round were
-- the last
pub record MakesAll (script : Script) (turns : ℕ) : Type 0 where
  pub run : RunNow
  pub passed : List Millis
  pub later : List Millis
  pub parts : script.moments ≡ passed ++ later
  pub replays : Replays script (cares_at script.orders passed) run
  pub all : run.turns ≡ turns

-- a whole replay of a script, each of whose clients came, made fewer turns; its caretaker was asked for all that the script asks for; it
-- told these records, and left this net, these seats and no session
pub record MakesFewer (script : Script) (turns : ℕ) (records : List Told) (net : NetState) (seats : List History) : Type 0 where
  pub run : RunNow
  pub replays : Replays script (all_cares script) run
  pub whole : replays.due ≡ []
  pub over : run.worker.sessions ≡ []
  pub told : run.records ≡ records
  pub left : run.net.state ≡ net
  pub seats_are : run.worker.seats ≡ seats
  pub fewer : run.turns < turns

-- what was told and the links that the net buried are those of a course of a worker at which nothing is left: no session is
-- there, and no connection rests
pub record EndsCourse (records : List Told) (net : NetState) : Type 0 where
  pub worker : WorkerNow
  pub graves : List Grave
  pub course : KeepsCourse worker net records graves
  pub empty : IsEmptied worker

-- in such a course each link followed its plan in the script: its clients came by moment, in the order of their lines, and each
-- became the session of the next number
pub record EndsPlanned (clients : List ClientLine) (plans : List Plan) (records : List Told) (net : NetState) : Type 0 where
  -- the clients as they came
  pub ordered : List ClientLine
  pub in_order : ComeInOrder clients ordered
  pub worker : WorkerNow
  pub one : worker.thread ≡ first_thread
  pub graves : List Grave
  pub course : KeepsCourse worker net records graves
  pub empty : IsEmptied worker
  pub follows : KeepsPlans (map plan_of ordered) plans worker net graves
