-- The laws of plans over a course, as a function whose call does nothing promises them.
use Rattle.std.specs.Prelude.{◌≡◌, ℕ, List, [], ◌∷◌, ◌++◌, Contains, Some, slice_get}
use Rattle.hx_base.specs.declared.numbers.ConnId.{ConnId}
use Rattle.hx_base.specs.declared.numbers.Millis.{Millis}
use Rattle.hx_base.specs.declared.numbers.ServerNo.{ServerNo}
use Rattle.hx_base.specs.declared.numbers.SessionNo.{SessionNo}
use Rattle.hx_base.specs.declared.numbers.ThreadNo.{ThreadNo}
use Rattle.hx_base.specs.declared.order.Order.{Order}
use Rattle.hx_base.specs.declared.plan.Plan.{Plan}
use Rattle.hx_config.specs.Meaning.{Meaning}
use Rattle.hx_link.specs.Courses.{Course}
use Rattle.hx_link.specs.Nets.{NetState, StaysTold}
use Rattle.hx_link.specs.Told.{LinkState}
use Rattle.hx_pool.specs.SeatView.{History}
use Rattle.hx_record.specs.declared.served.Told.{Told}
use Rattle.hx_connecting.specs.Journals.{JournalRoom}
use Rattle.hx_connecting.specs.Links.{CourseStays}
use Rattle.hx_session.specs.declared.step.Step.{Step}
use Rattle.hx_worker.specs.declared.answers.Stopped.{Stopped}
use Rattle.hx_worker.specs.Admitting.{Admits}
use Rattle.hx_worker.specs.Cares.{TicksAll, CarriesOut}
use Rattle.hx_worker.specs.Steps.{Steps}
use Rattle.hx_worker.specs.Stops.{StopsOne}
use Rattle.hx_worker.specs.Workers.{WorkerNow, new_worker}
use Rattle.hx_course.specs.Calls.{step_graves, stop_graves}
use Rattle.hx_course.specs.Courses.{KeepsCourse}
use Rattle.hx_course.specs.Graves.{Grave, OfClient, OfConn, OfNobody, grave}
use Rattle.hx_course.specs.Sweeping.{sweep_graves}
use Rattle.hx_planned.specs.Plans.{FollowsNumber, FollowsId, KeepsPlans}

-- a new worker at seats where nothing was seen, and a net that dialled nothing and tells what is to come: all its plans are left
abbrev pub PlansBegin : Type 0
PlansBegin =
    (t : ThreadNo) (config : Meaning) (seats : List History) (journals : List JournalRoom) (net : NetState) (c : Course)
    → ((i : ℕ) (h : History) → slice_get seats i ≡ Some h → h.seen ≡ []) → net.course ≡ Some c
    → StaysTold (Some []) net.dials → KeepsPlans [] c.plans (new_worker t config seats journals) net []

-- a client is admitted whose link follows that plan, and no plan is used
abbrev pub AdmitsPlanned : Type 0
AdmitsPlanned =
    (w w' : WorkerNow) (net net' : NetState) (client : LinkState) (front : ℕ) (now : Millis) (n : SessionNo) (p : Plan)
    → Admits w w' client front now n → client.plan ≡ Some p → CourseStays net net'
    → StaysTold net.dials net'.dials → (came plans : List Plan) (graves : List Grave) → KeepsPlans came plans w net graves
    → KeepsPlans (came ++ p ∷ []) plans w' net' graves

-- one that isn't admitted is buried
abbrev pub TurnedPlanned : Type 0
TurnedPlanned =
    (w : WorkerNow) (net net' : NetState) (client : LinkState) → CourseStays net net'
    → StaysTold net.dials net'.dials → (came plans : List Plan) (graves : List Grave) → KeepsPlans came plans w net graves
    → KeepsPlans came plans w net' (graves ++ grave OfNobody client ∷ [])

-- a session's step, with the links that it left to be buried
abbrev pub StepsPlanned : Type 0
StepsPlanned =
    (w w' : WorkerNow) (net net' : NetState) (n : SessionNo) (r : Step) (k : Steps w w' net net' n r)
    (records : List Told) (came plans : List Plan) (graves : List Grave)
    → KeepsCourse w net records graves → KeepsPlans came plans w net graves
    → KeepsPlans came plans w' net' (graves ++ step_graves w w' net net' n r k)

-- the stop of a session
abbrev pub StopsPlanned : Type 0
StopsPlanned =
    (w w' : WorkerNow) (net net' : NetState) (x : Stopped) (k : StopsOne w w' net net' x)
    (records : List Told) (came plans : List Plan) (graves : List Grave)
    → KeepsCourse w net records graves → KeepsPlans came plans w net graves
    → KeepsPlans came plans w' net' (graves ++ stop_graves w w' net net' x k)

-- a round of the caretaker
abbrev pub TicksPlanned : Type 0
TicksPlanned =
    (w w' : WorkerNow) (net net' : NetState) (now : Millis) (count : ℕ) (k : TicksAll w w' net net' now count)
    (records : List Told) (came plans : List Plan) (graves : List Grave)
    → KeepsCourse w net records graves → KeepsPlans came plans w net graves
    → KeepsPlans came plans w' net' (graves ++ sweep_graves 0 k.cares.sweeps)

-- an order
abbrev pub OrdersPlanned : Type 0
OrdersPlanned =
    (w w' : WorkerNow) (net net' : NetState) (what : Order) (count : ℕ) (k : CarriesOut w w' net net' what count)
    (records : List Told) (came plans : List Plan) (graves : List Grave)
    → KeepsCourse w net records graves → KeepsPlans came plans w net graves
    → KeepsPlans came plans w' net' (graves ++ sweep_graves 0 k.cares.sweeps)

-- of what was buried each client's link follows the plan of its session, and each connection's that of its id
abbrev pub GravesFollow : Type 0
GravesFollow =
    (w : WorkerNow) (net : NetState) (came plans : List Plan) (graves : List Grave) → KeepsPlans came plans w net graves
    → ((n : SessionNo) (l : LinkState) → Contains graves (grave (OfClient w.thread n) l) → FollowsNumber came n l.plan)
    × ((server : ServerNo) (id : ConnId) (l : LinkState) → Contains graves (grave (OfConn server id) l)
    → FollowsId plans server id l.plan)
