-- The laws of a course, as functions whose calls do nothing promise them.
use Rattle.std.specs.Prelude.{◌≡◌, ◌≤◌, ℕ, true, List, [], ◌∷◌, ◌++◌, All, Contains, Some, None, slice_get}
use Rattle.hx_base.specs.declared.numbers.ConnId.{ConnId}
use Rattle.hx_base.specs.declared.numbers.Millis.{Millis}
use Rattle.hx_base.specs.declared.numbers.ServerNo.{ServerNo}
use Rattle.hx_base.specs.declared.numbers.SessionNo.{SessionNo}
use Rattle.hx_base.specs.declared.numbers.ThreadNo.{ThreadNo}
use Rattle.hx_base.specs.declared.order.Order.{Order}
use Rattle.hx_base.specs.declared.order.Order.TheVariants.{Drain}
use Rattle.hx_base.specs.declared.what.What.{What}
use Rattle.hx_config.specs.Meaning.{Meaning}
use Rattle.hx_link.specs.Nets.{DialTold, NetState, StaysTold}
use Rattle.hx_link.specs.Told.{LinkState}
use Rattle.hx_pool.specs.SeatView.{History}
use Rattle.hx_record.specs.Tiles.{TilesClient, TilesConn}
use Rattle.hx_record.specs.declared.bytes.ClientBytes.{ClientBytes}
use Rattle.hx_record.specs.declared.bytes.ConnBytes.{ConnBytes}
use Rattle.hx_record.specs.declared.served.Told.{Told}
use Rattle.hx_script.specs.TrueTranscript.{Ends, IsTrueRecord}
use Rattle.hx_script.specs.declared.transcript.Transcript.{Transcript}
use Rattle.hx_connecting.specs.Journals.{JournalRoom}
use Rattle.hx_connecting.specs.Links.{GainsAll}
use Rattle.hx_session.specs.declared.step.Step.{Step}
use Rattle.hx_worker.specs.declared.answers.Stopped.{Stopped}
use Rattle.hx_worker.specs.Admitting.{Admits}
use Rattle.hx_worker.specs.Cares.{TicksAll, CarriesOut}
use Rattle.hx_worker.specs.Steps.{Steps}
use Rattle.hx_worker.specs.Stops.{StopsOne}
use Rattle.hx_worker.specs.Workers.{WorkerNow, HasSeats, new_worker}
use Rattle.hx_course.specs.Calls.{AreAlone, step_graves, stop_graves}
use Rattle.hx_course.specs.Courses.{KeepsCourse}
use Rattle.hx_course.specs.Endings.{TellsGraves, IsEmptied}
use Rattle.hx_course.specs.Graves.{Grave, OfNobody, grave, AreBuried}
use Rattle.hx_course.specs.Lines.{lines_of}
use Rattle.hx_course.specs.Owners.{AreInOrder}
use Rattle.hx_course.specs.Places.{IsHeld, IsAtRest, IsInGrave}
use Rattle.hx_course.specs.Sweeping.{sweep_graves}

-- a new worker at seats of its thread alone, where nothing was seen, and a net that buried nothing: nothing was told
abbrev pub CoursesBegin : Type 0
CoursesBegin =
    (t : ThreadNo) (config : Meaning) (seats : List History) (journals : List JournalRoom) (net : NetState)
    → AreAlone seats → AreInOrder seats → ((i : ℕ) (h : History) → slice_get seats i ≡ Some h → h.seen ≡ []) → AreBuried [] net
    → StaysTold (Some []) net.dials
    → KeepsCourse (new_worker t config seats journals) net [] []

-- a client is admitted, with which nothing is buried
abbrev pub AdmitsKeep : Type 0
AdmitsKeep =
    (w w' : WorkerNow) (net net' : NetState) (client : LinkState) (front : ℕ) (now : Millis) (n : SessionNo)
    → Admits w w' client front now n → net'.buried ≡ net.buried → net'.dials ≡ net.dials
    → client.dial ≡ None
    → (records : List Told) (graves : List Grave) → KeepsCourse w net records graves → KeepsCourse w' net' records graves

-- one that isn't admitted is buried
abbrev pub TurnedKeep : Type 0
TurnedKeep =
    (w : WorkerNow) (net net' : NetState) (client : LinkState) (records : List Told) (graves : List Grave)
    → client.dial ≡ None → GainsAll (client ∷ []) net.buried net'.buried → StaysTold net.dials net'.dials
    → KeepsCourse w net records graves
    → KeepsCourse w net' records (graves ++ grave OfNobody client ∷ [])

-- a session's step, with what it told and whose links it left to be buried
abbrev pub StepsKeep : Type 0
StepsKeep =
    (w w' : WorkerNow) (net net' : NetState) (n : SessionNo) (r : Step) (k : Steps w w' net net' n r)
    (records : List Told) (graves : List Grave) → HasSeats w → HasSeats w'
    → KeepsCourse w net records graves
    → KeepsCourse w' net' (records ++ lines_of r.served r.left) (graves ++ step_graves w w' net net' n r k)

-- the stop of a session
abbrev pub StopsKeep : Type 0
StopsKeep =
    (w w' : WorkerNow) (net net' : NetState) (x : Stopped) (k : StopsOne w w' net net' x)
    (records : List Told) (graves : List Grave) → HasSeats w
    → KeepsCourse w net records graves
    → KeepsCourse w' net' (records ++ lines_of x.served (Some x.left)) (graves ++ stop_graves w w' net net' x k)

-- a round of the caretaker, which tells nothing
abbrev pub TicksKeep : Type 0
TicksKeep =
    (w w' : WorkerNow) (net net' : NetState) (now : Millis) (count : ℕ) (k : TicksAll w w' net net' now count)
    (records : List Told) (graves : List Grave) → KeepsCourse w net records graves
    → KeepsCourse w' net' records (graves ++ sweep_graves 0 k.cares.sweeps)

-- an order
abbrev pub OrdersKeep : Type 0
OrdersKeep =
    (w w' : WorkerNow) (net net' : NetState) (what : Order) (count : ℕ) (k : CarriesOut w w' net net' what count)
    (records : List Told) (graves : List Grave) → KeepsCourse w net records graves
    → KeepsCourse w' net' records (graves ++ sweep_graves 0 k.cares.sweeps)

-- where nothing is left and the transcript tells just the records and the links that were buried, P holds of it
abbrev pub AtTheEnd : (Transcript → Ends → Type 0) → Type 0
AtTheEnd P =
    (w : WorkerNow) (net : NetState) (graves : List Grave) (t : Transcript) (ends : Ends)
    → KeepsCourse w net t.records graves → IsEmptied w → TellsGraves graves t ends → P t ends

-- each record is true
abbrev pub RecordsEndTrue : Type 0
RecordsEndTrue = AtTheEnd (λ t ends. All (IsTrueRecord t ends) t.records)

-- the records of each client's session are numbered, its one Left is last, and their ranges tile its bytes
abbrev pub ClientsEndTiled : Type 0
ClientsEndTiled = AtTheEnd (λ t ends. All (TilesClient t.records) t.clients)

-- the exchanges of each connection follow each other from its first byte
abbrev pub ConnsEndTiled : Type 0
ConnsEndTiled = AtTheEnd (λ t ends. All (TilesConn t.records) t.conns)

-- each connection that was dialled and could be had is told
abbrev pub DialsEndTold : Type 0
DialsEndTold =
    (w : WorkerNow) (net : NetState) (graves : List Grave) (t : Transcript) (ends : Ends)
    → KeepsCourse w net t.records graves → IsEmptied w → TellsGraves graves t ends
    → (dials : List DialTold) → net.dials ≡ Some dials → (d : DialTold) → Contains dials d → d.answered ≡ true
    → (c : ConnBytes) × Contains t.conns c × (c.server ≡ d.server) × (c.id ≡ d.id)

-- and so is the client of each session that was admitted
abbrev pub SessionsEndTold : Type 0
SessionsEndTold =
    (w : WorkerNow) (net : NetState) (graves : List Grave) (t : Transcript) (ends : Ends)
    → KeepsCourse w net t.records graves → IsEmptied w → TellsGraves graves t ends
    → (n : SessionNo) → 1 ≤ n.0 → n.0 ≤ w.last
    → (c : ClientBytes) × Contains t.clients c × (c.worker ≡ w.thread) × (c.session ≡ n)

-- a connection that a session has, one that rests and one whose link was buried are three
abbrev pub PlacesAreApart : Type 0
PlacesAreApart =
    (w : WorkerNow) (net : NetState) (records : List Told) (graves : List Grave) → HasSeats w
    → KeepsCourse w net records graves → (server : ServerNo) (id : ConnId) (u v : What)
    → (IsHeld w.sessions server id u → IsAtRest w.seats server id v → ⊥)
    × (IsHeld w.sessions server id u → IsInGrave graves server id v → ⊥)
    × (IsAtRest w.seats server id u → IsInGrave graves server id v → ⊥)

-- behind an order to drain nothing rests at its server
abbrev pub DrainsEmpty : Type 0
DrainsEmpty =
    (w w' : WorkerNow) (net net' : NetState) (server : ServerNo) (count : ℕ)
    → CarriesOut w w' net net' (Drain server) count → AreAlone w.seats → (id : ConnId) (v : What)
    → IsAtRest w'.seats server id v → ⊥

-- what rests behind an order rested before it
abbrev pub OrdersRested : Type 0
OrdersRested =
    (w w' : WorkerNow) (net net' : NetState) (what : Order) (count : ℕ) → CarriesOut w w' net net' what count
    → AreAlone w.seats → (server : ServerNo) (id : ConnId) (v : What)
    → IsAtRest w'.seats server id v → IsAtRest w.seats server id v

-- and the same of a round of the caretaker
abbrev pub TicksRested : Type 0
TicksRested =
    (w w' : WorkerNow) (net net' : NetState) (now : Millis) (count : ℕ) → TicksAll w w' net net' now count
    → AreAlone w.seats → (server : ServerNo) (id : ConnId) (v : What)
    → IsAtRest w'.seats server id v → IsAtRest w.seats server id v
