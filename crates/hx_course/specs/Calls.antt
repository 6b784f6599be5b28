-- What a course takes of a session's call: how the link of the connection that it touched goes, and which links it buries.
use Rattle.std.specs.Prelude.{◌≡◌, ◌⊎◌, ℕ, List, [], ◌++◌, true, Option, Some, None, slice_get, ⊤}
use Rattle.hx_base.specs.declared.numbers.ConnId.{ConnId}
use Rattle.hx_base.specs.declared.numbers.ServerNo.{ServerNo}
use Rattle.hx_base.specs.declared.numbers.SessionNo.{SessionNo}
use Rattle.hx_base.specs.declared.what.What.{What}
use Rattle.hx_link.specs.Nets.{NetState}
use Rattle.hx_link.specs.Told.{LinkState}
use Rattle.hx_pool.specs.declared.entries.Note.{Note}
use Rattle.hx_pool.specs.History.{what_of}
use Rattle.hx_pool.specs.SeatView.{History}
use Rattle.hx_record.specs.declared.served.Kind.{Kind}
use Rattle.hx_record.specs.declared.served.Kind.TheVariants as kind
use Rattle.hx_record.specs.declared.served.Served.{Served}
use Rattle.hx_connecting.specs.Sessions.{around_with}
use Rattle.hx_connecting.specs.Exchanges.{IsClosed}
use Rattle.hx_connecting.specs.Links.{LinkGoes}
use Rattle.hx_connecting.specs.Sessions.{SessionNow}
use Rattle.hx_connecting.specs.Touches.{Came, Had, Opened, Took, Went, Stays, Rests, Ends, EndsTakenBack, Touch}
use Rattle.hx_session.specs.Doings.{Doing}
use Rattle.hx_session.specs.Stopping.{StopTouches, stopping}
use Rattle.hx_session.specs.Telling.{stopped}
use Rattle.hx_session.specs.Touching.{Touches}
use Rattle.hx_session.specs.declared.step.Step.{Step}
use Rattle.hx_worker.specs.declared.answers.Stopped.{Stopped}
use Rattle.hx_worker.specs.Headline.{doing_of}
use Rattle.hx_worker.specs.Steps.{Steps}
use Rattle.hx_worker.specs.Stops.{StopsOne}
use Rattle.hx_worker.specs.Workers.{WorkerNow}
use Rattle.hx_course.specs.Graves.{Grave, conn_graves, client_graves}
use Rattle.hx_course.specs.Truths.{WhereBoth, IsTrueOpen}

-- no other thread makes entries at the seats
abbrev pub AreAlone : List History → Type 0
AreAlone seats = (i : ℕ) (h : History) → slice_get seats i ≡ Some h → h.about.threads ≡ 1

-- a connection comes to rest, or is closed because its park was refused, only where the session had it before the call
abbrev pub HadFor : Went → Came → Type 0
HadFor Stays c = ⊤
HadFor (Rests place uses) c = c ≡ Had
HadFor Ends c = ⊤
HadFor (EndsTakenBack place uses) c = c ≡ Had

-- a connection that was taken told what stood beside its last Park
abbrev pub TookLast : List History → ServerNo → ConnId → Came → Option What → Type 0
TookLast seats server id Had w = ⊤
TookLast seats server id Opened w = ⊤
TookLast seats server id (Took place uses) w =
    (h : History) → slice_get seats server.0 ≡ Some h → w ≡ what_of h.seen id.0

-- the touched connection: its server's seat after the call, the call's entries there, and the way of its link
pub record TouchGoes (s a : SessionNow) (seats seats' : List History) (added : List (List Note)) (net net' : NetState)
    (x : Touch) : Type 0 where
  pub history : History
  pub es : List Note
  pub seat : slice_get seats' x.server.0 ≡ Some history
  pub entries : slice_get added x.server.0 ≡ Some es
  pub goes : LinkGoes s a history es net net' x
  pub had : HadFor x.went x.came
  pub took : TookLast seats x.server x.id x.came goes.before

-- with a record the connection of its exchange is closed, but for a passed one that is true whether or not that
-- connection's link told its end
abbrev pub EndsExchange : Went → LinkState → Option What → Served → Kind → Type 0
EndsExchange went client conn r (kind.Passed c) =
    IsClosed went ⊎ ((v : What) × (conn ≡ Some v) × WhereBoth client v (IsTrueOpen r c))
EndsExchange went client conn r (kind.Cut c why) = IsClosed went
EndsExchange went client conn r (kind.Own status) = ⊤

-- ---- a step

-- the grave of the connection that a step closed
abbrev pub step_touched : (d : Doing) (x : Option Touch) → Touches d x → List Grave
step_touched d None t = []
step_touched d (Some x) t = conn_graves x.server x.id t.goes.gone

-- the graves of a step: that of the connection, and behind it the client's where the session is over
abbrev pub step_graves : (w w' : WorkerNow) (net net' : NetState) (n : SessionNo) (r : Step)
    → Steps w w' net net' n r → List Grave
step_graves w w' net net' n r k =
    step_touched (doing_of w w' net net' n r k) k.step.links.touches.touch k.step.links.touches.touched
    ++ client_graves k.after.over k.after

-- ---- a stop

-- the grave of the connection that a stop closed
abbrev pub stop_touched : (d : Doing) (x : Option Touch) → StopTouches d x → List Grave
stop_touched d None t = []
stop_touched d (Some x) t = conn_graves x.server x.id t.goes.gone

-- the session's call, as it was stopped
abbrev pub stopping_of : (w w' : WorkerNow) (net net' : NetState) (x : Stopped) → StopsOne w w' net net' x → Doing
stopping_of w w' net net' x k =
    stopping k.session (stopped k.session k.client x.served) (around_with w.seats w.turns net)
    (around_with w'.seats w.turns k.mid) (k.stop.links w.turns).added x.served x.left

-- the graves of a stop: that of the connection, if the session had one, and behind it the client's
abbrev pub stop_graves : (w w' : WorkerNow) (net net' : NetState) (x : Stopped) → StopsOne w w' net net' x → List Grave
stop_graves w w' net net' x k =
    stop_touched (stopping_of w w' net net' x k) (k.stop.links w.turns).touch (k.stop.links w.turns).touched
    ++ client_graves true (stopped k.session k.client x.served)
