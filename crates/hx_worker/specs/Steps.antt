-- What a caller learns of a worker's step.
use Rattle.std.specs.Prelude.{◌≡◌, ◌⊎◌, ℕ, ◌==◌, ◌≤◌, if◌then◌else◌, Bool, true, false, List, [], ◌∷◌, ◌++◌, length, Option, Some, None, option_to_list, IfSome}
use Rattle.hx_base.specs.declared.numbers.SessionNo.{SessionNo}
use Rattle.hx_config.specs.Meaning.{Meaning}
use Rattle.hx_link.specs.Told.{LinkState}
use Rattle.hx_link.specs.Nets.{NetState}
use Rattle.hx_pool.specs.declared.entries.Note.{Note}
use Rattle.hx_pool.specs.History.{marks_of}
use Rattle.hx_caretaker.specs.Sweeps.{BuriesAll}
use Rattle.hx_connecting.specs.Journals.{JournalsStay}
use Rattle.hx_connecting.specs.Links.{GainsAll}
use Rattle.hx_connecting.specs.Sessions.{SessionNow, Around, around_with}
use Rattle.hx_connecting.specs.Touches.{Touch, most_marks}
use Rattle.hx_record.specs.declared.served.Served.{Served}
use Rattle.hx_session.specs.Deciding.{CutsAllFor, KeepsOwn, LacksIn, OwnsAs}
use Rattle.hx_session.specs.Doings.{Doing}
use Rattle.hx_session.specs.Kept.{IsSameStep}
use Rattle.hx_session.specs.Linking.{StepLinks}
use Rattle.hx_session.specs.Marking.{AddsMarks}
use Rattle.hx_session.specs.Causes.{CanBeLate, LeavesFor}
use Rattle.hx_session.specs.Fits.{limits_of}
use Rattle.hx_session.specs.Standstill.{Stands}
use Rattle.hx_session.specs.Steps.{IsNew, ReadsFirst, StepChooses, doing}
use Rattle.hx_session.specs.Telling.{StepTold}
use Rattle.hx_session.specs.Touching.{Touches}
use Rattle.hx_session.specs.declared.step.Step.{Step}
use Rattle.hx_session.specs.declared.step.Waits.TheVariants.{Ended}
use Rattle.hx_worker.specs.Workers.{WorkerNow, Each, StaysWorker, session_of}

-- at most so many marks are among the entries
abbrev pub HasFewMarks : List Note → Type 0
HasFewMarks es = length (marks_of es) ≤ most_marks

-- what a session's step is: whose session it stays, which entries it made, server by server, which connection it
-- touched and how the link of that went, which server it chose, what it told, that an own answer stays decided, and
-- whether it ended
pub record SessionStep (config : Meaning) (s s' : SessionNow) (before after : Around) (r : Step) : Type 0 where
  pub same : IsSameStep s s' before.seats after.seats before.net after.net
  pub adds : AddsMarks s before.seats after.seats
  pub few : Each HasFewMarks adds.added
  pub links : StepLinks s s' before after r
  pub chooses : StepChooses config (doing s s' before after links.added r) links.touches.touch
  pub tells : StepTold s s' r.left r.served
  pub keeps : KeepsOwn s s' r.served
  pub ended : (r.waits ≡ Ended → s'.over ≡ true) × (s'.over ≡ true → r.waits ≡ Ended)

-- each own answer of a step has its cause, by what the step made of the seats and of the net where no server took the request
abbrev pub StepOwns : Meaning → SessionNow → SessionNow → Around → Around → ℕ → Option Served → Type 0
StepOwns config s s' before after now served =
    OwnsAs (limits_of config s.front) (LacksIn config s.front before.seats after.seats before.net after.net) s s' before.net after.net now served

-- and by its moment: its first one reads its client's link, or that client's timeout can have come; each own answer and each
-- cut is for its cause, and so is the session's end; and where nothing moved the session had to wait, with nothing left to do
pub record IsTimely (config : Meaning) (s s' : SessionNow) (before after : Around) (now : ℕ) (r : Step) : Type 0 where
  pub first : IsNew s → ReadsFirst s s' ⊎ CanBeLate (limits_of config s.front).client s now
  pub owns : StepOwns config s s' before after now r.served
  pub cuts : CutsAllFor (limits_of config s.front) s s' before.net after.net now r.served
  pub leaves : IfSome r.left (λ l. LeavesFor (limits_of config s.front) s s' r.served now l.cause)
  pub stands : r.moved ≡ false → Stands s s' now

-- the session behind its step in place of that before; one that is over is gone
abbrev pub placed : List SessionNow → SessionNow → List SessionNow
placed [] s' = []
placed (s ∷ sessions) s' =
    if s.number.0 == s'.number.0 then (if s'.over then sessions else s' ∷ sessions) else s ∷ placed sessions s'

-- the client's link of a session that ended is buried once, attached to no loop; the net is else as the session left it
abbrev pub BuriesClient : Bool → LinkState → NetState → NetState → Type 0
BuriesClient false client mid net = net ≡ mid
BuriesClient true client mid net = (client.on_loop ≡ None) × BuriesAll (client ∷ []) mid net

-- the link of the touched connection where that was closed, as it was buried
abbrev pub gone_of : (d : Doing) (x : Option Touch) → Touches d x → Option LinkState
gone_of d None t = None
gone_of d (Some x) t = t.goes.gone

-- the links that a call buries: that of a closed connection, and behind it the client's where the session ended
abbrev pub buried_with : Option LinkState → Bool → LinkState → List LinkState
buried_with gone false client = option_to_list gone
buried_with gone true client = option_to_list gone ++ client ∷ []

-- the links that a session's step leaves to be buried
abbrev pub buried_by : (config : Meaning) (s s' : SessionNow) (before after : Around) (r : Step)
    → SessionStep config s s' before after r → List LinkState
buried_by config s s' before after r x =
    buried_with (gone_of (doing s s' before after x.links.added r) x.links.touches.touch x.links.touches.touched)
    s'.over s'.client

-- what is around a worker's sessions
abbrev pub around_of : WorkerNow → NetState → Around
around_of w net = around_with w.seats w.turns net

-- the session of that number makes its step, and every other one is as it was
pub record Steps (w w' : WorkerNow) (net net' : NetState) (n : SessionNo) (r : Step) : Type 0 where
  pub stays : StaysWorker w w'
  pub session : SessionNow
  pub after : SessionNow
  pub there : session_of w.sessions n.0 ≡ Some session
  -- the net as the session left it
  pub mid : NetState
  pub step : SessionStep w.config session after (around_of w net) (around_of w' mid) r
  pub sessions : w'.sessions ≡ placed w.sessions after
  pub buries : BuriesClient after.over after.client mid net'
  -- in the whole call just these links were buried
  pub buried : GainsAll (buried_by w.config session after (around_of w net) (around_of w' mid) r step)
      net.buried net'.buried
  pub journals : JournalsStay most_marks w.journals w'.journals

-- the same, at that moment
abbrev pub StepsAt : WorkerNow → WorkerNow → NetState → NetState → SessionNo → ℕ → Step → Type 0
StepsAt w w' net net' n now r = (k : Steps w w' net net' n r) × IsTimely w.config k.session k.after (around_of w net) (around_of w' k.mid) now r
