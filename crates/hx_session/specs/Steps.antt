-- A step of a session: what a worker learns of it.
use Rattle.std.specs.Prelude.{◌≡◌, ◌⊎◌, ℕ, ◌<◌, true, false, List, [], Option, Some, None, IfSome, IsSome}
use Rattle.hx_config.specs.Meaning.{Meaning}
use Rattle.hx_link.specs.Told.{LinkState}
use Rattle.hx_connecting.specs.Wanted.{OpensWereWanted}
use Rattle.hx_base.specs.declared.numbers.ServerNo.{ServerNo}
use Rattle.hx_pool.specs.declared.entries.Note.{Note}
use Rattle.hx_record.specs.declared.served.Served.{Served}
use Rattle.hx_session.specs.declared.step.Step.{Step}
use Rattle.hx_session.specs.declared.step.Waits.TheVariants as waits
use Rattle.hx_connecting.specs.Sessions.{SessionNow, Around, Holding, admitted, is_first, conn_link}
use Rattle.hx_connecting.specs.Touches.{Touch, Adds, EachSeat, Ends}
use Rattle.hx_session.specs.Records.{Records, Leaves}
use Rattle.hx_connecting.specs.Choosing.{Turns, IsChosen, KeepsChoice}
use Rattle.hx_session.specs.First.{WasRead}
use Rattle.hx_session.specs.Standstill.{Stands}
use Rattle.hx_session.specs.Causes.{Limits, CanBeLate}
use Rattle.hx_session.specs.Doings.{Doing, IsSameSession, IsSameNet}
use Rattle.hx_session.specs.Deciding.{StepsForCause}
use Rattle.hx_connecting.specs.Holds.{HoldsAt}
use Rattle.hx_session.specs.Touching.{Touches, ClosesForCauses, after_of}

-- the first step reads the client's link, unless a deadline has come
abbrev pub ReadsFirst : SessionNow → SessionNow → Type 0
ReadsFirst s s' = WasRead s.client s'.client

-- a step that moved moves a byte over a link or between two pipes, raises the stage, makes a record, or closes a connection
abbrev pub LinkMoved : LinkState → LinkState → Type 0
LinkMoved a b = (a.taken_count < b.taken_count) ⊎ (a.sent_count < b.sent_count)

abbrev pub ConnMoved : Option Holding → Option Holding → Type 0
ConnMoved None c = ⊥
ConnMoved (Some a) None = ⊥
ConnMoved (Some a) (Some b) = LinkMoved (conn_link a) (conn_link b)

abbrev pub MovesOn : SessionNow → SessionNow → Option Touch → Option Served → Type 0
MovesOn s s' x served =
    LinkMoved s.client s'.client ⊎ ConnMoved s.conn s'.conn ⊎ (s.put < s'.put) ⊎ (s.stage < s'.stage)
    ⊎ IsSome served ⊎ ((y : Touch) × (x ≡ Some y) × (y.went ≡ Ends))

-- nothing was done since its admission, and nothing was taken of its client
abbrev pub IsNew : SessionNow → Type 0
IsNew s = (s ≡ admitted s.worker s.number s.front s.since s.client) × (s.client.taken_count ≡ 0)

abbrev pub doing : SessionNow → SessionNow → Around → Around → List (List Note) → Step → Doing
doing s s' before after added r = record {
  old = s;
  new = s';
  before = before;
  after = after;
  added = added;
  served = r.served;
  left = r.left;
}

-- which connection the step touched, and what it says of it
pub record StepTouches (d : Doing) : Type 0 where
  pub touch : Option Touch
  -- its entries, whose marks are those of that connection
  pub adds : Adds d.old.worker d.old.number (is_first d.old) touch d.before.seats d.after.seats d.added
  -- each connection was opened for want
  pub wanted : EachSeat (λ h es. OpensWereWanted h (is_first d.old) [] es) d.after.seats d.added
  pub touched : Touches d touch
  pub net : IsSameNet d.before.net d.after.net
  -- the seats hold for the session what it has
  pub holds : HoldsAt d.new 0 d.after.seats

-- which server it chose
pub record StepChooses (config : Meaning) (d : Doing) (x : Option Touch) : Type 0 where
  pub chose : Option ServerNo
  pub turns : Turns config d.old d.before.turns d.after.turns d.added chose
  pub choice : KeepsChoice d.old d.new chose
  pub on_chosen : IfSome x (λ y. d.old.conn ≡ None → IsChosen d.old chose y.server)

-- the record and the end that it gave, and their causes
pub record StepTells (config : Meaning) (limits : Limits) (d : Doing) (now : ℕ) (chose : Option ServerNo) (x : Option Touch) (t : Touches d x) : Type 0 where
  pub records : Records d.old d.new (after_of d x t) d.left d.served
  pub leaves : Leaves d.new d.left
  pub causes : StepsForCause config limits d now chose x

-- one that moved did something, one that didn't stands still, and the first one reads the client's link, unless its deadline has come
pub record StepMoves (limits : Limits) (d : Doing) (now : ℕ) (r : Step) (x : Option Touch) : Type 0 where
  pub moves : r.moved ≡ true → MovesOn d.old d.new x r.served
  pub stands : r.moved ≡ false → d.old.over ≡ false → Stands d.old d.new now
  pub ended : (r.waits ≡ waits.Ended → d.new.over ≡ true) × (d.new.over ≡ true → r.waits ≡ waits.Ended)
  pub first : IsNew d.old → ReadsFirst d.old d.new ⊎ CanBeLate limits.client d.old now

-- a step at a moment
pub record SessionSteps (config : Meaning) (limits : Limits) (s s' : SessionNow) (before after : Around) (now : ℕ) (r : Step) : Type 0 where
  pub same : IsSameSession s s'
  pub added : List (List Note)
  pub touches : StepTouches (doing s s' before after added r)
  pub closes : ClosesForCauses (doing s s' before after added r) touches.touch touches.touched
  pub chooses : StepChooses config (doing s s' before after added r) touches.touch
  pub tells : StepTells config limits (doing s s' before after added r) now chooses.chose touches.touch touches.touched
  pub moving : StepMoves limits (doing s s' before after added r) now r touches.touch

-- a session that has given its Left does nothing more
abbrev pub StepsOver : SessionNow → SessionNow → Around → Around → Step → Type 0
StepsOver s s' old new r =
    (s' ≡ s) × (new ≡ old) × (r ≡ record { moved = false; waits = waits.Ended; served = None; left = None })
