-- What one step of a worker carries of the headline: each server's entries stand in one history, what was opened was
-- wanted, each connection that the seats hold is with its session, records are true, a server was chosen in turn, a
-- connection was closed for a cause, and links were dialled and buried as is due.
use Rattle.std.specs.Prelude.{◌≡◌, ℕ, List, [], ◌∷◌, ◌++◌, Option, Some, None, IfSome, IsSome, slice_get}
use Rattle.hx_base.specs.declared.numbers.SessionNo.{SessionNo}
use Rattle.hx_base.specs.declared.what.What.{What}
use Rattle.hx_base.specs.declared.what.LinkTold.{LinkTold}
use Rattle.hx_conn.specs.WhatTold.{what_of_link}
use Rattle.hx_link.specs.Told.{LinkState}
use Rattle.hx_link.specs.Nets.{NetState, DialTold, told_dial}
use Rattle.hx_pool.specs.declared.entries.Note.{Note}
use Rattle.hx_pool.specs.SeatView.{History, StandsInOneHistory}
use Rattle.hx_record.specs.Truth.{RecountsBytes}
use Rattle.hx_record.specs.declared.served.Kind.{Kind}
use Rattle.hx_record.specs.declared.served.Kind.TheVariants as kind
use Rattle.hx_record.specs.declared.served.LeftCause.{LeftCause}
use Rattle.hx_record.specs.declared.served.Served.{Served}
use Rattle.hx_connecting.specs.Links.{GainsAll, DialsFor}
use Rattle.hx_connecting.specs.Sessions.{SessionNow, is_first}
use Rattle.hx_connecting.specs.Touches.{Came, Touch, Had, Opened, Took, AllOf}
use Rattle.hx_connecting.specs.Wanted.{OpensWereWanted}
use Rattle.hx_session.specs.Doings.{Doing}
use Rattle.hx_session.specs.Records.{Records, carriage_of, no_carriage, told_of, leaves_for}
use Rattle.hx_session.specs.Steps.{StepChooses, doing}
use Rattle.hx_session.specs.Touching.{ClosesForCauses, Touches, after_of}
use Rattle.hx_session.specs.declared.step.Step.{Step}
use Rattle.hx_worker.specs.Steps.{Steps, HasFewMarks, around_of, buried_by}
use Rattle.hx_worker.specs.Workers.{WorkerNow, HasSeats, OwnsAll}

-- at one seat: what it saw before begins what it has seen, which is one legal history that keeps mode and limit and has
-- its own entries in their order; behind those of before stand the step's, in the session's name or in none; and what it
-- opened was wanted
pub record CarriesAt (s : SessionNow) (old new : History) (es : List Note) : Type 0 where
  pub about : new.about ≡ old.about
  pub one : StandsInOneHistory new
  pub mine : new.mine ≡ old.mine ++ es
  pub seen : (more : List Note) × (new.seen ≡ old.seen ++ more)
  pub own : AllOf s.number es
  pub few : HasFewMarks es
  pub wanted : OpensWereWanted new (is_first s) [] es

-- at each seat, by its server
abbrev pub CarriesEach : SessionNow → List History → List History → List (List Note) → Type 0
CarriesEach s olds news added =
    (i : ℕ) (new : History) → slice_get news i ≡ Some new
    → (old : History) × (es : List Note) × (slice_get olds i ≡ Some old) × (slice_get added i ≡ Some es)
    × CarriesAt s old new es

-- both links tell their bytes after the call, the connection's where there is one
pub record LinksTell (client : LinkState) (conn : Option What) : Type 0 where
  pub client_tells : IsSome (what_of_link client).told
  pub conn_tells : IfSome conn (λ w. IsSome w.told)

-- a record of each kind is true of the bytes of its client's link, and of its connection's link where it names one
abbrev pub IsTrueRecord : LinkState → Option What → LeftCause → Served → Kind → Type 0
IsTrueRecord client conn why r (kind.Passed c) =
    (x : LinkTold) × (y : LinkTold) × ((what_of_link client).told ≡ Some x) × (told_of conn ≡ Some y)
    × RecountsBytes r.kind r (carriage_of x) (carriage_of y) why
IsTrueRecord client conn why r (kind.Cut c w) =
    (x : LinkTold) × (y : LinkTold) × ((what_of_link client).told ≡ Some x) × (told_of conn ≡ Some y)
    × RecountsBytes r.kind r (carriage_of x) (carriage_of y) why
IsTrueRecord client conn why r (kind.Own status) =
    (x : LinkTold) × ((what_of_link client).told ≡ Some x) × RecountsBytes r.kind r (carriage_of x) no_carriage why

-- the dial of a connection that was opened, and no other
abbrev pub dialled_for : (x : Touch) (c : Came) (old new : NetState) (w : Option What)
    → DialsFor x c old new w → List DialTold
dialled_for x Had old new w d = []
dialled_for x Opened old new w d = told_dial x.server x.id d.0 d.1 ∷ []
dialled_for x (Took place uses) old new w d = []

abbrev pub dialled_by : (d : Doing) (x : Option Touch) → Touches d x → List DialTold
dialled_by d None t = []
dialled_by d (Some x) t = dialled_for x x.came d.before.net d.after.net t.goes.after t.goes.dials

-- one step, as its session made it
abbrev pub doing_of : (w w' : WorkerNow) (net net' : NetState) (n : SessionNo) (r : Step)
    → Steps w w' net net' n r → Doing
doing_of w w' net net' n r k =
    doing k.session k.after (around_of w net) (around_of w' k.mid) k.step.links.added r

-- what the touched connection's link tells after the step: it is with its session, or rests, or was buried so
abbrev pub conn_after : (w w' : WorkerNow) (net net' : NetState) (n : SessionNo) (r : Step)
    → Steps w w' net net' n r → Option What
conn_after w w' net net' n r k =
    after_of (doing_of w w' net net' n r k) k.step.links.touches.touch k.step.links.touches.touched

-- what it carries
pub record CarriesHeadline (w w' : WorkerNow) (net net' : NetState) (n : SessionNo) (r : Step)
    (k : Steps w w' net net' n r) : Type 0 where
  pub seats : CarriesEach k.session w.seats w'.seats k.step.links.added
  pub owned : OwnsAll w'.seats w'.sessions
  pub records : Records k.session k.after (conn_after w w' net net' n r k) r.left r.served
  pub truth : LinksTell k.after.client (conn_after w w' net net' n r k)
      → IfSome r.served
      (λ v. IsTrueRecord k.after.client (conn_after w w' net net' n r k) (leaves_for r.left) v v.kind)
  pub chooses : StepChooses w.config (doing_of w w' net net' n r k) k.step.links.touches.touch
  pub closes : ClosesForCauses (doing_of w w' net net' n r k) k.step.links.touches.touch k.step.links.touches.touched
  pub dialled :
      GainsAll (dialled_by (doing_of w w' net net' n r k) k.step.links.touches.touch k.step.links.touches.touched)
      net.dials net'.dials
  pub buried : GainsAll (buried_by w.config k.session k.after (around_of w net) (around_of w' k.mid) r k.step)
      net.buried net'.buried

-- the law: from the clauses of a step alone, over any seats, any net and any links, each part follows
abbrev pub StepsCarryHeadline : Type 0
StepsCarryHeadline =
    (w w' : WorkerNow) (net net' : NetState) (n : SessionNo) (r : Step) (k : Steps w w' net net' n r) → HasSeats w'
    → CarriesHeadline w w' net net' n r k
