-- What a net tells of itself, and what a caller learns of each of its calls. Contracts alone speak of it.
use Rattle.std.specs.Prelude.{◌≡◌, ◌⊎◌, ℕ, ◌≤◌, Bool, true, false, List, [], ◌∷◌, ◌++◌, Option, Some, None, IsSome, OnSome, IfSome, option_map, Result, Ok, Err}
use Rattle.hx_base.specs.declared.numbers.ServerNo.{ServerNo}
use Rattle.hx_base.specs.declared.numbers.ConnId.{ConnId}
use Rattle.hx_base.specs.declared.plan.Plan.{Plan}
use Rattle.hx_link.specs.Courses.{Course, next_plan, refuses, after_dial, attach_fails, attached}
use Rattle.hx_link.specs.Told.{LinkState, CountsOne}
use Rattle.hx_link.specs.declared.net.NetFault.{NetFault}

-- a dial: its server and id, whether it answered Ok, and the tag of its link where that tells one
pub record DialTold : Type 0 where
  pub server : ServerNo
  pub id : ConnId
  pub answered : Bool
  pub tag : Option ℕ

-- what a net tells
pub record NetState : Type 0 where
  pub faults : ℕ
  pub loop_no : ℕ
  -- all dials, failed ones among them, where it tells them
  pub dials : Option (List DialTold)
  -- all links that were buried, as they stood then, where it tells them
  pub buried : Option (List LinkState)
  -- what is to come of its dials and attaches, where it tells it
  pub course : Option Course

-- a list is as it was, or isn't told any more
abbrev pub StaysTold : {A : Type 0} → Option (List A) → Option (List A) → Type 0
StaysTold old new = (new ≡ old) ⊎ (new ≡ None)

-- a list with one more at its end
abbrev pub with_more : {A : Type 0} → A → Option (List A) → Option (List A)
with_more x told = option_map (λ xs. xs ++ x ∷ []) told

-- a list gained one at its end, or isn't told any more
abbrev pub GainsTold : {A : Type 0} → A → Option (List A) → Option (List A) → Type 0
GainsTold x old new = (new ≡ with_more x old) ⊎ (new ≡ None)

-- nothing was taken of it or sent on it, it isn't finished, it counted no fault, and it is attached to no loop
pub record IsFresh (l : LinkState) : Type 0 where
  pub no_loop : l.on_loop ≡ None
  pub no_fault : l.faults ≡ 0
  pub taken_count : l.taken_count ≡ 0
  pub sent_count : l.sent_count ≡ 0
  pub taken : IfSome l.taken (λ bytes. bytes ≡ [])
  pub sent : IfSome l.sent (λ bytes. bytes ≡ [])
  pub unfinished : l.finished ≡ false

-- the server and the id are those of its dial, where it tells them
abbrev pub TellsDial : ServerNo → ConnId → LinkState → Type 0
TellsDial server id l = IfSome l.dial (λ d. d ≡ (server.0, id.0))

-- a link as its dial gives it; where it tells bytes it also tells its dial
pub record IsDialled (server : ServerNo) (id : ConnId) (l : LinkState) : Type 0 where
  pub fresh : IsFresh l
  pub dial : TellsDial server id l
  pub ended : l.told_end ≡ false
  pub taken : OnSome l.taken (IsSome l.dial)
  pub sent : OnSome l.sent (IsSome l.dial)

-- a dial, as a net tells it
abbrev pub told_dial : ServerNo → ConnId → Bool → Option ℕ → DialTold
told_dial server id answered tag = record { server = server; id = id; answered = answered; tag = tag }

-- where the net tells what is to come, a link that is dialled follows the server's next plan, which doesn't refuse
abbrev pub FollowsNext : ServerNo → Option Course → LinkState → Type 0
FollowsNext server course l =
    IfSome course (λ c. (p : Plan) × (next_plan server c.plans ≡ Some p) × (p.refuse ≡ false) × (l.plan ≡ Some p))

-- and a dial that fails had no such plan, or dials aren't told any more
abbrev pub HasNoNext : ServerNo → Option Course → NetState → Type 0
HasNoNext server course new = IfSome course (λ c. (refuses (next_plan server c.plans) ≡ true) ⊎ (new.dials ≡ None))

-- a dial is noted where dials are told; one that fails counts a fault, and one that answers Ok none
abbrev pub NetDials : {L : Type 0} → (L → LinkState) → NetState → NetState → ServerNo → ConnId → Result L NetFault → Type 0
NetDials state old new server id (Ok link) =
    (new ≡ record old { dials = new.dials; buried = new.buried; course = option_map (after_dial server) old.course })
    × FollowsNext server old.course (state link)
    × GainsTold (told_dial server id true (state link).tag) old.dials new.dials
    × StaysTold old.buried new.buried × IsDialled server id (state link)
NetDials state old new server id (Err fault) =
    (new ≡ record old {
      faults = new.faults;
      dials = new.dials;
      buried = new.buried;
      course = option_map (after_dial server) old.course;
    })
    × HasNoNext server old.course new
    × GainsTold (told_dial server id false None) old.dials new.dials
    × StaysTold old.buried new.buried × CountsOne old.faults new.faults

-- nothing but the count of faults changes, which doesn't fall
abbrev pub OnlyFaults : NetState → NetState → Type 0
OnlyFaults old new = (new ≡ record old { faults = new.faults }) × (old.faults ≤ new.faults)

-- nothing but the count of faults, which doesn't fall, and the count of attaches
abbrev pub AttachCounted : NetState → NetState → Type 0
AttachCounted old new =
    (new ≡ record old { faults = new.faults; course = option_map attached old.course }) × (old.faults ≤ new.faults)

-- an attached link has the net's loop, and one that isn't is as it was, and a fault was counted
abbrev pub NetAttaches : {D : Type 0} → NetState → NetState → LinkState → LinkState → Result D NetFault → Type 0
NetAttaches old new link_old link_new (Ok done) =
    AttachCounted old new × IfSome old.course (λ c. attach_fails c.failing ≡ false)
    × (link_new ≡ record link_old { on_loop = Some old.loop_no })
NetAttaches old new link_old link_new (Err fault) =
    AttachCounted old new × IfSome old.course (λ c. attach_fails c.failing ≡ true)
    × CountsOne old.faults new.faults × (link_new ≡ link_old)

-- the link has no loop, and is else as it was
abbrev pub NetDetaches : NetState → NetState → LinkState → LinkState → Type 0
NetDetaches old new link_old link_new = OnlyFaults old new × (link_new ≡ record link_old { on_loop = None })

-- the link is noted where burials are told
abbrev pub NetBuries : NetState → NetState → LinkState → Type 0
NetBuries old new link =
    (new ≡ record old { faults = new.faults; dials = new.dials; buried = new.buried }) × (old.faults ≤ new.faults)
    × StaysTold old.dials new.dials × GainsTold link old.buried new.buried
