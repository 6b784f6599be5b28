-- What a net in memory is to a contract, and exactly what each of its calls does.
use Rattle.std.specs.Prelude.{◌≡◌, ◌⊎◌, ℕ, ◌+◌, ◌≤◌, Bool, true, false, ◌||◌, List, [], Option, Some, None, IsSome, IfSome, option_map, map, Result, Ok, Err}
use Rattle.hx_base.specs.declared.numbers.ServerNo.{ServerNo}
use Rattle.hx_base.specs.declared.numbers.ConnId.{ConnId}
use Rattle.hx_base.specs.declared.plan.Plan.{Plan}
use Rattle.hx_link.specs.declared.net.NetFault.{NetFault}
use Rattle.hx_link.specs.Nets.{NetState, DialTold, told_dial, with_more}
pub use Rattle.hx_link.specs.Courses.{is_server, next_plan, without_next, refuses, attach_fails, after_attach}
use Rattle.hx_link.specs.Courses.{after_dial, attached}
use Rattle.hx_link.specs.MemoryLinks.{MemoryLinkNow, begun_link, state_of}

-- a net in memory, as contracts see it
pub record MemoryNetNow : Type 0 where
  pub state : NetState
  -- the plans that are left, in order
  pub plans : List Plan
  -- the buried links, where they are told
  pub links : Option (List MemoryLinkNow)
  -- for how many links more there is room
  pub room : ℕ
  -- which attach fails, counted from 1 for the next one
  pub failing : Option ℕ
  -- a buried link was starved, or a dial or a burial found no memory to be noted
  pub starved : Bool

-- a net of these plans before its first call, with room for so many links
abbrev pub new_net : List Plan → ℕ → MemoryNetNow
new_net plans room = record {
  state = record { faults = 0; loop_no = 0; dials = Some []; buried = Some []; course = Some (record { plans = plans; failing = None }) };
  plans = plans;
  links = Some [];
  room = room;
  failing = None;
  starved = false;
}

-- a plan's counts begin at 1
pub record IsPlan (p : Plan) : Type 0 where
  pub room : IfSome p.room (λ n. 1 ≤ n)
  pub fail : IfSome p.fail (λ n. 1 ≤ n)

-- a link of that plan, as its dial gives it
abbrev pub dialled_link : ServerNo → ConnId → Plan → MemoryLinkNow
dialled_link server id plan = begun_link plan (Some (server.0, id.0))

-- a link of that plan where there is one that doesn't refuse
abbrev pub DialsPlan : ServerNo → ConnId → Option Plan → Option MemoryLinkNow → Type 0
DialsPlan server id plan None = refuses plan ≡ true
DialsPlan server id plan (Some link) =
    (p : Plan) × (plan ≡ Some p) × (p.refuse ≡ false) × (link ≡ dialled_link server id p)

-- what is told of a dial that gave this link, or none
abbrev pub told_result : ServerNo → ConnId → Option MemoryLinkNow → DialTold
told_result server id None = told_dial server id false None
told_result server id (Some link) = told_dial server id true link.state.tag

-- a dial uses the next plan, and is noted where dials are told
abbrev pub dialled : MemoryNetNow → ServerNo → ConnId → Bool → Option ℕ → MemoryNetNow
dialled old server id answered tag = record old {
  state = record old.state {
    dials = with_more (told_dial server id answered tag) old.state.dials;
    course = option_map (after_dial server) old.state.course;
  };
  plans = without_next server old.plans;
}

-- from then on the net tells neither dials nor burials, and is starved
abbrev pub unnoted : MemoryNetNow → MemoryNetNow
unnoted old = record old {
  state = record old.state { dials = None; buried = None };
  links = None;
  starved = true;
}

-- the same, with a count of faults
abbrev pub counting : ℕ → MemoryNetNow → MemoryNetNow
counting faults old = record old { state = record old.state { faults = faults } }

-- a dial answers Ok where the server's next plan doesn't refuse, and fails where it does, where there is none,
-- or where no memory is found to note it
abbrev pub MemoryDials : MemoryNetNow → MemoryNetNow → ServerNo → ConnId → Result MemoryLinkNow NetFault → Type 0
MemoryDials old new server id (Ok link) =
    (p : Plan) × (next_plan server old.plans ≡ Some p) × (p.refuse ≡ false) × (link ≡ dialled_link server id p)
    × (new ≡ dialled old server id true link.state.tag)
MemoryDials old new server id (Err fault) =
    ((refuses (next_plan server old.plans) ≡ true) × (new ≡ counting new.state.faults (dialled old server id false None)))
    ⊎ (IsSome old.state.dials × (new ≡ counting new.state.faults (unnoted (dialled old server id false None))))

-- one attach was counted
abbrev pub counted_attach : MemoryNetNow → MemoryNetNow
counted_attach old =
    record old { state = record old.state { course = option_map attached old.state.course }; failing = after_attach old.failing }

-- an attach fails exactly where it is the one that was named
abbrev pub MemoryAttaches : {D : Type 0} → MemoryNetNow → MemoryNetNow → Result D NetFault → Type 0
MemoryAttaches old new (Ok done) =
    (attach_fails old.failing ≡ false) × (new ≡ counted_attach old)
MemoryAttaches old new (Err fault) =
    (attach_fails old.failing ≡ true) × (new ≡ counting new.state.faults (counted_attach old))

-- a buried link is kept, or dropped where there was no room and no memory was found
abbrev pub KeepsLink : MemoryNetNow → MemoryNetNow → MemoryLinkNow → Type 0
KeepsLink old new link =
    new ≡ record old {
      state = record old.state { buried = with_more link.state old.state.buried };
      links = with_more link old.links;
      room = new.room;
      starved = old.starved || link.starved;
    }

-- the link is kept among the buried ones, unless no memory was found for it
abbrev pub MemoryBuries : MemoryNetNow → MemoryNetNow → MemoryLinkNow → Type 0
MemoryBuries old new link =
    (KeepsLink old new link × (old.room ≤ new.room + 1))
    ⊎ ((old.room ≡ 0) × (new ≡ record (unnoted old) { room = new.room }))

-- what is to come is always told; where dials or burials aren't told any more, the net is starved
pub record TellsCourse (m : MemoryNetNow) : Type 0 where
  pub course : m.state.course ≡ Some (record { plans = m.plans; failing = m.failing })
  pub dials : m.starved ≡ false → IsSome m.state.dials
  pub buried : m.starved ≡ false → IsSome m.state.buried

-- the links that are kept are those that the state tells
abbrev pub TellsLinks : MemoryNetNow → Type 0
TellsLinks m = m.state.buried ≡ option_map (map state_of) m.links
