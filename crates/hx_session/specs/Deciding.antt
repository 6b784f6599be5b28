-- That what a step decided has its cause.
use Rattle.std.specs.Prelude.{◌≡◌, ◌⊎◌, ℕ, Option, Some, None, IfSome, slice_get, List}
use Rattle.hx_base.specs.Counts.{Rose}
use Rattle.hx_config.specs.Meaning.{Meaning}
use Rattle.hx_pool.specs.SeatView.{History}
use Rattle.hx_record.specs.declared.served.Served.{Served}
use Rattle.hx_connecting.specs.Sessions.{SessionNow, Exchanging}
use Rattle.hx_connecting.specs.Touches.{Touch, Opened, Ends}
use Rattle.hx_base.specs.declared.numbers.ServerNo.{ServerNo}
use Rattle.hx_connecting.specs.Choosing.{AllDrain, IsChosen, servers_of, back_no}
use Rattle.hx_session.specs.Causes.{Limits, Buries, Unserved, all_drain, no_numbers, no_dial, Decides, CutsFor, LeavesFor}
use Rattle.hx_conn.specs.Conns.{BusyNow}
use Rattle.hx_link.specs.Nets.{NetState}
use Rattle.hx_link.specs.Told.{LinkState}
use Rattle.hx_config.specs.declared.parts.Back.{Back}
use Rattle.hx_pool.specs.History.{opens_of}
use Rattle.hx_pool.specs.Opening.{open_limit}
use Rattle.hx_record.specs.declared.served.Carried.{Carried}
use Rattle.hx_record.specs.declared.served.CutCause.{CutCause}
use Rattle.hx_record.specs.declared.served.Kind.TheVariants as kind
use Rattle.hx_session.specs.Decided.{LacksAt}
use Rattle.hx_session.specs.Doings.{Doing}

-- no server took the request, by what the call added
abbrev pub Lacks : Meaning → Doing → Option ServerNo → Option Touch → Unserved → Type 0
Lacks config d chose x all_drain =
    (b : ℕ) × (terms : Back) × (back_no (slice_get config.fronts d.old.front) ≡ Some b)
    × (slice_get config.backs b ≡ Some terms) × AllDrain d.old.worker (servers_of terms) d.added
Lacks config d chose x no_numbers =
    (server : ServerNo) × (h : History) × IsChosen d.old chose server × (slice_get d.after.seats server.0 ≡ Some h)
    × (opens_of h.mine ≡ open_limit h.about.thread)
Lacks config d chose x no_dial =
    Rose d.before.net.faults d.after.net.faults
    × ((y : Touch) × (x ≡ Some y) × (y.came ≡ Opened) × (y.went ≡ Ends))

-- a status that is decided in the call, by its record or because it stands decided at the end, has its cause
abbrev pub DecidesNew : (ℕ → Type 0) → SessionNow → SessionNow → Option Served → Type 0
DecidesNew Cause s s' served =
    s.own ≡ None → (status : ℕ)
    → (s'.own ≡ Some status) ⊎ ((r : Served) × (served ≡ Some r) × (r.kind ≡ kind.Own status)) → Cause status

-- a cut in the call has its cause
abbrev pub CutsNew : (BusyNow → CutCause → Type 0) → SessionNow → Option Served → Type 0
CutsNew Cause s served =
    (r : Served) (c : Carried) (why : CutCause) (b : BusyNow)
    → served ≡ Some r → r.kind ≡ kind.Cut c why → s.conn ≡ Some (Exchanging b) → Cause b why

-- once decided, an own answer stays until its record is given, and nothing more is read of the client
abbrev pub KeepsOwn : SessionNow → SessionNow → Option Served → Type 0
KeepsOwn s s' served =
    IfSome s.own (λ status.
    (s'.client.taken_count ≡ s.client.taken_count)
    × ((s'.own ≡ Some status) ⊎ ((r : Served) × (served ≡ Some r) × (r.kind ≡ kind.Own status))))

-- each own answer of a call at a moment has its cause
abbrev pub OwnsAs : Limits → (Unserved → Type 0) → SessionNow → SessionNow → NetState → NetState → ℕ → Option Served → Type 0
OwnsAs limits Why s s' net net' now served = DecidesNew (Decides limits s net net' now Why) s s' served

-- why no server of the frontend's backend took the request, by what a call made of the seats and of the net
abbrev pub LacksIn : Meaning → ℕ → List History → List History → NetState → NetState → Unserved → Type 0
LacksIn config front olds news net net' u =
    (b : ℕ) × (terms : Back) × (back_no (slice_get config.fronts front) ≡ Some b) × (slice_get config.backs b ≡ Some terms)
    × LacksAt terms.servers olds news net net' u

-- and so has each cut
abbrev pub CausesCut : Limits → SessionNow → LinkState → NetState → NetState → ℕ → BusyNow → CutCause → Type 0
CausesCut limits s client net net' now b why = (l : LinkState) × Buries b net net' l × CutsFor limits s client b l now why

abbrev pub CutsAllFor : Limits → SessionNow → SessionNow → NetState → NetState → ℕ → Option Served → Type 0
CutsAllFor limits s s' net net' now served = CutsNew (CausesCut limits s s'.client net net' now) s served

-- what a step at a moment decided has its cause
pub record StepsForCause (config : Meaning) (limits : Limits) (d : Doing) (now : ℕ) (chose : Option ServerNo) (x : Option Touch) : Type 0 where
  pub own : DecidesNew (Decides limits d.old d.before.net d.after.net now (Lacks config d chose x)) d.old d.new d.served
  pub cut : CutsAllFor limits d.old d.new d.before.net d.after.net now d.served
  pub left : IfSome d.left (λ l. LeavesFor limits d.old d.new d.served now l.cause)
  pub keeps : KeepsOwn d.old d.new d.served
