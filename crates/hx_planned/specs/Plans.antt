-- Over a course of a worker's calls the link of each client and of each connection follows its plan: the client's of session n
-- the n-th plan of those that came, and the connection's of id k the k-th plan of its server.
use Rattle.std.specs.Prelude.{◌≡◌, ◌≤◌, ℕ, ◌+◌, ◌-◌, Bool, not, List, length, filter, Contains, Option, Some, slice_get}
use Rattle.hx_base.specs.declared.numbers.ConnId.{ConnId}
use Rattle.hx_base.specs.declared.numbers.ServerNo.{ServerNo}
use Rattle.hx_base.specs.declared.numbers.SessionNo.{SessionNo}
use Rattle.hx_base.specs.declared.numbers.ThreadNo.{ThreadNo}
use Rattle.hx_base.specs.declared.plan.Plan.{Plan}
use Rattle.hx_base.specs.declared.what.What.{What}
use Rattle.hx_link.specs.Courses.{Course, is_server, refuses}
use Rattle.hx_link.specs.Nets.{DialTold, NetState}
use Rattle.hx_link.specs.Told.{LinkState}
use Rattle.hx_pool.specs.History.{table_after}
use Rattle.hx_pool.specs.SeatView.{History}
use Rattle.hx_connecting.specs.Sessions.{SessionNow}
use Rattle.hx_worker.specs.Workers.{WorkerNow}
use Rattle.hx_course.specs.Graves.{Grave}
use Rattle.hx_course.specs.Places.{ClientIs, ConnIs}

-- the plan is one for that server
abbrev pub is_for : ServerNo → Plan → Bool
is_for server p = is_server server p.server

-- the plans for that server, in order
abbrev pub plans_for : ServerNo → List Plan → List Plan
plans_for server plans = filter (is_for server) plans

-- the plan of that server behind k others of it
abbrev pub nth_plan : ServerNo → ℕ → List Plan → Option Plan
nth_plan server k plans = slice_get (plans_for server plans) k

-- the plan that a link tells is the one that was meant for it
abbrev pub IsPlan : Option Plan → Option Plan → Type 0
IsPlan own meant = (p : Plan) × (meant ≡ Some p) × (own ≡ Some p)

-- a client's link follows the plan of its session among those that came
pub record FollowsNumber (came : List Plan) (n : SessionNo) (own : Option Plan) : Type 0 where
  pub low : 1 ≤ n.0
  pub plan : IsPlan own (slice_get came (n.0 - 1))

-- the link of a connection follows the plan of its server that its id names
pub record FollowsId (plans : List Plan) (server : ServerNo) (id : ConnId) (own : Option Plan) : Type 0 where
  pub low : 1 ≤ id.0
  pub plan : IsPlan own (nth_plan server (id.0 - 1) plans)

-- a dial uses the plan of its server that its id names, and fails exactly where that refuses or isn't there
pub record FollowsDial (plans : List Plan) (d : DialTold) : Type 0 where
  pub low : 1 ≤ d.id.0
  pub plan : refuses (nth_plan d.server (d.id.0 - 1) plans) ≡ not d.answered

-- each client's link that is there or was buried
abbrev pub ClientsFollow : List Plan → List SessionNow → List Grave → ThreadNo → Type 0
ClientsFollow came sessions graves t =
    (n : SessionNo) (l : LinkState) → ClientIs sessions graves t n l → FollowsNumber came n l.plan

-- each connection that is somewhere; one whose dial failed has no link
abbrev pub ConnsFollow : List Plan → List SessionNow → List History → List Grave → Type 0
ConnsFollow plans sessions seats graves =
    (server : ServerNo) (id : ConnId) (v : What) → ConnIs sessions seats graves server id v → FollowsId plans server id v.plan

-- each dial, where the net tells its dials
abbrev pub DialsFollow : List Plan → Option (List DialTold) → Type 0
DialsFollow plans dials = (told : List DialTold) → dials ≡ Some told → (d : DialTold) → Contains told d → FollowsDial plans d

-- of each server the plans that are left are those behind the ids that were opened: each opening used one, also where its dial failed
abbrev pub LeavesRest : List Plan → List History → List Plan → Type 0
LeavesRest plans seats left =
    (server : ServerNo) (h : History) → slice_get seats server.0 ≡ Some h → (k : ℕ)
    → nth_plan server k left ≡ nth_plan server ((table_after h.seen).next - 1 + k) plans

-- the worker and its net, the plans of the clients that were admitted, in order, those of all connections, and the links that
-- were buried so far
pub record KeepsPlans (came plans : List Plan) (w : WorkerNow) (net : NetState) (graves : List Grave) : Type 0 where
  -- as many came as numbers were given
  pub count : w.last ≡ length came
  pub clients : ClientsFollow came w.sessions graves w.thread
  pub conns : ConnsFollow plans w.sessions w.seats graves
  pub dials : DialsFollow plans net.dials
  -- the net tells what is to come, and that is the rest of the plans
  pub next : (c : Course) × (net.course ≡ Some c) × LeavesRest plans w.seats c.plans
