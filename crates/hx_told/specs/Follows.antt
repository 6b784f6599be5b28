-- Which lines of a script a transcript tells: each client is that of a client's line, and each connection followed a plan.
use Rattle.std.specs.Prelude.{◌≡◌, ℕ, ◌+◌, ◌-◌, ◌≤◌, true, List, [], ◌∷◌, ◌++◌, All, Some, IsSome, ⊤}
use Rattle.hx_base.specs.declared.plan.Plan.{Plan}
use Rattle.hx_link.specs.Planned.{planned}
use Rattle.hx_plain.specs.PlainSeat.{first_thread}
use Rattle.hx_planned.specs.Plans.{nth_plan}
use Rattle.hx_record.specs.declared.bytes.ClientBytes.{ClientBytes}
use Rattle.hx_record.specs.declared.bytes.ConnBytes.{ConnBytes}
use Rattle.hx_run.specs.Dues.{ComeInOrder}
use Rattle.hx_script.specs.TrueTranscript.{Ends}
use Rattle.hx_script_parts.specs.declared.script.ClientLine.{ClientLine}

-- these are the first bytes that the plan gives
abbrev pub IsFrontOf : Plan → List ℕ → Type 0
IsFrontOf plan took = (more : List ℕ) × (planned plan.pieces ≡ took ++ more)

-- the client is the first thread's session of that number, and what it took are the first bytes of that line
pub record IsClientOf (n : ℕ) (line : ClientLine) (c : ClientBytes) : Type 0 where
  pub worker : c.worker ≡ first_thread
  pub session : c.session.0 ≡ n
  pub took : IsFrontOf line.plan c.took

-- one client a line, in order, whose sessions have the numbers from n on
abbrev pub AreClientsOf : ℕ → List ClientLine → List ClientBytes → Type 0
AreClientsOf n [] [] = ⊤
AreClientsOf n (line ∷ lines) (c ∷ clients) = IsClientOf n line c × AreClientsOf (n + 1) lines clients
AreClientsOf n lines clients = ⊥

-- the connection of id k took the first bytes of the k-th plan of its server, and where it counts as ended that plan has an
-- end and all its bytes were taken
pub record FollowsPlan (plans : List Plan) (ends : Ends) (c : ConnBytes) : Type 0 where
  pub low : 1 ≤ c.id.0
  pub plan : Plan
  pub its : nth_plan c.server (c.id.0 - 1) plans ≡ Some plan
  pub took : IsFrontOf plan c.took
  pub ended : ends c.server c.id ≡ true → IsSome plan.end × (c.took ≡ planned plan.pieces)

-- the clients are those of the lines of a script, one to one, as they come by moment and line; the connections followed its plans
pub record FollowsScript (lines : List ClientLine) (plans : List Plan) (ends : Ends) (clients : List ClientBytes) (conns : List ConnBytes)
    : Type 0 where
  pub ordered : List ClientLine
  pub in_order : ComeInOrder lines ordered
  pub clients_are : AreClientsOf 1 ordered clients
  pub conns_are : All (FollowsPlan plans ends) conns
