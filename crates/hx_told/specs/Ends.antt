-- Which connections' links told their end, and that their plans had one.
use Rattle.std.specs.Prelude.{◌≡◌, ℕ, Bool, true, false, ◌==◌, ◌&&◌, if◌then◌else◌, List, [], ◌∷◌, Contains, Option, Some, None, IsSome}
use Rattle.hx_link.specs.MemoryLinks.{MemoryLinkNow}
use Rattle.hx_link.specs.Planned.{planned}
use Rattle.hx_record.specs.declared.bytes.ConnBytes.{ConnBytes}
use Rattle.hx_script.specs.TrueTranscript.{Ends}

-- a dial of that server and id gave the link
abbrev pub is_dial : ℕ → ℕ → Option (ℕ × ℕ) → Bool
is_dial server id None = false
is_dial server id (Some d) = d.0 == server && d.1 == id

-- the link of that dial told its end; where there is none, nothing did
abbrev pub ended_in : List MemoryLinkNow → ℕ → ℕ → Bool
ended_in [] server id = false
ended_in (m ∷ links) server id = if is_dial server id m.state.dial then m.state.told_end else ended_in links server id

-- whether the link of each connection told its end, by the links that were buried
abbrev pub ends_of : Option (List MemoryLinkNow) → Ends
ends_of None server id = false
ends_of (Some links) server id = ended_in links server.0 id.0

-- the link of the connection's dial has an end in its plan, and all that its plan has was read of it
pub record EndsAsPlanned (links : Option (List MemoryLinkNow)) (c : ConnBytes) : Type 0 where
  pub all : List MemoryLinkNow
  pub links_are : links ≡ Some all
  pub link : MemoryLinkNow
  pub there : Contains all link
  pub dialled : link.state.dial ≡ Some (c.server.0, c.id.0)
  pub ends : IsSome link.plan.end
  pub whole : c.took ≡ planned link.plan.pieces

-- where the connection's link told its end, its plan has one
abbrev pub EndsByPlan : Option (List MemoryLinkNow) → ConnBytes → Type 0
EndsByPlan links c = ends_of links c.server c.id ≡ true → EndsAsPlanned links c
