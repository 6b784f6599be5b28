-- What a net whose links mirror the load is to a contract, and exactly what its calls do.
use Rattle.std.specs.Prelude.{◌≡◌, ◌⊎◌, ℕ, ◌+◌, ◌≤◌, Bool, true, false, List, [], ◌∷◌, ◌++◌, Option, Some, None}
use Rattle.hx_link.specs.Nets.{NetState}
use Rattle.hx_drill_parts.specs.Mirrors.{MirrorNow}

-- a net whose links mirror the load, as contracts see it
pub record MirrorNetNow (T : Type 0) : Type 0 where
  pub state : NetState
  -- the clients' links that were buried, in order
  pub kept : List (MirrorNow T)
  -- for how many links more there is room
  pub room : ℕ
  -- a client's link was buried for which no memory was found
  pub lost : Bool
  -- the gate of its links
  pub gate : T

-- the net of that thread's loop; it tells neither dials nor burials, and never fails
abbrev pub loop_state : ℕ → NetState
loop_state thread = record { faults = 0; loop_no = thread; dials = None; buried = None; course = None }

-- a net before its first call
abbrev pub new_net : {T : Type 0} → ℕ → ℕ → T → MirrorNetNow T
new_net thread room gate = record { state = loop_state thread; kept = []; room = room; lost = false; gate = gate }

-- a client's link is kept behind those before it, or lost where there was no room and no memory was found
abbrev pub KeepsClient : {T : Type 0} → MirrorNetNow T → MirrorNetNow T → MirrorNow T → Type 0
KeepsClient old new link =
    ((new ≡ record old { kept = old.kept ++ link ∷ []; room = new.room }) × (old.room ≤ new.room + 1))
    ⊎ ((old.room ≡ 0) × (new ≡ record old { lost = true; room = new.room }))

-- a client's link is kept, and a server's is dropped
abbrev pub MirrorBuries : {T : Type 0} → Option ℕ → MirrorNetNow T → MirrorNetNow T → MirrorNow T → Type 0
MirrorBuries (Some session) old new link = KeepsClient old new link
MirrorBuries None old new link = new ≡ old
