-- Of each server that is told its marks are those of its sessions and the answers of its caretaker to what it was asked for.
use Rattle.std.specs.Prelude.{◌≡◌, ℕ, ◌+◌, List, [], ◌∷◌, ⊤}
use Rattle.hx_cares.specs.Asked.{gates_asked, gates_in, rounds_asked, rounds_in}
use Rattle.hx_cares.specs.Cared.{Cared}
use Rattle.hx_run.specs.Cares.{Care}
use Rattle.hx_script.specs.declared.transcript.ServerPart.{ServerPart}

-- the server of that number: between its sessions' marks the caretaker answered each order and each round in order, with all that a drain or a quota asks
-- for; the SetGates are just those of the orders to it, and the Rounds just those of the new intervals
pub record IsCaredFor (cares : List Care) (server : ℕ) (p : ServerPart) : Type 0 where
  pub cared : Cared server p.rules.delay.0 cares p.marks
  pub gates : gates_in p.marks ≡ gates_asked server cares
  pub rounds : rounds_in p.marks ≡ rounds_asked p.rules.delay.0 cares

-- each of these, whose numbers are counted on from i
abbrev pub AreCaredFor : List Care → ℕ → List ServerPart → Type 0
AreCaredFor cares i [] = ⊤
AreCaredFor cares i (p ∷ parts) = IsCaredFor cares i p × AreCaredFor cares (i + 1) parts
