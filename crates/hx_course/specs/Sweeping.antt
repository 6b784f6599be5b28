-- The graves of connections that the caretaker closed.
use Rattle.std.specs.Prelude.{ℕ, ◌+◌, List, [], ◌∷◌, ◌++◌}
use Rattle.hx_base.specs.declared.numbers.ServerNo.{ServerNo}
use Rattle.hx_link.specs.Told.{LinkState}
use Rattle.hx_caretaker.specs.Sweeps.{Swept, Sweep}
use Rattle.hx_course.specs.Graves.{Grave, OfConn, grave}

-- the server of that number
abbrev pub server_no : ℕ → ServerNo
server_no i = record { 0 = i }

-- each connection that was closed at a server, with its link
abbrev pub swept_graves : ServerNo → List Swept → List LinkState → List Grave
swept_graves server (x ∷ swept) (l ∷ links) = grave (OfConn server x.face.id) l ∷ swept_graves server swept links
swept_graves server swept links = []

-- those of the servers counted on from i, in order
abbrev pub sweep_graves : ℕ → List Sweep → List Grave
sweep_graves i [] = []
sweep_graves i (x ∷ sweeps) = swept_graves (server_no i) x.swept x.links ++ sweep_graves (i + 1) sweeps
