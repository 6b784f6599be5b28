-- What a connection that rests shows, and what its link tells beside it.
use Rattle.std.specs.Prelude.{ℕ, Bool, List, Option, Some, None}
use Rattle.hx_base.specs.declared.what.What.{What}
use Rattle.hx_base.specs.declared.what.LinkTold.{LinkTold}
use Rattle.hx_base.specs.Shown.{Shown}
use Rattle.hx_link.specs.Told.{LinkState}
use Rattle.hx_conn.specs.Conns.{RestedNow}

-- its bytes and its end, where it tells what was sent and what was taken
abbrev pub told_of : Option (List ℕ) → Option (List ℕ) → Bool → Option LinkTold
told_of (Some sent) (Some taken) ended = Some (record { sent = sent; taken = taken; ended = ended })
told_of (Some sent) None ended = None
told_of None taken ended = None

-- what a pool keeps of a link
abbrev pub what_of_link : LinkState → What
what_of_link l = record { faults = l.faults; tag = l.tag; told = told_of l.sent l.taken l.told_end; plan = l.plan }

-- its number and its uses, the server of its dial, and what its link tells
abbrev pub shown : RestedNow → Shown
shown r = record { face = record { id = r.id; uses = r.uses }; server = r.server; what = what_of_link r.link }
