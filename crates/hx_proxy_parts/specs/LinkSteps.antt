-- Private: what a link over a socket counts.
use Rattle.std.specs.Prelude.{◌≡◌, ℕ, true}
use Rattle.hx_link.specs.Told.{LinkState, CountsOne}

-- a fault is counted
abbrev pub CountsFault : LinkState → LinkState → Type 0
CountsFault old new = (new ≡ record old { faults = new.faults }) × CountsOne old.faults new.faults

-- a read that had to wait is counted, with its moment
abbrev pub WaitsToRead : LinkState → LinkState → ℕ → Type 0
WaitsToRead old new now =
    (new ≡ record old { read_waits = new.read_waits; read_wait_at = now; read_waited = true })
    × CountsOne old.read_waits new.read_waits

-- a write that had to wait is counted, with its moment
abbrev pub WaitsToWrite : LinkState → LinkState → ℕ → Type 0
WaitsToWrite old new now =
    (new ≡ record old { write_waits = new.write_waits; write_wait_at = now })
    × CountsOne old.write_waits new.write_waits
