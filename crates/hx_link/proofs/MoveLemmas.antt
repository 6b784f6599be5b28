-- What a read gave.
use Rattle.std.proofs.Common.{ℕ, ◌≤◌, arith}
use Rattle.hx_link.specs.declared.answers.Got.{Got}
use Rattle.hx_link.specs.declared.answers.Got.TheVariants as got
use Rattle.hx_link.specs.Sources.{GotFits}
use Rattle.hx_link.specs.Moves.{got_count}

-- it fits into the slice
pub got_within : (result : Got) (n : ℕ) → GotFits result n → got_count result ≤ n
got_within (got.Bytes k) n fits = omega (arith, fits.0, fits.1)
got_within got.NotYet n fits = omega arith
got_within got.End n fits = omega arith
got_within got.Failed n fits = omega arith
