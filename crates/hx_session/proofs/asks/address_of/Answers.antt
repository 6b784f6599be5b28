use Rattle.std.proofs.Common.{◌≡◌, ◌<◌, ℕ, zero, suc, List, [], ◌∷◌, length, arith, None}
use Rattle.std.specs.List.{slice_get}
use Rattle.hx_session.proofs.asks.address_of.Goals as goal

there : {A : Type 0} (xs : List A) (i : ℕ) → i < length xs → None ≡ slice_get xs i → ⊥
there [] i low e = omega (arith, low)
there (x ∷ xs) zero low e = cc
there (x ∷ xs) (suc i) low e = there xs i (omega (arith, low)) e

pub unreachable-requires : goal.unreachable-requires
unreachable-requires c = absurd (there _ c.args.server.0 c.requires c.in-None.ensures)
