-- Sizes of few digits fit.
use Rattle.std.proofs.Common.{ℕ, ◌-◌, ◌^◌, ◌<◌, ◌≤◌, ◌&&◌, IsTrue, arith, lit<}
use Rattle.std.specs.Prelude.{nat_lt, nat_le}
use Rattle.std.proofs.lemmas.Bool.{and_parts, ltb-true, leb-true}
use Rattle.std.proofs.Math.Nat.{pow-le-pow_right}

pub few_digits : (size room : ℕ) → IsTrue (nat_le room 15 && nat_lt size (16 ^ (16 - room))) → (room ≤ 15) × (size < 16 ^ (16 - room))
few_digits size room small =
    let parts = and_parts (nat_le room 15) (nat_lt size (16 ^ (16 - room))) small in
    (leb-true room 15 parts.0, ltb-true size (16 ^ (16 - room)) parts.1)

-- a size with room for a further digit has room for it
pub top_of_digits : (size room : ℕ) → 0 < room → IsTrue (nat_le room 15 && nat_lt size (16 ^ (16 - room))) → size < 2 ^ 60
top_of_digits size room some small =
    let parts = few_digits size room small in
    let top : 16 ^ (16 - room) ≤ 16 ^ 15 = pow-le-pow_right (lit< tt) {i = 16 - room} {j = 15} (omega arith) in
    omega (arith, parts.1, top)
