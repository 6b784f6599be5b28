-- Private: how far the reads of a link in memory have come in its pieces, and what a read finds there.
use Rattle.std.specs.Prelude.{◌≡◌, ℕ, ◌+◌, ◌<◌, ◌≤◌, true, false, List, [], ◌∷◌, length, take, drop, IsSome}
use Rattle.hx_base.specs.declared.plan.Piece.{Piece}
use Rattle.hx_base.specs.declared.plan.Plan.{Plan}
use Rattle.hx_link.specs.declared.place.Place.{Place}
use Rattle.hx_link.specs.declared.place.Due.{Due}
use Rattle.hx_link.specs.declared.place.Due.TheVariants as due
use Rattle.hx_link.specs.Planned.{planned, is_ready, left_of_piece}

-- the bytes of the first piece
abbrev pub first_bytes : List Piece → List ℕ
first_bytes [] = []
first_bytes (p ∷ pieces) = p.bytes

-- pieces were taken whole, bytes of the next were taken, and so many of all
pub record IsPlace (pieces : List Piece) (at : Place) : Type 0 where
  pub ordered : at.piece ≤ length pieces
  pub count : at.taken ≡ length (planned (take at.piece pieces)) + at.offset
  pub inside : at.offset ≤ length (first_bytes (drop at.piece pieces))

-- so many bytes of the next piece further
abbrev pub moved_on : Place → ℕ → Place
moved_on at n = record { piece = at.piece; offset = at.offset + n; taken = at.taken + n }

-- the next piece, where there is one, has a byte left
abbrev pub IsNext : List Piece → Place → Type 0
IsNext pieces at = at.piece < length pieces → at.offset < length (first_bytes (drop at.piece pieces))

-- what is due at a moment
abbrev pub FindsDue : Plan → Place → ℕ → ℕ → Due → Type 0
FindsDue plan at sent now due.Nothing = is_ready plan at.taken sent now ≡ false
FindsDue plan at sent now due.End =
    (is_ready plan at.taken sent now ≡ true) × (left_of_piece plan.pieces at.taken ≡ 0)
    × (at.taken ≡ length (planned plan.pieces)) × IsSome plan.end
FindsDue plan at sent now due.Bytes =
    (is_ready plan at.taken sent now ≡ true) × (0 < left_of_piece plan.pieces at.taken) × (at.piece < length plan.pieces)
