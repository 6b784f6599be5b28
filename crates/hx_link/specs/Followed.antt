-- What a link in memory has come to in its plan, at any moment.
use Rattle.std.specs.Prelude.{◌≡◌, ℕ, ◌≤◌, false, length, Some}
use Rattle.hx_base.specs.declared.plan.Piece.{Piece}
use Rattle.hx_link.specs.Planned.{planned, is_ready, end_has_come}
use Rattle.hx_link.specs.MemoryLinks.{MemoryLinkNow}

-- at the moment neither a byte nor the end is due
abbrev pub HasNothingDue : MemoryLinkNow → ℕ → Type 0
HasNothingDue m now = is_ready m.plan m.state.taken_count m.state.sent_count now ≡ false

-- all bytes of its plan were taken of it
pub record HasGivenAll (m : MemoryLinkNow) : Type 0 where
  pub count : m.state.taken_count ≡ length (planned m.plan.pieces)
  pub bytes : m.state.taken ≡ Some (planned m.plan.pieces)

-- the end isn't due at the moment
abbrev pub HasNoEndDue : MemoryLinkNow → ℕ → Type 0
HasNoEndDue m now = end_has_come m.plan.end now m.state.sent_count ≡ false

-- a piece is due at the moment, where so many bytes were sent, once those before it were taken
abbrev pub IsPieceDue : ℕ → ℕ → Piece → Type 0
IsPieceDue now sent p = (p.at.0 ≤ now) × (p.after ≤ sent)
