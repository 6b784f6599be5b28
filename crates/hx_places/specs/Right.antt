-- A history that the rules of a board allow.
use Rattle.std.specs.Prelude.{◌≡◌, ◌+◌, ◌≤◌, List, [], ◌∷◌, None}
use Rattle.hx_base.specs.declared.numbers.ThreadNo.{ThreadNo}
use Rattle.hx_pool.specs.declared.board.BoardTerms.{BoardTerms}
use Rattle.hx_pool.specs.declared.entries.Entry.TheVariants.{Park}
use Rattle.hx_pool.specs.declared.entries.Note.{Note}
use Rattle.hx_pool.specs.History.{table_after, own_of, opens_of, IsLegal}
use Rattle.hx_pool.specs.Rules.{KeepsMode, KeepsLimit}
use Rattle.hx_pool.specs.SeatView.{AllBelow}
use Rattle.hx_pool.specs.Opening.{open_limit}
use Rattle.hx_places.specs.Turns.{KeepsTurns}
use Rattle.hx_places.specs.Sums.{SumsAfter}

-- beside an entry that is no Park nothing stands
abbrev pub IsPlainNote : Note → Type 0
IsPlainNote x = elim x.entry [ Park t n id place uses ↦ Unit {0} | _ ↦ x.what ≡ None ]

-- each of them is such
abbrev pub ArePlain : List Note → Type 0
ArePlain [] = Unit {0}
ArePlain (x ∷ xs) = IsPlainNote x × ArePlain xs

-- each entry is a step of the table, and the reuse mode and the limit are kept; each thread made its own entries in
-- turn, and no more opens than it may; the count is what rests and what is owed
pub record IsRight (b : BoardTerms) (H : List Note) : Type 0 where
  pub legal : IsLegal H
  pub mode : KeepsMode b.rules H
  pub limit : KeepsLimit b.rules H
  pub threads : AllBelow b.threads H
  pub turns : (t : ThreadNo) → KeepsTurns b.rules.max (own_of t H)
  pub sums : SumsAfter b H
  pub plain : ArePlain H
  pub opened : opens_of H + 1 ≡ (table_after H).next
  pub few : (t : ThreadNo) → opens_of (own_of t H) ≤ open_limit t
