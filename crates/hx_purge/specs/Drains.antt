-- What a seat's drain has passed.
use Rattle.std.specs.Prelude.{◌≡◌, ℕ, ◌*◌, ◌<◌, ◌≤◌, true, List, ◌∷◌, ◌++◌, Option, Some, None}
use Rattle.hx_base.specs.declared.numbers.PlaceNo.{PlaceNo}
use Rattle.hx_base.specs.declared.numbers.Face.{Face}
use Rattle.hx_pool.specs.declared.entries.Entry.TheVariants.{SetGate}
use Rattle.hx_pool.specs.declared.entries.Note.{Note}
use Rattle.hx_pool.specs.Table.{Holds, IsInRow, spot_at}
use Rattle.hx_pool.specs.History.{plain, table_after}
use Rattle.hx_pool.specs.SeatView.{History}
use Rattle.hx_pool.specs.Causes.{nth_place, IsCovered}
use Rattle.hx_pool.specs.Drain.{since_drain, NoSetGate, IsPending}
use Rattle.hx_places.specs.Seats.{PlaceView}

-- by the seat's own entries since its last SetGate that is draining, each of the first q places, in the order of the
-- thread, was taken from or had nothing to take
pub record Covers (s : PlaceView) (q : ℕ) : Type 0 where
  pub few : q ≤ 64 * s.view.terms.threads
  pub es : List Note
  pub since : since_drain s.view.mine ≡ Some es
  pub covered : (i : ℕ) → i < q → IsCovered s.view.thread es (nth_place s.view.thread s.view.terms.threads i)

-- the seat's drain has covered the places that it passed, or the seat set no drain
abbrev pub Drains : PlaceView → Option ℕ → Type 0
Drains s None = since_drain s.view.mine ≡ None
Drains s (Some q) = Covers s q

-- where nobody set the drain state since this seat's SetGate, all that rests is a park under way: its thread made no
-- entry since, or the Gate that shows draining
abbrev pub IsEmptied : History → Type 0
IsEmptied h = (before later : List Note) → h.seen ≡ before ++ plain (SetGate h.about.thread true) ∷ later → NoSetGate later
    → (place : PlaceNo) (f : Face) → IsInRow place → spot_at (table_after h.seen) place ≡ Holds f → IsPending h.seen place f
