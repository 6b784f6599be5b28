-- Private: which connection of the other rows a takeover gets.
use Rattle.std.specs.Prelude.{◌≡◌, ℕ, ◌+◌, ◌*◌, ◌<◌, ◌≤◌, ◌⊎◌, not, Bool, true, List}
use Rattle.hx_base.specs.declared.numbers.ThreadNo.{ThreadNo}
use Rattle.hx_base.specs.declared.numbers.Face.{Face}
use Rattle.hx_base.specs.declared.rules.Mode.{Mode}
use Rattle.hx_pool.specs.Table.{Spot, Holds}
use Rattle.hx_pool.specs.Rules.{allows}
use Rattle.hx_resting.specs.Rows.{Rested, spot_in}
use Rattle.hx_resting.specs.Row.{nth_no, IsUnfit, fits}

-- something rests that may be taken
pub record IsFit (may : ℕ → Bool) (s : Spot) : Type 0 where
  pub face : Face
  pub holds : s ≡ Holds face
  pub good : may face.uses ≡ true

module _ (t : ThreadNo) (threads : ℕ) (rests : List Rested) where
  -- what stands at a place of the row that comes so many rows after the thread's own, with wrap
  abbrev pub spot_on : ℕ → ℕ → Spot
  spot_on step p = spot_in rests (nth_no t threads (64 * step + p))

  -- the first k places of that row have nothing that may be taken
  abbrev pub IsClear : (ℕ → Bool) → ℕ → ℕ → Type 0
  IsClear may step k = (p : ℕ) → p < k → IsUnfit may (spot_on step p)

  module _ (mode : Mode) (first : Bool) where
    -- at the place rests the first connection of the row: a first request prefers the safe list, a later one the idle
    -- list, and in a list the least place comes first
    pub record IsFirstInRow (step p : ℕ) : Type 0 where
      pub safe : Bool
      pub inside : p < 64
      pub fit : IsFit (fits mode first safe) (spot_on step p)
      pub before : IsClear (fits mode first safe) step p
      pub liked : (safe ≡ first) ⊎ ((safe ≡ not first) × IsClear (fits mode first first) step 64)

    -- from the next thread's row on, the rows before this one have nothing for the request
    abbrev pub AreClear : ℕ → Type 0
    AreClear k = (j : ℕ) → 1 ≤ j → j < k → IsClear (allows mode first) j 64

    -- at the place of this number rests the first connection of the other rows
    pub record IsFirstOver (q : ℕ) : Type 0 where
      pub step : ℕ
      pub place : ℕ
      pub at : q ≡ 64 * step + place
      pub ahead : 1 ≤ step
      pub below : step < threads
      pub rows : AreClear step
      pub order : IsFirstInRow step place

    -- where a takeover begins: at the first connection, or, where the other rows have none, at their first place
    abbrev pub StartsAt : ℕ → Type 0
    StartsAt q = ((q ≡ 64) × AreClear threads) ⊎ IsFirstOver q
