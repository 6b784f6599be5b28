-- Private: how far a body was read, and which bytes end it from there (RFC 9112, section 6.3).
use Rattle.std.specs.Prelude.{◌≡◌, ◌↔◌, ℕ, ◌+◌, ◌<◌, ◌≤◌, Bool, true, false, List, ◌++◌, length, take, if◌then◌else◌, ◌==◌, ⊤}
use Rattle.hx_message.specs.declared.BodyKind.{BodyKind}
use Rattle.hx_message.specs.declared.BodyKind.TheVariants.{Nothing, Length, Chunked, ToEnd}
use Rattle.hx_frame.specs.declared.progress.MeterState.{MeterState}
use Rattle.hx_frame.specs.declared.progress.MeterState.TheVariants as progress
use Rattle.hx_frame.specs.declared.state.ChunkState.TheVariants.{Start}
use Rattle.hx_frame.specs.declared.state.BodyState.{BodyState}
use Rattle.hx_frame.specs.declared.state.BodyState.TheVariants.{Bytes, Chunks, All}
use Rattle.hx_frame.specs.Chunks.{is_over, is_bad, is_small}
use Rattle.hx_frame.specs.Endings.{EndsChunks}

-- the state at the front of a body
abbrev pub state_at_front : BodyKind → BodyState
state_at_front Nothing = Bytes 0
state_at_front (Length n) = Bytes n
state_at_front Chunked = Chunks Start
state_at_front ToEnd = All

-- what a meter in that state tells
abbrev pub progress_of : BodyState → MeterState
progress_of (Bytes left) = if left == 0 then progress.Done else progress.Going
progress_of (Chunks s) =
    if is_bad s then progress.Bad else if is_over s then progress.Done else progress.Going
progress_of All = progress.Going

-- any bytes are read, to the end of the connection
abbrev pub runs_to_end : BodyState → Bool
runs_to_end (Bytes left) = false
runs_to_end (Chunks s) = false
runs_to_end All = true

-- sizes that are read fit
abbrev pub has_small_size : BodyState → Bool
has_small_size (Bytes left) = true
has_small_size (Chunks s) = is_small s
has_small_size All = true

-- the bytes end the body
abbrev pub EndsBody : BodyState → List ℕ → Type 0
EndsBody (Bytes left) bytes = length bytes ≡ left
EndsBody (Chunks s) bytes = EndsChunks s bytes
EndsBody All bytes = ⊤

-- a piece of which n bytes were used leads from one state to another
pub record LeadsOn (old : BodyState) (piece : List ℕ) (n : ℕ) (new : BodyState) : Type 0 where
  pub within : n ≤ length piece
  pub ended : (progress_of old ≡ progress.Going → ⊥) → (n ≡ 0) × (new ≡ old)
  pub whole : progress_of new ≡ progress.Going → n ≡ length piece
  pub ends : (progress_of new ≡ progress.Bad → ⊥)
      → (more : List ℕ) → EndsBody old (take n piece ++ more) ↔ EndsBody new more
  pub bad : progress_of old ≡ progress.Going → progress_of new ≡ progress.Bad
      → (n < length piece) × ((more : List ℕ) × (0 < length more) × EndsBody old (take n piece ++ more))
      × ((more : List ℕ) → EndsBody old (take (n + 1) piece ++ more) → ⊥)
  pub same : runs_to_end new ≡ runs_to_end old
