-- What a meter has found of a body that comes in pieces, by all bytes that it used since it was new
-- (RFC 9112, section 6.3).
use Rattle.std.specs.Prelude.{◌≡◌, ◌↔◌, ℕ, ◌+◌, ◌<◌, ◌≤◌, IsTrue, List, [], ◌∷◌, ◌++◌, length, take}
use Rattle.hx_message.specs.declared.BodyKind.{BodyKind}
use Rattle.hx_message.specs.declared.BodyKind.TheVariants.{ToEnd}
use Rattle.hx_message.specs.Body.{IsBody}
use Rattle.hx_frame.specs.declared.meter.Meter.{Meter}
use Rattle.hx_frame.specs.declared.progress.MeterState.{MeterState}
use Rattle.hx_frame.specs.declared.progress.MeterState.TheVariants.{Going, Done, Bad}
use Rattle.hx_frame.specs.declared.state.BodyState.{BodyState}
use Rattle.hx_frame.specs.States.{progress_of, runs_to_end, EndsBody}

-- some body begins with the bytes and has more
abbrev pub IsProperPart : BodyKind → List ℕ → Type 0
IsProperPart kind bytes = (more : List ℕ) × (0 < length more) × IsBody kind (bytes ++ more)

-- no body begins with the bytes
abbrev pub NoBodyBegins : BodyKind → List ℕ → Type 0
NoBodyBegins kind bytes = (more : List ℕ) → IsBody kind (bytes ++ more) → ⊥

-- the state tells what the used bytes are; one that is Bad stopped before a byte after which no body follows
abbrev pub MeterFits : BodyKind → List ℕ → MeterState → Type 0
MeterFits kind used Going = IsProperPart kind used
MeterFits kind used Done = IsBody kind used × (kind ≡ ToEnd → ⊥)
MeterFits kind used Bad = IsProperPart kind used × ((b : ℕ) × NoBodyBegins kind (used ++ b ∷ []))

-- how a feed of a piece to a meter that goes on ends: all was used, the body ended in it, or a byte made it bad
abbrev pub FeedEnds : BodyKind → List ℕ → List ℕ → ℕ → MeterState → Type 0
FeedEnds kind before piece n Going = n ≡ length piece
FeedEnds kind before piece n Done = n ≤ length piece
FeedEnds kind before piece n Bad = (n < length piece) × NoBodyBegins kind (before ++ take (n + 1) piece)

-- what a feed says of the bytes used before it and of the piece; at its end a meter uses nothing and keeps its state
pub record FeedSays (kind : BodyKind) (old now : MeterState) (before piece : List ℕ) (n : ℕ) : Type 0 where
  pub fits : MeterFits kind (before ++ take n piece) now
  pub within : n ≤ length piece
  pub going : old ≡ Going → FeedEnds kind before piece n now
  pub ended : (old ≡ Going → ⊥) → (n ≡ 0) × (now ≡ old)

-- the state of a meter
abbrev pub state_of : Meter → MeterState
state_of m = progress_of m.state

-- a body of that kind was read so far, and is read so far by these bytes
pub record HasReached (kind : BodyKind) (used : List ℕ) (s : BodyState) : Type 0 where
  pub fits : MeterFits kind used (progress_of s)
  -- the bytes that end the body are those that are waited for
  pub waits : (progress_of s ≡ Bad → ⊥) → (more : List ℕ) → IsBody kind (used ++ more) ↔ EndsBody s more
  pub to_end : IsTrue (runs_to_end s) ↔ (kind ≡ ToEnd)

-- the meter was made for that kind, and used these bytes since
abbrev pub HasUsed : BodyKind → List ℕ → Meter → Type 0
HasUsed kind used m = HasReached kind used m.state
