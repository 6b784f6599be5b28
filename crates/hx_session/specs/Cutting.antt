-- Where the ranges of a record end whose exchange is cut off.
use Rattle.std.specs.Prelude.{◌≡◌, ℕ, ◌+◌, ◌≤◌, List, ◌++◌, length, take, Option, Some, None, ◌-◌, Bool, true, false}
use Rattle.hx_message.specs.declared.MethodKind.{MethodKind}
use Rattle.hx_message.specs.declared.BodyKind.{BodyKind}
use Rattle.hx_message.specs.declared.BodyKind.TheVariants.{ToEnd}
use Rattle.hx_message.specs.Body.{IsBody}
use Rattle.hx_session_parts.specs.OnWay.{AreInterimsOnWay}
use Rattle.hx_session.specs.Desks.{DeskNow}
use Rattle.hx_message.specs.Partial.{EndsRequest, EndsAnswer, HasShortAnswer}

-- so many of the bytes that wait end a body that tells its own end; without a number none of its fronts is one
abbrev pub EndsBodyIn : BodyKind → List ℕ → List ℕ → Option ℕ → Type 0
EndsBodyIn kind before waiting (Some n) =
    (n ≤ length waiting) × IsBody kind (before ++ take n waiting) × (kind ≡ ToEnd → ⊥)
EndsBodyIn kind before waiting None =
    (front more : List ℕ) → before ++ waiting ≡ front ++ more → IsBody kind front → kind ≡ ToEnd

-- so many of the bytes that wait end the answer within the limits that begins in those before; without a number none does
abbrev pub EndsAnswerIn : MethodKind → List ℕ → List ℕ → Option ℕ → Type 0
EndsAnswerIn m before waiting (Some n) = (n ≤ length waiting) × HasShortAnswer m (before ++ waiting) (length before + n)
EndsAnswerIn m before waiting None = (k : ℕ) → HasShortAnswer m (before ++ waiting) k → ⊥

-- the request ends behind so many of the bytes that wait, or they all are its own
pub record EndsAsk (taken waiting : List ℕ) (n : ℕ) : Type 0 where
  pub within : n ≤ length waiting
  pub ends : EndsRequest (taken ++ waiting) (length taken + n)

-- the same of an answer within the limits
pub record EndsAnswerAt (m : MethodKind) (taken waiting : List ℕ) (n : ℕ) : Type 0 where
  pub within : n ≤ length waiting
  pub ends : EndsAnswer m (taken ++ waiting) (length taken + n)

-- so many bytes of an answer were dropped up to its end, or none of the bytes ends it
pub record Drops (m : MethodKind) (taken old new : List ℕ) (found : Bool) : Type 0 where
  pub ends : found ≡ true → HasShortAnswer m (taken ++ old) (length taken + (length old - length new))
  pub none : found ≡ false → (k : ℕ) → HasShortAnswer m (taken ++ old) k → ⊥

-- interim heads stand in front of the bytes that are left
pub record DropsHeads (old new : List ℕ) : Type 0 where
  pub heads : List ℕ
  pub is : old ≡ heads ++ new
  pub on : (taken put : List ℕ) → AreInterimsOnWay taken put → (more : List ℕ) × AreInterimsOnWay (taken ++ heads) more

-- the request of which that was taken, and of which the pipe has the rest, ends at that byte of the client
pub record EndsAskAt (d : DeskNow) (taken : List ℕ) (n : ℕ) : Type 0 where
  pub used : ℕ
  pub within : used ≤ length d.from.bytes
  pub is : n ≡ d.ask_from + length taken + used
  pub ends : EndsRequest (taken ++ d.from.bytes) (length taken + used)

-- the same of an answer on its connection
pub record EndsAnswerFrom (m : MethodKind) (from : ℕ) (taken waiting : List ℕ) (n : ℕ) : Type 0 where
  pub used : ℕ
  pub within : used ≤ length waiting
  pub is : n ≡ from + length taken + used
  pub ends : EndsAnswer m (taken ++ waiting) (length taken + used)
