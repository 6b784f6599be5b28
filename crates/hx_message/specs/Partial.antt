-- Messages that came in part, and where a record of them ends.
use Rattle.std.specs.Prelude.{◌≡◌, ◌⊎◌, ℕ, ◌≤◌, Bool, false, List, ◌++◌, length, take}
use Rattle.std.specs.List.{flat_map}
use Rattle.httparse.specs.Grammar.{ResponseHead, ReadsResponse}
use Rattle.hx_message.specs.declared.MethodKind.{MethodKind}
use Rattle.hx_message.specs.declared.BodyKind.{BodyKind}
use Rattle.hx_message.specs.declared.BodyKind.TheVariants.{ToEnd}
use Rattle.hx_message.specs.Forwarded.{ForwardsRequest, IsFinal, BeginsInterims, forwarded_answer}
use Rattle.hx_message.specs.Limits.{IsShortAnswer}
use Rattle.hx_message.specs.Message.{IsRequest, IsAnswerWith}

-- front stands at the front of the bytes
abbrev pub IsPrefix : List ℕ → List ℕ → Type 0
IsPrefix front bytes = (rest : List ℕ) × (bytes ≡ front ++ rest)

-- a whole request of n bytes stands at the front
abbrev pub HasWholeRequest : List ℕ → ℕ → Type 0
HasWholeRequest bytes n = (n ≤ length bytes) × ((m : MethodKind) × IsRequest (take n bytes) m)

-- n is the end of the request that begins there, else of the bytes
abbrev pub EndsRequest : List ℕ → ℕ → Type 0
EndsRequest bytes n =
    HasWholeRequest bytes n ⊎ (((k : ℕ) → HasWholeRequest bytes k → ⊥) × (n ≡ length bytes))

-- a whole answer of n bytes to m stands at the front, which tells its own end
abbrev pub HasWholeAnswer : MethodKind → List ℕ → ℕ → Type 0
HasWholeAnswer m bytes n =
    (n ≤ length bytes)
    × ((g : ResponseHead) × (kind : BodyKind) × IsAnswerWith m (take n bytes) g kind × (kind ≡ ToEnd → ⊥))

-- the same, and each of its heads is within the limits
abbrev pub HasShortAnswer : MethodKind → List ℕ → ℕ → Type 0
HasShortAnswer m bytes n = HasWholeAnswer m bytes n × IsShortAnswer (take n bytes)

-- n is the end of the answer within the limits that begins there, else of the bytes; one that runs to the end has all bytes
abbrev pub EndsAnswer : MethodKind → List ℕ → ℕ → Type 0
EndsAnswer m bytes n =
    HasShortAnswer m bytes n ⊎ (((k : ℕ) → HasShortAnswer m bytes k → ⊥) × (n ≡ length bytes))

-- a final head stands behind the interim heads
abbrev pub HasFinalHead : List ℕ → Type 0
HasFinalHead bytes =
    (gs : List ResponseHead) × (rest : List ℕ) × BeginsInterims bytes gs rest
    × (g : ResponseHead) × (body : List ℕ) × ReadsResponse rest g body × IsFinal g

-- what goes out for the request's bytes begins so
abbrev pub BeginsForwardedRequest : List ℕ → List ℕ → Type 0
BeginsForwardedRequest bytes front = (text : List ℕ) × ForwardsRequest bytes text × IsPrefix front text

-- a final head and what follows it go out so behind that text
abbrev pub EndsForwarded : List ℕ → Bool → List ℕ → List ℕ → Type 0
EndsForwarded rest closing before front =
    (g : ResponseHead) × (body : List ℕ) × ReadsResponse rest g body × IsFinal g
    × IsPrefix front (before ++ (forwarded_answer g closing ++ body))

-- what goes out for the answer's bytes begins so: it is a beginning of the texts of interim heads that stand at the front,
-- or of these texts, that of a final head behind them, and what follows it
abbrev pub BeginsForwardedAnswer : List ℕ → Bool → List ℕ → Type 0
BeginsForwardedAnswer bytes closing front =
    (gs : List ResponseHead) × (rest : List ℕ) × BeginsInterims bytes gs rest
    × (IsPrefix front (flat_map (λ g. forwarded_answer g false) gs)
    ⊎ EndsForwarded rest closing (flat_map (λ g. forwarded_answer g false) gs) front)
