-- What never happens to a whole answer within the limits on its way.
use Rattle.std.specs.Prelude.{◌≡◌, ◌↔◌, ℕ, true, List, [], ◌∷◌, ◌++◌, Ok}
use Rattle.httparse.specs.Grammar.{ResponseHead, ReadsResponse, HasNoResponse}
use Rattle.hx_message.specs.declared.MethodKind.{MethodKind}
use Rattle.hx_message.specs.declared.BodyKind.{BodyKind}
use Rattle.hx_message.specs.declared.BodyKind.TheVariants.{ToEnd}
use Rattle.hx_message.specs.Body.{answer_kind, persists}
use Rattle.hx_message.specs.Forwarded.{IsFinal, BeginsInterims}
use Rattle.hx_message.specs.Message.{IsAnswer, IsAnswerWith, Persists, RunsToEnd}
use Rattle.hx_frame.specs.Meters.{IsProperPart, NoBodyBegins}
use Rattle.hx_session_parts.specs.Answers.{BreaksAnswer}
use Rattle.hx_message.specs.Limits.{IsShortAnswer}

-- behind interim heads no front of it is broken
abbrev pub AnswersAreFound : Type 0
AnswersAreFound =
    (m : MethodKind) (taken bytes more : List ℕ) (gs : List ResponseHead) → IsAnswer m (taken ++ (bytes ++ more))
    → IsShortAnswer (taken ++ (bytes ++ more)) → BeginsInterims taken gs [] → BreaksAnswer m bytes → ⊥

-- behind interim heads all of it has a head
abbrev pub AnswersHaveHeads : Type 0
AnswersHaveHeads =
    (m : MethodKind) (taken bytes : List ℕ) (gs : List ResponseHead) → IsAnswer m (taken ++ bytes)
    → BeginsInterims taken gs [] → HasNoResponse bytes → ⊥

-- where all of it was taken, a body that tells its own end doesn't go on
abbrev pub AnswersEnd : Type 0
AnswersEnd =
    (m : MethodKind) (taken rest body : List ℕ) (gs : List ResponseHead) (g : ResponseHead) (kind : BodyKind)
    → IsAnswer m taken → BeginsInterims taken gs rest → ReadsResponse rest g body → IsFinal g
    → answer_kind m g ≡ Ok kind → (kind ≡ ToEnd → ⊥) → IsProperPart kind body → ⊥

-- no byte of it is one after which no body follows
abbrev pub AnswersNeverBreak : Type 0
AnswersNeverBreak =
    (m : MethodKind) (taken later rest body : List ℕ) (next : ℕ) (gs : List ResponseHead) (g : ResponseHead)
    (kind : BodyKind)
    → IsAnswer m (taken ++ next ∷ later) → BeginsInterims taken gs rest → ReadsResponse rest g body → IsFinal g
    → answer_kind m g ≡ Ok kind → NoBodyBegins kind (body ++ next ∷ []) → ⊥

-- a whole answer at its front that tells its own end is all of it
abbrev pub AnswersEndOnce : Type 0
AnswersEndOnce =
    (m : MethodKind) (taken rest : List ℕ) (g : ResponseHead) (kind : BodyKind) → IsAnswerWith m taken g kind
    → (kind ≡ ToEnd → ⊥) → IsAnswer m (taken ++ rest) → rest ≡ []

-- its final head and the kind of its body tell whether it runs to the end, and whether the connection persists
abbrev pub AnswersTellEnd : Type 0
AnswersTellEnd =
    (m : MethodKind) (bytes : List ℕ) (g : ResponseHead) (kind : BodyKind) → IsAnswerWith m bytes g kind
    → (RunsToEnd m bytes ↔ (kind ≡ ToEnd)) × (Persists m bytes ↔ ((persists g ≡ true) × (kind ≡ ToEnd → ⊥)))

-- the kind of its body, by the head of a front that has its final head, is that of the whole
abbrev pub AnswersKeepKind : Type 0
AnswersKeepKind =
    (m : MethodKind) (taken later rest body : List ℕ) (gs : List ResponseHead) (g h : ResponseHead)
    (kind whole : BodyKind)
    → IsAnswerWith m (taken ++ later) h whole → BeginsInterims taken gs rest → ReadsResponse rest g body → IsFinal g
    → answer_kind m g ≡ Ok kind → (g ≡ h) × (kind ≡ whole)
