-- Answers at the front of a server's pipe, and their heads as they go out (RFC 9112, sections 2 to 6; RFC 9110,
-- section 15).
use Rattle.std.specs.Prelude.{◌≡◌, ◌⊎◌, ℕ, ◌+◌, ◌<◌, ◌≤◌, Bool, List, ◌++◌, length, drop, Ok, Err}
use Rattle.httparse.specs.Grammar.{ResponseHead, ReadsResponse, HasNoResponse, MayBecomeResponse, status_code}
use Rattle.hx_message.specs.declared.MethodKind.{MethodKind}
use Rattle.hx_message.specs.declared.FrameFault.{FrameFault}
use Rattle.hx_message.specs.Body.{answer_kind, persists}
use Rattle.hx_message.specs.Forwarded.{IsInterim, IsFinal, forwarded_answer}
use Rattle.hx_head.specs.declared.head.AnswerHead.{AnswerHead}
use Rattle.hx_head.specs.declared.refusal.Refusal.{Refusal}
use Rattle.hx_head.specs.Causes.{RefusesAnswer}
use Rattle.hx_head.specs.Heads.{IsAnswerAt}
use Rattle.hx_message.specs.Limits.{head_limit, IsShort}
use Rattle.hx_link.specs.Pipes.{PipeNow, pipe}
use Rattle.hx_session_parts.specs.declared.answers.Answered.{Answered}
use Rattle.hx_session_parts.specs.declared.answers.AnswerLook.{AnswerLook}
use Rattle.hx_session_parts.specs.declared.answers.AnswerLook.TheVariants.{Interim, Final, More, Broken}

-- the head has at most 16,384 bytes
abbrev pub IsShortHead : AnswerHead → Type 0
IsShortHead h = h.length ≤ head_limit

-- a head within the limits is at the front of the bytes
abbrev pub HasAnswerHead : List ℕ → ResponseHead → Type 0
HasAnswerHead bytes g = (rest : List ℕ) × ReadsResponse bytes g rest × IsShort bytes rest (length g.fields)

-- the ranges name an interim head of at most 16,384 bytes
abbrev pub IsInterimAt : List ℕ → AnswerHead → Type 0
IsInterimAt bytes h = (g : ResponseHead) × IsAnswerAt bytes h g × IsShortHead h × IsInterim g

-- the ranges name a final head g of at most 16,384 bytes, whose framing has no fault
pub record IsAnswerTo (method : MethodKind) (bytes : List ℕ) (a : Answered) (g : ResponseHead) : Type 0 where
  pub at : IsAnswerAt bytes a.head g
  pub short : IsShortHead a.head
  pub final : IsFinal g
  pub framed : answer_kind method g ≡ Ok a.kind
  pub lasts : a.persists ≡ persists g

-- why an answer is broken
abbrev pub BreaksAnswer : MethodKind → List ℕ → Type 0
BreaksAnswer method bytes =
    ((why : Refusal) × RefusesAnswer why bytes)
    ⊎ ((g : ResponseHead) × HasAnswerHead bytes g
    × ((status_code g ≡ 101) ⊎ (IsFinal g × ((fault : FrameFault) × (answer_kind method g ≡ Err fault)))))

-- each answer has its cause
abbrev pub AnswerLooks : MethodKind → List ℕ → AnswerLook → Type 0
AnswerLooks method bytes (Interim h) = IsInterimAt bytes h
AnswerLooks method bytes (Final a) = (g : ResponseHead) × IsAnswerTo method bytes a g
AnswerLooks method bytes More = (length bytes < head_limit) × HasNoResponse bytes × MayBecomeResponse bytes
AnswerLooks method bytes Broken = BreaksAnswer method bytes

-- the head went from one pipe to the other, spelled anew
abbrev pub SpellsAnswer : PipeNow → PipeNow → PipeNow → PipeNow → AnswerHead → Bool → Type 0
SpellsAnswer from from' to to' h closing =
    (from' ≡ pipe (drop h.length from.bytes) from.capacity)
    × ((g : ResponseHead) → IsAnswerAt from.bytes h g
    → to' ≡ pipe (to.bytes ++ forwarded_answer g closing) to.capacity)

-- the text doesn't fit
abbrev pub AnswerHasNoRoom : List ℕ → PipeNow → AnswerHead → Bool → Type 0
AnswerHasNoRoom bytes to h closing =
    (g : ResponseHead) → IsAnswerAt bytes h g
    → to.capacity < length to.bytes + length (forwarded_answer g closing)

-- nothing changed, since the text doesn't fit
abbrev pub LeavesAnswer : PipeNow → PipeNow → PipeNow → PipeNow → AnswerHead → Bool → Type 0
LeavesAnswer from from' to to' h closing = (from' ≡ from) × (to' ≡ to) × AnswerHasNoRoom from.bytes to h closing
