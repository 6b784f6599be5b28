-- Messages on their way: what was taken of one link, and what was put into the pipe to the other (RFC 9112, sections
-- 2.1 and 6; RFC 9110, section 15.2).
use Rattle.std.specs.Prelude.{◌≡◌, ℕ, Bool, false, List, [], ◌++◌, length, take, Ok}
use Rattle.std.specs.List.{flat_map}
use Rattle.httparse.specs.Grammar.{RequestHead, ResponseHead, ReadsResponse}
use Rattle.hx_message.specs.declared.MethodKind.{MethodKind}
use Rattle.hx_message.specs.declared.MethodKind.TheVariants.{Connect}
use Rattle.hx_message.specs.declared.BodyKind.{BodyKind}
use Rattle.hx_message.specs.declared.BodyKind.TheVariants.{ToEnd}
use Rattle.hx_message.specs.Body.{kind_of_method, request_kind, answer_kind}
use Rattle.hx_message.specs.Forwarded.{BeginsRequest, IsInterim, IsFinal, ForwardsRequest, ForwardsAnswer, forwarded_request, forwarded_answer}
use Rattle.hx_message.specs.Message.{IsRequest, IsAnswerWith}
use Rattle.hx_head.specs.declared.head.AnswerHead.{AnswerHead}
use Rattle.hx_head.specs.Heads.{IsAnswerAt}
use Rattle.hx_frame.specs.declared.meter.Meter.{Meter}
use Rattle.hx_frame.specs.declared.progress.MeterState.TheVariants.{Done}
use Rattle.hx_frame.specs.Meters.{HasUsed, state_of}
use Rattle.hx_session_parts.specs.declared.asks.Asked.{Asked}
use Rattle.hx_session_parts.specs.declared.answers.Answered.{Answered}
use Rattle.hx_session_parts.specs.Asks.{IsAskOf}
use Rattle.hx_session_parts.specs.Answers.{IsShortHead, IsAnswerTo}
use Rattle.hx_message.specs.Limits.{IsShort, IsShortRequest, BeginsShortInterims, IsShortAnswer}

-- the head g, within the limits, was spelled anew, and behind it the bytes of the body that the meter used
pub record IsAskOnWay (taken put : List ℕ) (g : RequestHead) (kind : BodyKind) (meter : Meter) : Type 0 where
  pub body : List ℕ
  pub begins : BeginsRequest taken g body
  pub short : IsShort taken body (length g.fields)
  pub put_is : put ≡ forwarded_request g ++ body
  pub framed : request_kind g ≡ Ok kind
  pub method : kind_of_method g.method ≡ Connect → ⊥
  pub used : HasUsed kind body meter

-- a meter went on by these bytes
abbrev pub GoesOn : BodyKind → List ℕ → Meter → Meter → Type 0
GoesOn kind moved old new = (before : List ℕ) → HasUsed kind before old → HasUsed kind (before ++ moved) new

-- a request begins with its head
abbrev pub AskBegins : Type 0
AskBegins =
    (bytes : List ℕ) (a : Asked) (g : RequestHead) (meter : Meter) → IsAskOf bytes a g → HasUsed a.kind [] meter
    → IsAskOnWay (take a.head.length bytes) (forwarded_request g) g a.kind meter

-- it goes on byte for byte
abbrev pub AskGoesOn : Type 0
AskGoesOn =
    (taken put moved : List ℕ) (g : RequestHead) (kind : BodyKind) (old new : Meter)
    → IsAskOnWay taken put g kind old → GoesOn kind moved old new
    → IsAskOnWay (taken ++ moved) (put ++ moved) g kind new

-- it is whole where its meter is done, and went out whole
abbrev pub AskEnds : Type 0
AskEnds =
    (taken put : List ℕ) (g : RequestHead) (kind : BodyKind) (meter : Meter)
    → IsAskOnWay taken put g kind meter → state_of meter ≡ Done
    → IsRequest taken (kind_of_method g.method) × IsShortRequest taken × ForwardsRequest taken put

-- only interim heads within the limits were taken, and each was spelled anew
abbrev pub AreInterimsOnWay : List ℕ → List ℕ → Type 0
AreInterimsOnWay taken put =
    (gs : List ResponseHead) × BeginsShortInterims taken gs [] × (put ≡ flat_map (λ g. forwarded_answer g false) gs)

-- behind the interim heads the final head g, within the limits too, was spelled anew, and behind it the bytes of the
-- body that the meter used
pub record IsAnswerOnWay (method : MethodKind) (closing : Bool) (taken put : List ℕ) (g : ResponseHead)
    (kind : BodyKind) (meter : Meter) : Type 0 where
  pub interims : List ResponseHead
  pub rest : List ℕ
  pub begins : BeginsShortInterims taken interims rest
  pub body : List ℕ
  pub reads : ReadsResponse rest g body
  pub final : IsFinal g
  pub short : IsShort rest body (length g.fields)
  pub put_is : put ≡ flat_map (λ k. forwarded_answer k false) interims ++ (forwarded_answer g closing ++ body)
  pub framed : answer_kind method g ≡ Ok kind
  pub used : HasUsed kind body meter

-- one more interim head follows
abbrev pub InterimsGoOn : Type 0
InterimsGoOn =
    (taken put bytes : List ℕ) (h : AnswerHead) (g : ResponseHead) → AreInterimsOnWay taken put → IsAnswerAt bytes h g
    → IsShortHead h → IsInterim g → AreInterimsOnWay (taken ++ take h.length bytes) (put ++ forwarded_answer g false)

-- behind interim heads an answer begins with its final head
abbrev pub AnswerBegins : Type 0
AnswerBegins =
    (method : MethodKind) (closing : Bool) (taken put bytes : List ℕ) (a : Answered) (g : ResponseHead) (meter : Meter)
    → AreInterimsOnWay taken put → IsAnswerTo method bytes a g → HasUsed a.kind [] meter
    → IsAnswerOnWay method closing (taken ++ take a.head.length bytes) (put ++ forwarded_answer g closing)
    g a.kind meter

-- it goes on byte for byte
abbrev pub AnswerGoesOn : Type 0
AnswerGoesOn =
    (method : MethodKind) (closing : Bool) (taken put moved : List ℕ) (g : ResponseHead) (kind : BodyKind)
    (old new : Meter) → IsAnswerOnWay method closing taken put g kind old → GoesOn kind moved old new
    → IsAnswerOnWay method closing (taken ++ moved) (put ++ moved) g kind new

-- it is whole where its meter is done, and went out whole
abbrev pub AnswerEnds : Type 0
AnswerEnds =
    (method : MethodKind) (closing : Bool) (taken put : List ℕ) (g : ResponseHead) (kind : BodyKind) (meter : Meter)
    → IsAnswerOnWay method closing taken put g kind meter → state_of meter ≡ Done
    → IsAnswerWith method taken g kind × (kind ≡ ToEnd → ⊥) × IsShortAnswer taken × ForwardsAnswer taken closing put

-- where its body runs to the end, which the link tells, it is whole at each byte
abbrev pub AnswerRunsToEnd : Type 0
AnswerRunsToEnd =
    (method : MethodKind) (closing : Bool) (taken put : List ℕ) (g : ResponseHead) (meter : Meter)
    → IsAnswerOnWay method closing taken put g ToEnd meter
    → IsAnswerWith method taken g ToEnd × IsShortAnswer taken × ForwardsAnswer taken closing put
