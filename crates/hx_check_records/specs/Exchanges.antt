-- Messages that went out spelled anew, whole or in part, and own answers (RFC 9110, section 7.6; RFC 9112, section 6). The heads of
-- messages are within the limits of the calls that read them: 16,384 bytes and 100 fields.
use Rattle.std.specs.Prelude.{◌≡◌, ◌⊎◌, ℕ, Bool, false, List, [], ◌++◌, length, Ok}
use Rattle.std.specs.List.{flat_map}
use Rattle.httparse.specs.Grammar.{RequestHead, ResponseHead, ReadsResponse}
use Rattle.hx_message.specs.declared.MethodKind.{MethodKind}
use Rattle.hx_message.specs.declared.MethodKind.TheVariants.{Connect}
use Rattle.hx_message.specs.declared.BodyKind.{BodyKind}
use Rattle.hx_message.specs.Body.{kind_of_method, request_kind, answer_kind, IsBody}
use Rattle.hx_message.specs.Forwarded.{BeginsRequest, IsFinal, forwarded_request, forwarded_answer}
use Rattle.hx_message.specs.Limits.{IsShort, BeginsShortInterims}
use Rattle.hx_message.specs.OwnAnswer.{IsOwnAnswer}
use Rattle.hx_message.specs.Partial.{IsPrefix}

-- ask is a whole request of that method, and sent is what goes out for it
pub record GoesOut (method : MethodKind) (ask sent : List ℕ) : Type 0 where
  pub head : RequestHead
  pub body : List ℕ
  pub begins : BeginsRequest ask head body
  pub short : IsShort ask body (length head.fields)
  pub is_method : kind_of_method head.method ≡ method
  pub not_connect : method ≡ Connect → ⊥
  pub kind : BodyKind
  pub framed : request_kind head ≡ Ok kind
  pub whole : IsBody kind body
  pub sent_is : sent ≡ forwarded_request head ++ body

-- what goes out for interim heads
abbrev pub interim_texts : List ResponseHead → List ℕ
interim_texts heads = flat_map (λ g. forwarded_answer g false) heads

-- took is a whole answer to the method, and gave is what goes out for it
pub record ComesBack (method : MethodKind) (closing : Bool) (took gave : List ℕ) : Type 0 where
  pub interims : List ResponseHead
  pub rest : List ℕ
  pub begins : BeginsShortInterims took interims rest
  pub head : ResponseHead
  pub body : List ℕ
  pub reads : ReadsResponse rest head body
  pub final : IsFinal head
  pub short : IsShort rest body (length head.fields)
  pub kind : BodyKind
  pub framed : answer_kind method head ≡ Ok kind
  pub whole : IsBody kind body
  pub gave_is : gave ≡ interim_texts interims ++ (forwarded_answer head closing ++ body)

-- a pass: a whole request went out, and a whole answer to its method came back
abbrev pub PassIs : Bool → List ℕ → List ℕ → List ℕ → List ℕ → Type 0
PassIs closing ask sent took gave = (method : MethodKind) × GoesOut method ask sent × ComesBack method closing took gave

-- sent is a beginning of what goes out for ask, which begins with a head; or it is nothing
abbrev pub BeginsOut : List ℕ → List ℕ → Type 0
BeginsOut ask sent =
    (sent ≡ [])
    ⊎ ((g : RequestHead) × (body : List ℕ) × BeginsRequest ask g body × IsShort ask body (length g.fields)
    × IsPrefix sent (forwarded_request g ++ body))

-- behind these texts a final head and what follows it go out so
abbrev pub EndsBack : List ℕ → Bool → List ℕ → List ℕ → Type 0
EndsBack rest closing before gave =
    (g : ResponseHead) × (body : List ℕ) × ReadsResponse rest g body × IsFinal g × IsShort rest body (length g.fields)
    × IsPrefix gave (before ++ (forwarded_answer g closing ++ body))

-- gave is a beginning of what goes out for took: of the texts of interim heads at its front, or of these, that of a final head
-- behind them and what follows it
abbrev pub BeginsBack : Bool → List ℕ → List ℕ → Type 0
BeginsBack closing took gave =
    (heads : List ResponseHead) × (rest : List ℕ) × BeginsShortInterims took heads rest
    × (IsPrefix gave (interim_texts heads) ⊎ EndsBack rest closing (interim_texts heads) gave)

-- a cut: beginnings of such texts
abbrev pub CutIs : Bool → List ℕ → List ℕ → List ℕ → List ℕ → Type 0
CutIs closing ask sent took gave = BeginsOut ask sent × BeginsBack closing took gave

-- an own answer: a beginning of the text of its status
abbrev pub OwnIs : ℕ → List ℕ → Type 0
OwnIs status gave = (text : List ℕ) × IsOwnAnswer status text × IsPrefix gave text
