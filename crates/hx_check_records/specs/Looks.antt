-- Private: heads at the front of bytes.
use Rattle.std.specs.Prelude.{◌⊎◌, ℕ, ◌≤◌, List, length, drop}
use Rattle.httparse.specs.Grammar as grammar
use Rattle.httparse.specs.Grammar.{ReadsResponse}
use Rattle.hx_message.specs.Forwarded.{BeginsRequest, IsInterim, IsFinal}
use Rattle.hx_message.specs.Limits.{IsShort}
use Rattle.hx_head.specs.declared.head.RequestHead.{RequestHead}
use Rattle.hx_head.specs.declared.head.AnswerHead.{AnswerHead}
use Rattle.hx_head.specs.Heads.{IsRequestAt, IsAnswerAt}
use Rattle.hx_message.specs.Limits.{head_limit}
use Rattle.hx_check_records.specs.declared.looks.AnswerLook.{AnswerLook}
use Rattle.hx_check_records.specs.declared.looks.AnswerLook.TheVariants.{Interim, Final, Neither}

-- the head g of a request stands at the front
pub record RequestStands (bytes : List ℕ) (h : RequestHead) (g : grammar.RequestHead) : Type 0 where
  pub at : IsRequestAt bytes h g
  pub most : h.length ≤ head_limit
  pub begins : BeginsRequest bytes g (drop h.length bytes)
  pub short : IsShort bytes (drop h.length bytes) (length g.fields)

-- no head of a request within the limits does
abbrev pub NoRequestStands : List ℕ → Type 0
NoRequestStands bytes =
    (g : grammar.RequestHead) (body : List ℕ) → BeginsRequest bytes g body → IsShort bytes body (length g.fields) → ⊥

-- the head g of an answer stands at the front
pub record AnswerStands (bytes : List ℕ) (h : AnswerHead) (g : grammar.ResponseHead) : Type 0 where
  pub at : IsAnswerAt bytes h g
  pub most : h.length ≤ head_limit
  pub reads : ReadsResponse bytes g (drop h.length bytes)
  pub short : IsShort bytes (drop h.length bytes) (length g.fields)

-- no interim or final head of an answer within the limits does
abbrev pub NoAnswerStands : List ℕ → Type 0
NoAnswerStands bytes =
    (g : grammar.ResponseHead) (body : List ℕ) → ReadsResponse bytes g body → IsInterim g ⊎ IsFinal g
    → IsShort bytes body (length g.fields) → ⊥

-- an interim head, a final one, or neither stands at the front
abbrev pub Looks : List ℕ → AnswerLook → Type 0
Looks bytes (Interim h) = (g : grammar.ResponseHead) × AnswerStands bytes h g × IsInterim g
Looks bytes (Final h) = (g : grammar.ResponseHead) × AnswerStands bytes h g × IsFinal g
Looks bytes Neither = NoAnswerStands bytes
