-- Whole requests and whole answers (RFC 9112, sections 2.1 and 6; RFC 9110, section 15.2).
use Rattle.std.specs.Prelude.{◌≡◌, ℕ, true, List, Ok}
use Rattle.httparse.specs.Grammar.{RequestHead, ResponseHead, ReadsResponse}
use Rattle.hx_message.specs.declared.MethodKind.{MethodKind}
use Rattle.hx_message.specs.declared.MethodKind.TheVariants.{Connect}
use Rattle.hx_message.specs.declared.BodyKind.{BodyKind}
use Rattle.hx_message.specs.declared.BodyKind.TheVariants.{ToEnd}
use Rattle.hx_message.specs.Forwarded.{BeginsRequest, IsFinal, BeginsInterims}
use Rattle.hx_message.specs.Body.{kind_of_method, request_kind, answer_kind, persists, wants_close, IsBody}

-- bytes are the head g and a body, a whole request
pub record IsRequestWith (bytes : List ℕ) (g : RequestHead) (body : List ℕ) : Type 0 where
  pub begins : BeginsRequest bytes g body
  pub method : kind_of_method g.method ≡ Connect → ⊥
  pub kind : BodyKind
  pub framed : request_kind g ≡ Ok kind
  pub whole : IsBody kind body

-- bytes are a whole request of that method
abbrev pub IsRequest : List ℕ → MethodKind → Type 0
IsRequest bytes m =
    (g : RequestHead) × (body : List ℕ) × IsRequestWith bytes g body × (kind_of_method g.method ≡ m)

-- bytes are a whole answer to m: interim heads, the final head g, and a body of that kind
pub record IsAnswerWith (m : MethodKind) (bytes : List ℕ) (g : ResponseHead) (kind : BodyKind) : Type 0 where
  pub interims : List ResponseHead
  pub rest : List ℕ
  pub begins : BeginsInterims bytes interims rest
  pub body : List ℕ
  pub reads : ReadsResponse rest g body
  pub final : IsFinal g
  pub framed : answer_kind m g ≡ Ok kind
  pub whole : IsBody kind body

-- bytes are a whole answer to m, but for the end of a link where the body runs to it
abbrev pub IsAnswer : MethodKind → List ℕ → Type 0
IsAnswer m bytes = (g : ResponseHead) × (kind : BodyKind) × IsAnswerWith m bytes g kind

-- the same, where a body that runs to the end is followed by the end of its link
abbrev pub IsWholeAnswer : MethodKind → List ℕ → Type 0 → Type 0
IsWholeAnswer m bytes Ended =
    (g : ResponseHead) × (kind : BodyKind) × IsAnswerWith m bytes g kind × (kind ≡ ToEnd → Ended)

-- the connection may be used again after this answer
abbrev pub Persists : MethodKind → List ℕ → Type 0
Persists m bytes =
    (g : ResponseHead) × (kind : BodyKind) × IsAnswerWith m bytes g kind × (persists g ≡ true) × (kind ≡ ToEnd → ⊥)

-- the request's head wants the connection closed
abbrev pub WantsClose : List ℕ → Type 0
WantsClose bytes = (g : RequestHead) × (rest : List ℕ) × BeginsRequest bytes g rest × (wants_close g ≡ true)

-- the answer's body runs to the end
abbrev pub RunsToEnd : MethodKind → List ℕ → Type 0
RunsToEnd m bytes = (g : ResponseHead) × IsAnswerWith m bytes g ToEnd
