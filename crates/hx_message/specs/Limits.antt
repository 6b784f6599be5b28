-- Messages whose heads have at most 16,384 bytes and 100 fields.
use Rattle.std.specs.Prelude.{◌≡◌, ℕ, ◌+◌, ◌≤◌, List, [], ◌∷◌, length}
use Rattle.httparse.specs.Grammar.{RequestHead, ResponseHead, ReadsResponse}
use Rattle.hx_message.specs.Forwarded.{BeginsRequest, IsInterim, IsFinal}

-- the most bytes of a head
abbrev pub head_limit : ℕ
head_limit = 16384

-- the most fields of a head
abbrev pub field_limit : ℕ
field_limit = 100

-- the head that stands in front of the rest, with so many fields, is within the limits
pub record IsShort (bytes rest : List ℕ) (fields : ℕ) : Type 0 where
  pub size : length bytes ≤ head_limit + length rest
  pub fields_few : fields ≤ field_limit

-- a request whose head is within the limits
abbrev pub IsShortRequest : List ℕ → Type 0
IsShortRequest bytes =
    (g : RequestHead) × (rest : List ℕ) × BeginsRequest bytes g rest × IsShort bytes rest (length g.fields)

-- bytes begin with these interim heads, each within the limits, and then rest
abbrev pub BeginsShortInterims : List ℕ → List ResponseHead → List ℕ → Type 0
BeginsShortInterims bytes [] rest = bytes ≡ rest
BeginsShortInterims bytes (g ∷ gs) rest =
    (middle : List ℕ) × ReadsResponse bytes g middle × IsInterim g × IsShort bytes middle (length g.fields)
    × BeginsShortInterims middle gs rest

-- an answer whose interim heads and whose final one are within the limits
pub record IsShortAnswer (bytes : List ℕ) : Type 0 where
  pub interims : List ResponseHead
  pub rest : List ℕ
  pub begins : BeginsShortInterims bytes interims rest
  pub head : ResponseHead
  pub body : List ℕ
  pub reads : ReadsResponse rest head body
  pub final : IsFinal head
  pub short : IsShort rest body (length head.fields)
