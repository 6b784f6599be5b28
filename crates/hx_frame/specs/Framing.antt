-- Private: what is found of the fields that frame a message, in one pass over a head (RFC 9112, section 6.3).
use Rattle.std.specs.Prelude.{◌≡◌, ℕ, List, [], ◌∷◌, length, codes}
use Rattle.hx_base.specs.declared.numbers.Span.{Span}
use Rattle.hx_base.specs.Spans.{bytes_in}
use Rattle.hx_message.specs.Fields.{NameAndValue, values_of}
use Rattle.hx_head.specs.Heads.{IsIn}
use Rattle.hx_frame.specs.declared.fields.Found.{Found}
use Rattle.hx_frame.specs.declared.fields.Found.TheVariants.{Absent, Once, Several}
use Rattle.hx_frame.specs.declared.fields.FramingFields.{FramingFields}

-- the values of the fields of one name
abbrev pub IsFound : List ℕ → List (List ℕ) → Found → Type 0
IsFound bytes values Absent = values ≡ []
IsFound bytes values (Once value) = IsIn (length bytes) value × (values ≡ bytes_in bytes value ∷ [])
IsFound bytes values Several =
    (first : List ℕ) × (second : List ℕ) × (more : List (List ℕ)) × (values ≡ first ∷ second ∷ more)

-- what is found with one more value
abbrev pub AddsFound : Found → Span → Found → Type 0
AddsFound Absent value found = found ≡ Once value
AddsFound (Once first) value found = found ≡ Several
AddsFound Several value found = found ≡ Several

-- the same for each of the three names
pub record AreFound (bytes : List ℕ) (fields : List NameAndValue) (found : FramingFields) : Type 0 where
  pub coding : IsFound bytes (values_of (codes "Transfer-Encoding") fields) found.coding
  pub length : IsFound bytes (values_of (codes "Content-Length") fields) found.length
  pub host : IsFound bytes (values_of (codes "Host") fields) found.host
