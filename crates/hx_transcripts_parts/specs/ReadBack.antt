-- What reading back means: a reader reads each value from its one text, and reads no other text.
use Rattle.std.specs.Prelude.{◌≡◌, ℕ, ◌<◌, ◌≤◌, true, List, ◌∷◌, ◌++◌, All, length, Ok, Result}
use Rattle.std.specs.List.{list_all}
use Rattle.hx_base.specs.Names.{IsName}
use Rattle.hx_base.specs.declared.numbers.ThreadNo.{ThreadNo}
use Rattle.hx_base.specs.declared.numbers.SessionNo.{SessionNo}
use Rattle.hx_base.specs.declared.numbers.ServerNo.{ServerNo}
use Rattle.hx_base.specs.declared.numbers.ConnId.{ConnId}
use Rattle.hx_base.specs.declared.numbers.PlaceNo.{PlaceNo}
use Rattle.hx_base.specs.declared.numbers.Span.{Span}
use Rattle.hx_script.specs.declared.transcript.ServerPart.{ServerPart}
use Rattle.hx_script.specs.PrintedForm.{IsToldServer, OtherNames}
use Rattle.hx_transcripts_parts.specs.declared.fault.Rule.{Rule}
use Rattle.hx_transcripts_parts.specs.Lexical.{Rest, is_inside, rest_text}
use Rattle.hx_transcripts_parts.specs.Numbers.{most_8, most_16, most_32, most_64}

-- of one word: each value that fits has a text, without a blank, from which it is read, and nothing else is read
pub record ReadsWord {X : Type 0} (read : List ℕ → Result X Rule) (text : X → List ℕ) (Fits : X → Type 0) : Type 0 where
  pub sound : (w : List ℕ) (x : X) → read w ≡ Ok x → Fits x × (w ≡ text x)
  pub whole : (x : X) → Fits x → read (text x) ≡ Ok x
  pub inside : (x : X) → Fits x → list_all is_inside (text x) ≡ true

-- of the next words of a line, with a blank before the first
pub record ReadsNext {X : Type 0} (read : Rest → Result (X × Rest) Rule) (text : X → List ℕ) (Fits : X → Type 0) : Type 0 where
  pub sound : (ws : Rest) (y : X × Rest) → read ws ≡ Ok y → Fits y.0 × (rest_text ws ≡ 32 ∷ text y.0 ++ rest_text y.1)
  pub whole : (x : X) (rest : Rest) → Fits x → (ws : Rest) × (rest_text ws ≡ 32 ∷ text x ++ rest_text rest) × (read ws ≡ Ok (x, rest))

-- of all words that are left of a line
pub record ReadsLine {X : Type 0} (read : Rest → Result X Rule) (text : X → List ℕ) (Fits : X → Type 0) : Type 0 where
  pub sound : (ws : Rest) (x : X) → read ws ≡ Ok x → Fits x × (rest_text ws ≡ text x)
  pub whole : (x : X) → Fits x → (ws : Rest) × (rest_text ws ≡ text x) × (read ws ≡ Ok x)

-- numbers as large as their types hold
abbrev pub FitsWho : ThreadNo × SessionNo → Type 0
FitsWho x = (x.0.0 ≤ most_8) × (x.1.0 ≤ most_32)

abbrev pub FitsPlace : PlaceNo → Type 0
FitsPlace p = (p.row ≤ most_8) × (p.place ≤ most_8)

abbrev pub FitsSpan : Span → Type 0
FitsSpan s = (s.from ≤ most_64) × (s.to ≤ most_64)

-- names of a backend and a server
abbrev pub FitsNames : List ℕ × List ℕ → Type 0
FitsNames x = IsName x.0 × IsName x.1

-- a connection of a server that is there
abbrev pub FitsConn : List ServerPart → ServerNo × ConnId → Type 0
FitsConn servers x = (x.0.0 < length servers) × (x.0.0 ≤ most_16) × (x.1.0 ≤ most_64)

-- the servers have names, and no two of them one
pub record AreNamed (servers : List ServerPart) : Type 0 where
  pub told : All IsToldServer servers
  pub others : OtherNames servers
