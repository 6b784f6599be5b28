-- The numbers and bytes of a transcript. A value of the program has them by its types.
use Rattle.std.specs.Prelude.{ℕ, ◌^◌, ◌<◌, List, [], ◌∷◌, Option, Some, None, All, ⊤}
use Rattle.hx_base.specs.declared.numbers.Span.{Span}
use Rattle.hx_base.specs.declared.rules.PoolRules.{PoolRules}
use Rattle.hx_base.specs.declared.totals.Totals.{Totals}
use Rattle.hx_pool.specs.declared.entries.Entry.{Entry}
use Rattle.hx_pool.specs.declared.entries.Entry.TheVariants as entry
use Rattle.hx_record.specs.declared.bytes.ClientBytes.{ClientBytes}
use Rattle.hx_record.specs.declared.bytes.ConnBytes.{ConnBytes}
use Rattle.hx_record.specs.declared.served.Carried.{Carried}
use Rattle.hx_record.specs.declared.served.Kind.{Kind}
use Rattle.hx_record.specs.declared.served.Kind.TheVariants as kind
use Rattle.hx_record.specs.declared.served.Told.{Told}
use Rattle.hx_record.specs.declared.served.Told.TheVariants as told
use Rattle.hx_script.specs.declared.transcript.ServerPart.{ServerPart}
use Rattle.hx_script.specs.declared.transcript.Transcript.{Transcript}

-- a number of the program
abbrev pub IsNumber : ℕ → Type 0
IsNumber n = n < 2 ^ 64

-- a byte
abbrev pub IsByte : ℕ → Type 0
IsByte b = b < 256

-- the numbers of a mark; other entries have no line
abbrev pub mark_numbers : Entry → List ℕ
mark_numbers (entry.Open t n id) = t.0 ∷ n.0 ∷ id.0 ∷ []
mark_numbers (entry.Park t n id place uses) = t.0 ∷ n.0 ∷ id.0 ∷ place.row ∷ place.place ∷ uses ∷ []
mark_numbers (entry.Take t n first place id uses) = t.0 ∷ n.0 ∷ id.0 ∷ place.row ∷ place.place ∷ uses ∷ []
mark_numbers (entry.Close t n id) = t.0 ∷ n.0 ∷ id.0 ∷ []
mark_numbers (entry.SetGate t draining) = t.0 ∷ []
mark_numbers (entry.Round t k old) = t.0 ∷ k ∷ old ∷ []
mark_numbers _ = []

-- the numbers of a server's rules
abbrev pub rule_numbers : PoolRules → List ℕ
rule_numbers rules = rules.low ∷ rules.delay.0 ∷ []

-- no limit is no number
abbrev pub IsLimit : Option ℕ → Type 0
IsLimit None = ⊤
IsLimit (Some n) = IsNumber n

-- the numbers of a server and of its marks fit
pub record HasServerNumbers (p : ServerPart) : Type 0 where
  pub max : IsLimit p.rules.max
  pub rules : All IsNumber (rule_numbers p.rules)
  pub marks : All (λ e. All IsNumber (mark_numbers e)) p.marks

-- the numbers of a range
abbrev pub span_numbers : Span → List ℕ
span_numbers s = s.from ∷ s.to ∷ []

-- the numbers of an exchange on a connection
abbrev pub carried_numbers : Carried → List ℕ
carried_numbers c = c.id.0 ∷ c.nth ∷ c.sent.from ∷ c.sent.to ∷ c.took.from ∷ c.took.to ∷ []

-- the numbers of what became of a request
abbrev pub kind_numbers : Kind → List ℕ
kind_numbers (kind.Passed c) = carried_numbers c
kind_numbers (kind.Cut c why) = carried_numbers c
kind_numbers (kind.Own status) = status ∷ []

-- the numbers of a record
abbrev pub told_numbers : Told → List ℕ
told_numbers (told.Served s) = s.worker.0 ∷ s.session.0 ∷ s.number ∷ s.ask.from ∷ s.ask.to ∷ s.gave.from ∷ s.gave.to ∷ kind_numbers s.kind
told_numbers (told.Left l) = l.worker.0 ∷ l.session.0 ∷ l.ask.from ∷ l.ask.to ∷ []

-- the numbers and bytes of a client's link fit
pub record HasClientNumbers (c : ClientBytes) : Type 0 where
  pub who : All IsNumber (c.worker.0 ∷ c.session.0 ∷ [])
  pub took : All IsByte c.took
  pub gave : All IsByte c.gave

-- the number and the bytes of a connection fit
pub record HasConnNumbers (c : ConnBytes) : Type 0 where
  pub id : IsNumber c.id.0
  pub sent : All IsByte c.sent
  pub took : All IsByte c.took

-- the counts of a server
abbrev pub total_numbers : Totals → List ℕ
total_numbers t = t.opened ∷ t.parked ∷ t.taken ∷ t.over ∷ t.care ∷ t.closed ∷ []

-- each number that is printed fits 64 bits, and each byte 8
pub record HasNumbers (t : Transcript) : Type 0 where
  pub servers : All HasServerNumbers t.servers
  pub records : All (λ r. All IsNumber (told_numbers r)) t.records
  pub clients : All HasClientNumbers t.clients
  pub conns : All HasConnNumbers t.conns
  pub totals : All (λ s. All IsNumber (total_numbers s)) t.totals
