-- Transcripts that break no rule, and the first rule that is broken with its first line. Each rule is tried over the whole
-- transcript before the next.
use Rattle.std.specs.Prelude.{◌≡◌, ◌⊎◌, ℕ, ◌+◌, ◌*◌, List, Some, slice_get, take}
use Rattle.hx_pool.specs.declared.entries.Entry.{Entry}
use Rattle.hx_script.specs.declared.transcript.ServerPart.{ServerPart}
use Rattle.hx_script.specs.declared.transcript.Transcript.{Transcript}
use Rattle.hx_check_parts.specs.Each.{HoldsBelow, HoldsOfEach, FailsFirst}
use Rattle.hx_check_parts.specs.Tiling.{SentHolds}
use Rattle.hx_check.specs.Lines.{server_lines, records_at, clients_at, conns_at, totals_at}
use Rattle.hx_check.specs.Rules.{MarksHold, LegalMark, ModeMark, LimitMark, RecordAt, LeftAt, ClientAt, ConnAt, TotalsAt}

-- no rule is broken
pub record IsUnbroken (t : Transcript) : Type 0 where
  pub legal : MarksHold LegalMark t.servers
  pub mode : MarksHold ModeMark t.servers
  pub limit : MarksHold LimitMark t.servers
  pub records : HoldsOfEach (RecordAt t) t.records
  pub lefts : HoldsOfEach (LeftAt t) t.records
  pub clients : HoldsOfEach (ClientAt t) t.clients
  pub conns : HoldsOfEach (ConnAt t) t.conns
  pub totals : HoldsOfEach (TotalsAt t) t.totals

-- the first mark that breaks a rule stands on that line
pub record MarkBreaks (P : ServerPart → ℕ → Entry → Type 0) (servers : List ServerPart) (line : ℕ) : Type 0 where
  pub server : ℕ
  pub part : ServerPart
  pub there : slice_get servers server ≡ Some part
  pub mark : ℕ
  pub fails : FailsFirst (P part) part.marks mark
  pub before : HoldsBelow (λ i (p : ServerPart). HoldsOfEach (P p) p.marks) servers server
  pub at_line : line ≡ server_lines (take server servers) + 3 + mark

-- the first item that breaks a rule stands on that line, where the first item stands on the first line, and each on one
abbrev pub ItemBreaks : {A : Type 0} → (ℕ → A → Type 0) → List A → ℕ → ℕ → Type 0
ItemBreaks P xs first line = (k : ℕ) × FailsFirst P xs k × (line ≡ first + k)

-- the same, where each stands on two lines, and the first of them tells
abbrev pub PairBreaks : {A : Type 0} → (ℕ → A → Type 0) → List A → ℕ → ℕ → Type 0
PairBreaks P xs first line = (k : ℕ) × FailsFirst P xs k × (line ≡ first + 2 * k)

-- the first connection that breaks the rule does so at the line of what was sent, or else at that of what was taken
pub record ConnBreaks (t : Transcript) (line : ℕ) : Type 0 where
  pub at : ℕ
  pub fails : FailsFirst (ConnAt t) t.conns at
  pub by_line :
      (¬ SentHolds t.records fails.item × (line ≡ conns_at t + 2 * at))
      ⊎ (SentHolds t.records fails.item × (line ≡ conns_at t + 2 * at + 1))

-- the first three rules hold
pub record MarksAreFine (t : Transcript) : Type 0 where
  pub legal : MarksHold LegalMark t.servers
  pub mode : MarksHold ModeMark t.servers
  pub limit : MarksHold LimitMark t.servers

-- the rule of that number is the first that is broken, and that line the first that breaks it
pub data BreaksAt (t : Transcript) (line : ℕ) : ℕ → Type 0 where
  legal : MarkBreaks LegalMark t.servers line → BreaksAt t line 1
  mode : MarksHold LegalMark t.servers → MarkBreaks ModeMark t.servers line → BreaksAt t line 2
  limit :
      MarksHold LegalMark t.servers → MarksHold ModeMark t.servers → MarkBreaks LimitMark t.servers line
      → BreaksAt t line 3
  records : MarksAreFine t → ItemBreaks (RecordAt t) t.records (records_at t) line → BreaksAt t line 4
  -- the fifth is tried on left lines, then on clients, then on connections
  lefts :
      MarksAreFine t → HoldsOfEach (RecordAt t) t.records → ItemBreaks (LeftAt t) t.records (records_at t) line
      → BreaksAt t line 5
  clients :
      MarksAreFine t → HoldsOfEach (RecordAt t) t.records → HoldsOfEach (LeftAt t) t.records
      → PairBreaks (ClientAt t) t.clients (clients_at t) line → BreaksAt t line 5
  conns :
      MarksAreFine t → HoldsOfEach (RecordAt t) t.records → HoldsOfEach (LeftAt t) t.records
      → HoldsOfEach (ClientAt t) t.clients → ConnBreaks t line → BreaksAt t line 5
  totals :
      MarksAreFine t → HoldsOfEach (RecordAt t) t.records → HoldsOfEach (LeftAt t) t.records
      → HoldsOfEach (ClientAt t) t.clients → HoldsOfEach (ConnAt t) t.conns
      → ItemBreaks (TotalsAt t) t.totals (totals_at t) line → BreaksAt t line 6
