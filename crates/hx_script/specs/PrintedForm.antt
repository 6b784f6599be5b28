-- Which parts make a transcript, so that it has a printed form of its own.
use Rattle.std.specs.Prelude.{◌≡◌, ◌⊎◌, ℕ, ◌<◌, true, false, List, [], ◌∷◌, length, All, ⊤}
pub use Rattle.hx_base.specs.Names.{is_name_byte, IsName}
use Rattle.hx_base.specs.declared.totals.Totals.{Totals}
use Rattle.hx_pool.specs.declared.entries.Entry.{Entry}
use Rattle.hx_pool.specs.declared.entries.Entry.TheVariants as entry
use Rattle.hx_record.specs.declared.bytes.ClientBytes.{ClientBytes}
use Rattle.hx_record.specs.declared.bytes.ConnBytes.{ConnBytes}
use Rattle.hx_record.specs.declared.served.CutCause.TheVariants as cut
use Rattle.hx_record.specs.declared.served.Kind.{Kind}
use Rattle.hx_record.specs.declared.served.Kind.TheVariants as kind
use Rattle.hx_record.specs.declared.served.Told.{Told}
use Rattle.hx_record.specs.declared.served.Told.TheVariants as told
use Rattle.hx_script.specs.declared.transcript.ServerPart.{ServerPart}

-- each two that follow each other stand in that order
abbrev pub Rises : {A : Type 0} → (A → A → Type 0) → List A → Type 0
Rises Before [] = ⊤
Rises Before (a ∷ []) = ⊤
Rises Before (a ∷ b ∷ items) = Before a b × Rises Before (b ∷ items)

-- by the first number, then by the second
abbrev pub PairBefore : ℕ → ℕ → ℕ → ℕ → Type 0
PairBefore a b c d = (a < c) ⊎ ((a ≡ c) × (b < d))

-- by thread, then by session
abbrev pub ClientBefore : ClientBytes → ClientBytes → Type 0
ClientBefore a b = PairBefore a.worker.0 a.session.0 b.worker.0 b.session.0

-- by server, then by connection
abbrev pub ConnBefore : ConnBytes → ConnBytes → Type 0
ConnBefore a b = PairBefore a.server.0 a.id.0 b.server.0 b.id.0

-- two servers have two names
abbrev pub OtherName : ServerPart → ServerPart → Type 0
OtherName a b = (a.back ≡ b.back) × (a.server ≡ b.server) → ⊥

-- no two servers have one name
abbrev pub OtherNames : List ServerPart → Type 0
OtherNames [] = ⊤
OtherNames (p ∷ servers) = All (OtherName p) servers × OtherNames servers

-- a mark; a take of the caretaker says later
abbrev pub IsToldMark : Entry → Type 0
IsToldMark (entry.Take t n first place id uses) = n.0 ≡ 0 → first ≡ false
IsToldMark (entry.Round t k old) = ⊤
IsToldMark (entry.Open t n id) = ⊤
IsToldMark (entry.Park t n id place uses) = ⊤
IsToldMark (entry.Close t n id) = ⊤
IsToldMark (entry.SetGate t draining) = ⊤
IsToldMark (entry.Free t place) = ⊥
IsToldMark (entry.Look t place found) = ⊥
IsToldMark (entry.Up t old) = ⊥
IsToldMark (entry.Down t old) = ⊥
IsToldMark (entry.Count t c) = ⊥
IsToldMark (entry.Gate t draining) = ⊥

-- a server with names, and marks alone
abbrev pub IsToldServer : ServerPart → Type 0
IsToldServer p = IsName p.back × IsName p.server × All IsToldMark p.marks

-- a record names a server that is there, and an early answer closes
abbrev pub IsToldKind : ℕ → Kind → Type 0
IsToldKind count (kind.Passed c) = c.server.0 < count
IsToldKind count (kind.Cut c why) = (c.server.0 < count) × (why ≡ cut.Early → c.closing ≡ true)
IsToldKind count (kind.Own status) = ⊤

-- the same of each record; the end of a session names no server
abbrev pub IsToldRecord : ℕ → Told → Type 0
IsToldRecord count (told.Served s) = IsToldKind count s.kind
IsToldRecord count (told.Left l) = ⊤

-- the parts of a transcript stand in order, and name each other so that a text tells them
pub record HasPrintedForm (servers : List ServerPart) (records : List Told)
    (clients : List ClientBytes) (conns : List ConnBytes) (totals : List Totals) : Type 0 where
  pub servers_told : All IsToldServer servers
  pub other_names : OtherNames servers
  pub records_told : All (IsToldRecord (length servers)) records
  pub clients_rise : Rises ClientBefore clients
  pub conns_rise : Rises ConnBefore conns
  pub conns_named : All (λ (c : ConnBytes). c.server.0 < length servers) conns
  pub totals_each : length totals ≡ length servers
