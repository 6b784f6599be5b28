-- The first step of a session: it reads the client's link, unless a deadline has come.
use Rattle.std.specs.Prelude.{◌≡◌, ◌⊎◌, ℕ, ◌<◌, true, false, [], Option, Some, None, ⊤}
use Rattle.hx_base.specs.Counts.{Rose}
use Rattle.hx_config.specs.declared.parts.Back.{Back}
use Rattle.hx_config.specs.declared.parts.Front.{Front}
use Rattle.hx_conn.specs.Conns.{RestedNow}
use Rattle.hx_link.specs.Told.{LinkState}
use Rattle.hx_session.specs.declared.deadline.Late.{Late}
use Rattle.hx_session.specs.declared.deadline.Late.TheVariants.{Client, Connect, Server}
use Rattle.hx_session.specs.declared.stage.Came.{Came}
use Rattle.hx_session.specs.declared.stage.Came.TheVariants.{On, Moved, Ends}
use Rattle.hx_session.specs.Causes.{HasCome}
use Rattle.hx_session.specs.Desks.{DeskNow}
use Rattle.hx_session.specs.Exchanged.{ExchangeNow}
use Rattle.hx_session.specs.Stages.{StageNow, Reading, Exchanging, stage_now}

-- nothing of a request that isn't the session's first is there
pub record IsBetweenTwo (d : DeskNow) (s : StageNow) : Type 0 where
  pub later : d.number ≡ 1 → ⊥
  pub none : d.from.bytes ≡ []
  pub held : Option RestedNow
  pub reads : s ≡ Reading held

-- the client's deadline has come, before a later request perhaps that of a connection kept alive
abbrev pub IsClientLate : DeskNow → StageNow → Front → ℕ → Type 0
IsClientLate d s front now =
    HasCome front.client d.since.0 now ⊎ (HasCome front.keep_alive d.since.0 now × IsBetweenTwo d s)

-- a deadline of the server's side has come
abbrev pub ServerComes : ℕ → Back → ℕ → Late → Type 0
ServerComes since back now Client = ⊥
ServerComes since back now Connect = HasCome back.connect since now
ServerComes since back now Server = HasCome back.server since now

-- which deadline has come since the admission, those of a server in an exchange alone
abbrev pub FindsLate : DeskNow → StageNow → Front → Back → ℕ → Option Late → Type 0
FindsLate d s front back now None = ⊤
FindsLate d s front back now (Some Client) = IsClientLate d s front now
FindsLate d s front back now (Some Connect) = (e : ExchangeNow) × (s ≡ Exchanging e) × HasCome back.connect d.since.0 now
FindsLate d s front back now (Some Server) = (e : ExchangeNow) × (s ≡ Exchanging e) × HasCome back.server d.since.0 now

-- a head is read, nothing waits in the client's pipes, and its link is as it was
pub record IsFresh (l : LinkState) (d : DeskNow) (s : StageNow) : Type 0 where
  pub held : Option RestedNow
  pub is : s ≡ Reading held
  pub client : d.client ≡ l
  pub from : d.from.bytes ≡ []
  pub room : d.from.capacity ≡ 16384
  pub to : d.to.bytes ≡ []
  pub ended : d.ended ≡ false

abbrev pub FreshOn : {X : Type 0} → LinkState → DeskNow → Came X → Type 0
FreshOn l d (On stage w) = IsFresh l d (stage_now stage)
FreshOn l d (Moved stage w served) = ⊥
FreshOn l d (Ends e) = ⊥

-- the link was read: bytes were taken, it told its end, the read had to wait, or it failed
abbrev pub WasRead : LinkState → LinkState → Type 0
WasRead a b =
    (a.taken_count < b.taken_count) ⊎ (b.told_end ≡ true) ⊎ Rose a.read_waits b.read_waits ⊎ Rose a.faults b.faults

-- and no server is to be read behind it
abbrev pub ReadOn : {X : Type 0} → LinkState → DeskNow → Came X → Type 0
ReadOn l d (On stage w) = WasRead l d.client × ((held : Option RestedNow) × (stage_now stage ≡ Reading held))
ReadOn l d (Moved stage w served) = WasRead l d.client
ReadOn l d (Ends e) = WasRead l d.client

-- the session leaves
abbrev pub IsEnding : {X : Type 0} → Came X → Type 0
IsEnding (On stage w) = ⊥
IsEnding (Moved stage w served) = ⊥
IsEnding (Ends e) = ⊤
