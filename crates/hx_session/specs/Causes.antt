-- Why a session answers itself, cuts an exchange off, or leaves. Each cause is one of the call that decides it.
use Rattle.std.specs.Prelude.{◌≡◌, ◌⊎◌, ℕ, ◌+◌, ◌<◌, ◌≤◌, true, List, [], ◌∷◌, drop, Option, Some, IfSome}
use Rattle.hx_base.specs.Counts.{Rose}
use Rattle.hx_base.specs.declared.numbers.Millis.{Millis}
use Rattle.hx_conn.specs.Conns.{BusyNow}
use Rattle.hx_conn.specs.WhatTold.{what_of_link}
use Rattle.hx_connecting.specs.Links.{GainsAll, IsSameLink}
use Rattle.hx_link.specs.Nets.{NetState, TellsDial}
use Rattle.hx_link.specs.Told.{LinkState}
use Rattle.hx_message.specs.Message.{RunsToEnd}
use Rattle.hx_message.specs.declared.MethodKind.{MethodKind}
use Rattle.hx_message.specs.Partial.{HasWholeRequest, HasWholeAnswer}
use Rattle.hx_record.specs.declared.served.CutCause.{CutCause}
use Rattle.hx_record.specs.declared.served.CutCause.TheVariants as cut
use Rattle.hx_record.specs.declared.served.LeftCause.{LeftCause}
use Rattle.hx_record.specs.declared.served.LeftCause.TheVariants as cause
use Rattle.hx_record.specs.declared.served.Served.{Served}
use Rattle.hx_session.specs.Records.{ends_after}
use Rattle.hx_session.specs.Bad.{IsBadRequest, IsBrokenAnswer, HasBadChunks}
use Rattle.hx_connecting.specs.Sessions.{SessionNow, Exchanging, IsSomeAnd}

-- the timeouts of the session's frontend and of its backend; one that isn't set or is 0 never comes
pub record Limits : Type 0 where
  pub client : Option Millis
  pub keep_alive : Option Millis
  pub connect : Option Millis
  pub server : Option Millis

-- the timeout has come by that moment, counted from another one: it is set and isn't 0
abbrev pub HasCome : Option Millis → ℕ → ℕ → Type 0
HasCome limit since now = IsSomeAnd limit (λ m. (0 < m.0) × (since + m.0 ≤ now))

-- it can have come, counted from the session's admission
abbrev pub CanBeLate : Option Millis → SessionNow → ℕ → Type 0
CanBeLate limit s now = HasCome limit s.since now

-- the bytes taken of the client after the last record
abbrev pub OfAsk : SessionNow → (List ℕ → Type 0) → Type 0
OfAsk s P = IfSome s.client.taken (λ bytes. P (drop s.asked bytes))

-- the connection of the exchange b, which was under way when the call began, is closed in it: this is its link as it was buried, of which
-- no byte was moved in the call; where the net tells its burials it stands at their end
pub record Buries (b : BusyNow) (net net' : NetState) (l : LinkState) : Type 0 where
  pub dial : TellsDial b.server b.id l
  pub same : IsSameLink (what_of_link b.link) (what_of_link l)
  pub taken : l.taken ≡ b.link.taken
  pub sent : l.sent ≡ b.link.sent
  pub ended : l.told_end ≡ b.link.told_end
  pub buries : GainsAll (l ∷ []) net.buried net'.buried

-- the bytes taken of the server in the exchange
abbrev pub OfAnswer : BusyNow → (List ℕ → Type 0) → Type 0
OfAnswer b P = IfSome b.link.taken (λ bytes. P (drop b.exchange.taken_from bytes))

-- they are no whole answer, even where its body runs to the end
pub record IsNoAnswer (method : MethodKind) (bytes : List ℕ) : Type 0 where
  pub not_whole : (n : ℕ) → HasWholeAnswer method bytes n → ⊥
  pub not_to_end : RunsToEnd method bytes → ⊥

-- the server's link ended before the answer did
abbrev pub ServerEnded : BusyNow → Type 0
ServerEnded b = (b.link.told_end ≡ true) × OfAnswer b (IsNoAnswer b.exchange.method)

-- it failed, which it did in this call, since no link goes on behind a failure
abbrev pub ServerFailed : LinkState → Type 0
ServerFailed l = 1 ≤ l.faults

-- the answer's head, framing or chunks are to be refused
abbrev pub AnswerBroke : BusyNow → Type 0
AnswerBroke b = OfAnswer b (IsBrokenAnswer b.exchange.method)

-- something was given for the request, or nothing yet
abbrev pub HasGiven : SessionNow → Type 0
HasGiven s = s.gave < s.client.sent_count

abbrev pub GaveNone : SessionNow → Type 0
GaveNone s = s.client.sent_count ≤ s.gave

-- nothing was taken in the exchange, which is neither the first of its session nor of its connection
pub record MayBeSilent (s : SessionNow) (b : BusyNow) : Type 0 where
  pub later : 1 ≤ s.served
  pub used : 1 ≤ b.uses
  pub nothing : b.link.taken_count ≡ b.exchange.taken_from
  pub given : GaveNone s

-- or it isn't so
abbrev pub NotSilent : SessionNow → BusyNow → Type 0
NotSilent s b = (s.served ≡ 0) ⊎ (b.uses ≡ 0) ⊎ (b.exchange.taken_from < b.link.taken_count)

-- no server took the request: each of its backend drains, or a connection that was opened couldn't be had
pub data Unserved : Type 0 where
  all_drain : Unserved
  no_numbers : Unserved
  no_dial : Unserved

-- why an own answer of that status was decided in a call; in an exchange only where nothing was given yet
pub data Decides (limits : Limits) (s : SessionNow) (net net' : NetState) (now : ℕ) (Lacks : Unserved → Type 0) : ℕ → Type 0 where
  bad_request : (status : ℕ) → OfAsk s (λ bytes. IsBadRequest status bytes) → Decides limits s net net' now Lacks status
  client_late : CanBeLate limits.client s now → Decides limits s net net' now Lacks 408
  server_late : CanBeLate limits.server s now → Decides limits s net net' now Lacks 504
  connect_late : CanBeLate limits.connect s now → Decides limits s net net' now Lacks 503
  unserved : (u : Unserved) → Lacks u → Decides limits s net net' now Lacks 503
  broken : (b : BusyNow) → (l : LinkState) → s.conn ≡ Some (Exchanging b) → Buries b net net' l → AnswerBroke b → Decides limits s net net' now Lacks 502
  lost : (b : BusyNow) → (l : LinkState) → s.conn ≡ Some (Exchanging b) → Buries b net net' l → ServerEnded b ⊎ ServerFailed l → NotSilent s b
      → Decides limits s net net' now Lacks 502

-- the client's side of the exchange came to nothing: it ended before its request was whole, failed in the call, was late, or
-- sent bad chunks where something was given
abbrev pub ClientStops : Limits → SessionNow → LinkState → ℕ → Type 0
ClientStops limits s client now =
    ((client.told_end ≡ true) × IfSome client.taken (λ bytes. (n : ℕ) → HasWholeRequest (drop s.asked bytes) n → ⊥))
    ⊎ Rose s.client.faults client.faults
    ⊎ CanBeLate limits.client s now
    ⊎ (HasGiven s × OfAsk s (λ bytes. HasBadChunks bytes))

-- why an exchange b, whose link was buried as l, was cut off in a step that left the client's link so; early is what its record says
pub data CutsFor (limits : Limits) (s : SessionNow) (client : LinkState) (b : BusyNow) (l : LinkState) (now : ℕ) : CutCause → Type 0 where
  early : CutsFor limits s client b l now cut.Early
  ended : HasGiven s → ServerEnded b → CutsFor limits s client b l now cut.Ended
  fault : HasGiven s → ServerFailed l → CutsFor limits s client b l now cut.Fault
  broken : HasGiven s → AnswerBroke b → CutsFor limits s client b l now cut.Broken
  late : HasGiven s → CanBeLate limits.connect s now ⊎ CanBeLate limits.server s now → CutsFor limits s client b l now cut.Late
  client : ClientStops limits s client now → CutsFor limits s client b l now cut.Client
  silent : MayBeSilent s b → ServerEnded b ⊎ ServerFailed l → CutsFor limits s client b l now cut.Silent

-- why a session leaves in a step
pub data LeavesFor (limits : Limits) (s s' : SessionNow) (served : Option Served) (now : ℕ) : LeftCause → Type 0 where
  ended : s'.client.told_end ≡ true → OfAsk s' (λ bytes. (n : ℕ) → HasWholeRequest bytes n → ⊥) → LeavesFor limits s s' served now cause.End
  after : (r : Served) → (why : LeftCause) → served ≡ Some r → ends_after r.kind ≡ Some why → LeavesFor limits s s' served now why
  idle : CanBeLate limits.client s now ⊎ CanBeLate limits.keep_alive s now → LeavesFor limits s s' served now cause.Idle
  fault : 1 ≤ s'.client.faults → LeavesFor limits s s' served now cause.Fault
