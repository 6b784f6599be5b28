-- Why each record of a replay was told: for each own answer, each cut and each end of a session there was a step of that session, at a
-- moment of the script, that had cause to decide it by the bytes of its links, or the session was stopped.
use Rattle.std.specs.Prelude.{◌≡◌, ◌⊎◌, ◌≤◌, ◌-◌, ℕ, List, Contains, Option, Some, None, slice_get, ⊤}
use Rattle.hx_base.specs.declared.numbers.ConnId.{ConnId}
use Rattle.hx_base.specs.declared.numbers.Millis.{Millis}
use Rattle.hx_base.specs.declared.numbers.ServerNo.{ServerNo}
use Rattle.hx_base.specs.declared.numbers.SessionNo.{SessionNo}
use Rattle.hx_base.specs.declared.numbers.ThreadNo.{ThreadNo}
use Rattle.hx_config.specs.Meaning.{Meaning}
use Rattle.hx_conn.specs.Conns.{BusyNow}
use Rattle.hx_conn.specs.WhatTold.{what_of_link}
use Rattle.hx_connecting.specs.Sessions.{Around, SessionNow, Exchanging}
use Rattle.hx_course.specs.Graves.{Grave, OfClient, OfConn, grave}
use Rattle.hx_course.specs.Places.{BytesGrow}
use Rattle.hx_link.specs.Nets.{NetState}
use Rattle.hx_link.specs.Told.{LinkState}
use Rattle.hx_record.specs.declared.served.Carried.{Carried}
use Rattle.hx_record.specs.declared.served.CutCause.{CutCause}
use Rattle.hx_record.specs.declared.served.CutCause.TheVariants as cut
use Rattle.hx_record.specs.declared.served.Kind.{Kind}
use Rattle.hx_record.specs.declared.served.Kind.TheVariants as kind
use Rattle.hx_record.specs.declared.served.Left.{Left}
use Rattle.hx_record.specs.declared.served.LeftCause.TheVariants as left
use Rattle.hx_record.specs.declared.served.Served.{Served}
use Rattle.hx_record.specs.declared.served.Told.{Told}
use Rattle.hx_record.specs.declared.served.Told.TheVariants as line
use Rattle.hx_script_parts.specs.declared.script.ClientLine.{ClientLine}
use Rattle.hx_session.specs.Causes.{Decides, LeavesFor, Limits, Unserved, bad_request, client_late, server_late, connect_late, unserved, broken, lost}
use Rattle.hx_session.specs.Deciding.{CausesCut, LacksIn}
use Rattle.hx_session.specs.Fits.{limits_of}
use Rattle.hx_session.specs.Records.{IsOfExchange}

-- of a replay: its configuration, the script's moments, and the clients that came
pub record Scope : Type 0 where
  pub config : Meaning
  pub moments : List Millis
  pub came : List ClientLine

abbrev pub scope : Meaning → List Millis → List ClientLine → Scope
scope config moments came = record { config = config; moments = moments; came = came }

-- what is known of the client's link of a session as it stood in a call
abbrev pub Known : Type 1
Known = ThreadNo → SessionNo → LinkState → Type 0

-- what is known of the link of a connection that was closed, as it was buried
abbrev pub Closed : Type 1
Closed = ServerNo → ConnId → LinkState → Type 0

-- a session that is there has this client's link
pub record IsThere (sessions : List SessionNow) (t : ThreadNo) (n : SessionNo) (l : LinkState) : Type 0 where
  pub session : SessionNow
  pub there : Contains sessions session
  pub worker : session.worker ≡ t
  pub number : session.number ≡ n
  pub link : session.client ≡ l

-- the link of a session's client: it is with the session, or was buried
abbrev pub LinkIs : List SessionNow → List Grave → ThreadNo → SessionNo → LinkState → Type 0
LinkIs sessions graves t n l = IsThere sessions t n l ⊎ Contains graves (grave (OfClient t n) l)

-- the client's link of a session, as it stood in a call, is there or buried since, and bytes came behind its bytes
pub record WentOn (sessions : List SessionNow) (graves : List Grave) (t : ThreadNo) (n : SessionNo) (before : LinkState) : Type 0 where
  pub link : LinkState
  pub is : LinkIs sessions graves t n link
  pub grows : BytesGrow (what_of_link before) (what_of_link link)

-- the link of a connection was buried, where the net tells its burials
abbrev pub WasBuried : Option (List LinkState) → List Grave → Closed
WasBuried buried graves server id l = (buried ≡ None) ⊎ Contains graves (grave (OfConn server id) l)

-- the session of the k-th client that came: it was admitted at the moment of that client's line, at its frontend
pub record IsOfLine (came : List ClientLine) (s : SessionNow) : Type 0 where
  pub low : 1 ≤ s.number.0
  pub line : ClientLine
  pub its : slice_get came (s.number.0 - 1) ≡ Some line
  pub since : s.since ≡ line.moment.0
  pub front : s.front ≡ line.front

-- a session as it stood before a call
pub record WasThere (c : Scope) (Went : Known) (t : ThreadNo) (n : SessionNo) (was : SessionNow) : Type 0 where
  pub worker : was.worker ≡ t
  pub number : was.number ≡ n
  pub line : IsOfLine c.came was
  pub went : Went t n was.client

-- where the cause of an own answer is a connection's end, failure or answer, its link is known
abbrev pub NamesLink : {limits : Limits} {s : SessionNow} {net net' : NetState} {now : ℕ} {Lacks : Unserved → Type 0} {status : ℕ}
    → Closed → Decides limits s net net' now Lacks status → Type 0
NamesLink Gone (bad_request status bad) = ⊤
NamesLink Gone (client_late late) = ⊤
NamesLink Gone (server_late late) = ⊤
NamesLink Gone (connect_late late) = ⊤
NamesLink Gone (unserved u lacks) = ⊤
NamesLink Gone (broken b l under_way buries broke) = Gone b.server b.id l
NamesLink Gone (lost b l under_way buries gone silent) = Gone b.server b.id l

-- a step at a moment had cause to decide an own answer of that status, for a request that begins at this byte or before
pub record DecidedOwn (c : Scope) (Went : Known) (Gone : Closed) (t : ThreadNo) (n : SessionNo) (asked status : ℕ) : Type 0 where
  pub was : SessionNow
  pub there : WasThere c Went t n was
  pub begins : was.asked ≤ asked
  pub now : Millis
  pub at : Contains c.moments now
  pub before : Around
  pub after : Around
  pub cause : Decides (limits_of c.config was.front) was before.net after.net now.0
      (LacksIn c.config was.front before.seats after.seats before.net after.net) status
  pub names : NamesLink Gone cause

-- a step at a moment had cause to cut the exchange off that was under way, which is the record's, for the request that begins where that
-- does; its connection was closed
pub record DecidedCut (c : Scope) (Went : Known) (Gone : Closed) (r : Served) (carried : Carried) (why : CutCause) : Type 0 where
  pub was : SessionNow
  pub there : WasThere c Went r.worker r.session was
  pub begins : r.ask.from ≡ was.asked
  pub busy : BusyNow
  pub under_way : was.conn ≡ Some (Exchanging busy)
  pub its : IsOfExchange busy carried
  pub now : Millis
  pub at : Contains c.moments now
  -- the client's link as the step left it
  pub client : LinkState
  pub went : Went r.worker r.session client
  pub net : NetState
  pub net' : NetState
  pub cause : CausesCut (limits_of c.config was.front) was client net net' now.0 busy why
  pub link_is : Gone busy.server busy.id cause.0

-- a step at a moment had cause to leave
pub record DecidedLeft (c : Scope) (Went : Known) (l : Left) : Type 0 where
  pub was : SessionNow
  pub there : WasThere c Went l.worker l.session was
  pub now : Millis
  pub at : Contains c.moments now
  -- the session as the step left it, with its record, if it gave one
  pub after : SessionNow
  pub went : Went l.worker l.session after.client
  pub served : Option Served
  pub cause : LeavesFor (limits_of c.config was.front) was after served now.0 l.cause

-- a record of each kind; an exchange is cut off by a stop too
abbrev pub CausedKind : Scope → Known → Closed → Served → Kind → Type 0
CausedKind c Went Gone r (kind.Passed x) = ⊤
CausedKind c Went Gone r (kind.Cut x why) = (why ≡ cut.Stop) ⊎ DecidedCut c Went Gone r x why
CausedKind c Went Gone r (kind.Own status) = DecidedOwn c Went Gone r.worker r.session r.ask.from status

-- each line that is told; a session ends by a stop too
abbrev pub CausedLine : Scope → Known → Closed → Told → Type 0
CausedLine c Went Gone (line.Served r) = CausedKind c Went Gone r r.kind
CausedLine c Went Gone (line.Left l) = (l.cause ≡ left.Stop) ⊎ DecidedLeft c Went l

-- of a replay with these sessions, this net and these buried links: each session there is that of its client's line, an own answer that
-- was decided and isn't told yet has its cause, and so has each record that was told
pub record HasCauses (c : Scope) (sessions : List SessionNow) (net : NetState) (graves : List Grave) (records : List Told) : Type 0 where
  pub lines : (s : SessionNow) → Contains sessions s → IsOfLine c.came s
  pub owns : (s : SessionNow) (status : ℕ) → Contains sessions s → s.own ≡ Some status
      → DecidedOwn c (WentOn sessions graves) (WasBuried net.buried graves) s.worker s.number s.asked status
  pub told : (x : Told) → Contains records x → CausedLine c (WentOn sessions graves) (WasBuried net.buried graves) x
