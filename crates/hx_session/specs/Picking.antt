-- Which server a step chooses for a request, and that it calls no other server's seat for it.
use Rattle.std.specs.Prelude.{◌≡◌, ◌⊎◌, ◌<◌, ℕ, true, List, ◌++◌, length, Option, Some, None, IfSome, IsSome, slice_get, slice_set}
use Rattle.hx_base.specs.declared.numbers.ServerNo.{ServerNo}
use Rattle.hx_config.specs.declared.parts.Server.{Server}
use Rattle.hx_conn.specs.Conns.{RestedNow, BusyNow}
use Rattle.hx_pool.specs.declared.entries.Note.{Note}
use Rattle.hx_pool.specs.SeatView.{History}
use Rattle.hx_connecting.specs.Choice as choice
use Rattle.hx_connecting.specs.Sessions.{Holding, Resting, Exchanging}
use Rattle.hx_session.specs.declared.stage.Came.{Came}
use Rattle.hx_session.specs.declared.stage.Came.TheVariants.{On, Moved, Ends}
use Rattle.hx_session.specs.Seen.{conn_seen, chosen_seen, own_seen, over_seen}
use Rattle.hx_session.specs.Stages.{StageNow, stage_now}

-- a session has the connection that it had, or an exchange goes on
abbrev pub IsSameKind : Option Holding → Option Holding → Type 0
IsSameKind None c = c ≡ None
IsSameKind (Some (Resting r)) c = c ≡ Some (Resting r)
IsSameKind (Some (Exchanging b)) c = (k : BusyNow) × (c ≡ Some (Exchanging k))

-- that server's seat made some entries, and every other one is as it was
pub record ChangesAt (server : ServerNo) (olds news : List History) : Type 0 where
  pub old : History
  pub new : History
  pub es : List Note
  pub was : slice_get olds server.0 ≡ Some old
  pub seats : news ≡ slice_set olds server.0 new
  pub mine : new.mine ≡ old.mine ++ es

-- at most the seat of the server that is chosen was called
abbrev pub CallsAt : Option ServerNo → List History → List History → Type 0
CallsAt None olds news = news ≡ olds
CallsAt (Some v) olds news = (news ≡ olds) ⊎ ChangesAt v olds news

-- the chosen server stays chosen, unless the session has a connection, an own answer is decided, or it leaves; one that is
-- chosen was so before, or is that of a connection that rested with the session and is closed
pub record KeepsServer (chosen : Option ServerNo) (c : Option Holding) (s : StageNow) : Type 0 where
  pub stays : IfSome chosen (λ v.
      (chosen_seen s ≡ Some v) ⊎ IsSome (conn_seen s) ⊎ IsSome (own_seen s) ⊎ (over_seen s ≡ true))
  pub from : IfSome (chosen_seen s) (λ v.
      (chosen ≡ Some v) ⊎ ((r : RestedNow) × (c ≡ Some (Resting r)) × (r.server ≡ v) × (conn_seen s ≡ None)))

-- the same, and where the session had no connection, at most that server's seat was called
pub record PicksTo (c : Option Holding) (chosen : Option ServerNo) (olds : List History) (s : StageNow) (news : List History) : Type 0 where
  pub keeps : KeepsServer chosen c s
  pub calls : c ≡ None → CallsAt chosen olds news

-- parts of a step that choose no server, from a session with that connection and that choice
abbrev pub Picks : {X : Type 0} → Option Holding → Option ServerNo → List History → Came X → List History → Type 0
Picks c chosen olds (On stage w) news =
    (chosen_seen (stage_now stage) ≡ chosen) × IsSameKind c (conn_seen (stage_now stage)) × (c ≡ None → news ≡ olds)
Picks c chosen olds (Moved stage w served) news = PicksTo c chosen olds (stage_now stage) news
Picks c chosen olds (Ends e) news = c ≡ None → (e.held ≡ None) × (news ≡ olds)

-- what a server is connected to for a request comes to: it stays chosen, or its choice is used up
abbrev pub ConnectsStage : ServerNo → StageNow → Type 0
ConnectsStage server s =
    ((chosen_seen s ≡ Some server) × (conn_seen s ≡ None))
    ⊎ ((chosen_seen s ≡ None) × (IsSome (conn_seen s) ⊎ IsSome (own_seen s)))

-- the server that is chosen then
abbrev pub or_chose : Option ServerNo → Option ServerNo → Option ServerNo
or_chose before None = before
or_chose before (Some v) = Some v

-- the turn: no seat is asked, or for a request for which no server is chosen the servers are asked in turn
abbrev pub TakesTurn : List Server → ℕ → ℕ → StageNow → List History → List History → Option ServerNo → Type 0
TakesTurn servers turn turn' s olds news chose =
    ((news ≡ olds) × (turn' ≡ turn) × (chose ≡ None))
    ⊎ ((chosen_seen s ≡ None) × (conn_seen s ≡ None) × choice.Chooses servers turn turn' olds news chose)

-- the parts of a step so far, from the turn on
pub record PicksSo {X : Type 0} (servers : List Server) (turn turn' : ℕ) (s : StageNow) (olds : List History) (came : Came X) (news : List History) : Type 0 where
  pub chose : Option ServerNo
  pub asked : List History
  pub takes : TakesTurn servers turn turn' s olds asked chose
  pub picks : Picks (conn_seen s) (or_chose (chosen_seen s) chose) asked came news

-- and a whole step, whose turn is one of the servers'
pub record PicksAll (servers : List Server) (turn turn' : ℕ) (s : StageNow) (olds : List History) (s' : StageNow) (news : List History) : Type 0 where
  pub fits : turn < length servers
  pub chose : Option ServerNo
  pub asked : List History
  pub takes : TakesTurn servers turn turn' s olds asked chose
  pub picks : PicksTo (conn_seen s) (or_chose (chosen_seen s) chose) asked s' news
