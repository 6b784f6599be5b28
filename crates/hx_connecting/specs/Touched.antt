-- From the calls of a seat to the marks of the one connection that a call of a session touches.
use Rattle.std.specs.Prelude.{◌≡◌, ℕ, ◌+◌, Bool, List, [], ◌∷◌, ◌++◌, Option, Some, None, IfSome, ⊤}
use Rattle.hx_base.specs.declared.numbers.ServerNo.{ServerNo}
use Rattle.hx_base.specs.declared.numbers.SessionNo.{SessionNo}
use Rattle.hx_base.specs.declared.numbers.ThreadNo.{ThreadNo}
use Rattle.hx_pool.specs.declared.entries.Entry.{Entry}
use Rattle.hx_pool.specs.declared.entries.Note.{Note}
use Rattle.hx_pool.specs.History.{marks_of}
use Rattle.hx_pool.specs.SeatView.{History, Calls, Makes, StandsInOneHistory}
use Rattle.hx_connecting.specs.declared.connecting.Connected.{Connected}
use Rattle.hx_connecting.specs.declared.connecting.Connected.TheVariants.{Begun, Dead, Refused}
use Rattle.hx_base.specs.declared.numbers.ConnId.{ConnId}
use Rattle.hx_base.specs.declared.numbers.Face.{Face}
use Rattle.hx_pool.specs.Table.{face_of}
use Rattle.hx_link.specs.Nets.{NetState}
use Rattle.hx_record.specs.declared.served.Served.{Served}
use Rattle.hx_connecting.specs.Exchanges.{IsClosed, ExchangeGoes}
use Rattle.hx_connecting.specs.Links.{LinkGoes, NoLinkGoes}
use Rattle.hx_connecting.specs.Outcomes.{Outcome, HasCause, CloseNone}
use Rattle.hx_pool.specs.Wants.{EndsRefused}
use Rattle.hx_connecting.specs.Sessions.{SessionNow, Holding, Exchanging}
use Rattle.hx_connecting.specs.Touches.{Touch, went_marks, touch_marks, Adds, AllOf, Balances, Opened, Went, Stays, Ends}

-- the entries have these marks, are the session's own, and leave the count at what rests, whatever is made behind them
pub record Marked (n : SessionNo) (es : List Note) (ms : List Entry) : Type 0 where
  pub marks : marks_of es ≡ ms
  pub own : AllOf n es
  pub keeps : (a : ℕ) (ys : List Note) → ((c : ℕ) → Balances c c ys) → Balances a a (es ++ ys)

-- the calls of a session on one seat left these marks
pub record SeatMarks (old new : History) (n : SessionNo) (ms : List Entry) : Type 0 where
  pub added : List Note
  pub makes : Calls old new added
  pub marked : Marked n added ms

-- the marks of a touch, or none
abbrev pub marks_for : ThreadNo → SessionNo → Bool → Option Touch → List Entry
marks_for t n first None = []
marks_for t n first (Some x) = touch_marks t n first x

-- an exchange begins on the connection, or it was closed, or none was opened
abbrev pub ComesTo : {X : Type 0} → ServerNo → Connected X → Option Touch → Type 0
ComesTo server (Begun busy fresh) (Some x) = (x.id ≡ busy.id) × (x.went ≡ Stays)
ComesTo server (Begun busy fresh) None = ⊥
ComesTo server Dead (Some x) = x.went ≡ Ends
ComesTo server Dead None = ⊥
ComesTo server Refused (Some x) = (x.came ≡ Opened) × (x.went ≡ Ends)
ComesTo server Refused None = ⊤

-- what the session has after it
abbrev pub conn_after : {X : Type 0} → Connected X → Option Holding
conn_after (Begun busy fresh) = Some (Exchanging busy)
conn_after Dead = None
conn_after Refused = None

-- the link of the touched connection goes its way, and so does its exchange, and a closing has a cause however the call ends
abbrev pub GoesFor : SessionNow → SessionNow → History → List Note → NetState → NetState → Option Touch → Type 0
GoesFor s s' h es old new None = NoLinkGoes s s' old new
GoesFor s s' h es old new (Some x) =
    (g : LinkGoes s s' h es old new x) × ((served : Option Served) → ExchangeGoes s s' x x.went g.before served)
    × ((n : SessionNo) (z : Outcome) (served : Option Served) → HasCause n z s s' h es old new x g.before g.after served)

-- a try to connect touches at most one connection, of that server
pub record ConnectTouches {X : Type 0} (old new : History) (n : SessionNo) (first : Bool) (server : ServerNo) (net_old net_new : NetState) (c : Connected X) : Type 0 where
  pub touch : Option Touch
  pub at_server : IfSome touch (λ x. x.server ≡ server)
  pub seat : SeatMarks old new n (marks_for old.about.thread n first touch)
  pub comes : ComesTo server c touch
  pub goes : (s s' : SessionNow) (es : List Note) → Makes old new es → s.conn ≡ None → s'.conn ≡ conn_after c → GoesFor s s' new es net_old net_new touch

-- each seat stands in one history
abbrev pub AllStand : List History → Type 0
AllStand [] = ⊤
AllStand (h ∷ seats) = StandsInOneHistory h × AllStand seats

-- on each seat, counted on from i, the calls left the marks of that number
abbrev pub EachMarks : SessionNo → (ℕ → List Entry) → ℕ → List History → List History → Type 0
EachMarks n f i [] [] = ⊤
EachMarks n f i (h ∷ old) (k ∷ new) = SeatMarks h k n (f i) × EachMarks n f (i + 1) old new
EachMarks n f i old new = ⊥

-- the entries of a call, whose marks are those of the touched connection
abbrev pub AddsSome : ThreadNo → SessionNo → Bool → Option Touch → List History → List History → Type 0
AddsSome t n first x old new = (added : List (List Note)) × Adds t n first x old new added

-- a connection that might not rest was closed, perhaps after a park that a drain took back; the refusal stands in front of the Close
pub record RefusedMarks (old new : History) (n : SessionNo) (id : ConnId) : Type 0 where
  pub went : Went
  pub closed : IsClosed went
  pub seat : SeatMarks old new n (went_marks old.about.thread n id went)
  pub front : List Note
  pub last : Note
  pub entries : seat.added ≡ front ++ last ∷ []
  pub refused : EndsRefused new n id front
  pub none : CloseNone (marks_of front)

-- the face of the connection on which an exchange began
abbrev pub held_after : {X : Type 0} → Connected X → Option Face
held_after (Begun busy fresh) = Some (face_of busy.id busy.uses)
held_after Dead = None
held_after Refused = None
