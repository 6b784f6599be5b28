-- Which server a request goes to: the servers of its backend take turns, and one that drains is passed over
-- (HAProxy 2.4 Configuration Manual, section 4.2: balance roundrobin).
use Rattle.std.specs.Prelude.{◌≡◌, ◌⊎◌, ℕ, ◌+◌, ◌%◌, ◌<◌, Bool, true, false, List, length, map, Option, Some, None, IfSome, IsSome, slice_get}
use Rattle.hx_base.specs.declared.numbers.ThreadNo.{ThreadNo}
use Rattle.hx_base.specs.declared.numbers.ServerNo.{ServerNo}
use Rattle.hx_config.specs.declared.parts.Back.{Back}
use Rattle.hx_config.specs.declared.parts.Front.{Front}
use Rattle.hx_config.specs.Meaning.{Meaning}
use Rattle.hx_pool.specs.Causes.{Among}
use Rattle.hx_pool.specs.declared.entries.Entry.TheVariants.{Gate}
use Rattle.hx_pool.specs.declared.entries.Note.{Note}
use Rattle.hx_conn.specs.Conns.{RestedNow}
use Rattle.hx_connecting.specs.Sessions.{SessionNow, Resting}

-- the backend of a frontend
abbrev pub back_no : Option Front → Option ℕ
back_no None = None
back_no (Some f) = Some f.back

abbrev pub back_at : Meaning → Option ℕ → Option Back
back_at config None = None
back_at config (Some b) = slice_get config.backs b

-- the numbers of a backend's servers, in order
abbrev pub servers_of : Back → List ServerNo
servers_of b = map (λ s. s.no) b.servers

-- the call's entries on a server
abbrev pub entries_at : List (List Note) → ServerNo → Option (List Note)
entries_at added n = slice_get added n.0

-- the call read the server's gate, which showed that
abbrev pub ShowsGate : ThreadNo → List (List Note) → Option ServerNo → Bool → Type 0
ShowsGate t added None draining = ⊥
ShowsGate t added (Some n) draining =
    (es : List Note) × (entries_at added n ≡ Some es) × Among (λ e. e ≡ Gate t draining) es

-- from the turn on, with wrap, the first server that is ready, behind those that drain; the turn is then at the one after it
pub record Chooses (t : ThreadNo) (servers : List ServerNo) (turn turn' : ℕ) (added : List (List Note)) (server : ServerNo) : Type 0 where
  pub step : ℕ
  pub within : step < length servers
  pub is : slice_get servers ((turn + step) % length servers) ≡ Some server
  pub ready : ShowsGate t added (Some server) false
  pub before : (j : ℕ) → j < step → ShowsGate t added (slice_get servers ((turn + j) % length servers)) true
  pub next : turn' ≡ (turn + step + 1) % length servers

-- every server of the backend drains
abbrev pub AllDrain : ThreadNo → List ServerNo → List (List Note) → Type 0
AllDrain t servers added = (i : ℕ) → i < length servers → ShowsGate t added (slice_get servers i) true

-- the turns but that of one backend
abbrev pub OtherTurns : ℕ → List ℕ → List ℕ → Type 0
OtherTurns b old new = (length new ≡ length old) × ((i : ℕ) → (i ≡ b → ⊥) → slice_get new i ≡ slice_get old i)

-- a server was chosen in the call, for the request that comes next
pub record ChoosesNow (config : Meaning) (s : SessionNow) (old new : List ℕ) (added : List (List Note)) (server : ServerNo) : Type 0 where
  pub none_before : s.chosen ≡ None
  pub none_held : s.conn ≡ None
  pub back : ℕ
  pub is_its : back_no (slice_get config.fronts s.front) ≡ Some back
  pub turn : ℕ
  pub turn' : ℕ
  pub was : slice_get old back ≡ Some turn
  pub now : slice_get new back ≡ Some turn'
  pub others : OtherTurns back old new
  pub terms : Back
  pub terms_are : slice_get config.backs back ≡ Some terms
  pub chooses : Chooses s.worker (servers_of terms) turn turn' added server

-- a call chooses one, or leaves every turn
abbrev pub Turns : Meaning → SessionNow → List ℕ → List ℕ → List (List Note) → Option ServerNo → Type 0
Turns config s old new added None = new ≡ old
Turns config s old new added (Some server) = ChoosesNow config s old new added server

-- the session opens or takes on the server that was chosen for the request, in this call or before
abbrev pub IsChosen : SessionNow → Option ServerNo → ServerNo → Type 0
IsChosen s chose server = (s.chosen ≡ Some server) ⊎ (chose ≡ Some server)

-- a chosen server stays until the exchange begins on it or the request is over; one that is chosen after a call was chosen in it or
-- before, or is that of a connection that rested with the session and was closed
pub record KeepsChoice (s s' : SessionNow) (chose : Option ServerNo) : Type 0 where
  pub stays : IfSome s.chosen (λ v. (s'.chosen ≡ Some v) ⊎ IsSome s'.conn ⊎ IsSome s'.own ⊎ (s'.served ≡ s.served → ⊥) ⊎ (s'.over ≡ true))
  pub from : IfSome s'.chosen (λ v. (s.chosen ≡ Some v) ⊎ (chose ≡ Some v)
      ⊎ ((r : RestedNow) × (s.conn ≡ Some (Resting r)) × (r.server ≡ v) × (s'.conn ≡ None)))
