-- When a session may open a connection, and what shows that a park was refused: said of the entries of one call of a
-- worker on one server's seat.
use Rattle.std.specs.Prelude.{◌≡◌, ◌≢◌, ℕ, ◌<◌, ◌≤◌, ◌⊎◌, Bool, List, [], ◌∷◌, ◌++◌}
use Rattle.hx_base.specs.declared.numbers.SessionNo.{SessionNo}
use Rattle.hx_base.specs.declared.numbers.ConnId.{ConnId}
use Rattle.hx_base.specs.Shown.{Shown}
use Rattle.hx_pool.specs.declared.entries.Entry.TheVariants.{Open, Close, Count}
use Rattle.hx_pool.specs.declared.entries.Note.{Note}
use Rattle.hx_pool.specs.declared.refusals.NoPark.{NoPark}
use Rattle.hx_pool.specs.declared.refusals.NoneOver.{NoneOver}
use Rattle.hx_pool.specs.History.{plain}
use Rattle.hx_pool.specs.SeatView.{History, Makes, Calls}
use Rattle.hx_pool.specs.Causes.{Among}
use Rattle.hx_pool.specs.Parking.{RefusesPark}
use Rattle.hx_pool.specs.Taking.{NoneRestsIn, TakesNoneOwn}
use Rattle.hx_pool.specs.Takeover.{AllowsSome, AllowsNone, OthersUnavailable, RefusesTakeover}

-- a Count below pool-low-conn
abbrev pub ShowsFew : History → List Note → Type 0
ShowsFew h es = (c : ℕ) × (c < h.about.rules.low) × Among (λ e. e ≡ Count h.about.thread c) es

-- one of the entries shows a count that isn't below the least number
abbrev pub ShowsEnough : History → List Note → Type 0
ShowsEnough h es = (c : ℕ) × (h.about.rules.low ≤ c) × Among (λ e. e ≡ Count h.about.thread c) es

-- H is seen before the Open, and es are the call's own entries before it: nothing that the request may take rests in
-- the own row, and too few rest, or no other row has anything
pub record WantsNewConn (h : History) (first : Bool) (H es : List Note) : Type 0 where
  pub own_row : NoneRestsIn h H h.about.thread.0 first
  pub others : ShowsFew h es ⊎ (ShowsEnough h es × OthersUnavailable h first es)

-- an Open stands in what was seen behind some H at which it was wanted, by the call's entries before it
abbrev pub IsWanted : History → Bool → List Note → Note → Type 0
IsWanted h first before x = elim x.entry [ Open t n id ↦ (H : List Note) × (later : List Note) × (h.seen ≡ H ++ x ∷ later) × WantsNewConn h first H before | _ ↦ Unit {0} ]

-- the same of each of these entries, which the call made behind those before
abbrev pub AreWanted : History → Bool → List Note → List Note → Type 0
AreWanted h first before [] = Unit {0}
AreWanted h first before (x ∷ xs) = IsWanted h first before x × AreWanted h first (before ++ x ∷ []) xs

-- where the mode allows the request some connection, each Open in the added entries was wanted
abbrev pub OpensForWant : History → Bool → List Note → Type 0
OpensForWant h first added = AllowsSome h first → AreWanted h first [] added

-- nothing was found for the request: the mode allows it none, or none was in the own row and the takeover was refused
abbrev pub FindsNone : History → History → Bool → Type 0
FindsNone old new first = (AllowsNone old first × Calls old new [])
    ⊎ ((mid : History) × (why : NoneOver) × TakesNoneOwn old mid first × RefusesTakeover mid new first why)

-- a call that found nothing and opened a connection, which was wanted
pub record OpensWanted (old new : History) (n : SessionNo) (first : Bool) (id : ConnId) : Type 0 where
  pub before : List Note
  pub makes : Makes old new (before ++ plain (Open old.about.thread n id) ∷ [])
  pub wanted : OpensForWant new first (before ++ plain (Open old.about.thread n id) ∷ [])

-- each Close of a session has a cause, which may speak of the entries before it
abbrev pub ClosesForCause : (SessionNo → ConnId → List Note → Type 0) → List Note → List Note → Type 0
ClosesForCause Cause before [] = Unit {0}
ClosesForCause Cause before (x ∷ xs) = (elim x.entry [ Close t n id ↦ n.0 ≢ 0 → Cause n id before | _ ↦ Unit {0} ]) × ClosesForCause Cause (before ++ x ∷ []) xs

-- the park of the session's connection was refused: it is a call of the seat, and its entries are the last of es
pub record EndsRefused (h : History) (n : SessionNo) (id : ConnId) (es : List Note) : Type 0 where
  pub old : History
  pub new : History
  pub v : Shown
  pub why : NoPark
  pub added : List Note
  pub about : old.about ≡ h.about
  pub is : v.face.id ≡ id
  pub refuses : RefusesPark old new n v why
  pub makes : Makes old new added
  pub ends : (front : List Note) × (es ≡ front ++ added)
  pub own : (later : List Note) × (h.mine ≡ new.mine ++ later)
