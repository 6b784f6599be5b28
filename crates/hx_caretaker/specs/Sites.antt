-- Private: what one step of a sweep does, and a whole one.
use Rattle.std.specs.Prelude.{◌≡◌, ◌≢◌, ℕ, ◌+◌, ◌*◌, ◌<◌, ◌≤◌, List, [], ◌++◌, length, Option, Some, None, IfSome}
use Rattle.hx_base.specs.declared.numbers.SessionNo.{SessionNo}
use Rattle.hx_conn.specs.Conns.{RestedNow, IsRested}
use Rattle.hx_link.specs.Nets.{NetState, NetBuries}
use Rattle.hx_pool.specs.declared.budget.Quota.{Quota}
use Rattle.hx_pool.specs.declared.entries.Note.{Note}
use Rattle.hx_pool.specs.Causes.{caretaker, AllCovered}
use Rattle.hx_pool.specs.Drain.{since_drain}
use Rattle.hx_pool.specs.Held.{AllApart, held_by}
use Rattle.hx_pool.specs.History.{marks_of}
use Rattle.hx_pool.specs.Opening.{Closes}
use Rattle.hx_pool.specs.Purge.{StandsAt, IsUnderQuota, UsesQuota}
use Rattle.hx_pool.specs.SeatView.{History, Makes, StandsInOneHistory}
use Rattle.hx_connecting.specs.Journals.{JournalRoom, JournalStays}
use Rattle.hx_connecting.specs.Touches.{Balances}
use Rattle.hx_caretaker.specs.Sweeps.{Sweep, sweep_marks, AreTheirLinks, BuriesAll}

-- where the caretaker works: a seat, its journal's room, and the net
pub record Site : Type 0 where
  pub seat : History
  pub room : JournalRoom
  pub net : NetState

-- the site of a seat and a net
abbrev pub site : {S N : Type 0} → (S → History) → (S → JournalRoom) → (N → NetState) → S → N → Site
site history room state s n = record { seat = history s; room = room s; net = state n }

-- a connection that was taken is closed, and its link is buried
pub record ClosesTaken (a b : Site) (r : RestedNow) : Type 0 where
  pub closes : Closes a.seat b.seat caretaker r.id
  pub rested : IsRested r
  pub buries : NetBuries a.net b.net r.link
  pub journal : JournalStays 1 a.room b.room

-- from one site to the other that sweep was made: Takes and Closes in turn
pub record Sweeping (a b : Site) (x : Sweep) : Type 0 where
  pub makes : Makes a.seat b.seat x.added
  pub marks : marks_of x.added ≡ sweep_marks a.seat.about.thread x.swept
  pub own : (n : SessionNo) → n.0 ≢ 0 → AllApart n x.added
  pub balances : (c : ℕ) → Balances c c x.added
  pub links : AreTheirLinks b.seat x.swept x.links
  pub buries : BuriesAll x.links a.net b.net
  pub journal : JournalStays (2 * length x.swept) a.room b.room
  pub lets_go : held_by a.seat.mine caretaker ≡ [] → held_by b.seat.mine caretaker ≡ []

-- what came under the quota q so far, and more behind it, came under r
abbrev pub GoesUnder : Site → Quota → Quota → List Note → Type 0
GoesUnder a q r more = (c intervals : ℕ) (es : List Note) → IsUnderQuota a.seat.about c intervals q es
    → IsUnderQuota a.seat.about c intervals r (es ++ more)

-- what came under the quota q so far, and more behind it, uses it
abbrev pub EndsUnder : Site → Quota → List Note → Type 0
EndsUnder a q more = (c intervals : ℕ) (es : List Note) → IsUnderQuota a.seat.about c intervals q es
    → UsesQuota a.seat.about c intervals (es ++ more)

-- one was closed under the quota
pub record PurgeGoesOn (a b : Site) (q r : Quota) : Type 0 where
  pub x : Sweep
  pub sweeps : Sweeping a b x
  pub one : length x.swept ≡ 1
  pub goes : q.seen < r.seen
  pub stands : StandsAt a.seat.about r
  pub under : GoesUnder a q r x.added

-- none was left under the quota
pub record PurgeEnds (a b : Site) (q : Quota) : Type 0 where
  pub x : Sweep
  pub sweeps : Sweeping a b x
  pub none : length x.swept ≡ 0
  pub used : EndsUnder a q x.added

-- a purge so far, from a quota to what is left of it
pub record PurgesTo (a b : Site) (q r : Quota) (count : ℕ) : Type 0 where
  pub x : Sweep
  pub sweeps : Sweeping a b x
  pub counts : count ≡ length x.swept
  pub goes : length x.swept + q.seen ≤ r.seen
  pub stands : StandsAt a.seat.about r
  pub under : GoesUnder a q r x.added

-- a whole purge
pub record PurgesAll (a b : Site) (q : Quota) (count : ℕ) : Type 0 where
  pub x : Sweep
  pub sweeps : Sweeping a b x
  pub counts : count ≡ length x.swept
  pub few : length x.swept ≤ 64 * a.seat.about.threads
  pub used : EndsUnder a q x.added

-- a drain was set, and stands at a place
pub record IsDraining (h : History) : Type 0 where
  pub one : StandsInOneHistory h
  pub at : ℕ
  pub passed : h.passed ≡ Some at
  pub inside : at ≤ 64 * h.about.threads
  pub es : List Note
  pub since : since_drain h.mine ≡ Some es

-- those are the entries behind the ones since the drain was set
abbrev pub GoesSince : Site → Site → List Note → Type 0
GoesSince a b more = (es : List Note) → since_drain a.seat.mine ≡ Some es → since_drain b.seat.mine ≡ Some (es ++ more)

-- one was closed under the drain
pub record DrainGoesOn (a b : Site) : Type 0 where
  pub x : Sweep
  pub sweeps : Sweeping a b x
  pub one : length x.swept ≡ 1
  pub from : ℕ
  pub to : ℕ
  pub was : a.seat.passed ≡ Some from
  pub now : b.seat.passed ≡ Some to
  pub goes : from < to
  pub inside : to ≤ 64 * a.seat.about.threads
  pub since : GoesSince a b x.added

-- none was left under the drain
pub record DrainEnds (a b : Site) : Type 0 where
  pub x : Sweep
  pub sweeps : Sweeping a b x
  pub none : length x.swept ≡ 0
  pub since : GoesSince a b x.added
  pub all : IfSome (since_drain b.seat.mine) (λ es. AllCovered a.seat.about es)

-- a drain so far
pub record DrainsTo (a b : Site) (count : ℕ) : Type 0 where
  pub x : Sweep
  pub sweeps : Sweeping a b x
  pub counts : count ≡ length x.swept
  pub from : ℕ
  pub to : ℕ
  pub was : a.seat.passed ≡ Some from
  pub now : b.seat.passed ≡ Some to
  pub goes : length x.swept + from ≤ to
  pub inside : to ≤ 64 * a.seat.about.threads
  pub since : GoesSince a b x.added

-- a whole drain
pub record DrainsAll (a b : Site) (count : ℕ) : Type 0 where
  pub x : Sweep
  pub sweeps : Sweeping a b x
  pub counts : count ≡ length x.swept
  pub few : length x.swept ≤ 64 * a.seat.about.threads
  pub all : (es : List Note) → since_drain a.seat.mine ≡ Some es → AllCovered a.seat.about (es ++ x.added)

-- how many places a drain has passed
abbrev pub passed_or : Option ℕ → ℕ
passed_or None = 0
passed_or (Some n) = n
