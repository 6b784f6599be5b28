-- What a caller of the seat keeps: the seat's server, and where a quota stands.
use Rattle.std.proofs.Common.{◌≡◌, ◌≢◌, Bool, sym, ap, ◌∙◌, subst, arith, Option, Some, None, Ok, Err, ⊎_elim}
use Rattle.std.specs.Prelude.{Result, MatchOption, MatchResult}
use Rattle.hx_base.specs.declared.numbers.SessionNo.{SessionNo}
use Rattle.hx_base.specs.declared.numbers.ConnId.{ConnId}
use Rattle.hx_base.specs.declared.numbers.PlaceNo.{PlaceNo}
use Rattle.hx_base.specs.Shown.{Shown}
use Rattle.hx_pool.specs.declared.budget.Quota.{Quota}
use Rattle.hx_pool.specs.declared.refusals.NoPark.{NoPark}
use Rattle.hx_pool.specs.declared.refusals.NoPark.TheVariants.{Never, NoneKept, RowFull, Draining, PoolFull}
use Rattle.hx_pool.specs.declared.refusals.NoneOver.{NoneOver}
use Rattle.hx_pool.specs.declared.refusals.NoneOver.TheVariants.{NotAllowed, BelowLow, NoneSeen}
use Rattle.hx_pool.specs.declared.refusals.Unparked.{Unparked}
use Rattle.hx_pool.specs.SeatView.{About, History, AreOfOneBoard}
use Rattle.hx_pool.specs.Parking.{Parks, RefusesPark, FindsDraining, TakesBack}
use Rattle.hx_pool.specs.Taking.{TakesOwn, TakesNoneOwn}
use Rattle.hx_pool.specs.Takeover.{TakesOver, RefusesTakeover}
use Rattle.hx_pool.specs.Drain.{DrainsOne, DrainsNone}
use Rattle.hx_pool.specs.Purge.{StandsAt, PurgesOne, PurgesNone, EndsPurge}
use Rattle.hx_pool.specs.Exchange.{Exchanges, GivesUp}

refuses_about : (old new : History) (n : SessionNo) (v : Shown) (why : NoPark) → RefusesPark old new n v why → new.about ≡ old.about
refuses_about old new n v Never r = r.1.makes.about
refuses_about old new n v NoneKept r = r.2.makes.about
refuses_about old new n v RowFull r = r.2.looks.makes.about
refuses_about old new n v Draining r = ⊎_elim (λ (f : FindsDraining old new). f.makes.makes.about) (λ (b : TakesBack old new n v). b.makes.makes.about) r.2
refuses_about old new n v (PoolFull c) r = r.2.makes.makes.about

pub park_about : {V : Type 0} (old new : History) (n : SessionNo) (v : Shown) (r : Result PlaceNo (Unparked V)) → MatchResult r (λ place. Parks old new n place v) (λ u. RefusesPark old new n v u.why) → new.about ≡ old.about
park_about old new n v (Ok place) h = h.makes.makes.about
park_about old new n v (Err u) h = refuses_about old new n v u.why h

over_refused : (old new : History) (first : Bool) (why : NoneOver) → RefusesTakeover old new first why → new.about ≡ old.about
over_refused old new first NotAllowed h = h.1.makes.about
over_refused old new first (BelowLow c) h = h.2.makes.about
over_refused old new first NoneSeen h = h.1.makes.makes.about

pub over_about : {V : Type 0} (shows : V → Shown) (old new : History) (n : SessionNo) (first : Bool) (r : Result V NoneOver) → MatchResult r (λ v. TakesOver old new n first (shows v)) (λ why. RefusesTakeover old new first why) → new.about ≡ old.about
over_about shows old new n first (Ok v) h = h.takes.makes.about
over_about shows old new n first (Err why) h = over_refused old new first why h

pub own_about : {V : Type 0} (shows : V → Shown) (old new : History) (n : SessionNo) (first : Bool) (o : Option V) → MatchOption o (TakesNoneOwn old new first) (λ v. TakesOwn old new n first (shows v)) → new.about ≡ old.about
own_about shows old new n first None h = h.looks.makes.about
own_about shows old new n first (Some v) h = h.takes.makes.about

pub drain_about : {V : Type 0} (shows : V → Shown) (old new : History) (o : Option V) → MatchOption o (DrainsNone old new) (λ v. DrainsOne old new (shows v)) → new.about ≡ old.about
drain_about shows old new None h = h.looks.makes.about
drain_about shows old new (Some v) h = h.takes.makes.about

ended : (old new : History) (q r : Quota) → EndsPurge old new q r → StandsAt new.about r
ended old new q r e = subst (λ (a : About). StandsAt a r) (sym e.makes.makes.about) (let s = e.seen in record { inside = omega arith; at = λ h. absurd (omega arith) })

pub purge_stands : {V : Type 0} (shows : V → Shown) (old new : History) (q r : Quota) (o : Option V) → MatchOption o (PurgesNone old new q r) (λ v. PurgesOne old new q r (shows v)) → StandsAt old.about q → StandsAt new.about r
purge_stands shows old new q r (Some v) h s = subst (λ (a : About). StandsAt a r) (sym h.takes.makes.about) h.stands
purge_stands shows old new q r None h s = ⊎_elim
    (λ u. subst (λ (a : About). StandsAt a r) (sym u.2.makes.about) (subst (λ (k : Quota). StandsAt old.about k) (sym u.1) s))
    (λ u. ended old new q r u.1)
    h

pub exchange_about : (old new : History) (n : SessionNo) (o : Option ConnId) → MatchOption o (GivesUp old new n) (λ id. Exchanges old new n id) → new.about ≡ old.about
exchange_about old new n (Some id) h = h.makes.about
exchange_about old new n None h = ⊎_elim
    (λ x. x.makes.makes.about)
    (λ y. ⊎_elim
    (λ x. x.closes.makes.about ∙ (refuses_about x.held x.refused n x.v x.why x.refuses ∙ x.opens.makes.about))
    (λ x. x.takes.looks.makes.about ∙ (x.parks.makes.makes.about ∙ x.opens.makes.about))
    y)
    h

-- a seat stays one of the board of another, whatever it does
pub still_one : (old new other : History) → new.about ≡ old.about → AreOfOneBoard old other → AreOfOneBoard new other
still_one old new other e o = record { board = ap (λ (a : About). a.board) e ∙ o.board; apart = subst (λ (a : About). a.thread.0 ≢ other.about.thread.0) (sym e) o.apart }
