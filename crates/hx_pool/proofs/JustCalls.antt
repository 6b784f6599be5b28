-- The one connection that a session holds, from one call of its thread to the next, however often it was used.
use Rattle.std.proofs.Common.{◌≡◌, ◌≢◌, List, refl, ◌∙◌, subst, Option, Some, None}
use Rattle.hx_base.specs.declared.numbers.SessionNo.{SessionNo}
use Rattle.hx_base.specs.declared.numbers.PlaceNo.{PlaceNo}
use Rattle.hx_base.specs.declared.numbers.Face.{Face}
use Rattle.hx_base.specs.declared.rules.Mode.TheVariants.{Never}
use Rattle.hx_base.specs.Shown.{Shown}
use Rattle.hx_pool.specs.declared.entries.Note.{Note}
use Rattle.hx_pool.specs.Table.{face_of}
use Rattle.hx_pool.specs.Held.{Has, HoldsJust, HasJust, AllApart}
use Rattle.hx_pool.specs.SeatView.{About, History, Makes, StandsInOneHistory}
use Rattle.hx_pool.specs.Opening.{HasConn, Closes}
use Rattle.hx_pool.specs.Parking.{Parks}
use Rattle.hx_pool.proofs.Owning.{just_has}
use Rattle.hx_pool.proofs.HeldCalls.{held_apart, closes_just, parks_just}

-- what it holds with these uses it holds
pub holds_just : (h : History) (n : SessionNo) (o : Option Face) → HoldsJust h.mine n o → HasJust h n o
holds_just h n None just = just
holds_just h n (Some f) just = (f.uses, just, λ shared. refl)

-- it has the connection that it just holds, so that it may close it
pub just_conn : (h : History) (n : SessionNo) (f : Face) → StandsInOneHistory h → HasJust h n (Some f) → HasConn h n f.id
just_conn h n f one just = (just.0, just_has h n (face_of f.id just.0) one just.1)

-- with these uses where connections are shared, so that it may park it
pub just_uses : (h : History) (n : SessionNo) (f : Face) → StandsInOneHistory h → h.about.rules.mode ≢ Never → HasJust h n (Some f) → Has h.mine n f.id.0 f.uses
just_uses h n f one shared just = subst (Has h.mine n f.id.0) (just.2 shared) (just_has h n (face_of f.id just.0) one just.1)

-- entries of other sessions leave it
pub just_apart : (old new : History) (n : SessionNo) (o : Option Face) (es : List Note) → Makes old new es → AllApart n es → HasJust old n o → HasJust new n o
just_apart old new n None es m a just = held_apart old new n es m a ∙ just
just_apart old new n (Some f) es m a just =
    (just.0, held_apart old new n es m a ∙ just.1, λ shared. just.2 (subst (λ (i : About). i.rules.mode ≢ Never) m.about shared))

-- what it closed it holds no more
pub just_closed : (old new : History) (n : SessionNo) (f : Face) → Closes old new n f.id → HasJust old n (Some f) → HasJust new n None
just_closed old new n f c just = closes_just old new n (face_of f.id just.0) c just.1

-- nor what it parked
pub just_parked : (old new : History) (n : SessionNo) (place : PlaceNo) (v : Shown) (f : Face) → Parks old new n place v → f.id ≡ v.face.id → HasJust old n (Some f) → HasJust new n None
just_parked old new n place v f p is just = parks_just old new n place v (face_of f.id just.0) p is just.1
