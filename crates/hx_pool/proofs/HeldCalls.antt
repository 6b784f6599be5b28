-- What a session holds, from one call of its thread to the next.
use Rattle.std.proofs.Common.{◌≡◌, eqb, Bool, true, false, cond, List, [], ◌∷◌, ◌++◌, refl, sym, ap, ◌∙◌, subst, Some, None, ⊎_elim, eq-eqb, ne_eqb}
use Rattle.std.specs.Prelude.{Ok}
use Rattle.hx_base.specs.declared.numbers.ThreadNo.{ThreadNo}
use Rattle.hx_base.specs.declared.numbers.SessionNo.{SessionNo}
use Rattle.hx_base.specs.declared.numbers.ConnId.{ConnId}
use Rattle.hx_base.specs.declared.numbers.PlaceNo.{PlaceNo}
use Rattle.hx_base.specs.declared.numbers.Face.{Face}
use Rattle.hx_base.specs.Shown.{Shown}
use Rattle.hx_pool.specs.declared.entries.Entry.{Entry}
use Rattle.hx_pool.specs.declared.entries.Entry.TheVariants.{Open, Park, Take, Free, Close, Look, Up, Down, Count, Gate, SetGate, Round}
use Rattle.hx_pool.specs.declared.entries.Note.{Note}
use Rattle.hx_pool.specs.declared.refusals.NoPark.{NoPark}
use Rattle.hx_pool.specs.declared.refusals.NoPark.TheVariants.{Never, NoneKept, RowFull, Draining, PoolFull}
use Rattle.hx_pool.specs.Table.{face_of}
use Rattle.hx_pool.specs.History.{plain}
use Rattle.hx_pool.specs.Held.{without, held_after, held_from, held_by, HoldsJust, IsApart, AllApart}
use Rattle.hx_pool.specs.SeatView.{History, Makes}
use Rattle.hx_pool.specs.Causes.{AllLooks}
use Rattle.hx_pool.specs.Opening.{Opens, Closes}
use Rattle.hx_pool.specs.Taking.{taking, Takes}
use Rattle.hx_pool.specs.Parking.{parked, Settles, Parks, FindsDraining, TakesBack, RefusesPark}
use Rattle.hx_pool.proofs.Histories.{held_from-append}

apart_entry : (n : SessionNo) (fs : List Face) (e : Entry) → IsApart n e → held_after n fs e ≡ fs
apart_entry n fs (Open t m id) ne = ap (λ b. cond b (fs ++ face_of id 0 ∷ []) fs) (ne_eqb m.0 n.0 ne)
apart_entry n fs (Park t m id place uses) ne = ap (λ b. cond b (without id fs) fs) (ne_eqb m.0 n.0 ne)
apart_entry n fs (Take t m first place id uses) ne = ap (λ b. cond b (fs ++ face_of id uses ∷ []) fs) (ne_eqb m.0 n.0 ne)
apart_entry n fs (Close t m id) ne = ap (λ b. cond b (without id fs) fs) (ne_eqb m.0 n.0 ne)
apart_entry n fs (Free t place) ne = refl
apart_entry n fs (Look t place found) ne = refl
apart_entry n fs (Up t old) ne = refl
apart_entry n fs (Down t old) ne = refl
apart_entry n fs (Count t c) ne = refl
apart_entry n fs (Gate t draining) ne = refl
apart_entry n fs (SetGate t draining) ne = refl
apart_entry n fs (Round t k old) ne = refl

apart_along : (n : SessionNo) (fs : List Face) (xs : List Note) → AllApart n xs → held_from n fs xs ≡ fs
apart_along n fs [] a = refl
apart_along n fs (x ∷ xs) a = ap (λ gs. held_from n gs xs) (apart_entry n fs x.entry a.0) ∙ apart_along n fs xs a.1

-- what other sessions' entries leave
pub held_apart : (old new : History) (n : SessionNo) (added : List Note) → Makes old new added → AllApart n added → held_by new.mine n ≡ held_by old.mine n
held_apart old new n added m a = ap (λ l. held_by l n) m.mine ∙ (held_from-append n [] old.mine added ∙ apart_along n (held_by old.mine n) added a)

pub apart-append : (n : SessionNo) (xs ys : List Note) → AllApart n xs → AllApart n ys → AllApart n (xs ++ ys)
apart-append n [] ys a b = b
apart-append n (x ∷ xs) ys a b = (a.0, apart-append n xs ys a.1 b)

pub looks_apart : (n : SessionNo) (t : ThreadNo) (looks : List Note) → AllLooks t looks → AllApart n looks
looks_apart n t [] l = tt
looks_apart n t (x ∷ xs) l = (subst (λ (y : Note). IsApart n y.entry) (sym l.0.2) tt, looks_apart n t xs l.1)

-- the entries of a call, after its looks
behind_looks : (old new : History) (n : SessionNo) (t : ThreadNo) (looks tail : List Note) → Makes old new (looks ++ tail) → AllLooks t looks → held_by new.mine n ≡ held_from n (held_by old.mine n) tail
behind_looks old new n t looks tail m l =
    ap (λ a. held_by a n) m.mine
    ∙ (held_from-append n [] old.mine (looks ++ tail)
    ∙ (held_from-append n (held_by old.mine n) looks tail
    ∙ ap (λ fs. held_from n fs tail) (apart_along n (held_by old.mine n) looks (looks_apart n t looks l))))

same_session : (n : SessionNo) (new old : List Face) → cond (eqb n.0 n.0) new old ≡ new
same_session n new old = ap (λ b. cond b new old) (eq-eqb n.0 n.0 refl)

same_conn : (id : ConnId) (f : Face) → f.id ≡ id → without id (f ∷ []) ≡ []
same_conn id f e = ap (λ b. cond b [] (f ∷ [])) (eq-eqb f.id.0 id.0 (ap (λ (i : ConnId). i.0) e))

-- a session that held nothing holds what it opened
pub opens_just : (old new : History) (n : SessionNo) (id : ConnId) → Opens old new n (Ok id) → HoldsJust old.mine n None → HoldsJust new.mine n (Some (face_of id 0))
opens_just old new n id o none =
    ap (λ l. held_by l n) o.1.makes.mine
    ∙ (held_from-append n [] old.mine (plain (Open old.about.thread n id) ∷ [])
    ∙ (same_session n (held_by old.mine n ++ face_of id 0 ∷ []) (held_by old.mine n)
    ∙ ap (λ fs. fs ++ face_of id 0 ∷ []) none))

-- what it closed it holds no more
pub closes_just : (old new : History) (n : SessionNo) (f : Face) → Closes old new n f.id → HoldsJust old.mine n (Some f) → HoldsJust new.mine n None
closes_just old new n f c just =
    ap (λ l. held_by l n) c.makes.mine
    ∙ (held_from-append n [] old.mine (plain (Close old.about.thread n f.id) ∷ [])
    ∙ (same_session n (without f.id (held_by old.mine n)) (held_by old.mine n)
    ∙ (ap (λ fs. without f.id fs) just ∙ same_conn f.id f refl)))

settled : (n : SessionNo) (fs : List Face) (t : ThreadNo) (place : PlaceNo) (f : Face) (tail : List Note) → Settles t place f tail → held_from n fs tail ≡ fs
settled n fs t place f tail s = ⊎_elim (λ e. ap (held_from n fs) e) (λ r. ap (held_from n fs) r.2) s

-- nor what it parked
pub parks_just : (old new : History) (n : SessionNo) (place : PlaceNo) (v : Shown) (f : Face) → Parks old new n place v → f.id ≡ v.face.id → HoldsJust old.mine n (Some f) → HoldsJust new.mine n None
parks_just old new n place v f p is just =
    let t = old.about.thread in
    behind_looks old new n t p.looks (plain (Gate t false) ∷ plain (Up t p.count) ∷ parked t n place v ∷ p.tail) p.makes.makes p.looked
    ∙ (ap (λ fs. held_from n fs p.tail) (same_session n (without v.face.id (held_by old.mine n)) (held_by old.mine n))
    ∙ (settled n (without v.face.id (held_by old.mine n)) t place v.face p.tail p.settles
    ∙ (ap (λ fs. without v.face.id fs) just ∙ same_conn v.face.id f is)))

-- it holds what it took, from its own row or another
pub takes_just : (old new : History) (lead : List Note) (n : SessionNo) (first : Bool) (place : PlaceNo) (v : Shown) → Takes old new lead n first place v → AllApart n lead → HoldsJust old.mine n None → HoldsJust new.mine n (Some v.face)
takes_just old new lead n first place v k apart none =
    let t = old.about.thread in
    let tail : List Note = taking t n first place v.face k.count in
    ap (λ l. held_by l n) k.makes.mine
    ∙ (held_from-append n [] old.mine (lead ++ (k.looks ++ tail))
    ∙ (held_from-append n (held_by old.mine n) lead (k.looks ++ tail)
    ∙ (held_from-append n (held_from n (held_by old.mine n) lead) k.looks tail
    ∙ (ap (λ fs. held_from n fs tail) (apart_along n (held_from n (held_by old.mine n) lead) k.looks (looks_apart n t k.looks k.looked) ∙ (apart_along n (held_by old.mine n) lead apart ∙ none))
    ∙ same_session n (v.face ∷ []) []))))

-- after a refused park it still holds the connection: as it was, or with the use for which it was parked
pub refused_just : (old new : History) (n : SessionNo) (v : Shown) (why : NoPark) (f : Face) → RefusesPark old new n v why → f.id ≡ v.face.id → HoldsJust old.mine n (Some f)
    → (g : Face) × (g.id ≡ v.face.id) × HoldsJust new.mine n (Some g)
refused_just old new n v Never f r is just = (f, is, held_apart old new n [] r.1.makes tt ∙ just)
refused_just old new n v NoneKept f r is just = (f, is, held_apart old new n [] r.2.makes tt ∙ just)
refused_just old new n v RowFull f r is just =
    (f, is, held_apart old new n r.2.looks.looks r.2.looks.makes (looks_apart n old.about.thread r.2.looks.looks r.2.looks.looked) ∙ just)
refused_just old new n v Draining f r is just = let t = old.about.thread in ⊎_elim
    (λ (d : FindsDraining old new). (f, is, behind_looks old new n t d.looks (plain (Gate t true) ∷ []) d.makes.makes d.looked ∙ just))
    (λ (b : TakesBack old new n v). (
      v.face,
      refl,
      behind_looks old new n t b.looks (plain (Gate t false) ∷ plain (Up t b.count) ∷ parked t n b.place v ∷ plain (Gate t true) ∷ taking t n false b.place v.face b.down) b.makes.makes b.looked
          ∙ (same_session n (cond (eqb n.0 n.0) (without v.face.id (held_by old.mine n)) (held_by old.mine n) ++ v.face ∷ []) (cond (eqb n.0 n.0) (without v.face.id (held_by old.mine n)) (held_by old.mine n))
          ∙ ap (λ fs. fs ++ v.face ∷ []) (same_session n (without v.face.id (held_by old.mine n)) (held_by old.mine n) ∙ (ap (λ fs. without v.face.id fs) just ∙ same_conn v.face.id f is))),
    ))
    r.2
refused_just old new n v (PoolFull c) f r is just =
    let p = r.2 in let t = old.about.thread in
    (f, is, behind_looks old new n t p.looks (plain (Gate t false) ∷ plain (Up t c) ∷ plain (Down t p.down) ∷ []) p.makes.makes p.looked ∙ just)
