-- What the seat holds for a session that connects.
use Rattle.std.proofs.Common.{ℕ, Bool, [], ◌∷◌, sym, ap, ◌∙◌, Option, Some, None, ⊎_elim}
use Rattle.hx_base.specs.declared.numbers.SessionNo.{SessionNo}
use Rattle.hx_base.specs.declared.numbers.ServerNo.{ServerNo}
use Rattle.hx_base.specs.declared.numbers.ConnId.{ConnId}
use Rattle.hx_base.specs.declared.numbers.Face.{Face}
use Rattle.hx_base.specs.Shown.{Shown}
use Rattle.hx_message.specs.declared.MethodKind.{MethodKind}
use Rattle.hx_link.specs.Nets.{NetState}
use Rattle.hx_conn.specs.Conns.{RestedNow, BusyNow}
use Rattle.hx_conn.specs.WhatTold.{shown}
use Rattle.hx_pool.specs.declared.refusals.NoneOver.{NoneOver}
use Rattle.hx_pool.specs.declared.refusals.NoneOver.TheVariants.{NotAllowed, BelowLow, NoneSeen}
use Rattle.hx_pool.specs.Held.{held_by, HoldsJust}
use Rattle.hx_pool.specs.Table.{face_of}
use Rattle.hx_pool.specs.SeatView.{History}
use Rattle.hx_pool.specs.Taking.{TakesNoneOwn}
use Rattle.hx_pool.specs.Takeover.{RefusesTakeover, counted}
use Rattle.hx_pool.proofs.HeldCalls.{held_apart, looks_apart, opens_just, closes_just, takes_just}
use Rattle.hx_connecting.specs.declared.connecting.Connected.{Connected}
use Rattle.hx_connecting.specs.declared.connecting.Connected.TheVariants.{Begun, Dead, Refused}
use Rattle.hx_connecting.specs.Connecting.{FindsOne, FindsNone, TriesRested, TriesNew, Connects}
use Rattle.hx_connecting.specs.Touched.{held_after}

looks_just : (old new : History) (n : SessionNo) (first : Bool) (o : Option Face) → TakesNoneOwn old new first → HoldsJust old.mine n None → HoldsJust new.mine n None
looks_just old new n first o k none = held_apart old new n k.looks.looks k.looks.makes (looks_apart n old.about.thread k.looks.looks k.looks.looked) ∙ none

one_just : (old new : History) (n : SessionNo) (first : Bool) (v : Shown) → FindsOne old new n first v → HoldsJust old.mine n None → HoldsJust new.mine n (Some v.face)
one_just old new n first v f none = ⊎_elim
    (λ a. takes_just old new [] n first a.place v a.takes tt none)
    (λ b. takes_just b.0 new (counted b.0.about.thread b.2.c ∷ []) n first b.2.place v b.2.takes (tt, tt) (looks_just old b.0 n first None b.1 none))
    f

refused_none : (old new : History) (n : SessionNo) (first : Bool) (why : NoneOver) → RefusesTakeover old new first why → HoldsJust old.mine n None → HoldsJust new.mine n None
refused_none old new n first NotAllowed k none = held_apart old new n [] k.1.makes tt ∙ none
refused_none old new n first (BelowLow c) k none = held_apart old new n (counted old.about.thread c ∷ []) k.2.makes (tt, tt) ∙ none
refused_none old new n first NoneSeen k none =
    let s = k.1 in held_apart old new n (counted old.about.thread s.c ∷ s.looks) s.makes.makes (tt, looks_apart n old.about.thread s.looks s.looked) ∙ none

none_just : (old new : History) (n : SessionNo) (first : Bool) → FindsNone old new first → HoldsJust old.mine n None → HoldsJust new.mine n None
none_just old new n first f none = ⊎_elim
    (λ a. held_apart old new n [] a.1.makes tt ∙ none)
    (λ b. refused_none b.0 new n first b.1 b.3 (looks_just old b.0 n first None b.2 none))
    f

rested_holds : {X : Type 0} (mid new : History) (n : SessionNo) (r : RestedNow) (now : ℕ) (m : MethodKind) (net net' : NetState) (c : Connected X)
    → TriesRested mid new n r now m net net' c → HoldsJust mid.mine n (Some (face_of r.id r.uses)) → HoldsJust new.mine n (held_after c)
rested_holds mid new n r now m net net' (Begun busy fresh) k just =
    ap (λ (h : History). held_by h.mine n) k.0
    ∙ (just
    ∙ ap (λ (f : Face). f ∷ []) (ap (λ (i : ConnId). face_of i r.uses) (sym (ap (λ (b : BusyNow). b.id) k.2.2.1 ∙ ap (λ (q : RestedNow). q.id) k.2.1.0))
    ∙ ap (λ (u : ℕ). face_of busy.id u) (sym (ap (λ (b : BusyNow). b.uses) k.2.2.1 ∙ ap (λ (q : RestedNow). q.uses) k.2.1.0))))
rested_holds mid new n r now m net net' Dead k just = closes_just mid new n (face_of r.id r.uses) k.3.closes just
rested_holds mid new n r now m net net' Refused k just = absurd k

new_holds : {X : Type 0} (mid new : History) (n : SessionNo) (server : ServerNo) (m : MethodKind) (net net' : NetState) (c : Connected X)
    → TriesNew mid new n server m net net' c → HoldsJust mid.mine n None → HoldsJust new.mine n (held_after c)
new_holds mid new n server m net net' (Begun busy fresh) k none =
    let o = k.1 in
    opens_just mid new n o.id o.opens none
    ∙ ap (λ (f : Face). f ∷ []) (ap (λ (i : ConnId). face_of i 0) (sym (ap (λ (b : BusyNow). b.id) o.begins.1)) ∙ ap (λ (u : ℕ). face_of busy.id u) (sym (ap (λ (b : BusyNow). b.uses) o.begins.1)))
new_holds mid new n server m net net' Dead k none = absurd k
new_holds mid new n server m net net' Refused k none = ⊎_elim
    (λ e. held_apart mid new n [] e.1.1.makes tt ∙ none)
    (λ z. let just = opens_just mid z.0 n z.1 z.2 none in ⊎_elim
    (λ x. closes_just z.0 new n (face_of z.1 0) x.0 just)
    (λ y. closes_just z.0 new n (face_of z.1 0) y.6.closes just)
    z.3)
    k

-- a session that held nothing at the seat holds just the connection on which its exchange began
pub connects_holds : {X : Type 0} (old new : History) (n : SessionNo) (first : Bool) (server : ServerNo) (now : ℕ) (m : MethodKind) (net net' : NetState) (c : Connected X)
    → Connects old new n first server now m net net' c → HoldsJust old.mine n None → HoldsJust new.mine n (held_after c)
connects_holds old new n first server now m net net' c k none = ⊎_elim
    (λ a. rested_holds a.0 new n a.1 now m net net' c a.4 (one_just old a.0 n first (shown a.1) a.2 none))
    (λ b. new_holds b.0 new n server m net net' c b.2 (none_just old b.0 n first b.1 none))
    k
