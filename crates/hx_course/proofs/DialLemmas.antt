-- Each connection that was dialled stays somewhere.
use Rattle.std.proofs.Common.{◌≡◌, ⊎_elim, inl, inr, Bool, true, false, List, [], ◌++◌, refl, sym, ap, ◌∙◌, subst, append-nil, Option, Some, None}
use Rattle.std.specs.Prelude.{Contains, option_map}
use Rattle.std.proofs.lemmas.List.Elements.{Contains-append_cases}
use Rattle.hx_base.specs.declared.what.What.{What}
use Rattle.hx_link.specs.Nets.{DialTold, NetState, StaysTold, told_dial}
use Rattle.hx_pool.specs.SeatView.{History}
use Rattle.hx_connecting.specs.Links.{GainsAll, DialsFor}
use Rattle.hx_connecting.specs.Sessions.{SessionNow}
use Rattle.hx_connecting.specs.Touches.{Came, Had, Opened, Took, Touch}
use Rattle.hx_session.specs.Doings.{Doing}
use Rattle.hx_session.specs.Stopping.{StopTouches}
use Rattle.hx_session.specs.Touching.{Touches, after_of}
use Rattle.hx_worker.specs.Headline.{dialled_for, dialled_by}
use Rattle.hx_course.specs.Graves.{Grave}
use Rattle.hx_course.specs.Places.{ConnIs, LinksGoOn, KeepsDials}
use Rattle.hx_course.proofs.TableLemmas.{none_in, one_in}

some_list : {A : Type 0} (xs ys : List A) → Some xs ≡ Some ys → xs ≡ ys
some_list xs ys e = cc

-- dials that are told behind more were told
gained : (more : List DialTold) (o p : Option (List DialTold)) (ds : List DialTold) → GainsAll more o p → p ≡ Some ds → (es : List DialTold) × (o ≡ Some es) × (ds ≡ es ++ more)
gained more None p ds g e = ⊎_elim (λ (k : p ≡ None). let no_ : None ≡ Some ds = sym k ∙ e in cc) (λ (k : p ≡ None). let no_ : None ≡ Some ds = sym k ∙ e in cc) g
gained more (Some es) p ds g e = ⊎_elim
    (λ (k : p ≡ Some (es ++ more)). (es, refl, sym (some_list (es ++ more) ds (sym k ∙ e))))
    (λ (k : p ≡ None). let no_ : None ≡ Some ds = sym k ∙ e in cc) g

pub dials_on : (ss ss' : List SessionNow) (seats seats' : List History) (graves graves' : List Grave) (net net' : NetState) (more : List DialTold) → LinksGoOn ss ss' seats seats' graves graves'
    → GainsAll more net.dials net'.dials → ((d : DialTold) → Contains more d → d.answered ≡ true → (v : What) × ConnIs ss' seats' graves' d.server d.id v)
    → KeepsDials ss seats graves net → KeepsDials ss' seats' graves' net'
dials_on ss ss' seats seats' graves graves' net net' more go gains new k ds told d there answered =
    let was = gained more net.dials net'.dials ds gains told in
    ⊎_elim
    (λ (old : Contains was.0 d). let p = k was.0 was.1 d old answered in let q = go.conns d.server d.id p.0 p.1 in (q.0, q.1))
    (λ (now : Contains more d). new d now answered)
    (Contains-append_cases was.0 more d (subst (λ (xs : List DialTold). Contains xs d) was.2 there))

-- where no dial is made
pub dials_stay : (ss ss' : List SessionNow) (seats seats' : List History) (graves graves' : List Grave) (net net' : NetState) → LinksGoOn ss ss' seats seats' graves graves' → GainsAll [] net.dials net'.dials
    → KeepsDials ss seats graves net → KeepsDials ss' seats' graves' net'
dials_stay ss ss' seats seats' graves graves' net net' go gains k = dials_on ss ss' seats seats' graves graves' net net' [] go gains (λ d c. absurd (none_in d c)) k

pub stays_none : (o p : Option (List DialTold)) → StaysTold o p → GainsAll [] o p
stays_none o p s = ⊎_elim (λ (k : p ≡ o). inl (k ∙ same o)) (λ (k : p ≡ None). inr k) s
  where
    same : (q : Option (List DialTold)) → q ≡ option_map (λ xs. xs ++ []) q
    same None = refl
    same (Some xs) = ap Some (sym (append-nil xs))

pub then_stays : (o p q : Option (List DialTold)) → GainsAll [] o p → StaysTold p q → GainsAll [] o q
then_stays o p q g s = ⊎_elim (λ (k : q ≡ p). subst (λ z. GainsAll [] o z) (sym k) g) (λ (k : q ≡ None). inr k) s

-- the dial of a step is that of the connection that it opened
dialled_open : (y : Touch) (c : Came) (old new : NetState) (w : Option What) (k : DialsFor y c old new w) (d : DialTold) → Contains (dialled_for y c old new w k) d → d.answered ≡ true
    → (d.server ≡ y.server) × (d.id ≡ y.id) × ((v : What) × (w ≡ Some v))
dialled_open y Had old new w k d c a = absurd (none_in d c)
dialled_open y (Took place uses) old new w k d c a = absurd (none_in d c)
dialled_open y Opened old new w k d c a =
    let e = one_in (told_dial y.server y.id k.0 k.1) d c in
    let yes : k.0 ≡ true = ap (λ (z : DialTold). z.answered) e ∙ a in
    let had : (v : What) × (w ≡ Some v) = ⊎_elim (λ p. (p.1.0, p.1.1)) (λ q. absurd (not_both k.0 yes q.0)) k.5 in
    (sym (ap (λ (z : DialTold). z.server) e), sym (ap (λ (z : DialTold). z.id) e), had)
  where
    not_both : (b : Bool) → b ≡ true → b ≡ false → ⊥
    not_both b e f = let no_ = sym e ∙ f in cc

pub step_dialled : (d : Doing) (x : Option Touch) (t : Touches d x) (e : DialTold) → Contains (dialled_by d x t) e → e.answered ≡ true
    → (y : Touch) × (x ≡ Some y) × (e.server ≡ y.server) × (e.id ≡ y.id) × ((v : What) × (after_of d x t ≡ Some v))
step_dialled d None t e c a = absurd (none_in e c)
step_dialled d (Some z) t e c a = let r = dialled_open z z.came d.before.net d.after.net t.goes.after t.goes.dials e c a in (z, refl, r.0, r.1, r.2)

had_dials : (y : Touch) (c : Came) (old new : NetState) (w : Option What) → c ≡ Had → DialsFor y c old new w → GainsAll [] old.dials new.dials
had_dials y Had old new w e k = k.0
had_dials y Opened old new w e k = cc
had_dials y (Took place uses) old new w e k = k.0

-- a stop dials none
pub stop_dialled : (d : Doing) (x : Option Touch) → StopTouches d x → GainsAll [] d.before.net.dials d.after.net.dials
stop_dialled d None t = t.1.dials
stop_dialled d (Some z) t = had_dials z z.came d.before.net d.after.net t.goes.after t.came t.goes.dials
