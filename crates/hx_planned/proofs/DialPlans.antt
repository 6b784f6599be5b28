-- Dials that are told behind a call are those of before and the call's own.
use Rattle.std.proofs.Common.{◌≡◌, ⊎_elim, List, [], ◌++◌, refl, sym, ◌∙◌, subst, Option, Some, None}
use Rattle.std.specs.Prelude.{Contains}
use Rattle.std.proofs.lemmas.List.Elements.{Contains-append_cases}
use Rattle.hx_base.specs.declared.plan.Plan.{Plan}
use Rattle.hx_link.specs.Nets.{DialTold, StaysTold}
use Rattle.hx_connecting.specs.Links.{GainsAll}
use Rattle.hx_course.proofs.TableLemmas.{none_in}
use Rattle.hx_planned.specs.Plans.{FollowsDial, DialsFollow}

some_list : {A : Type 0} (xs ys : List A) → Some xs ≡ Some ys → xs ≡ ys
some_list xs ys e = cc

-- where dials are told, they were told before, and those are behind them
gained : (more : List DialTold) (o p : Option (List DialTold)) (ds : List DialTold) → GainsAll more o p → p ≡ Some ds → (es : List DialTold) × (o ≡ Some es) × (ds ≡ es ++ more)
gained more None p ds g e = ⊎_elim (λ (k : p ≡ None). let no : None ≡ Some ds = sym k ∙ e in cc) (λ (k : p ≡ None). let no : None ≡ Some ds = sym k ∙ e in cc) g
gained more (Some es) p ds g e = ⊎_elim
    (λ (k : p ≡ Some (es ++ more)). (es, refl, sym (some_list (es ++ more) ds (sym k ∙ e))))
    (λ (k : p ≡ None). let no : None ≡ Some ds = sym k ∙ e in cc) g

pub dials_more : (plans : List Plan) (more : List DialTold) (o p : Option (List DialTold)) → GainsAll more o p
    → ((ds : List DialTold) → p ≡ Some ds → (d : DialTold) → Contains more d → FollowsDial plans d) → DialsFollow plans o → DialsFollow plans p
dials_more plans more o p gains new follow ds told d there =
    let was = gained more o p ds gains told in
    ⊎_elim (λ (old : Contains was.0 d). follow was.0 was.1 d old) (λ (now : Contains more d). new ds told d now)
    (Contains-append_cases was.0 more d (subst (λ (xs : List DialTold). Contains xs d) was.2 there))

-- where none was made
pub dials_none : (plans : List Plan) (o p : Option (List DialTold)) → GainsAll [] o p → DialsFollow plans o → DialsFollow plans p
dials_none plans o p gains follow = dials_more plans [] o p gains (λ ds told d c. absurd (none_in d c)) follow

pub dials_stay : (plans : List Plan) (o p : Option (List DialTold)) → StaysTold o p → DialsFollow plans o → DialsFollow plans p
dials_stay plans o p stays follow ds told = ⊎_elim
    (λ (k : p ≡ o). follow ds (sym k ∙ told))
    (λ (k : p ≡ None). let no : None ≡ Some ds = sym k ∙ told in cc) stays
