-- Lists of plans, by server.
use Rattle.std.proofs.Common.{◌≡◌, ℕ, zero, suc, ◌+◌, Bool, true, false, cond, List, [], ◌∷◌, ◌++◌, length, refl, sym, ap, ◌∙◌, subst, arith, Option, Some, None, eqb-true, ne_eqb}
use Rattle.std.specs.Prelude.{slice_get, Contains}
use Rattle.std.proofs.lemmas.List.Elements.{Contains-append_left, Contains-append_right, Contains-push}
use Rattle.hx_base.specs.declared.numbers.ServerNo.{ServerNo}
use Rattle.hx_base.specs.declared.plan.Plan.{Plan}
use Rattle.hx_link.specs.Courses.{is_server, next_plan, without_next}
use Rattle.hx_course.proofs.Numbers.{some_is}
use Rattle.hx_planned.specs.Plans.{plans_for, nth_plan}

-- a server's next plan is the first of its plans
pub next_first : (server : ServerNo) (plans : List Plan) → nth_plan server 0 plans ≡ next_plan server plans
next_first server [] = refl
next_first server (p ∷ plans) = by_bool (is_server server p.server) (next_first server plans)
  where
    by_bool : (b : Bool) → nth_plan server 0 plans ≡ next_plan server plans → slice_get (cond b (p ∷ plans_for server plans) (plans_for server plans)) 0 ≡ cond b (Some p) (next_plan server plans)
    by_bool true k = refl
    by_bool false k = k

-- behind it the others follow
pub nth_behind : (server : ServerNo) (k : ℕ) (plans : List Plan) → nth_plan server k (without_next server plans) ≡ nth_plan server (suc k) plans
nth_behind server k [] = refl
nth_behind server k (p ∷ plans) = by_bool (is_server server p.server) refl (nth_behind server k plans)
  where
    by_bool : (b : Bool) → is_server server p.server ≡ b → nth_plan server k (without_next server plans) ≡ nth_plan server (suc k) plans
        → nth_plan server k (cond b plans (p ∷ without_next server plans)) ≡ slice_get (cond b (p ∷ plans_for server plans) (plans_for server plans)) (suc k)
    by_bool true e rest = refl
    by_bool false e rest = ap (λ (b : Bool). slice_get (cond b (p ∷ plans_for server (without_next server plans)) (plans_for server (without_next server plans))) k) e ∙ rest

-- a plan of one server is none of another
apart : (server other : ServerNo) (o : Option ServerNo) → (other.0 ≡ server.0 → ⊥) → is_server other o ≡ true → is_server server o ≡ false
apart server other None ne e = cc
apart server other (Some s) ne e = ne_eqb s.0 server.0 (λ (k : s.0 ≡ server.0). ne (sym (eqb-true s.0 other.0 e) ∙ k))

-- the plans of a server stay where the next one of another is used
plans_other : (server other : ServerNo) (plans : List Plan) → (other.0 ≡ server.0 → ⊥) → plans_for server (without_next other plans) ≡ plans_for server plans
plans_other server other [] ne = refl
plans_other server other (p ∷ plans) ne = by_bool (is_server other p.server) refl (plans_other server other plans ne)
  where
    by_bool : (b : Bool) → is_server other p.server ≡ b → plans_for server (without_next other plans) ≡ plans_for server plans → plans_for server (cond b plans (p ∷ without_next other plans)) ≡ plans_for server (p ∷ plans)
    by_bool true e rest = sym (ap (λ (b : Bool). cond b (p ∷ plans_for server plans) (plans_for server plans)) (apart server other p.server ne e))
    by_bool false e rest = ap (λ (l : List Plan). cond (is_server server p.server) (p ∷ l) l) rest

pub nth_other : (server other : ServerNo) (k : ℕ) (plans : List Plan) → (other.0 ≡ server.0 → ⊥) → nth_plan server k (without_next other plans) ≡ nth_plan server k plans
nth_other server other k plans ne = ap (λ (l : List Plan). slice_get l k) (plans_other server other plans ne)

-- ---- one more came

pub got_before : {A : Type 0} (xs ys : List A) (i : ℕ) (x : A) → slice_get xs i ≡ Some x → slice_get (xs ++ ys) i ≡ Some x
got_before [] ys i x e = cc
got_before (y ∷ xs) ys zero x e = e
got_before (y ∷ xs) ys (suc i) x e = got_before xs ys i x e

pub got_last : {A : Type 0} (xs : List A) (x : A) → slice_get (xs ++ x ∷ []) (length xs) ≡ Some x
got_last [] x = refl
got_last (y ∷ xs) x = got_last xs x

pub length_more : {A : Type 0} (xs : List A) (x : A) → length (xs ++ x ∷ []) ≡ length xs + 1
length_more [] x = refl
length_more (y ∷ xs) x = let r = length_more xs x in omega arith

-- ---- whose a plan is

-- a plan that is found is one of the list, and its server's
pub nth_among : (server : ServerNo) (k : ℕ) (plans : List Plan) (p : Plan) → nth_plan server k plans ≡ Some p → Contains plans p × (is_server server p.server ≡ true)
nth_among server k [] p e = cc
nth_among server k (q ∷ plans) p e = by_bool (is_server server q.server) refl k (λ j. nth_among server j plans p) e
  where
    behind : Contains plans p × (is_server server p.server ≡ true) → Contains (q ∷ plans) p × (is_server server p.server ≡ true)
    behind r = (Contains-append_right (q ∷ []) plans p r.0, r.1)

    by_bool : (b : Bool) → is_server server q.server ≡ b → (i : ℕ) → ((j : ℕ) → nth_plan server j plans ≡ Some p → Contains plans p × (is_server server p.server ≡ true))
        → slice_get (cond b (q ∷ plans_for server plans) (plans_for server plans)) i ≡ Some p → Contains (q ∷ plans) p × (is_server server p.server ≡ true)
    by_bool true its zero rest e =
        let is : q ≡ p = some_is q p e in
        (subst (λ (z : Plan). Contains (q ∷ plans) z) is (Contains-append_left (q ∷ []) plans q (Contains-push [] q)), ap (λ (z : Plan). is_server server z.server) (sym is) ∙ its)
    by_bool true its (suc i) rest e = behind (rest i e)
    by_bool false its i rest e = behind (rest i e)
