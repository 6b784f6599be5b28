-- What a token keeps over a step.
use Rattle.std.proofs.Common.{◌≡◌, ℕ, true, List, [], ◌∷◌, ◌++◌, sym, refl, ap, ◌∙◌, subst, Option, Some, None, IsSome}
use Rattle.atomic_table.specs.Table.{Me, rest}
use Rattle.atomic_table.specs.Seated.{TableId}
use Rattle.hx_base.specs.Shown.{Shown}
use Rattle.hx_resting.specs.declared.values.Rows.{Rows}
use Rattle.hx_resting.specs.declared.roles.View.{View}
use Rattle.hx_resting.specs.Rows.{IsAfter}
use Rattle.hx_lockboard.specs.Views.{Got}
use Rattle.hx_resting.specs.Desks.{DeskView}
use Rattle.hx_lockboard.specs.LockDesks.{carried_of, Gets}

value_or : {C : Type 0} → Option C → List (ℕ × Option C) → Option C
value_or d [] = d
value_or d (x ∷ xs) = x.1

pub slot_value : {C : Type 0} (k : ℕ) (x y : Option C) (l a b : List (ℕ × Option C)) → l ≡ (k, x) ∷ a → l ≡ (k, y) ∷ b → x ≡ y
unfolding value_or
slot_value k x y l a b e f = ap (value_or x) (sym e ∙ f)

pub some_value : {C : Type 0} (x y : C) → Some x ≡ Some y → x ≡ y
some_value x y e = cc

pub is_some_of : {C : Type 0} (x : Option C) (c : C) → x ≡ Some c → IsSome x
is_some_of x c e = subst IsSome (sym e) refl

pub desk_is : (board board' : TableId) (v w : View) → board' ≡ board → w ≡ v → let d : DeskView = record { board = board'; view = w } in d ≡ record { board = board; view = v }
desk_is board board' v w same is = ap (λ (z : TableId). let d : DeskView = record { board = z; view = w } in d) same ∙ ap (λ (z : View). let d : DeskView = record { board = board; view = z } in d) is

module _ {V : Type 0} (shows : V → Shown) (m m' m'' : Me (Option (Rows V)) View) (got : Got shows m m') (now : m'' ≡ (m'.0, (0, None) ∷ rest m'.1)) where
  abbrev pub had : View
  had = record m.0 { out = true; seen = m.0.seen ++ got.between; noted = [] }

  pub view_now : m''.0 ≡ had
  view_now = ap (λ x. x.0) now ∙ got.view

  pub carried_now : m.1 ≡ [] → m''.1 ≡ carried_of m''.0.out
  carried_now none = ap (λ x. x.1) now ∙ (ap (λ l. (0, None) ∷ rest l) got.carried ∙ (ap (λ l. (0, None) ∷ l) none ∙ ap (λ (x : View). carried_of x.out) (sym view_now)))

  pub gets_now : (board board' : TableId) (rows : Rows V) → board' ≡ board → got.rows ≡ rows → Gets shows (record { board = board; view = m.0 }) (record { board = board'; view = m''.0 }) rows
  gets_now board board' rows same is = record {
    between = got.between;
    desk = desk_is board board' had m''.0 same view_now;
    others = got.others;
    own = got.own;
    after = subst (λ (r : Rows V). IsAfter shows m.0.terms (m.0.seen ++ got.between) r) is got.after;
  }
