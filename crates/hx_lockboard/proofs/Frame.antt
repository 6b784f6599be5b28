-- What stays of a board's rule when one seat makes a step.
use Rattle.std.proofs.Common.{◌≡◌, ◌≢◌, ℕ, ◌+◌, ◌%◌, ◌^◌, ◌<◌, ◌≤◌, Bool, true, false, List, [], ◌∷◌, ◌++◌, length, get_or, set, ⊎_elim, sym, refl, ap, ◌∙◌, subst, arith, Option, Some, None, append_assoc}
use mathlib.Core.Option.{some, none, some-injective, some-ne-none}
use mathlib.Core.Option as maybe
use lib.ListN.{get_elem?}
use Rattle.atomic_table.specs.Table.{State}
use Rattle.atomic_table.proofs.Lists.{at_set}
use Rattle.hx_base.specs.declared.numbers.ThreadNo.{ThreadNo}
use Rattle.hx_base.specs.Shown.{Shown}
use Rattle.hx_pool.specs.declared.board.BoardTerms.{BoardTerms}
use Rattle.hx_pool.specs.declared.entries.Note.{Note}
use Rattle.hx_pool.specs.History.{own_of}
use Rattle.hx_pool.proofs.Histories.{own_of-append}
use Rattle.hx_resting.specs.declared.values.Rows.{Rows}
use Rattle.hx_resting.specs.declared.roles.View.{View}
use Rattle.hx_resting.specs.declared.roles.Role.{Role}
use Rattle.hx_resting.specs.declared.roles.Role.TheVariants.{Makes, Works, Copy, Spent}
use Rattle.hx_resting.specs.Rows.{IsRight}
use Rattle.hx_lockboard.specs.Rule.{AllBy, Begins, Sees, Knows, Sits, Lies, Kept}
use Rattle.hx_lockboard.proofs.Owners.{none_of}

pub begins_more : (log es seen : List Note) → Begins log seen → Begins (log ++ es) seen
begins_more log es seen b = (b.0 ++ es, ap (λ l. l ++ es) b.1 ∙ append_assoc seen b.0 es)

others_know : (given : ℕ) (log es : List Note) (owner : ℕ → ℕ) (t : ThreadNo) (seat j : ℕ) (v : View) → owner t.0 ≡ j → seat ≢ j → AllBy t es → (role : Role) → Knows given log owner seat v role → Knows given (log ++ es) owner seat v role
others_know given log es owner t seat j v owned apart all Makes k = k
others_know given log es owner t seat j v owned apart all Works k =
    let other : v.thread.0 ≢ t.0 = λ same. apart (sym k.1 ∙ (ap owner same ∙ owned)) in
    let sees = k.2 in (
      k.0,
      k.1,
      record {
        rest = sees.rest ++ es;
        whole = ap (λ l. l ++ es) sees.whole ∙ append_assoc v.seen sees.rest es;
        others = own_of-append v.thread sees.rest es ∙ (ap (λ l. l ++ own_of v.thread es) sees.others ∙ none_of t v.thread es other all);
        own = sees.own;
        told = begins_more log es v.told sees.told;
      },
    )
others_know given log es owner t seat j v owned apart all Copy k = begins_more log es v.seen k
others_know given log es owner t seat j v owned apart all Spent k = k

pub set_there : {A : Type 0} (l : List A) (i : ℕ) (a b : A) → get_elem? l i ≡ some a → get_elem? (set l i b) i ≡ some b
set_there [] i a b e = absurd (some-ne-none a (sym e))
set_there (x ∷ xs) Rattle.std.proofs.Common.zero a b e = refl
set_there (x ∷ xs) (Rattle.std.proofs.Common.suc i) a b e = set_there xs i a b e

module _ {V : Type 0} (shows : V → Shown) (b : BoardTerms) where
  abbrev pub St : Type 0
  St = State (Option (Rows V)) View

  abbrev pub Rule : St → Type 0
  Rule s = Kept shows b s

  pub knows : (s : St) (r : Rule s) (j : ℕ) (v : View) (role : Role) → get_elem? s.views j ≡ some v → v.role ≡ role → Knows r.given r.log r.owner j v role
  knows s r j v role at is = subst (Knows r.given r.log r.owner j v) is (r.each_seat j v at).knows

  -- a step of a thread's seat, which adds these entries to the history
  pub moved : (s : St) (r : Rule s) (id : ℕ) (v w : View) (log es : List Note) (ws : List ℕ) (hs : List (maybe.Option (Option (Rows V)))) (holder : Option ℕ) (noted : ℕ)
      → get_elem? s.views id ≡ some v → v.role ≡ Works → w.role ≡ Works → w.thread ≡ v.thread → w.terms ≡ b → log ≡ r.log ++ es → Sees log w → AllBy v.thread es
      → (w.out ≡ true → holder ≡ Some id) → ((j : ℕ) → j ≢ id → r.holder ≡ Some j → holder ≡ Some j)
      → IsRight b log → length ws ≡ 2 → get_or ws 1 0 ≡ noted % 2 ^ 64 → Lies shows b (record { words = ws; homes = hs; views = set s.views id w }) log noted holder
      → Rule (record { words = ws; homes = hs; views = set s.views id w })
  moved s r id v w log es ws hs holder noted here works works' thread terms grown sees all held others right two counts lies =
      let k = knows s r id v Works here works in record {
        log = log;
        given = r.given;
        owner = r.owner;
        holder = holder;
        noted = noted;
        right = right;
        two = two;
        counts = counts;
        lies = lies;
        each_seat = λ j x e. ⊎_elim
            (λ (t : (j ≡ id) × (w ≡ x)). subst (λ (z : ℕ × View). Sits b r.given log r.owner holder z.0 z.1) (λ i. (sym t.0 i, t.1 i)) record {
              knows = subst (Knows r.given log r.owner id w) (sym works') (
                subst (λ (z : ThreadNo). z.0 < r.given) (sym thread) k.0,
                ap (λ (z : ThreadNo). r.owner z.0) thread ∙ k.1,
                sees,
              );
              terms = λ _. terms;
              makes = λ _. terms;
              holds = held;
            })
            (λ (t : (j ≢ id) × (get_elem? s.views j ≡ some x)).
            let was = r.each_seat j x t.1 in record {
              knows = subst (λ l. Knows r.given l r.owner j x x.role) (sym grown) (others_know r.given r.log es r.owner v.thread j id x k.1 t.0 all x.role was.knows);
              terms = was.terms;
              makes = was.makes;
              holds = λ o. others j t.0 (was.holds o);
            })
            (at_set s.views id j w x e);
        not_given = λ t l. ap (own_of t) grown ∙ (own_of-append t r.log es ∙ (ap (λ y. y ++ own_of t es) (r.not_given t l)
            ∙ none_of v.thread t es (λ same. let low = k.0 in omega arith) all));
        few_threads = r.few_threads;
      }
