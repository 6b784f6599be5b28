-- One seat tells another: a copy is cut off, joined, and then the history is looked at.
use Rattle.std.proofs.Common.{◌≡◌, ◌≢◌, ℕ, List, [], ◌∷◌, ◌++◌, set, ⊎_elim, sym, refl, ap, ◌∙◌, subst, Option}
use Rattle.std.proofs.lemmas.List.{append-nil}
use mathlib.Core.Option.{some, none}
use lib.ListN.{get_elem?}
use lib.Seq.{set-get_or}
use Rattle.atomic_table.specs.Table.{State, Me, step, keeps, Allows, Splits, Joins}
use Rattle.atomic_table.proofs.Lists.{at_set, set_again, at_snoc}
use Rattle.hx_base.specs.Shown.{Shown}
use Rattle.hx_pool.specs.declared.board.BoardTerms.{BoardTerms}
use Rattle.hx_places.specs.declared.view.View.{View}
use Rattle.hx_places.specs.declared.view.Role.TheVariants.{Works, Copy}
use Rattle.hx_places.specs.Right.{IsRight}
use Rattle.hx_places.specs.Views.{copy_of, told_by, spent, heard}
use Rattle.hx_places.specs.Rule.{Sees, Knows, Sits}
use Rattle.hx_places.proofs.Frame.{only_same, St, Rule, knows, terms_at, steps, whole_own}

module _ {V : Type 0} (shows : V → Shown) (b : BoardTerms) where
  abbrev R : State (Option V) View → Type 0
  R = Rule shows b

  abbrev M : Type 0
  M = Me (Option V) View

  -- the same table with other views
  viewed : (s : St shows b) (r : R s) (views : List View)
      → ((j : ℕ) (v : View) → get_elem? views j ≡ some v → Sits b r.given r.log r.states r.owner j v)
      → R record { words = s.words; homes = s.homes; views = views }
  viewed s r views each = record {
    log = r.log;
    states = r.states;
    owner = r.owner;
    given = r.given;
    right = r.right;
    wide = r.wide;
    deep = r.deep;
    few_threads = r.few_threads;
    heads = r.heads;
    each_place = r.each_place;
    each_seat = each;
    not_given = r.not_given;
  }

  pub copies : (id : ℕ) (v : View) → v.role ≡ Works → Splits R id v v (copy_of v)
  copies id v works s r here =
      let k = (knows shows b s r id v Works here works).2 in
      viewed s r (set s.views id v ++ copy_of v ∷ []) (λ j x e. ⊎_elim
      (λ (e' : get_elem? (set s.views id v) j ≡ some x). r.each_seat j x
      (subst (λ (l : List View). get_elem? l j ≡ some x) (set_again s.views id v here) e'))
      (λ (e' : copy_of v ≡ x). subst
      (Sits b r.given r.log r.states r.owner j) e' record {
        knows = (k.rest, k.whole);
        terms = λ z. cc;
        makes =
            λ z. cc;
      })
      (at_snoc (set s.views id v) (copy_of v) x j e))

  pub joins : (id : ℕ) (v : View) (other : ℕ) (w : View) → v.role ≡ Works → w.role ≡ Copy
      → Joins R id v other w (told_by v w) spent
  joins id v other w works copy s r here apart there =
      let both : View = told_by v w in
      let kn = knows shows b s r id v Works here works in
      let k = kn.2 in
      let sits = r.each_seat id v here in
      let was : get_elem? s.views other ≡ some w =
      ⊎_elim (λ (t : (other ≡ id) × (both ≡ w)). absurd (apart t.0))
      (λ (t : (other ≢ id) × (get_elem? s.views other ≡ some w)). t.1) (at_set s.views id other both w there) in
      let c = knows shows b s r other w Copy was copy in
      viewed s r (set (set s.views id both) other spent) (λ j x e. ⊎_elim
      (λ (t : (j ≡ other) × (spent ≡ x)). subst
      (Sits b r.given r.log r.states r.owner j) t.1 record { knows = tt; terms = λ z. cc; makes = λ z. cc })
      (λ (t : (j ≢ other) × (get_elem? (set s.views id both) j ≡ some x)). ⊎_elim
      (λ (u : (j ≡ id) × (both ≡ x)). subst (λ (z : ℕ × View). Sits b r.given r.log r.states r.owner z.0 z.1)
      (λ i. (sym u.0 i, u.1 i)) record {
        knows = subst (Knows r.given r.log r.states r.owner id both) (sym works)
            (kn.0, kn.1, record { rest = k.rest; whole = k.whole; others = k.others; own = k.own; told = c }, kn.3);
        terms = sits.terms;
        makes = sits.makes;
      })
      (λ (u : (j ≢ id) × (get_elem? s.views j ≡ some x)). r.each_seat j x u.1)
      (at_set s.views id j both x t.1))
      (at_set (set s.views id both) other j spent x e))

  pub hears : (slots id : ℕ) (me : M) → me.0.role ≡ Works
      → Allows R slots id me 0 (λ k. k) (heard (step slots 0 0 0 none) me)
  hears slots id me works s r deep here small =
      let v : View = me.0 in
      let kn = knows shows b s r id v Works here works in
      let k = kn.2 in
      let terms = terms_at shows b s r id v here works in
      let w : View = record v { seen = r.log; told = [] } in
      let sees : Sees r.log w =
      record {
        rest = [];
        whole = sym (append-nil r.log);
        others = refl;
        own = whole_own r.log v k;
        told =
            (r.log, refl);
      } in
      let did = steps shows b s r id v w r.log [] s.words s.homes r.states here works works refl terms
      (sym (append-nil r.log)) sees tt r.right refl refl r.heads r.each_place kn.3
      (only_same v.thread r.states) in (
        w,
        keeps,
        tt,
        subst (λ (ws : List ℕ). R record { words = ws; homes = s.homes; views = set s.views id w })
            (sym (set-get_or s.words 0 0)) did,
        (
          refl,
          record {
            between = k.rest;
            more = k.told.0;
            view = ap (λ x. record v { seen = x; told = [] }) k.whole;
            told = sym k.whole ∙ k.told.1;
            others = k.others;
            right = subst (λ (x : BoardTerms). IsRight x (v.seen ++ k.rest)) (sym terms)
                (subst (λ x. IsRight b x) k.whole r.right);
          },
        ),
      )
