-- A board is made, and its seats.
use Rattle.std.proofs.Common.{◌≡◌, ◌≢◌, ℕ, zero, suc, ◌+◌, ◌*◌, ◌<◌, ◌≤◌, List, [], ◌∷◌, ◌++◌, length, map, replicate}
use Rattle.std.proofs.Common.{get_or, set, ◌⊎◌, ⊎_elim, inl, inr, sym, refl, ap, ◌∙◌, subst, arith, Option, Some, None}
use Rattle.std.proofs.Common.{length-set, get_or-set_other, get_or-set_same, length-append, slice_get}
use mathlib.Core.Option.{some, some-injective, some-ne-none}
use lib.ListN.{get_elem?, length-map, length-replicate, get_or-replicate}
use Rattle.atomic_table.specs.Table.{opening, Splits}
use Rattle.atomic_table.proofs.Lists.{at_set}
use Rattle.hx_base.specs.Shown.{Shown}
use Rattle.hx_pool.specs.declared.board.BoardTerms.{BoardTerms}
use Rattle.hx_pool.specs.declared.entries.Note.{Note}
use Rattle.hx_pool.specs.Table.{put}
use Rattle.hx_pool.proofs.Tables.{put_same, put_other}
use Rattle.hx_places.specs.declared.view.View.{View}
use Rattle.hx_places.specs.declared.view.Role.{Role}
use Rattle.hx_places.specs.declared.view.Role.TheVariants.{Makes, Works, Copy, Spent}
use Rattle.hx_places.specs.Views.{maker, worker, more_given}
use Rattle.hx_base.specs.declared.place_word.PlaceState.{PlaceState}
use Rattle.hx_base.specs.declared.place_word.PlaceState.TheVariants as state
use Rattle.hx_places.specs.Rule.{Knows, Sits}
use Rattle.hx_places.proofs.Rightness.{right_start}
use Rattle.hx_places.proofs.Frame.{Rule, knows}

all_vacant : {A : Type 0} (n i : ℕ) (a : A) → i < n → get_elem? (map some (replicate n a)) i ≡ some (some a)
all_vacant zero i a h = absurd (omega arith)
all_vacant (suc n) zero a h = refl
all_vacant (suc n) (suc i) a h = all_vacant n i a (omega arith)

at_end : {A : Type 0} (l : List A) (a b : A) (j : ℕ) → get_elem? (l ++ a ∷ []) j ≡ some b
    → (get_elem? l j ≡ some b) ⊎ ((j ≡ length l) × (a ≡ b))
at_end [] a b zero e = inr (refl, some-injective a b e)
at_end [] a b (suc j) e = absurd (some-ne-none b (sym e))
at_end (x ∷ xs) a b zero e = inl e
at_end (x ∷ xs) a b (suc j) e = ⊎_elim inl (λ t. inr (ap suc t.0, t.1)) (at_end xs a b j e)

abbrev zeros : ℕ → List ℕ
zeros n = replicate n 0

long_zeros : (n : ℕ) → length (zeros n) ≡ n
long_zeros n = length-replicate n 0

one_more_given : (given : ℕ) (log : List Note) (states : ℕ → PlaceState) (owner : ℕ → ℕ) (last seat : ℕ) (v : View)
    → seat ≢ 0 → (role : Role) → Knows given log states owner seat v role
    → Knows (given + 1) log states (put owner given last) seat v role
one_more_given given log states owner last seat v other Makes k = absurd (other k.0)
one_more_given given log states owner last seat v other Works k =
    (omega arith, put_other owner given last v.thread.0 (λ same. let low = k.0 in omega arith) ∙ k.1, k.2, k.3)
one_more_given given log states owner last seat v other Copy k = k
one_more_given given log states owner last seat v other Spent k = tt

module _ {V : Type 0} (shows : V → Shown) (b : BoardTerms) where
  pub starts : (ws : List ℕ) (n : ℕ) → b.threads ≤ 16 → n ≡ 64 * b.threads → ws ≡ set (zeros (n + 4)) 1 1
      → Rule shows b (opening ws (replicate n None) (maker b))
  starts ws n most is ws_is = record {
    log = [];
    states = λ _. state.Vacant;
    owner = λ _. 0;
    given = 0;
    right = right_start b;
    wide = ap length ws_is ∙ (length-set (zeros (n + 4)) 1 1 ∙ (long_zeros (n + 4) ∙ omega arith));
    deep = length-map (replicate n None) (λ (x : Option V). some x) ∙ (length-replicate n None ∙ is);
    few_threads = (omega arith, most);
    heads = record {
      gate_is = ap (λ (l : List ℕ). get_or l 0 0) ws_is
          ∙ (get_or-set_other (zeros (n + 4)) 1 0 1 0 (λ e. omega arith)
          ∙ get_or-replicate (n + 4) 0 0 0 (omega arith));
      next_is = ap (λ (l : List ℕ). get_or l 1 0) ws_is
          ∙ get_or-set_same (zeros (n + 4)) 1 1 0 (let l = long_zeros (n + 4) in omega arith);
      count_is = ap (λ (l : List ℕ). get_or l 2 0) ws_is
          ∙ (get_or-set_other (zeros (n + 4)) 1 2 1 0 (λ e. omega arith)
          ∙ get_or-replicate (n + 4) 2 0 0 (omega arith));
      round_is = ap (λ (l : List ℕ). get_or l 3 0) ws_is
          ∙ (get_or-set_other (zeros (n + 4)) 1 3 1 0 (λ e. omega arith)
          ∙ get_or-replicate (n + 4) 3 0 0 (omega arith));
    };
    each_place = λ p l. record {
      shown = ap (λ (l : List ℕ). get_or l (p + 4) 0) ws_is
          ∙ (get_or-set_other (zeros (n + 4)) 1 (p + 4) 1 0 (λ e. omega arith)
          ∙ get_or-replicate (n + 4) (p + 4) 0 0 (omega arith));
      stands = refl;
      lies = all_vacant n p None (omega arith);
    };
    each_seat = first;
    not_given = λ t l. record { silent = refl; empty = λ p row e. absurd (cc) };
  }
    where
      first : (j : ℕ) (v : View) → get_elem? (maker b ∷ []) j ≡ some v → Sits b 0 [] (λ _. state.Vacant) (λ _. 0) j v
      first zero v e =
          subst (Sits b 0 [] (λ _. state.Vacant) (λ _. 0) 0)
          (some-injective (maker b) v e) record { knows = (refl, refl); terms = λ z. cc; makes = λ z. refl }
      first (suc j) v e = absurd (some-ne-none v (sym e))

  pub gives_seat : (id : ℕ) (v : View) → v.role ≡ Makes → v.thread.0 < b.threads
      → Splits (Rule shows b) id v (more_given v) (worker v.terms v.thread)
  gives_seat id v makes room s r here =
      let k = knows shows b s r id v Makes here makes in
      let sits = r.each_seat id v here in
      let left : View = more_given v in
      let right : View = worker v.terms v.thread in
      let g : ℕ = r.given in
      let last : ℕ = length s.views in
      let is : v.thread.0 ≡ g = k.1 in
      let most = r.few_threads in
      let none = r.not_given v.thread (omega arith) in record {
        log = r.log;
        states = r.states;
        owner = put r.owner g last;
        given = g + 1;
        right = r.right;
        wide = r.wide;
        deep = r.deep;
        few_threads = (omega arith, most.1);
        heads = r.heads;
        each_place = r.each_place;
        each_seat = λ j x e. ⊎_elim (λ (e' : get_elem? (set s.views id left) j ≡ some x). ⊎_elim
            (λ (t : (j ≡ id) × (left ≡ x)). subst
            (λ (z : ℕ × View). Sits b (g + 1) r.log r.states (put r.owner g last) z.0 z.1)
            (λ i. (sym t.0 i, t.1 i)) record {
              knows = subst (Knows (g + 1) r.log r.states (put r.owner g last) id left) (sym makes) (k.0, omega arith);
              terms = sits.terms;
              makes = sits.makes;
            })
            (λ (t : (j ≢ id) × (get_elem? s.views j ≡ some x)). let was = r.each_seat j x t.1 in
            record {
              knows =
                  one_more_given g r.log r.states r.owner last j x (λ z. t.0 (z ∙ sym k.0)) x.role was.knows;
              terms =
                  was.terms;
              makes = was.makes;
            })
            (at_set s.views id j left x e'))
            (λ (t : (j ≡ length (set s.views id left)) × (right ≡ x)). subst
            (λ (z : ℕ × View). Sits b (g + 1) r.log r.states (put r.owner g last) z.0 z.1)
            (λ i. (sym (t.0 ∙ length-set s.views id left) i, t.1 i)) record {
              knows = (
                omega arith,
                put_same r.owner g last v.thread.0 is,
                record { rest = r.log; whole = refl; others = none.silent; own = refl; told = (r.log, refl) },
                record { claimed = λ q e. absurd (cc); only = λ p row e. absurd (none.empty p row e) },
              );
              terms = λ _. sits.makes makes;
              makes = λ z. cc;
            })
            (at_end (set s.views id left) right x j e);
        not_given = λ t l. r.not_given t (omega arith);
      }

get_snoc : {A : Type 0} (xs : List A) (x : A) (k : ℕ) (y : A) → slice_get (xs ++ x ∷ []) k ≡ Some y
    → (slice_get xs k ≡ Some y) ⊎ ((k ≡ length xs) × (x ≡ y))
get_snoc [] x zero y e = inr (refl, (cc))
get_snoc [] x (suc k) y e = absurd (cc)
get_snoc (z ∷ xs) x zero y e = inl e
get_snoc (z ∷ xs) x (suc k) y e = ⊎_elim inl (λ t. inr (ap suc t.0, t.1)) (get_snoc xs x k y e)

-- what holds of each element and its place holds with one more
pub each_more : {A : Type 0} (F : ℕ → A → Type 0) (xs ys : List A) (x : A) (n : ℕ) → ys ≡ xs ++ x ∷ []
    → length xs ≡ n → ((k : ℕ) (s : A) → slice_get xs k ≡ Some s → F k s) → F n x → (k : ℕ) (s : A)
    → slice_get ys k ≡ Some s → F k s
each_more {A} F xs ys x n is long old here k s e = ⊎_elim (λ (e' : slice_get xs k ≡ Some s). old k s e')
    (λ (t : (k ≡ length xs) × (x ≡ s)). subst (λ (z : ℕ × A). F z.0 z.1) (λ i. (sym (t.0 ∙ long) i, t.1 i)) here)
    (get_snoc xs x k s (subst (λ (l : List A). slice_get l k ≡ Some s) is e))

pub length_snoc : {A : Type 0} (xs ys : List A) (x : A) (n : ℕ) → ys ≡ xs ++ x ∷ [] → length xs ≡ n → length ys ≡ n + 1
length_snoc xs ys x n is long = ap length is ∙ (length-append xs (x ∷ []) ∙ omega arith)
