-- Whole rows, list by list and one after another.
use Rattle.std.proofs.Common.{◌≡◌, ◌≢◌, inl, inr, ⊎_elim, ℕ, ◌+◌, ◌-◌, ◌*◌, ◌<◌, ◌≤◌, Bool, true, false, List, ◌++◌, sym, ap, ◌∙◌, subst, arith}
use Rattle.std.specs.Prelude.{not, Option, Some, None, MatchOption}
use Rattle.hx_takeover.specs.declared.scan.Over.{Over}
use Rattle.std.proofs.lemmas.List.{length-append}
use Rattle.std.proofs.lemmas.Bool.{cases_eq}
use Rattle.hx_base.specs.declared.numbers.SessionNo.{SessionNo}
use Rattle.hx_base.specs.declared.numbers.PlaceNo.{PlaceNo}
use Rattle.hx_base.specs.declared.rules.PoolRules.{PoolRules}
use Rattle.hx_base.specs.Shown.{Shown}
use Rattle.hx_pool.specs.declared.board.BoardTerms.{BoardTerms}
use Rattle.hx_pool.specs.declared.entries.Note.{Note}
use Rattle.hx_pool.specs.Rules.{allows}
use Rattle.hx_pool.specs.Causes.{place_of}
use Rattle.hx_pool.specs.Taking.{is_safe}
use Rattle.hx_resting.specs.Row.{fits}
use Rattle.hx_rows.proofs.Choosing.{fit_true}
use Rattle.hx_places.specs.Seats.{PlaceView, Stands}
use Rattle.hx_takeover.specs.Scans.{may, may_in, row_after, ListPassed, RowPassed, IsFirstInRow, Looked, Passes, TakesInList, PassesRow, TakesInRow, PassesRows, TakesInRows}
use Rattle.hx_takeover.proofs.Lists.{more_left, more_right, both_lists, one_list}
use Rattle.hx_takeover.proofs.Trying.{looked_none, looked_both, took_after, back_to}

-- the list of a connection that fits
list_is : (s : PlaceView) (first safe : Bool) (uses : ℕ) → may_in s first safe uses ≡ true → is_safe uses ≡ safe
list_is s first safe uses e = (fit_true (may s first uses) (is_safe uses) safe e).1

-- the preferred list had one
pub row_first : (s0 s1 : PlaceView) (n : SessionNo) (first : Bool) (row : ℕ) (place : PlaceNo) (v : Shown) → TakesInList s0 s1 n first first row place v → TakesInRow s0 s1 n first row place v
row_first s0 s1 n first row place v t = record {
  looks = t.looks;
  few = let e = t.few in omega arith;
  took = t.took;
  row_is = t.row_is;
  inside = t.inside;
  order = inl (list_is s0 first first v.face.uses t.fit, subst (λ r. ListPassed s0 first first t.looks r place.place) (sym t.row_is) t.before);
}

-- the other list has nothing that is allowed
pub row_one : (s0 s1 : PlaceView) (first : Bool) (row : ℕ) → Passes s0 s1 first first row 64 → ((u : ℕ) → may_in s0 first (not first) u ≡ false) → PassesRow s0 s1 first row
row_one s0 s1 first row p none = record {
  only = record { looks = p.only.looks; looked = p.only.looked; steps = p.only.steps; few = let e = p.only.few in omega arith };
  none = λ q h. one_list s0.view.terms.rules.mode first s0.view.thread p.only.looks (place_of row q) none (p.none q h);
}

-- looks of the second list, for the first seat
list_back : (s0 s1 : PlaceView) (a : ℕ) (first safe : Bool) (ys : List Note) (row k : ℕ) → (l : Looked s0 s1 a) → ListPassed s1 first safe ys row k → ListPassed s0 first safe (l.looks ++ ys) row k
list_back s0 s1 a first safe ys row k l m q h =
    more_right (may_in s0 first safe) s0.view.thread l.looks ys (place_of row q)
    (back_to s0 s1 a (λ (r : PoolRules) u. fits r.mode first safe u) ys (place_of row q) l (m q h))

list_left : (s : PlaceView) (first safe : Bool) (xs ys : List Note) (row k : ℕ) → ListPassed s first safe xs row k → ListPassed s first safe (xs ++ ys) row k
list_left s first safe xs ys row k m q h = more_left (may_in s first safe) s.view.thread xs ys (place_of row q) (m q h)

-- neither list had any
pub row_both : (s0 s1 s2 : PlaceView) (first : Bool) (row : ℕ) → Passes s0 s1 first first row 64 → Passes s1 s2 first (not first) row 64 → PassesRow s0 s2 first row
row_both s0 s1 s2 first row p k =
    let l = looked_both s0 s1 s2 128 128 p.only k.only in record {
      only = record { looks = l.looks; looked = l.looked; steps = l.steps; few = let e = l.few in omega arith };
      none = λ q h. both_lists s0.view.terms.rules.mode first s0.view.thread (p.only.looks ++ k.only.looks) (place_of row q)
          (list_left s0 first first p.only.looks k.only.looks row 64 p.none q h)
          (list_back s0 s1 128 first (not first) k.only.looks row 64 p.only k.none q h);
    }

-- the other list had one
pub row_second : (s0 s1 s2 : PlaceView) (n : SessionNo) (first : Bool) (row : ℕ) (place : PlaceNo) (v : Shown) → Passes s0 s1 first first row 64 → TakesInList s1 s2 n first (not first) row place v
    → TakesInRow s0 s2 n first row place v
row_second s0 s1 s2 n first row place v p t = record {
  looks = p.only.looks ++ t.looks;
  few = let e = length-append p.only.looks t.looks in let a = p.only.few in let b = t.few in omega arith;
  took = took_after s0 s1 s2 128 n first place v t.looks p.only t.took;
  row_is = t.row_is;
  inside = t.inside;
  order = inr (
    list_is s1 first (not first) v.face.uses t.fit,
    subst (λ r. ListPassed s0 first first (p.only.looks ++ t.looks) r 64) (sym t.row_is) (list_left s0 first first p.only.looks t.looks row 64 p.none),
    subst (λ r. ListPassed s0 first (not first) (p.only.looks ++ t.looks) r place.place) (sym t.row_is) (list_back s0 s1 128 first (not first) t.looks row place.place p.only t.before),
  );
}

row_back : (s0 s1 : PlaceView) (a : ℕ) (first : Bool) (ys : List Note) (row : ℕ) → (l : Looked s0 s1 a) → RowPassed s1 first ys row → RowPassed s0 first (l.looks ++ ys) row
row_back s0 s1 a first ys row l m q h =
    more_right (may s0 first) s0.view.thread l.looks ys (place_of row q)
    (back_to s0 s1 a (λ (r : PoolRules) u. allows r.mode first u) ys (place_of row q) l (m q h))

row_left : (s : PlaceView) (first : Bool) (xs ys : List Note) (row : ℕ) → RowPassed s first xs row → RowPassed s first (xs ++ ys) row
row_left s first xs ys row m q h = more_left (may s first) s.view.thread xs ys (place_of row q) (m q h)

-- one row more
pub rows_more : (s0 s1 s2 : PlaceView) (first : Bool) (k : ℕ) → 1 ≤ k → PassesRows s0 s1 first k → PassesRow s1 s2 first (row_after s0 k) → PassesRows s0 s2 first (k + 1)
rows_more s0 s1 s2 first k one p m =
    let l = looked_both s0 s1 s2 (256 * (k - 1)) 256 p.only m.only in record {
      only = record { looks = l.looks; looked = l.looked; steps = l.steps; few = let e = l.few in omega arith };
      none = λ j low h. ⊎_elim
          (λ (e : j ≡ k). subst (λ i. RowPassed s0 first (p.only.looks ++ m.only.looks) (row_after s0 i)) (sym e)
          (row_back s0 s1 (256 * (k - 1)) first m.only.looks (row_after s0 k) p.only m.none))
          (λ (ne : j ≢ k). row_left s0 first p.only.looks m.only.looks (row_after s0 j) (p.none j low (omega arith)))
          (cases_eq j k);
    }

first_back : (s0 s1 : PlaceView) (a : ℕ) (first : Bool) (ys : List Note) (place : PlaceNo) (uses : ℕ) → (l : Looked s0 s1 a) → IsFirstInRow s1 first ys place uses → IsFirstInRow s0 first (l.looks ++ ys) place uses
first_back s0 s1 a first ys place uses l o = ⊎_elim
    (λ (x : (is_safe uses ≡ first) × ListPassed s1 first first ys place.row place.place). inl (x.0, list_back s0 s1 a first first ys place.row place.place l x.1))
    (λ (x : (is_safe uses ≡ not first) × ListPassed s1 first first ys place.row 64 × ListPassed s1 first (not first) ys place.row place.place).
    inr (x.0, list_back s0 s1 a first first ys place.row 64 l x.1, list_back s0 s1 a first (not first) ys place.row place.place l x.2))
    o

-- the next row had one
pub rows_takes : (s0 s1 s2 : PlaceView) (n : SessionNo) (first : Bool) (k : ℕ) (place : PlaceNo) (v : Shown) → 1 ≤ k → k < s0.view.terms.threads → s0.view.terms.threads ≤ 16
    → PassesRows s0 s1 first k → TakesInRow s1 s2 n first (row_after s0 k) place v → TakesInRows s0 s2 n first place v
rows_takes s0 s1 s2 n first k place v one low sixteen p t = record {
  looks = p.only.looks ++ t.looks;
  few = let e = length-append p.only.looks t.looks in let a = p.only.few in let b = t.few in omega arith;
  took = took_after s0 s1 s2 (256 * (k - 1)) n first place v t.looks p.only t.took;
  step = k;
  ahead = one;
  below = low;
  row_is = t.row_is;
  inside = t.inside;
  rows = λ j a h. row_left s0 first p.only.looks t.looks (row_after s0 j) (p.none j a h);
  order = first_back s0 s1 (256 * (k - 1)) first t.looks place v.face.uses p.only t.order;
}

pub rows_none : (s : PlaceView) (first : Bool) → Stands s.view → PassesRows s s first 1
rows_none s first k = record { only = looked_none s 0 k; none = λ j a h. absurd (omega arith) }

-- the same by the rules that the seat tells after the looks
pub row_one_by : (s0 s1 : PlaceView) (first : Bool) (row : ℕ) (r : PoolRules) → Passes s0 s1 first first row 64 → r ≡ s1.view.terms.rules → ((u : ℕ) → fits r.mode first (not first) u ≡ false) → PassesRow s0 s1 first row
row_one_by s0 s1 first row r p is none = row_one s0 s1 first row p
    (λ u. ap (λ (b : BoardTerms). fits b.rules.mode first (not first) u) (sym p.only.steps.terms) ∙ (ap (λ (q : PoolRules). fits q.mode first (not first) u) (sym is) ∙ none u))

module _ {V : Type 0} (shows : V → Shown) where
  -- the second list
  pub row_end : (s0 s1 s2 : PlaceView) (n : SessionNo) (first : Bool) (row : ℕ) (o : Option (Over V)) → Passes s0 s1 first first row 64
      → MatchOption o (Passes s1 s2 first (not first) row 64) (λ x. TakesInList s1 s2 n first (not first) row x.place (shows x.v))
      → MatchOption o (PassesRow s0 s2 first row) (λ x. TakesInRow s0 s2 n first row x.place (shows x.v))
  row_end s0 s1 s2 n first row None p k = row_both s0 s1 s2 first row p k
  row_end s0 s1 s2 n first row (Some x) p k = row_second s0 s1 s2 n first row x.place (shows x.v) p k
