-- A history that the rules of a board allow, one entry on.
use Rattle.std.proofs.Common.{◌≡◌, ◌≢◌, ℕ, ◌+◌, ◌<◌, ◌≤◌, Bool, true, false, cond, List, [], ◌∷◌, ◌++◌, sym, refl, ap}
use Rattle.std.proofs.Common.{◌∙◌, subst, arith, Option, Some, None, IfSome}
use native.Mathlib.Decide.{ℕ_discrete}
use mathlib.Core.Logic.{dite}
use Rattle.hx_base.specs.declared.numbers.ThreadNo.{ThreadNo}
use Rattle.hx_base.specs.declared.what.What.{What}
use Rattle.hx_pool.specs.declared.board.BoardTerms.{BoardTerms}
use Rattle.hx_pool.specs.declared.entries.Entry.{Entry}
use Rattle.hx_pool.specs.declared.entries.Entry.TheVariants.{Open, Park, Take, Free, Close, Look, Up, Down, Count}
use Rattle.hx_pool.specs.declared.entries.Entry.TheVariants.{Gate, SetGate, Round}
use Rattle.hx_pool.specs.declared.entries.Note.{Note}
use Rattle.hx_pool.specs.Table.{Table, Needs, after, after_entry, empty_table}
use Rattle.hx_pool.specs.History.{thread_of, own_of, table_after, MeetsNeeds, opens_of, is_open}
use Rattle.hx_pool.specs.Rules.{MayFollow, IsBelowMax}
use Rattle.hx_pool.specs.Opening.{open_limit}
use Rattle.hx_pool.proofs.Histories.{table_from-append, EachStep-append, opens_of-append, AllBelow-append}
use Rattle.hx_pool.proofs.Resting.{IsCounted, resting_counts}
use Rattle.hx_places.specs.Turns.{Due, turn_of, turn_after, KeepsTurns, MayTurn}
use Rattle.hx_places.specs.Sums.{thread_at, Sums, dues, SumsAfter}
use Rattle.hx_places.specs.Right.{IsPlainNote, ArePlain, IsRight}
use Rattle.hx_places.proofs.Lists.{own_more, own_stays}
use Rattle.hx_places.proofs.Turning.{turn_more, turns_more}
use Rattle.hx_places.proofs.Summing.{sums_entry, under_zero}

pub table_more : (H : List Note) (x : Note) → table_after (H ++ x ∷ []) ≡ after (table_after H) x
table_more H x = table_from-append empty_table H (x ∷ [])

next_one : (T : Table) (w : Option What) (e : Entry)
    → (after_entry T w e).next ≡ T.next + cond (is_open record { entry = e; what = w }) 1 0
next_one T w (Open t n id) = refl
next_one T w (Park t n id place uses) = omega arith
next_one T w (Take t n first place id uses) = omega arith
next_one T w (Free t place) = omega arith
next_one T w (Close t n id) = omega arith
next_one T w (Look t place found) = omega arith
next_one T w (Up t old) = omega arith
next_one T w (Down t old) = omega arith
next_one T w (Count t c) = omega arith
next_one T w (Gate t draining) = omega arith
next_one T w (SetGate t draining) = omega arith
next_one T w (Round t k old) = omega arith

below_of : (o : Option ℕ) (r : ℕ) → ((m : ℕ) → o ≡ Some m → r ≤ m) → IfSome o (λ m. r ≤ m)
below_of None r f = tt
below_of (Some m) r f = f m refl

one_open : (x : Note) → opens_of (x ∷ []) ≡ cond (is_open x) 1 0
one_open x = omega arith

room_is : (b : Bool) (k l : ℕ) → (b ≡ true → k < l) → k ≤ l → k + cond b 1 0 ≤ l
room_is true k l room low = let r = room refl in omega arith
room_is false k l room low = omega arith

pub counted_at : (b : BoardTerms) (H : List Note) → IsRight b H → IsCounted b.threads (table_after H)
counted_at b H r = resting_counts b.threads H r.threads r.legal

pub plain-append : (xs ys : List Note) → ArePlain xs → ArePlain ys → ArePlain (xs ++ ys)
plain-append [] ys a b = b
plain-append (x ∷ xs) ys a b = (a.0, plain-append xs ys a.1 b)

module _ (b : BoardTerms) (t : ThreadNo) (low : t.0 < b.threads) (H : List Note) (r : IsRight b H) (x : Note)
    (mine : thread_of x.entry ≡ t) where
  other_own : (u : ThreadNo) → u.0 ≢ t.0 → own_of u (H ++ x ∷ []) ≡ own_of u H
  other_own u ne = own_stays t u H x mine ne

  due_here : (dues (H ++ x ∷ []) t.0) ≡ (turn_after (turn_of (own_of t H)) x.entry).due
  due_here = ap (λ l. (turn_of l).due) (own_more t H x mine) ∙ ap (λ s. s.due) (turn_more (own_of t H) x)

  sums_more : Needs (table_after H) x.entry → MayTurn b.rules.max (turn_of (own_of t H)) x.entry
      → SumsAfter b (H ++ x ∷ [])
  sums_more need turn = let same : (thread_of x.entry).0 ≡ t.0 = ap (λ (u : ThreadNo). u.0) mine in
      subst (λ (T : Table). Sums b.rules.max b.threads T.count T.resting (dues (H ++ x ∷ []))) (sym (table_more H x))
      (sums_entry b.rules.max b.threads (table_after H) x.what x.entry (dues H) (dues (H ++ x ∷ []))
      (subst (λ (u : ThreadNo). u.0 < b.threads) (sym mine) low) need
      (subst (λ (u : ThreadNo). Rattle.hx_places.specs.Turns.CountsInTurn b.rules.max (dues H u.0) x.entry)
      (sym mine) turn.0)
      (subst (λ (u : ThreadNo). dues (H ++ x ∷ []) u.0 ≡ Rattle.hx_places.specs.Turns.due_after (dues H u.0) x.entry)
      (sym mine) due_here)
      (λ u ne. ap (λ l. (turn_of l).due) (other_own (thread_at u) (λ e. ne (e ∙ sym same))))
      (counted_at b H r) r.sums)

  pub right_more : Needs (table_after H) x.entry → MayFollow b.rules.mode (table_after H) x.entry
      → MayTurn b.rules.max (turn_of (own_of t H)) x.entry
      → (is_open x ≡ true → opens_of (own_of t H) < open_limit t) → IsPlainNote x → IsRight b (H ++ x ∷ [])
  right_more need keeps turn room beside = let sums = sums_more need turn in record {
    legal = EachStep-append MeetsNeeds empty_table H (x ∷ []) r.legal (need, tt);
    mode = EachStep-append (λ T y. MayFollow b.rules.mode T y.entry) empty_table H (x ∷ []) r.mode (keeps, tt);
    limit = EachStep-append (λ T y. IsBelowMax b.rules (after T y)) empty_table H (x ∷ []) r.limit (
      below_of b.rules.max (after (table_after H) x).resting
          (λ m is. let most = sums.within m is in let same = ap (λ (T : Table). T.resting) (table_more H x) in
          omega arith),
      tt,
    );
    threads = AllBelow-append b.threads H (x ∷ []) r.threads
        (subst (λ (u : ThreadNo). u.0 < b.threads) (sym mine) low, tt);
    turns = λ u. dite (ℕ_discrete u.0 t.0)
        (λ e. let same : t ≡ u = ap thread_at (sym e) in
        subst (λ (z : ThreadNo). KeepsTurns b.rules.max (own_of z (H ++ x ∷ []))) same
        (subst (KeepsTurns b.rules.max) (sym (own_more t H x mine))
        (turns_more b.rules.max (own_of t H) x (r.turns t) turn)))
        (λ ne. subst (KeepsTurns b.rules.max) (sym (other_own u ne)) (r.turns u));
    sums = sums;
    plain = plain-append H (x ∷ []) r.plain (beside, tt);
    opened = let more = opens_of-append H (x ∷ []) in let one = one_open x in let was = r.opened in let next =
        next_one (table_after H) x.what x.entry in let same = ap (λ (T : Table). T.next) (table_more H x) in
        omega arith;
    few = λ u. dite (ℕ_discrete u.0 t.0)
        (λ e. let same : t ≡ u = ap thread_at (sym e) in
        subst (λ (z : ThreadNo). opens_of (own_of z (H ++ x ∷ [])) ≤ open_limit z) same
        (let own = ap opens_of (own_more t H x mine) in let more = opens_of-append (own_of t H) (x ∷ []) in let one =
        one_open x in let fits = room_is (is_open x) (opens_of (own_of t H)) (open_limit t) room (r.few t) in
        omega arith))
        (λ ne. let own = ap opens_of (other_own u ne) in let was = r.few u in omega arith);
  }

pub right_start : (b : BoardTerms) → IsRight b []
right_start b = record {
  legal = tt;
  mode = tt;
  limit = tt;
  threads = tt;
  turns = λ t. tt;
  sums = record {
    count_is = let z = under_zero b.threads (λ _. 0) (λ _. refl) in omega arith;
    within =
        λ m is. let y = under_zero b.threads (λ _. 0) (λ _. refl) in omega arith;
  };
  plain = tt;
  opened = refl;
  few = λ t. omega arith;
}
