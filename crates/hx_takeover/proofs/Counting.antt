-- A Count, the looks behind it, and the take.
use Rattle.std.proofs.Common.{◌≡◌, ◌≢◌, ⊎_elim, ℕ, ◌+◌, ◌-◌, ◌%◌, ◌<◌, ◌≤◌, Bool, true, false, List, [], ◌∷◌, ◌++◌, refl, sym, ap, ◌∙◌, subst, arith, append_assoc, Option}
use Rattle.std.proofs.Math.Nat.{mod-eq_of_lt, add-mod_right}
use Rattle.std.proofs.lemmas.List.{length-append}
use Rattle.hx_base.specs.declared.numbers.ThreadNo.{ThreadNo}
use Rattle.hx_base.specs.declared.numbers.SessionNo.{SessionNo}
use Rattle.hx_base.specs.declared.numbers.PlaceNo.{PlaceNo}
use Rattle.hx_base.specs.Shown.{Shown}
use Rattle.hx_pool.specs.declared.board.BoardTerms.{BoardTerms}
use Rattle.hx_pool.specs.declared.entries.Entry.TheVariants.{Count}
use Rattle.hx_pool.specs.declared.entries.Note.{Note}
use Rattle.hx_pool.specs.declared.refusals.NoneOver.TheVariants.{NotAllowed, BelowLow, NoneSeen}
use Rattle.hx_pool.specs.History.{plain, what_of, IsEven}
use Rattle.hx_pool.specs.Rules.{allows}
use Rattle.hx_pool.specs.SeatView.{Grows}
use Rattle.hx_pool.specs.Causes.{AllLooks, IsUnavailableTo, place_of}
use Rattle.hx_pool.specs.Taking.{taken, taking}
use Rattle.hx_pool.specs.Takeover.{counted, TakesOver, OthersUnavailable, RefusesTakeover}
use Rattle.hx_pool.proofs.Histories.{even-append}
use Rattle.hx_pool.proofs.Calls.{looks_even, looks_marks, marks_taking}
use Rattle.hx_pool.proofs.Purges.{le_cases}
use Rattle.hx_places.specs.Turns.{first_turn}
use Rattle.hx_places.specs.Seats.{PlaceView, Stands, Notes, history_of}
use Rattle.hx_rows.specs.declared.stays.Stay.{Stay}
use Rattle.hx_rows.specs.Row.{IsRowOf}
use Rattle.hx_rows.specs.Steps.{Steps, IsAtRest}
use Rattle.hx_rows.proofs.Resting.{no_parks_both}
use Rattle.hx_rows.proofs.Stepping.{steps_none, steps_both, notes_steps, turn_steps, makes_of, calls_of}
use Rattle.hx_rows.proofs.Taking.{row_then}
use Rattle.hx_rows.proofs.Trying.{looks_no_parks}
use Rattle.hx_takeover.specs.Scans.{may, IsFirstInRow, PassesRows, TakesInRows}
use Rattle.hx_takeover.specs.Takeover.{TakesInOrder, GrowsBy}

-- another row is that of a step from the thread on
row_onto : (t threads row : ℕ) → t < threads → row < threads → row ≢ t → (j : ℕ) × (1 ≤ j) × (j < threads) × ((t + j) % threads ≡ row)
row_onto t threads row lt lr apart = ⊎_elim
    (λ (h : t ≤ row).
    let e : t + (row - t) ≡ row = omega arith in
    let one : 1 ≤ row - t = ⊎_elim (λ (k : 1 ≤ row - t). k) (λ (k : row - t < 1). absurd (apart (omega arith))) (le_cases 1 (row - t)) in
    (row - t, one, omega arith, ap (λ x. x % threads) e ∙ mod-eq_of_lt lr))
    (λ (h : row < t).
    let e : t + (row + threads - t) ≡ row + threads = omega arith in
    (row + threads - t, omega arith, omega arith, ap (λ x. x % threads) e ∙ (add-mod_right row threads ∙ mod-eq_of_lt lr)))
    (le_cases t row)

-- such a step comes to another row
row_other : (t threads j : ℕ) → t < threads → 1 ≤ j → j < threads → (t + j) % threads ≢ t
row_other t threads j lt one far same = ⊎_elim
    (λ (over : threads ≤ t + j).
    let back : (t + j - threads) + threads ≡ t + j = omega arith in
    let m : (t + j) % threads ≡ t + j - threads = ap (λ x. x % threads) (sym back) ∙ (add-mod_right (t + j - threads) threads ∙ mod-eq_of_lt (omega arith)) in
    absurd (omega arith))
    (λ (under : t + j < threads).
    let m : (t + j) % threads ≡ t + j = mod-eq_of_lt under in
    absurd (omega arith))
    (le_cases threads (t + j))

-- nothing was done
pub none_grows : (s : PlaceView) → Stands s.view → (q : Option ℕ) → Grows (history_of s q) (history_of s q) []
none_grows s k q = record { added = []; makes = makes_of s s [] q q (steps_none s k) refl; marks = refl; few = omega arith }

pub not_allowed : (s : PlaceView) (first : Bool) → Stands s.view → ((u : ℕ) → allows s.view.terms.rules.mode first u ≡ false) → (q : Option ℕ) → RefusesTakeover (history_of s q) (history_of s q) first NotAllowed
not_allowed s first k none q = (none, calls_of s s [] q (steps_none s k) refl)

module _ (s0 s1 : PlaceView) (c : ℕ) (m : Notes s0 s1 (plain (Count s0.view.thread c))) where
  abbrev lead : List Note
  lead = counted s0.view.thread c ∷ []

  count_steps : Steps s0 s1 (counted s0.view.thread c ∷ [])
  count_steps = notes_steps s0 s1 (plain (Count s0.view.thread c)) m

  pub count_rest : IsAtRest s0 → IsAtRest s1
  count_rest r = record { turn_is = turn_steps s0 s1 lead first_turn count_steps r.turn_is; idle = count_steps.hand ∙ r.idle }

  pub count_row : (stays : List Stay) → IsRowOf stays s0 → IsRowOf stays s1
  count_row stays f = row_then s0 s1 lead stays count_steps (tt, tt) f

  pub below_low : (first : Bool) → (u : ℕ) × (allows s0.view.terms.rules.mode first u ≡ true) → c < s0.view.terms.rules.low → (q : Option ℕ) → RefusesTakeover (history_of s0 q) (history_of s1 q) first (BelowLow c)
  below_low first some low q = (some, low, calls_of s0 s1 lead q count_steps refl)

  pub low_grows : (q : Option ℕ) → Grows (history_of s0 q) (history_of s1 q) []
  low_grows q = record { added = lead; makes = makes_of s0 s1 lead q q count_steps refl; marks = refl; few = omega arith }

  -- nothing was found
  module _ (s2 : PlaceView) (first : Bool) (p : PassesRows s1 s2 first s1.view.terms.threads) (few : s1.view.terms.threads ≤ 16) (low : s1.view.thread.0 < s1.view.terms.threads) where
    abbrev looks : List Note
    looks = p.only.looks

    looked : AllLooks s0.view.thread p.only.looks
    looked = subst (λ (t : ThreadNo). AllLooks t p.only.looks) count_steps.thread p.only.looked

    all_steps : Steps s0 s2 (counted s0.view.thread c ∷ p.only.looks)
    all_steps = steps_both s0 s1 s2 lead looks count_steps p.only.steps

    even : IsEven (counted s0.view.thread c ∷ p.only.looks)
    even = even-append lead looks refl (looks_even s0.view.thread looks looked)

    others : (q : Option ℕ) → OthersUnavailable (history_of s1 q) first p.only.looks
    others q row i lr apart li =
        let at = row_onto s1.view.thread.0 s1.view.terms.threads row low lr apart in
        subst (λ r. IsUnavailableTo (may s1 first) s1.view.thread looks (place_of r i)) at.3 (p.none at.0 at.1 at.2 i li)

    pub sees_none : (q : Option ℕ) → s0.view.terms.rules.low ≤ c → (u : ℕ) × (allows s0.view.terms.rules.mode first u ≡ true) → RefusesTakeover (history_of s0 q) (history_of s2 q) first NoneSeen
    sees_none q enough some = (
      some,
      record {
        c = c;
        enough = enough;
        looks = looks;
        looked = looked;
        none = subst (λ (z : ThreadNo × BoardTerms). (row i : ℕ) → row < z.1.threads → row ≢ z.0.0 → i < 64 → IsUnavailableTo (λ u. allows z.1.rules.mode first u) z.0 looks (place_of row i))
            (λ i. (count_steps.thread i, count_steps.terms i)) (others q);
        makes = calls_of s0 s2 (counted s0.view.thread c ∷ looks) q all_steps even;
      },
    )

    pub seen_grows : (q : Option ℕ) → Grows (history_of s0 q) (history_of s2 q) []
    seen_grows q = record {
      added = counted s0.view.thread c ∷ looks;
      makes = makes_of s0 s2 (counted s0.view.thread c ∷ looks) q q all_steps even;
      marks = sym (looks_marks s0.view.thread looks looked);
      few = let e = length-append lead looks in let a = p.only.few in omega arith;
    }

    pub seen_row : (stays : List Stay) → IsRowOf stays s0 → IsRowOf stays s2
    seen_row stays f = row_then s0 s2 (counted s0.view.thread c ∷ looks) stays all_steps (tt, looks_no_parks s0.view.thread looks looked) f

    pub seen_stands : Stands s2.view
    seen_stands = all_steps.one

  -- a connection was taken
  module _ (s2 : PlaceView) (n : SessionNo) (first : Bool) (place : PlaceNo) (v : Shown) (w : TakesInRows s1 s2 n first place v) where
    abbrev T : List Note
    T = taking s0.view.thread n first place v.face w.took.count

    took_looked : AllLooks s0.view.thread w.looks
    took_looked = subst (λ (t : ThreadNo). AllLooks t w.looks) count_steps.thread w.took.looked

    took_steps : Steps s0 s2 (counted s0.view.thread c ∷ (w.looks ++ taking s0.view.thread n first place v.face w.took.count))
    took_steps = steps_both s0 s1 s2 lead (w.looks ++ T) count_steps
        (subst (λ u. Steps s1 s2 (w.looks ++ taking u n first place v.face w.took.count)) count_steps.thread w.took.steps)

    took_even : IsEven (counted s0.view.thread c ∷ (w.looks ++ taking s0.view.thread n first place v.face w.took.count))
    took_even = even-append lead (w.looks ++ T) refl (even-append w.looks T (looks_even s0.view.thread w.looks took_looked) refl)

    at : s1.view.seen ++ w.took.between ≡ s0.view.seen ++ (count_steps.between ++ w.took.between)
    at = ap (λ l. l ++ w.took.between) count_steps.seen ∙ append_assoc s0.view.seen count_steps.between w.took.between

    pub takes_over : (q : Option ℕ) → s0.view.terms.rules.low ≤ c → TakesOver (history_of s0 q) (history_of s2 q) n first v
    takes_over q enough = record {
      c = c;
      enough = enough;
      place = place;
      other = λ e. row_other s1.view.thread.0 s1.view.terms.threads w.step w.took.steps.was.low w.ahead w.below (sym w.row_is ∙ (e ∙ ap (λ (t : ThreadNo). t.0) (sym count_steps.thread)));
      takes = record {
        looks = w.looks;
        count = w.took.count;
        looked = took_looked;
        makes = makes_of s0 s2 (counted s0.view.thread c ∷ (w.looks ++ T)) q q took_steps took_even;
        server = w.took.server ∙ ap (λ (b : BoardTerms). b.server) count_steps.terms;
        between = count_steps.between ++ w.took.between;
        behind = w.took.behind;
        seen = w.took.seen ∙ (λ i. at i ++ taken (count_steps.thread i) n first place v.face ∷ w.took.behind);
        what = ap (λ (H : List Note). what_of H v.face.id.0) (sym at) ∙ w.took.what;
      };
      passed = refl;
    }

    pub takes_in_order : TakesInOrder s0 s2 n first place v
    takes_in_order = record {
      c = c;
      looks = w.looks;
      count = w.took.count;
      looked = took_looked;
      mine = took_steps.mine;
      step = w.step;
      ahead = w.ahead;
      below = subst (λ (b : BoardTerms). w.step < b.threads) count_steps.terms w.below;
      row_is = w.row_is ∙ (λ i. ((count_steps.thread i).0 + w.step) % (count_steps.terms i).threads);
      rows = subst (λ (z : ThreadNo × BoardTerms). (j : ℕ) → 1 ≤ j → j < w.step → (p : ℕ) → p < 64 → IsUnavailableTo (λ u. allows z.1.rules.mode first u) z.0 w.looks (place_of ((z.0.0 + j) % z.1.threads) p))
          (λ i. (count_steps.thread i, count_steps.terms i)) w.rows;
      order = subst (λ (z : PlaceView). IsFirstInRow z first w.looks place v.face.uses)
          (λ i. record { board = s0.board; view = record s0.view { thread = count_steps.thread i; terms = count_steps.terms i } }) order_at;
    }
      where
        -- the order speaks of the thread and the terms alone
        order_at : IsFirstInRow (record { board = s0.board; view = record s0.view { thread = s1.view.thread; terms = s1.view.terms } }) first w.looks place v.face.uses
        order_at = w.order

    pub grows_by : (q : Option ℕ) → GrowsBy (history_of s0 q) (history_of s2 q) n first place v
    grows_by q = record {
      added = counted s0.view.thread c ∷ (w.looks ++ T);
      makes = makes_of s0 s2 (counted s0.view.thread c ∷ (w.looks ++ T)) q q took_steps took_even;
      marks = sym (marks_taking w.looks s0.view.thread n first place v.face w.took.count took_looked);
      few = let e = length-append lead (w.looks ++ T) in let d = length-append w.looks T in let a = w.few in omega arith;
    }

    pub took_row : (stays : List Stay) → IsRowOf stays s0 → IsRowOf stays s2
    took_row stays f = row_then s0 s2 (counted s0.view.thread c ∷ (w.looks ++ T)) stays took_steps (tt, no_parks_both w.looks T (looks_no_parks s0.view.thread w.looks took_looked) (tt, (tt, (tt, tt)))) f

    pub took_stands : Stands s2.view
    took_stands = took_steps.one
