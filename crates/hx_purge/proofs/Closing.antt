-- What a sweep does, in the words of all seats.
use Rattle.std.proofs.Common.{◌≡◌, ◌≢◌, ℕ, ◌+◌, ◌*◌, ◌<◌, ◌≤◌, false, inr, List, [], ◌∷◌, ◌++◌, refl, sym, ap, ◌∙◌, subst, arith, Option}
use Rattle.std.proofs.lemmas.List.{length-append}
use Rattle.hx_base.specs.declared.numbers.PlaceNo.{PlaceNo}
use Rattle.hx_base.specs.Shown.{Shown}
use Rattle.hx_pool.specs.declared.budget.Quota.{Quota}
use Rattle.hx_pool.specs.declared.entries.Entry.TheVariants.{SetGate, Round}
use Rattle.hx_pool.specs.declared.entries.Note.{Note}
use Rattle.hx_pool.specs.History.{plain, IsEven}
use Rattle.hx_pool.specs.SeatView.{Makes, Grows}
use Rattle.hx_pool.specs.Causes.{place_of, nth_place, caretaker}
use Rattle.hx_pool.specs.Purge.{PurgesOne, PurgesNone}
use Rattle.hx_pool.specs.Taking.{taken, taking}
use Rattle.hx_pool.specs.Taking.{Takes as TakesIn}
use Rattle.hx_pool.proofs.Histories.{even-append}
use Rattle.hx_pool.proofs.Calls.{looks_even, looks_marks, marks_taking}
use Rattle.hx_places.specs.Turns.{first_turn}
use Rattle.hx_places.specs.Seats.{PlaceView, history_of, Notes}
use Rattle.hx_rows.specs.declared.stays.Stay.{Stay}
use Rattle.hx_rows.specs.Row.{IsRowOf}
use Rattle.hx_rows.specs.Steps.{Steps, IsAtRest}
use Rattle.hx_rows.proofs.Resting.{no_parks_both}
use Rattle.hx_rows.proofs.Stepping.{notes_steps, turn_steps, makes_of, calls_of}
use Rattle.hx_rows.proofs.Taking.{row_then}
use Rattle.hx_rows.proofs.Trying.{looks_no_parks}
use Rattle.hx_takeover.specs.Takeover.{GrowsBy}
use Rattle.hx_purge.specs.Sweeps.{PassesTo, TakesNext}

-- the drain state was set
module _ (s0 s1 : PlaceView) (draining : Rattle.std.proofs.Common.Bool) (m : Notes s0 s1 (plain (SetGate s0.view.thread draining))) where
  abbrev gate : List Note
  gate = plain (SetGate s0.view.thread draining) ∷ []

  pub gate_steps : Steps s0 s1 (plain (SetGate s0.view.thread draining) ∷ [])
  gate_steps = notes_steps s0 s1 (plain (SetGate s0.view.thread draining)) m

  pub gate_rest : IsAtRest s0 → IsAtRest s1
  gate_rest r = record { turn_is = turn_steps s0 s1 gate first_turn gate_steps r.turn_is; idle = gate_steps.hand ∙ r.idle }

  pub gate_row : (stays : List Stay) → IsRowOf stays s0 → IsRowOf stays s1
  gate_row stays f = row_then s0 s1 gate stays gate_steps (tt, tt) f

-- the interval was raised
module _ (s0 s1 : PlaceView) (k old : ℕ) (m : Notes s0 s1 (plain (Round s0.view.thread k old))) where
  abbrev round : List Note
  round = plain (Round s0.view.thread k old) ∷ []

  round_steps : Steps s0 s1 (plain (Round s0.view.thread k old) ∷ [])
  round_steps = notes_steps s0 s1 (plain (Round s0.view.thread k old)) m

  pub round_rest : IsAtRest s0 → IsAtRest s1
  round_rest r = record { turn_is = turn_steps s0 s1 round first_turn round_steps r.turn_is; idle = round_steps.hand ∙ r.idle }

  pub round_row : (stays : List Stay) → IsRowOf stays s0 → IsRowOf stays s1
  round_row stays f = row_then s0 s1 round stays round_steps (tt, tt) f

-- nothing was taken
module _ (s0 s1 : PlaceView) (from to : ℕ) (p : PassesTo s0 s1 from to) (few : to ≤ 1024) where
  passed_makes : (q r : Option ℕ) → Makes (history_of s0 q) (history_of s1 r) p.only.looks
  passed_makes q r = makes_of s0 s1 p.only.looks q r p.only.steps (looks_even s0.view.thread p.only.looks p.only.looked)

  pub passed_grows : (q r : Option ℕ) → Grows (history_of s0 q) (history_of s1 r) []
  passed_grows q r = record {
    added = p.only.looks;
    makes = passed_makes q r;
    marks = sym (looks_marks s0.view.thread p.only.looks p.only.looked);
    few = let a = p.only.few in omega arith;
  }

  pub passed_row : (stays : List Stay) → IsRowOf stays s0 → IsRowOf stays s1
  passed_row stays f = row_then s0 s1 p.only.looks stays p.only.steps (looks_no_parks s0.view.thread p.only.looks p.only.looked) f

-- the quota has passed every place
pub purges_none : (s0 s1 : PlaceView) (q r : Quota) → PassesTo s0 s1 q.seen (64 * s0.view.terms.threads) → q.left ≢ 0 → r.left ≡ q.left → r.seen ≡ 64 * s0.view.terms.threads
    → (d : Option ℕ) → PurgesNone (history_of s0 d) (history_of s1 d) q r
purges_none s0 s1 q r p some left seen d = inr (
  some,
  record {
    left = left;
    seen = seen;
    looks = p.only.looks;
    looked = p.only.looked;
    none = p.none;
    makes = calls_of s0 s1 p.only.looks d p.only.steps (looks_even s0.view.thread p.only.looks p.only.looked);
  },
)

-- a connection was taken
module _ (s0 s1 : PlaceView) (from at : ℕ) (place : PlaceNo) (v : Shown) (w : TakesNext s0 s1 from at place v) where
  abbrev pub T : PlaceNo → List Note
  T q = taking s0.view.thread caretaker false q v.face w.took.count

  took_even : IsEven (w.looks ++ taking s0.view.thread caretaker false place v.face w.took.count)
  took_even = even-append w.looks (T place) (looks_even s0.view.thread w.looks w.took.looked) refl

  pub took_makes : (q r : Option ℕ) → Makes (history_of s0 q) (history_of s1 r) (w.looks ++ taking s0.view.thread caretaker false place v.face w.took.count)
  took_makes q r = makes_of s0 s1 (w.looks ++ T place) q r w.took.steps took_even

  pub took_grows : (q r : Option ℕ) → GrowsBy (history_of s0 q) (history_of s1 r) caretaker false place v
  took_grows q r = record {
    added = w.looks ++ T place;
    makes = took_makes q r;
    marks = sym (marks_taking w.looks s0.view.thread caretaker false place v.face w.took.count w.took.looked);
    few = let d = length-append w.looks (T place) in let a = w.few in omega arith;
  }

  pub took_row : (stays : List Stay) → IsRowOf stays s0 → IsRowOf stays s1
  took_row stays f = row_then s0 s1 (w.looks ++ T place) stays w.took.steps (no_parks_both w.looks (T place) (looks_no_parks s0.view.thread w.looks w.took.looked) (tt, (tt, (tt, tt)))) f

  -- the same at the place in the order of the thread
  abbrev pub took_takes : (q r : Option ℕ) → TakesIn (history_of s0 q) (history_of s1 r) [] caretaker false (nth_place s0.view.thread s0.view.terms.threads at) v
  took_takes q r = record {
    looks = w.looks;
    count = w.took.count;
    looked = w.took.looked;
    makes = subst (λ (pl : PlaceNo). Makes (history_of s0 q) (history_of s1 r) (w.looks ++ taking s0.view.thread caretaker false pl v.face w.took.count)) w.place_is (took_makes q r);
    server = w.took.server;
    between = w.took.between;
    behind = w.took.behind;
    seen = subst (λ (pl : PlaceNo). s1.view.seen ≡ (s0.view.seen ++ w.took.between) ++ taken s0.view.thread caretaker false pl v.face ∷ w.took.behind) w.place_is w.took.seen;
    what = w.took.what;
  }

-- one of those that the quota says
pub purges_one : (s0 s1 : PlaceView) (q r : Quota) (at : ℕ) (place : PlaceNo) (v : Shown) → TakesNext s0 s1 q.seen at place v → q.left ≡ r.left + 1 → r.seen ≡ at + 1
    → (at + 1 < 64 * s0.view.terms.threads → place_of r.row r.place ≡ nth_place s0.view.thread s0.view.terms.threads (at + 1))
    → (d : Option ℕ) → PurgesOne (history_of s0 d) (history_of s1 d) q r v
purges_one s0 s1 q r at place v w left seen next d = record {
  left = left;
  at = at;
  below = w.below;
  inside = w.inside;
  seen = seen;
  stands = record {
    inside = let a = w.inside in omega arith;
    at = λ h. next (omega arith) ∙ ap (nth_place s0.view.thread s0.view.terms.threads) (sym seen);
  };
  takes = took_takes s0 s1 q.seen at place v w d d;
  none = w.none;
  passed = refl;
}
