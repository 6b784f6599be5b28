-- What a seat's drain has passed, some entries on.
use Rattle.std.proofs.Common.{◌≡◌, ◌≢◌, ℕ, ◌+◌, ◌*◌, ◌<◌, ◌≤◌, true, false, inl, inr, ⊎_elim, List, [], ◌∷◌, ◌++◌, refl, sym, ap, ◌∙◌, subst, arith, Option, Some, None, IfSome, append_assoc, le_refl}
use Rattle.std.proofs.lemmas.List.{append-nil}
use Rattle.std.proofs.lemmas.Bool.{cases_eq}
use Rattle.hx_base.specs.declared.numbers.ThreadNo.{ThreadNo}
use Rattle.hx_base.specs.declared.numbers.PlaceNo.{PlaceNo}
use Rattle.hx_base.specs.Shown.{Shown}
use Rattle.hx_pool.specs.declared.entries.Entry.{Entry}
use Rattle.hx_pool.specs.declared.entries.Entry.TheVariants.{SetGate, Look}
use Rattle.hx_pool.specs.declared.entries.Note.{Note}
use Rattle.hx_pool.specs.History.{plain}
use Rattle.hx_pool.specs.SeatView.{About, about_of}
use Rattle.hx_pool.specs.Causes.{nth_place, caretaker, AllLooks, IsTakeAt, IsCovered, AllCovered}
use Rattle.hx_pool.specs.Drain.{since_after, since_from, since_drain, DrainsOne, DrainsNone}
use Rattle.hx_pool.specs.Taking.{taking}
use Rattle.hx_pool.proofs.Histories.{since_from-append}
use Rattle.hx_pool.proofs.Calls.{looks_even}
use Rattle.hx_pool.proofs.Coverage.{covered_all}
use Rattle.hx_pool.proofs.Purges.{among_right, covered_left, unavailable_by, le_cases}
use Rattle.hx_places.specs.Seats.{PlaceView, about, history_of, Notes}
use Rattle.hx_rows.specs.Steps.{Steps}
use Rattle.hx_rows.proofs.Stepping.{makes_of}
use Rattle.hx_purge.specs.Sweeps.{PassesTo, TakesNext}
use Rattle.hx_purge.specs.Drains.{Covers, Drains}
use Rattle.hx_purge.proofs.Closing.{gate_steps, took_takes}

-- an entry that sets no drain
abbrev pub IsNoDrain : Entry → Type 0
IsNoDrain (SetGate t draining) = draining ≡ false
IsNoDrain _ = Unit {0}

abbrev pub NoDrain : List Note → Type 0
NoDrain [] = Unit {0}
NoDrain (x ∷ xs) = IsNoDrain x.entry × NoDrain xs

pub no_drain-append : (xs ys : List Note) → NoDrain xs → NoDrain ys → NoDrain (xs ++ ys)
no_drain-append [] ys a b = b
no_drain-append (x ∷ xs) ys a b = (a.0, no_drain-append xs ys a.1 b)

pub looks_no_drain : (t : ThreadNo) (xs : List Note) → AllLooks t xs → NoDrain xs
looks_no_drain t [] l = tt
looks_no_drain t (x ∷ xs) l = (subst (λ (y : Note). IsNoDrain y.entry) (sym l.0.2) tt, looks_no_drain t xs l.1)

after_none : (x : Note) → IsNoDrain x.entry → since_after None x ≡ None
after_none x n =
    let P : Entry → Type 0 = λ e. IsNoDrain e → since_after None (record { entry = e; what = x.what }) ≡ None in
    let all : (e : Entry) → P e = λ e. elim e as P [ SetGate t draining ↦ λ h. ap (λ b. since_after None (record { entry = SetGate t b; what = x.what })) h | _ ↦ λ h. refl ] in
    all x.entry n

after_some : (es : List Note) (x : Note) → IsNoDrain x.entry → since_after (Some es) x ≡ Some (es ++ x ∷ [])
after_some es x n =
    let P : Entry → Type 0 = λ e. IsNoDrain e → since_after (Some es) (record { entry = e; what = x.what }) ≡ Some (es ++ record { entry = e; what = x.what } ∷ []) in
    let all : (e : Entry) → P e = λ e. elim e as P [ SetGate t draining ↦ λ h. ap (λ b. since_after (Some es) (record { entry = SetGate t b; what = x.what })) h ∙ ap (λ b. Some (es ++ record { entry = SetGate t b; what = x.what } ∷ [])) (sym h) | _ ↦ λ h. refl ] in
    all x.entry n

since_none : (ys : List Note) → NoDrain ys → since_from None ys ≡ None
since_none [] n = refl
since_none (y ∷ ys) n = ap (λ o. since_from o ys) (after_none y n.0) ∙ since_none ys n.1

pub since_some : (es ys : List Note) → NoDrain ys → since_from (Some es) ys ≡ Some (es ++ ys)
since_some es [] n = ap Some (sym (append-nil es))
since_some es (y ∷ ys) n = ap (λ o. since_from o ys) (after_some es y n.0) ∙ (since_some (es ++ y ∷ []) ys n.1 ∙ ap Some (append_assoc es (y ∷ []) ys))

since_longer : (mine ys es : List Note) → since_drain mine ≡ Some es → NoDrain ys → since_drain (mine ++ ys) ≡ Some (es ++ ys)
since_longer mine ys es d n = since_from-append None mine ys ∙ (ap (λ o. since_from o ys) d ∙ since_some es ys n)

-- places further on are covered by the new entries
module _ (s0 s1 : PlaceView) (ys : List Note) (one : about s1 ≡ about s0) (mine : s1.view.mine ≡ s0.view.mine ++ ys) (n : NoDrain ys) (from to : ℕ) (c : Covers s0 from) (far : to ≤ 64 * s0.view.terms.threads)
    (more : (i : ℕ) → from ≤ i → i < to → IsCovered s0.view.thread ys (nth_place s0.view.thread s0.view.terms.threads i)) where
  abbrev t : ThreadNo
  t = s0.view.thread

  abbrev k : ℕ
  k = s0.view.terms.threads

  covered_right : (at : PlaceNo) → IsCovered t ys at → IsCovered t (c.es ++ ys) at
  covered_right at h = ⊎_elim (λ a. inl (among_right (IsTakeAt at) c.es ys a)) (λ m. inr (unavailable_by t ys (c.es ++ ys) at (λ x a. among_right (λ e. e ≡ Look t at x) c.es ys a) m)) h

  pub cover_then : (i : ℕ) → i < to → IsCovered s0.view.thread (c.es ++ ys) (nth_place s0.view.thread s0.view.terms.threads i)
  cover_then i h = ⊎_elim
      (λ (high : from ≤ i). covered_right (nth_place t k i) (more i high h))
      (λ (low : i < from). covered_left t c.es ys (nth_place t k i) (c.covered i low))
      (le_cases from i)

  pub since_then : since_drain s1.view.mine ≡ Some (c.es ++ ys)
  since_then = ap since_drain mine ∙ since_longer s0.view.mine ys c.es c.since n

  pub covers_then : Covers s1 to
  covers_then = record {
    few = subst (λ (a : About). to ≤ 64 * a.threads) (sym one) far;
    es = c.es ++ ys;
    since = since_then;
    covered = subst (λ (a : About). (i : ℕ) → i < to → IsCovered a.thread (c.es ++ ys) (nth_place a.thread a.threads i)) (sym one) cover_then;
  }

-- entries that set no drain leave a seat's drain as it was
pub drains_more : (s0 s1 : PlaceView) (ys : List Note) (q : Option ℕ) → about s1 ≡ about s0 → s1.view.mine ≡ s0.view.mine ++ ys → NoDrain ys → Drains s0 q → Drains s1 q
drains_more s0 s1 ys None one mine n d = ap since_drain mine ∙ (since_from-append None s0.view.mine ys ∙ (ap (λ o. since_from o ys) d ∙ since_none ys n))
drains_more s0 s1 ys (Some q) one mine n d = covers_then s0 s1 ys one mine n q q d d.few (λ i h j. absurd (omega arith))

-- steps change nothing of what no call changes
pub steps_about : (s0 s1 : PlaceView) (ys : List Note) → Steps s0 s1 ys → about s1 ≡ about s0
steps_about s0 s1 ys S = λ i. about_of (S.terms i) (S.thread i) (S.board i)

pub drains_anew : (s0 s1 : PlaceView) → Notes s0 s1 (plain (SetGate s0.view.thread true)) → Drains s1 (Some 0)
drains_anew s0 s1 m =
    let x : Note = plain (SetGate s0.view.thread true) in
    let P : Option (List Note) → Type 0 = λ o. since_after o x ≡ Some [] in
    let all : (o : Option (List Note)) → P o = λ o. elim o as P [ None ↦ refl | Some es ↦ refl ] in record {
      few = omega arith;
      es = [];
      since = ap since_drain (gate_steps s0 s1 true m).mine ∙ (since_from-append None s0.view.mine (x ∷ []) ∙ all (since_from None s0.view.mine));
      covered = λ i h. absurd (omega arith);
    }

pub drains_ready : (s0 s1 : PlaceView) (q : Option ℕ) → Notes s0 s1 (plain (SetGate s0.view.thread false)) → Drains s0 q → Drains s1 q
drains_ready s0 s1 q m d = let S = gate_steps s0 s1 false m in drains_more s0 s1 (plain (SetGate s0.view.thread false) ∷ []) q (steps_about s0 s1 (plain (SetGate s0.view.thread false) ∷ []) S) S.mine (refl, tt) d

-- a drain that found nothing more
module _ (s0 s1 : PlaceView) (from : ℕ) (c : Covers s0 from) (p : PassesTo s0 s1 from (64 * s0.view.terms.threads)) where
  abbrev all : ℕ
  all = 64 * s0.view.terms.threads

  same : about s1 ≡ about s0
  same = steps_about s0 s1 p.only.looks p.only.steps

  abbrev quiet : NoDrain p.only.looks
  quiet = looks_no_drain s0.view.thread p.only.looks p.only.looked

  none_left : (i : ℕ) → from ≤ i → i < 64 * s0.view.terms.threads → IsCovered s0.view.thread p.only.looks (nth_place s0.view.thread s0.view.terms.threads i)
  none_left i h j = inr (p.none i h j)

  pub none_drains : Drains s1 (Some (64 * s0.view.terms.threads))
  none_drains = covers_then s0 s1 p.only.looks same p.only.steps.mine quiet from all c (le_refl all) none_left

  pub drains_none : DrainsNone (history_of s0 (Some from)) (history_of s1 (Some (64 * s0.view.terms.threads)))
  drains_none = record {
    looks = record {
      looks = p.only.looks;
      looked = p.only.looked;
      makes = makes_of s0 s1 p.only.looks (Some from) (Some all) p.only.steps (looks_even s0.view.thread p.only.looks p.only.looked);
    };
    passed = refl;
    all = subst (λ (o : Option (List Note)). IfSome o (λ es. AllCovered (about s0) es)) (sym (since_then s0 s1 p.only.looks same p.only.steps.mine quiet from all c (le_refl all) none_left))
        (covered_all (about s0) (c.es ++ p.only.looks) p.only.steps.was.low (cover_then s0 s1 p.only.looks same p.only.steps.mine quiet from all c (le_refl all) none_left));
  }

-- a drain that took
module _ (s0 s1 : PlaceView) (from at : ℕ) (place : PlaceNo) (v : Shown) (c : Covers s0 from) (w : TakesNext s0 s1 from at place v) where
  abbrev T : List Note
  T = taking s0.view.thread caretaker false place v.face w.took.count

  pub one_drains : Drains s1 (Some (at + 1))
  one_drains =
      let t = s0.view.thread in
      let k = s0.view.terms.threads in
      let inside = w.inside in
      covers_then s0 s1 (w.looks ++ T) (steps_about s0 s1 (w.looks ++ T) w.took.steps) w.took.steps.mine (no_drain-append w.looks T (looks_no_drain t w.looks w.took.looked) (tt, (tt, (tt, tt)))) from (at + 1) c (omega arith)
      (λ i h j. ⊎_elim
      (λ (e : i ≡ at). subst (λ (q : PlaceNo). IsCovered t (w.looks ++ T) q) (w.place_is ∙ ap (nth_place t k) (sym e)) (inl (among_right (IsTakeAt place) w.looks T (inl refl))))
      (λ (ne : i ≢ at). covered_left t w.looks T (nth_place t k i) (inr (w.none i h (omega arith))))
      (cases_eq i at))

  pub drains_one : DrainsOne (history_of s0 (Some from)) (history_of s1 (Some (at + 1))) v
  drains_one = record {
    set = (c.es, c.since);
    from = from;
    at = at;
    was = refl;
    below = w.below;
    inside = w.inside;
    passed = refl;
    takes = took_takes s0 s1 from at place v w (Some from) (Some (at + 1));
  }
