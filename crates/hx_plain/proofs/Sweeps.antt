-- The caretaker's way through the row: what a drain and a purge take, and what they cover.
use Rattle.std.proofs.Common.{◌≡◌, ◌≢◌, ℕ, zero, suc, ◌+◌, ◌-◌, ◌*◌, ◌/◌, ◌%◌, ◌<◌, ◌≤◌, Bool, false, List, [], ◌∷◌, ◌++◌, length, refl, sym, ap, ◌∙◌, subst, arith, Option, Some, None, IfSome, inl, inr, ◌⊎◌, ⊎_elim, append_assoc}
use Rattle.std.proofs.lemmas.List.{append-nil, length-append}
use Rattle.std.proofs.lemmas.Bool.{cases_eq}
use Rattle.hx_base.specs.declared.numbers.ThreadNo.{ThreadNo}
use Rattle.hx_base.specs.declared.numbers.PlaceNo.{PlaceNo}
use Rattle.hx_base.specs.declared.totals.Totals.{Totals}
use Rattle.hx_base.specs.Shown.{Shown}
use Rattle.hx_pool.specs.declared.budget.Quota.{Quota}
use Rattle.hx_pool.specs.declared.entries.Entry.TheVariants.{Take, Look}
use Rattle.hx_pool.specs.declared.entries.Note.{Note}
use Rattle.hx_pool.specs.Table.{Vacant}
use Rattle.hx_pool.specs.History.{what_of}
use Rattle.hx_pool.specs.SeatView.{About, Grows}
use Rattle.hx_pool.specs.Causes.{place_of, nth_place, caretaker, IsTakeAt, IsCovered, IsUnavailable, AllCovered}
use Rattle.hx_pool.specs.Taking.{taking}
use Rattle.hx_pool.specs.Drain.{DrainsOne, DrainsNone}
use Rattle.hx_pool.specs.Purge.{Passes, PurgesOne, PurgesNone}
use Rattle.hx_pool.specs.Totals.{totals_after}
use Rattle.hx_pool.proofs.Histories.{even-append}
use Rattle.hx_pool.proofs.Calls.{looks_marks, looks_even, marks_taking}
use Rattle.hx_pool.proofs.Purges.{among_right, covered_left, unavailable_by}
use Rattle.hx_plain.specs.Book.{Book, add_notes}
use Rattle.hx_plain.specs.Row.{Rested, spot_in, looks_run, Ran, Swept}
use Rattle.hx_plain.specs.Plain.{alone, Known, known, Stands, AreKept, KeepsAll}
use Rattle.hx_plain.proofs.Looks.{run_looks, length-looks_run}
use Rattle.hx_plain.proofs.Steps.{made}
use Rattle.hx_plain.proofs.Rows.{kept_mid}
use Rattle.hx_plain.proofs.Takes.{out_stands}
use Rattle.hx_plain.proofs.Keeping.{run_stands, keeps_on, calls_by, grows_by, looks_no_drain, no_drain-append, since_longer, looks_totals, totals_from-looks, unavailable_run, takes_by}

covered_right : (t : ThreadNo) (es more : List Note) (at : PlaceNo) → IsCovered t more at → IsCovered t (es ++ more) at
covered_right t es more at h = ⊎_elim (λ a. inl (among_right (IsTakeAt at) es more a)) (λ m. inr (unavailable_by t more (es ++ more) at (λ x a. among_right (λ e. e ≡ Look t at x) es more a) m)) h

lt_cases : (x y : ℕ) → (x < y) ⊎ (y ≤ x)
lt_cases zero zero = inr (omega arith)
lt_cases zero (suc y) = inl (omega arith)
lt_cases (suc x) zero = inr (omega arith)
lt_cases (suc x) (suc y) = ⊎_elim (λ (h : x < y). inl (omega arith)) (λ (h : y ≤ x). inr (omega arith)) (lt_cases x y)

-- the places of the one row come first in the order of its thread
nth_is : (a : About) → a.thread.0 < a.threads → a.threads ≡ 1 → (q : ℕ) → q < 64 → place_of a.thread.0 q ≡ nth_place a.thread a.threads q
nth_is a inside few q h =
    let e : a.thread.0 ≡ (a.thread.0 + q / 64) % a.threads = subst (λ (j : ℕ). a.thread.0 ≡ (a.thread.0 + q / 64) % j) (sym few) (omega arith) in
    let b : q ≡ q % 64 = omega arith in
    ap (λ (i : ℕ). place_of i q) e ∙ ap (λ (j : ℕ). place_of ((a.thread.0 + q / 64) % a.threads) j) b

all_covered : (a : About) (es : List Note) → a.thread.0 < a.threads → a.threads ≡ 1 → ((i : ℕ) → i < 64 → IsCovered a.thread es (place_of a.thread.0 i)) → AllCovered a es
all_covered a es inside few cover row p r h =
    let e : a.thread.0 ≡ row = omega arith in
    subst (λ (j : ℕ). IsCovered a.thread es (place_of j p)) e (cover p h)

module _ (a : About) (few : a.threads ≡ 1) (old : Book) (n : ℕ) (d : Bool) (o : ℕ) (rests : List Rested) (st : Stands a old.notes (known n d o rests) rests) where
  inside : a.thread.0 < a.threads
  inside = st.one.inside.0

  -- the looks of a run passed its places
  passes : (from c : ℕ) → ((q : ℕ) → q < c → spot_in rests (from + q) ≡ Vacant) → from + c ≤ 64 → Passes a (looks_run a.thread rests from c) from (from + c)
  passes from c vacant low i h j = subst (λ (pl : PlaceNo). IsUnavailable a.thread (looks_run a.thread rests from c) pl) (nth_is a inside few i (omega arith)) (unavailable_run a.thread rests from c vacant i h j)

  -- a drain that found nothing
  pub drain_done : (p : ℕ) (t : Totals) (room : ℕ) → KeepsAll a old.notes (known n d o rests) rests (Some p) t room → (new : Book) → Ran old new a.thread rests p (64 - p)
      → KeepsAll a new.notes (known n d o rests) rests (Some 64) t room × DrainsNone (alone a (Some p) old.notes) (alone a (Some 64) new.notes) × Grows (alone a (Some p) old.notes) (alone a (Some 64) new.notes) []
  drain_done p t room all new ran =
      let c : ℕ = 64 - p in
      let dr = all.drains in
      let sum : p + c ≡ 64 = let low = dr.0 in omega arith in
      let L : List Note = looks_run a.thread rests p c in
      let looked = run_looks a.thread rests p c in
      let gone = run_stands a old.notes (known n d o rests) rests st p c (omega arith) in
      let es : List Note = dr.1.0 ++ L in
      let more = since_longer old.notes L dr.1.0 dr.1.1 (looks_no_drain a.thread L looked) in
      let cover : (i : ℕ) → i < 64 → IsCovered a.thread es (place_of a.thread.0 i) = λ i h. ⊎_elim
      (λ (low : i < p). covered_left a.thread dr.1.0 L (place_of a.thread.0 i) (dr.1.2 i low))
      (λ (high : p ≤ i). covered_right a.thread dr.1.0 L (place_of a.thread.0 i) (inr (unavailable_run a.thread rests p c ran.vacant i high (omega arith))))
      (lt_cases i p) in
      let P : Book → Type 0 = λ b. KeepsAll a b.notes (known n d o rests) rests (Some 64) t room × DrainsNone (alone a (Some p) old.notes) (alone a (Some 64) b.notes) × Grows (alone a (Some p) old.notes) (alone a (Some 64) b.notes) [] in
      let kept = keeps_on a old.notes (known n d o rests) rests (Some p) t room all L (known n d o rests) rests t room gone (looks_no_drain a.thread L looked) (sym (looks_totals a.thread L t looked)) all.roomy in
      subst P (sym ran.book) (
        record { stands = kept.stands; drains = (omega arith, (es, more, cover)); counted = kept.counted; roomy = kept.roomy },
        record {
          looks = record { looks = L; looked = looked; makes = made a (Some p) (Some 64) old.notes L st.one gone.one (looks_even a.thread L looked) };
          passed = ap Some (let z : 64 ≡ 64 * a.threads = omega arith in z);
          all = subst (λ (x : Option (List Note)). IfSome x (λ xs. AllCovered a xs)) (sym more) (all_covered a es inside few cover);
        },
        grows_by a (Some p) (Some 64) old.notes L [] st.one gone.one (looks_even a.thread L looked) (sym (looks_marks a.thread L looked)) (let e = length-looks_run a.thread rests p c in omega arith),
      )

  -- a purge that found nothing
  pub purge_done : (p : Option ℕ) (t : Totals) (room : ℕ) → KeepsAll a old.notes (known n d o rests) rests p t room → (new : Book) (q r : Quota) → q.left ≢ 0 → q.seen ≤ 64 → r.left ≡ q.left → r.seen ≡ 64 → Ran old new a.thread rests q.seen (64 - q.seen)
      → KeepsAll a new.notes (known n d o rests) rests p t room × PurgesNone (alone a p old.notes) (alone a p new.notes) q r × Grows (alone a p old.notes) (alone a p new.notes) []
  purge_done p t room all new q r some low left seen ran =
      let from : ℕ = q.seen in
      let c : ℕ = 64 - from in
      let L : List Note = looks_run a.thread rests from c in
      let looked = run_looks a.thread rests from c in
      let gone = run_stands a old.notes (known n d o rests) rests st from c (omega arith) in
      let sum : from + c ≡ 64 * a.threads = omega arith in
      let P : Book → Type 0 = λ b. KeepsAll a b.notes (known n d o rests) rests p t room × PurgesNone (alone a p old.notes) (alone a p b.notes) q r × Grows (alone a p old.notes) (alone a p b.notes) [] in
      subst P (sym ran.book) (
        keeps_on a old.notes (known n d o rests) rests p t room all L (known n d o rests) rests t room gone (looks_no_drain a.thread L looked) (sym (looks_totals a.thread L t looked)) all.roomy,
        inr (
          some,
          record {
            left = left;
            seen = seen ∙ (let z : 64 ≡ 64 * a.threads = omega arith in z);
            looks = L;
            looked = looked;
            none = subst (λ (j : ℕ). Passes a L from j) sum (passes from c ran.vacant (omega arith));
            makes = calls_by a p old.notes L st.one gone.one (looks_even a.thread L looked);
          },
        ),
        grows_by a p p old.notes L [] st.one gone.one (looks_even a.thread L looked) (sym (looks_marks a.thread L looked)) (let e = length-looks_run a.thread rests from c in omega arith),
      )

  module _ (left : List Rested) (from c : ℕ) (v : Shown) (new : Book) (sw : Swept old new rests left a.thread from c v) where
    abbrev N : PlaceNo
    N = nth_place a.thread a.threads (from + c)

    -- the entries of the sweep
    abbrev pub swept_entries : List Note
    swept_entries = looks_run a.thread rests from c ++ taking a.thread caretaker false N v.face (length rests)

    nth : place_of a.thread.0 (from + c) ≡ N
    nth = nth_is a inside few (from + c) sw.inside

    book : new ≡ add_notes old swept_entries
    book = sw.book ∙ ap (λ (pl : PlaceNo). add_notes old (looks_run a.thread rests from c ++ taking a.thread caretaker false pl v.face (length rests))) nth

    ran : Stands a (old.notes ++ looks_run a.thread rests from c) (known n d o rests) rests
    ran = let low = sw.inside in run_stands a old.notes (known n d o rests) rests st from c (omega arith)

    gone : Stands a (old.notes ++ swept_entries) (known n d o left) left
    gone =
        let r : Rested = record { place = from + c; shown = v } in
        let t = out_stands a (old.notes ++ looks_run a.thread rests from c) (known n d o rests) rests ran refl sw.before r sw.behind sw.parts caretaker false (λ h. absurd (h refl)) in
        let e : (old.notes ++ looks_run a.thread rests from c) ++ taking a.thread caretaker false (place_of a.thread.0 (from + c)) v.face (length rests) ≡ old.notes ++ swept_entries
        = append_assoc old.notes (looks_run a.thread rests from c) _ ∙ ap (λ (pl : PlaceNo). old.notes ++ (looks_run a.thread rests from c ++ taking a.thread caretaker false pl v.face (length rests))) nth in
        subst (λ (l : List Rested). Stands a (old.notes ++ swept_entries) (known n d o l) l) (sym sw.left_is) (subst (λ (hs : List Note). Stands a hs (known n d o (sw.before ++ sw.behind)) (sw.before ++ sw.behind)) e t)

    kept : (v.server ≡ a.server) × (what_of (old.notes ++ looks_run a.thread rests from c) v.face.id.0 ≡ Some v.what)
    kept = kept_mid (old.notes ++ looks_run a.thread rests from c) a.server sw.before (record { place = from + c; shown = v }) sw.behind (subst (AreKept (old.notes ++ looks_run a.thread rests from c) a.server) sw.parts ran.kept)

    few_entries : length swept_entries ≤ 4096
    few_entries = let e = length-looks_run a.thread rests from c in let low = sw.inside in omega (arith, length-append (looks_run a.thread rests from c) (taking a.thread caretaker false N v.face (length rests)))

    marks_are : (p q : Option ℕ) → Grows (alone a p old.notes) (alone a q (old.notes ++ swept_entries)) (Take a.thread caretaker false (place_of a.thread.0 (from + c)) v.face.id v.face.uses ∷ [])
    marks_are p q = grows_by a p q old.notes swept_entries _ st.one gone.one (even-append (looks_run a.thread rests from c) (taking a.thread caretaker false N v.face (length rests)) (looks_even a.thread (looks_run a.thread rests from c) (run_looks a.thread rests from c)) refl)
        (ap (λ (pl : PlaceNo). Take a.thread caretaker false pl v.face.id v.face.uses ∷ []) nth ∙ sym (marks_taking (looks_run a.thread rests from c) a.thread caretaker false N v.face (length rests) (run_looks a.thread rests from c)))
        few_entries

    keeps : (p : Option ℕ) (t : Totals) (room : ℕ) → KeepsAll a old.notes (known n d o rests) rests p t room → (room' : ℕ) → 64 ≤ room' → KeepsAll a (old.notes ++ swept_entries) (known n d o left) left p (totals_after t (Take a.thread caretaker false (place_of a.thread.0 (from + c)) v.face.id v.face.uses)) room'
    keeps p t room all room' roomy =
        let looked = run_looks a.thread rests from c in
        keeps_on a old.notes (known n d o rests) rests p t room all swept_entries (known n d o left) left _ room' gone (no_drain-append (looks_run a.thread rests from c) _ (looks_no_drain a.thread (looks_run a.thread rests from c) looked) (tt, (tt, (tt, tt)))) (sym (totals_from-looks a.thread (looks_run a.thread rests from c) _ t looked)) roomy

    -- a drain that took
    pub drained : (t : Totals) (room : ℕ) → KeepsAll a old.notes (known n d o rests) rests (Some from) t room → (room' : ℕ) → 64 ≤ room'
        → KeepsAll a new.notes (known n d o left) left (Some (from + c + 1)) (totals_after t (Take a.thread caretaker false (place_of a.thread.0 (from + c)) v.face.id v.face.uses)) room'
        × DrainsOne (alone a (Some from) old.notes) (alone a (Some (from + c + 1)) new.notes) v
        × Grows (alone a (Some from) old.notes) (alone a (Some (from + c + 1)) new.notes) (Take a.thread caretaker false (place_of a.thread.0 (from + c)) v.face.id v.face.uses ∷ [])
    drained t room all room' roomy =
        let dr = all.drains in
        let low = sw.inside in
        let looked = run_looks a.thread rests from c in
        let runs : List Note = looks_run a.thread rests from c in
        let T : List Note = taking a.thread caretaker false N v.face (length rests) in
        let es : List Note = dr.1.0 ++ swept_entries in
        let plainly = no_drain-append runs T (looks_no_drain a.thread runs looked) (tt, (tt, (tt, tt))) in
        let more = since_longer old.notes swept_entries dr.1.0 dr.1.1 plainly in
        let cover : (i : ℕ) → i < from + c + 1 → IsCovered a.thread es (place_of a.thread.0 i) = λ i h. ⊎_elim
        (λ (before : i < from). covered_left a.thread dr.1.0 swept_entries (place_of a.thread.0 i) (dr.1.2 i before))
        (λ (past : from ≤ i). ⊎_elim
        (λ (e : i ≡ from + c). subst (λ (pl : PlaceNo). IsCovered a.thread es pl) (sym nth ∙ ap (λ (j : ℕ). place_of a.thread.0 j) (sym e)) (covered_right a.thread dr.1.0 swept_entries N (inl (among_right (IsTakeAt N) runs T (inl refl)))))
        (λ (ne : i ≢ from + c). covered_right a.thread dr.1.0 swept_entries (place_of a.thread.0 i) (covered_left a.thread runs T (place_of a.thread.0 i) (inr (unavailable_run a.thread rests from c sw.vacant i past (omega arith)))))
        (cases_eq i (from + c)))
        (lt_cases i from) in
        let held = keeps (Some from) t room all room' roomy in
        let P : Book → Type 0 = λ b. KeepsAll a b.notes (known n d o left) left (Some (from + c + 1)) (totals_after t (Take a.thread caretaker false (place_of a.thread.0 (from + c)) v.face.id v.face.uses)) room'
        × DrainsOne (alone a (Some from) old.notes) (alone a (Some (from + c + 1)) b.notes) v
        × Grows (alone a (Some from) old.notes) (alone a (Some (from + c + 1)) b.notes) (Take a.thread caretaker false (place_of a.thread.0 (from + c)) v.face.id v.face.uses ∷ []) in
        subst P (sym book) (
          record { stands = held.stands; drains = (omega arith, (es, more, cover)); counted = held.counted; roomy = held.roomy },
          record {
            set = (dr.1.0, dr.1.1);
            from = from;
            at = from + c;
            was = refl;
            below = omega arith;
            inside = omega arith;
            passed = refl;
            takes = takes_by a (Some from) (Some (from + c + 1)) old.notes runs caretaker false N v (length rests) st.one gone.one looked kept.0 kept.1;
          },
          marks_are (Some from) (Some (from + c + 1)),
        )

    -- a purge that took
    pub purged : (p : Option ℕ) (t : Totals) (room : ℕ) → KeepsAll a old.notes (known n d o rests) rests p t room → (room' : ℕ) → 64 ≤ room' → (q r : Quota) → q.seen ≡ from → q.left ≡ r.left + 1 → r.seen ≡ from + c + 1 → r.row ≡ a.thread.0 → r.place ≡ from + c + 1
        → KeepsAll a new.notes (known n d o left) left p (totals_after t (Take a.thread caretaker false (place_of a.thread.0 (from + c)) v.face.id v.face.uses)) room'
        × PurgesOne (alone a p old.notes) (alone a p new.notes) q r v
        × Grows (alone a p old.notes) (alone a p new.notes) (Take a.thread caretaker false (place_of a.thread.0 (from + c)) v.face.id v.face.uses ∷ [])
    purged p t room all room' roomy q r is less seen row place =
        let low = sw.inside in
        let looked = run_looks a.thread rests from c in
        let runs : List Note = looks_run a.thread rests from c in
        let P : Book → Type 0 = λ b. KeepsAll a b.notes (known n d o left) left p (totals_after t (Take a.thread caretaker false (place_of a.thread.0 (from + c)) v.face.id v.face.uses)) room'
        × PurgesOne (alone a p old.notes) (alone a p b.notes) q r v
        × Grows (alone a p old.notes) (alone a p b.notes) (Take a.thread caretaker false (place_of a.thread.0 (from + c)) v.face.id v.face.uses ∷ []) in
        let at : r.seen < 64 * a.threads → place_of r.row r.place ≡ nth_place a.thread a.threads r.seen = λ h.
        let below : r.seen < 64 = omega arith in
        let e : r.place ≡ r.seen = place ∙ sym seen in
        ap (λ (i : ℕ). place_of i r.place) row ∙ (ap (λ (j : ℕ). place_of a.thread.0 j) e ∙ nth_is a inside few r.seen below) in
        subst P (sym book) (
          keeps p t room all room' roomy,
          record {
            left = less;
            at = from + c;
            below = omega arith;
            inside = omega arith;
            seen = seen;
            stands = record { inside = omega arith; at = at };
            takes = takes_by a p p old.notes runs caretaker false N v (length rests) st.one gone.one looked kept.0 kept.1;
            none = subst (λ (j : ℕ). Passes a runs j (from + c)) (sym is) (passes from c sw.vacant (omega arith));
            passed = refl;
          },
          marks_are p p,
        )

-- no drain was set
pub drain_never : (a : About) (notes : List Note) (k : Known) (rests : List Rested) (t : Totals) (room : ℕ) → KeepsAll a notes k rests None t room → DrainsNone (alone a None notes) (alone a None notes)
drain_never a notes k rests t room s = record {
  looks = record { looks = []; looked = tt; makes = record { about = refl; mine = sym (append-nil notes); seen = ([], sym (append-nil notes)); was = s.stands.one; one = s.stands.one; even = refl } };
  passed = refl;
  all = subst (λ (x : Option (List Note)). IfSome x (λ xs. AllCovered a xs)) (sym s.drains) tt;
}
