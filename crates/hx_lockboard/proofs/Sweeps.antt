-- The way through the rows: what a sweep takes, and what it passes.
use Rattle.std.proofs.Common.{◌≡◌, ◌≢◌, ℕ, zero, suc, ◌+◌, ◌-◌, ◌*◌, ◌<◌, ◌≤◌, Bool, true, false, List, [], ◌∷◌, ◌++◌, length, refl, sym, ap, ◌∙◌, subst, arith, Option, Some, None, IfSome, inl, inr, ⊎_elim, append_assoc, le_refl}
use Rattle.std.specs.Prelude.{MatchOption}
use Rattle.std.specs.Vec.{vec_capacity}
use Rattle.std.proofs.lemmas.List.{append-nil, length-append}
use Rattle.std.proofs.lemmas.Bool.{cases_eq}
use Rattle.hx_base.specs.declared.numbers.ThreadNo.{ThreadNo}
use Rattle.hx_base.specs.declared.numbers.SessionNo.{SessionNo}
use Rattle.hx_base.specs.declared.numbers.PlaceNo.{PlaceNo}
use Rattle.hx_base.specs.declared.numbers.Face.{Face}
use Rattle.hx_base.specs.declared.totals.Totals.{Totals}
use Rattle.hx_base.specs.Shown.{Shown}
use Rattle.hx_pool.specs.declared.board.BoardTerms.{BoardTerms}
use Rattle.hx_pool.specs.declared.budget.Quota.{Quota}
use Rattle.hx_pool.specs.declared.entries.Found.TheVariants.{Resting}
use Rattle.hx_pool.specs.declared.entries.Entry.{Entry}
use Rattle.hx_pool.specs.declared.entries.Entry.TheVariants.{Take, Look}
use Rattle.hx_pool.specs.declared.entries.Note.{Note}
use Rattle.hx_pool.specs.Table.{Spot, Vacant, Holds, Leaves, found_of}
use Rattle.hx_pool.specs.History.{entries_of, opens_of, IsEven}
use Rattle.hx_pool.specs.Rules.{allows}
use Rattle.hx_pool.specs.SeatView.{About, History, Grows}
use Rattle.hx_pool.specs.Causes.{place_of, nth_place, caretaker, Among, AllLooks, IsTakeAt, IsCovered, IsUnavailableTo, AllCovered}
use Rattle.hx_pool.specs.Taking.{taking, Takes}
use Rattle.hx_pool.specs.Drain.{since_drain, DrainsOne, DrainsNone}
use Rattle.hx_pool.specs.Purge.{Passes, PurgesOne, PurgesNone}
use Rattle.hx_pool.specs.Totals.{totals_after, totals_from}
use Rattle.hx_pool.proofs.Calls.{looks_marks, looks_even, marks_taking}
use Rattle.hx_pool.proofs.Purges.{among_left, among_right, covered_left, unavailable_by, le_cases}
use Rattle.hx_pool.proofs.Coverage.{covered_all}
use Rattle.hx_pool.proofs.Tables.{spot_no_inj}
use Rattle.hx_resting.specs.declared.values.Rest.{Rest}
use Rattle.hx_resting.specs.declared.values.Rows.{Rows}
use Rattle.hx_resting.specs.Rows.{Rested, rests_of, spot_in, AreApart, Stands, IsAfter, known_of}
use Rattle.hx_resting.specs.Row.{nth_no, look_at, looks_run, IsUnfit, Ran, Swept}
use Rattle.hx_lockboard.specs.Rule.{AllBy}
use Rattle.hx_resting.specs.Desks.{DeskView, adds_notes}
use Rattle.hx_lockboard.specs.LockDesks.{given_back}
use Rattle.hx_lockboard.specs.Seats.{about, history, Drains, KeepsAll}
use Rattle.hx_lockboard.proofs.Owners.{all_by-append}
use Rattle.hx_resting.proofs.Looks.{run_looks, length-looks_run, notes_join}
use Rattle.hx_resting.proofs.Shelves.{in_row}
use Rattle.hx_lockboard.proofs.Draining.{NoDrain, no_drain-append, looks_no_drain, since_longer, looks_totals, totals_from-looks}
use Rattle.hx_lockboard.proofs.Calls.{Start, whole, after_of, low_of, few_of, makes_of, calls_of, keeps_of, keeps_on, grows_of}
use Rattle.hx_lockboard.proofs.Taken.{run_stands, looks_by, nth_inside, after_as, took_after, took_by, took_takes, took_even}
use Rattle.hx_lockboard.proofs.OwnTakes.{Goes, adds_none}

pub run_among : (t : ThreadNo) (threads : ℕ) (rests : List Rested) (from c q : ℕ) → q < c → Among (λ e. e ≡ Look t (nth_place t threads (from + q)) (found_of (spot_in rests (nth_no t threads (from + q))))) (looks_run t threads rests from c)
unfolding looks_run
run_among t threads rests from zero q h = absurd (omega arith)
run_among t threads rests from (suc c) q h =
    let P : Entry → Type 0 = λ e. e ≡ Look t (nth_place t threads (from + q)) (found_of (spot_in rests (nth_no t threads (from + q)))) in
    let x : Note = look_at t threads rests (from + c) in
    ⊎_elim (λ (e : q ≡ c). among_right P (looks_run t threads rests from c) (x ∷ []) (inl (ap (λ (i : ℕ). Look t (nth_place t threads (from + i)) (found_of (spot_in rests (nth_no t threads (from + i))))) (sym e))))
    (λ (ne : q ≢ c). among_left P (looks_run t threads rests from c) (x ∷ []) (run_among t threads rests from c q (omega arith))) (cases_eq q c)

shows_rest : (s : Spot) (f : Face) → found_of s ≡ Resting f → s ≡ Holds f
shows_rest s f e =
    let P : Spot → Type 0 = λ z. found_of z ≡ Resting f → z ≡ Holds f in
    let all : (z : Spot) → P z = λ z. elim z as P [ Vacant ↦ λ h. cc | Holds g ↦ λ h. cc | Leaves t ↦ λ h. cc ] in
    all s e

-- a place that was passed has nothing to take
pub unavailable_at : (t : ThreadNo) (threads : ℕ) (may : ℕ → Bool) (rests : List Rested) (from c : ℕ) → ((q : ℕ) → q < c → IsUnfit may (spot_in rests (nth_no t threads (from + q)))) → (j : ℕ) → from ≤ j → j < from + c → IsUnavailableTo may t (looks_run t threads rests from c) (nth_place t threads j)
unavailable_at t threads may rests from c none j low high =
    let e : from + (j - from) ≡ j = omega arith in
    let P : ℕ → Type 0 = λ i. IsUnavailableTo may t (looks_run t threads rests from c) (nth_place t threads i) in
    let q : ℕ = j - from in
    let s : Spot = spot_in rests (nth_no t threads (from + q)) in
    let unfit = none q (omega arith) in
    let shut : (f : Face) → may f.uses ≡ true → found_of s ≢ Resting f = λ f good shows. let bad = unfit f (shows_rest s f shows) in cc in
    let here : P (from + q) = inl (found_of s, shut, run_among t threads rests from c q (omega arith)) in
    subst P e here

pub covered_right : (t : ThreadNo) (es more : List Note) (at : PlaceNo) → IsCovered t more at → IsCovered t (es ++ more) at
covered_right t es more at h = ⊎_elim (λ a. inl (among_right (IsTakeAt at) es more a)) (λ m. inr (unavailable_by t more (es ++ more) at (λ x a. among_right (λ e. e ≡ Look t at x) es more a) m)) h

-- looks, and then perhaps a take
module _ {V : Type 0} (shows : V → Shown) (k : Start shows) (lead : List Note) (lead_by : AllBy k.t lead) (lead_even : IsEven lead) (lead_st : Stands k.b (whole shows k ++ lead) (known_of shows k.rows) (rests_of shows k.rows.resting.items)) (n : SessionNo) (first : Bool) (may : ℕ → Bool) (from : ℕ) (d1 d2 : DeskView) (led : d1 ≡ adds_notes k.d1 lead) (rows' : Rows V)
    (next : rows'.next ≡ k.rows.next) (gate : rows'.draining ≡ k.rows.draining) (round : rows'.round ≡ k.rows.round) (room : vec_capacity rows'.resting ≡ vec_capacity k.rows.resting) where
  abbrev rests : List Rested
  rests = rests_of shows k.rows.resting.items

  abbrev run : ℕ → List Note
  run c = looks_run k.t k.b.threads rests from c

  pub looked : (c : ℕ) → AllLooks k.t (run c)
  looked c = run_looks k.t k.b.threads rests from c

  pub st : (c : ℕ) → Stands k.b (whole shows k ++ (lead ++ run c)) (known_of shows k.rows) rests
  st c = subst (λ hs. Stands k.b hs (known_of shows k.rows) rests) (append_assoc (whole shows k) lead (run c)) (run_stands k.b k.t (low_of shows k) (whole shows k ++ lead) (known_of shows k.rows) rests lead_st from c)

  -- nothing was taken
  pub passed_after : (c : ℕ) → rows'.resting.items ≡ k.rows.resting.items → IsAfter shows k.b (whole shows k ++ (lead ++ run c)) rows'
  passed_after c same = let r = (after_of shows k).roomy in after_as shows k.b (whole shows k ++ (lead ++ run c)) (known_of shows k.rows) rests rows' (st c) next gate refl round (ap (rests_of shows) same) (omega arith)

  pub passed_by : (c : ℕ) → AllBy k.t (lead ++ run c)
  passed_by c = all_by-append k.t lead (run c) lead_by (looks_by k.t (run c) (looked c))

  pub passed_wrote : (c : ℕ) → Ran d1 d2 k.t k.b.threads may rests from c → d2 ≡ adds_notes k.d1 (lead ++ run c)
  passed_wrote c ran = notes_join k.d1 d1 d2 lead (run c) led ran.desk

  module _ (c : ℕ) (x : Rested) (sw : Swept d1 d2 rests (rests_of shows rows'.resting.items) k.t k.b.threads n first may from c x) (fine : n.0 ≢ 0 → allows k.b.rules.mode first x.shown.face.uses ≡ true) where
    abbrev pub swept_notes : List Note
    swept_notes = lead ++ (run c ++ taking k.t n first x.place x.shown.face (length rests))

    pub swept_wrote : d2 ≡ adds_notes k.d1 swept_notes
    swept_wrote = notes_join k.d1 d1 d2 lead (run c ++ taking k.t n first x.place x.shown.face (length rests)) led sw.desk

    pub swept_after : IsAfter shows k.b (whole shows k ++ swept_notes) rows'
    swept_after = took_after shows k lead (run c) n first x sw.before sw.behind rows' (st c) sw.parts sw.left_is next gate round room fine (looked c) lead_by lead_even

    pub swept_by : AllBy k.t swept_notes
    swept_by = took_by shows k lead (run c) n first x sw.before sw.behind rows' (st c) sw.parts sw.left_is next gate round room fine (looked c) lead_by lead_even

    abbrev pub swept_takes : (d3 : DeskView) (q : Option ℕ) → d3 ≡ given_back d2 → Takes (history k.b k.t k.p k.d0) (history k.b k.t q d3) lead n first x.place x.shown
    swept_takes d3 q back = took_takes shows k lead (run c) n first x sw.before sw.behind rows' (st c) sw.parts sw.left_is next gate round room fine (looked c) lead_by lead_even d2 d3 q swept_wrote back

    pub place_is : x.place ≡ nth_place k.t k.b.threads (from + c)
    place_is = spot_no_inj x.place (nth_place k.t k.b.threads (from + c)) (in_row k.b.threads sw.before x sw.behind (subst (AreApart k.b.threads) sw.parts (after_of shows k).stands.apart)).1 (nth_inside k.t k.b.threads (from + c)) sw.at

  pub sweep_goes : (taken : Option (ℕ × Rest V)) (cap : ℕ) → MatchOption taken (Ran d1 d2 k.t k.b.threads may rests from (cap - from) × (rows'.resting.items ≡ k.rows.resting.items))
      (λ r. (from + r.0 < cap) × Swept d1 d2 rests (rests_of shows rows'.resting.items) k.t k.b.threads n first may from r.0 (record { place = r.1.place; shown = shows r.1.v })) → ((u : ℕ) → may u ≡ true → n.0 ≢ 0 → allows k.b.rules.mode first u ≡ true) → Goes shows k d2 rows'
  sweep_goes None cap m fine = record { ys = lead ++ run (cap - from); wrote = passed_wrote (cap - from) m.0; all = passed_by (cap - from); after = passed_after (cap - from) m.1 }
  sweep_goes (Some r) cap m fine =
      let x : Rested = record { place = r.1.place; shown = shows r.1.v } in
      let f = fine x.shown.face.uses m.1.good in
      record { ys = swept_notes r.0 x m.1 f; wrote = swept_wrote r.0 x m.1 f; all = swept_by r.0 x m.1 f; after = swept_after r.0 x m.1 f }

-- the caretaker's looks and takes: there is no lead
module _ {V : Type 0} (shows : V → Shown) (k : Start shows) (from : ℕ) (d2 d3 : DeskView) (rows' : Rows V) (back : d3 ≡ given_back d2)
    (next : rows'.next ≡ k.rows.next) (gate : rows'.draining ≡ k.rows.draining) (round : rows'.round ≡ k.rows.round) (room : vec_capacity rows'.resting ≡ vec_capacity k.rows.resting) where
  abbrev every : ℕ → Bool
  every u = true

  abbrev resting : List Rested
  resting = rests_of shows k.rows.resting.items

  pub no_lead : Stands k.b (whole shows k ++ []) (known_of shows k.rows) resting
  no_lead = subst (λ hs. Stands k.b hs (known_of shows k.rows) resting) (sym (append-nil (whole shows k))) (after_of shows k).stands

  abbrev A : About
  A = about k.b k.t k.d0

  abbrev looks : ℕ → List Note
  looks c = looks_run k.t k.b.threads resting from c

  few_looks : (c : ℕ) → c ≤ 1024 → length (looks c) ≤ 1024
  few_looks c h = let e = length-looks_run k.t k.b.threads resting from c in omega arith

  -- a drain that found nothing
  module _ (ran : Ran k.d1 d2 k.t k.b.threads every resting from (64 * k.b.threads - from)) (same : rows'.resting.items ≡ k.rows.resting.items) (was : k.p ≡ Some from) where
    abbrev c : ℕ
    c = 64 * k.b.threads - from

    wrote : d2 ≡ adds_notes k.d1 (looks c)
    wrote = passed_wrote shows k [] tt refl no_lead caretaker false every from k.d1 d2 (adds_none k.d1) rows' next gate round room c ran

    after : IsAfter shows k.b (whole shows k ++ looks c) rows'
    after = passed_after shows k [] tt refl no_lead caretaker false every from k.d1 d2 (adds_none k.d1) rows' next gate round room c same

    by : AllBy k.t (looks c)
    by = looks_by k.t (looks c) (run_looks k.t k.b.threads resting from c)

    dr : (from ≤ 64 * A.threads) × ((es : List Note) × (since_drain k.d0.view.mine ≡ Some es) × ((i : ℕ) → i < from → IsCovered A.thread es (nth_place A.thread A.threads i)))
    dr = subst (Drains A k.d0.view.mine) was k.s.drains

    abbrev es : List Note
    es = dr.1.0 ++ looks c

    since : since_drain (k.d0.view.mine ++ looks c) ≡ Some es
    since = since_longer k.d0.view.mine (looks c) dr.1.0 dr.1.1 (looks_no_drain k.t (looks c) (run_looks k.t k.b.threads resting from c))

    cover : (i : ℕ) → i < 64 * k.b.threads → IsCovered k.t es (nth_place k.t k.b.threads i)
    unfolding dr
    cover i h = ⊎_elim
        (λ (high : from ≤ i). covered_right k.t dr.1.0 (looks c) (nth_place k.t k.b.threads i) (inr (unavailable_at k.t k.b.threads every resting from c ran.none i high (omega arith))))
        (λ (low : i < from). covered_left k.t dr.1.0 (looks c) (nth_place k.t k.b.threads i) (dr.1.2 i low))
        (le_cases from i)

    pub drain_keeps : KeepsAll k.b k.t d3 (Some (64 * k.b.threads)) k.totals k.opened
    drain_keeps = keeps_of shows k d2 (looks c) wrote d3 back by rows' after (Some (64 * k.b.threads)) k.totals k.opened (le_refl (64 * k.b.threads), (es, since, cover)) (sym (looks_totals k.t (looks c) k.totals (run_looks k.t k.b.threads resting from c))) (no_opens (looks c) (run_looks k.t k.b.threads resting from c)) k.s.few
      where
        no_opens : (xs : List Note) → AllLooks k.t xs → k.opened ≡ k.opened + opens_of xs
        no_opens [] l = omega arith
        no_opens (x ∷ xs) l = no_opens xs l.1 ∙ ap (λ (y : Note). k.opened + opens_of (y ∷ xs)) (sym l.0.2)

    pub drain_none : DrainsNone (history k.b k.t k.p k.d0) (history k.b k.t (Some (64 * k.b.threads)) d3)
    drain_none = record {
      looks = record { looks = looks c; looked = run_looks k.t k.b.threads resting from c; makes = makes_of shows k d2 (looks c) wrote d3 back by rows' after (looks_even k.t (looks c) (run_looks k.t k.b.threads resting from c)) (Some (64 * k.b.threads)) };
      passed = subst (λ (o : Option ℕ). MatchOption o (Some (64 * k.b.threads) ≡ None) (λ _. Some (64 * k.b.threads) ≡ Some (64 * k.b.threads))) (sym was) refl;
      all = subst (λ (l : List Note). IfSome (since_drain l) (λ xs. AllCovered A xs)) (sym (makes_of shows k d2 (looks c) wrote d3 back by rows' after (looks_even k.t (looks c) (run_looks k.t k.b.threads resting from c)) (Some (64 * k.b.threads))).mine) (subst (λ (o : Option (List Note)). IfSome o (λ xs. AllCovered A xs)) (sym since) (covered_all A es (low_of shows k) cover));
    }

    pub drain_grows : Grows (history k.b k.t k.p k.d0) (history k.b k.t (Some (64 * k.b.threads)) d3) []
    drain_grows = grows_of shows k d2 (looks c) wrote d3 back by rows' after (looks_even k.t (looks c) (run_looks k.t k.b.threads resting from c)) (Some (64 * k.b.threads)) [] (sym (looks_marks k.t (looks c) (run_looks k.t k.b.threads resting from c))) (let f = few_of shows k in let e = length-looks_run k.t k.b.threads resting from c in omega arith)

  -- a purge that found nothing
  module _ (ran : Ran k.d1 d2 k.t k.b.threads every resting from (64 * k.b.threads - from)) (same : rows'.resting.items ≡ k.rows.resting.items) (low : from ≤ 64 * k.b.threads) where
    abbrev span : ℕ
    span = 64 * k.b.threads - from

    passed_all : d2 ≡ adds_notes k.d1 (looks span)
    passed_all = passed_wrote shows k [] tt refl no_lead caretaker false every from k.d1 d2 (adds_none k.d1) rows' next gate round room span ran

    unchanged : IsAfter shows k.b (whole shows k ++ looks span) rows'
    unchanged = passed_after shows k [] tt refl no_lead caretaker false every from k.d1 d2 (adds_none k.d1) rows' next gate round room span same

    by_self : AllBy k.t (looks span)
    by_self = looks_by k.t (looks span) (run_looks k.t k.b.threads resting from span)

    opens_none : (xs : List Note) → AllLooks k.t xs → opens_of xs ≡ 0
    opens_none [] l = refl
    opens_none (x ∷ xs) l = ap (λ (y : Note). opens_of (y ∷ xs)) l.0.2 ∙ opens_none xs l.1

    pub purge_keeps : KeepsAll k.b k.t d3 k.p k.totals k.opened
    purge_keeps = keeps_on shows k d2 (looks span) passed_all d3 back by_self rows' unchanged k.totals (looks_no_drain k.t (looks span) (run_looks k.t k.b.threads resting from span)) (sym (looks_totals k.t (looks span) k.totals (run_looks k.t k.b.threads resting from span))) (opens_none (looks span) (run_looks k.t k.b.threads resting from span))

    pub purge_none : (q r : Quota) → q.left ≢ 0 → q.seen ≡ from → r.left ≡ q.left → r.seen ≡ 64 * k.b.threads → PurgesNone (history k.b k.t k.p k.d0) (history k.b k.t k.p d3) q r
    purge_none q r some at left seen = inr (
      some,
      record {
        left = left;
        seen = seen;
        looks = looks span;
        looked = run_looks k.t k.b.threads resting from span;
        none = λ i h j. unavailable_at k.t k.b.threads every resting from span ran.none i (omega arith) (omega arith);
        makes = calls_of shows k d2 (looks span) passed_all d3 back by_self rows' unchanged (looks_even k.t (looks span) (run_looks k.t k.b.threads resting from span));
      },
    )

    pub purge_grows : Grows (history k.b k.t k.p k.d0) (history k.b k.t k.p d3) []
    purge_grows = grows_of shows k d2 (looks span) passed_all d3 back by_self rows' unchanged (looks_even k.t (looks span) (run_looks k.t k.b.threads resting from span)) k.p [] (sym (looks_marks k.t (looks span) (run_looks k.t k.b.threads resting from span))) (let f = few_of shows k in let e = length-looks_run k.t k.b.threads resting from span in omega arith)

  -- a value was taken
  module _ (c : ℕ) (inside : from + c < 64 * k.b.threads) (x : Rested) (sw : Swept k.d1 d2 resting (rests_of shows rows'.resting.items) k.t k.b.threads caretaker false every from c x) where
    abbrev pub ys : List Note
    ys = looks c ++ taking k.t caretaker false x.place x.shown.face (length resting)

    abbrev fine : caretaker.0 ≢ 0 → allows k.b.rules.mode false x.shown.face.uses ≡ true
    fine h = absurd (h refl)

    pub care_wrote : d2 ≡ adds_notes k.d1 ys
    care_wrote = swept_wrote shows k [] tt refl no_lead caretaker false every from k.d1 d2 (adds_none k.d1) rows' next gate round room c x sw fine

    pub care_after : IsAfter shows k.b (whole shows k ++ ys) rows'
    care_after = swept_after shows k [] tt refl no_lead caretaker false every from k.d1 d2 (adds_none k.d1) rows' next gate round room c x sw fine

    pub care_by : AllBy k.t ys
    care_by = swept_by shows k [] tt refl no_lead caretaker false every from k.d1 d2 (adds_none k.d1) rows' next gate round room c x sw fine

    abbrev N : PlaceNo
    N = nth_place k.t k.b.threads (from + c)

    is_at : x.place ≡ N
    is_at = place_is shows k [] tt refl no_lead caretaker false every from k.d1 d2 (adds_none k.d1) rows' next gate round room c x sw fine

    pub care_takes : (q : Option ℕ) → Takes (history k.b k.t k.p k.d0) (history k.b k.t q d3) [] caretaker false N x.shown
    care_takes q = subst (λ (pl : PlaceNo). Takes (history k.b k.t k.p k.d0) (history k.b k.t q d3) [] caretaker false pl x.shown) is_at (swept_takes shows k [] tt refl no_lead caretaker false every from k.d1 d2 (adds_none k.d1) rows' next gate round room c x sw fine d3 q back)

    pub care_plain : NoDrain ys
    care_plain = no_drain-append (looks c) (taking k.t caretaker false x.place x.shown.face (length resting)) (looks_no_drain k.t (looks c) (run_looks k.t k.b.threads resting from c)) (tt, (tt, (tt, tt)))

    pub care_totals : totals_after k.totals (Take k.t caretaker false x.place x.shown.face.id x.shown.face.uses) ≡ totals_from k.totals (entries_of ys)
    care_totals = sym (totals_from-looks k.t (looks c) (taking k.t caretaker false x.place x.shown.face (length resting)) k.totals (run_looks k.t k.b.threads resting from c))

    pub care_opens : k.opened ≡ k.opened + opens_of ys
    care_opens = go (looks c) (run_looks k.t k.b.threads resting from c)
      where
        go : (xs : List Note) → AllLooks k.t xs → k.opened ≡ k.opened + opens_of (xs ++ taking k.t caretaker false x.place x.shown.face (length resting))
        go [] l = omega arith
        go (y ∷ xs) l = go xs l.1 ∙ ap (λ (z : Note). k.opened + opens_of (z ∷ (xs ++ taking k.t caretaker false x.place x.shown.face (length resting)))) (sym l.0.2)

    pub care_grows : (q : Option ℕ) → Grows (history k.b k.t k.p k.d0) (history k.b k.t q d3) (Take k.t caretaker false x.place x.shown.face.id x.shown.face.uses ∷ [])
    care_grows q = grows_of shows k d2 ys care_wrote d3 back care_by rows' care_after (took_even (looks c) k.t caretaker false x.place x.shown.face (length resting) (run_looks k.t k.b.threads resting from c)) q _ (sym (marks_taking (looks c) k.t caretaker false x.place x.shown.face (length resting) (run_looks k.t k.b.threads resting from c)))
        (let f = few_of shows k in let e = length-looks_run k.t k.b.threads resting from c in omega (arith, length-append (looks c) (taking k.t caretaker false x.place x.shown.face (length resting))))

    pub took_keeps : k.p ≡ Some from → KeepsAll k.b k.t d3 (Some (from + c + 1)) (totals_after k.totals (Take k.t caretaker false x.place x.shown.face.id x.shown.face.uses)) k.opened
    took_keeps was =
        let dr : (from ≤ 64 * A.threads) × ((es : List Note) × (since_drain k.d0.view.mine ≡ Some es) × ((i : ℕ) → i < from → IsCovered A.thread es (nth_place A.thread A.threads i))) = subst (Drains A k.d0.view.mine) was k.s.drains in
        let T : List Note = taking k.t caretaker false x.place x.shown.face (length resting) in
        let es : List Note = dr.1.0 ++ ys in
        let cover : (i : ℕ) → i < from + c + 1 → IsCovered k.t es (nth_place k.t k.b.threads i) = λ i h. ⊎_elim
        (λ (past : from ≤ i). ⊎_elim
        (λ (e : i ≡ from + c). subst (λ (pl : PlaceNo). IsCovered k.t es pl) (is_at ∙ ap (nth_place k.t k.b.threads) (sym e)) (covered_right k.t dr.1.0 ys x.place (inl (among_right (IsTakeAt x.place) (looks c) T (inl refl)))))
        (λ (ne : i ≢ from + c). covered_right k.t dr.1.0 ys (nth_place k.t k.b.threads i) (covered_left k.t (looks c) T (nth_place k.t k.b.threads i) (inr (unavailable_at k.t k.b.threads every resting from c sw.none i past (omega arith)))))
        (cases_eq i (from + c)))
        (λ (before : i < from). covered_left k.t dr.1.0 ys (nth_place k.t k.b.threads i) (dr.1.2 i before))
        (le_cases from i) in
        keeps_of shows k d2 ys care_wrote d3 back care_by rows' care_after (Some (from + c + 1)) _ k.opened (omega arith, (es, since_longer k.d0.view.mine ys dr.1.0 dr.1.1 care_plain, cover)) care_totals care_opens k.s.few

    pub drain_one : k.p ≡ Some from → DrainsOne (history k.b k.t k.p k.d0) (history k.b k.t (Some (from + c + 1)) d3) x.shown
    drain_one was =
        let dr : (from ≤ 64 * A.threads) × ((es : List Note) × (since_drain k.d0.view.mine ≡ Some es) × ((i : ℕ) → i < from → IsCovered A.thread es (nth_place A.thread A.threads i))) = subst (Drains A k.d0.view.mine) was k.s.drains in record {
          set = (dr.1.0, dr.1.1);
          from = from;
          at = from + c;
          was = was;
          below = omega arith;
          inside = inside;
          passed = refl;
          takes = care_takes (Some (from + c + 1));
        }

    -- the same for a purge
    pub care_keeps : KeepsAll k.b k.t d3 k.p (totals_after k.totals (Take k.t caretaker false x.place x.shown.face.id x.shown.face.uses)) k.opened
    care_keeps = keeps_on shows k d2 ys care_wrote d3 back care_by rows' care_after _ care_plain care_totals (let o = care_opens in omega arith)

    pub purge_one : (q r : Quota) → q.left ≡ r.left + 1 → q.seen ≡ from → r.seen ≡ from + c + 1 → (r.seen < 64 * k.b.threads → place_of r.row r.place ≡ nth_place k.t k.b.threads r.seen) → PurgesOne (history k.b k.t k.p k.d0) (history k.b k.t k.p d3) q r x.shown
    purge_one q r less at seen place =
        let h : History = history k.b k.t k.p k.d0 in
        let h' : History = history k.b k.t k.p d3 in
        let P : PlaceNo → Type 0 = λ pl. (tk : Takes h h' [] caretaker false pl x.shown) × Passes A tk.looks from (from + c) in
        let base : P x.place = (swept_takes shows k [] tt refl no_lead caretaker false every from k.d1 d2 (adds_none k.d1) rows' next gate round room c x sw fine d3 k.p back, λ i h j. unavailable_at k.t k.b.threads every resting from c sw.none i h j) in
        let moved : P N = subst P is_at base in record {
          left = less;
          at = from + c;
          below = omega arith;
          inside = inside;
          seen = seen;
          stands = record { inside = omega arith; at = place };
          takes = moved.0;
          none = subst (λ (j : ℕ). Passes A moved.0.looks j (from + c)) (sym at) moved.1;
          passed = refl;
        }

-- no drain was set
pub drain_never : (b : BoardTerms) (t : ThreadNo) (d : DeskView) (totals : Totals) (opened : ℕ) → KeepsAll b t d None totals opened → DrainsNone (history b t None d) (history b t None d)
drain_never b t d totals opened s = record {
  looks = record { looks = []; looked = tt; makes = record { about = refl; mine = sym (append-nil d.view.mine); seen = ([], sym (append-nil d.view.seen)); was = s.one; one = s.one; even = refl } };
  passed = refl;
  all = subst (λ (x : Option (List Note)). IfSome x (λ xs. AllCovered (about b t d) xs)) (sym s.drains) tt;
}
