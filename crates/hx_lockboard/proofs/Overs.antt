-- A take from another row.
use Rattle.std.proofs.Common.{◌≡◌, ◌≢◌, ℕ, ◌+◌, ◌-◌, ◌*◌, ◌/◌, ◌%◌, ◌<◌, ◌≤◌, Bool, true, List, [], ◌∷◌, ◌++◌, length, refl, sym, ap, ◌∙◌, subst, arith, ⊎_elim}
use Rattle.std.proofs.Math.Nat.{mod-eq_of_lt, add-mod_right}
use Rattle.std.proofs.lemmas.List.{length-append}
use Rattle.std.specs.Vec.{vec_capacity}
use Rattle.hx_base.specs.declared.numbers.ThreadNo.{ThreadNo}
use Rattle.hx_base.specs.declared.numbers.SessionNo.{SessionNo}
use Rattle.hx_base.specs.declared.numbers.PlaceNo.{PlaceNo}
use Rattle.hx_base.specs.Shown.{Shown}
use Rattle.hx_pool.specs.declared.entries.Entry.TheVariants.{Take}
use Rattle.hx_pool.specs.declared.entries.Note.{Note}
use Rattle.hx_pool.specs.History.{opens_of, IsEven}
use Rattle.hx_pool.specs.Rules.{allows}
use Rattle.hx_pool.specs.SeatView.{Grows}
use Rattle.hx_pool.specs.Causes.{nth_place, AllLooks, IsUnavailableTo}
use Rattle.hx_pool.specs.Taking.{taking}
use Rattle.hx_pool.specs.Takeover.{counted, TakesOver, SeesNone, OthersUnavailable}
use Rattle.hx_pool.specs.Totals.{totals_after}
use Rattle.hx_pool.proofs.Histories.{even-append}
use Rattle.hx_pool.proofs.Calls.{looks_marks, looks_even, marks_taking}
use Rattle.hx_pool.proofs.Purges.{le_cases}
use Rattle.hx_pool.proofs.Coverage.{nth_onto}
use Rattle.hx_resting.specs.declared.values.Rows.{Rows}
use Rattle.hx_resting.specs.Rows.{Rested, rests_of, Stands, IsAfter, known_of}
use Rattle.hx_resting.specs.Row.{looks_run, Ran, Swept}
use Rattle.hx_lockboard.specs.Rule.{AllBy}
use Rattle.hx_resting.specs.Desks.{DeskView, adds_notes}
use Rattle.hx_lockboard.specs.LockDesks.{given_back}
use Rattle.hx_lockboard.specs.Seats.{history, KeepsAll}
use Rattle.hx_lockboard.specs.Order.{StartsAt}
use Rattle.hx_resting.proofs.Looks.{run_looks, length-looks_run}
use Rattle.hx_resting.proofs.Steps.{count_stands}
use Rattle.hx_lockboard.proofs.Draining.{no_drain-append, looks_no_drain, looks_totals, totals_from-looks}
use Rattle.hx_lockboard.proofs.Orders.{starts_first, starts_inside}
use Rattle.hx_lockboard.proofs.Taken.{took_even}
use Rattle.hx_lockboard.proofs.Calls.{Start, whole, after_of, low_of, few_of, calls_of, keeps_on, grows_of}
use Rattle.hx_lockboard.proofs.Sweeps.{unavailable_at, passed_after, passed_by, passed_wrote, swept_wrote, swept_after, swept_by, swept_takes, place_is}

-- from the place 64 on, the order of a thread is in other rows
other_row : (t : ThreadNo) (threads q : ℕ) → t.0 < threads → 64 ≤ q → q < 64 * threads → (nth_place t threads q).row ≢ t.0
other_row t threads q low from to same =
    let j : ℕ = q / 64 in
    let one : 1 ≤ j = omega arith in
    let far : j < threads = omega arith in
    ⊎_elim
    (λ (over : threads ≤ t.0 + j).
    let back : (t.0 + j - threads) + threads ≡ t.0 + j = omega arith in
    let m : (t.0 + j) % threads ≡ t.0 + j - threads = ap (λ x. x % threads) (sym back) ∙ (add-mod_right (t.0 + j - threads) threads ∙ mod-eq_of_lt (omega arith)) in
    let e : (t.0 + j) % threads ≡ t.0 = same in absurd (omega arith))
    (λ (under : t.0 + j < threads).
    let m : (t.0 + j) % threads ≡ t.0 + j = mod-eq_of_lt under in
    let e : (t.0 + j) % threads ≡ t.0 = same in absurd (omega arith))
    (le_cases threads (t.0 + j))

own_first : (t : ThreadNo) (threads q : ℕ) → t.0 < threads → q < 64 → (nth_place t threads q).row ≡ t.0
own_first t threads q low h =
    let z : t.0 + q / 64 ≡ t.0 = omega arith in
    ap (λ x. x % threads) z ∙ mod-eq_of_lt low

module _ {V : Type 0} (shows : V → Shown) (k : Start shows) (count : ℕ) (is : count ≡ length (rests_of shows k.rows.resting.items)) where
  abbrev rests : List Rested
  rests = rests_of shows k.rows.resting.items

  abbrev pub lead : List Note
  lead = counted k.t count ∷ []

  lead_stands : Stands k.b (whole shows k ++ lead) (known_of shows k.rows) rests
  lead_stands = subst (λ (j : ℕ). Stands k.b (whole shows k ++ counted k.t j ∷ []) (known_of shows k.rows) rests) (sym is) (count_stands k.b k.t (low_of shows k) (whole shows k) (known_of shows k.rows) rests (after_of shows k).stands)

  pub lead_after : IsAfter shows k.b (whole shows k ++ lead) k.rows
  lead_after = record { stands = lead_stands; roomy = (after_of shows k).roomy }

  module _ (n : SessionNo) (first : Bool) (d1 d2 : DeskView) (led : d1 ≡ adds_notes k.d1 lead) (rows' : Rows V)
      (next : rows'.next ≡ k.rows.next) (gate : rows'.draining ≡ k.rows.draining) (round : rows'.round ≡ k.rows.round) (room : vec_capacity rows'.resting ≡ vec_capacity k.rows.resting) (from : ℕ) (starts : StartsAt k.t k.b.threads rests k.b.rules.mode first from) where
    abbrev pub may : ℕ → Bool
    may u = allows k.b.rules.mode first u

    abbrev looks : ℕ → List Note
    looks c = looks_run k.t k.b.threads rests from c

    abbrev looked : (c : ℕ) → AllLooks k.t (looks c)
    looked c = run_looks k.t k.b.threads rests from c

    -- nothing was found
    module _ (d3 : DeskView) (back : d3 ≡ given_back d2) (ran : Ran d1 d2 k.t k.b.threads may rests from (64 * k.b.threads - from)) (same : rows'.resting.items ≡ k.rows.resting.items) where
      abbrev c : ℕ
      c = 64 * k.b.threads - from

      abbrev ys : List Note
      ys = lead ++ looks c

      wrote : d2 ≡ adds_notes k.d1 ys
      wrote = passed_wrote shows k lead (refl, tt) refl lead_stands n first may from d1 d2 led rows' next gate round room c ran

      after : IsAfter shows k.b (whole shows k ++ ys) rows'
      after = passed_after shows k lead (refl, tt) refl lead_stands n first may from d1 d2 led rows' next gate round room c same

      by : AllBy k.t ys
      by = passed_by shows k lead (refl, tt) refl lead_stands n first may from d1 d2 led rows' next gate round room c

      even : IsEven ys
      even = even-append lead (looks c) refl (looks_even k.t (looks c) (looked c))

      none_opened : (xs : List Note) → AllLooks k.t xs → opens_of xs ≡ 0
      none_opened [] l = refl
      none_opened (x ∷ xs) l = ap (λ (y : Note). opens_of (y ∷ xs)) l.0.2 ∙ none_opened xs l.1

      pub none_keeps : KeepsAll k.b k.t d3 k.p k.totals k.opened
      none_keeps = keeps_on shows k d2 ys wrote d3 back by rows' after k.totals (tt, looks_no_drain k.t (looks c) (looked c)) (sym (looks_totals k.t (looks c) k.totals (looked c))) (none_opened (looks c) (looked c))

      others : OthersUnavailable (history k.b k.t k.p k.d0) first (looks c)
      others row p lr apart lp =
          let at = nth_onto k.t k.b.threads row p (low_of shows k) lr lp in
          let far : 64 ≤ at.0 = ⊎_elim (λ (h : 64 ≤ at.0). h) (λ (h : at.0 < 64). absurd (apart (ap (λ (z : PlaceNo). z.row) (sym at.2) ∙ own_first k.t k.b.threads at.0 (low_of shows k) h))) (le_cases 64 at.0) in
          let in_range = at.1 in
          let here = starts_first k.t k.b.threads rests k.b.rules.mode first from c refl starts ran.none in
          subst (λ (z : PlaceNo). IsUnavailableTo may k.t (looks c) z) at.2 (unavailable_at k.t k.b.threads may rests from c ran.none at.0 (omega arith) (omega arith))

      pub sees_none : k.b.rules.low ≤ count → SeesNone (history k.b k.t k.p k.d0) (history k.b k.t k.p d3) first
      sees_none enough = record { c = count; enough = enough; looks = looks c; looked = looked c; none = others; makes = calls_of shows k d2 ys wrote d3 back by rows' after even }

      pub none_grows : Grows (history k.b k.t k.p k.d0) (history k.b k.t k.p d3) []
      none_grows = grows_of shows k d2 ys wrote d3 back by rows' after even k.p [] (sym (looks_marks k.t (looks c) (looked c))) (let f = few_of shows k in let e = length-looks_run k.t k.b.threads rests from c in omega (arith, length-append lead (looks c)))

    -- a value was taken
    module _ (d3 : DeskView) (back : d3 ≡ given_back d2) (c : ℕ) (inside : from + c < 64 * k.b.threads) (x : Rested) (sw : Swept d1 d2 rests (rests_of shows rows'.resting.items) k.t k.b.threads n first may from c x) where
      abbrev fine : n.0 ≢ 0 → allows k.b.rules.mode first x.shown.face.uses ≡ true
      fine h = sw.good

      abbrev T : List Note
      T = taking k.t n first x.place x.shown.face (length rests)

      abbrev zs : List Note
      zs = lead ++ (looks c ++ T)

      took_wrote : d2 ≡ adds_notes k.d1 zs
      took_wrote = swept_wrote shows k lead (refl, tt) refl lead_stands n first may from d1 d2 led rows' next gate round room c x sw fine

      took_after : IsAfter shows k.b (whole shows k ++ zs) rows'
      took_after = swept_after shows k lead (refl, tt) refl lead_stands n first may from d1 d2 led rows' next gate round room c x sw fine

      took_by : AllBy k.t zs
      took_by = swept_by shows k lead (refl, tt) refl lead_stands n first may from d1 d2 led rows' next gate round room c x sw fine

      is_at : x.place ≡ nth_place k.t k.b.threads (from + c)
      is_at = place_is shows k lead (refl, tt) refl lead_stands n first may from d1 d2 led rows' next gate round room c x sw fine

      no_open : (xs : List Note) → AllLooks k.t xs → opens_of (xs ++ T) ≡ 0
      no_open [] l = refl
      no_open (y ∷ xs) l = ap (λ (z : Note). opens_of (z ∷ (xs ++ T))) l.0.2 ∙ no_open xs l.1

      pub over_keeps : KeepsAll k.b k.t d3 k.p (totals_after k.totals (Take k.t n first x.place x.shown.face.id x.shown.face.uses)) k.opened
      over_keeps = keeps_on shows k d2 zs took_wrote d3 back took_by rows' took_after _ (tt, no_drain-append (looks c) T (looks_no_drain k.t (looks c) (looked c)) (tt, (tt, (tt, tt)))) (sym (totals_from-looks k.t (looks c) T k.totals (looked c))) (no_open (looks c) (looked c))

      pub takes_over : k.b.rules.low ≤ count → TakesOver (history k.b k.t k.p k.d0) (history k.b k.t k.p d3) n first x.shown
      takes_over enough = record {
        c = count;
        enough = enough;
        place = x.place;
        other = λ e. other_row k.t k.b.threads (from + c) (low_of shows k) (let low = (starts_inside k.t k.b.threads rests k.b.rules.mode first from (low_of shows k) starts).0 in omega arith) inside (sym (ap (λ (z : PlaceNo). z.row) is_at) ∙ e);
        takes = swept_takes shows k lead (refl, tt) refl lead_stands n first may from d1 d2 led rows' next gate round room c x sw fine d3 k.p back;
        passed = refl;
      }

      pub over_grows : Grows (history k.b k.t k.p k.d0) (history k.b k.t k.p d3) (Take k.t n first x.place x.shown.face.id x.shown.face.uses ∷ [])
      over_grows = grows_of shows k d2 zs took_wrote d3 back took_by rows' took_after (even-append lead (looks c ++ T) refl (took_even (looks c) k.t n first x.place x.shown.face (length rests) (looked c))) k.p _ (sym (marks_taking (looks c) k.t n first x.place x.shown.face (length rests) (looked c)))
          (let f = few_of shows k in let e = length-looks_run k.t k.b.threads rests from c in omega (arith, length-append lead (looks c ++ T), length-append (looks c) T))
