-- The exits of a park.
use Rattle.std.proofs.Common.{◌≡◌, ◌≢◌, ℕ, ◌+◌, ◌-◌, ◌*◌, ◌/◌, ◌%◌, ◌<◌, ◌≤◌, eqb, cond, Bool, true, false, List, [], ◌∷◌, ◌++◌, length, refl, sym, ap, ◌∙◌, subst, arith, Option, Some, None, IfSome, inl, ⊎_elim, append_assoc, map}
use Rattle.std.proofs.Math.Nat.{mod-eq_of_lt}
use Rattle.std.proofs.lemmas.List.{append-nil, length-append, length-map, map-append}
use Rattle.std.proofs.lemmas.Bool.{eqb-true, or_cases}
use Rattle.std.proofs.lemmas.Map.Steps.{length-le_from_distinct_below}
use Rattle.std.specs.List.{IsDistinct, AllByRecursion, list_any}
use Rattle.std.specs.Vec.{vec_capacity}
use Rattle.hx_base.specs.declared.numbers.ThreadNo.{ThreadNo}
use Rattle.hx_base.specs.declared.numbers.SessionNo.{SessionNo}
use Rattle.hx_base.specs.declared.numbers.PlaceNo.{PlaceNo}
use Rattle.hx_base.specs.declared.numbers.Face.{Face}
use Rattle.hx_base.specs.declared.rules.Mode.TheVariants as mode
use Rattle.hx_base.specs.declared.totals.Totals.{Totals}
use Rattle.hx_base.specs.Shown.{Shown}
use Rattle.hx_pool.specs.declared.board.BoardTerms.{BoardTerms}
use Rattle.hx_pool.specs.declared.entries.Entry.TheVariants.{Park, Gate, Up, Down, Look}
use Rattle.hx_pool.specs.declared.entries.Note.{Note}
use Rattle.hx_pool.specs.declared.refusals.NoPark.{NoPark}
use Rattle.hx_pool.specs.declared.refusals.NoPark.TheVariants.{Never, NoneKept, RowFull, Draining, PoolFull}
use Rattle.hx_pool.specs.Table.{Vacant, Holds, HeldBy, found_of, spot_no}
use Rattle.hx_pool.specs.History.{plain, entries_of, marks_of, opens_of, table_after, IsEven}
use Rattle.hx_pool.specs.Held.{Has}
use Rattle.hx_pool.specs.SeatView.{Grows}
use Rattle.hx_pool.specs.Causes.{place_of, nth_place, Among, AllLooks, ShowsTaken}
use Rattle.hx_pool.specs.Parking.{CanPark, KeepsSome, FindsVacant, Parks, RefusesPark, gated, parked}
use Rattle.hx_pool.specs.Totals.{totals_after, totals_from}
use Rattle.hx_pool.proofs.Histories.{even-append}
use Rattle.hx_pool.proofs.Calls.{has_kept, looks_marks, looks_even, marks_parked}
use Rattle.hx_pool.proofs.Holding.{has_with}
use Rattle.hx_resting.specs.declared.values.Rest.{Rest}
use Rattle.hx_resting.specs.declared.values.Rows.{Rows}
use Rattle.hx_resting.specs.Rows.{Rested, rests_of, spot_in, IsAtBoard, AreApart, Known, Stands, IsAfter, known_of}
use Rattle.hx_resting.specs.Row.{nth_no, looks_run, Scanned, IsFirstVacant, Refuses, RefusedByRules}
use Rattle.hx_lockboard.specs.Rule.{AllBy}
use Rattle.hx_resting.specs.Desks.{DeskView, adds_note, adds_notes}
use Rattle.hx_lockboard.specs.LockDesks.{given_back}
use Rattle.hx_lockboard.specs.Seats.{about, history, KeepsAll}
use Rattle.hx_lockboard.proofs.Owners.{all_by-append}
use Rattle.hx_resting.proofs.Looks.{run_looks, length-looks_run, empty_vacant, notes_more}
use Rattle.hx_resting.proofs.Steps.{gate_stands, up_stands, down_stands}
use Rattle.hx_resting.proofs.Rests.{park_stands}
use Rattle.hx_lockboard.proofs.Draining.{NoDrain, no_drain-append, looks_no_drain, looks_totals, totals_from-looks, marks_after_looks}
use Rattle.hx_lockboard.proofs.Calls.{Start, whole, after_of, low_of, one_with, makes_of, calls_of, keeps_on, grows_of, calls_none}
use Rattle.hx_lockboard.proofs.Taken.{run_stands, looks_by, after_as}
use Rattle.hx_lockboard.proofs.OwnTakes.{Goes}
use Rattle.hx_lockboard.proofs.Sweeps.{run_among}

-- the first 64 places of a thread's order are its row
pub nth_own : (t : ThreadNo) (threads q : ℕ) → t.0 < threads → q < 64 → nth_place t threads q ≡ place_of t.0 q
nth_own t threads q low h =
    let z : t.0 + q / 64 ≡ t.0 = omega arith in
    let w : q % 64 ≡ q = omega arith in
    ap (λ x. place_of (x % threads) (q % 64)) z ∙ (ap (λ x. place_of x (q % 64)) (mod-eq_of_lt low) ∙ ap (place_of t.0) w)

-- no more values than places
numbers : List Rested → List ℕ
numbers xs = map (λ (x : Rested). spot_no x.place) xs

not_among : (xs : List Rested) (p : ℕ) → spot_in xs p ≡ Vacant → AllByRecursion (λ y. eqb p y ≡ false) (numbers xs)
unfolding numbers
not_among [] p v = tt
not_among (x ∷ xs) p v =
    let P : Bool → Type 0 = λ b. cond b (Holds x.shown.face) (spot_in xs p) ≡ Vacant → (b ≡ false) × (spot_in xs p ≡ Vacant) in
    let all : (b : Bool) → P b = λ b. elim b as P [ true ↦ λ h. cc | false ↦ λ h. (refl, h) ] in
    let r = all (eqb p (spot_no x.place)) v in
    (r.0, not_among xs p r.1)

distinct_numbers : (n : ℕ) (xs : List Rested) → AreApart n xs → IsDistinct eqb (numbers xs)
unfolding numbers IsDistinct
distinct_numbers n [] a = tt
distinct_numbers n (x ∷ xs) a = (not_among xs (spot_no x.place) a.1, distinct_numbers n xs a.2)

below_board : (n : ℕ) (place : PlaceNo) → IsAtBoard n place → spot_no place < 64 * n
below_board n place a = let r = a.0 in let p = a.1 in omega arith

low_numbers : (n : ℕ) (xs : List Rested) (q : ℕ) → AreApart n xs → list_any (eqb q) (numbers xs) ≡ true → q < 64 * n
unfolding numbers
low_numbers n [] q a h = cc
low_numbers n (x ∷ xs) q a h = ⊎_elim
    (λ (e : eqb q (spot_no x.place) ≡ true). subst (λ (j : ℕ). j < 64 * n) (sym (eqb-true q (spot_no x.place) e)) (below_board n x.place a.0))
    (λ e. low_numbers n xs q a.2 e)
    (or_cases (eqb q (spot_no x.place)) (list_any (eqb q) (numbers xs)) h)

pub all_fit : {V : Type 0} (shows : V → Shown) (n : ℕ) (xs : List (Rest V)) → AreApart n (rests_of shows xs) → length xs ≤ 64 * n
unfolding numbers
all_fit {V} shows n xs a =
    let rests = rests_of shows xs in
    let l = length-le_from_distinct_below (numbers rests) (64 * n) (distinct_numbers n rests a) (λ q h. low_numbers n rests q a h) in
    let m = length-map rests (λ (x : Rested). spot_no x.place) in
    let m' = length-map xs (λ (y : Rest V). let r : Rested = record { place = y.place; shown = shows y.v } in r) in omega arith

-- where a place is vacant the vector has room for one more value
pub one_fits : {V : Type 0} (shows : V → Shown) (n : ℕ) (xs : List (Rest V)) (p : ℕ) → AreApart n (rests_of shows xs) → p < 64 * n → spot_in (rests_of shows xs) p ≡ Vacant → length xs < 64 * n
unfolding numbers IsDistinct
one_fits {V} shows n xs p a low v =
    let rests = rests_of shows xs in
    let all : List ℕ = p ∷ numbers rests in
    let d : IsDistinct eqb all = (not_among rests p v, distinct_numbers n rests a) in
    let l = length-le_from_distinct_below all (64 * n) d (λ q h. ⊎_elim
    (λ (e : eqb q p ≡ true). subst (λ (j : ℕ). j < 64 * n) (sym (eqb-true q p e)) low)
    (λ e. low_numbers n rests q a e)
    (or_cases (eqb q p) (list_any (eqb q) (numbers rests)) h)) in
    let m = length-map rests (λ (x : Rested). spot_no x.place) in
    let m' = length-map xs (λ (y : Rest V). let r : Rested = record { place = y.place; shown = shows y.v } in r) in omega arith

-- a refusal by the rules
pub by_rules : (b : BoardTerms) (t : ThreadNo) (d : DeskView) (p : Option ℕ) (totals : Totals) (opened : ℕ) → KeepsAll b t d p totals opened → (n : SessionNo) (v : Shown) (why : NoPark) → RefusedByRules b.rules why → RefusesPark (history b t p d) (history b t p d) n v why
by_rules b t d p totals opened s n v Never r = (r, calls_none b t d p totals opened s)
by_rules b t d p totals opened s n v NoneKept r = (r.0, r.1, calls_none b t d p totals opened s)
by_rules b t d p totals opened s n v RowFull r = absurd r
by_rules b t d p totals opened s n v Draining r = absurd r
by_rules b t d p totals opened s n v (PoolFull c) r = absurd r

-- what a refused park leaves
pub record Refused {V : Type 0} (shows : V → Shown) (k : Start shows) (d2 : DeskView) (n : SessionNo) (v : Shown) (why : NoPark) : Type 0 where
  pub go : Goes shows k d2 k.rows
  pub plainly : NoDrain go.ys
  pub totals : totals_from k.totals (entries_of go.ys) ≡ k.totals
  pub opens : opens_of go.ys ≡ 0
  pub marks : marks_of go.ys ≡ []
  pub few : length go.ys ≤ 4096
  pub even : IsEven go.ys
  pub refuses : (d3 : DeskView) → d3 ≡ given_back d2 → RefusesPark (history k.b k.t k.p k.d0) (history k.b k.t k.p d3) n v why

pub refused_keeps : {V : Type 0} (shows : V → Shown) (k : Start shows) (d2 d3 : DeskView) (n : SessionNo) (v : Shown) (why : NoPark) → d3 ≡ given_back d2 → Refused shows k d2 n v why → KeepsAll k.b k.t d3 k.p k.totals k.opened
refused_keeps shows k d2 d3 n v why back r = keeps_on shows k d2 r.go.ys r.go.wrote d3 back r.go.all k.rows r.go.after k.totals r.plainly (sym r.totals) r.opens

pub refused_grows : {V : Type 0} (shows : V → Shown) (k : Start shows) (d2 d3 : DeskView) (n : SessionNo) (v : Shown) (why : NoPark) → d3 ≡ given_back d2 → Refused shows k d2 n v why → Grows (history k.b k.t k.p k.d0) (history k.b k.t k.p d3) []
refused_grows shows k d2 d3 n v why back r = grows_of shows k d2 r.go.ys r.go.wrote d3 back r.go.all k.rows r.go.after r.even k.p [] (sym r.marks) r.few

module _ {V : Type 0} (shows : V → Shown) (k : Start shows) (shares : k.b.rules.mode ≢ mode.Never) (keeps : KeepsSome k.b.rules) where
  abbrev rests : List Rested
  rests = rests_of shows k.rows.resting.items

  abbrev known_with : Bool → ℕ → Known
  known_with d c = record { next = k.rows.next; draining = d; count = c; round = k.rows.round }

  abbrev looks : ℕ → List Note
  looks j = looks_run k.t k.b.threads rests 0 j

  abbrev looked : (j : ℕ) → AllLooks k.t (looks j)
  looked j = run_looks k.t k.b.threads rests 0 j

  with_looks_even : (j : ℕ) (es : List Note) → IsEven es → IsEven (looks j ++ es)
  with_looks_even j es even = even-append (looks j) es (looks_even k.t (looks j) (looked j)) even

  own : (q : ℕ) → q < 64 → nth_place k.t k.b.threads q ≡ place_of k.t.0 q
  own q h = nth_own k.t k.b.threads q (low_of shows k) h

  no_open : (xs ys : List Note) → AllLooks k.t xs → opens_of (xs ++ ys) ≡ opens_of ys
  no_open [] ys l = refl
  no_open (x ∷ xs) ys l = ap (λ (z : Note). opens_of (z ∷ (xs ++ ys))) l.0.2 ∙ no_open xs ys l.1

  shows_taken : (j q : ℕ) → q < j → q < 64 → spot_in rests (nth_no k.t k.b.threads q) ≢ Vacant → ShowsTaken k.t (looks j) (place_of k.t.0 q)
  shows_taken j q h low ne =
      let z : 0 + q ≡ q = omega arith in
      let P : ℕ → Type 0 = λ i. Among (λ e. e ≡ Look k.t (nth_place k.t k.b.threads i) (found_of (spot_in rests (nth_no k.t k.b.threads i)))) (looks j) in
      let here : P q = subst P z (run_among k.t k.b.threads rests 0 j q h) in
      (found_of (spot_in rests (nth_no k.t k.b.threads q)), (λ e. ne (empty_vacant rests (nth_no k.t k.b.threads q) e)), subst (λ (pl : PlaceNo). Among (λ e. e ≡ Look k.t pl (found_of (spot_in rests (nth_no k.t k.b.threads q)))) (looks j)) (own q low) here)

  finds_vacant : (p : ℕ) → IsFirstVacant k.t k.b.threads rests p → FindsVacant k.t (looks (p + 1)) (place_of k.t.0 p)
  finds_vacant p f =
      let low = f.inside in
      let z : 0 + p ≡ p = omega arith in
      let P : ℕ → Type 0 = λ i. Among (λ e. e ≡ Look k.t (nth_place k.t k.b.threads i) (found_of (spot_in rests (nth_no k.t k.b.threads i)))) (looks (p + 1)) in
      let here : P p = subst P z (run_among k.t k.b.threads rests 0 (p + 1) p (omega arith)) in
      let there = subst (λ (pl : PlaceNo). Among (λ e. e ≡ Look k.t pl (found_of (spot_in rests (nth_no k.t k.b.threads p)))) (looks (p + 1))) (own p low) here in record {
        row = refl;
        inside = low;
        below = λ q h. shows_taken (p + 1) q (omega arith) (omega arith) (f.below q h);
        vacant = subst (λ s. Among (λ e. e ≡ Look k.t (place_of k.t.0 p) (found_of s)) (looks (p + 1))) f.vacant there;
      }

  ran : (j : ℕ) → Stands k.b (whole shows k ++ looks j) (known_of shows k.rows) rests
  ran j = run_stands k.b k.t (low_of shows k) (whole shows k) (known_of shows k.rows) rests (after_of shows k).stands 0 j

  gated_stands : (j : ℕ) → Stands k.b (whole shows k ++ (looks j ++ plain (Gate k.t k.rows.draining) ∷ [])) (known_of shows k.rows) rests
  gated_stands j = subst (λ hs. Stands k.b hs (known_of shows k.rows) rests) (append_assoc (whole shows k) (looks j) (plain (Gate k.t k.rows.draining) ∷ [])) (gate_stands k.b k.t (low_of shows k) (whole shows k ++ looks j) (known_of shows k.rows) rests (ran j))

  rooms : 64 * k.b.threads ≤ vec_capacity k.rows.resting
  rooms = (after_of shows k).roomy

  as_was : (ys : List Note) → Stands k.b (whole shows k ++ ys) (known_of shows k.rows) rests → IsAfter shows k.b (whole shows k ++ ys) k.rows
  as_was ys s = record { stands = s; roomy = rooms }

  row_full : (n : SessionNo) (v : Shown) (d2 : DeskView) → Scanned k.d1 d2 k.t k.b.threads rests 64 64 → Refused shows k d2 n v RowFull
  row_full n v d2 scan =
      let ys : List Note = looks 64 in
      let by = looks_by k.t ys (looked 64) in
      let after = as_was ys (ran 64) in record {
        go = record { ys = ys; wrote = scan.desk; all = by; after = after };
        plainly = looks_no_drain k.t ys (looked 64);
        totals = looks_totals k.t ys k.totals (looked 64);
        opens = ap opens_of (sym (append-nil ys)) ∙ no_open ys [] (looked 64);
        marks = looks_marks k.t ys (looked 64);
        few = let e = length-looks_run k.t k.b.threads rests 0 64 in omega arith;
        even = looks_even k.t ys (looked 64);
        refuses = λ d3 back. (
          shares,
          keeps,
          record {
            looks = record { looks = ys; looked = looked 64; makes = makes_of shows k d2 ys scan.desk d3 back by k.rows after (looks_even k.t ys (looked 64)) k.p };
            passed = refl;
            taken = λ q h. shows_taken 64 q h h (scan.taken q h);
          },
        );
      }

  shut_out : (n : SessionNo) (v : Shown) (d2 : DeskView) → k.rows.draining ≡ true → (q : ℕ) → IsFirstVacant k.t k.b.threads rests q → d2 ≡ adds_notes k.d1 (looks (q + 1) ++ plain (Gate k.t true) ∷ []) → Refused shows k d2 n v Draining
  shut_out n v d2 shut q first wrote =
      let ys : List Note = looks (q + 1) ++ plain (Gate k.t true) ∷ [] in
      let low = first.inside in
      let by = all_by-append k.t (looks (q + 1)) (plain (Gate k.t true) ∷ []) (looks_by k.t (looks (q + 1)) (looked (q + 1))) (refl, tt) in
      let after = as_was ys (subst (λ (z : Bool). Stands k.b (whole shows k ++ (looks (q + 1) ++ plain (Gate k.t z) ∷ [])) (known_of shows k.rows) rests) shut (gated_stands (q + 1))) in record {
        go = record { ys = ys; wrote = wrote; all = by; after = after };
        plainly = no_drain-append (looks (q + 1)) _ (looks_no_drain k.t (looks (q + 1)) (looked (q + 1))) (tt, tt);
        totals = totals_from-looks k.t (looks (q + 1)) _ k.totals (looked (q + 1));
        opens = no_open (looks (q + 1)) _ (looked (q + 1));
        marks = marks_after_looks k.t (looks (q + 1)) _ (looked (q + 1));
        few = let e = length-looks_run k.t k.b.threads rests 0 (q + 1) in omega (arith, length-append (looks (q + 1)) (plain (Gate k.t true) ∷ []));
        even = with_looks_even (q + 1) _ refl;
        refuses = λ d3 back. (shares, keeps, inl (record { looks = looks (q + 1); place = place_of k.t.0 q; looked = looked (q + 1); found = finds_vacant q first; makes = calls_of shows k d2 ys wrote d3 back by k.rows after (with_looks_even (q + 1) _ refl) }));
      }

  -- looks, a gate that shows ready, and the count
  module _ (ready : k.rows.draining ≡ false) where
    st₀ : (j : ℕ) → Stands k.b (whole shows k ++ (looks j ++ plain (Gate k.t false) ∷ [])) (known_with false (length rests)) rests
    st₀ j = subst (λ (z : Bool). Stands k.b (whole shows k ++ (looks j ++ plain (Gate k.t z) ∷ [])) (known_with z (length rests)) rests) ready (gated_stands j)

    snoc : (j : ℕ) (es : List Note) (x : Note) → (whole shows k ++ gated k.t (looks j) es) ++ x ∷ [] ≡ whole shows k ++ gated k.t (looks j) (es ++ x ∷ [])
    snoc j es x = append_assoc (whole shows k) (gated k.t (looks j) es) (x ∷ []) ∙ ap (λ l. whole shows k ++ l) (append_assoc (looks j) (plain (Gate k.t false) ∷ es) (x ∷ []))

    up : Note
    up = plain (Up k.t (length rests))

    st₁ : (j : ℕ) → Stands k.b (whole shows k ++ gated k.t (looks j) (up ∷ [])) (known_with false (length rests + 1)) rests
    unfolding up
    st₁ j = subst (λ hs. Stands k.b hs (known_with false (length rests + 1)) rests) (snoc j [] (plain (Up k.t (length rests)))) (up_stands k.b k.t (low_of shows k) _ (known_with false (length rests)) rests (st₀ j))

    abbrev down : Note
    down = plain (Down k.t (length rests + 1))

    st₂ : (j : ℕ) → Stands k.b (whole shows k ++ gated k.t (looks j) (plain (Up k.t (length rests)) ∷ down ∷ [])) (known_with false (length rests)) rests
    unfolding up st₁
    st₂ j =
        let s = down_stands k.b k.t (low_of shows k) _ (known_with false (length rests + 1)) rests (st₁ j) (omega arith) in
        let back : length rests + 1 - 1 ≡ length rests = omega arith in
        subst (λ hs. Stands k.b hs (known_with false (length rests)) rests) (snoc j (up ∷ []) down) (subst (λ (c : ℕ). Stands k.b ((whole shows k ++ gated k.t (looks j) (up ∷ [])) ++ down ∷ []) (known_with false c) rests) back s)

    pool_full : (n : SessionNo) (v : Shown) (d2 : DeskView) (q c : ℕ) → IsFirstVacant k.t k.b.threads rests q → c ≡ length rests → ((x : ℕ) × (k.b.rules.max ≡ Some x) × (x ≤ length rests)) → d2 ≡ adds_notes k.d1 (gated k.t (looks (q + 1)) (plain (Up k.t (length rests)) ∷ down ∷ [])) → Refused shows k d2 n v (PoolFull c)
    pool_full n v d2 q c first counted limit wrote =
        let es : List Note = plain (Up k.t (length rests)) ∷ down ∷ [] in
        let ys : List Note = gated k.t (looks (q + 1)) es in
        let low = first.inside in
        let by = all_by-append k.t (looks (q + 1)) (plain (Gate k.t false) ∷ es) (looks_by k.t (looks (q + 1)) (looked (q + 1))) (refl, (refl, (refl, tt))) in
        let same : known_with false (length rests) ≡ known_of shows k.rows = ap (λ z. known_with z (length rests)) (sym ready) in
        let after = as_was ys (subst (λ (z : Known). Stands k.b (whole shows k ++ ys) z rests) same (st₂ (q + 1))) in
        let P : ℕ → Type 0 = λ i. Refused shows k d2 n v (PoolFull i) in
        let base : P (length rests) = record {
          go = record { ys = ys; wrote = wrote; all = by; after = after };
          plainly = no_drain-append (looks (q + 1)) _ (looks_no_drain k.t (looks (q + 1)) (looked (q + 1))) (tt, (tt, (tt, tt)));
          totals = totals_from-looks k.t (looks (q + 1)) _ k.totals (looked (q + 1));
          opens = no_open (looks (q + 1)) _ (looked (q + 1));
          marks = marks_after_looks k.t (looks (q + 1)) _ (looked (q + 1));
          few = let e = length-looks_run k.t k.b.threads rests 0 (q + 1) in omega (arith, length-append (looks (q + 1)) (plain (Gate k.t false) ∷ es));
          even = with_looks_even (q + 1) _ refl;
          refuses = λ d3 back. (shares, keeps, record { looks = looks (q + 1); place = place_of k.t.0 q; down = length rests + 1; looked = looked (q + 1); found = finds_vacant q first; limit = limit; makes = calls_of shows k d2 ys wrote d3 back by k.rows after (with_looks_even (q + 1) _ refl) });
        } in
        subst P (sym counted) base

    -- the value is put at the place
    module _ (n : SessionNo) (v : Shown) (q : ℕ) (can : CanPark (history k.b k.t k.p k.d0) n v) (most : v.face.uses ≤ 65535) (first : IsFirstVacant k.t k.b.threads rests q) (limit : IfSome k.b.rules.max (λ m. length rests < m)) (rows' : Rows V)
        (next : rows'.next ≡ k.rows.next) (gate : rows'.draining ≡ k.rows.draining) (round : rows'.round ≡ k.rows.round) (room : vec_capacity rows'.resting ≡ vec_capacity k.rows.resting) (put : rests_of shows rows'.resting.items ≡ rests ++ record { place = place_of k.t.0 q; shown = v } ∷ []) where
      abbrev j : ℕ
      j = q + 1

      abbrev at : PlaceNo
      at = place_of k.t.0 q

      abbrev x : Note
      x = parked k.t n at v

      abbrev r : Rested
      r = record { place = at; shown = v }

      abbrev es : List Note
      es = plain (Up k.t (length rests)) ∷ x ∷ plain (Gate k.t false) ∷ []

      abbrev pub park_notes : List Note
      park_notes = gated k.t (looks j) es

      abbrev ys₁ : List Note
      ys₁ = gated k.t (looks j) (plain (Up k.t (length rests)) ∷ [])

      s₁ : Stands k.b (whole shows k ++ ys₁) (known_with false (length rests + 1)) rests
      unfolding up
      s₁ = st₁ j

      by₁ : AllBy k.t ys₁
      by₁ = all_by-append k.t (looks j) _ (looks_by k.t (looks j) (looked j)) (refl, (refl, tt))

      has₁ : Has (k.d0.view.mine ++ ys₁) n v.face.id.0 (v.face.uses - 1)
      has₁ = has_kept k.d0.view.mine (looks j) (plain (Gate k.t false) ∷ plain (Up k.t (length rests)) ∷ []) k.t n v.face.id.0 (v.face.uses - 1) (looked j) refl can.has

      with : ((table_after (whole shows k ++ ys₁)).conns v.face.id.0 ≡ HeldBy k.t n) × ((table_after (whole shows k ++ ys₁)).uses v.face.id.0 ≡ v.face.uses - 1)
      with = has_with (record { about = about k.b k.t k.d0; seen = whole shows k ++ ys₁; mine = k.d0.view.mine ++ ys₁; passed = None }) n v.face.id.0 (v.face.uses - 1) (one_with shows k ys₁ by₁ s₁.right) has₁

      vacant : spot_in rests (spot_no at) ≡ Vacant
      vacant = subst (λ (pl : PlaceNo). spot_in rests (spot_no pl) ≡ Vacant) (own q first.inside) first.vacant

      s₂ : Stands k.b ((whole shows k ++ ys₁) ++ x ∷ []) (known_with false (length rests + 1)) (rests ++ r ∷ [])
      s₂ = park_stands k.b k.t (low_of shows k) (whole shows k ++ ys₁) (known_with false (length rests + 1)) rests s₁ n at v can.session first.inside refl vacant can.server with.0 with.1 can.used most shares limit

      s₃ : Stands k.b (whole shows k ++ park_notes) (known_with false (length (rests ++ r ∷ []))) (rests ++ r ∷ [])
      s₃ =
          let g = gate_stands k.b k.t (low_of shows k) ((whole shows k ++ ys₁) ++ x ∷ []) (known_with false (length rests + 1)) (rests ++ r ∷ []) s₂ in
          let c : length rests + 1 ≡ length (rests ++ r ∷ []) = omega (arith, length-append rests (r ∷ [])) in
          let e : ((whole shows k ++ ys₁) ++ x ∷ []) ++ plain (Gate k.t false) ∷ [] ≡ whole shows k ++ park_notes = ap (λ l. l ++ plain (Gate k.t false) ∷ []) (snoc j (plain (Up k.t (length rests)) ∷ []) x) ∙ snoc j (plain (Up k.t (length rests)) ∷ x ∷ []) (plain (Gate k.t false)) in
          subst (λ hs. Stands k.b hs (known_with false (length (rests ++ r ∷ []))) (rests ++ r ∷ [])) e (subst (λ (i : ℕ). Stands k.b (((whole shows k ++ ys₁) ++ x ∷ []) ++ plain (Gate k.t false) ∷ []) (known_with false i) (rests ++ r ∷ [])) c g)

      pub park_after : IsAfter shows k.b (whole shows k ++ park_notes) rows'
      park_after = let ro = rooms in after_as shows k.b (whole shows k ++ park_notes) (known_with false (length (rests ++ r ∷ []))) (rests ++ r ∷ []) rows' s₃ next (gate ∙ ready) refl round put (omega arith)

      pub park_by : AllBy k.t park_notes
      park_by = all_by-append k.t (looks j) _ (looks_by k.t (looks j) (looked j)) (refl, (refl, (refl, (refl, tt))))

      pub park_keeps : (d2 d3 : DeskView) → d2 ≡ adds_notes k.d1 park_notes → d3 ≡ given_back d2 → KeepsAll k.b k.t d3 k.p (totals_after k.totals (Park k.t n v.face.id at v.face.uses)) k.opened
      park_keeps d2 d3 wrote back = keeps_on shows k d2 park_notes wrote d3 back park_by rows' park_after _ (no_drain-append (looks j) _ (looks_no_drain k.t (looks j) (looked j)) (tt, (tt, (tt, (tt, tt))))) (sym (totals_from-looks k.t (looks j) _ k.totals (looked j))) (no_open (looks j) _ (looked j))

      pub park_parks : (d2 d3 : DeskView) → d2 ≡ adds_notes k.d1 park_notes → d3 ≡ given_back d2 → Parks (history k.b k.t k.p k.d0) (history k.b k.t k.p d3) n at v
      park_parks d2 d3 wrote back = record {
        mode = shares;
        keeps = keeps;
        looks = looks j;
        count = length rests;
        tail = plain (Gate k.t false) ∷ [];
        looked = looked j;
        found = finds_vacant q first;
        limit = limit;
        settles = inl refl;
        makes = calls_of shows k d2 park_notes wrote d3 back park_by rows' park_after (with_looks_even j _ refl);
      }

      pub park_grows : (d2 d3 : DeskView) → d2 ≡ adds_notes k.d1 park_notes → d3 ≡ given_back d2 → Grows (history k.b k.t k.p k.d0) (history k.b k.t k.p d3) (Park k.t n v.face.id at v.face.uses ∷ [])
      park_grows d2 d3 wrote back = grows_of shows k d2 park_notes wrote d3 back park_by rows' park_after (with_looks_even j _ refl) k.p _ (sym (marks_parked (looks j) k.t n at v (length rests) (plain (Gate k.t false) ∷ []) (looked j) (inl refl)))
          (let low = first.inside in let e = length-looks_run k.t k.b.threads rests 0 j in omega (arith, length-append (looks j) (plain (Gate k.t false) ∷ es)))

      -- the notes of a park, as the code writes them
      pub park_wrote : (a d2 d3 : DeskView) (place : PlaceNo) (f : Face) → place ≡ at → f ≡ v.face → a ≡ adds_notes k.d1 ys₁ → d2 ≡ adds_note a (record { entry = Park k.t n f.id place f.uses; what = Some v.what }) → d3 ≡ adds_note d2 (plain (Gate k.t k.rows.draining)) → d3 ≡ adds_notes k.d1 park_notes
      park_wrote a d2 d3 place f there same ad wrote shut =
          let y : PlaceNo → Face → Note = λ pl g. record { entry = Park k.t n g.id pl g.uses; what = Some v.what } in
          let wrote' : d2 ≡ adds_note a x = wrote ∙ (ap (λ pl. adds_note a (y pl f)) there ∙ ap (λ g. adds_note a (y at g)) same) in
          let shut' : d3 ≡ adds_note d2 (plain (Gate k.t false)) = shut ∙ ap (λ (z : Bool). adds_note d2 (plain (Gate k.t z))) ready in
          let one = notes_more k.d1 a d2 ys₁ x ad wrote' in
          let two = notes_more k.d1 d2 d3 (ys₁ ++ x ∷ []) (plain (Gate k.t false)) one shut' in
          two ∙ ap (adds_notes k.d1) (ap (λ l. l ++ plain (Gate k.t false) ∷ []) (append_assoc (looks j) (plain (Gate k.t false) ∷ plain (Up k.t (length rests)) ∷ []) (x ∷ [])) ∙ append_assoc (looks j) (plain (Gate k.t false) ∷ plain (Up k.t (length rests)) ∷ x ∷ []) (plain (Gate k.t false) ∷ []))

  pub refused : (n : SessionNo) (v : Shown) (d2 : DeskView) (why : NoPark) → Refuses k.d1 d2 k.t k.b.threads rests k.rows.draining k.b.rules.max why → Refused shows k d2 n v why
  refused n v d2 Never r = absurd r
  refused n v d2 NoneKept r = absurd r
  refused n v d2 RowFull r = row_full n v d2 r
  refused n v d2 Draining r = shut_out n v d2 r.0 r.1.p r.1.first r.1.desk
  refused n v d2 (PoolFull c) r = pool_full r.0 n v d2 r.1.p c r.1.first r.1.count r.1.limit r.1.desk

pub pushed : {V : Type 0} (shows : V → Shown) (xs ys : List (Rest V)) (r : Rest V) → ys ≡ xs ++ r ∷ [] → rests_of shows ys ≡ rests_of shows xs ++ record { place = r.place; shown = shows r.v } ∷ []
pushed {V} shows xs ys r e = let g : Rest V → Rested = λ y. record { place = y.place; shown = shows y.v } in ap (rests_of shows) e ∙ map-append g xs (r ∷ [])
