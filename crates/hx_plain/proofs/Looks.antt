-- Looks through the own row.
use Rattle.std.proofs.Common.{◌≡◌, ◌≢◌, ℕ, zero, suc, ◌+◌, ◌<◌, Bool, true, List, [], ◌∷◌, ◌++◌, length, refl, sym, ap, ◌∙◌, arith, append_assoc, get_or, take, drop, ⊎_elim}
use Rattle.std.proofs.lemmas.List.{append-nil, drop_more, map-append, length-map, length-take-le, take-append-drop, length-append}
use Rattle.std.proofs.lemmas.Bool.{cases_eq}
use Rattle.hx_base.specs.declared.numbers.ThreadNo.{ThreadNo}
use Rattle.hx_base.specs.declared.rules.Mode.{Mode}
use Rattle.hx_base.specs.Shown.{Shown}
use Rattle.hx_pool.specs.declared.entries.Found.TheVariants.{Empty}
use Rattle.hx_pool.specs.declared.entries.Entry.TheVariants.{Look}
use Rattle.hx_pool.specs.declared.entries.Note.{Note}
use Rattle.hx_pool.specs.Table.{Spot, Vacant, Holds, Leaves, found_of}
use Rattle.hx_pool.specs.History.{plain}
use Rattle.hx_pool.specs.Causes.{place_of, AllLooks}
use Rattle.hx_plain.specs.declared.rest.Rest.{Rest}
use Rattle.hx_plain.specs.Book.{Book, add_note, add_notes}
use Rattle.hx_resting.specs.Row.{fits}
use Rattle.hx_plain.specs.Row.{Rested, rests_of, spot_in, look_at, looks_run, NoneFits, LastFits, Scanned, Ran, CutAt}

rests_more : {V : Type 0} (shows : V → Shown) (xs : List (Rest V)) (i : ℕ) (d : Rest V) → i < length xs
    → rests_of shows (drop i xs) ≡ record { place = (get_or xs i d).place; shown = shows (get_or xs i d).v } ∷ rests_of shows (drop (i + 1) xs)
rests_more shows xs i d h = ap (rests_of shows) (drop_more xs i d h)

-- the list is cut at an index
pub rests_cut : {V : Type 0} (shows : V → Shown) (xs : List (Rest V)) (i : ℕ) (d : Rest V) → i < length xs
    → (rests_of shows xs ≡ rests_of shows (take i xs) ++ record { place = (get_or xs i d).place; shown = shows (get_or xs i d).v } ∷ rests_of shows (drop (i + 1) xs)) × (length (rests_of shows (take i xs)) ≡ i)
rests_cut {V} shows xs i d h =
    let f : Rest V → Rested = λ x. record { place = x.place; shown = shows x.v } in (
      ap (rests_of shows) (sym (take-append-drop i xs)) ∙ (map-append f (take i xs) (drop i xs) ∙ ap (λ l. rests_of shows (take i xs) ++ l) (rests_more shows xs i d h)),
      length-map (take i xs) f ∙ length-take-le i xs (omega arith),
    )

pub empty_vacant : (rests : List Rested) (p : ℕ) → found_of (spot_in rests p) ≡ Empty → spot_in rests p ≡ Vacant
empty_vacant rests p e =
    let P : Spot → Type 0 = λ s. found_of s ≡ Empty → s ≡ Vacant in
    let all : (s : Spot) → P s = λ s. elim s as P [ Vacant ↦ λ h. refl | Holds f ↦ λ h. cc | Leaves t ↦ λ h. cc ] in
    all (spot_in rests p) e

run_more : (t : ThreadNo) (rests : List Rested) (from c : ℕ) → looks_run t rests from (c + 1) ≡ looks_run t rests from c ++ look_at t rests (from + c) ∷ []
unfolding looks_run
run_more t rests from c = ap (looks_run t rests from) (Rattle.std.proofs.Math.Numerals.add-one c)

run_none : (b : Book) (t : ThreadNo) (rests : List Rested) (from : ℕ) → b ≡ add_notes b (looks_run t rests from 0)
unfolding looks_run
run_none b t rests from = ap (λ (l : List Note). let c : Book = record { board = b.board; notes = l } in c) (sym (append-nil b.notes))

-- one more look
look_more : (a b c : Book) (t : ThreadNo) (rests : List Rested) (from k : ℕ) → b ≡ add_notes a (looks_run t rests from k) → c ≡ add_note b (look_at t rests (from + k)) → c ≡ add_notes a (looks_run t rests from (k + 1))
look_more a b c t rests from k e f =
    let x : Note = look_at t rests (from + k) in
    f ∙ (ap (λ (z : Book). add_note z x) e ∙ ap (λ (l : List Note). let z : Book = record { board = a.board; notes = l } in z) (append_assoc a.notes (looks_run t rests from k) (x ∷ []) ∙ ap (λ l. a.notes ++ l) (sym (run_more t rests from k))))

pub scan_none : (b : Book) (t : ThreadNo) (rests : List Rested) → Scanned b b t rests 0 0
scan_none b t rests = record { book = run_none b t rests 0; taken = λ q h. absurd (omega arith) }

pub scan_more : (a b c : Book) (t : ThreadNo) (rests : List Rested) (k j : ℕ) → Scanned a b t rests k j → c ≡ add_note b (look_at t rests k) → (j' : ℕ) → ((q : ℕ) → q < j' → spot_in rests q ≢ Vacant) → Scanned a c t rests (k + 1) j'
scan_more a b c t rests k j s e j' h =
    let z : k ≡ 0 + k = omega arith in
    record { book = look_more a b c t rests 0 k s.book (e ∙ ap (λ (p : ℕ). add_note b (look_at t rests p)) z); taken = h }

pub ran_none : (b : Book) (t : ThreadNo) (rests : List Rested) (from : ℕ) → Ran b b t rests from 0
ran_none b t rests from = record { book = run_none b t rests from; vacant = λ q h. absurd (omega arith) }

pub ran_more : (a b c : Book) (t : ThreadNo) (rests : List Rested) (from k : ℕ) → Ran a b t rests from k → spot_in rests (from + k) ≡ Vacant → c ≡ add_note b (plain (Look t (place_of t.0 (from + k)) Empty)) → Ran a c t rests from (k + 1)
ran_more a b c t rests from k s v e =
    record {
      book = look_more a b c t rests from k s.book (e ∙ ap (λ (f : Spot). add_note b (plain (Look t (place_of t.0 (from + k)) (found_of f)))) (sym v));
      vacant = λ q h. ⊎_elim (λ (i : q ≡ k). ap (λ (j : ℕ). spot_in rests (from + j)) i ∙ v) (λ (ne : q ≢ k). s.vacant q (omega arith)) (cases_eq q k);
    }

pub run_looks : (t : ThreadNo) (rests : List Rested) (from c : ℕ) → AllLooks t (looks_run t rests from c)
unfolding looks_run
run_looks t rests from zero = tt
run_looks t rests from (suc c) = push (looks_run t rests from c) (run_looks t rests from c)
  where
    push : (xs : List Note) → AllLooks t xs → AllLooks t (xs ++ look_at t rests (from + c) ∷ [])
    push [] h = ((place_of t.0 (from + c), found_of (spot_in rests (from + c)), refl), tt)
    push (x ∷ xs) h = (h.0, push xs h.1)

pub length-looks_run : (t : ThreadNo) (rests : List Rested) (from c : ℕ) → length (looks_run t rests from c) ≡ c
unfolding looks_run
length-looks_run t rests from zero = refl
length-looks_run t rests from (suc c) = let e = length-looks_run t rests from c in omega (arith, length-append (looks_run t rests from c) (look_at t rests (from + c) ∷ []))

pub last_is : {V : Type 0} (shows : V → Shown) (mode : Mode) (first safe : Bool) (xs : List (Rest V)) (j : ℕ) (r : Rest V) → j < length xs → r ≡ get_or xs j r → fits mode first safe (shows r.v).face.uses ≡ true → NoneFits mode first safe (rests_of shows (drop (j + 1) xs))
    → LastFits mode first safe (rests_of shows xs) j
last_is {V} shows mode first safe xs j r h is good none =
    let cut = rests_cut shows xs j r h in record {
      before = rests_of shows (take j xs);
      chosen = record { place = r.place; shown = shows r.v };
      behind = rests_of shows (drop (j + 1) xs);
      parts = cut.0 ∙ ap (λ (y : Rest V). rests_of shows (take j xs) ++ record { place = y.place; shown = shows y.v } ∷ rests_of shows (drop (j + 1) xs)) (sym is);
      index = cut.1;
      good = good;
      none = none;
    }

pub cut_at : {V : Type 0} (shows : V → Shown) (xs : List (Rest V)) (i : ℕ) (r : Rest V) (place : ℕ) → i < length xs → r ≡ get_or xs i r → r.place ≡ place → CutAt (rests_of shows xs) i place
cut_at {V} shows xs i r place h is at =
    let cut = rests_cut shows xs i r h in record {
      before = rests_of shows (take i xs);
      chosen = record { place = r.place; shown = shows r.v };
      behind = rests_of shows (drop (i + 1) xs);
      parts = cut.0 ∙ ap (λ (y : Rest V). rests_of shows (take i xs) ++ record { place = y.place; shown = shows y.v } ∷ rests_of shows (drop (i + 1) xs)) (sym is);
      index = cut.1;
      at = at;
    }
