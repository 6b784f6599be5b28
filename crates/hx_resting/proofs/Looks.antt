-- Looks through the own row.
use Rattle.std.proofs.Common.{◌≡◌, ◌≢◌, ℕ, zero, suc, ◌+◌, ◌<◌, Bool, true, List, [], ◌∷◌, ◌++◌, length, refl, sym, ap, ◌∙◌, subst, arith, append_assoc, get_or, take, drop, cond, eq-eqb, ⊎_elim}
use Rattle.std.proofs.lemmas.List.{append-nil, drop_more, map-append, length-map, length-take-le, take-append-drop, length-append}
use Rattle.std.proofs.lemmas.Bool.{cases_eq}
use Rattle.hx_base.specs.declared.numbers.ThreadNo.{ThreadNo}
use Rattle.hx_base.specs.declared.rules.Mode.{Mode}
use Rattle.hx_base.specs.Shown.{Shown}
use Rattle.hx_base.specs.declared.numbers.PlaceNo.{PlaceNo}
use Rattle.hx_pool.specs.declared.entries.Found.{Found}
use Rattle.hx_pool.specs.declared.entries.Found.TheVariants.{Empty}
use Rattle.hx_pool.specs.declared.entries.Entry.TheVariants.{Look}
use Rattle.hx_pool.specs.declared.entries.Note.{Note}
use Rattle.hx_pool.specs.Table.{Spot, Vacant, Holds, Leaves, found_of, spot_no}
use Rattle.hx_pool.specs.History.{plain}
use Rattle.hx_pool.specs.Causes.{nth_place, AllLooks}
use Rattle.hx_resting.specs.declared.values.Rest.{Rest}
use Rattle.hx_resting.specs.Desks.{DeskView, adds_note, adds_notes}
use Rattle.hx_resting.specs.Rows.{Rested, rests_of, spot_in}
use Rattle.hx_resting.specs.Row.{nth_no, look_at, looks_run, fits_in, NoneFits, LastFits, Scanned, Ran, CutAt, IsUnfit}

rests_more : {V : Type 0} (shows : V → Shown) (xs : List (Rest V)) (i : ℕ) (d : Rest V) → i < length xs
    → rests_of shows (drop i xs) ≡ record { place = (get_or xs i d).place; shown = shows (get_or xs i d).v } ∷ rests_of shows (drop (i + 1) xs)
rests_more shows xs i d h = ap (rests_of shows) (drop_more xs i d h)

-- the list is cut at an index
pub rests_cut : {V : Type 0} (shows : V → Shown) (xs : List (Rest V)) (i : ℕ) (d : Rest V) → i < length xs
    → (rests_of shows xs ≡ rests_of shows (take i xs) ++ record { place = (get_or xs i d).place; shown = shows (get_or xs i d).v } ∷ rests_of shows (drop (i + 1) xs)) × (length (rests_of shows (take i xs)) ≡ i)
rests_cut {V} shows xs i d h =
    let f : Rest V → Rested = λ x. record { place = x.place; shown = shows x.v } in (
      ap (rests_of shows) (sym (take-append-drop i xs)) ∙ (map-append f (take i xs) (drop i xs) ∙ ap (λ l. rests_of shows (take i xs) ++ l) (rests_more shows xs i d h)),
      length-map (take i xs) f ∙ length-take-le i xs (omega arith),
    )

pub empty_vacant : (rests : List Rested) (p : ℕ) → found_of (spot_in rests p) ≡ Empty → spot_in rests p ≡ Vacant
empty_vacant rests p e =
    let P : Spot → Type 0 = λ s. found_of s ≡ Empty → s ≡ Vacant in
    let all : (s : Spot) → P s = λ s. elim s as P [ Vacant ↦ λ h. refl | Holds f ↦ λ h. cc | Leaves t ↦ λ h. cc ] in
    all (spot_in rests p) e

run_more : (t : ThreadNo) (threads : ℕ) (rests : List Rested) (from c : ℕ) → looks_run t threads rests from (c + 1) ≡ looks_run t threads rests from c ++ look_at t threads rests (from + c) ∷ []
unfolding looks_run
run_more t threads rests from c = ap (looks_run t threads rests from) (Rattle.std.proofs.Math.Numerals.add-one c)

desk_of : DeskView → List Note → DeskView
desk_of d xs = record { board = d.board; view = record d.view { noted = xs } }

run_none : (d : DeskView) (t : ThreadNo) (threads : ℕ) (rests : List Rested) (from : ℕ) → d ≡ adds_notes d (looks_run t threads rests from 0)
unfolding looks_run desk_of
run_none d t threads rests from = ap (desk_of d) (sym (append-nil d.view.noted))

-- one more note
pub notes_more : (a b c : DeskView) (xs : List Note) (x : Note) → b ≡ adds_notes a xs → c ≡ adds_note b x → c ≡ adds_notes a (xs ++ x ∷ [])
unfolding desk_of
notes_more a b c xs x e f = f ∙ (ap (λ (z : DeskView). adds_note z x) e ∙ ap (desk_of a) (append_assoc a.view.noted xs (x ∷ [])))

pub notes_join : (a b c : DeskView) (xs ys : List Note) → b ≡ adds_notes a xs → c ≡ adds_notes b ys → c ≡ adds_notes a (xs ++ ys)
unfolding desk_of
notes_join a b c xs ys e f = f ∙ (ap (λ (z : DeskView). adds_notes z ys) e ∙ ap (desk_of a) (append_assoc a.view.noted xs ys))

-- one more look
look_more : (a b c : DeskView) (t : ThreadNo) (threads : ℕ) (rests : List Rested) (from k : ℕ) → b ≡ adds_notes a (looks_run t threads rests from k) → c ≡ adds_note b (look_at t threads rests (from + k)) → c ≡ adds_notes a (looks_run t threads rests from (k + 1))
look_more a b c t threads rests from k e f =
    let x : Note = look_at t threads rests (from + k) in
    notes_more a b c (looks_run t threads rests from k) x e f ∙ ap (adds_notes a) (sym (run_more t threads rests from k))

-- a look as the code makes it
pub look_is : (a b : DeskView) (t : ThreadNo) (threads : ℕ) (rests : List Rested) (q : ℕ) (place : PlaceNo) (no : ℕ) (found : Found) → place ≡ nth_place t threads q → no ≡ spot_no place → found ≡ found_of (spot_in rests no) → b ≡ adds_note a (plain (Look t place found))
    → (b ≡ adds_note a (look_at t threads rests q)) × (found ≡ found_of (spot_in rests (nth_no t threads q)))
look_is a b t threads rests q place no' found at is shows wrote =
    let here : found ≡ found_of (spot_in rests (nth_no t threads q)) = shows ∙ ap (λ (j : ℕ). found_of (spot_in rests j)) (is ∙ ap spot_no at) in
    (wrote ∙ (ap (λ (z : PlaceNo). adds_note a (plain (Look t z found))) at ∙ ap (λ (f : Found). adds_note a (plain (Look t (nth_place t threads q) f))) here), here)

pub scan_none : (d : DeskView) (t : ThreadNo) (threads : ℕ) (rests : List Rested) → Scanned d d t threads rests 0 0
scan_none d t threads rests = record { desk = run_none d t threads rests 0; taken = λ q h. absurd (omega arith) }

pub scan_more : (a b c : DeskView) (t : ThreadNo) (threads : ℕ) (rests : List Rested) (k j : ℕ) → Scanned a b t threads rests k j → c ≡ adds_note b (look_at t threads rests k) → (j' : ℕ) → ((q : ℕ) → q < j' → spot_in rests (nth_no t threads q) ≢ Vacant) → Scanned a c t threads rests (k + 1) j'
scan_more a b c t threads rests k j s e j' h =
    let z : k ≡ 0 + k = omega arith in
    record { desk = look_more a b c t threads rests 0 k s.desk (e ∙ ap (λ (p : ℕ). adds_note b (look_at t threads rests p)) z); taken = h }

pub ran_none : (d : DeskView) (t : ThreadNo) (threads : ℕ) (may : ℕ → Bool) (rests : List Rested) (from : ℕ) → Ran d d t threads may rests from 0
ran_none d t threads may rests from = record { desk = run_none d t threads rests from; none = λ q h. absurd (omega arith) }

pub ran_more : (a b c : DeskView) (t : ThreadNo) (threads : ℕ) (may : ℕ → Bool) (rests : List Rested) (from k : ℕ) → Ran a b t threads may rests from k → IsUnfit may (spot_in rests (nth_no t threads (from + k))) → c ≡ adds_note b (look_at t threads rests (from + k)) → Ran a c t threads may rests from (k + 1)
ran_more a b c t threads may rests from k s v e =
    record {
      desk = look_more a b c t threads rests from k s.desk e;
      none = λ q h. ⊎_elim (λ (i : q ≡ k). subst (λ (j : ℕ). IsUnfit may (spot_in rests (nth_no t threads (from + j)))) (sym i) v) (λ (ne : q ≢ k). s.none q (omega arith)) (cases_eq q k);
    }

pub run_looks : (t : ThreadNo) (threads : ℕ) (rests : List Rested) (from c : ℕ) → AllLooks t (looks_run t threads rests from c)
unfolding looks_run
run_looks t threads rests from zero = tt
run_looks t threads rests from (suc c) = push (looks_run t threads rests from c) (run_looks t threads rests from c)
  where
    push : (xs : List Note) → AllLooks t xs → AllLooks t (xs ++ look_at t threads rests (from + c) ∷ [])
    push [] h = ((nth_place t threads (from + c), found_of (spot_in rests (nth_no t threads (from + c))), refl), tt)
    push (x ∷ xs) h = (h.0, push xs h.1)

pub length-looks_run : (t : ThreadNo) (threads : ℕ) (rests : List Rested) (from c : ℕ) → length (looks_run t threads rests from c) ≡ c
unfolding looks_run
length-looks_run t threads rests from zero = refl
length-looks_run t threads rests from (suc c) = let e = length-looks_run t threads rests from c in omega (arith, length-append (looks_run t threads rests from c) (look_at t threads rests (from + c) ∷ []))

pub last_is : {V : Type 0} (shows : V → Shown) (mode : Mode) (first safe : Bool) (row : ℕ) (xs : List (Rest V)) (j : ℕ) (r : Rest V) → j < length xs → r ≡ get_or xs j r → fits_in mode first safe row (record { place = r.place; shown = shows r.v }) ≡ true → NoneFits mode first safe row (rests_of shows (drop (j + 1) xs))
    → LastFits mode first safe row (rests_of shows xs) j
last_is {V} shows mode first safe row xs j r h is good none =
    let cut = rests_cut shows xs j r h in record {
      before = rests_of shows (take j xs);
      chosen = record { place = r.place; shown = shows r.v };
      behind = rests_of shows (drop (j + 1) xs);
      parts = cut.0 ∙ ap (λ (y : Rest V). rests_of shows (take j xs) ++ record { place = y.place; shown = shows y.v } ∷ rests_of shows (drop (j + 1) xs)) (sym is);
      index = cut.1;
      good = good;
      none = none;
    }

pub cut_at : {V : Type 0} (shows : V → Shown) (xs : List (Rest V)) (i : ℕ) (r : Rest V) (place : ℕ) → i < length xs → r ≡ get_or xs i r → spot_no r.place ≡ place → spot_in (rests_of shows (drop i xs)) place ≡ spot_in (rests_of shows xs) place → CutAt (rests_of shows xs) i place
cut_at {V} shows xs i r place h is at same =
    let cut = rests_cut shows xs i r h in record {
      before = rests_of shows (take i xs);
      chosen = record { place = r.place; shown = shows r.v };
      behind = rests_of shows (drop (i + 1) xs);
      parts = cut.0 ∙ ap (λ (y : Rest V). rests_of shows (take i xs) ++ record { place = y.place; shown = shows y.v } ∷ rests_of shows (drop (i + 1) xs)) (sym is);
      index = cut.1;
      at = at;
      stands = sym same ∙ (ap (λ l. spot_in l place) (rests_more shows xs i r h) ∙ (ap (λ (y : Rest V). spot_in (record { place = y.place; shown = shows y.v } ∷ rests_of shows (drop (i + 1) xs)) place) (sym is)
          ∙ ap (λ b. cond b (Holds (shows r.v).face) (spot_in (rests_of shows (drop (i + 1) xs)) place)) (eq-eqb place (spot_no r.place) (sym at))));
    }
