-- What the code takes out of the row, and what its steps note.
use Rattle.std.proofs.Common.{◌≡◌, ℕ, suc, ◌+◌, ◌<◌, false, Bool, List, [], ◌∷◌, ◌++◌, length, refl, sym, ap, ◌∙◌, append_assoc, get_or, take, drop}
use Rattle.std.proofs.lemmas.List.{length-map}
use Rattle.hx_base.specs.declared.numbers.ThreadNo.{ThreadNo}
use Rattle.hx_base.specs.declared.numbers.SessionNo.{SessionNo}
use Rattle.hx_base.specs.declared.numbers.Face.{Face}
use Rattle.hx_base.specs.declared.rules.Mode.{Mode}
use Rattle.hx_base.specs.Shown.{Shown}
use Rattle.hx_pool.specs.declared.entries.Note.{Note}
use Rattle.hx_pool.specs.Causes.{place_of, caretaker}
use Rattle.hx_pool.specs.Taking.{taking}
use Rattle.hx_plain.specs.declared.rest.Rest.{Rest}
use Rattle.hx_plain.specs.Book.{Book, add_notes}
use Rattle.hx_plain.specs.Row.{Rested, rests_of, looks_run, BestFits, CutAt, Ran, TookBest, Swept}
use Rattle.hx_plain.proofs.Removals.{removed}

book_join : (old a b : Book) (ms ys : List Note) → a ≡ add_notes old ms → b ≡ add_notes a ys → b ≡ add_notes old (ms ++ ys)
book_join old a b ms ys e f = f ∙ (ap (λ (z : Book). add_notes z ys) e ∙ ap (λ (l : List Note). let z : Book = record { board = old.board; notes = l } in z) (append_assoc old.notes ms ys))

-- the steps with the face and the count that the code read
read_as : (b : Book) (ms : List Note) (t : ThreadNo) (n : SessionNo) (first : Bool) (p q : ℕ) (f g : Face) (c d : ℕ) → p ≡ q → f ≡ g → c ≡ d
    → add_notes b (ms ++ taking t n first (place_of t.0 p) f c) ≡ add_notes b (ms ++ taking t n first (place_of t.0 q) g d)
read_as b ms t n first p q f g c d e i j =
    ap (λ (x : ℕ). add_notes b (ms ++ taking t n first (place_of t.0 x) f c)) e
    ∙ (ap (λ (x : Face). add_notes b (ms ++ taking t n first (place_of t.0 q) x c)) i
    ∙ ap (λ (x : ℕ). add_notes b (ms ++ taking t n first (place_of t.0 q) g x)) j)

pub took_best : {V : Type 0} (shows : V → Shown) (old new : Book) (xs ys : List (Rest V)) (t : ThreadNo) (n : SessionNo) (first : Bool) (mode : Mode) (i : ℕ) (b : BestFits mode first (rests_of shows xs) i) (r : Rest V) → r ≡ get_or xs i r → ys ≡ take i xs ++ drop (suc i) xs
    → (f : Face) → f ≡ (shows r.v).face → (count : ℕ) → count ≡ length xs → new ≡ add_notes old (taking t n first (place_of t.0 r.place) f count)
    → TookBest old new (rests_of shows xs) (rests_of shows ys) t n first mode r.place (shows r.v)
took_best {V} shows old new xs ys t n first mode i b r is left f face count counted wrote =
    let g : Rest V → Rested = λ y. record { place = y.place; shown = shows y.v } in
    let cut = removed shows xs i r b.last.before b.last.chosen b.last.behind b.last.parts b.last.index is in
    record {
      index = i;
      best = b;
      chosen = cut.0;
      left_is = ap (rests_of shows) left ∙ cut.1;
      book = wrote ∙ read_as old [] t n first r.place r.place f (shows r.v).face count (length (rests_of shows xs)) refl face (counted ∙ sym (length-map xs g));
    }

pub swept : {V : Type 0} (shows : V → Shown) (old mid new : Book) (xs ys : List (Rest V)) (t : ThreadNo) (from c i : ℕ) → Ran old mid t (rests_of shows xs) from c → from + c < 64 → (cut : CutAt (rests_of shows xs) i (from + c)) → (r : Rest V) → r ≡ get_or xs i r → ys ≡ take i xs ++ drop (suc i) xs
    → (f : Face) → f ≡ (shows r.v).face → (count : ℕ) → count ≡ length xs → new ≡ add_notes mid (taking t caretaker false (place_of t.0 r.place) f count)
    → (r.place ≡ from + c) × Swept old new (rests_of shows xs) (rests_of shows ys) t from c (shows r.v)
swept {V} shows old mid new xs ys t from c i ran low cut r is left f face count counted wrote =
    let g : Rest V → Rested = λ y. record { place = y.place; shown = shows y.v } in
    let re = removed shows xs i r cut.before cut.chosen cut.behind cut.parts cut.index is in
    let at : r.place ≡ from + c = ap (λ (x : Rested). x.place) (sym re.0) ∙ cut.at in
    let L : List Note = looks_run t (rests_of shows xs) from c in (
      at,
      record {
        before = cut.before;
        behind = cut.behind;
        parts = cut.parts ∙ (ap (λ (x : Rested). cut.before ++ x ∷ cut.behind) re.0 ∙ ap (λ (p : ℕ). cut.before ++ record { place = p; shown = shows r.v } ∷ cut.behind) at);
        left_is = ap (rests_of shows) left ∙ re.1;
        vacant = ran.vacant;
        inside = low;
        book = book_join old mid new L (taking t caretaker false (place_of t.0 r.place) f count) ran.book wrote
            ∙ read_as old L t caretaker false r.place (from + c) f (shows r.v).face count (length (rests_of shows xs)) at face (counted ∙ sym (length-map xs g));
      },
    )
