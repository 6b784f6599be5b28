-- What each call of the seat keeps: the drain, the totals, and that a call's entries are few.
use Rattle.std.proofs.Common.{◌≡◌, ◌≢◌, ℕ, zero, suc, ◌+◌, ◌-◌, ◌<◌, ◌≤◌, Bool, true, false, List, [], ◌∷◌, ◌++◌, length, refl, sym, ap, ◌∙◌, subst, arith, Option, Some, None, inl, ⊎_elim, append_assoc}
use Rattle.std.proofs.lemmas.List.{append-nil}
use Rattle.std.proofs.lemmas.Bool.{cases_eq}
use Rattle.hx_base.specs.declared.numbers.ThreadNo.{ThreadNo}
use Rattle.hx_base.specs.declared.numbers.SessionNo.{SessionNo}
use Rattle.hx_base.specs.declared.numbers.PlaceNo.{PlaceNo}
use Rattle.hx_base.specs.declared.numbers.Face.{Face}
use Rattle.hx_base.specs.declared.totals.Totals.{Totals}
use Rattle.hx_base.specs.Shown.{Shown}
use Rattle.hx_pool.specs.declared.entries.Entry.{Entry}
use Rattle.hx_pool.specs.declared.entries.Found.TheVariants.{Empty}
use Rattle.hx_pool.specs.declared.entries.Entry.TheVariants.{Take, Free, Down, Look, SetGate}
use Rattle.hx_pool.specs.declared.entries.Note.{Note}
use Rattle.hx_pool.specs.Table.{Spot, Vacant, found_of}
use Rattle.hx_pool.specs.History.{plain, entries_of, marks_of, what_of, IsEven}
use Rattle.hx_pool.specs.SeatView.{About, IsOneHistory, Calls, Grows}
use Rattle.hx_pool.specs.Causes.{place_of, Among, AllLooks, IsUnavailable}
use Rattle.hx_pool.specs.Taking.{taking, Takes}
use Rattle.hx_pool.specs.Drain.{since_after, since_from, since_drain}
use Rattle.hx_pool.specs.Totals.{totals_after, totals_from}
use Rattle.hx_pool.proofs.Histories.{since_from-append, marks_of-append, totals_more, even-append}
use Rattle.hx_pool.proofs.Calls.{looks_marks, looks_even}
use Rattle.hx_pool.proofs.Purges.{among_left, among_right, covered_left}
use Rattle.hx_plain.specs.Book.{Book, add_notes}
use Rattle.hx_plain.specs.Row.{Rested, spot_in, look_at, looks_run}
use Rattle.hx_plain.specs.Plain.{alone, Known, Stands, Drains, KeepsAll}
use Rattle.hx_plain.proofs.Steps.{made, look_stands}

abbrev pub IsNoDrain : Entry → Type 0
IsNoDrain (SetGate t draining) = draining ≡ false
IsNoDrain _ = Unit {0}

abbrev pub NoDrain : List Note → Type 0
NoDrain [] = Unit {0}
NoDrain (x ∷ xs) = IsNoDrain x.entry × NoDrain xs

pub no_drain-append : (xs ys : List Note) → NoDrain xs → NoDrain ys → NoDrain (xs ++ ys)
no_drain-append [] ys a b = b
no_drain-append (x ∷ xs) ys a b = (a.0, no_drain-append xs ys a.1 b)

pub looks_no_drain : (t : ThreadNo) (xs : List Note) → AllLooks t xs → NoDrain xs
looks_no_drain t [] l = tt
looks_no_drain t (x ∷ xs) l = (subst (λ (y : Note). IsNoDrain y.entry) (sym l.0.2) tt, looks_no_drain t xs l.1)

after_none : (x : Note) → IsNoDrain x.entry → since_after None x ≡ None
after_none x n =
    let P : Entry → Type 0 = λ e. IsNoDrain e → since_after None (record { entry = e; what = x.what }) ≡ None in
    let all : (e : Entry) → P e = λ e. elim e as P [ SetGate t draining ↦ λ h. ap (λ b. since_after None (record { entry = SetGate t b; what = x.what })) h | _ ↦ λ h. refl ] in
    all x.entry n

after_some : (es : List Note) (x : Note) → IsNoDrain x.entry → since_after (Some es) x ≡ Some (es ++ x ∷ [])
after_some es x n =
    let P : Entry → Type 0 = λ e. IsNoDrain e → since_after (Some es) (record { entry = e; what = x.what }) ≡ Some (es ++ record { entry = e; what = x.what } ∷ []) in
    let all : (e : Entry) → P e = λ e. elim e as P [ SetGate t draining ↦ λ h. ap (λ b. since_after (Some es) (record { entry = SetGate t b; what = x.what })) h ∙ ap (λ b. Some (es ++ record { entry = SetGate t b; what = x.what } ∷ [])) (sym h) | _ ↦ λ h. refl ] in
    all x.entry n

since_none : (ys : List Note) → NoDrain ys → since_from None ys ≡ None
since_none [] n = refl
since_none (y ∷ ys) n = ap (λ o. since_from o ys) (after_none y n.0) ∙ since_none ys n.1

since_some : (es ys : List Note) → NoDrain ys → since_from (Some es) ys ≡ Some (es ++ ys)
since_some es [] n = ap Some (sym (append-nil es))
since_some es (y ∷ ys) n = ap (λ o. since_from o ys) (after_some es y n.0) ∙ (since_some (es ++ y ∷ []) ys n.1 ∙ ap Some (append_assoc es (y ∷ []) ys))

pub since_longer : (notes ys es : List Note) → since_drain notes ≡ Some es → NoDrain ys → since_drain (notes ++ ys) ≡ Some (es ++ ys)
since_longer notes ys es d n = since_from-append None notes ys ∙ (ap (λ o. since_from o ys) d ∙ since_some es ys n)

pub drains_more : (a : About) (notes ys : List Note) (p : Option ℕ) → NoDrain ys → Drains a notes p → Drains a (notes ++ ys) p
drains_more a notes ys None n d = since_from-append None notes ys ∙ (ap (λ o. since_from o ys) d ∙ since_none ys n)
drains_more a notes ys (Some q) n d = (d.0, (d.1.0 ++ ys, since_longer notes ys d.1.0 d.1.1 n, λ i h. covered_left a.thread d.1.0 ys (place_of a.thread.0 i) (d.1.2 i h)))

pub drains_anew : (a : About) (notes : List Note) → Drains a (notes ++ plain (SetGate a.thread true) ∷ []) (Some 0)
drains_anew a notes =
    let P : Option (List Note) → Type 0 = λ o. since_after o (plain (SetGate a.thread true)) ≡ Some [] in
    let all : (o : Option (List Note)) → P o = λ o. elim o as P [ None ↦ refl | Some es ↦ refl ] in
    (omega arith, ([], since_from-append None notes (plain (SetGate a.thread true) ∷ []) ∙ all (since_from None notes), λ i h. absurd (omega arith)))

pub looks_totals : (t : ThreadNo) (xs : List Note) (s : Totals) → AllLooks t xs → totals_from s (entries_of xs) ≡ s
looks_totals t [] s l = refl
looks_totals t (x ∷ xs) s l = ap (λ (y : Note). totals_from (totals_after s y.entry) (entries_of xs)) l.0.2 ∙ looks_totals t xs s l.1

pub totals_from-looks : (t : ThreadNo) (xs ys : List Note) (s : Totals) → AllLooks t xs → totals_from s (entries_of (xs ++ ys)) ≡ totals_from s (entries_of ys)
totals_from-looks t [] ys s l = refl
totals_from-looks t (x ∷ xs) ys s l = ap (λ (y : Note). totals_from (totals_after s y.entry) (entries_of (xs ++ ys))) l.0.2 ∙ totals_from-looks t xs ys s l.1

pub marks_after_looks : (t : ThreadNo) (xs ys : List Note) → AllLooks t xs → marks_of (xs ++ ys) ≡ marks_of ys
marks_after_looks t xs ys l = marks_of-append xs ys ∙ ap (λ m. m ++ marks_of ys) (looks_marks t xs l)

pub calls_by : (a : About) (p : Option ℕ) (notes ys : List Note) → IsOneHistory a notes notes → IsOneHistory a (notes ++ ys) (notes ++ ys) → IsEven ys → Calls (alone a p notes) (alone a p (notes ++ ys)) ys
calls_by a p notes ys was one even = record { makes = made a p p notes ys was one even; passed = refl }

pub calls_none : (a : About) (p : Option ℕ) (notes : List Note) → IsOneHistory a notes notes → Calls (alone a p notes) (alone a p notes) []
calls_none a p notes one = record { makes = record { about = refl; mine = sym (append-nil notes); seen = ([], sym (append-nil notes)); was = one; one = one; even = refl }; passed = refl }

-- mine gained these entries, whose marks are told
pub grows_by : (a : About) (p q : Option ℕ) (notes ys : List Note) (last : List Entry) → IsOneHistory a notes notes → IsOneHistory a (notes ++ ys) (notes ++ ys) → IsEven ys → last ≡ marks_of ys → length ys ≤ 4096 → Grows (alone a p notes) (alone a q (notes ++ ys)) last
grows_by a p q notes ys last was one even e few = record { added = ys; makes = made a p q notes ys was one even; marks = e; few = few }

pub grows_none : (a : About) (p q : Option ℕ) (notes : List Note) → IsOneHistory a notes notes → Grows (alone a p notes) (alone a q notes) []
grows_none a p q notes one = record { added = []; makes = record { about = refl; mine = sym (append-nil notes); seen = ([], sym (append-nil notes)); was = one; one = one; even = refl }; marks = refl; few = omega arith }

module _ (a : About) (notes : List Note) (k : Known) (rests : List Rested) where
  pub run_stands : Stands a notes k rests → (from c : ℕ) → from + c ≤ 64 → Stands a (notes ++ looks_run a.thread rests from c) k rests
  unfolding looks_run
  run_stands s from zero low = subst (λ hs. Stands a hs k rests) (sym (append-nil notes)) s
  run_stands s from (suc c) low = subst (λ hs. Stands a hs k rests) (append_assoc notes (looks_run a.thread rests from c) (look_at a.thread rests (from + c) ∷ [])) (look_stands a _ k rests (run_stands s from c (omega arith)) (from + c) (omega arith))

  -- entries that set no drain, and whose counts were added
  pub keeps_on : (p : Option ℕ) (t : Totals) (room : ℕ) → KeepsAll a notes k rests p t room → (ys : List Note) (k' : Known) (rests' : List Rested) (t' : Totals) (room' : ℕ) → Stands a (notes ++ ys) k' rests' → NoDrain ys → t' ≡ totals_from t (entries_of ys) → 64 ≤ room' → KeepsAll a (notes ++ ys) k' rests' p t' room'
  keeps_on p t room s ys k' rests' t' room' stands plainly counted roomy = record {
    stands = stands;
    drains = drains_more a notes ys p plainly s.drains;
    counted = counted ∙ (ap (λ (z : Totals). totals_from z (entries_of ys)) s.counted ∙ sym (totals_more notes ys));
    roomy = roomy;
  }

run_among : (t : ThreadNo) (rests : List Rested) (from c q : ℕ) → q < c → Among (λ e. e ≡ Look t (place_of t.0 (from + q)) (found_of (spot_in rests (from + q)))) (looks_run t rests from c)
unfolding looks_run
run_among t rests from zero q h = absurd (omega arith)
run_among t rests from (suc c) q h =
    let P : Entry → Type 0 = λ e. e ≡ Look t (place_of t.0 (from + q)) (found_of (spot_in rests (from + q))) in
    let x : Note = look_at t rests (from + c) in
    ⊎_elim (λ (e : q ≡ c). among_right P (looks_run t rests from c) (x ∷ []) (inl (ap (λ (i : ℕ). Look t (place_of t.0 (from + i)) (found_of (spot_in rests (from + i)))) (sym e))))
    (λ (ne : q ≢ c). among_left P (looks_run t rests from c) (x ∷ []) (run_among t rests from c q (omega arith))) (cases_eq q c)

-- the look at a place among those that were looked at
pub shown_at : (t : ThreadNo) (rests : List Rested) (from c j : ℕ) → from ≤ j → j < from + c → Among (λ e. e ≡ Look t (place_of t.0 j) (found_of (spot_in rests j))) (looks_run t rests from c)
shown_at t rests from c j low high =
    let e : from + (j - from) ≡ j = omega arith in
    subst (λ (i : ℕ). Among (λ e. e ≡ Look t (place_of t.0 i) (found_of (spot_in rests i))) (looks_run t rests from c)) e (run_among t rests from c (j - from) (omega arith))

-- vacant places that were looked at have nothing to take
pub unavailable_run : (t : ThreadNo) (rests : List Rested) (from c : ℕ) → ((q : ℕ) → q < c → spot_in rests (from + q) ≡ Vacant) → (j : ℕ) → from ≤ j → j < from + c → IsUnavailable t (looks_run t rests from c) (place_of t.0 j)
unavailable_run t rests from c vacant j low high =
    let e : from + (j - from) ≡ j = omega arith in
    let v : spot_in rests j ≡ Vacant = subst (λ (i : ℕ). spot_in rests i ≡ Vacant) e (vacant (j - from) (omega arith)) in
    inl (Empty, (λ f m. λ z. cc), subst (λ (s : Spot). Among (λ e. e ≡ Look t (place_of t.0 j) (found_of s)) (looks_run t rests from c)) v (shown_at t rests from c j low high))

-- a take by its entries
abbrev pub takes_by : (a : About) (p q : Option ℕ) (notes looks : List Note) (n : SessionNo) (first : Bool) (place : PlaceNo) (v : Shown) (count : ℕ)
    → IsOneHistory a notes notes → IsOneHistory a (notes ++ (looks ++ taking a.thread n first place v.face count)) (notes ++ (looks ++ taking a.thread n first place v.face count)) → AllLooks a.thread looks → v.server ≡ a.server → what_of (notes ++ looks) v.face.id.0 ≡ Some v.what
    → Takes (alone a p notes) (alone a q (notes ++ (looks ++ taking a.thread n first place v.face count))) [] n first place v
takes_by a p q notes looks n first place v count was one looked server what = record {
  looks = looks;
  count = count;
  looked = looked;
  makes = made a p q notes (looks ++ taking a.thread n first place v.face count) was one (even-append looks (taking a.thread n first place v.face count) (looks_even a.thread looks looked) refl);
  server = server;
  between = looks;
  behind = plain (Free a.thread place) ∷ plain (Down a.thread count) ∷ [];
  seen = sym (append_assoc notes looks (taking a.thread n first place v.face count));
  what = what;
}

-- the table is the same one
pub one_board : (old new : Book) (ys : List Note) → new ≡ add_notes old ys → new.board ≡ old.board
one_board old new ys e = ap (λ (b : Book). b.board) e

-- the entry that the code makes of the value that it took
pub entry_as : (e : Entry) (t : ThreadNo) (n : SessionNo) (first : Bool) (p q : ℕ) (f g : Face) → e ≡ Take t n first (place_of t.0 p) f.id f.uses → p ≡ q → f ≡ g → e ≡ Take t n first (place_of t.0 q) g.id g.uses
entry_as e t n first p q f g is i j = is ∙ (ap (λ (x : ℕ). Take t n first (place_of t.0 x) f.id f.uses) i ∙ ap (λ (x : Face). Take t n first (place_of t.0 q) x.id x.uses) j)
