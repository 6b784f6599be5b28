-- What the code takes out of the rows, and what its steps note.
use Rattle.std.proofs.Common.{◌≡◌, ℕ, suc, ◌+◌, ◌<◌, Bool, List, [], ◌∷◌, ◌++◌, length, refl, sym, ap, ◌∙◌, get_or, take, drop, arith}
use Rattle.std.proofs.lemmas.List.{length-map, map-append}
use Rattle.hx_base.specs.declared.numbers.ThreadNo.{ThreadNo}
use Rattle.hx_base.specs.declared.numbers.SessionNo.{SessionNo}
use Rattle.hx_base.specs.declared.numbers.Face.{Face}
use Rattle.hx_base.specs.declared.rules.Mode.{Mode}
use Rattle.hx_base.specs.Shown.{Shown}
use Rattle.hx_pool.specs.Table.{spot_no}
use Rattle.hx_pool.specs.Taking.{taking}
use Rattle.hx_resting.specs.declared.values.Rest.{Rest}
use Rattle.hx_resting.specs.Desks.{DeskView, adds_notes}
use Rattle.hx_resting.specs.Rows.{Rested, rests_of}
use Rattle.hx_resting.specs.Row.{nth_no, looks_run, BestFits, GoodAt, Ran, TookAt, TookBest, Swept}
use Rattle.hx_resting.proofs.Looks.{rests_cut, notes_join}

-- the steps with the face and the count that the code read
read_as : (d : DeskView) (t : ThreadNo) (n : SessionNo) (first : Bool) (x : Rested) (f : Face) (c k : ℕ) → f ≡ x.shown.face → c ≡ k → adds_notes d (taking t n first x.place f c) ≡ adds_notes d (taking t n first x.place x.shown.face k)
read_as d t n first x f c k e j = ap (λ (g : Face). adds_notes d (taking t n first x.place g c)) e ∙ ap (λ (i : ℕ). adds_notes d (taking t n first x.place x.shown.face i)) j

pub took_at : {V : Type 0} (shows : V → Shown) (old new : DeskView) (xs ys : List (Rest V)) (t : ThreadNo) (n : SessionNo) (first : Bool) (i : ℕ) (r : Rest V) → i < length xs → r ≡ get_or xs i r → ys ≡ take i xs ++ drop (suc i) xs
    → (f : Face) → f ≡ (shows r.v).face → (count : ℕ) → count ≡ length xs → new ≡ adds_notes old (taking t n first r.place f count)
    → TookAt old new (rests_of shows xs) (rests_of shows ys) t n first i (record { place = r.place; shown = shows r.v })
took_at {V} shows old new xs ys t n first i r low is left f face count counted wrote =
    let g : Rest V → Rested = λ y. record { place = y.place; shown = shows y.v } in
    let next : suc i ≡ i + 1 = omega arith in
    let cut = rests_cut shows xs i r low in record {
      before = rests_of shows (take i xs);
      behind = rests_of shows (drop (i + 1) xs);
      parts = cut.0 ∙ ap (λ (y : Rest V). rests_of shows (take i xs) ++ g y ∷ rests_of shows (drop (i + 1) xs)) (sym is);
      index = cut.1;
      left_is = ap (rests_of shows) (left ∙ ap (λ (j : ℕ). take i xs ++ drop j xs) next) ∙ map-append g (take i xs) (drop (i + 1) xs);
      desk = wrote ∙ read_as old t n first (g r) f count (length (rests_of shows xs)) face (counted ∙ sym (length-map xs g));
    }

-- two cuts of a list at one index are the same
same_cut : (us : List Rested) (x : Rested) (bs cs : List Rested) (y : Rested) (ds : List Rested) → us ++ x ∷ bs ≡ cs ++ y ∷ ds → length us ≡ length cs → (us ≡ cs) × (x ≡ y) × (bs ≡ ds)
same_cut [] x bs [] y ds e l = (refl, cc, cc)
same_cut [] x bs (c ∷ cs) y ds e l = absurd (omega arith)
same_cut (a ∷ us) x bs [] y ds e l = absurd (omega arith)
same_cut (a ∷ us) x bs (c ∷ cs) y ds e l =
    let h : a ≡ c = cc in
    let t : us ++ x ∷ bs ≡ cs ++ y ∷ ds = cc in
    let r = same_cut us x bs cs y ds t (omega arith) in
    (ap (λ z. z ∷ us) h ∙ ap (λ z. c ∷ z) r.0, r.1, r.2)

pub took_best : (old new : DeskView) (rests left : List Rested) (t : ThreadNo) (n : SessionNo) (first : Bool) (mode : Mode) (i : ℕ) (x : Rested) → BestFits mode first t.0 rests i → TookAt old new rests left t n first i x → TookBest old new rests left t n first mode x
took_best old new rests left t n first mode i x b a =
    let same = same_cut b.last.before b.last.chosen b.last.behind a.before x a.behind (sym b.last.parts ∙ a.parts) (b.last.index ∙ sym a.index) in record {
      index = i;
      best = b;
      chosen = same.1;
      left_is = a.left_is ∙ (ap (λ l. l ++ a.behind) (sym same.0) ∙ ap (λ l. b.last.before ++ l) (sym same.2));
      desk = a.desk;
    }

pub swept : (old mid new : DeskView) (rests left : List Rested) (t : ThreadNo) (threads : ℕ) (n : SessionNo) (first : Bool) (may : ℕ → Bool) (from c i : ℕ) (x : Rested) → Ran old mid t threads may rests from c → GoodAt may rests i (nth_no t threads (from + c)) → TookAt mid new rests left t n first i x
    → Swept old new rests left t threads n first may from c x
swept old mid new rests left t threads n first may from c i x ran g a =
    let same = same_cut g.cut.before g.cut.chosen g.cut.behind a.before x a.behind (sym g.cut.parts ∙ a.parts) (g.cut.index ∙ sym a.index) in record {
      before = a.before;
      behind = a.behind;
      parts = a.parts;
      left_is = a.left_is;
      at = ap (λ (y : Rested). spot_no y.place) (sym same.1) ∙ g.cut.at;
      good = ap (λ (y : Rested). may y.shown.face.uses) (sym same.1) ∙ g.good;
      none = ran.none;
      desk = notes_join old mid new (looks_run t threads rests from c) (taking t n first x.place x.shown.face (length rests)) ran.desk a.desk;
    }
