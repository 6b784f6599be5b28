-- A take from the own row.
use Rattle.std.proofs.Common.{◌≡◌, ◌≢◌, ℕ, ◌<◌, ◌≤◌, Bool, true, false, cond, not, ◌&&◌, List, [], ◌∷◌, ◌++◌, length, refl, sym, ap, ◌∙◌, subst, arith, Option, inl, inr, ◌⊎◌, ⊎_elim, append_assoc}
use Rattle.std.proofs.lemmas.List.{append-nil}
use Rattle.std.proofs.lemmas.Bool.{and_parts}
use Rattle.hx_base.specs.declared.rules.Mode.{Mode}
use Rattle.hx_base.specs.declared.numbers.SessionNo.{SessionNo}
use Rattle.hx_base.specs.declared.numbers.Face.{Face}
use Rattle.hx_base.specs.declared.totals.Totals.{Totals}
use Rattle.hx_base.specs.Shown.{Shown}
use Rattle.hx_pool.specs.declared.entries.Entry.TheVariants.{Take}
use Rattle.hx_pool.specs.declared.entries.Note.{Note}
use Rattle.hx_pool.specs.History.{what_of}
use Rattle.hx_pool.specs.Rules.{allows}
use Rattle.hx_pool.specs.SeatView.{About}
use Rattle.hx_pool.specs.Causes.{place_of}
use Rattle.hx_pool.specs.Taking.{taking, TakesOwn, TakesNoneOwn, IsBest, is_preferred, is_safe, last_park}
use Rattle.hx_pool.specs.Totals.{totals_after}
use Rattle.hx_plain.specs.Book.{Book}
use Rattle.hx_resting.specs.Row.{fits}
use Rattle.hx_plain.specs.Row.{Rested, NoneFits, BestFits, TookBest}
use Rattle.hx_plain.specs.Plain.{alone, Known, known, Stands, AreApart, AreKept, AreRising, KeepsAll}
use Rattle.hx_plain.proofs.Keeping.{keeps_on, takes_by}
use Rattle.hx_plain.proofs.Moves.{take_stands}
use Rattle.hx_plain.proofs.Rows.{spot_from, kept_mid, before_mid}

in_row : (xs : List Rested) (r : Rested) (ys : List Rested) → AreApart (xs ++ r ∷ ys) → r.place < 64
in_row [] r ys a = a.0
in_row (x ∷ xs) r ys a = in_row xs r ys a.2

-- a value of the row is taken out
pub out_stands : (a : About) (notes : List Note) (k : Known) (rests : List Rested) → Stands a notes k rests → k.count ≡ length rests → (ws : List Rested) (r : Rested) (zs : List Rested) → rests ≡ ws ++ r ∷ zs → (m : SessionNo) (first : Bool) → (m.0 ≢ 0 → allows a.rules.mode first r.shown.face.uses ≡ true)
    → Stands a (notes ++ taking a.thread m first (place_of a.thread.0 r.place) r.shown.face (length rests)) (record k { count = length (ws ++ zs) }) (ws ++ zs)
out_stands a notes k rests s counted ws r zs parts m first may =
    let P : List Rested → Type 0 = λ l. Stands a notes k l → k.count ≡ length l → Stands a (notes ++ taking a.thread m first (place_of a.thread.0 r.place) r.shown.face (length l)) (record k { count = length (ws ++ zs) }) (ws ++ zs) in
    let go : P (ws ++ r ∷ zs) = λ t c. take_stands a notes k ws r zs t (in_row ws r zs t.apart) c m first may in
    subst P (sym parts) go s counted

-- of two cuts of one list, one is before the other, or they are the same
cuts : (ws : List Rested) (x : Rested) (zs xs : List Rested) (r : Rested) (ys : List Rested) → ws ++ x ∷ zs ≡ xs ++ r ∷ ys
    → ((more : List Rested) × (xs ≡ ws ++ x ∷ more)) ⊎ ((x ≡ r) ⊎ ((more : List Rested) × (ys ≡ more ++ x ∷ zs)))
cuts [] x zs [] r ys e = inr (inl cc)
cuts [] x zs (y ∷ xs) r ys e = let h : x ≡ y = cc in inl (xs, ap (λ z. z ∷ xs) (sym h))
cuts (w ∷ ws) x zs [] r ys e = let h : ws ++ x ∷ zs ≡ ys = cc in inr (inr (ws, sym h))
cuts (w ∷ ws) x zs (y ∷ xs) r ys e =
    let h : w ≡ y = cc in
    let t : ws ++ x ∷ zs ≡ xs ++ r ∷ ys = cc in
    ⊎_elim (λ (q : (more : List Rested) × (xs ≡ ws ++ x ∷ more)). inl (q.0, ap (λ z. z ∷ xs) (sym h) ∙ ap (λ l. w ∷ l) q.1)) (λ q. inr q) (cuts ws x zs xs r ys t)

none_at : (mode : Mode) (first safe : Bool) (ws : List Rested) (x : Rested) (zs : List Rested) → NoneFits mode first safe (ws ++ x ∷ zs) → fits mode first safe x.shown.face.uses ≡ false
none_at mode first safe [] x zs n = n.0
none_at mode first safe (w ∷ ws) x zs n = none_at mode first safe ws x zs n.1

bools : (a b : Bool) → a ≡ true → a && b ≡ false → b ≡ false
bools true b h k = k
bools false b h k = cc

-- in a list, none likes another better
liked_one : (first : Bool) (u w : ℕ) → cond first (is_safe w) (not (is_safe w)) ≡ true → is_preferred first u w ≡ false
liked_one first u w h =
    let P : Bool → Bool → Bool → Type 0 = λ f a b. cond f b (not b) ≡ true → cond f (a && not b) (b && not a) ≡ false in
    let all : (f a b : Bool) → P f a b = λ f a b. elim f as (λ f. P f a b) [ true ↦ elim a as (λ a. P true a b) [ true ↦ elim b as (λ b. P true true b) [ true ↦ λ q. refl | false ↦ λ q. cc ] | false ↦ λ q. refl ] | false ↦ elim b as (λ b. P false a b) [ true ↦ λ q. cc | false ↦ λ q. refl ] ] in
    all first (is_safe u) (is_safe w) h

other_one : (first : Bool) (u w : ℕ) → cond first (is_safe u) (not (is_safe u)) ≡ false → is_preferred first u w ≡ false
other_one first u w h =
    let P : Bool → Bool → Bool → Type 0 = λ f a b. cond f a (not a) ≡ false → cond f (a && not b) (b && not a) ≡ false in
    let all : (f a b : Bool) → P f a b = λ f a b. elim f as (λ f. P f a b) [ true ↦ elim a as (λ a. P true a b) [ true ↦ λ q. cc | false ↦ λ q. refl ] | false ↦ elim a as (λ a. P false a b) [ true ↦ elim b as (λ b. P false true b) [ true ↦ λ q. refl | false ↦ λ q. refl ] | false ↦ λ q. cc ] ] in
    all first (is_safe u) (is_safe w) h

same_list : (safe a b : Bool) → a ≡ b → cond safe b (not b) ≡ true → cond safe a (not a) ≡ true
same_list safe a b e h = subst (λ x. cond safe x (not x) ≡ true) (sym e) h

module _ (a : About) (p : Option ℕ) (notes : List Note) (k : Known) (rests : List Rested) (s : Stands a notes k rests) (first : Bool) where
  best_is : (i : ℕ) (b : BestFits a.rules.mode first rests i) → IsBest (alone a p notes) notes first b.last.chosen.shown.face
  best_is i b q f low here may =
      let at = spot_from rests q f (sym (s.spots_are q low) ∙ here) in
      let r = b.last.chosen in
      let good = and_parts (allows a.rules.mode first r.shown.face.uses) (cond b.safe (is_safe r.shown.face.uses) (not (is_safe r.shown.face.uses))) b.last.good in
      let may' : allows a.rules.mode first at.1.shown.face.uses ≡ true = ap (λ (g : Face). allows a.rules.mode first g.uses) at.5 ∙ may in (
        ⊎_elim
            (λ (e : b.safe ≡ first). liked_one first f.uses r.shown.face.uses (subst (λ x. cond x (is_safe r.shown.face.uses) (not (is_safe r.shown.face.uses)) ≡ true) e good.1))
            (λ (e : (b.safe ≡ not first) × NoneFits a.rules.mode first first rests).
            let none = none_at a.rules.mode first first at.0 at.1 at.2 (subst (NoneFits a.rules.mode first first) at.3 e.1) in
            other_one first f.uses r.shown.face.uses (ap (λ (g : Face). cond first (is_safe g.uses) (not (is_safe g.uses))) (sym at.5) ∙ bools (allows a.rules.mode first at.1.shown.face.uses) (cond first (is_safe at.1.shown.face.uses) (not (is_safe at.1.shown.face.uses))) may' none))
            b.liked,
        λ same.
            let id_is : at.1.shown.face.id.0 ≡ f.id.0 = ap (λ (g : Face). g.id.0) at.5 in
            ⊎_elim
            (λ (e : (more : List Rested) × (b.last.before ≡ at.0 ++ at.1 ∷ more)).
            let whole : rests ≡ at.0 ++ at.1 ∷ (e.0 ++ r ∷ b.last.behind) = b.last.parts ∙ (ap (λ l. l ++ r ∷ b.last.behind) e.1 ∙ append_assoc at.0 (at.1 ∷ e.0) (r ∷ b.last.behind)) in
            let lt = before_mid notes at.0 at.1 e.0 r b.last.behind (subst (AreRising notes) whole s.rising) in
            let id' = ap (last_park notes) id_is in omega arith)
            (λ e. ⊎_elim
            (λ (same' : at.1 ≡ r). let id' : last_park notes f.id.0 ≡ last_park notes r.shown.face.id.0 = ap (last_park notes) (sym id_is ∙ ap (λ (z : Rested). z.shown.face.id.0) same') in omega arith)
            (λ (later : (more : List Rested) × (b.last.behind ≡ more ++ at.1 ∷ at.2)).
            let none = none_at a.rules.mode first b.safe later.0 at.1 at.2 (subst (NoneFits a.rules.mode first b.safe) later.1 b.last.none) in
            let in_list : cond b.safe (is_safe at.1.shown.face.uses) (not (is_safe at.1.shown.face.uses)) ≡ true = same_list b.safe (is_safe at.1.shown.face.uses) (is_safe r.shown.face.uses) (ap (λ (g : Face). is_safe g.uses) at.5 ∙ same) good.1 in
            let out = bools (allows a.rules.mode first at.1.shown.face.uses) (cond b.safe (is_safe at.1.shown.face.uses) (not (is_safe at.1.shown.face.uses))) may' none in cc)
            e)
            (cuts at.0 at.1 at.2 b.last.before r b.last.behind (sym at.3 ∙ b.last.parts)),
      )

  -- where none fits, nothing that is allowed rests in the row
  pub took_none : NoneFits a.rules.mode first true rests → NoneFits a.rules.mode first false rests → TakesNoneOwn (alone a p notes) (alone a p notes) first
  took_none none none' = record {
    looks = record { looks = []; looked = tt; makes = record { about = refl; mine = sym (append-nil notes); seen = ([], sym (append-nil notes)); was = s.one; one = s.one; even = refl } };
    passed = refl;
    none = λ q f low here.
        let at = spot_from rests q f (sym (s.spots_are q low) ∙ here) in
        let u : ℕ = at.1.shown.face.uses in
        let x = none_at a.rules.mode first true at.0 at.1 at.2 (subst (NoneFits a.rules.mode first true) at.3 none) in
        let y = none_at a.rules.mode first false at.0 at.1 at.2 (subst (NoneFits a.rules.mode first false) at.3 none') in
        let P : Bool → Bool → Type 0 = λ b c. b && c ≡ false → b && not c ≡ false → b ≡ false in
        let all : (b c : Bool) → P b c = λ b c. elim b as (λ b. P b c) [ true ↦ elim c as (λ c. P true c) [ true ↦ λ g h. g | false ↦ λ g h. h ] | false ↦ λ g h. refl ] in
        ap (λ (g : Face). allows a.rules.mode first g.uses) (sym at.5) ∙ all (allows a.rules.mode first u) (is_safe u) x y;
  }

-- the best value is taken
pub took_own : (a : About) (p : Option ℕ) (t : Totals) (room : ℕ) (old new : Book) (n : ℕ) (d : Bool) (o : ℕ) (rests left : List Rested) → KeepsAll a old.notes (known n d o rests) rests p t room
    → (m : SessionNo) → m.0 ≢ 0 → (first : Bool) (place : ℕ) (v : Shown) → TookBest old new rests left a.thread m first a.rules.mode place v → (room' : ℕ) → 64 ≤ room'
    → let hs : List Note = old.notes ++ taking a.thread m first (place_of a.thread.0 place) v.face (length rests) in
    KeepsAll a hs (known n d o left) left p (totals_after t (Take a.thread m first (place_of a.thread.0 place) v.face.id v.face.uses)) room' × TakesOwn (alone a p old.notes) (alone a p hs) m first v
took_own a p t room old new n d o rests left s m some first place v took room' roomy =
    let notes : List Note = old.notes in
    let best = took.best.last in
    let good = and_parts (allows a.rules.mode first best.chosen.shown.face.uses) (cond took.best.safe (is_safe best.chosen.shown.face.uses) (not (is_safe best.chosen.shown.face.uses))) best.good in
    let out = out_stands a notes (known n d o rests) rests s.stands refl best.before best.chosen best.behind best.parts m first (λ _. good.0) in
    let kept = kept_mid notes a.server best.before best.chosen best.behind (subst (AreKept notes a.server) best.parts s.stands.kept) in
    let is = best_is a p notes (known n d o rests) rests s.stands first took.index took.best in
    let P : Rested → Type 0 = λ x. Stands a (notes ++ taking a.thread m first (place_of a.thread.0 x.place) x.shown.face (length rests)) (known n d o (best.before ++ best.behind)) (best.before ++ best.behind) × (x.shown.server ≡ a.server) × (what_of notes x.shown.face.id.0 ≡ Rattle.std.proofs.Common.Some x.shown.what) × IsBest (alone a p notes) notes first x.shown.face in
    let base : P best.chosen = (out, kept.0, kept.1, is) in
    let here : P (record { place = place; shown = v }) = subst P took.chosen base in
    let stands : Stands a (notes ++ taking a.thread m first (place_of a.thread.0 place) v.face (length rests)) (known n d o left) left = subst (λ (l : List Rested). Stands a (notes ++ taking a.thread m first (place_of a.thread.0 place) v.face (length rests)) (known n d o l) l) (sym took.left_is) here.0 in (
      keeps_on a notes (known n d o rests) rests p t room s (taking a.thread m first (place_of a.thread.0 place) v.face (length rests)) (known n d o left) left _ room' stands (tt, (tt, (tt, tt))) refl roomy,
      record {
        place = place_of a.thread.0 place;
        row = refl;
        takes = takes_by a p p notes [] m first (place_of a.thread.0 place) v (length rests) s.stands.one stands.one tt here.1 (subst (λ (H : List Note). what_of H v.face.id.0 ≡ Rattle.std.proofs.Common.Some v.what) (sym (append-nil notes)) here.2);
        passed = refl;
        best = subst (λ (H : List Note). IsBest (alone a p notes) H first v.face) (sym (append-nil notes)) here.3;
      },
    )
