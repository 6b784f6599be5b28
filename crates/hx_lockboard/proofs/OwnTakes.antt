-- A take from the own row.
use Rattle.std.proofs.Common.{◌≡◌, ℕ, ◌<◌, Bool, true, false, cond, not, ◌&&◌, eqb, eq-eqb, List, [], ◌∷◌, ◌++◌, length, refl, sym, ap, ◌∙◌, subst, arith, Option, Some, None, inl, inr, ◌⊎◌, ⊎_elim, append_assoc}
use Rattle.std.specs.Prelude.{MatchOption}
use Rattle.std.specs.Vec.{vec_capacity}
use Rattle.std.proofs.lemmas.List.{append-nil}
use Rattle.std.proofs.lemmas.Bool.{and_parts, eqb-true}
use Rattle.hx_base.specs.declared.rules.Mode.{Mode}
use Rattle.hx_base.specs.declared.rules.PoolRules.{PoolRules}
use Rattle.hx_base.specs.declared.numbers.ThreadNo.{ThreadNo}
use Rattle.hx_base.specs.declared.numbers.SessionNo.{SessionNo}
use Rattle.hx_base.specs.declared.numbers.Face.{Face}
use Rattle.hx_base.specs.Shown.{Shown}
use Rattle.hx_pool.specs.declared.board.BoardTerms.{BoardTerms}
use Rattle.hx_pool.specs.declared.entries.Note.{Note}
use Rattle.hx_pool.specs.Table.{Holds, spot_at, spot_no}
use Rattle.hx_pool.specs.History.{table_after}
use Rattle.hx_pool.specs.Rules.{allows}
use Rattle.hx_pool.specs.SeatView.{History, Grows}
use Rattle.hx_pool.specs.Causes.{place_of}
use Rattle.hx_pool.specs.Taking.{taking, TakesOwn, TakesNoneOwn, NoneRestsIn, IsBest, is_preferred, is_safe, last_park}
use Rattle.hx_resting.specs.declared.values.Rest.{Rest}
use Rattle.hx_resting.specs.declared.values.Rows.{Rows}
use Rattle.hx_resting.specs.Rows.{Rested, rests_of, AreApart, AreRising, Known, Stands, IsAfter, known_of}
use Rattle.hx_resting.specs.Row.{fits, fits_in, NoneFits, BestFits, TookBest}
use Rattle.hx_lockboard.specs.Rule.{AllBy}
use Rattle.hx_resting.specs.Desks.{DeskView, adds_notes}
use Rattle.hx_lockboard.specs.LockDesks.{given_back}
use Rattle.hx_lockboard.specs.Seats.{history}
use Rattle.hx_resting.proofs.Shelves.{spot_from, in_row, before_mid}
use Rattle.hx_lockboard.proofs.Calls.{Start, whole, after_of, makes_of, grows_of, desk_of}
use Rattle.hx_lockboard.proofs.Taken.{after_as, took_after, took_takes}

-- of two cuts of one list, one is before the other, or they are the same
cuts : (ws : List Rested) (x : Rested) (zs xs : List Rested) (r : Rested) (ys : List Rested) → ws ++ x ∷ zs ≡ xs ++ r ∷ ys
    → ((more : List Rested) × (xs ≡ ws ++ x ∷ more)) ⊎ ((x ≡ r) ⊎ ((more : List Rested) × (ys ≡ more ++ x ∷ zs)))
cuts [] x zs [] r ys e = inr (inl cc)
cuts [] x zs (y ∷ xs) r ys e = let h : x ≡ y = cc in inl (xs, ap (λ z. z ∷ xs) (sym h))
cuts (w ∷ ws) x zs [] r ys e = let h : ws ++ x ∷ zs ≡ ys = cc in inr (inr (ws, sym h))
cuts (w ∷ ws) x zs (y ∷ xs) r ys e =
    let h : w ≡ y = cc in
    let t : ws ++ x ∷ zs ≡ xs ++ r ∷ ys = cc in
    ⊎_elim (λ (q : (more : List Rested) × (xs ≡ ws ++ x ∷ more)). inl (q.0, ap (λ z. z ∷ xs) (sym h) ∙ ap (λ l. w ∷ l) q.1)) (λ q. inr q) (cuts ws x zs xs r ys t)

none_in : (mode : Mode) (first safe : Bool) (row : ℕ) (ws : List Rested) (x : Rested) (zs : List Rested) → NoneFits mode first safe row (ws ++ x ∷ zs) → fits_in mode first safe row x ≡ false
none_in mode first safe row [] x zs n = n.0
none_in mode first safe row (w ∷ ws) x zs n = none_in mode first safe row ws x zs n.1

-- in the row, it is the use count that does not fit
none_at : (mode : Mode) (first safe : Bool) (row : ℕ) (ws : List Rested) (x : Rested) (zs : List Rested) → x.place.row ≡ row → NoneFits mode first safe row (ws ++ x ∷ zs) → fits mode first safe x.shown.face.uses ≡ false
none_at mode first safe row ws x zs at n = sym (ap (λ (b : Bool). b && fits mode first safe x.shown.face.uses) (eq-eqb x.place.row row at)) ∙ none_in mode first safe row ws x zs n

bools : (a b : Bool) → a ≡ true → a && b ≡ false → b ≡ false
bools true b h k = k
bools false b h k = cc

-- in a list, none likes another better
liked_one : (first : Bool) (u w : ℕ) → cond first (is_safe w) (not (is_safe w)) ≡ true → is_preferred first u w ≡ false
liked_one first u w h =
    let P : Bool → Bool → Bool → Type 0 = λ f a b. cond f b (not b) ≡ true → cond f (a && not b) (b && not a) ≡ false in
    let all : (f a b : Bool) → P f a b = λ f a b. elim f as (λ f. P f a b) [ true ↦ elim a as (λ a. P true a b) [ true ↦ elim b as (λ b. P true true b) [ true ↦ λ q. refl | false ↦ λ q. cc ] | false ↦ λ q. refl ] | false ↦ elim b as (λ b. P false a b) [ true ↦ λ q. cc | false ↦ λ q. refl ] ] in
    all first (is_safe u) (is_safe w) h

other_one : (first : Bool) (u w : ℕ) → cond first (is_safe u) (not (is_safe u)) ≡ false → is_preferred first u w ≡ false
other_one first u w h =
    let P : Bool → Bool → Bool → Type 0 = λ f a b. cond f a (not a) ≡ false → cond f (a && not b) (b && not a) ≡ false in
    let all : (f a b : Bool) → P f a b = λ f a b. elim f as (λ f. P f a b) [ true ↦ elim a as (λ a. P true a b) [ true ↦ λ q. cc | false ↦ λ q. refl ] | false ↦ elim a as (λ a. P false a b) [ true ↦ elim b as (λ b. P false true b) [ true ↦ λ q. refl | false ↦ λ q. refl ] | false ↦ λ q. cc ] ] in
    all first (is_safe u) (is_safe w) h

same_list : (safe a b : Bool) → a ≡ b → cond safe b (not b) ≡ true → cond safe a (not a) ≡ true
same_list safe a b e h = subst (λ x. cond safe x (not x) ≡ true) (sym e) h

module _ (b : BoardTerms) (t : ThreadNo) (h : History) (terms : h.about.rules ≡ b.rules) (thread : h.about.thread ≡ t) (H : List Note) (k : Known) (rests : List Rested) (s : Stands b H k rests) (first : Bool) where
  -- a value at a place of the own row
  found_own : (q : ℕ) (f : Face) → q < 64 → spot_at (table_after H) (place_of t.0 q) ≡ Holds f → (ws : List Rested) × (x : Rested) × (zs : List Rested) × (rests ≡ ws ++ x ∷ zs) × (x.place.row ≡ t.0) × (x.shown.face ≡ f)
  found_own q f low here =
      let at = spot_from b.threads rests (spot_no (place_of t.0 q)) f (sym (s.spots_are (spot_no (place_of t.0 q))) ∙ here) in
      let inside = (in_row b.threads at.0 at.1 at.2 (subst (AreApart b.threads) at.3 s.apart)).1 in
      let no' = at.4 in
      (at.0, at.1, at.2, at.3, omega arith, at.5)

  best_is : (i : ℕ) (bf : BestFits b.rules.mode first t.0 rests i) → IsBest h H first bf.last.chosen.shown.face
  best_is i bf q f low here may =
      let at = found_own q f low (subst (λ (u : ThreadNo). spot_at (table_after H) (place_of u.0 q) ≡ Holds f) thread here) in
      let r = bf.last.chosen in
      let row : eqb r.place.row t.0 && fits b.rules.mode first bf.safe r.shown.face.uses ≡ true = bf.last.good in
      let good = and_parts (allows b.rules.mode first r.shown.face.uses) (cond bf.safe (is_safe r.shown.face.uses) (not (is_safe r.shown.face.uses))) (and_parts (eqb r.place.row t.0) (fits b.rules.mode first bf.safe r.shown.face.uses) row).1 in
      let may' : allows b.rules.mode first at.1.shown.face.uses ≡ true = ap (λ (g : Face). allows b.rules.mode first g.uses) at.5 ∙ subst (λ (m : Mode). allows m first f.uses ≡ true) (ap (λ (z : PoolRules). z.mode) terms) may in (
        ⊎_elim
            (λ (e : bf.safe ≡ first). liked_one first f.uses r.shown.face.uses (subst (λ x. cond x (is_safe r.shown.face.uses) (not (is_safe r.shown.face.uses)) ≡ true) e good.1))
            (λ (e : (bf.safe ≡ not first) × NoneFits b.rules.mode first first t.0 rests).
            let none = none_at b.rules.mode first first t.0 at.0 at.1 at.2 at.4 (subst (NoneFits b.rules.mode first first t.0) at.3 e.1) in
            other_one first f.uses r.shown.face.uses (ap (λ (g : Face). cond first (is_safe g.uses) (not (is_safe g.uses))) (sym at.5) ∙ bools (allows b.rules.mode first at.1.shown.face.uses) (cond first (is_safe at.1.shown.face.uses) (not (is_safe at.1.shown.face.uses))) may' none))
            bf.liked,
        λ same.
            let id_is : at.1.shown.face.id.0 ≡ f.id.0 = ap (λ (g : Face). g.id.0) at.5 in
            ⊎_elim
            (λ (e : (more : List Rested) × (bf.last.before ≡ at.0 ++ at.1 ∷ more)).
            let all : rests ≡ at.0 ++ at.1 ∷ (e.0 ++ r ∷ bf.last.behind) = bf.last.parts ∙ (ap (λ l. l ++ r ∷ bf.last.behind) e.1 ∙ append_assoc at.0 (at.1 ∷ e.0) (r ∷ bf.last.behind)) in
            let lt = before_mid b.threads H at.0 at.1 e.0 r bf.last.behind (subst (AreRising H) all s.rising) in
            let id' = ap (last_park H) id_is in omega arith)
            (λ e. ⊎_elim
            (λ (same' : at.1 ≡ r). let id' : last_park H f.id.0 ≡ last_park H r.shown.face.id.0 = ap (last_park H) (sym id_is ∙ ap (λ (z : Rested). z.shown.face.id.0) same') in omega arith)
            (λ (later : (more : List Rested) × (bf.last.behind ≡ more ++ at.1 ∷ at.2)).
            let none = none_at b.rules.mode first bf.safe t.0 later.0 at.1 at.2 at.4 (subst (NoneFits b.rules.mode first bf.safe t.0) later.1 bf.last.none) in
            let in_list : cond bf.safe (is_safe at.1.shown.face.uses) (not (is_safe at.1.shown.face.uses)) ≡ true = same_list bf.safe (is_safe at.1.shown.face.uses) (is_safe r.shown.face.uses) (ap (λ (g : Face). is_safe g.uses) at.5 ∙ same) good.1 in
            let out = bools (allows b.rules.mode first at.1.shown.face.uses) (cond bf.safe (is_safe at.1.shown.face.uses) (not (is_safe at.1.shown.face.uses))) may' none in cc)
            e)
            (cuts at.0 at.1 at.2 bf.last.before r bf.last.behind (sym at.3 ∙ bf.last.parts)),
      )

  none_rests : NoneFits b.rules.mode first true t.0 rests → NoneFits b.rules.mode first false t.0 rests → NoneRestsIn h H t.0 first
  none_rests none none' q f low here =
      let at = found_own q f low here in
      let u : ℕ = at.1.shown.face.uses in
      let x = none_at b.rules.mode first true t.0 at.0 at.1 at.2 at.4 (subst (NoneFits b.rules.mode first true t.0) at.3 none) in
      let y = none_at b.rules.mode first false t.0 at.0 at.1 at.2 at.4 (subst (NoneFits b.rules.mode first false t.0) at.3 none') in
      let P : Bool → Bool → Type 0 = λ b c. b && c ≡ false → b && not c ≡ false → b ≡ false in
      let all : (b c : Bool) → P b c = λ b c. elim b as (λ b. P b c) [ true ↦ elim c as (λ c. P true c) [ true ↦ λ g h. g | false ↦ λ g h. h ] | false ↦ λ g h. refl ] in
      ap (λ (m : Mode). allows m first f.uses) (ap (λ (z : PoolRules). z.mode) terms) ∙ (ap (λ (g : Face). allows b.rules.mode first g.uses) (sym at.5) ∙ all (allows b.rules.mode first u) (is_safe u) x y)

-- what is left of a call once its entries are made
pub record Goes {V : Type 0} (shows : V → Shown) (k : Start shows) (d2 : DeskView) (rows' : Rows V) : Type 0 where
  pub ys : List Note
  pub wrote : d2 ≡ adds_notes k.d1 ys
  pub all : AllBy k.t ys
  pub after : IsAfter shows k.b (whole shows k ++ ys) rows'

pub adds_none : (d : DeskView) → d ≡ adds_notes d []
adds_none d = ap (λ l. let e : DeskView = record { board = d.board; view = record d.view { noted = l } } in e) (sym (append-nil d.view.noted))

module _ {V : Type 0} (shows : V → Shown) (k : Start shows) (n : SessionNo) (first : Bool) (d2 : DeskView) (rows' : Rows V)
    (next : rows'.next ≡ k.rows.next) (gate : rows'.draining ≡ k.rows.draining) (round : rows'.round ≡ k.rows.round) (room : vec_capacity rows'.resting ≡ vec_capacity k.rows.resting) where
  abbrev rests : List Rested
  rests = rests_of shows k.rows.resting.items

  st : Stands k.b (whole shows k ++ ([] ++ [])) (known_of shows k.rows) rests
  st = subst (λ hs. Stands k.b hs (known_of shows k.rows) rests) (sym (append-nil (whole shows k))) (after_of shows k).stands

  pub none_goes : rows'.resting.items ≡ k.rows.resting.items → IsAfter shows k.b (whole shows k ++ []) rows'
  none_goes same = let r = (after_of shows k).roomy in after_as shows k.b (whole shows k ++ []) (known_of shows k.rows) rests rows' st next gate refl round (ap (rests_of shows) same) (omega arith)

  module _ (x : Rested) (tb : TookBest k.d1 d2 rests (rests_of shows rows'.resting.items) k.t n first k.b.rules.mode x) where
    parts : rests ≡ tb.best.last.before ++ x ∷ tb.best.last.behind
    parts = tb.best.last.parts ∙ ap (λ (y : Rested). tb.best.last.before ++ y ∷ tb.best.last.behind) tb.chosen

    fit : fits_in k.b.rules.mode first tb.best.safe k.t.0 x ≡ true
    fit = ap (fits_in k.b.rules.mode first tb.best.safe k.t.0) (sym tb.chosen) ∙ tb.best.last.good

    fit_parts : (eqb x.place.row k.t.0 ≡ true) × (fits k.b.rules.mode first tb.best.safe x.shown.face.uses ≡ true)
    fit_parts = and_parts (eqb x.place.row k.t.0) (fits k.b.rules.mode first tb.best.safe x.shown.face.uses) fit

    may : allows k.b.rules.mode first x.shown.face.uses ≡ true
    may = (and_parts (allows k.b.rules.mode first x.shown.face.uses) (cond tb.best.safe (is_safe x.shown.face.uses) (not (is_safe x.shown.face.uses))) fit_parts.1).0

    pub own_after : IsAfter shows k.b (whole shows k ++ taking k.t n first x.place x.shown.face (length rests)) rows'
    own_after = took_after shows k [] [] n first x tb.best.last.before tb.best.last.behind rows' st parts tb.left_is next gate round room (λ _. may) tt tt refl

    pub own_by : AllBy k.t (taking k.t n first x.place x.shown.face (length rests))
    own_by = (refl, (refl, (refl, tt)))

    pub own_takes : (d3 : DeskView) → d3 ≡ given_back d2 → TakesOwn (history k.b k.t k.p k.d0) (history k.b k.t k.p d3) n first x.shown
    own_takes d3 back =
        let h : History = history k.b k.t k.p k.d0 in
        let is = best_is k.b k.t h refl refl (whole shows k) (known_of shows k.rows) rests (after_of shows k).stands first tb.index tb.best in
        let shift : whole shows k ≡ k.d0.view.seen ++ (k.g.between ++ ([] ++ [])) = ap (λ l. k.d0.view.seen ++ l) (sym (append-nil k.g.between)) in record {
          place = x.place;
          row = eqb-true x.place.row k.t.0 fit_parts.0;
          takes = took_takes shows k [] [] n first x tb.best.last.before tb.best.last.behind rows' st parts tb.left_is next gate round room (λ _. may) tt tt refl d2 d3 k.p tb.desk back;
          passed = refl;
          best = subst (λ hs. IsBest h hs first x.shown.face) shift (subst (λ (y : Rested). IsBest h (whole shows k) first y.shown.face) tb.chosen is);
        }

  pub own_goes : (taken : Option (Rest V)) → MatchOption taken (NoneFits k.b.rules.mode first true k.t.0 rests × NoneFits k.b.rules.mode first false k.t.0 rests × (rows'.resting.items ≡ k.rows.resting.items) × (d2 ≡ k.d1))
      (λ r. TookBest k.d1 d2 rests (rests_of shows rows'.resting.items) k.t n first k.b.rules.mode (record { place = r.place; shown = shows r.v })) → Goes shows k d2 rows'
  own_goes None m = record { ys = []; wrote = m.3 ∙ adds_none k.d1; all = tt; after = none_goes m.2 }
  own_goes (Some r) m = record { ys = taking k.t n first r.place (shows r.v).face (length rests); wrote = m.desk; all = (refl, (refl, (refl, tt))); after = own_after (record { place = r.place; shown = shows r.v }) m }

  pub own_none_grows : (d3 : DeskView) → rows'.resting.items ≡ k.rows.resting.items → d2 ≡ k.d1 → d3 ≡ given_back d2 → Grows (history k.b k.t k.p k.d0) (history k.b k.t k.p d3) []
  own_none_grows d3 same wrote back = grows_of shows k d2 [] (wrote ∙ adds_none k.d1) d3 back tt rows' (none_goes same) refl k.p [] refl (omega arith)

  pub own_none : (d3 : DeskView) → NoneFits k.b.rules.mode first true k.t.0 rests → NoneFits k.b.rules.mode first false k.t.0 rests → rows'.resting.items ≡ k.rows.resting.items → d2 ≡ k.d1 → d3 ≡ given_back d2 → TakesNoneOwn (history k.b k.t k.p k.d0) (history k.b k.t k.p d3) first
  own_none d3 none none' same wrote back =
      let w = wrote ∙ adds_none k.d1 in
      let is = desk_of shows k d2 [] w d3 back tt rows' (none_goes same) in
      let h : History = history k.b k.t k.p d3 in record {
        looks = record { looks = []; looked = tt; makes = makes_of shows k d2 [] w d3 back tt rows' (none_goes same) refl k.p };
        passed = refl;
        none = subst (λ hs. NoneRestsIn h hs k.t.0 first) (sym (append-nil (whole shows k)) ∙ sym (ap (λ (d : DeskView). d.view.seen) is)) (none_rests k.b k.t h refl refl (whole shows k) (known_of shows k.rows) rests (after_of shows k).stands first none none');
      }
