-- The value of a board: one value is taken out, and one is put in.
use Rattle.std.proofs.Common.{◌≡◌, ◌≢◌, ℕ, suc, ◌+◌, ◌-◌, ◌<◌, ◌≤◌, eqb, Bool, true, false, cond, List, [], ◌∷◌, ◌++◌, length, refl, sym, ap, ◌∙◌, subst, arith, Option, Some, None, IfSome, append_assoc, eq-eqb, ne_eqb}
use Rattle.std.proofs.lemmas.List.{length-append}
use Rattle.std.proofs.lemmas.Bool.{cond_both}
use Rattle.hx_base.specs.declared.numbers.ThreadNo.{ThreadNo}
use Rattle.hx_base.specs.declared.numbers.SessionNo.{SessionNo}
use Rattle.hx_base.specs.declared.numbers.ServerNo.{ServerNo}
use Rattle.hx_base.specs.declared.numbers.PlaceNo.{PlaceNo}
use Rattle.hx_base.specs.declared.rules.Mode.TheVariants.{Never}
use Rattle.hx_base.specs.Shown.{Shown}
use Rattle.hx_pool.specs.declared.board.BoardTerms.{BoardTerms}
use Rattle.hx_pool.specs.declared.entries.Entry.{Entry}
use Rattle.hx_pool.specs.declared.entries.Entry.TheVariants.{Park, Take, Free, Down}
use Rattle.hx_pool.specs.declared.entries.Note.{Note}
use Rattle.hx_pool.specs.Table.{Table, Spot, Vacant, Holds, Leaves, HeldBy, IsInRow, after, spot_no}
use Rattle.hx_pool.specs.History.{plain, own_of, opens_of, table_after, IsLegal}
use Rattle.hx_pool.specs.Rules.{allows}
use Rattle.hx_pool.specs.Opening.{open_limit}
use Rattle.hx_pool.specs.Parking.{parked}
use Rattle.hx_pool.specs.Taking.{taking, last_park, park_after, park_from}
use Rattle.hx_pool.proofs.Histories.{opens_of-append}
use Rattle.hx_pool.proofs.Tables.{sound_at}
use Rattle.hx_resting.specs.Rows.{Rested, spot_in, AreApart, AreKept, AreLater, AreRising, Known, IsRight, Stands}
use Rattle.hx_resting.proofs.Steps.{table_more, right_from, below_now, kept_more, rising_more, park_more, opens_same}
use Rattle.hx_resting.proofs.Shelves.{at_mid, in_row, without_mid, apart_without, kept_without, rising_without, spot_push, apart_push}

if_map : (o : Option ℕ) (P Q : ℕ → Type 0) → ((m : ℕ) → P m → Q m) → IfSome o P → IfSome o Q
if_map None P Q f h = h
if_map (Some m) P Q f h = f m h

length_mid : (xs : List Rested) (r : Rested) (ys : List Rested) → length (xs ++ r ∷ ys) ≡ suc (length (xs ++ ys))
length_mid xs r ys = omega (arith, length-append xs (r ∷ ys), length-append xs ys)

twice : (b : Bool) (x y z : Spot) → cond b x (cond b y z) ≡ cond b x z
twice true x y z = refl
twice false x y z = refl

module _ (b : BoardTerms) (t : ThreadNo) (low : t.0 < b.threads) (H : List Note) (k : Known) (xs : List Rested) (r : Rested) (ys : List Rested) (s : Stands b H k (xs ++ r ∷ ys)) (counted : k.count ≡ length (xs ++ r ∷ ys)) (m : SessionNo) (first : Bool) (may : m.0 ≢ 0 → allows b.rules.mode first r.shown.face.uses ≡ true) where
  abbrev p : ℕ
  p = spot_no r.place

  abbrev e₁ : Entry
  e₁ = Take t m first r.place r.shown.face.id r.shown.face.uses

  abbrev e₂ : Entry
  e₂ = Free t r.place

  abbrev e₃ : Entry
  e₃ = Down t (length (xs ++ r ∷ ys))

  abbrev T₁ : Table
  T₁ = after (table_after H) (plain e₁)

  abbrev T₂ : Table
  T₂ = after T₁ (plain e₂)

  abbrev hs₁ : List Note
  hs₁ = H ++ plain e₁ ∷ []

  abbrev hs₂ : List Note
  hs₂ = hs₁ ++ plain e₂ ∷ []

  abbrev hs₃ : List Note
  hs₃ = hs₂ ++ plain e₃ ∷ []

  at₁ : table_after hs₁ ≡ T₁
  at₁ = table_more H (plain e₁)

  at₂ : table_after hs₂ ≡ T₂
  at₂ = table_more hs₁ (plain e₂) ∙ ap (λ (T : Table). after T (plain e₂)) at₁

  at₃ : table_after hs₃ ≡ after T₂ (plain e₃)
  at₃ = table_more hs₂ (plain e₃) ∙ ap (λ (T : Table). after T (plain e₃)) at₂

  below : IfSome b.rules.max (λ i. (table_after H).resting - 1 ≤ i)
  below = if_map b.rules.max (λ i. (table_after H).resting ≤ i) (λ i. (table_after H).resting - 1 ≤ i) (λ i h. omega arith) (below_now b t low H k (xs ++ r ∷ ys) s)

  inside : IsInRow r.place
  inside = (in_row b.threads xs r ys s.apart).1

  same : eqb p p ≡ true
  same = eq-eqb p p refl

  right₁ : IsRight b hs₁
  right₁ = right_from b t low H s.right (plain e₁) refl (inside, s.spots_are p ∙ at_mid b.threads xs r ys s.apart) may below

  right₂ : IsRight b hs₂
  right₂ = right_from b t low hs₁ right₁ (plain e₂) refl
      (inside, ap (λ (T : Table). T.spots p) at₁ ∙ ap (λ c. cond c (Leaves t) ((table_after H).spots p)) same) tt
      (subst (λ (T : Table). IfSome b.rules.max (λ i. T.resting ≤ i)) (sym at₁) below)

  count₂ : (table_after hs₂).count ≡ length (xs ++ r ∷ ys)
  count₂ = ap (λ (T : Table). T.count) at₂ ∙ (s.count_is ∙ counted)

  right₃ : IsRight b hs₃
  right₃ = right_from b t low hs₂ right₂ (plain e₃) refl (sym count₂, (let l = length_mid xs r ys in omega arith)) tt
      (subst (λ (T : Table). IfSome b.rules.max (λ i. T.resting ≤ i)) (sym at₂) below)

  few₃ : (u : ThreadNo) → opens_of (own_of u hs₃) ≤ open_limit u
  few₃ u = let x = opens_same u H (plain e₁) refl in let y = opens_same u hs₁ (plain e₂) refl in let z = opens_same u hs₂ (plain e₃) refl in let w = s.few u in omega arith

  take_steps : Stands b hs₃ (record k { count = length (xs ++ ys) }) (xs ++ ys)
  take_steps = let l = length_mid xs r ys in record {
    right = right₃;
    next_is = ap (λ (T : Table). T.next) at₃ ∙ s.next_is;
    gate_is = ap (λ (T : Table). T.draining) at₃ ∙ s.gate_is;
    count_is = let c : (table_after hs₃).count ≡ (table_after H).count - 1 = ap (λ (T : Table). T.count) at₃ in let q = s.count_is in omega arith;
    round_is = ap (λ (T : Table). T.round) at₃ ∙ s.round_is;
    resting_is = let c : (table_after hs₃).resting ≡ (table_after H).resting - 1 = ap (λ (T : Table). T.resting) at₃ in let q = s.resting_is in omega arith;
    spots_are = λ q.
        ap (λ (T : Table). T.spots q) at₃
        ∙ (twice (eqb q p) Vacant (Leaves t) ((table_after H).spots q)
        ∙ (ap (λ x. cond (eqb q p) Vacant x) (s.spots_are q) ∙ sym (without_mid b.threads xs r ys q s.apart)));
    apart = apart_without b.threads xs r ys s.apart;
    kept = kept_more hs₂ (plain e₃) b.server (xs ++ ys) (λ i. refl) (kept_more hs₁ (plain e₂) b.server (xs ++ ys) (λ i. refl) (kept_more H (plain e₁) b.server (xs ++ ys) (λ i. refl) (kept_without b.threads H b.server xs r ys s.kept)));
    rising = rising_more hs₂ (plain e₃) (xs ++ ys) (λ i j o. refl) (rising_more hs₁ (plain e₂) (xs ++ ys) (λ i j o. refl) (rising_more H (plain e₁) (xs ++ ys) (λ i j o. refl) (rising_without b.threads H xs r ys s.rising)));
    opened = let c = opens_of-append hs₂ (plain e₃ ∷ []) in let d = opens_of-append hs₁ (plain e₂ ∷ []) in let f = opens_of-append H (plain e₁ ∷ []) in let q = s.opened in omega arith;
    few = few₃;
  }

  -- the three entries of a take
  pub take_stands : Stands b (H ++ taking t m first r.place r.shown.face (length (xs ++ r ∷ ys))) (record k { count = length (xs ++ ys) }) (xs ++ ys)
  take_stands = subst (λ (hs : List Note). Stands b hs (record k { count = length (xs ++ ys) }) (xs ++ ys)) (append_assoc hs₁ (plain e₂ ∷ []) (plain e₃ ∷ []) ∙ append_assoc H (plain e₁ ∷ []) (plain e₂ ∷ plain e₃ ∷ [])) take_steps

-- none of the values has the id
AllOther : ℕ → List Rested → Type 0
AllOther i [] = Unit {0}
AllOther i (x ∷ xs) = (x.shown.face.id.0 ≢ i) × AllOther i xs

others : (n : ℕ) (H : List Note) (i : ℕ) (t : ThreadNo) (m : SessionNo) (ws xs : List Rested) → IsLegal H → (table_after H).conns i ≡ HeldBy t m → ((p : ℕ) → (table_after H).spots p ≡ spot_in (ws ++ xs) p) → AreApart n (ws ++ xs) → AreApart n xs → AllOther i xs
unfolding AllOther
others n H i t m ws [] l w spots apart below = tt
others n H i t m ws (x ∷ xs) l w spots apart below =
    let there = ((sound_at H l).rests x.place x.shown.face below.0.1 (spots (spot_no x.place) ∙ at_mid n ws x xs apart)).0 in
    let shift : (ws ++ x ∷ []) ++ xs ≡ ws ++ x ∷ xs = append_assoc ws (x ∷ []) xs in
    ((λ e. let v = ap (table_after H).conns e in cc), others n H i t m (ws ++ x ∷ []) xs l w (λ p. spots p ∙ ap (λ l. spot_in l p) (sym shift)) (subst (AreApart n) (sym shift) apart) below.2)

kept_other : (H : List Note) (server : ServerNo) (t : ThreadNo) (m : SessionNo) (place : PlaceNo) (v : Shown) (rests : List Rested) → AllOther v.face.id.0 rests → AreKept H server rests → AreKept (H ++ parked t m place v ∷ []) server rests
unfolding AllOther
kept_other H server t m place v [] o k = tt
kept_other H server t m place v (x ∷ xs) o k =
    let i : ℕ = x.shown.face.id.0 in
    (k.0, ap (λ (T : Table). T.whats i) (table_more H (parked t m place v)) ∙ (ap (λ b. cond b (Some v.what) ((table_after H).whats i)) (ne_eqb i v.face.id.0 o.0) ∙ k.1), kept_other H server t m place v xs o.1 k.2)

kept_here : (H : List Note) (server : ServerNo) (t : ThreadNo) (m : SessionNo) (place : PlaceNo) (v : Shown) (rests : List Rested) → v.server ≡ server → AreKept (H ++ parked t m place v ∷ []) server rests → AreKept (H ++ parked t m place v ∷ []) server (rests ++ record { place = place; shown = v } ∷ [])
kept_here H server t m place v [] e k = (e, ap (λ (T : Table). T.whats v.face.id.0) (table_more H (parked t m place v)) ∙ ap (λ b. cond b (Some v.what) ((table_after H).whats v.face.id.0)) (eq-eqb v.face.id.0 v.face.id.0 refl), tt)
kept_here H server t m place v (x ∷ xs) e k = (k.0, k.1, kept_here H server t m place v xs e k.2)

park_bound : (i k o : ℕ) (xs : List Note) → o < k → park_from i k o xs < k + length xs
park_bound i k o [] h = omega arith
park_bound i k o (x ∷ xs) h =
    let P : ℕ → Type 0 = λ j. j < k + 1 in
    let low : P (park_after i k o x.entry) = elim x.entry as (λ e. P (park_after i k o e)) [
      | Park t n id place uses ↦ cond_both (eqb id.0 i) k o P (λ _. omega arith) (λ _. omega arith)
      | _ ↦ omega arith
    ] in
    let r = park_bound i (k + 1) (park_after i k o x.entry) xs low in omega arith

last_bound : (H : List Note) (i : ℕ) → last_park H i < 1 + length H
last_bound H i = park_bound i 1 0 H (omega arith)

other_park : (H : List Note) (t : ThreadNo) (m : SessionNo) (place : PlaceNo) (v : Shown) (i : ℕ) → i ≢ v.face.id.0 → last_park (H ++ parked t m place v ∷ []) i ≡ last_park H i
other_park H t m place v i ne = park_more H (parked t m place v) i ∙ ap (λ b. cond b (1 + length H) (last_park H i)) (ne_eqb v.face.id.0 i (λ e. ne (sym e)))

later_push : (H : List Note) (t : ThreadNo) (m : SessionNo) (place : PlaceNo) (v : Shown) (k : ℕ) (rests : List Rested) → k < 1 + length H → AllOther v.face.id.0 rests → AreLater H k rests → AreLater (H ++ parked t m place v ∷ []) k (rests ++ record { place = place; shown = v } ∷ [])
unfolding AllOther
later_push H t m place v k [] low o l =
    let e = park_more H (parked t m place v) v.face.id.0 ∙ ap (λ b. cond b (1 + length H) (last_park H v.face.id.0)) (eq-eqb v.face.id.0 v.face.id.0 refl) in
    (subst (λ j. k < j) (sym e) low, tt)
later_push H t m place v k (x ∷ xs) low o l = (subst (λ j. k < j) (sym (other_park H t m place v x.shown.face.id.0 o.0)) l.0, later_push H t m place v k xs low o.1 l.1)

rising_push : (H : List Note) (t : ThreadNo) (m : SessionNo) (place : PlaceNo) (v : Shown) (rests : List Rested) → AllOther v.face.id.0 rests → AreRising H rests → AreRising (H ++ parked t m place v ∷ []) (rests ++ record { place = place; shown = v } ∷ [])
unfolding AllOther
rising_push H t m place v [] o l = (tt, tt)
rising_push H t m place v (x ∷ xs) o l =
    let k : ℕ = last_park H x.shown.face.id.0 in
    (subst (λ j. AreLater (H ++ parked t m place v ∷ []) j (xs ++ record { place = place; shown = v } ∷ [])) (sym (other_park H t m place v x.shown.face.id.0 o.0)) (later_push H t m place v k xs (last_bound H x.shown.face.id.0) o.1 l.0), rising_push H t m place v xs o.1 l.1)

pub park_stands : (b : BoardTerms) (t : ThreadNo) (low : t.0 < b.threads) (H : List Note) (k : Known) (rests : List Rested) (s : Stands b H k rests) (m : SessionNo) (place : PlaceNo) (v : Shown)
    → m.0 ≢ 0 → IsInRow place → place.row ≡ t.0 → spot_in rests (spot_no place) ≡ Vacant → v.server ≡ b.server → (table_after H).conns v.face.id.0 ≡ HeldBy t m → (table_after H).uses v.face.id.0 ≡ v.face.uses - 1 → 1 ≤ v.face.uses → v.face.uses ≤ 65535 → b.rules.mode ≢ Never → IfSome b.rules.max (λ x. length rests < x)
    → Stands b (H ++ parked t m place v ∷ []) k (rests ++ record { place = place; shown = v } ∷ [])
park_stands b t low H k rests s m place v some inside own vacant server held was used most mode room =
    let x : Note = parked t m place v in
    let r : Rested = record { place = place; shown = v } in
    let apart : AllOther v.face.id.0 rests = others b.threads H v.face.id.0 t m [] rests s.right.legal held s.spots_are s.apart s.apart in
    let at = table_more H x in record {
      right = right_from b t low H s.right x refl
          record { held = held; session = some; row = own; inside = inside; vacant = s.spots_are (spot_no place) ∙ vacant; used = omega arith; most = most }
          mode (if_map b.rules.max (λ i. length rests < i) (λ i. (table_after H).resting + 1 ≤ i) (λ i h. let q = s.resting_is in omega arith) room);
      next_is = ap (λ (T : Table). T.next) at ∙ s.next_is;
      gate_is = ap (λ (T : Table). T.draining) at ∙ s.gate_is;
      count_is = ap (λ (T : Table). T.count) at ∙ s.count_is;
      round_is = ap (λ (T : Table). T.round) at ∙ s.round_is;
      resting_is = let q = s.resting_is in let c : (table_after (H ++ x ∷ [])).resting ≡ (table_after H).resting + 1 = ap (λ (T : Table). T.resting) at in omega (arith, length-append rests (r ∷ []));
      spots_are = λ q. ap (λ (T : Table). T.spots q) at ∙ (ap (λ z. cond (eqb q (spot_no place)) (Holds v.face) z) (s.spots_are q) ∙ sym (spot_push b.threads rests r q vacant));
      apart = apart_push b.threads rests r (subst (λ (j : ℕ). j < b.threads) (sym own) low, inside) vacant s.apart;
      kept = kept_here H b.server t m place v rests server (kept_other H b.server t m place v rests apart s.kept);
      rising = rising_push H t m place v rests apart s.rising;
      opened = let c = opens_of-append H (x ∷ []) in let q = s.opened in omega arith;
      few = λ u. let e = opens_same u H x refl in let w = s.few u in omega arith;
    }
