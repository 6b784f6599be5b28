-- The seat of one row: a value is taken out, and one is put in.
use Rattle.std.proofs.Common.{◌≡◌, ◌≢◌, ℕ, suc, ◌+◌, ◌-◌, ◌<◌, ◌≤◌, eqb, Bool, true, false, cond, List, [], ◌∷◌, ◌++◌, length, refl, sym, ap, ◌∙◌, subst, arith, Option, Some, None, IfSome, append_assoc, eq-eqb, ne_eqb, ⊎_elim}
use Rattle.std.proofs.lemmas.List.{length-append}
use Rattle.std.proofs.lemmas.Bool.{cases_eq}
use Rattle.hx_base.specs.declared.numbers.ThreadNo.{ThreadNo}
use Rattle.hx_base.specs.declared.numbers.SessionNo.{SessionNo}
use Rattle.hx_base.specs.declared.numbers.ServerNo.{ServerNo}
use Rattle.hx_base.specs.declared.numbers.PlaceNo.{PlaceNo}
use Rattle.hx_base.specs.declared.rules.Mode.TheVariants.{Never}
use Rattle.hx_base.specs.Shown.{Shown}
use Rattle.hx_pool.specs.declared.entries.Entry.{Entry}
use Rattle.hx_pool.specs.declared.entries.Entry.TheVariants.{Park, Take, Free, Down}
use Rattle.hx_pool.specs.declared.entries.Note.{Note}
use Rattle.hx_pool.specs.Table.{Table, Spot, Vacant, Holds, Leaves, HeldBy, after, spot_no, spot_at}
use Rattle.hx_pool.specs.History.{plain, table_after, IsLegal}
use Rattle.hx_pool.specs.Rules.{allows}
use Rattle.hx_pool.specs.Held.{Has}
use Rattle.hx_pool.specs.SeatView.{About, IsOneHistory}
use Rattle.hx_pool.specs.Causes.{place_of}
use Rattle.hx_pool.specs.Parking.{parked}
use Rattle.hx_pool.specs.Taking.{taking, last_park, park_after, park_from}
use Rattle.hx_plain.specs.Row.{Rested, spot_in}
use Rattle.hx_plain.specs.Plain.{AreApart, AreKept, AreLater, AreRising, alone, Known, Stands}
use Rattle.hx_pool.proofs.Histories.{opens_of-append}
use Rattle.hx_pool.proofs.Holding.{has_with}
use Rattle.hx_pool.proofs.Tables.{sound_at}
use Rattle.hx_plain.proofs.Steps.{table_more, one_more, below_now, kept_more, rising_more, park_more}
use Rattle.hx_plain.proofs.Rows.{at_mid, without_mid, apart_without, kept_without, rising_without, spot_push, apart_push}

if_map : (o : Option ℕ) (P Q : ℕ → Type 0) → ((m : ℕ) → P m → Q m) → IfSome o P → IfSome o Q
if_map None P Q f h = h
if_map (Some m) P Q f h = f m h

length_mid : (xs : List Rested) (r : Rested) (ys : List Rested) → length (xs ++ r ∷ ys) ≡ suc (length (xs ++ ys))
length_mid xs r ys = omega (arith, length-append xs (r ∷ ys), length-append xs ys)

-- places of one row are told apart by their numbers in it
same_row : (r p q : ℕ) → eqb (spot_no (place_of r p)) (spot_no (place_of r q)) ≡ eqb p q
same_row r p q = ⊎_elim
    (λ (e : p ≡ q). eq-eqb (spot_no (place_of r p)) (spot_no (place_of r q)) (ap (λ (j : ℕ). spot_no (place_of r j)) e) ∙ sym (eq-eqb p q e))
    (λ (ne : p ≢ q). ne_eqb (spot_no (place_of r p)) (spot_no (place_of r q)) (λ e. ne (omega arith)) ∙ sym (ne_eqb p q ne))
    (cases_eq p q)

twice : (b : Bool) (x y z : Spot) → cond b x (cond b y z) ≡ cond b x z
twice true x y z = refl
twice false x y z = refl

module _ (a : About) (notes : List Note) (k : Known) where
  module _ (xs : List Rested) (r : Rested) (ys : List Rested) (s : Stands a notes k (xs ++ r ∷ ys)) (low : r.place < 64) (counted : k.count ≡ length (xs ++ r ∷ ys)) (m : SessionNo) (first : Bool) (may : m.0 ≢ 0 → allows a.rules.mode first r.shown.face.uses ≡ true) where
    abbrev e₁ : Entry
    e₁ = Take a.thread m first (place_of a.thread.0 r.place) r.shown.face.id r.shown.face.uses

    abbrev e₂ : Entry
    e₂ = Free a.thread (place_of a.thread.0 r.place)

    abbrev e₃ : Entry
    e₃ = Down a.thread (length (xs ++ r ∷ ys))

    abbrev T₁ : Table
    T₁ = after (table_after notes) (plain e₁)

    abbrev T₂ : Table
    T₂ = after T₁ (plain e₂)

    abbrev hs₁ : List Note
    hs₁ = notes ++ plain e₁ ∷ []

    abbrev hs₂ : List Note
    hs₂ = hs₁ ++ plain e₂ ∷ []

    abbrev hs₃ : List Note
    hs₃ = hs₂ ++ plain e₃ ∷ []

    at₁ : table_after hs₁ ≡ T₁
    at₁ = table_more notes (plain e₁)

    at₂ : table_after hs₂ ≡ T₂
    at₂ = table_more hs₁ (plain e₂) ∙ ap (λ (T : Table). after T (plain e₂)) at₁

    at₃ : table_after hs₃ ≡ after T₂ (plain e₃)
    at₃ = table_more hs₂ (plain e₃) ∙ ap (λ (T : Table). after T (plain e₃)) at₂

    below : IfSome a.rules.max (λ i. (table_after notes).resting - 1 ≤ i)
    below = if_map a.rules.max (λ i. (table_after notes).resting ≤ i) (λ i. (table_after notes).resting - 1 ≤ i) (λ i h. omega arith) (below_now a notes k (xs ++ r ∷ ys) s)

    same : eqb (spot_no (place_of a.thread.0 r.place)) (spot_no (place_of a.thread.0 r.place)) ≡ true
    same = eq-eqb (spot_no (place_of a.thread.0 r.place)) (spot_no (place_of a.thread.0 r.place)) refl

    one₁ : IsOneHistory a hs₁ hs₁
    one₁ = one_more a notes (plain e₁) s.one refl (low, s.spots_are r.place low ∙ at_mid xs r ys s.apart) may below

    one₂ : IsOneHistory a hs₂ hs₂
    one₂ = one_more a hs₁ (plain e₂) one₁ refl
        (low, ap (λ (T : Table). spot_at T (place_of a.thread.0 r.place)) at₁ ∙ ap (λ b. cond b (Leaves a.thread) (spot_at (table_after notes) (place_of a.thread.0 r.place))) same) tt
        (subst (λ (T : Table). IfSome a.rules.max (λ i. T.resting ≤ i)) (sym at₁) below)

    count₂ : (table_after hs₂).count ≡ length (xs ++ r ∷ ys)
    count₂ = ap (λ (T : Table). T.count) at₂ ∙ (s.count_is ∙ counted)

    one₃ : IsOneHistory a hs₃ hs₃
    one₃ = one_more a hs₂ (plain e₃) one₂ refl (sym count₂, (let l = length_mid xs r ys in omega arith)) tt
        (subst (λ (T : Table). IfSome a.rules.max (λ i. T.resting ≤ i)) (sym at₂) below)

    take_steps : Stands a hs₃ (record k { count = length (xs ++ ys) }) (xs ++ ys)
    take_steps = let l = length_mid xs r ys in record {
      one = one₃;
      next_is = ap (λ (T : Table). T.next) at₃ ∙ s.next_is;
      gate_is = ap (λ (T : Table). T.draining) at₃ ∙ s.gate_is;
      count_is = let c : (table_after hs₃).count ≡ (table_after notes).count - 1 = ap (λ (T : Table). T.count) at₃ in let q = s.count_is in omega arith;
      round_is = ap (λ (T : Table). T.round) at₃ ∙ s.round_is;
      resting_is = let c : (table_after hs₃).resting ≡ (table_after notes).resting - 1 = ap (λ (T : Table). T.resting) at₃ in let q = s.resting_is in omega arith;
      spots_are = λ p h.
          ap (λ (T : Table). spot_at T (place_of a.thread.0 p)) at₃
          ∙ (ap (λ (b : Bool). cond b Vacant (cond b (Leaves a.thread) (spot_at (table_after notes) (place_of a.thread.0 p)))) (same_row a.thread.0 p r.place)
          ∙ (twice (eqb p r.place) Vacant (Leaves a.thread) (spot_at (table_after notes) (place_of a.thread.0 p))
          ∙ (ap (λ x. cond (eqb p r.place) Vacant x) (s.spots_are p h) ∙ sym (without_mid xs r ys p s.apart))));
      apart = apart_without xs r ys s.apart;
      kept = kept_more hs₂ (plain e₃) a.server (xs ++ ys) (λ i. refl) (kept_more hs₁ (plain e₂) a.server (xs ++ ys) (λ i. refl) (kept_more notes (plain e₁) a.server (xs ++ ys) (λ i. refl) (kept_without notes a.server xs r ys s.kept)));
      rising = rising_more hs₂ (plain e₃) (xs ++ ys) (λ i j o. refl) (rising_more hs₁ (plain e₂) (xs ++ ys) (λ i j o. refl) (rising_more notes (plain e₁) (xs ++ ys) (λ i j o. refl) (rising_without notes xs r ys s.rising)));
      opened = let b = opens_of-append hs₂ (plain e₃ ∷ []) in let c = opens_of-append hs₁ (plain e₂ ∷ []) in let f = opens_of-append notes (plain e₁ ∷ []) in let q = s.opened in omega arith;
      few = s.few;
    }

    -- the three entries of a take
    pub take_stands : Stands a (notes ++ taking a.thread m first (place_of a.thread.0 r.place) r.shown.face (length (xs ++ r ∷ ys))) (record k { count = length (xs ++ ys) }) (xs ++ ys)
    take_stands = subst (λ (hs : List Note). Stands a hs (record k { count = length (xs ++ ys) }) (xs ++ ys)) (append_assoc hs₁ (plain e₂ ∷ []) (plain e₃ ∷ []) ∙ append_assoc notes (plain e₁ ∷ []) (plain e₂ ∷ plain e₃ ∷ [])) take_steps

-- none of the values has the id
AllOther : ℕ → List Rested → Type 0
AllOther i [] = Unit {0}
AllOther i (x ∷ xs) = (x.shown.face.id.0 ≢ i) × AllOther i xs

others : (H : List Note) (row i : ℕ) (t : ThreadNo) (m : SessionNo) (ws xs : List Rested) → IsLegal H → (table_after H).conns i ≡ HeldBy t m → ((p : ℕ) → p < 64 → spot_at (table_after H) (place_of row p) ≡ spot_in (ws ++ xs) p) → AreApart (ws ++ xs) → AreApart xs → AllOther i xs
unfolding AllOther
others H row i t m ws [] l w spots apart below = tt
others H row i t m ws (x ∷ xs) l w spots apart below =
    let there = ((sound_at H l).rests (place_of row x.place) x.shown.face below.0 (spots x.place below.0 ∙ at_mid ws x xs apart)).0 in
    let shift : (ws ++ x ∷ []) ++ xs ≡ ws ++ x ∷ xs = append_assoc ws (x ∷ []) xs in
    ((λ e. let v = ap (table_after H).conns e in cc), others H row i t m (ws ++ x ∷ []) xs l w (λ p h. spots p h ∙ ap (λ l. spot_in l p) (sym shift)) (subst AreApart (sym shift) apart) below.2)

kept_other : (notes : List Note) (server : ServerNo) (t : ThreadNo) (m : SessionNo) (place : PlaceNo) (v : Shown) (rests : List Rested) → AllOther v.face.id.0 rests → AreKept notes server rests → AreKept (notes ++ parked t m place v ∷ []) server rests
unfolding AllOther
kept_other notes server t m place v [] o k = tt
kept_other notes server t m place v (x ∷ xs) o k =
    let i : ℕ = x.shown.face.id.0 in
    (k.0, ap (λ (T : Table). T.whats i) (table_more notes (parked t m place v)) ∙ (ap (λ b. cond b (Some v.what) ((table_after notes).whats i)) (ne_eqb i v.face.id.0 o.0) ∙ k.1), kept_other notes server t m place v xs o.1 k.2)

kept_here : (notes : List Note) (server : ServerNo) (t : ThreadNo) (m : SessionNo) (place : PlaceNo) (v : Shown) (p : ℕ) (rests : List Rested) → v.server ≡ server → AreKept (notes ++ parked t m place v ∷ []) server rests → AreKept (notes ++ parked t m place v ∷ []) server (rests ++ record { place = p; shown = v } ∷ [])
kept_here notes server t m place v p [] e k = (e, ap (λ (T : Table). T.whats v.face.id.0) (table_more notes (parked t m place v)) ∙ ap (λ b. cond b (Some v.what) ((table_after notes).whats v.face.id.0)) (eq-eqb v.face.id.0 v.face.id.0 refl), tt)
kept_here notes server t m place v p (x ∷ xs) e k = (k.0, k.1, kept_here notes server t m place v p xs e k.2)

park_bound : (i k o : ℕ) (xs : List Note) → o < k → park_from i k o xs < k + length xs
park_bound i k o [] h = omega arith
park_bound i k o (x ∷ xs) h =
    let P : ℕ → Type 0 = λ j. j < k + 1 in
    let low : P (park_after i k o x.entry) = elim x.entry as (λ e. P (park_after i k o e)) [
      | Park t n id place uses ↦ Rattle.std.proofs.lemmas.Bool.cond_both (eqb id.0 i) k o P (λ _. omega arith) (λ _. omega arith)
      | _ ↦ omega arith
    ] in
    let r = park_bound i (k + 1) (park_after i k o x.entry) xs low in omega arith

last_bound : (notes : List Note) (i : ℕ) → last_park notes i < 1 + length notes
last_bound notes i = park_bound i 1 0 notes (omega arith)

other_park : (notes : List Note) (t : ThreadNo) (m : SessionNo) (place : PlaceNo) (v : Shown) (i : ℕ) → i ≢ v.face.id.0 → last_park (notes ++ parked t m place v ∷ []) i ≡ last_park notes i
other_park notes t m place v i ne = park_more notes (parked t m place v) i ∙ ap (λ b. cond b (1 + length notes) (last_park notes i)) (ne_eqb v.face.id.0 i (λ e. ne (sym e)))

later_push : (notes : List Note) (t : ThreadNo) (m : SessionNo) (place : PlaceNo) (v : Shown) (p k : ℕ) (rests : List Rested) → k < 1 + length notes → AllOther v.face.id.0 rests → AreLater notes k rests → AreLater (notes ++ parked t m place v ∷ []) k (rests ++ record { place = p; shown = v } ∷ [])
unfolding AllOther
later_push notes t m place v p k [] low o l =
    let e = park_more notes (parked t m place v) v.face.id.0 ∙ ap (λ b. cond b (1 + length notes) (last_park notes v.face.id.0)) (eq-eqb v.face.id.0 v.face.id.0 refl) in
    (subst (λ j. k < j) (sym e) low, tt)
later_push notes t m place v p k (x ∷ xs) low o l = (subst (λ j. k < j) (sym (other_park notes t m place v x.shown.face.id.0 o.0)) l.0, later_push notes t m place v p k xs low o.1 l.1)

rising_push : (notes : List Note) (t : ThreadNo) (m : SessionNo) (place : PlaceNo) (v : Shown) (p : ℕ) (rests : List Rested) → AllOther v.face.id.0 rests → AreRising notes rests → AreRising (notes ++ parked t m place v ∷ []) (rests ++ record { place = p; shown = v } ∷ [])
unfolding AllOther
rising_push notes t m place v p [] o l = (tt, tt)
rising_push notes t m place v p (x ∷ xs) o l =
    let k : ℕ = last_park notes x.shown.face.id.0 in
    (subst (λ j. AreLater (notes ++ parked t m place v ∷ []) j (xs ++ record { place = p; shown = v } ∷ [])) (sym (other_park notes t m place v x.shown.face.id.0 o.0)) (later_push notes t m place v p k xs (last_bound notes x.shown.face.id.0) o.1 l.0), rising_push notes t m place v p xs o.1 l.1)

pub park_stands : (a : About) (notes : List Note) (k : Known) (rests : List Rested) (s : Stands a notes k rests) (m : SessionNo) (p : ℕ) (v : Shown)
    → m.0 ≢ 0 → p < 64 → spot_in rests p ≡ Vacant → v.server ≡ a.server → Has notes m v.face.id.0 (v.face.uses - 1) → 1 ≤ v.face.uses → v.face.uses ≤ 65535 → a.rules.mode ≢ Never → IfSome a.rules.max (λ x. length rests < x)
    → Stands a (notes ++ parked a.thread m (place_of a.thread.0 p) v ∷ []) k (rests ++ record { place = p; shown = v } ∷ [])
park_stands a notes k rests s m p v some low vacant server has used most mode room =
    let x : Note = parked a.thread m (place_of a.thread.0 p) v in
    let r : Rested = record { place = p; shown = v } in
    let with = has_with (alone a None notes) m v.face.id.0 (v.face.uses - 1) s.one has in
    let apart : AllOther v.face.id.0 rests = others notes a.thread.0 v.face.id.0 a.thread m [] rests s.one.legal with.0 s.spots_are s.apart s.apart in
    let t = table_more notes x in record {
      one = one_more a notes x s.one refl
          record { held = with.0; session = some; row = refl; inside = low; vacant = s.spots_are p low ∙ vacant; used = (let u = with.1 in omega arith); most = most }
          mode (if_map a.rules.max (λ i. length rests < i) (λ i. (table_after notes).resting + 1 ≤ i) (λ i h. let q = s.resting_is in omega arith) room);
      next_is = ap (λ (T : Table). T.next) t ∙ s.next_is;
      gate_is = ap (λ (T : Table). T.draining) t ∙ s.gate_is;
      count_is = ap (λ (T : Table). T.count) t ∙ s.count_is;
      round_is = ap (λ (T : Table). T.round) t ∙ s.round_is;
      resting_is = let q = s.resting_is in let c : (table_after (notes ++ x ∷ [])).resting ≡ (table_after notes).resting + 1 = ap (λ (T : Table). T.resting) t in omega (arith, length-append rests (r ∷ []));
      spots_are = λ q h. ap (λ (T : Table). spot_at T (place_of a.thread.0 q)) t ∙ (ap (λ (b : Bool). cond b (Holds v.face) (spot_at (table_after notes) (place_of a.thread.0 q))) (same_row a.thread.0 q p) ∙ (ap (λ z. cond (eqb q p) (Holds v.face) z) (s.spots_are q h) ∙ sym (spot_push rests r q vacant)));
      apart = apart_push rests r low vacant s.apart;
      kept = kept_here notes a.server a.thread m (place_of a.thread.0 p) v p rests server (kept_other notes a.server a.thread m (place_of a.thread.0 p) v rests apart s.kept);
      rising = rising_push notes a.thread m (place_of a.thread.0 p) v p rests apart s.rising;
      opened = let b = opens_of-append notes (x ∷ []) in let q = s.opened in omega arith;
      few = s.few;
    }
