-- The value of a board, one entry on.
use Rattle.std.proofs.Common.{◌≡◌, ◌≢◌, ℕ, ◌+◌, ◌-◌, ◌<◌, ◌≤◌, Bool, true, false, cond, List, [], ◌∷◌, ◌++◌, length, refl, sym, ap, ◌∙◌, subst, arith, Option, Some, None, IfSome, eq-eqb, ne_eqb, ⊎_elim}
use Rattle.std.proofs.lemmas.Bool.{cases_eq}
use Rattle.std.specs.Prelude.{max}
use Rattle.hx_base.specs.declared.numbers.ThreadNo.{ThreadNo}
use Rattle.hx_base.specs.declared.numbers.SessionNo.{SessionNo}
use Rattle.hx_base.specs.declared.numbers.ServerNo.{ServerNo}
use Rattle.hx_base.specs.declared.numbers.ConnId.{ConnId}
use Rattle.hx_base.specs.declared.numbers.PlaceNo.{PlaceNo}
use Rattle.hx_base.specs.declared.rules.PoolRules.{PoolRules}
use Rattle.hx_pool.specs.declared.board.BoardTerms.{BoardTerms}
use Rattle.hx_pool.specs.declared.entries.Entry.{Entry}
use Rattle.hx_pool.specs.declared.entries.Entry.TheVariants.{Open, Close, Look, Up, Down, Count, Gate, SetGate, Round}
use Rattle.hx_pool.specs.declared.entries.Note.{Note}
use Rattle.hx_pool.specs.Table.{Table, Needs, HeldBy, IsInRow, after, empty_table, found_of, spot_no}
use Rattle.hx_pool.specs.History.{plain, thread_of, own_of, is_by, table_from, table_after, EachStep, MeetsNeeds, what_of, opens_of, is_open}
use Rattle.hx_pool.specs.Rules.{MayFollow, IsBelowMax}
use Rattle.hx_pool.specs.Opening.{open_limit}
use Rattle.hx_pool.specs.Taking.{park_after, park_from, last_park}
use Rattle.hx_pool.proofs.Histories.{table_from-append, EachStep-append, own_of-append, opens_of-append, AllBelow-append}
use Rattle.hx_pool.proofs.Holding.{same_thread}
use Rattle.hx_resting.specs.Rows.{Rested, spot_in, AreKept, AreLater, AreRising, Known, IsRight, Stands}

limit_end : (rules : PoolRules) (T : Table) (H : List Note) → IsBelowMax rules T → EachStep (λ S x. IsBelowMax rules (after S x)) T H → IsBelowMax rules (table_from T H)
limit_end rules T [] b w = b
limit_end rules T (x ∷ xs) b w = limit_end rules (after T x) xs w.0 w.1

limit_start : (o : Option ℕ) → IfSome o (λ m. 0 ≤ m)
limit_start None = tt
limit_start (Some m) = omega arith

pub table_more : (H : List Note) (x : Note) → table_after (H ++ x ∷ []) ≡ after (table_after H) x
table_more H x = table_from-append empty_table H (x ∷ [])

-- an entry that is no Park leaves what stands beside the last Parks
pub kept_more : (H : List Note) (x : Note) (server : ServerNo) (rests : List Rested) → ((i : ℕ) → (after (table_after H) x).whats i ≡ what_of H i) → AreKept H server rests → AreKept (H ++ x ∷ []) server rests
kept_more H x server [] same k = tt
kept_more H x server (r ∷ rs) same k = (k.0, ap (λ (T : Table). T.whats r.shown.face.id.0) (table_more H x) ∙ (same r.shown.face.id.0 ∙ k.1), kept_more H x server rs same k.2)

pub park_from-append : (i k o : ℕ) (xs ys : List Note) → park_from i k o (xs ++ ys) ≡ park_from i (k + length xs) (park_from i k o xs) ys
park_from-append i k o [] ys = ap (λ m. park_from i m o ys) (omega arith)
park_from-append i k o (x ∷ xs) ys = park_from-append i (k + 1) (park_after i k o x.entry) xs ys ∙ ap (λ m. park_from i m (park_from i (k + 1) (park_after i k o x.entry) xs) ys) (omega arith)

pub park_more : (H : List Note) (x : Note) (i : ℕ) → last_park (H ++ x ∷ []) i ≡ park_after i (1 + length H) (last_park H i) x.entry
park_more H x i = park_from-append i 1 0 H (x ∷ [])

later_more : (H : List Note) (x : Note) (k : ℕ) (rests : List Rested) → ((i k o : ℕ) → park_after i k o x.entry ≡ o) → AreLater H k rests → AreLater (H ++ x ∷ []) k rests
later_more H x k [] same l = tt
later_more H x k (r ∷ rs) same l = let e = park_more H x r.shown.face.id.0 ∙ same r.shown.face.id.0 (1 + length H) (last_park H r.shown.face.id.0) in (subst (λ m. k < m) (sym e) l.0, later_more H x k rs same l.1)

pub rising_more : (H : List Note) (x : Note) (rests : List Rested) → ((i k o : ℕ) → park_after i k o x.entry ≡ o) → AreRising H rests → AreRising (H ++ x ∷ []) rests
rising_more H x [] same l = tt
rising_more H x (r ∷ rs) same l =
    let e = park_more H x r.shown.face.id.0 ∙ same r.shown.face.id.0 (1 + length H) (last_park H r.shown.face.id.0) in
    (subst (λ m. AreLater (H ++ x ∷ []) m rs) (sym e) (later_more H x (last_park H r.shown.face.id.0) rs same l.0), rising_more H x rs same l.1)

-- how often a thread opened, one entry on
abbrev bit : Bool → ℕ
bit true = 1
bit false = 0

abbrev both : Bool → Bool → ℕ
both true c = bit c
both false c = 0

one_open : (u : ThreadNo) (x : Note) → opens_of (own_of u (x ∷ [])) ≡ both (is_by u x) (is_open x)
one_open u x =
    let Q : Bool → Type 0 = λ d. opens_of (cond d (x ∷ []) []) ≡ both d (is_open x) in
    let open_is : opens_of (x ∷ []) ≡ bit (is_open x) = (let c = bits (is_open x) in omega (arith, c)) in
    let all : (d : Bool) → Q d = λ d. elim d as Q [ true ↦ open_is | false ↦ refl ] in
    all (is_by u x)
  where
    bits : (c : Bool) → cond c 1 0 ≡ bit c
    bits true = refl
    bits false = refl

own_more : (u : ThreadNo) (H : List Note) (x : Note) → opens_of (own_of u (H ++ x ∷ [])) ≡ opens_of (own_of u H) + both (is_by u x) (is_open x)
own_more u H x =
    let one = one_open u x in
    let a = ap opens_of (own_of-append u H (x ∷ [])) in
    let c = opens_of-append (own_of u H) (own_of u (x ∷ [])) in omega arith

pub opens_same : (u : ThreadNo) (H : List Note) (x : Note) → is_open x ≡ false → opens_of (own_of u (H ++ x ∷ [])) ≡ opens_of (own_of u H)
opens_same u H x shut =
    let more = own_more u H x in
    let P : Bool → Type 0 = λ d. both d false ≡ 0 in
    let all : (d : Bool) → P d = λ d. elim d as P [ true ↦ refl | false ↦ refl ] in
    let none : both (is_by u x) (is_open x) ≡ 0 = ap (both (is_by u x)) shut ∙ all (is_by u x) in omega arith

few_more : (t : ThreadNo) (m : SessionNo) (id : ConnId) (H : List Note) → opens_of (own_of t H) < open_limit t → ((u : ThreadNo) → opens_of (own_of u H) ≤ open_limit u) → (u : ThreadNo) → opens_of (own_of u (H ++ plain (Open t m id) ∷ [])) ≤ open_limit u
few_more t m id H room few u =
    let x : Note = plain (Open t m id) in
    let more = own_more u H x in
    let was = few u in
    ⊎_elim
    (λ (e : t.0 ≡ u.0).
    let same : t ≡ u = same_thread t u (eq-eqb t.0 u.0 e) in
    let one : both (is_by u x) true ≡ 1 = ap (λ (z : Bool). both z true) (eq-eqb t.0 u.0 e) in
    let r : opens_of (own_of u H) < open_limit u = subst (λ (z : ThreadNo). opens_of (own_of z H) < open_limit z) same room in omega arith)
    (λ (ne : t.0 ≢ u.0).
    let none : both (is_by u x) true ≡ 0 = ap (λ (z : Bool). both z true) (ne_eqb t.0 u.0 ne) in omega arith)
    (cases_eq t.0 u.0)

pub right_from : (b : BoardTerms) (t : ThreadNo) → t.0 < b.threads → (H : List Note) → IsRight b H → (x : Note) → thread_of x.entry ≡ t → Needs (table_after H) x.entry → MayFollow b.rules.mode (table_after H) x.entry → IsBelowMax b.rules (after (table_after H) x) → IsRight b (H ++ x ∷ [])
right_from b t low H r x mine need keeps below = record {
  legal = EachStep-append MeetsNeeds empty_table H (x ∷ []) r.legal (need, tt);
  mode = EachStep-append (λ T y. MayFollow b.rules.mode T y.entry) empty_table H (x ∷ []) r.mode (keeps, tt);
  limit = EachStep-append (λ T y. IsBelowMax b.rules (after T y)) empty_table H (x ∷ []) r.limit (below, tt);
  threads = AllBelow-append b.threads H (x ∷ []) r.threads (subst (λ (u : ThreadNo). u.0 < b.threads) (sym mine) low, tt);
}

module _ (b : BoardTerms) (t : ThreadNo) (low : t.0 < b.threads) (H : List Note) (k : Known) (rests : List Rested) (s : Stands b H k rests) where
  pub below_now : IsBelowMax b.rules (table_after H)
  below_now = limit_end b.rules empty_table H (limit_start b.rules.max) s.right.limit

  -- an entry that parks and takes nothing
  mild : (e : Entry) (k' : Known) → thread_of e ≡ t → Needs (table_after H) e → MayFollow b.rules.mode (table_after H) e → ((i : ℕ) → (after (table_after H) (plain e)).whats i ≡ what_of H i) → ((i j o : ℕ) → park_after i j o e ≡ o)
      → (after (table_after H) (plain e)).next ≡ k'.next → (after (table_after H) (plain e)).draining ≡ k'.draining → (after (table_after H) (plain e)).count ≡ k'.count → (after (table_after H) (plain e)).round ≡ k'.round
      → (after (table_after H) (plain e)).resting ≡ (table_after H).resting
      → ((p : ℕ) → (after (table_after H) (plain e)).spots p ≡ (table_after H).spots p) → opens_of H + cond (is_open (plain e)) 1 0 + 1 ≡ k'.next → ((u : ThreadNo) → opens_of (own_of u (H ++ plain e ∷ [])) ≤ open_limit u)
      → Stands b (H ++ plain e ∷ []) k' rests
  mild e k' mine need keeps whats parks next gate count round resting spots opened few = let m = table_more H (plain e) in record {
    right = right_from b t low H s.right (plain e) mine need keeps (subst (λ (j : ℕ). IfSome b.rules.max (λ i. j ≤ i)) (sym resting) below_now);
    next_is = ap (λ (T : Table). T.next) m ∙ next;
    gate_is = ap (λ (T : Table). T.draining) m ∙ gate;
    count_is = ap (λ (T : Table). T.count) m ∙ count;
    round_is = ap (λ (T : Table). T.round) m ∙ round;
    resting_is = ap (λ (T : Table). T.resting) m ∙ (resting ∙ s.resting_is);
    spots_are = λ p. ap (λ (T : Table). T.spots p) m ∙ (spots p ∙ s.spots_are p);
    apart = s.apart;
    kept = kept_more H (plain e) b.server rests whats s.kept;
    rising = rising_more H (plain e) rests parks s.rising;
    opened = let c = opens_of-append H (plain e ∷ []) in omega arith;
    few = few;
  }

  same_few : (e : Entry) → is_open (plain e) ≡ false → (u : ThreadNo) → opens_of (own_of u (H ++ plain e ∷ [])) ≤ open_limit u
  same_few e shut u = let same = opens_same u H (plain e) shut in let was = s.few u in omega arith

  pub open_stands : (m : SessionNo) (id : ConnId) → m.0 ≢ 0 → id.0 ≡ k.next → opens_of (own_of t H) < open_limit t → Stands b (H ++ plain (Open t m id) ∷ []) (record k { next = k.next + 1 }) rests
  open_stands m id some is room = mild (Open t m id) (record k { next = k.next + 1 }) refl (some, is ∙ sym s.next_is) tt (λ i. refl) (λ i j o. refl) (ap (λ (x : ℕ). x + 1) s.next_is) s.gate_is s.count_is s.round_is refl (λ p. refl) (let o = s.opened in omega arith) (few_more t m id H room s.few)

  pub close_stands : (m : SessionNo) (id : ConnId) → (table_after H).conns id.0 ≡ HeldBy t m → Stands b (H ++ plain (Close t m id) ∷ []) k rests
  close_stands m id held = mild (Close t m id) k refl held tt (λ i. refl) (λ i j o. refl) s.next_is s.gate_is s.count_is s.round_is refl (λ p. refl) (let o = s.opened in omega arith) (same_few (Close t m id) refl)

  pub set_gate_stands : (x : Bool) → Stands b (H ++ plain (SetGate t x) ∷ []) (record k { draining = x }) rests
  set_gate_stands x = mild (SetGate t x) (record k { draining = x }) refl tt tt (λ i. refl) (λ i j o. refl) s.next_is refl s.count_is s.round_is refl (λ p. refl) (let o = s.opened in omega arith) (same_few (SetGate t x) refl)

  pub gate_stands : Stands b (H ++ plain (Gate t k.draining) ∷ []) k rests
  gate_stands = mild (Gate t k.draining) k refl (sym s.gate_is) tt (λ i. refl) (λ i j o. refl) s.next_is s.gate_is s.count_is s.round_is refl (λ p. refl) (let o = s.opened in omega arith) (same_few (Gate t k.draining) refl)

  pub up_stands : Stands b (H ++ plain (Up t k.count) ∷ []) (record k { count = k.count + 1 }) rests
  up_stands = mild (Up t k.count) (record k { count = k.count + 1 }) refl (sym s.count_is) tt (λ i. refl) (λ i j o. refl) s.next_is s.gate_is (ap (λ (x : ℕ). x + 1) s.count_is) s.round_is refl (λ p. refl) (let o = s.opened in omega arith) (same_few (Up t k.count) refl)

  pub down_stands : 1 ≤ k.count → Stands b (H ++ plain (Down t k.count) ∷ []) (record k { count = k.count - 1 }) rests
  down_stands some = mild (Down t k.count) (record k { count = k.count - 1 }) refl (sym s.count_is, some) tt (λ i. refl) (λ i j o. refl) s.next_is s.gate_is (ap (λ (x : ℕ). x - 1) s.count_is) s.round_is refl (λ p. refl) (let o = s.opened in omega arith) (same_few (Down t k.count) refl)

  pub count_stands : Stands b (H ++ plain (Count t k.count) ∷ []) k rests
  count_stands = mild (Count t k.count) k refl (sym s.count_is) tt (λ i. refl) (λ i j o. refl) s.next_is s.gate_is s.count_is s.round_is refl (λ p. refl) (let o = s.opened in omega arith) (same_few (Count t k.count) refl)

  pub round_stands : (r : ℕ) → Stands b (H ++ plain (Round t r k.round) ∷ []) (record k { round = max r k.round }) rests
  round_stands r = mild (Round t r k.round) (record k { round = max r k.round }) refl (sym s.round_is) tt (λ i. refl) (λ i j o. refl) s.next_is s.gate_is s.count_is refl refl (λ p. refl) (let o = s.opened in omega arith) (same_few (Round t r k.round) refl)

  pub look_stands : (place : PlaceNo) (p : ℕ) → IsInRow place → spot_no place ≡ p → Stands b (H ++ plain (Look t place (found_of (spot_in rests p))) ∷ []) k rests
  look_stands place p inside is = mild (Look t place (found_of (spot_in rests p))) k refl (inside, sym (ap found_of (ap (table_after H).spots is ∙ s.spots_are p))) tt (λ i. refl) (λ i j o. refl) s.next_is s.gate_is s.count_is s.round_is refl (λ q. refl) (let o = s.opened in omega arith) (same_few (Look t place (found_of (spot_in rests p))) refl)
