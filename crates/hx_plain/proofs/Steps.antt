-- The seat of one row, one entry on.
use Rattle.std.proofs.Common.{◌≡◌, ◌≢◌, ℕ, ◌+◌, ◌-◌, ◌<◌, ◌≤◌, eqb, Bool, cond, List, [], ◌∷◌, ◌++◌, length, refl, sym, ap, ◌∙◌, subst, arith, Option, Some, None, IfSome, eq-eqb}
use Rattle.hx_base.specs.declared.numbers.ThreadNo.{ThreadNo}
use Rattle.hx_base.specs.declared.numbers.SessionNo.{SessionNo}
use Rattle.hx_base.specs.declared.numbers.ServerNo.{ServerNo}
use Rattle.hx_base.specs.declared.numbers.ConnId.{ConnId}
use Rattle.hx_base.specs.declared.rules.PoolRules.{PoolRules}
use Rattle.hx_pool.specs.declared.entries.Entry.{Entry}
use Rattle.hx_pool.specs.declared.entries.Entry.TheVariants.{Open, Close, Look, Up, Down, Count, Gate, SetGate, Round}
use Rattle.hx_pool.specs.declared.entries.Note.{Note}
use Rattle.hx_pool.specs.Table.{Table, Needs, after, empty_table, found_of, spot_at}
use Rattle.hx_pool.specs.History.{plain, thread_of, own_of, table_from, table_after, EachStep, MeetsNeeds, what_of, opens_of, is_open, IsEven}
use Rattle.hx_pool.specs.Rules.{MayFollow, IsBelowMax}
use Rattle.hx_pool.specs.Held.{Has}
use Rattle.hx_pool.specs.SeatView.{About, IsOneHistory, Makes}
use Rattle.hx_pool.specs.Causes.{place_of}
use Rattle.hx_pool.specs.Taking.{park_after, park_from, last_park}
use Rattle.hx_plain.specs.Row.{Rested, spot_in, look_at}
use Rattle.hx_plain.specs.Plain.{AreKept, AreLater, AreRising, alone, Known, Stands}
use Rattle.hx_pool.proofs.Histories.{table_from-append, EachStep-append, own_of-append, opens_of-append, AllBelow-append}
use Rattle.hx_pool.proofs.Holding.{has_with}

limit_end : (rules : PoolRules) (T : Table) (H : List Note) → IsBelowMax rules T → EachStep (λ S x. IsBelowMax rules (after S x)) T H → IsBelowMax rules (table_from T H)
limit_end rules T [] b w = b
limit_end rules T (x ∷ xs) b w = limit_end rules (after T x) xs w.0 w.1

limit_start : (o : Option ℕ) → IfSome o (λ m. 0 ≤ m)
limit_start None = tt
limit_start (Some m) = omega arith

pub table_more : (notes : List Note) (x : Note) → table_after (notes ++ x ∷ []) ≡ after (table_after notes) x
table_more notes x = table_from-append empty_table notes (x ∷ [])

own_one : (t : ThreadNo) (x : Note) → thread_of x.entry ≡ t → own_of t (x ∷ []) ≡ x ∷ []
own_one t x e = ap (λ (b : Bool). cond b (x ∷ []) []) (ap (λ (u : ThreadNo). eqb u.0 t.0) e ∙ eq-eqb t.0 t.0 refl)

pub one_more : (a : About) (notes : List Note) (x : Note) → IsOneHistory a notes notes → thread_of x.entry ≡ a.thread
    → Needs (table_after notes) x.entry → MayFollow a.rules.mode (table_after notes) x.entry → IsBelowMax a.rules (after (table_after notes) x) → IsOneHistory a (notes ++ x ∷ []) (notes ++ x ∷ [])
one_more a notes x one mine need keeps below = record {
  legal = EachStep-append MeetsNeeds empty_table notes (x ∷ []) one.legal (need, tt);
  mode = EachStep-append (λ T y. MayFollow a.rules.mode T y.entry) empty_table notes (x ∷ []) one.mode (keeps, tt);
  limit = EachStep-append (λ T y. IsBelowMax a.rules (after T y)) empty_table notes (x ∷ []) one.limit (below, tt);
  own_part = own_of-append a.thread notes (x ∷ []) ∙ (ap (λ l. l ++ own_of a.thread (x ∷ [])) one.own_part ∙ ap (λ l. notes ++ l) (own_one a.thread x mine));
  threads = AllBelow-append a.threads notes (x ∷ []) one.threads (subst (λ (t : ThreadNo). t.0 < a.threads) (sym mine) one.inside.0, tt);
  inside = one.inside;
}

pub made : (a : About) (p q : Option ℕ) (xs ys : List Note) → IsOneHistory a xs xs → IsOneHistory a (xs ++ ys) (xs ++ ys) → IsEven ys → Makes (alone a p xs) (alone a q (xs ++ ys)) ys
made a p q xs ys was one even = record { about = refl; mine = refl; seen = (ys, refl); was = was; one = one; even = even }

-- an entry that is no Park leaves what stands beside the last Parks
pub kept_more : (notes : List Note) (x : Note) (server : ServerNo) (rests : List Rested) → ((i : ℕ) → (after (table_after notes) x).whats i ≡ what_of notes i) → AreKept notes server rests → AreKept (notes ++ x ∷ []) server rests
kept_more notes x server [] same k = tt
kept_more notes x server (r ∷ rs) same k = (k.0, ap (λ (T : Table). T.whats r.shown.face.id.0) (table_more notes x) ∙ (same r.shown.face.id.0 ∙ k.1), kept_more notes x server rs same k.2)

pub park_from-append : (i k o : ℕ) (xs ys : List Note) → park_from i k o (xs ++ ys) ≡ park_from i (k + length xs) (park_from i k o xs) ys
park_from-append i k o [] ys = ap (λ m. park_from i m o ys) (omega arith)
park_from-append i k o (x ∷ xs) ys = park_from-append i (k + 1) (park_after i k o x.entry) xs ys ∙ ap (λ m. park_from i m (park_from i (k + 1) (park_after i k o x.entry) xs) ys) (omega arith)

pub park_more : (notes : List Note) (x : Note) (i : ℕ) → last_park (notes ++ x ∷ []) i ≡ park_after i (1 + length notes) (last_park notes i) x.entry
park_more notes x i = park_from-append i 1 0 notes (x ∷ [])

later_more : (notes : List Note) (x : Note) (k : ℕ) (rests : List Rested) → ((i k o : ℕ) → park_after i k o x.entry ≡ o) → AreLater notes k rests → AreLater (notes ++ x ∷ []) k rests
later_more notes x k [] same l = tt
later_more notes x k (r ∷ rs) same l = let e = park_more notes x r.shown.face.id.0 ∙ same r.shown.face.id.0 (1 + length notes) (last_park notes r.shown.face.id.0) in (subst (λ m. k < m) (sym e) l.0, later_more notes x k rs same l.1)

pub rising_more : (notes : List Note) (x : Note) (rests : List Rested) → ((i k o : ℕ) → park_after i k o x.entry ≡ o) → AreRising notes rests → AreRising (notes ++ x ∷ []) rests
rising_more notes x [] same l = tt
rising_more notes x (r ∷ rs) same l =
    let e = park_more notes x r.shown.face.id.0 ∙ same r.shown.face.id.0 (1 + length notes) (last_park notes r.shown.face.id.0) in
    (subst (λ m. AreLater (notes ++ x ∷ []) m rs) (sym e) (later_more notes x (last_park notes r.shown.face.id.0) rs same l.0), rising_more notes x rs same l.1)

module _ (a : About) (notes : List Note) (k : Known) (rests : List Rested) (s : Stands a notes k rests) where
  pub below_now : IsBelowMax a.rules (table_after notes)
  below_now = limit_end a.rules empty_table notes (limit_start a.rules.max) s.one.limit

  -- an entry that parks and takes nothing
  mild : (e : Entry) (k' : Known) → thread_of e ≡ a.thread → Needs (table_after notes) e → MayFollow a.rules.mode (table_after notes) e → ((i : ℕ) → (after (table_after notes) (plain e)).whats i ≡ what_of notes i) → ((i j o : ℕ) → park_after i j o e ≡ o)
      → (after (table_after notes) (plain e)).next ≡ k'.next → (after (table_after notes) (plain e)).draining ≡ k'.draining → (after (table_after notes) (plain e)).count ≡ k'.count → (after (table_after notes) (plain e)).round ≡ k'.round
      → (after (table_after notes) (plain e)).resting ≡ (table_after notes).resting
      → ((p : ℕ) → spot_at (after (table_after notes) (plain e)) (place_of a.thread.0 p) ≡ spot_at (table_after notes) (place_of a.thread.0 p)) → opens_of notes + cond (is_open (plain e)) 1 0 + 1 ≡ k'.next → k'.next ≤ 68719476737
      → Stands a (notes ++ plain e ∷ []) k' rests
  mild e k' t need keeps whats parks next gate count round resting spots opened low = let m = table_more notes (plain e) in record {
    one = one_more a notes (plain e) s.one t need keeps (subst (λ (j : ℕ). IfSome a.rules.max (λ i. j ≤ i)) (sym resting) below_now);
    next_is = ap (λ (T : Table). T.next) m ∙ next;
    gate_is = ap (λ (T : Table). T.draining) m ∙ gate;
    count_is = ap (λ (T : Table). T.count) m ∙ count;
    round_is = ap (λ (T : Table). T.round) m ∙ round;
    resting_is = ap (λ (T : Table). T.resting) m ∙ (resting ∙ s.resting_is);
    spots_are = λ p h. ap (λ (T : Table). spot_at T (place_of a.thread.0 p)) m ∙ (spots p ∙ s.spots_are p h);
    apart = s.apart;
    kept = kept_more notes (plain e) a.server rests whats s.kept;
    rising = rising_more notes (plain e) rests parks s.rising;
    opened = let b = opens_of-append notes (plain e ∷ []) in omega arith;
    few = low;
  }

  pub open_stands : (m : SessionNo) (id : ConnId) → m.0 ≢ 0 → id.0 ≡ k.next → k.next ≤ 68719476736 → Stands a (notes ++ plain (Open a.thread m id) ∷ []) (record k { next = k.next + 1 }) rests
  open_stands m id some is low = mild (Open a.thread m id) (record k { next = k.next + 1 }) refl (some, is ∙ sym s.next_is) tt (λ i. refl) (λ i j o. refl) (ap (λ (x : ℕ). x + 1) s.next_is) s.gate_is s.count_is s.round_is refl (λ p. refl) (let o = s.opened in omega arith) (omega arith)

  pub close_stands : (m : SessionNo) (id : ConnId) (uses : ℕ) → Has notes m id.0 uses → Stands a (notes ++ plain (Close a.thread m id) ∷ []) k rests
  close_stands m id uses has = mild (Close a.thread m id) k refl ((has_with (alone a None notes) m id.0 uses s.one has).0) tt (λ i. refl) (λ i j o. refl) s.next_is s.gate_is s.count_is s.round_is refl (λ p. refl) (let o = s.opened in omega arith) s.few

  pub set_gate_stands : (x : Bool) → Stands a (notes ++ plain (SetGate a.thread x) ∷ []) (record k { draining = x }) rests
  set_gate_stands x = mild (SetGate a.thread x) (record k { draining = x }) refl tt tt (λ i. refl) (λ i j o. refl) s.next_is refl s.count_is s.round_is refl (λ p. refl) (let o = s.opened in omega arith) s.few

  pub gate_stands : Stands a (notes ++ plain (Gate a.thread k.draining) ∷ []) k rests
  gate_stands = mild (Gate a.thread k.draining) k refl (sym s.gate_is) tt (λ i. refl) (λ i j o. refl) s.next_is s.gate_is s.count_is s.round_is refl (λ p. refl) (let o = s.opened in omega arith) s.few

  pub up_stands : Stands a (notes ++ plain (Up a.thread k.count) ∷ []) (record k { count = k.count + 1 }) rests
  up_stands = mild (Up a.thread k.count) (record k { count = k.count + 1 }) refl (sym s.count_is) tt (λ i. refl) (λ i j o. refl) s.next_is s.gate_is (ap (λ (x : ℕ). x + 1) s.count_is) s.round_is refl (λ p. refl) (let o = s.opened in omega arith) s.few

  pub down_stands : 1 ≤ k.count → Stands a (notes ++ plain (Down a.thread k.count) ∷ []) (record k { count = k.count - 1 }) rests
  down_stands some = mild (Down a.thread k.count) (record k { count = k.count - 1 }) refl (sym s.count_is, some) tt (λ i. refl) (λ i j o. refl) s.next_is s.gate_is (ap (λ (x : ℕ). x - 1) s.count_is) s.round_is refl (λ p. refl) (let o = s.opened in omega arith) s.few

  pub count_stands : Stands a (notes ++ plain (Count a.thread k.count) ∷ []) k rests
  count_stands = mild (Count a.thread k.count) k refl (sym s.count_is) tt (λ i. refl) (λ i j o. refl) s.next_is s.gate_is s.count_is s.round_is refl (λ p. refl) (let o = s.opened in omega arith) s.few

  pub round_stands : (r : ℕ) → Stands a (notes ++ plain (Round a.thread r k.round) ∷ []) (record k { round = Rattle.std.specs.Prelude.max r k.round }) rests
  round_stands r = mild (Round a.thread r k.round) (record k { round = Rattle.std.specs.Prelude.max r k.round }) refl (sym s.round_is) tt (λ i. refl) (λ i j o. refl) s.next_is s.gate_is s.count_is refl refl (λ p. refl) (let o = s.opened in omega arith) s.few

  pub look_stands : (p : ℕ) → p < 64 → Stands a (notes ++ look_at a.thread rests p ∷ []) k rests
  look_stands p h = mild (Look a.thread (place_of a.thread.0 p) (found_of (spot_in rests p))) k refl (h, ap found_of (sym (s.spots_are p h))) tt (λ i. refl) (λ i j o. refl) s.next_is s.gate_is s.count_is s.round_is refl (λ q. refl) (let o = s.opened in omega arith) s.few

  -- the count as the code read it
  pub count_at : (count : ℕ) → count ≡ k.count → Stands a (notes ++ plain (Count a.thread count) ∷ []) k rests
  count_at count e = subst (λ (c : ℕ). Stands a (notes ++ plain (Count a.thread c) ∷ []) k rests) (sym e) count_stands
