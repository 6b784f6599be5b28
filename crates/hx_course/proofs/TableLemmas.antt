-- What a call's marks at a seat leave of each connection, where no other thread makes entries there.
use Rattle.std.proofs.Common.{◌≡◌, ◌≢◌, ⊎_elim, ℕ, ◌<◌, Bool, true, false, cond, List, [], ◌∷◌, ◌++◌, refl, sym, ap, ◌∙◌, subst, append_assoc, arith, Option}
use Rattle.std.specs.Prelude.{Contains, ⊤}
use Rattle.std.proofs.lemmas.List.{append_cancel_right}
use Rattle.std.proofs.lemmas.List.Elements.{Contains-append_cases, Contains-push_cases}
use mathlib.Core.Logic.{dite}
use native.Mathlib.Decide.{ℕ_discrete}
use Rattle.hx_base.specs.declared.numbers.ConnId.{ConnId}
use Rattle.hx_base.specs.declared.numbers.PlaceNo.{PlaceNo}
use Rattle.hx_base.specs.declared.numbers.SessionNo.{SessionNo}
use Rattle.hx_base.specs.declared.numbers.ThreadNo.{ThreadNo}
use Rattle.hx_base.specs.declared.what.What.{What}
use Rattle.hx_pool.specs.declared.entries.Entry.{Entry}
use Rattle.hx_pool.specs.declared.entries.Entry.TheVariants.{Open, Park, Take, Free, Close, Look, Up, Down, Count, Gate, SetGate, Round}
use Rattle.hx_pool.specs.declared.entries.Note.{Note}
use Rattle.hx_pool.specs.Table.{Conn, put, Table, Unopened, HeldBy, IdleAt, Closed, Needs, after_entry, after, empty_table}
use Rattle.hx_pool.specs.History.{is_mark, marks_of, own_of, what_of, table_from, table_after, EachStep, MeetsNeeds, IsLegal}
use Rattle.hx_pool.specs.SeatView.{About, History, Makes, AllBelow}
use Rattle.hx_pool.proofs.Counting.{all_own, below-second}
use Rattle.hx_pool.proofs.Histories.{table_from-append, EachStep-first, EachStep-second, marks_of-append}
use Rattle.hx_pool.proofs.Holding.{gained}
use Rattle.hx_pool.proofs.Tables.{put_same, put_other, Sound, sound_after, sound_along, closed_along}

-- ---- lists

pub none_in : {A : Type 0} (x : A) → Contains [] x → ⊥
none_in x c = let low = c.1 in omega arith

pub one_in : {A : Type 0} (x y : A) → Contains (x ∷ []) y → x ≡ y
one_in x y c = ⊎_elim (λ (n : Contains [] y). absurd (none_in y n)) (λ (e : x ≡ y). e) (Contains-push_cases [] x y c)

-- where a list has x, it is cut there
pub cut_at : {A : Type 0} (xs : List A) (x : A) → Contains xs x → (before : List A) × (behind : List A) × (xs ≡ before ++ x ∷ behind)
cut_at [] x c = absurd (none_in x c)
cut_at (y ∷ ys) x c = ⊎_elim
    (λ (h : Contains (y ∷ []) x). ([], ys, ap (λ z. z ∷ ys) (one_in y x h)))
    (λ (h : Contains ys x). let r = cut_at ys x h in (y ∷ r.0, r.1, ap (λ l. y ∷ l) r.2))
    (Contains-append_cases (y ∷ []) ys x c)

-- ---- one call alone

-- at a board of one thread a call's entries stand right behind what was seen
pub seen_alone : (old new : History) (es : List Note) → Makes old new es → old.about.threads ≡ 1 → new.seen ≡ old.seen ++ es
seen_alone old new es m one =
    let t = old.about.thread in
    let same : new.about.threads ≡ 1 = ap (λ (a : About). a.threads) m.about ∙ one in
    let low : AllBelow 1 new.seen = subst (λ k. AllBelow k new.seen) same m.one.threads in
    let between = below-second 1 old.seen m.seen.0 (subst (AllBelow 1) m.seen.1 low) in
    let zero_is : t.0 < 1 = subst (λ k. t.0 < k) one m.was.inside.0 in
    m.seen.1 ∙ ap (λ l. old.seen ++ l) (sym (all_own t m.seen.0 zero_is between) ∙ gained old new es m)

-- so the table is that before with these entries
pub table_alone : (old new : History) (es : List Note) → Makes old new es → old.about.threads ≡ 1 → table_after new.seen ≡ table_from (table_after old.seen) es
table_alone old new es m one = ap table_after (seen_alone old new es m one) ∙ table_from-append empty_table old.seen es

pub legal_alone : (old new : History) (es : List Note) → Makes old new es → old.about.threads ≡ 1 → EachStep MeetsNeeds (table_after old.seen) es
legal_alone old new es m one = EachStep-second MeetsNeeds empty_table old.seen es (subst IsLegal (seen_alone old new es m one) m.one.legal)

-- ---- marks of other connections

-- the mark is of another connection, or of none
abbrev pub Spares : ℕ → Entry → Type 0
Spares i (Open t n id) = id.0 ≡ i → ⊥
Spares i (Park t n id place uses) = id.0 ≡ i → ⊥
Spares i (Take t n first place id uses) = id.0 ≡ i → ⊥
Spares i (Close t n id) = id.0 ≡ i → ⊥
Spares i _ = ⊤

abbrev pub AllSpare : ℕ → List Entry → Type 0
AllSpare i [] = ⊤
AllSpare i (e ∷ es) = Spares i e × AllSpare i es

-- of connection i the same stands in both
pub record IsSameAt (i : ℕ) (T S : Table) : Type 0 where
  pub conn : S.conns i ≡ T.conns i
  pub what : S.whats i ≡ T.whats i
  pub uses : S.uses i ≡ T.uses i

same_here : (i : ℕ) (T : Table) → IsSameAt i T T
same_here i T = record { conn = refl; what = refl; uses = refl }

same_then : (i : ℕ) (T S R : Table) → IsSameAt i T S → IsSameAt i S R → IsSameAt i T R
same_then i T S R a b = record { conn = b.conn ∙ a.conn; what = b.what ∙ a.what; uses = b.uses ∙ a.uses }

spare_rest : (i : ℕ) (b : Bool) (e : Entry) (more : List Entry) → AllSpare i (cond b (e ∷ more) more) → AllSpare i more
spare_rest i true e more a = a.1
spare_rest i false e more a = a

spare_entry : (i : ℕ) (T : Table) (w : Option What) (e : Entry) (more : List Entry) → AllSpare i (cond (is_mark e) (e ∷ more) more) → IsSameAt i T (after_entry T w e) × AllSpare i more
spare_entry i T w (Open t n id) more a = let ne : i ≢ id.0 = λ x. a.0 (sym x) in (record { conn = put_other T.conns id.0 (HeldBy t n) i ne; what = refl; uses = put_other T.uses id.0 0 i ne }, a.1)
spare_entry i T w (Park t n id place uses) more a =
    let ne : i ≢ id.0 = λ x. a.0 (sym x) in
    (record { conn = put_other T.conns id.0 (IdleAt place) i ne; what = put_other T.whats id.0 w i ne; uses = put_other T.uses id.0 uses i ne }, a.1)
spare_entry i T w (Take t n first place id uses) more a = let ne : i ≢ id.0 = λ x. a.0 (sym x) in (record { conn = put_other T.conns id.0 (HeldBy t n) i ne; what = refl; uses = refl }, a.1)
spare_entry i T w (Close t n id) more a = let ne : i ≢ id.0 = λ x. a.0 (sym x) in (record { conn = put_other T.conns id.0 Closed i ne; what = refl; uses = refl }, a.1)
spare_entry i T w (Free t place) more a = (record { conn = refl; what = refl; uses = refl }, a)
spare_entry i T w (Look t place found) more a = (same_here i T, a)
spare_entry i T w (Up t old) more a = (record { conn = refl; what = refl; uses = refl }, a)
spare_entry i T w (Down t old) more a = (record { conn = refl; what = refl; uses = refl }, a)
spare_entry i T w (Count t c) more a = (same_here i T, a)
spare_entry i T w (Gate t draining) more a = (same_here i T, a)
spare_entry i T w (SetGate t draining) more a = (record { conn = refl; what = refl; uses = refl }, a.1)
spare_entry i T w (Round t k old) more a = (record { conn = refl; what = refl; uses = refl }, spare_rest i (is_mark (Round t k old)) (Round t k old) more a)

-- entries whose marks spare a connection leave it
pub spared : (i : ℕ) (T : Table) (es : List Note) → AllSpare i (marks_of es) → IsSameAt i T (table_from T es)
spared i T [] a = same_here i T
spared i T (x ∷ xs) a = let r = spare_entry i T x.what x.entry (marks_of xs) a in same_then i T (after T x) (table_from (after T x) xs) r.0 (spared i (after T x) xs r.1)

-- ---- entries without a Park

abbrev pub IsNoPark : Entry → Type 0
IsNoPark (Park t n id place uses) = ⊥
IsNoPark _ = ⊤

abbrev pub NoParks : List Entry → Type 0
NoParks [] = ⊤
NoParks (e ∷ es) = IsNoPark e × NoParks es

no_park_first : (xs ys : List Entry) → NoParks (xs ++ ys) → NoParks xs
no_park_first [] ys a = tt
no_park_first (x ∷ xs) ys a = (a.0, no_park_first xs ys a.1)

no_park_rest : (b : Bool) (e : Entry) (more : List Entry) → NoParks (cond b (e ∷ more) more) → NoParks more
no_park_rest true e more a = a.1
no_park_rest false e more a = a

no_park_entry : (i : ℕ) (T : Table) (w : Option What) (e : Entry) (more : List Entry) → NoParks (cond (is_mark e) (e ∷ more) more) → ((after_entry T w e).whats i ≡ T.whats i) × NoParks more
no_park_entry i T w (Open t n id) more a = (refl, a.1)
no_park_entry i T w (Park t n id place uses) more a = absurd a.0
no_park_entry i T w (Take t n first place id uses) more a = (refl, a.1)
no_park_entry i T w (Close t n id) more a = (refl, a.1)
no_park_entry i T w (Free t place) more a = (refl, a)
no_park_entry i T w (Look t place found) more a = (refl, a)
no_park_entry i T w (Up t old) more a = (refl, a)
no_park_entry i T w (Down t old) more a = (refl, a)
no_park_entry i T w (Count t c) more a = (refl, a)
no_park_entry i T w (Gate t draining) more a = (refl, a)
no_park_entry i T w (SetGate t draining) more a = (refl, a.1)
no_park_entry i T w (Round t k old) more a = (refl, no_park_rest (is_mark (Round t k old)) (Round t k old) more a)

-- they leave what stands beside each connection
what_along : (i : ℕ) (T : Table) (es : List Note) → NoParks (marks_of es) → (table_from T es).whats i ≡ T.whats i
what_along i T [] a = refl
what_along i T (x ∷ xs) a = let r = no_park_entry i T x.what x.entry (marks_of xs) a in what_along i (after T x) xs r.1 ∙ r.0

-- so where a call without a Park is alone, what stood beside a connection behind some of its entries is what stood there before it
pub what_before : (old new : History) (es H later front : List Note) (i : ℕ) → Makes old new es → old.about.threads ≡ 1 → NoParks (marks_of es) → new.seen ≡ H ++ later
    → es ≡ front ++ own_of new.about.thread later → what_of H i ≡ what_of old.seen i
what_before old new es H later front i m one none seen own =
    let t = new.about.thread in
    let same : new.about.threads ≡ 1 = ap (λ (a : About). a.threads) m.about ∙ one in
    let low : AllBelow 1 (H ++ later) = subst (AllBelow 1) seen (subst (λ k. AllBelow k new.seen) same m.one.threads) in
    let zero_is : t.0 < 1 = subst (λ k. t.0 < k) same m.one.inside.0 in
    let whole : es ≡ front ++ later = own ∙ ap (λ l. front ++ l) (all_own t later zero_is (below-second 1 H later low)) in
    let both : H ++ later ≡ (old.seen ++ front) ++ later = sym seen ∙ (seen_alone old new es m one ∙ (ap (λ l. old.seen ++ l) whole ∙ sym (append_assoc old.seen front later))) in
    let H_is : H ≡ old.seen ++ front = append_cancel_right H (old.seen ++ front) later both in
    let marks : NoParks (marks_of front) = no_park_first (marks_of front) (marks_of later) (subst NoParks (ap marks_of whole ∙ marks_of-append front later) none) in
    ap (λ l. what_of l i) H_is ∙ (ap (λ (S : Table). S.whats i) (table_from-append empty_table old.seen front) ∙ what_along i (table_after old.seen) front marks)

-- ---- the first mark

-- the entries are cut at their first mark
pub first_mark : (es : List Note) (m : Entry) (ms : List Entry) → marks_of es ≡ m ∷ ms
    → (before : List Note) × (x : Note) × (behind : List Note) × (es ≡ before ++ x ∷ behind) × (marks_of before ≡ []) × (x.entry ≡ m) × (marks_of behind ≡ ms)
first_mark [] m ms e = cc
first_mark (y ∷ ys) m ms e =
    let P : Bool → Type 0 = λ b. is_mark y.entry ≡ b → cond b (y.entry ∷ marks_of ys) (marks_of ys) ≡ m ∷ ms
    → (before : List Note) × (x : Note) × (behind : List Note) × (y ∷ ys ≡ before ++ x ∷ behind) × (marks_of before ≡ []) × (x.entry ≡ m) × (marks_of behind ≡ ms) in
    let go : (b : Bool) → P b = λ b. elim b as P [
      | true ↦ λ k q. ([], y, ys, refl, refl, cc, cc)
      | false ↦ λ k q.
          let r = first_mark ys m ms q in
          (y ∷ r.0, r.1, r.2, ap (λ l. y ∷ l) r.3, ap (λ (b : Bool). cond b (y.entry ∷ marks_of r.0) (marks_of r.0)) k ∙ r.4, r.5, r.6)
    ] in
    go (is_mark y.entry) refl e

-- it has what it needs in a table that has of each connection what that before the entries has
pub first_needs : (T : Table) (es : List Note) (m : Entry) (ms : List Entry) → Sound T → EachStep MeetsNeeds T es → marks_of es ≡ m ∷ ms
    → (S : Table) × Sound S × Needs S m × ((i : ℕ) → IsSameAt i T S)
first_needs T es m ms sound legal e =
    let r = first_mark es m ms e in
    let steps : EachStep MeetsNeeds T (r.0 ++ r.1 ∷ r.2) = subst (EachStep MeetsNeeds T) r.3 legal in
    let S = table_from T r.0 in (
      S,
      sound_along T r.0 sound (EachStep-first MeetsNeeds T r.0 (r.1 ∷ r.2) steps),
      subst (Needs S) r.5 (EachStep-second MeetsNeeds T r.0 (r.1 ∷ r.2) steps).0,
      λ i. spared i T r.0 (subst (AllSpare i) (sym r.4) tt),
    )

-- ---- a connection that rests is touched by its Take alone

idle_not_held : (S : Table) (i : ℕ) (place : PlaceNo) (t : ThreadNo) (n : SessionNo) → S.conns i ≡ IdleAt place → S.conns i ≡ HeldBy t n → ⊥
idle_not_held S i place t n a b = let e = sym a ∙ b in cc

pub no_park : (T : Table) (es : List Note) (t : ThreadNo) (n : SessionNo) (id : ConnId) (place at : PlaceNo) (uses : ℕ) (ms : List Entry) → Sound T → EachStep MeetsNeeds T es
    → marks_of es ≡ Park t n id place uses ∷ ms → T.conns id.0 ≡ IdleAt at → ⊥
no_park T es t n id place at uses ms sound legal e idle =
    let r = first_needs T es (Park t n id place uses) ms sound legal e in idle_not_held r.0 id.0 at t n ((r.3 id.0).conn ∙ idle) r.2.held

pub no_close : (T : Table) (es : List Note) (t : ThreadNo) (n : SessionNo) (id : ConnId) (at : PlaceNo) (ms : List Entry) → Sound T → EachStep MeetsNeeds T es
    → marks_of es ≡ Close t n id ∷ ms → T.conns id.0 ≡ IdleAt at → ⊥
no_close T es t n id at ms sound legal e idle =
    let r = first_needs T es (Close t n id) ms sound legal e in idle_not_held r.0 id.0 at t n ((r.3 id.0).conn ∙ idle) r.2

pub no_open : (T : Table) (es : List Note) (t : ThreadNo) (n : SessionNo) (id : ConnId) (at : PlaceNo) (ms : List Entry) → Sound T → EachStep MeetsNeeds T es
    → marks_of es ≡ Open t n id ∷ ms → T.conns id.0 ≡ IdleAt at → ⊥
no_open T es t n id at ms sound legal e idle =
    let r = first_needs T es (Open t n id) ms sound legal e in
    let next = r.2.1 in
    let none : r.0.conns id.0 ≡ Unopened = r.1.fresh id.0 (omega (arith, next)) in
    let is : r.0.conns id.0 ≡ IdleAt at = (r.3 id.0).conn ∙ idle in
    let e : Unopened ≡ IdleAt at = sym none ∙ is in cc

-- ---- a park

no_marks : (xs ys : List Entry) (m : Entry) → xs ++ m ∷ ys ≡ m ∷ [] → (xs ≡ []) × (ys ≡ [])
no_marks [] ys m e = (refl, cc)
no_marks (x ∷ xs) ys m e = let tail : xs ++ m ∷ ys ≡ [] = cc in absurd (cons_end xs ys m tail)
  where
    cons_end : (xs ys : List Entry) (m : Entry) → xs ++ m ∷ ys ≡ [] → ⊥
    cons_end [] ys m e = cc
    cons_end (x ∷ xs) ys m e = cc

-- where the one mark is a Park, the connection rests at its place, and what stands beside the Park stands beside it
pub park_rests : (T : Table) (es : List Note) (t : ThreadNo) (n : SessionNo) (id : ConnId) (place : PlaceNo) (uses : ℕ) (w : Option What) → marks_of es ≡ Park t n id place uses ∷ []
    → Contains es (record { entry = Park t n id place uses; what = w })
    → ((table_from T es).conns id.0 ≡ IdleAt place) × ((table_from T es).whats id.0 ≡ w) × ((table_from T es).uses id.0 ≡ uses)
park_rests T es t n id place uses w marks has =
    let p : Note = record { entry = Park t n id place uses; what = w } in
    let cut = cut_at es p has in
    let all : marks_of cut.0 ++ Park t n id place uses ∷ marks_of cut.1 ≡ Park t n id place uses ∷ [] = sym (marks_of-append cut.0 (p ∷ cut.1)) ∙ (ap marks_of (sym cut.2) ∙ marks) in
    let none = no_marks (marks_of cut.0) (marks_of cut.1) (Park t n id place uses) all in
    let S = table_from T cut.0 in
    let e : table_from T es ≡ table_from (after S p) cut.1 = ap (table_from T) cut.2 ∙ table_from-append T cut.0 (p ∷ cut.1) in
    let stays = spared id.0 (after S p) cut.1 (subst (AllSpare id.0) (sym none.1) tt) in (
      ap (λ (R : Table). R.conns id.0) e ∙ (stays.conn ∙ put_same S.conns id.0 (IdleAt place) id.0 refl),
      ap (λ (R : Table). R.whats id.0) e ∙ (stays.what ∙ put_same S.whats id.0 w id.0 refl),
      ap (λ (R : Table). R.uses id.0) e ∙ (stays.uses ∙ put_same S.uses id.0 uses id.0 refl),
    )

-- ---- what a mark leaves

-- a mark of the entries is made by one of them
pub mark_note : (es : List Note) (m : Entry) → Contains (marks_of es) m → (before : List Note) × (x : Note) × (behind : List Note) × (es ≡ before ++ x ∷ behind) × (x.entry ≡ m)
mark_note [] m c = absurd (none_in m c)
mark_note (y ∷ ys) m c =
    let P : Bool → Type 0 = λ b. Contains (cond b (y.entry ∷ marks_of ys) (marks_of ys)) m → (before : List Note) × (x : Note) × (behind : List Note) × (y ∷ ys ≡ before ++ x ∷ behind) × (x.entry ≡ m) in
    let later : Contains (marks_of ys) m → (before : List Note) × (x : Note) × (behind : List Note) × (y ∷ ys ≡ before ++ x ∷ behind) × (x.entry ≡ m) =
    λ q. let r = mark_note ys m q in (y ∷ r.0, r.1, r.2, ap (λ l. y ∷ l) r.3, r.4) in
    let go : (b : Bool) → P b = λ b. elim b as P [
      | true ↦ λ q. ⊎_elim (λ (h : Contains (y.entry ∷ []) m). ([], y, ys, refl, one_in y.entry m h)) (λ (h : Contains (marks_of ys) m). later h) (Contains-append_cases (y.entry ∷ []) (marks_of ys) m q)
      | false ↦ λ q. later q
    ] in
    go (is_mark y.entry) c

after_close : (S : Table) (x : Note) (t : ThreadNo) (n : SessionNo) (id : ConnId) → x.entry ≡ Close t n id → (after S x).conns id.0 ≡ Closed
after_close S x t n id e = ap (λ (m : Entry). (after_entry S x.what m).conns id.0) e ∙ put_same S.conns id.0 Closed id.0 refl

-- a connection that was closed among them is closed
pub closed_by : (T : Table) (es : List Note) (t : ThreadNo) (n : SessionNo) (id : ConnId) → Sound T → EachStep MeetsNeeds T es → Contains (marks_of es) (Close t n id) → (table_from T es).conns id.0 ≡ Closed
closed_by T es t n id sound legal c =
    let r = mark_note es (Close t n id) c in
    let S = table_from T r.0 in
    let steps : EachStep MeetsNeeds T (r.0 ++ r.1 ∷ r.2) = subst (EachStep MeetsNeeds T) r.3 legal in
    let rest = EachStep-second MeetsNeeds T r.0 (r.1 ∷ r.2) steps in
    let sound_s = sound_along T r.0 sound (EachStep-first MeetsNeeds T r.0 (r.1 ∷ r.2) steps) in
    ap (λ (l : List Note). (table_from T l).conns id.0) r.3
    ∙ (ap (λ (R : Table). R.conns id.0) (table_from-append T r.0 (r.1 ∷ r.2))
    ∙ closed_along (after S r.1) r.2 id.0 (sound_after S r.1 sound_s rest.0) rest.1 (after_close S r.1 t n id r.4))

-- where the one mark is an Open or a Take, its session holds the connection
pub held_one : (T : Table) (es : List Note) (m : Entry) (t : ThreadNo) (n : SessionNo) (id : ConnId) → marks_of es ≡ m ∷ [] → ((S : Table) (w : Option What) → (after_entry S w m).conns id.0 ≡ HeldBy t n)
    → (table_from T es).conns id.0 ≡ HeldBy t n
held_one T es m t n id e holds =
    let r = first_mark es m [] e in
    let S = table_from T r.0 in
    let stays = spared id.0 (after S r.1) r.2 (subst (AllSpare id.0) (sym r.6) tt) in
    ap (λ (l : List Note). (table_from T l).conns id.0) r.3
    ∙ (ap (λ (R : Table). R.conns id.0) (table_from-append T r.0 (r.1 ∷ r.2))
    ∙ (stays.conn ∙ (ap (λ (x : Entry). (after_entry S r.1.what x).conns id.0) r.5 ∙ holds S r.1.what)))

unopened_put : (f : ℕ → Conn) (k i : ℕ) (c : Conn) → (c ≡ Unopened → ⊥) → put f k c i ≡ Unopened → f i ≡ Unopened
unopened_put f k i c other e = dite (ℕ_discrete i k)
    (λ (is : i ≡ k). absurd (other (sym (put_same f k c i is) ∙ e)))
    (λ ne. sym (put_other f k c i ne) ∙ e)

unopened_entry : (T : Table) (w : Option What) (e : Entry) (i : ℕ) → (after_entry T w e).conns i ≡ Unopened → T.conns i ≡ Unopened
unopened_entry T w (Open t n id) i e = unopened_put T.conns id.0 i (HeldBy t n) (λ k. cc) e
unopened_entry T w (Park t n id place uses) i e = unopened_put T.conns id.0 i (IdleAt place) (λ k. cc) e
unopened_entry T w (Take t n first place id uses) i e = unopened_put T.conns id.0 i (HeldBy t n) (λ k. cc) e
unopened_entry T w (Close t n id) i e = unopened_put T.conns id.0 i Closed (λ k. cc) e
unopened_entry T w (Free t place) i e = e
unopened_entry T w (Look t place found) i e = e
unopened_entry T w (Up t old) i e = e
unopened_entry T w (Down t old) i e = e
unopened_entry T w (Count t c) i e = e
unopened_entry T w (Gate t draining) i e = e
unopened_entry T w (SetGate t draining) i e = e
unopened_entry T w (Round t k old) i e = e

-- a connection that isn't opened wasn't before
pub unopened_before : (T : Table) (es : List Note) (i : ℕ) → (table_from T es).conns i ≡ Unopened → T.conns i ≡ Unopened
unopened_before T [] i e = e
unopened_before T (x ∷ xs) i e = unopened_entry T x.what x.entry i (unopened_before (after T x) xs i e)
