-- What rests in a row, while its thread does not park there: it rested there before, and its last Park and what stood beside
-- that are as they were.
use Rattle.std.proofs.Common.{◌≡◌, ◌≢◌, ℕ, ◌+◌, eqb, Bool, true, false, cond, List, [], ◌∷◌, ◌++◌, length, refl, sym, ap, ◌∙◌, arith, ne_eqb, eq-eqb, Option}
use Rattle.hx_base.specs.declared.numbers.ThreadNo.{ThreadNo}
use Rattle.hx_base.specs.declared.numbers.PlaceNo.{PlaceNo}
use Rattle.hx_base.specs.declared.numbers.Face.{Face}
use Rattle.hx_base.specs.declared.what.What.{What}
use Rattle.hx_pool.specs.declared.entries.Entry.{Entry}
use Rattle.hx_pool.specs.declared.entries.Entry.TheVariants.{Open, Park, Take, Free, Close, Look, Up, Down, Count, Gate, SetGate, Round}
use Rattle.hx_pool.specs.declared.entries.Note.{Note}
use Rattle.hx_pool.specs.Table.{Table, Holds, spot_at, IsInRow, Needs, after_entry, after, empty_table}
use Rattle.hx_pool.specs.History.{thread_of, own_of, table_from, table_after, EachStep, MeetsNeeds, IsLegal}
use Rattle.hx_pool.specs.Taking.{park_after, park_from, last_park}
use Rattle.hx_pool.proofs.Histories.{table_from-append, EachStep-first, EachStep-second}
use Rattle.hx_pool.proofs.Tables.{put_other, Sound, sound_at, sound_after}
use Rattle.hx_pool.proofs.Rows.{ParksElsewhere, AllElsewhere, rested_before}

pub table_more : (H : List Note) (x : Note) → table_after (H ++ x ∷ []) ≡ after (table_after H) x
table_more H x = table_from-append empty_table H (x ∷ [])

-- the entry is no Park
abbrev pub IsNoPark : Entry → Type 0
IsNoPark (Park t n id place uses) = ⊥
IsNoPark _ = Unit {0}

-- none of them is a Park
abbrev pub NoParks : List Note → Type 0
NoParks [] = Unit {0}
NoParks (x ∷ xs) = IsNoPark x.entry × NoParks xs

pub no_parks_both : (xs ys : List Note) → NoParks xs → NoParks ys → NoParks (xs ++ ys)
no_parks_both [] ys a b = b
no_parks_both (x ∷ xs) ys a b = (a.0, no_parks_both xs ys a.1 b)

not_by : (t u : ThreadNo) → eqb u.0 t.0 ≡ false → u.0 ≢ t.0
not_by t u e same = let y = eq-eqb u.0 t.0 same in let z = sym y ∙ e in cc

own_elsewhere : (row : ℕ) (e : Entry) → IsNoPark e → ParksElsewhere row e
own_elsewhere row (Park t n id place uses) np = absurd np
own_elsewhere row (Open t n id) np = tt
own_elsewhere row (Take t n first place id uses) np = tt
own_elsewhere row (Free t place) np = tt
own_elsewhere row (Close t n id) np = tt
own_elsewhere row (Look t place found) np = tt
own_elsewhere row (Up t old) np = tt
own_elsewhere row (Down t old) np = tt
own_elsewhere row (Count t c) np = tt
own_elsewhere row (Gate t draining) np = tt
own_elsewhere row (SetGate t draining) np = tt
own_elsewhere row (Round t k old) np = tt

other_elsewhere : (t : ThreadNo) (e : Entry) → eqb (thread_of e).0 t.0 ≡ false → ParksElsewhere t.0 e
other_elsewhere t (Park u n id place uses) by = not_by t u by
other_elsewhere t (Open u n id) by = tt
other_elsewhere t (Take u n first place id uses) by = tt
other_elsewhere t (Free u place) by = tt
other_elsewhere t (Close u n id) by = tt
other_elsewhere t (Look u place found) by = tt
other_elsewhere t (Up u old) by = tt
other_elsewhere t (Down u old) by = tt
other_elsewhere t (Count u c) by = tt
other_elsewhere t (Gate u draining) by = tt
other_elsewhere t (SetGate u draining) by = tt
other_elsewhere t (Round u k old) by = tt

-- where the thread made no Park, none was made in its row
pub elsewhere : (t : ThreadNo) (xs : List Note) → NoParks (own_of t xs) → AllElsewhere t.0 xs
elsewhere t [] np = tt
elsewhere t (x ∷ xs) np =
    let P : Bool → Type 0 = λ b. eqb (thread_of x.entry).0 t.0 ≡ b → NoParks (cond b (x ∷ own_of t xs) (own_of t xs)) → ParksElsewhere t.0 x.entry × NoParks (own_of t xs) in
    let go : (b : Bool) → P b = λ b. elim b as P [
      | true ↦ λ e q. (own_elsewhere t.0 x.entry q.0, q.1)
      | false ↦ λ e q. (other_elsewhere t x.entry e, q)
    ] in
    let both = go (eqb (thread_of x.entry).0 t.0) refl np in
    (both.0, elsewhere t xs both.1)

pub rested_then : (H more : List Note) (q : PlaceNo) (f : Face) → IsInRow q → AllElsewhere q.row more → IsLegal (H ++ more)
    → spot_at (table_after (H ++ more)) q ≡ Holds f → spot_at (table_after H) q ≡ Holds f
rested_then H more q f low apart legal h =
    rested_before (table_after H) more q f low apart (EachStep-second MeetsNeeds empty_table H more legal)
    (ap (λ (T : Table). spot_at T q) (sym (table_from-append empty_table H more)) ∙ h)

entry_keeps : (T : Table) (w : Option What) (e : Entry) (q : PlaceNo) (f : Face) (k o : ℕ) → Sound T → IsInRow q → Needs T e
    → spot_at T q ≡ Holds f → (park_after f.id.0 k o e ≡ o) × ((after_entry T w e).whats f.id.0 ≡ T.whats f.id.0)
entry_keeps T w (Park t n id place uses) q f k o s low need h =
    let ne : f.id.0 ≢ id.0 = λ e. let at = (s.rests q f low h).0 in let held = need.held in let is = ap T.conns e in cc in
    (ap (λ b. cond b k o) (ne_eqb id.0 f.id.0 (λ e. ne (sym e))), put_other T.whats id.0 w f.id.0 ne)
entry_keeps T w (Open t n id) q f k o s low need h = (refl, refl)
entry_keeps T w (Take t n first place id uses) q f k o s low need h = (refl, refl)
entry_keeps T w (Free t place) q f k o s low need h = (refl, refl)
entry_keeps T w (Close t n id) q f k o s low need h = (refl, refl)
entry_keeps T w (Look t place found) q f k o s low need h = (refl, refl)
entry_keeps T w (Up t old) q f k o s low need h = (refl, refl)
entry_keeps T w (Down t old) q f k o s low need h = (refl, refl)
entry_keeps T w (Count t c) q f k o s low need h = (refl, refl)
entry_keeps T w (Gate t draining) q f k o s low need h = (refl, refl)
entry_keeps T w (SetGate t draining) q f k o s low need h = (refl, refl)
entry_keeps T w (Round t r old) q f k o s low need h = (refl, refl)

along_keeps : (T : Table) (more : List Note) (q : PlaceNo) (f : Face) (k o : ℕ) → Sound T → IsInRow q → AllElsewhere q.row more
    → EachStep MeetsNeeds T more → spot_at (table_from T more) q ≡ Holds f
    → (park_from f.id.0 k o more ≡ o) × ((table_from T more).whats f.id.0 ≡ T.whats f.id.0)
along_keeps T [] q f k o s low apart l h = (refl, refl)
along_keeps T (x ∷ xs) q f k o s low apart l h =
    let here : spot_at T q ≡ Holds f = rested_before T (x ∷ xs) q f low apart l h in
    let one = entry_keeps T x.what x.entry q f k o s low l.0 here in
    let more = along_keeps (after T x) xs q f (k + 1) (park_after f.id.0 k o x.entry) (sound_after T x s l.0) low apart.1 l.1 h in
    (more.0 ∙ one.0, more.1 ∙ one.1)

pub park_from-append : (i k o : ℕ) (xs ys : List Note)
    → park_from i k o (xs ++ ys) ≡ park_from i (k + length xs) (park_from i k o xs) ys
park_from-append i k o [] ys = ap (λ m. park_from i m o ys) (omega arith)
park_from-append i k o (x ∷ xs) ys = park_from-append i (k + 1) (park_after i k o x.entry) xs ys
    ∙ ap (λ m. park_from i m (park_from i (k + 1) (park_after i k o x.entry) xs) ys) (omega arith)

-- what rests afterwards was parked last when it was before, with the same beside it
pub keeps_then : (H more : List Note) (q : PlaceNo) (f : Face) → IsInRow q → AllElsewhere q.row more → IsLegal (H ++ more)
    → spot_at (table_after (H ++ more)) q ≡ Holds f
    → (last_park (H ++ more) f.id.0 ≡ last_park H f.id.0) × ((table_after (H ++ more)).whats f.id.0 ≡ (table_after H).whats f.id.0)
keeps_then H more q f low apart legal h =
    let at = table_from-append empty_table H more in
    let k = along_keeps (table_after H) more q f (1 + length H) (last_park H f.id.0)
    (sound_at H (EachStep-first MeetsNeeds empty_table H more legal)) low apart (EachStep-second MeetsNeeds empty_table H more legal)
    (ap (λ (T : Table). spot_at T q) (sym at) ∙ h) in
    (park_from-append f.id.0 1 0 H more ∙ k.0, ap (λ (T : Table). T.whats f.id.0) at ∙ k.1)
