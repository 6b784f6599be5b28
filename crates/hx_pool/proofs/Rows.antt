-- A row is parked in by its own thread alone.
use Rattle.std.proofs.Common.{◌≡◌, ◌≢◌, ℕ, Bool, List, [], ◌∷◌, ◌++◌, sym, ap, ◌∙◌, ⊎_elim, Option}
use Rattle.hx_base.specs.declared.numbers.PlaceNo.{PlaceNo}
use Rattle.hx_base.specs.declared.numbers.Face.{Face}
use Rattle.hx_base.specs.declared.what.What.{What}
use Rattle.hx_pool.specs.declared.entries.Entry.{Entry}
use Rattle.hx_pool.specs.declared.entries.Entry.TheVariants.{Open, Park, Take, Free, Close, Look, Up, Down, Count, Gate, SetGate, Round}
use Rattle.hx_pool.specs.declared.entries.Note.{Note}
use Rattle.hx_pool.specs.Table.{Table, Vacant, Holds, Leaves, spot_no, spot_at, with_spot, IsInRow, face_of, Needs, after_entry, after, empty_table}
use Rattle.hx_pool.specs.History.{table_from, table_after, EachStep, MeetsNeeds}
use Rattle.hx_pool.specs.SeatView.{History}
use Rattle.hx_pool.specs.Taking.{NoneRestsIn}
use Rattle.hx_pool.specs.Causes.{place_of}
use Rattle.hx_pool.proofs.Histories.{table_from-append}
use Rattle.hx_pool.proofs.Tables.{spot_cases}

-- the entry is no Park in this row
abbrev pub ParksElsewhere : ℕ → Entry → Type 0
ParksElsewhere row (Park t n id place uses) = t.0 ≢ row
ParksElsewhere row _ = Unit {0}

abbrev pub AllElsewhere : ℕ → List Note → Type 0
AllElsewhere row [] = Unit {0}
AllElsewhere row (x ∷ xs) = ParksElsewhere row x.entry × AllElsewhere row xs

-- what rests in a row after the entry rested there before
rests_before : (T : Table) (w : Option What) (e : Entry) (q : PlaceNo) (f : Face) → IsInRow q → ParksElsewhere q.row e → Needs T e → spot_at (after_entry T w e) q ≡ Holds f → spot_at T q ≡ Holds f
rests_before T w (Open t n id) q f b p need h = h
rests_before T w (Park t n id place uses) q f b p need h = ⊎_elim
    (λ (c : (q ≡ place) × (with_spot T place (Holds (face_of id uses)) (spot_no q) ≡ Holds (face_of id uses))). absurd (p (sym need.row ∙ ap (λ (x : PlaceNo). x.row) (sym c.0))))
    (λ (c : (q ≢ place) × (with_spot T place (Holds (face_of id uses)) (spot_no q) ≡ spot_at T q)). sym c.1 ∙ h)
    (spot_cases T place (Holds (face_of id uses)) q need.inside b)
rests_before T w (Take t n first place id uses) q f b p need h = ⊎_elim
    (λ (c : (q ≡ place) × (with_spot T place (Leaves t) (spot_no q) ≡ Leaves t)). let a = c.1 in cc)
    (λ (c : (q ≢ place) × (with_spot T place (Leaves t) (spot_no q) ≡ spot_at T q)). sym c.1 ∙ h)
    (spot_cases T place (Leaves t) q need.0 b)
rests_before T w (Free t place) q f b p need h = ⊎_elim
    (λ (c : (q ≡ place) × (with_spot T place Vacant (spot_no q) ≡ Vacant)). let a = c.1 in cc)
    (λ (c : (q ≢ place) × (with_spot T place Vacant (spot_no q) ≡ spot_at T q)). sym c.1 ∙ h)
    (spot_cases T place Vacant q need.0 b)
rests_before T w (Close t n id) q f b p need h = h
rests_before T w (Look t place found) q f b p need h = h
rests_before T w (Up t old) q f b p need h = h
rests_before T w (Down t old) q f b p need h = h
rests_before T w (Count t c) q f b p need h = h
rests_before T w (Gate t draining) q f b p need h = h
rests_before T w (SetGate t draining) q f b p need h = h
rests_before T w (Round t k old) q f b p need h = h

pub rested_before : (T : Table) (more : List Note) (q : PlaceNo) (f : Face) → IsInRow q → AllElsewhere q.row more → EachStep MeetsNeeds T more → spot_at (table_from T more) q ≡ Holds f → spot_at T q ≡ Holds f
rested_before T [] q f b p l h = h
rested_before T (x ∷ xs) q f b p l h = rests_before T x.what x.entry q f b p.0 l.0 (rested_before (after T x) xs q f b p.1 l.1 h)

-- where nothing that a request may take rests in a row, nothing comes to rest there until its thread parks
pub none_stays : (h : History) (H more : List Note) (row : ℕ) (first : Bool) → AllElsewhere row more → EachStep MeetsNeeds (table_after H) more
    → NoneRestsIn h H row first → NoneRestsIn h (H ++ more) row first
none_stays h H more row first p l none k f low at =
    none k f low (rested_before (table_after H) more (place_of row k) f low p l (ap (λ (T : Table). spot_at T (place_of row k)) (sym (table_from-append empty_table H more)) ∙ at))
