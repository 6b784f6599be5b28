-- A place that is covered holds nothing, where nothing was parked in its row meanwhile.
use Rattle.std.proofs.Common.{◌≡◌, ◌≢◌, Bool, true, false, cond, List, [], ◌∷◌, refl, sym, ap, ◌∙◌, subst, ⊎_elim, inl, inr}
use Rattle.hx_base.specs.declared.numbers.ThreadNo.{ThreadNo}
use Rattle.hx_base.specs.declared.numbers.PlaceNo.{PlaceNo}
use Rattle.hx_base.specs.declared.numbers.Face.{Face}
use Rattle.hx_base.specs.declared.what.What.{What}
use Rattle.std.specs.Prelude.{Option}
use Rattle.hx_pool.specs.declared.entries.Found.{Found}
use Rattle.hx_pool.specs.declared.entries.Found.TheVariants.{Resting}
use Rattle.hx_pool.specs.declared.entries.Entry.{Entry}
use Rattle.hx_pool.specs.declared.entries.Entry.TheVariants.{Open, Park, Take, Free, Close, Look, Up, Down, Count, Gate, SetGate, Round}
use Rattle.hx_pool.specs.declared.entries.Note.{Note}
use Rattle.hx_pool.specs.Table.{Table, Holds, Leaves, spot_no, spot_at, IsInRow, found_of, Needs, after, after_entry}
use Rattle.hx_pool.specs.History.{is_by, own_of, table_from, EachStep, MeetsNeeds}
use Rattle.hx_pool.specs.Causes.{Among, IsTakeAt, IsUnavailable, IsCovered}
use Rattle.hx_pool.proofs.Tables.{put_same}
use Rattle.hx_pool.proofs.Rows.{AllElsewhere, rested_before}

-- what is among a thread's own entries is among all
pub among_own : (P : Entry → Type 0) (t : ThreadNo) (xs : List Note) → Among P (own_of t xs) → Among P xs
among_own P t [] a = a
among_own P t (x ∷ xs) a =
    let go : (b : Bool) → Among P (cond b (x ∷ own_of t xs) (own_of t xs)) → Among P (x ∷ xs) = λ b. elim b as (λ b. Among P (cond b (x ∷ own_of t xs) (own_of t xs)) → Among P (x ∷ xs)) [
      | true ↦ λ h. ⊎_elim (λ i. inl i) (λ i. inr (among_own P t xs i)) h
      | false ↦ λ h. inr (among_own P t xs h)
    ] in go (is_by t x) a

-- what a look at the place showed, if this rests there in the end
pub look_showed : (T : Table) (xs : List Note) (q : PlaceNo) (f : Face) (t : ThreadNo) (found : Found) → IsInRow q → AllElsewhere q.row xs → EachStep MeetsNeeds T xs
    → spot_at (table_from T xs) q ≡ Holds f → Among (λ e. e ≡ Look t q found) xs → found ≡ Resting f
look_showed T [] q f t found low p l h a = absurd a
look_showed T (x ∷ xs) q f t found low p l h a = ⊎_elim
    (λ (here : x.entry ≡ Look t q found).
    let need : Needs T (Look t q found) = subst (Needs T) here l.0 in
    need.1 ∙ ap found_of (rested_before T (x ∷ xs) q f low p l h))
    (λ later. look_showed (after T x) xs q f t found low p.1 l.1 h later)
    a

-- nothing rests where something was taken
after_take : (T : Table) (w : Option What) (e : Entry) (q : PlaceNo) (f : Face) → IsTakeAt q e → spot_at (after_entry T w e) q ≡ Holds f → ⊥
after_take T w (Take t n first place id uses) q f is h =
    let same : spot_at (after_entry T w (Take t n first place id uses)) q ≡ Leaves t = put_same T.spots (spot_no place) (Leaves t) (spot_no q) (ap spot_no (sym is)) in cc
after_take T w (Open t n id) q f is h = is
after_take T w (Park t n id place uses) q f is h = is
after_take T w (Free t place) q f is h = is
after_take T w (Close t n id) q f is h = is
after_take T w (Look t place found) q f is h = is
after_take T w (Up t old) q f is h = is
after_take T w (Down t old) q f is h = is
after_take T w (Count t c) q f is h = is
after_take T w (Gate t draining) q f is h = is
after_take T w (SetGate t draining) q f is h = is
after_take T w (Round t k old) q f is h = is

taken_away : (T : Table) (xs : List Note) (q : PlaceNo) (f : Face) → IsInRow q → AllElsewhere q.row xs → EachStep MeetsNeeds T xs → spot_at (table_from T xs) q ≡ Holds f → Among (IsTakeAt q) xs → ⊥
taken_away T [] q f low p l h a = a
taken_away T (x ∷ xs) q f low p l h a = ⊎_elim
    (λ here. after_take T x.what x.entry q f here (rested_before (after T x) xs q f low p.1 l.1 h))
    (λ later. taken_away (after T x) xs q f low p.1 l.1 h later)
    a

-- a covered place holds nothing in the end
pub covered_empty : (T : Table) (xs : List Note) (q : PlaceNo) (f : Face) (t : ThreadNo) → IsInRow q → AllElsewhere q.row xs → EachStep MeetsNeeds T xs → IsCovered t (own_of t xs) q → spot_at (table_from T xs) q ≢ Holds f
covered_empty T xs q f t low p l c h = ⊎_elim
    (λ took. taken_away T xs q f low p l h (among_own (IsTakeAt q) t xs took))
    (λ (u : IsUnavailable t (own_of t xs) q). ⊎_elim
    (λ one. one.1 f refl (look_showed T xs q f t one.0 low p l h (among_own (λ e. e ≡ Look t q one.0) t xs one.2)))
    (λ two.
    let a = look_showed T xs q f t (Resting two.0) low p l h (among_own (λ e. e ≡ Look t q (Resting two.0)) t xs two.3) in
    let b = look_showed T xs q f t (Resting two.1) low p l h (among_own (λ e. e ≡ Look t q (Resting two.1)) t xs two.4) in
    two.2 (cc))
    u)
    c
