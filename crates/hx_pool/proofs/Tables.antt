-- What holds of every table that a legal history leads to.
use Rattle.std.proofs.Common.{◌≡◌, ◌≢◌, ℕ, ◌≤◌, cond, List, [], ◌∷◌, refl, sym, ap, ◌∙◌, arith, inl, inr, ◌⊎◌, ⊎_elim, eq-eqb, ne_eqb, Option}
use mathlib.Core.Logic.{dite}
use native.Mathlib.Decide.{ℕ_discrete}
use Rattle.hx_base.specs.declared.numbers.PlaceNo.{PlaceNo}
use Rattle.hx_base.specs.declared.numbers.Face.{Face}
use Rattle.hx_base.specs.declared.what.What.{What}
use Rattle.hx_pool.specs.declared.entries.Entry.{Entry}
use Rattle.hx_pool.specs.declared.entries.Entry.TheVariants.{Open, Park, Take, Free, Close, Look, Up, Down, Count, Gate, SetGate, Round}
use Rattle.hx_pool.specs.declared.entries.Note.{Note}
use Rattle.hx_pool.specs.Table.{Table, Unopened, HeldBy, IdleAt, Closed, Spot, Vacant, Holds, Leaves, put, spot_no, spot_at, with_spot, IsInRow, face_of, Needs, after_entry, after, empty_table}
use Rattle.hx_pool.specs.History.{table_from, table_after, EachStep, MeetsNeeds, IsLegal}
use Rattle.hx_pool.specs.Causes.{place_of}

pub put_same : {A : Type 0} (f : ℕ → A) (k : ℕ) (x : A) (j : ℕ) → j ≡ k → put f k x j ≡ x
put_same f k x j e = ap (λ b. cond b x (f j)) (eq-eqb j k e)

pub put_other : {A : Type 0} (f : ℕ → A) (k : ℕ) (x : A) (j : ℕ) → j ≢ k → put f k x j ≡ f j
put_other f k x j ne = ap (λ b. cond b x (f j)) (ne_eqb j k ne)

-- a place's number names it
pub spot_no_inj : (p q : PlaceNo) → IsInRow p → IsInRow q → spot_no p ≡ spot_no q → p ≡ q
spot_no_inj p q a b e =
    let row : p.row ≡ q.row = omega arith in
    let place : p.place ≡ q.place = omega arith in
    ap (λ (r : ℕ). place_of r p.place) row ∙ ap (λ (k : ℕ). place_of q.row k) place

-- a place is the changed one or another
pub spot_cases : (T : Table) (place : PlaceNo) (s : Spot) (q : PlaceNo) → IsInRow place → IsInRow q
    → ((q ≡ place) × (with_spot T place s (spot_no q) ≡ s)) ⊎ ((q ≢ place) × (with_spot T place s (spot_no q) ≡ spot_at T q))
spot_cases T place s q a b = dite (ℕ_discrete (spot_no q) (spot_no place))
    (λ e. inl (spot_no_inj q place b a e, put_same T.spots (spot_no place) s (spot_no q) e))
    (λ ne. inr ((λ e. ne (ap spot_no e)), put_other T.spots (spot_no place) s (spot_no q) ne))

-- numbers from the next one on are not opened, and each resting connection is known to rest there with these uses
pub record Sound (T : Table) : Type 0 where
  pub fresh : (i : ℕ) → T.next ≤ i → T.conns i ≡ Unopened
  pub rests : (q : PlaceNo) (f : Face) → IsInRow q → spot_at T q ≡ Holds f → (T.conns f.id.0 ≡ IdleAt q) × (T.uses f.id.0 ≡ f.uses)

pub sound_empty : Sound empty_table
sound_empty = record { fresh = λ i h. refl; rests = λ q f b h. cc }

pub sound_entry : (T : Table) (w : Option What) (e : Entry) → Sound T → Needs T e → Sound (after_entry T w e)
sound_entry T w (Open t n id) s need = record {
  fresh = λ i h. let ne : i ≢ id.0 = omega arith in put_other T.conns id.0 (HeldBy t n) i ne ∙ s.fresh i (omega arith);
  rests = λ q f b h.
      let at = s.rests q f b h in
      let ne : f.id.0 ≢ id.0 = λ e. let u = s.fresh f.id.0 (omega arith) in cc in
      (put_other T.conns id.0 (HeldBy t n) f.id.0 ne ∙ at.0, put_other T.uses id.0 0 f.id.0 ne ∙ at.1);
}
sound_entry T w (Park t n id place uses) s need = record {
  fresh = λ i h. let ne : i ≢ id.0 = λ e. let u = s.fresh i h in let m = need.held in let v = ap T.conns e in cc in put_other T.conns id.0 (IdleAt place) i ne ∙ s.fresh i h;
  rests = λ q f b h. ⊎_elim
      (λ (c : (q ≡ place) × (with_spot T place (Holds (face_of id uses)) (spot_no q) ≡ Holds (face_of id uses))).
      let e : f ≡ face_of id uses = cc in
      (put_same T.conns id.0 (IdleAt place) f.id.0 (ap (λ (g : Face). g.id.0) e) ∙ ap IdleAt (sym c.0), put_same T.uses id.0 uses f.id.0 (ap (λ (g : Face). g.id.0) e) ∙ sym (ap (λ (g : Face). g.uses) e)))
      (λ (c : (q ≢ place) × (with_spot T place (Holds (face_of id uses)) (spot_no q) ≡ spot_at T q)).
      let at = s.rests q f b (sym c.1 ∙ h) in
      let ne : f.id.0 ≢ id.0 = λ e. let m = need.held in let v = ap T.conns e in let x = at.0 in cc in
      (put_other T.conns id.0 (IdleAt place) f.id.0 ne ∙ at.0, put_other T.uses id.0 uses f.id.0 ne ∙ at.1))
      (spot_cases T place (Holds (face_of id uses)) q need.inside b);
}
sound_entry T w (Take t n first place id uses) s need =
    let here = s.rests place (face_of id uses) need.0 need.1 in record {
      fresh = λ i h. let ne : i ≢ id.0 = λ e. let u = s.fresh i h in let m = here.0 in let v = ap T.conns e in cc in put_other T.conns id.0 (HeldBy t n) i ne ∙ s.fresh i h;
      rests = λ q f b h. ⊎_elim
          (λ (c : (q ≡ place) × (with_spot T place (Leaves t) (spot_no q) ≡ Leaves t)). let a = c.1 in cc)
          (λ (c : (q ≢ place) × (with_spot T place (Leaves t) (spot_no q) ≡ spot_at T q)).
          let at = s.rests q f b (sym c.1 ∙ h) in
          let ne : f.id.0 ≢ id.0 = λ e. let m = here.0 in let v = ap T.conns e in let x = at.0 in let same : q ≡ place = cc in c.0 same in
          (put_other T.conns id.0 (HeldBy t n) f.id.0 ne ∙ at.0, at.1))
          (spot_cases T place (Leaves t) q need.0 b);
    }
sound_entry T w (Free t place) s need = record {
  fresh = s.fresh;
  rests = λ q f b h. ⊎_elim
      (λ (c : (q ≡ place) × (with_spot T place Vacant (spot_no q) ≡ Vacant)). let a = c.1 in cc)
      (λ (c : (q ≢ place) × (with_spot T place Vacant (spot_no q) ≡ spot_at T q)). s.rests q f b (sym c.1 ∙ h))
      (spot_cases T place Vacant q need.0 b);
}
sound_entry T w (Close t n id) s need = record {
  fresh = λ i h. let ne : i ≢ id.0 = λ e. let u = s.fresh i h in let v = ap T.conns e in cc in put_other T.conns id.0 Closed i ne ∙ s.fresh i h;
  rests = λ q f b h.
      let at = s.rests q f b h in
      let ne : f.id.0 ≢ id.0 = λ e. let v = ap T.conns e in let x = at.0 in cc in
      (put_other T.conns id.0 Closed f.id.0 ne ∙ at.0, at.1);
}
sound_entry T w (Look t place found) s need = s
sound_entry T w (Up t old) s need = record { fresh = s.fresh; rests = s.rests }
sound_entry T w (Down t old) s need = record { fresh = s.fresh; rests = s.rests }
sound_entry T w (Count t c) s need = s
sound_entry T w (Gate t draining) s need = s
sound_entry T w (SetGate t draining) s need = record { fresh = s.fresh; rests = s.rests }
sound_entry T w (Round t k old) s need = record { fresh = s.fresh; rests = s.rests }

pub sound_after : (T : Table) (x : Note) → Sound T → Needs T x.entry → Sound (after T x)
sound_after T x s need = sound_entry T x.what x.entry s need

pub sound_along : (T : Table) (H : List Note) → Sound T → EachStep MeetsNeeds T H → Sound (table_from T H)
sound_along T [] s l = s
sound_along T (x ∷ xs) s l = sound_along (after T x) xs (sound_after T x s l.0) l.1

pub sound_at : (H : List Note) → IsLegal H → Sound (table_after H)
sound_at H l = sound_along empty_table H sound_empty l

-- a closed connection stays closed
pub closed_entry : (T : Table) (w : Option What) (e : Entry) (i : ℕ) → Sound T → Needs T e → T.conns i ≡ Closed → (after_entry T w e).conns i ≡ Closed
closed_entry T w (Open t n id) i s need c = put_other T.conns id.0 (HeldBy t n) i (λ e. let u = s.fresh i (omega arith) in cc) ∙ c
closed_entry T w (Park t n id place uses) i s need c = put_other T.conns id.0 (IdleAt place) i (λ e. let m = need.held in let v = ap T.conns e in cc) ∙ c
closed_entry T w (Take t n first place id uses) i s need c = put_other T.conns id.0 (HeldBy t n) i (λ e. let m = (s.rests place (face_of id uses) need.0 need.1).0 in let v = ap T.conns e in cc) ∙ c
closed_entry T w (Free t place) i s need c = c
closed_entry T w (Close t n id) i s need c = put_other T.conns id.0 Closed i (λ e. let v = ap T.conns e in cc) ∙ c
closed_entry T w (Look t place found) i s need c = c
closed_entry T w (Up t old) i s need c = c
closed_entry T w (Down t old) i s need c = c
closed_entry T w (Count t k) i s need c = c
closed_entry T w (Gate t draining) i s need c = c
closed_entry T w (SetGate t draining) i s need c = c
closed_entry T w (Round t k old) i s need c = c

pub closed_along : (T : Table) (H : List Note) (i : ℕ) → Sound T → EachStep MeetsNeeds T H → T.conns i ≡ Closed → (table_from T H).conns i ≡ Closed
closed_along T [] i s l c = c
closed_along T (x ∷ xs) i s l c = closed_along (after T x) xs i (sound_after T x s l.0) l.1 (closed_entry T x.what x.entry i s l.0 c)
