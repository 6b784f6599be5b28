-- What a whole seat keeps from call to call.
use Rattle.std.proofs.Common.{◌≡◌, ℕ, List, [], ◌∷◌, ◌++◌, ⊎_elim, refl, sym, ap, ◌∙◌, subst, arith, true, false, Bool, Option, Some, None}
use Rattle.std.specs.Prelude.{not, Result, Ok, Err, MatchResult, MatchOption}
use Rattle.std.proofs.lemmas.List.{append-nil}
use Rattle.hx_base.specs.declared.numbers.ThreadNo.{ThreadNo}
use Rattle.hx_base.specs.declared.numbers.SessionNo.{SessionNo}
use Rattle.hx_base.specs.declared.numbers.PlaceNo.{PlaceNo}
use Rattle.hx_base.specs.declared.numbers.Face.{Face}
use Rattle.hx_base.specs.declared.totals.Totals.{Totals}
use Rattle.hx_base.specs.Shown.{Shown}
use Rattle.hx_pool.specs.declared.entries.Entry.{Entry}
use Rattle.hx_pool.specs.declared.entries.Entry.TheVariants.{Up, Down, Gate}
use Rattle.hx_pool.specs.declared.entries.Note.{Note}
use Rattle.hx_pool.specs.declared.refusals.NoPark.{NoPark}
use Rattle.hx_pool.specs.declared.refusals.NoPark.TheVariants.{Never, NoneKept, RowFull, Draining, PoolFull}
use Rattle.hx_pool.specs.History.{plain, marks_of, IsEven}
use Rattle.hx_pool.specs.SeatView.{Makes, Calls, Grows}
use Rattle.hx_pool.specs.Parking.{parked, Settles, Parks, FindsDraining, TakesBack, RefusesPark}
use Rattle.hx_pool.specs.Taking.{taking, TakesOwn, TakesNoneOwn}
use Rattle.hx_pool.specs.Totals.{totals_from}
use Rattle.hx_places.specs.declared.view.View.{View}
use Rattle.hx_places.specs.Turns.{first_turn, turn_from}
use Rattle.hx_places.specs.Seats.{PlaceView, history_of, Notes, Told}
use Rattle.hx_rows.specs.declared.stays.Stay.{Stay}
use Rattle.hx_rows.specs.Steps.{Steps}
use Rattle.hx_rows.proofs.Resting.{NoParks}
use Rattle.hx_rows.proofs.Stepping.{notes_steps, turn_steps, makes_of, calls_of}
use Rattle.hx_rows.proofs.Taking.{row_then}
use Rattle.hx_purge.specs.Drains.{Drains}
use Rattle.hx_purge.specs.Slots.{KeepsSlot}
use Rattle.hx_purge.proofs.Draining.{NoDrain, no_drain-append, looks_no_drain, drains_more}
use Rattle.hx_purge.proofs.Marking.{AreQuiet, keeps_on}

pub not_not : (b : Bool) → not (not b) ≡ b
not_not true = refl
not_not false = refl

-- a call that makes one entry
module _ (s0 s1 : PlaceView) (x : Note) (m : Notes s0 s1 x) (calm : turn_from first_turn (x ∷ []) ≡ first_turn) (even : IsEven (x ∷ [])) (parks : NoParks (x ∷ [])) (quiet : AreQuiet (marks_of (x ∷ []))) where
  step : Steps s0 s1 (x ∷ [])
  step = notes_steps s0 s1 x m

  pub note_calls : (q : Option ℕ) → Calls (history_of s0 q) (history_of s1 q) (x ∷ [])
  note_calls q = calls_of s0 s1 (x ∷ []) q step even

  pub note_grows : (q : Option ℕ) (last : List Entry) → last ≡ marks_of (x ∷ []) → Grows (history_of s0 q) (history_of s1 q) last
  note_grows q last is = record { added = x ∷ []; makes = makes_of s0 s1 (x ∷ []) q q step even; marks = is; few = omega arith }

  pub note_keeps : (stays : List Stay) (p : Option ℕ) (k k' : Totals) → KeepsSlot s0 stays p k → k' ≡ totals_from k (marks_of (x ∷ [])) → KeepsSlot s1 stays p k'
  note_keeps stays p k k' s counted = keeps_on s0 s1 stays stays p k k' (marks_of (x ∷ [])) s (note_grows p (marks_of (x ∷ [])) refl)
      (record { turn_is = turn_steps s0 s1 (x ∷ []) first_turn step s.rest.turn_is ∙ calm; idle = step.hand ∙ s.rest.idle })
      (row_then s0 s1 (x ∷ []) stays step parks s.row) counted quiet

-- a seat that was told of more makes no entry
module _ (first s0 s1 : PlaceView) (m : Told first s0 s1) where
  told_steps : Steps s0 s1 []
  told_steps =
      let h = m.hears in record {
        board = m.board;
        terms = ap (λ (v : View). v.terms) h.view;
        thread = ap (λ (v : View). v.thread) h.view;
        hand = ap (λ (v : View). v.hand) h.view;
        mine = ap (λ (v : View). v.mine) h.view ∙ sym (append-nil s0.view.mine);
        between = h.between;
        seen = ap (λ (v : View). v.seen) h.view;
        was = m.was;
        one = m.one;
      }

  pub told_keeps : (stays : List Stay) (p : Option ℕ) (k : Totals) → KeepsSlot s0 stays p k → KeepsSlot s1 stays p k
  told_keeps stays p k s = keeps_on s0 s1 stays stays p k k [] s (record { added = []; makes = makes_of s0 s1 [] p p told_steps refl; marks = refl; few = omega arith })
      (record { turn_is = turn_steps s0 s1 [] first_turn told_steps s.rest.turn_is; idle = told_steps.hand ∙ s.rest.idle })
      (row_then s0 s1 [] stays told_steps tt s.row) refl tt

-- a call that sets no drain
drains_by : (s0 s1 : PlaceView) (p : Option ℕ) (ys : List Note) → Makes (history_of s0 p) (history_of s1 p) ys → NoDrain ys → Drains s0 p → Drains s1 p
drains_by s0 s1 p ys m n d = drains_more s0 s1 ys p m.about m.mine n d

quiet_tail : (t : ThreadNo) (place : PlaceNo) (f : Face) (tail : List Note) → Settles t place f tail → NoDrain tail
quiet_tail t place f tail s = ⊎_elim (λ e. subst NoDrain (sym e) (tt, tt)) (λ r. subst NoDrain (sym r.2) (tt, (tt, tt))) s

pub parks_drains : (s0 s1 : PlaceView) (n : SessionNo) (place : PlaceNo) (v : Shown) (p : Option ℕ) → Parks (history_of s0 p) (history_of s1 p) n place v → Drains s0 p → Drains s1 p
parks_drains s0 s1 n place v p w d =
    let t = s0.view.thread in
    let more : List Note = plain (Gate t false) ∷ plain (Up t w.count) ∷ parked t n place v ∷ w.tail in
    drains_by s0 s1 p (w.looks ++ more) w.makes.makes (no_drain-append w.looks more (looks_no_drain t w.looks w.looked) (tt, (tt, (tt, quiet_tail t place v.face w.tail w.settles)))) d

pub refused_drains : (s0 s1 : PlaceView) (n : SessionNo) (v : Shown) (why : NoPark) (p : Option ℕ) → RefusesPark (history_of s0 p) (history_of s1 p) n v why → Drains s0 p → Drains s1 p
refused_drains s0 s1 n v Never p r d = drains_by s0 s1 p [] r.1.makes tt d
refused_drains s0 s1 n v NoneKept p r d = drains_by s0 s1 p [] r.2.makes tt d
refused_drains s0 s1 n v RowFull p r d =
    let l = r.2.looks in drains_by s0 s1 p l.looks l.makes (looks_no_drain s0.view.thread l.looks l.looked) d
refused_drains s0 s1 n v Draining p r d =
    let t = s0.view.thread in
    ⊎_elim
    (λ (f : FindsDraining (history_of s0 p) (history_of s1 p)).
    drains_by s0 s1 p (f.looks ++ plain (Gate t true) ∷ []) f.makes.makes (no_drain-append f.looks (plain (Gate t true) ∷ []) (looks_no_drain t f.looks f.looked) (tt, tt)) d)
    (λ (b : TakesBack (history_of s0 p) (history_of s1 p) n v).
    let more : List Note = plain (Gate t false) ∷ plain (Up t b.count) ∷ parked t n b.place v ∷ plain (Gate t true) ∷ taking t n false b.place v.face b.down in
    drains_by s0 s1 p (b.looks ++ more) b.makes.makes (no_drain-append b.looks more (looks_no_drain t b.looks b.looked) (tt, (tt, (tt, (tt, (tt, (tt, (tt, tt)))))))) d)
    r.2
refused_drains s0 s1 n v (PoolFull c) p r d =
    let t = s0.view.thread in
    let f = r.2 in
    let more : List Note = plain (Gate t false) ∷ plain (Up t c) ∷ plain (Down t f.down) ∷ [] in
    drains_by s0 s1 p (f.looks ++ more) f.makes.makes (no_drain-append f.looks more (looks_no_drain t f.looks f.looked) (tt, (tt, (tt, tt)))) d

pub takes_drains : (s0 s1 : PlaceView) (n : SessionNo) (first : Bool) (v : Shown) (p : Option ℕ) → TakesOwn (history_of s0 p) (history_of s1 p) n first v → Drains s0 p → Drains s1 p
takes_drains s0 s1 n first v p w d =
    let t = s0.view.thread in
    let k = w.takes in
    let more : List Note = taking t n first w.place v.face k.count in
    drains_by s0 s1 p (k.looks ++ more) k.makes (no_drain-append k.looks more (looks_no_drain t k.looks k.looked) (tt, (tt, (tt, tt)))) d

pub none_own_drains : (s0 s1 : PlaceView) (first : Bool) (p : Option ℕ) → TakesNoneOwn (history_of s0 p) (history_of s1 p) first → Drains s0 p → Drains s1 p
none_own_drains s0 s1 first p w d =
    let l = w.looks in drains_by s0 s1 p l.looks l.makes (looks_no_drain s0.view.thread l.looks l.looked) d

pub park_drains : {E : Type 0} (why : E → NoPark) (s0 s1 : PlaceView) (n : SessionNo) (v : Shown) (p : Option ℕ) (r : Result PlaceNo E)
    → MatchResult r (λ place. Parks (history_of s0 p) (history_of s1 p) n place v) (λ u. RefusesPark (history_of s0 p) (history_of s1 p) n v (why u)) → Drains s0 p → Drains s1 p
park_drains why s0 s1 n v p (Ok place) m d = parks_drains s0 s1 n place v p m d
park_drains why s0 s1 n v p (Err u) m d = refused_drains s0 s1 n v (why u) p m d

pub take_drains : {V : Type 0} (shows : V → Shown) (s0 s1 : PlaceView) (n : SessionNo) (first : Bool) (p : Option ℕ) (r : Option V)
    → MatchOption r (TakesNoneOwn (history_of s0 p) (history_of s1 p) first) (λ v. TakesOwn (history_of s0 p) (history_of s1 p) n first (shows v)) → Drains s0 p → Drains s1 p
take_drains shows s0 s1 n first p None m d = none_own_drains s0 s1 first p m d
take_drains shows s0 s1 n first p (Some v) m d = takes_drains s0 s1 n first (shows v) p m d
