-- What a seat has once it took from a place.
use Rattle.std.proofs.Common.{◌≡◌, ◌≢◌, ℕ, Bool, cond, List, [], ◌∷◌, refl, sym, ap, ◌∙◌, subst, eq-eqb}
use Rattle.hx_base.specs.declared.numbers.SessionNo.{SessionNo}
use Rattle.hx_base.specs.declared.numbers.PlaceNo.{PlaceNo}
use Rattle.hx_base.specs.declared.numbers.Face.{Face}
use Rattle.hx_base.specs.Shown.{Shown}
use Rattle.hx_pool.specs.declared.entries.Entry.TheVariants.{Free, Down}
use Rattle.hx_pool.specs.declared.entries.Note.{Note}
use Rattle.hx_pool.specs.History.{plain}
use Rattle.hx_pool.specs.Held.{Has, hold, hold_of}
use Rattle.hx_pool.specs.Taking.{taken}
use Rattle.hx_places.specs.declared.view.View.{View}
use Rattle.hx_places.specs.declared.view.Hand.TheVariants.{Idle}
use Rattle.hx_places.specs.Turns.{Turn, Due, Call, AtEase, Settled, WentUp, HasTaken, turn_of}
use Rattle.hx_places.specs.Seats.{PlaceView, Notes, TakesAt, turn}
use Rattle.hx_places_load.specs.Resting.{IsOurs, IsAtRest, HasFace}
use Rattle.hx_places_load.proofs.Noting.{turn_more, hold_more, rests_from, goes_more}

-- the seat took, and has not counted down yet
pub record HasJustTaken (s : PlaceView) (f : Face) : Type 0 where
  pub turn_is : turn s ≡ record { due = HasTaken; call = AtEase }
  pub idle : s.view.hand ≡ Idle
  pub ours : IsOurs s.view.terms
  pub has : HasFace s f

pub takes : (old new : PlaceView) (n : SessionNo) (first : Bool) (place : PlaceNo) (f : Face) (v : Shown)
    → TakesAt old new n first place f v → n ≡ record { 0 = 1 } → old.view.hand ≡ Idle → IsOurs old.view.terms
    → HasJustTaken new v.face
takes old new n first place f v t one idle ours =
    let take : Note = taken old.view.thread n first place f in
    let free : Note = plain (Free old.view.thread place) in
    let hand = old.view.hand in
    let held : hold_of new.view.mine f.id.0 ≡ hold n f.uses =
    hold_more hand t.middle new.view free f.id.0 t.frees
    ∙ (hold_more hand old.view t.middle take f.id.0 t.takes
    ∙ ap (λ (c : Bool). cond c (hold n f.uses) (hold_of old.view.mine f.id.0)) (eq-eqb f.id.0 f.id.0 refl)) in
    let fine = t.there.face in record {
      turn_is = turn_more hand t.middle new.view free (record { due = HasTaken; call = AtEase }) t.frees
          (turn_more hand old.view t.middle take (turn old) t.takes refl);
      idle = ap (λ (x : View). x.hand) t.frees.view ∙ idle;
      ours = subst IsOurs (sym (ap (λ (x : View). x.terms) t.frees.view ∙ ap (λ (x : View). x.terms) t.takes.view)) ours;
      has = (
        subst (λ (g : Face). Has new.view.mine (record { 0 = 1 }) g.id.0 g.uses) (sym t.face)
            (subst (λ (m : SessionNo). Has new.view.mine m f.id.0 f.uses) one held),
        fine.0,
        fine.1,
      );
    }

-- after a take the count is not settled
pub taken_due : (s : PlaceView) (f : Face) → HasJustTaken s f → (turn s).due ≢ Settled
taken_due s f t e = differ (sym (ap (λ (z : Turn). z.due) t.turn_is) ∙ e)
  where
    differ : HasTaken ≡ Settled → ⊥
    differ e = cc

-- after an Up the count is not settled
pub up_due : (s : PlaceView) (before : ℕ) → turn s ≡ record { due = WentUp before; call = AtEase }
    → (turn s).due ≢ Settled
up_due s before is e = differ before (sym (ap (λ (z : Turn). z.due) is) ∙ e)
  where
    differ : (before : ℕ) → WentUp before ≡ Settled → ⊥
    differ before e = cc

-- it counts down
pub down_rests : (old new : PlaceView) (f : Face) (count : ℕ) → HasJustTaken old f
    → Notes old new (plain (Down old.view.thread count)) → IsAtRest new × HasFace new f
down_rests old new f count t n =
    let down : Note = plain (Down old.view.thread count) in
    let goes = goes_more old new down n (λ i o. refl) in (
      rests_from old new down (record { due = HasTaken; call = AtEase }) n t.turn_is t.idle t.ours refl,
      (goes.holds f.id.0 ∙ t.has.0, t.has.1, t.has.2),
    )
