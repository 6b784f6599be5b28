-- A take at an own place, or a try that is lost.
use Rattle.std.proofs.Common.{◌≡◌, ℕ, Bool, List, [], ◌∷◌, ◌++◌, refl, sym, ap, ◌∙◌, subst, append_assoc}
use Rattle.hx_base.specs.declared.numbers.ThreadNo.{ThreadNo}
use Rattle.hx_base.specs.declared.numbers.SessionNo.{SessionNo}
use Rattle.hx_base.specs.declared.numbers.PlaceNo.{PlaceNo}
use Rattle.hx_base.specs.declared.numbers.Face.{Face}
use Rattle.hx_base.specs.Shown.{Shown}
use Rattle.hx_pool.specs.declared.entries.Found.{Found}
use Rattle.hx_pool.specs.declared.entries.Entry.TheVariants.{Free, Look, Down}
use Rattle.hx_pool.specs.declared.entries.Note.{Note}
use Rattle.hx_pool.specs.Table.{Table, Spot, Vacant, Holds, spot_at, spot_no, found_of, IsInRow, empty_table}
use Rattle.hx_pool.specs.History.{plain, table_after, MeetsNeeds, IsLegal}
use Rattle.hx_pool.specs.Taking.{taken}
use Rattle.hx_pool.proofs.Histories.{EachStep-second}
use Rattle.hx_pool.proofs.Tables.{put_same}
use Rattle.hx_pool.proofs.Rows.{AllElsewhere}
use Rattle.hx_places.specs.declared.view.View.{View}
use Rattle.hx_places.specs.declared.view.Hand.TheVariants.{Idle}
use Rattle.hx_places.specs.Turns.{Turn, Due, Settled, HasTaken, AtEase}
use Rattle.hx_places.specs.Seats.{PlaceView, turn, IsOwn, Notes, TakesAt, Misses}
use Rattle.hx_rows.specs.declared.stays.Stay.{Stay}
use Rattle.hx_rows.specs.Stays.{Follows}
use Rattle.hx_rows.specs.Steps.{Steps, IsGone, Gets, Loses}
use Rattle.hx_rows.specs.Row.{IsRowOf}
use Rattle.hx_rows.proofs.Resting.{NoParks, elsewhere, rested_then, table_more}
use Rattle.hx_rows.proofs.Following.{follows_more}
use Rattle.hx_rows.proofs.Stepping.{gained, note_steps, steps_both, takes_steps, notes_steps, turn_steps}

-- steps without a Park park nothing in the thread's row, and neither does anyone else
pub steps_apart : (a b : PlaceView) (added : List Note) → (s : Steps a b added) → NoParks added → AllElsewhere a.view.thread.0 s.between
steps_apart a b added s none = elsewhere a.view.thread s.between (subst NoParks (sym (gained a b added s)) none)

pub steps_legal : (a b : PlaceView) (added : List Note) → (s : Steps a b added) → IsLegal (a.view.seen ++ s.between)
steps_legal a b added s = subst IsLegal s.seen s.one.right.legal

-- so what is gone stays gone
pub gone_then : (a b : PlaceView) (added : List Note) (place : PlaceNo) (f : Face) → Steps a b added → NoParks added → place.row ≡ a.view.thread.0 → IsInRow place
    → IsGone a place f → IsGone b place f
gone_then a b added place f s none row low gone = λ h.
    gone (rested_then a.view.seen s.between place f low (subst (λ r. AllElsewhere r s.between) (sym row) (steps_apart a b added s none)) (steps_legal a b added s)
    (ap (λ (H : List Note). spot_at (table_after H) place) (sym s.seen) ∙ h))

-- and the row's stays are as they were
pub row_then : (a b : PlaceView) (added : List Note) (stays : List Stay) → Steps a b added → NoParks added → IsRowOf stays a → IsRowOf stays b
row_then a b added stays s none f =
    subst (λ (z : ThreadNo × List Note). Follows stays z.0.0 z.1) (λ i. (sym s.thread i, sym s.seen i))
    (follows_more a.view.thread.0 a.view.seen s.between (steps_legal a b added s) (steps_apart a b added s none) stays f)

pub taken_due : HasTaken ≡ Settled → ⊥
taken_due e = cc

-- what a take leaves due
pub took_turn : (s0 s1 : PlaceView) (n : SessionNo) (first : Bool) (place : PlaceNo) (f : Face) (v : Shown) → TakesAt s0 s1 n first place f v
    → turn s1 ≡ record { due = HasTaken; call = AtEase }
took_turn s0 s1 n first place f v t = turn_steps s0 s1 _ (turn s0) (takes_steps s0 s1 n first place f v t) refl

-- where a take stands in what the seat has seen
takes_seen : (s0 s1 : PlaceView) (n : SessionNo) (first : Bool) (place : PlaceNo) (f : Face) (v : Shown) → (t : TakesAt s0 s1 n first place f v)
    → s1.view.seen ≡ (s0.view.seen ++ t.takes.between) ++ taken s0.view.thread n first place f ∷ (t.frees.between ++ plain (Free s0.view.thread place) ∷ [])
takes_seen s0 s1 n first place f v t =
    let take : Note = taken s0.view.thread n first place f in
    let free : Note = plain (Free s0.view.thread place) in
    let a = t.takes in
    let c = t.frees in
    ap (λ (x : View). x.seen) c.view ∙ (ap (λ (x : View). (x.seen ++ c.between) ++ free ∷ []) a.view
    ∙ (append_assoc ((s0.view.seen ++ a.between) ++ take ∷ []) c.between (free ∷ []) ∙ append_assoc (s0.view.seen ++ a.between) (take ∷ []) (c.between ++ free ∷ [])))

vacant_holds : (f : Face) → Vacant ≡ Holds f → ⊥
vacant_holds f e = cc

took_gone : (s0 s1 : PlaceView) (n : SessionNo) (first : Bool) (place : PlaceNo) (f g : Face) (v : Shown) → TakesAt s0 s1 n first place f v → IsGone s1 place g
took_gone s0 s1 n first place f g v t h =
    let c = t.frees in
    let H : List Note = t.middle.seen ++ c.between in
    let free : Note = plain (Free s0.view.thread place) in
    let vacant : spot_at (table_after s1.view.seen) place ≡ Vacant = ap (λ (x : View). spot_at (table_after x.seen) place) c.view
    ∙ (ap (λ (T : Table). spot_at T place) (table_more H free) ∙ put_same (table_after H).spots (spot_no place) Vacant (spot_no place) refl) in
    vacant_holds g (sym vacant ∙ h)

pub gets : (s0 s1 s2 : PlaceView) (n : SessionNo) (first : Bool) (place : PlaceNo) (f : Face) (v : Shown) (count : ℕ) → IsOwn s0 place → s0.view.hand ≡ Idle
    → TakesAt s0 s1 n first place f v → Notes s1 s2 (plain (Down s1.view.thread count)) → Gets s0 s2 n first place f v
gets s0 s1 s2 n first place f v count own idle t d =
    let take : Note = taken s0.view.thread n first place f in
    let free : Note = plain (Free s0.view.thread place) in
    let S = takes_steps s0 s1 n first place f v t in
    let D = note_steps s0 s1 s2 (take ∷ free ∷ []) (λ u. plain (Down u count)) S d in
    let E = notes_steps s1 s2 (plain (Down s1.view.thread count)) d in record {
      count = count;
      steps = steps_both s0 s1 s2 (take ∷ free ∷ []) (plain (Down s0.view.thread count) ∷ []) S D;
      between = t.takes.between;
      behind = (t.frees.between ++ free ∷ []) ++ D.between;
      seen = D.seen ∙ (ap (λ l. l ++ D.between) (takes_seen s0 s1 n first place f v t)
          ∙ append_assoc (s0.view.seen ++ t.takes.between) (take ∷ (t.frees.between ++ free ∷ [])) D.between);
      others = t.takes.others;
      there = t.there;
      face = t.face;
      gone = gone_then s1 s2 (plain (Down s1.view.thread count) ∷ []) place f E (tt, tt) (own.0 ∙ ap (λ (u : ThreadNo). u.0) (sym S.thread)) own.1 (took_gone s0 s1 n first place f f v t);
      rest = record {
        turn_is = turn_steps s1 s2 (plain (Down s1.view.thread count) ∷ []) (turn s1) E refl;
        idle = D.hand ∙ (S.hand ∙ idle);
      };
    }

look_other : (found : Found) (s : Spot) (f : Face) → found ≡ found_of s → s ≡ Holds f → found ≡ found_of (Holds f)
look_other found s f is h = is ∙ ap found_of h

pub loses : (s0 s1 : PlaceView) (place : PlaceNo) (f : Face) (found : Found) → s0.view.hand ≡ Idle → (turn s0).due ≡ Settled → Misses s0 s1 place f found → Loses s0 s1 place f
loses s0 s1 place f found idle settled m =
    let x : Note = plain (Look s0.view.thread place found) in
    let S = notes_steps s0 s1 x m.notes in
    let a = m.notes.adds in
    let H : List Note = s0.view.seen ++ a.between in
    let need = (EachStep-second MeetsNeeds empty_table H (x ∷ []) a.right.legal).0.1 in
    let at : spot_at (table_after s1.view.seen) place ≡ spot_at (table_after H) place = ap (λ (v : View). spot_at (table_after v.seen) place) a.view ∙ ap (λ (T : Table). spot_at T place) (table_more H x) in record {
      found = found;
      other = m.other;
      steps = S;
      gone = λ h. m.other (look_other found (spot_at (table_after H) place) f need (sym at ∙ h));
      rest = record {
        turn_is = turn_steps s0 s1 (x ∷ []) (turn s0) S refl ∙ ap (λ (d : Due). let z : Turn = record { due = d; call = AtEase } in z) settled;
        idle = S.hand ∙ idle;
      };
    }
