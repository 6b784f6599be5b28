-- The steps of a park: looks for a vacant place, the drain state, the count, and the Park with what follows it.
use Rattle.std.proofs.Common.{◌≡◌, ◌≢◌, inl, inr, ⊎_elim, ℕ, ◌+◌, ◌<◌, ◌≤◌, Bool, true, false, List, [], ◌∷◌, ◌++◌, refl, sym, ap, ◌∙◌, subst, arith, append_assoc, Some, IfSome}
use Rattle.std.proofs.lemmas.List.{length-append}
use Rattle.std.proofs.lemmas.Bool.{cases_eq}
use Rattle.std.specs.Prelude.{Option}
use Rattle.hx_base.specs.declared.numbers.ThreadNo.{ThreadNo}
use Rattle.hx_base.specs.declared.numbers.SessionNo.{SessionNo}
use Rattle.hx_base.specs.declared.numbers.PlaceNo.{PlaceNo}
use Rattle.hx_base.specs.declared.numbers.Face.{Face}
use Rattle.hx_base.specs.declared.rules.Mode.{Mode}
use Rattle.hx_base.specs.declared.rules.Mode.TheVariants as mode
use Rattle.hx_base.specs.declared.what.What.{What}
use Rattle.hx_base.specs.PlaceWords.{IsFace}
use Rattle.hx_base.specs.Shown.{Shown}
use Rattle.hx_pool.specs.declared.board.BoardTerms.{BoardTerms}
use Rattle.hx_pool.specs.declared.entries.Found.{Found}
use Rattle.hx_pool.specs.declared.entries.Found.TheVariants.{Empty, Resting}
use Rattle.hx_pool.specs.declared.entries.Entry.{Entry}
use Rattle.hx_pool.specs.declared.entries.Entry.TheVariants.{Look, Up, Down, Gate}
use Rattle.hx_pool.specs.declared.entries.Note.{Note}
use Rattle.hx_pool.specs.Table.{Table, Holds, spot_at, spot_no}
use Rattle.hx_pool.specs.History.{plain, own_of, table_after, what_of, IsLegal}
use Rattle.hx_pool.specs.Rules.{allows}
use Rattle.hx_pool.specs.Causes.{Among, AllLooks, ShowsTaken, place_of}
use Rattle.hx_pool.specs.Parking.{parked}
use Rattle.hx_pool.specs.Taking.{taken, taking}
use Rattle.hx_pool.proofs.Histories.{own_of-append, EachStep-first}
use Rattle.hx_pool.specs.History.{MeetsNeeds}
use Rattle.hx_pool.specs.Table.{empty_table}
use Rattle.hx_pool.proofs.Tables.{put_same}
use Rattle.hx_pool.proofs.Rows.{AllElsewhere}
use Rattle.hx_places.specs.declared.view.View.{View}
use Rattle.hx_places.specs.Turns.{Turn, WentUp, Settled, AtEase, HasParked, first_turn, gate_after}
use Rattle.hx_places.specs.Known.{SeenVacant}
use Rattle.hx_places.specs.Asks.{CanTake, IsInTurn, MayTry}
use Rattle.hx_places.specs.Seats.{PlaceView, turn, claiming_at, Notes, Publishes}
use Rattle.hx_places.proofs.Laws.{holds_face}
use Rattle.hx_rows.specs.Steps.{Steps, IsAtRest, Scans, Finds, Admits, IsShut, IsOverMax, MayRest, Gets, Loses, ParksAt, StaysAt, IsTakenAt, ComesBack, IsGone}
use Rattle.hx_rows.proofs.Resting.{NoParks, elsewhere, keeps_then, table_more}
use Rattle.hx_rows.proofs.Stepping.{gained, note_steps, note_then, notes_steps, steps_both, publish_steps, turn_steps, known_steps, looked_vacant, admits_behind, looks_rest}

all_push : (t : ThreadNo) (xs : List Note) (place : PlaceNo) (found : Found) → AllLooks t xs → AllLooks t (xs ++ plain (Look t place found) ∷ [])
all_push t [] place found l = ((place, found, refl), tt)
all_push t (x ∷ xs) place found l = (l.0, all_push t xs place found l.1)

among_first : (P : Entry → Type 0) (xs ys : List Note) → Among P xs → Among P (xs ++ ys)
among_first P [] ys h = absurd h
among_first P (x ∷ xs) ys (inl h) = inl h
among_first P (x ∷ xs) ys (inr h) = inr (among_first P xs ys h)

among_last : (P : Entry → Type 0) (xs : List Note) (x : Note) → P x.entry → Among P (xs ++ x ∷ [])
among_last P [] x h = inl h
among_last P (y ∷ ys) x h = inr (among_last P ys x h)

taken_first : (t : ThreadNo) (xs ys : List Note) (place : PlaceNo) → ShowsTaken t xs place → ShowsTaken t (xs ++ ys) place
taken_first t xs ys place h = (h.0, h.1, among_first (λ e. e ≡ Look t place h.0) xs ys h.2)

-- one more place that is taken
pub scans_more : (s0 s1 s2 : PlaceView) (k row : ℕ) (found : Found) → Scans s0 s1 k → row ≡ s0.view.thread.0 → Notes s1 s2 (plain (Look s1.view.thread (place_of row k) found)) → found ≢ Empty
    → Scans s0 s2 (k + 1)
scans_more s0 s1 s2 k row found s is n other =
    let t = s0.view.thread in
    let place : PlaceNo = place_of t.0 k in
    let x : Note = plain (Look t place found) in
    let m : Notes s1 s2 (plain (Look s1.view.thread place found)) = subst (λ r. Notes s1 s2 (plain (Look s1.view.thread (place_of r k) found))) is n in record {
      looks = s.looks ++ x ∷ [];
      looked = all_push t s.looks place found s.looked;
      steps = note_then s0 s1 s2 s.looks (λ u. plain (Look u place found)) s.steps m;
      taken = λ p h. ⊎_elim
          (λ (e : p ≡ k). (found, other, subst (λ q. Among (λ e. e ≡ Look t (place_of t.0 q) found) (s.looks ++ x ∷ [])) (sym e) (among_last (λ e. e ≡ Look t place found) s.looks x refl)))
          (λ (ne : p ≢ k). taken_first t s.looks (x ∷ []) (place_of t.0 p) (s.taken p (omega arith)))
          (cases_eq p k);
      few = let l = length-append s.looks (x ∷ []) in let m = s.few in omega arith;
    }

-- the next place is vacant
pub finds : (s0 s1 s2 : PlaceView) (k row : ℕ) → Scans s0 s1 k → k < 64 → row ≡ s0.view.thread.0 → Notes s1 s2 (plain (Look s1.view.thread (place_of row k) Empty))
    → Finds s0 s2 (place_of row k)
finds s0 s1 s2 k row s low is n =
    let t = s0.view.thread in
    let place : PlaceNo = place_of row k in
    let x : Note = plain (Look t place Empty) in
    let L = note_steps s0 s1 s2 s.looks (λ u. plain (Look u place Empty)) s.steps n in record {
      looks = s.looks ++ x ∷ [];
      looked = all_push t s.looks place Empty s.looked;
      steps = steps_both s0 s1 s2 s.looks (x ∷ []) s.steps L;
      found = record {
        row = is;
        inside = low;
        below = λ p h. subst (λ r. ShowsTaken t (s.looks ++ x ∷ []) (place_of r p)) (sym is) (taken_first t s.looks (x ∷ []) (place_of t.0 p) (s.taken p h));
        vacant = among_last (λ e. e ≡ Look t place Empty) s.looks x refl;
      };
      few = let l = length-append s.looks (x ∷ []) in let m = s.few in omega arith;
      vacant = looked_vacant s1 s2 t place L;
    }

-- the drain state, and the count up
gate_up : (s0 s1 s2 s3 : PlaceView) (xs : List Note) (d : Bool) (count : ℕ) → Steps s0 s1 xs → d ≡ false → Notes s1 s2 (plain (Gate s1.view.thread d)) → Notes s2 s3 (plain (Up s2.view.thread count))
    → Steps s1 s3 (plain (Gate s0.view.thread false) ∷ plain (Up s0.view.thread count) ∷ [])
gate_up s0 s1 s2 s3 xs d count s off g u =
    let G = note_steps s0 s1 s2 xs (λ t. plain (Gate t false)) s (subst (λ b. Notes s1 s2 (plain (Gate s1.view.thread b))) off g) in
    let both = steps_both s0 s1 s2 xs (plain (Gate s0.view.thread false) ∷ []) s G in
    steps_both s1 s2 s3 (plain (Gate s0.view.thread false) ∷ []) (plain (Up s0.view.thread count) ∷ []) G
    (note_steps s0 s2 s3 (xs ++ plain (Gate s0.view.thread false) ∷ []) (λ t. plain (Up t count)) both u)

pub after_up : (s0 s1 s2 s3 : PlaceView) (xs : List Note) (d : Bool) (count : ℕ) → Steps s0 s1 xs → AllLooks s0.view.thread xs → IsAtRest s0 → d ≡ false → Notes s1 s2 (plain (Gate s1.view.thread d)) → Notes s2 s3 (plain (Up s2.view.thread count))
    → turn s3 ≡ record { due = WentUp count; call = AtEase }
after_up s0 s1 s2 s3 xs d count s looked r off g u =
    turn_steps s1 s3 (plain (Gate s0.view.thread false) ∷ plain (Up s0.view.thread count) ∷ []) first_turn (gate_up s0 s1 s2 s3 xs d count s off g u) (looks_rest s0 s1 xs s looked r).turn_is

pub after_gate : (s0 s1 s2 : PlaceView) (xs : List Note) (d : Bool) → Steps s0 s1 xs → AllLooks s0.view.thread xs → IsAtRest s0 → Notes s1 s2 (plain (Gate s1.view.thread d)) → IsAtRest s2
after_gate s0 s1 s2 xs d s looked r g =
    let a = looks_rest s0 s1 xs s looked r in
    let G = notes_steps s1 s2 (plain (Gate s1.view.thread d)) g in record {
      turn_is = turn_steps s1 s2 (plain (Gate s1.view.thread d) ∷ []) first_turn G a.turn_is;
      idle = G.hand ∙ a.idle;
    }

pub went_up : (count : ℕ) → WentUp count ≡ Settled → ⊥
went_up count e = cc

pub admits : (s0 s1 s2 s3 : PlaceView) (place : PlaceNo) (d : Bool) (count : ℕ) (max : Option ℕ) → IsAtRest s0 → Finds s0 s1 place → d ≡ false → Notes s1 s2 (plain (Gate s1.view.thread d)) → Notes s2 s3 (plain (Up s2.view.thread count))
    → max ≡ s3.view.terms.rules.max → IfSome max (λ m. count < m) → Admits s0 s3 place
admits s0 s1 s2 s3 place d count max r f off g u is room =
    let GU = gate_up s0 s1 s2 s3 f.looks d count f.steps off g u in
    let all = steps_both s0 s1 s3 f.looks (plain (Gate s0.view.thread false) ∷ plain (Up s0.view.thread count) ∷ []) f.steps GU in record {
      looks = f.looks;
      count = count;
      looked = f.looked;
      found = f.found;
      few = f.few;
      limit = subst (λ o. IfSome o (λ m. count < m)) (is ∙ ap (λ (b : BoardTerms). b.rules.max) all.terms) room;
      steps = all;
      vacant = known_steps s1 s3 (plain (Gate s0.view.thread false) ∷ plain (Up s0.view.thread count) ∷ []) (spot_no place) SeenVacant GU f.vacant;
      turn_is = after_up s0 s1 s2 s3 f.looks d count f.steps f.looked r off g u;
    }

pub shuts : (s0 s1 s2 : PlaceView) (place : PlaceNo) (d : Bool) → Finds s0 s1 place → d ≡ true → Notes s1 s2 (plain (Gate s1.view.thread d)) → IsShut s0 s2
shuts s0 s1 s2 place d f on g = record {
  looks = f.looks;
  place = place;
  looked = f.looked;
  found = f.found;
  few = f.few;
  steps = note_then s0 s1 s2 f.looks (λ t. plain (Gate t true)) f.steps (subst (λ b. Notes s1 s2 (plain (Gate s1.view.thread b))) on g);
}

pub over : (s0 s1 s2 s3 s4 : PlaceView) (place : PlaceNo) (d : Bool) (count down : ℕ) (max : Option ℕ) → Finds s0 s1 place → d ≡ false → Notes s1 s2 (plain (Gate s1.view.thread d)) → Notes s2 s3 (plain (Up s2.view.thread count))
    → max ≡ s3.view.terms.rules.max → (m : ℕ) × (max ≡ Some m) × (m ≤ count) → Notes s3 s4 (plain (Down s3.view.thread down)) → IsOverMax s0 s4 count
over s0 s1 s2 s3 s4 place d count down max f off g u is full n =
    let t = s0.view.thread in
    let GU = gate_up s0 s1 s2 s3 f.looks d count f.steps off g u in
    let all = steps_both s0 s1 s3 f.looks (plain (Gate t false) ∷ plain (Up t count) ∷ []) f.steps GU in
    let D = note_steps s0 s3 s4 (f.looks ++ plain (Gate t false) ∷ plain (Up t count) ∷ []) (λ w. plain (Down w down)) all n in record {
      looks = f.looks;
      place = place;
      down = down;
      looked = f.looked;
      found = f.found;
      few = f.few;
      limit = (full.0, sym (is ∙ ap (λ (b : BoardTerms). b.rules.max) all.terms) ∙ full.1, full.2);
      steps = steps_both s0 s1 s4 f.looks (plain (Gate t false) ∷ plain (Up t count) ∷ plain (Down t down) ∷ []) f.steps
          (steps_both s1 s3 s4 (plain (Gate t false) ∷ plain (Up t count) ∷ []) (plain (Down t down) ∷ []) GU D);
    }

-- the value rests once it is published
module _ (s0 s2 : PlaceView) (n : SessionNo) (place : PlaceNo) (v : Shown) (may : MayRest s0 place) (n0 : Publishes (claiming_at s0 place) s2 (parked s0.view.thread n place v)) where
  abbrev e : Note
  e = parked s0.view.thread n place v

  abbrev H : List Note
  H = s0.view.seen ++ n0.adds.between

  pub parks : Steps s0 s2 (e ∷ [])
  parks = publish_steps s0 s2 place e may.idle n0

  seen2 : s2.view.seen ≡ H ++ e ∷ []
  seen2 = ap (λ (x : View). x.seen) n0.adds.view

  stood : spot_at (table_after s2.view.seen) place ≡ Holds v.face
  stood = ap (λ (l : List Note). spot_at (table_after l) place) seen2 ∙ (ap (λ (T : Table). spot_at T place) (table_more H e) ∙ put_same (table_after H).spots (spot_no place) (Holds v.face) (spot_no place) refl)

  pub face_fine : IsFace v.face
  face_fine = holds_face s2.view.terms s2.view.seen (spot_no place) v.face n0.one.right n0.one.few stood

  told : what_of s2.view.seen v.face.id.0 ≡ Some v.what
  told = ap (λ (l : List Note). what_of l v.face.id.0) seen2 ∙ (ap (λ (T : Table). T.whats v.face.id.0) (table_more H e) ∙ put_same (table_after H).whats v.face.id.0 (Some v.what) v.face.id.0 refl)

  pub parked_turn : turn s2 ≡ record { due = Settled; call = HasParked place v.face }
  parked_turn = turn_steps s0 s2 (e ∷ []) (record { due = WentUp may.count; call = AtEase }) parks may.turn_is

  pub parks_at : (s4 : PlaceView) (tail : List Note) → Steps s2 s4 tail → IsAtRest s4 → ParksAt s0 s4 n place v tail
  parks_at s4 tail r rest = record {
    steps = steps_both s0 s2 s4 (e ∷ []) tail parks r;
    between = n0.adds.between;
    behind = r.between;
    seen = r.seen ∙ (ap (λ l. l ++ r.between) seen2 ∙ append_assoc H (e ∷ []) r.between);
    before = n0.adds.others;
    after = ap (λ (u : ThreadNo). own_of u r.between) (sym parks.thread) ∙ gained s2 s4 tail r;
    face = face_fine;
    rest = rest;
  }

  gate_is : (s3 : PlaceView) (d b : Bool) → d ≡ b → Notes s2 s3 (plain (Gate s2.view.thread d)) → Steps s2 s3 (plain (Gate s0.view.thread b) ∷ [])
  gate_is s3 d b is g = note_steps s0 s2 s3 (e ∷ []) (λ t. plain (Gate t b)) parks (subst (λ c. Notes s2 s3 (plain (Gate s2.view.thread c))) is g)

  gate_turn : (s3 : PlaceView) (d b : Bool) → d ≡ b → Notes s2 s3 (plain (Gate s2.view.thread d)) → turn s3 ≡ record { due = Settled; call = gate_after (HasParked place v.face) b }
  gate_turn s3 d b is g = turn_steps s2 s3 (plain (Gate s0.view.thread b) ∷ []) (record { due = Settled; call = HasParked place v.face }) (gate_is s3 d b is g) parked_turn

  pub gated_terms : (s3 : PlaceView) (d : Bool) → d ≡ true → Notes s2 s3 (plain (Gate s2.view.thread d)) → s3.view.terms ≡ s0.view.terms
  gated_terms s3 d on g = (gate_is s3 d true on g).terms ∙ parks.terms

  pub stays : (s3 : PlaceView) (d : Bool) → d ≡ false → Notes s2 s3 (plain (Gate s2.view.thread d)) → StaysAt s0 s3 n place v
  stays s3 d off g =
      let G = gate_is s3 d false off g in
      parks_at s3 (plain (Gate s0.view.thread false) ∷ []) G (record { turn_is = gate_turn s3 d false off g; idle = G.hand ∙ (parks.hand ∙ may.idle) })

  pub may_try : (s3 : PlaceView) (d : Bool) (f : Face) → d ≡ true → Notes s2 s3 (plain (Gate s2.view.thread d)) → f ≡ v.face → IsInTurn s3 place f
  may_try s3 d f on g is =
      let T = gate_turn s3 d true on g in record {
        settled = ap (λ (s : Turn). s.due) T;
        try_ = subst (λ c. MayTry c place f) (sym (ap (λ (s : Turn). s.call) T)) (refl, is);
      }

  pub is_taken : (s3 s4 : PlaceView) (d : Bool) (f : Face) → d ≡ true → Notes s2 s3 (plain (Gate s2.view.thread d)) → f ≡ v.face → Loses s3 s4 place f → IsTakenAt s0 s4 n place v
  is_taken s3 s4 d f on g is l =
      let t = s0.view.thread in
      let G = gate_is s3 d true on g in
      let both = G.thread ∙ parks.thread in
      let L = subst (λ u. Steps s3 s4 (plain (Look u place l.found) ∷ [])) both l.steps in record {
        found = l.found;
        other = λ e. l.other (e ∙ ap Resting (sym is));
        parks = parks_at s4 (plain (Gate t true) ∷ plain (Look t place l.found) ∷ []) (steps_both s2 s3 s4 (plain (Gate t true) ∷ []) (plain (Look t place l.found) ∷ []) G L) l.rest;
        gone = subst (IsGone s4 place) is l.gone;
      }

  what_same : (s3 s4 : PlaceView) (d : Bool) (f : Face) (w : Shown) → d ≡ true → (g : Notes s2 s3 (plain (Gate s2.view.thread d))) → f ≡ v.face → (k : Gets s3 s4 n false place f w) → w.what ≡ v.what
  what_same s3 s4 d f w on g is k =
      let t = s0.view.thread in
      let G = gate_is s3 d true on g in
      let more : List Note = G.between ++ k.between in
      let at : s3.view.seen ++ k.between ≡ s2.view.seen ++ more = ap (λ l. l ++ k.between) G.seen ∙ append_assoc s2.view.seen G.between k.between in
      let rest : List Note = taken s3.view.thread n false place f ∷ k.behind in
      let legal : IsLegal (s2.view.seen ++ more) = subst IsLegal at (EachStep-first MeetsNeeds empty_table (s3.view.seen ++ k.between) rest (subst IsLegal k.seen k.steps.one.right.legal)) in
      let same2 : s2.view.thread ≡ t = parks.thread in
      let same3 : s3.view.thread ≡ t = G.thread ∙ parks.thread in
      let own : own_of t more ≡ plain (Gate t true) ∷ [] =
      own_of-append t G.between k.between ∙ (λ i. (ap (λ (u : ThreadNo). own_of u G.between) (sym same2) ∙ gained s2 s3 (plain (Gate t true) ∷ []) G) i ++ (ap (λ (u : ThreadNo). own_of u k.between) (sym same3) ∙ k.others) i) in
      let apart : AllElsewhere place.row more = subst (λ r. AllElsewhere r more) (sym may.own.0) (elsewhere t more (subst NoParks (sym own) (tt, tt))) in
      let stands : spot_at (table_after (s2.view.seen ++ more)) place ≡ Holds v.face =
      ap (λ (l : List Note). spot_at (table_after l) place) (sym at) ∙ (k.there.stood ∙ ap Holds (k.face ∙ is)) in
      let kept = (keeps_then s2.view.seen more place v.face may.own.1 apart legal stands).1 in
      let some : Some w.what ≡ Some v.what = sym k.there.what ∙ (ap (λ (i : Face). what_of (s3.view.seen ++ k.between) i.id.0) (k.face ∙ is) ∙ (ap (λ (l : List Note). what_of l v.face.id.0) at ∙ (kept ∙ told))) in
      some_is w.what v.what some
    where
      some_is : (a b : What) → Some a ≡ Some b → a ≡ b
      some_is a b e = cc

  pub comes_back : (s3 s4 : PlaceView) (d : Bool) (f : Face) (w : Shown) → d ≡ true → Notes s2 s3 (plain (Gate s2.view.thread d)) → f ≡ v.face → v.server ≡ s0.view.terms.server → Gets s3 s4 n false place f w
      → ComesBack s0 s4 n place v w
  comes_back s3 s4 d f w on g is server k =
      let t = s0.view.thread in
      let G = gate_is s3 d true on g in
      let K = subst (λ (z : ThreadNo × Face). Steps s3 s4 (taking z.0 n false place z.1 k.count)) (λ i. ((G.thread ∙ parks.thread) i, is i)) k.steps in
      let face : w.face ≡ v.face = k.face ∙ is in
      let served : w.server ≡ v.server = k.there.server ∙ (ap (λ (b : BoardTerms). b.server) (G.terms ∙ parks.terms) ∙ sym server) in
      let what : w.what ≡ v.what = what_same s3 s4 d f w on g is k in record {
        down = k.count;
        parks = parks_at s4 (plain (Gate t true) ∷ taking t n false place v.face k.count) (steps_both s2 s3 s4 (plain (Gate t true) ∷ []) (taking t n false place v.face k.count) G K) k.rest;
        same = λ i. let z : Shown = record { face = face i; server = served i; what = what i } in z;
        gone = subst (IsGone s4 place) is k.gone;
      }

-- a session may take back what it parked
may_take : (m : Mode) (uses : ℕ) → m ≢ mode.Never → allows m false uses ≡ true
may_take mode.Never uses ne = absurd (ne refl)
may_take mode.Safe uses ne = refl
may_take mode.Aggressive uses ne = refl
may_take mode.Always uses ne = refl

pub can_take_back : (s0 s3 : PlaceView) (n : SessionNo) (f : Face) → IsFace f → s0.view.terms.rules.mode ≢ mode.Never → s3.view.terms ≡ s0.view.terms → CanTake s3 n false f
can_take_back s0 s3 n f fine ne same = record {
  face = fine;
  may = λ _. ap (λ (b : BoardTerms). allows b.rules.mode false f.uses) same ∙ may_take s0.view.terms.rules.mode f.uses ne;
}

-- from what a park's first steps leave
pub may_rest : (s0 s3 : PlaceView) (place : PlaceNo) → IsAtRest s0 → Admits s0 s3 place → MayRest s3 place
may_rest s0 s3 place r a = record {
  count = a.count;
  own = (a.found.row ∙ ap (λ (u : ThreadNo). u.0) (sym a.steps.thread), a.found.inside);
  vacant = a.vacant;
  idle = a.steps.hand ∙ r.idle;
  turn_is = a.turn_is;
  below = subst (λ o. IfSome o (λ m. a.count < m)) (ap (λ (b : BoardTerms). b.rules.max) (sym a.steps.terms)) a.limit;
  admitted = admits_behind s0 s3 a.looks s0.view.thread a.count a.steps;
}
