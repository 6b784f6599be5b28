-- Takes from the own row: what was tried, and the take.
use Rattle.std.proofs.Common.{◌≡◌, ℕ, ◌+◌, ◌<◌, ◌≤◌, Bool, true, false, List, [], ◌∷◌, ◌++◌, length, refl, sym, ap, ◌∙◌, subst, arith, append_assoc}
use Rattle.std.proofs.lemmas.List.{length-append}
use Rattle.std.specs.Prelude.{Option}
use native.Mathlib.Decide.{dec_lt}
use mathlib.Core.Logic.{dite}
use Rattle.hx_base.specs.declared.numbers.ThreadNo.{ThreadNo}
use Rattle.hx_base.specs.declared.numbers.SessionNo.{SessionNo}
use Rattle.hx_base.specs.declared.numbers.PlaceNo.{PlaceNo}
use Rattle.hx_base.specs.declared.numbers.Face.{Face}
use Rattle.hx_base.specs.declared.rules.Mode.{Mode}
use Rattle.hx_base.specs.Shown.{Shown}
use Rattle.hx_pool.specs.declared.board.BoardTerms.{BoardTerms}
use Rattle.hx_pool.specs.declared.entries.Found.{Found}
use Rattle.hx_pool.specs.declared.entries.Entry.TheVariants.{Look, Take}
use Rattle.hx_pool.specs.declared.entries.Note.{Note}
use Rattle.hx_pool.specs.Table.{Holds, spot_at, empty_table}
use Rattle.hx_pool.specs.History.{plain, table_after, what_of, IsLegal, IsEven, MeetsNeeds}
use Rattle.hx_pool.specs.Rules.{allows}
use Rattle.hx_pool.specs.Causes.{AllLooks, place_of}
use Rattle.hx_pool.specs.SeatView.{Grows, Makes}
use Rattle.hx_pool.specs.Taking.{taken, taking, is_safe, TakesOwn, TakesNoneOwn, IsBest}
use Rattle.hx_pool.proofs.Histories.{even-append, EachStep-first}
use Rattle.hx_pool.proofs.Calls.{looks_even, looks_marks, marks_taking}
use Rattle.hx_places.specs.Turns.{Turn}
use Rattle.hx_places.specs.Asks.{CanTake, IsInTurn, MayTry}
use Rattle.hx_places.specs.Seats.{PlaceView, Stands, IsOwn, IsOfBoard, history_of}
use Rattle.hx_rows.specs.declared.stays.Stay.{Stay}
use Rattle.hx_rows.specs.Stays.{NoneFits, Pulls, RestsAt, Follows}
use Rattle.hx_rows.specs.Steps.{Steps, IsAtRest, IsGone, Gets, Loses}
use Rattle.hx_rows.specs.Row.{IsRowOf}
use Rattle.hx_rows.proofs.Resting.{IsNoPark, NoParks, elsewhere}
use Rattle.hx_rows.proofs.Following.{follows_more, follows_less}
use Rattle.hx_rows.proofs.Stepping.{steps_none, steps_both, makes_of}
use Rattle.hx_rows.proofs.Taking.{row_then}
use Rattle.hx_rows.proofs.Choosing.{fit_true, is_best, none_rests}

pub looks_no_parks : (t : ThreadNo) (xs : List Note) → AllLooks t xs → NoParks xs
looks_no_parks t [] l = tt
looks_no_parks t (x ∷ xs) l = (subst (λ (y : Note). IsNoPark y.entry) (sym l.0.2) tt, looks_no_parks t xs l.1)

looks_push : (t : ThreadNo) (xs : List Note) (place : PlaceNo) (found : Found) → AllLooks t xs → AllLooks t (xs ++ plain (Look t place found) ∷ [])
looks_push t [] place found l = ((place, found, refl), tt)
looks_push t (x ∷ xs) place found l = (l.0, looks_push t xs place found l.1)

-- some tries were lost, each of which was a look and is listed no more
pub record Tried (s0 s : PlaceView) (stays : List Stay) : Type 0 where
  pub looks : List Note
  pub looked : AllLooks s0.view.thread looks
  pub steps : Steps s0 s looks
  pub rest : IsAtRest s
  pub row : IsRowOf stays s
  pub few : 0 < length looks → length looks + length stays ≤ 64

pub tried_none : (s : PlaceView) (stays : List Stay) → Stands s.view → IsAtRest s → IsRowOf stays s → Tried s s stays
tried_none s stays k r f = record { looks = []; looked = tt; steps = steps_none s k; rest = r; row = f; few = λ l. absurd (omega arith) }

pulled_length : (mode : Mode) (first : Bool) (stays left : List Stay) (x : Stay) → Pulls mode first stays x left → length stays ≡ length left + 1
pulled_length mode first stays left x p =
    let l = p.best.last in
    let a = ap (λ (zs : List Stay). length zs) l.parts in
    let b = ap (λ (zs : List Stay). length zs) p.left in
    let c = length-append l.before (l.chosen ∷ l.behind) in
    let d = length-append l.before l.behind in omega arith

pub smaller : (mode : Mode) (first : Bool) (stays left : List Stay) (x : Stay) → Pulls mode first stays x left → length left < length stays
smaller mode first stays left x p = let e = pulled_length mode first stays left x p in omega arith

-- the pulled one is gone, so the list without it follows the row
pulled_row : (s : PlaceView) (mode : Mode) (first : Bool) (stays left : List Stay) (x : Stay) → Pulls mode first stays x left → IsRowOf stays s → IsGone s (place_of s.view.thread.0 x.place) x.face
    → IsRowOf left s
pulled_row s mode first stays left x p f gone =
    let l = p.best.last in
    subst (λ zs. IsRowOf zs s) (sym p.left)
    (follows_less s.view.thread.0 s.view.seen l.before l.chosen l.behind
    (subst (λ (z : Stay). RestsAt s.view.seen s.view.thread.0 z → ⊥) (sym p.is) (λ r. gone r.1)) (subst (λ zs. IsRowOf zs s) l.parts f))

pub tried_lost : (s0 s1 s2 : PlaceView) (mode : Mode) (first : Bool) (stays left : List Stay) (x : Stay) → Tried s0 s1 stays → Pulls mode first stays x left
    → Loses s1 s2 (place_of s0.view.thread.0 x.place) x.face → Tried s0 s2 left
tried_lost s0 s1 s2 mode first stays left x t p l =
    let place : PlaceNo = place_of s0.view.thread.0 x.place in
    let y : Note = plain (Look s0.view.thread place l.found) in
    let L = subst (λ u. Steps s1 s2 (plain (Look u place l.found) ∷ [])) t.steps.thread l.steps in
    let all = steps_both s0 s1 s2 t.looks (y ∷ []) t.steps L in
    let gone = subst (λ (u : ThreadNo). IsGone s2 (place_of u.0 x.place) x.face) (sym all.thread) l.gone in record {
      looks = t.looks ++ y ∷ [];
      looked = looks_push s0.view.thread t.looks place l.found t.looked;
      steps = all;
      rest = l.rest;
      row = pulled_row s2 mode first stays left x p (row_then s1 s2 (y ∷ []) stays L (tt, tt) t.row) gone;
      few = λ _.
          let a = length-append t.looks (y ∷ []) in
          let b = pulled_length mode first stays left x p in
          let c = p.few in
          dite (dec_lt 0 (length t.looks)) (λ h. let d = t.few h in omega arith) (λ h. omega arith);
    }

-- the take may be made
pub take_own_place : (s0 s1 : PlaceView) (mode : Mode) (first : Bool) (stays left : List Stay) (x : Stay) → Tried s0 s1 stays → Pulls mode first stays x left → IsOwn s1 (place_of s0.view.thread.0 x.place)
take_own_place s0 s1 mode first stays left x t p = (ap (λ (u : ThreadNo). u.0) (sym t.steps.thread), p.inside)

pub take_board : (s0 s1 : PlaceView) (mode : Mode) (first : Bool) (stays left : List Stay) (x : Stay) → Tried s0 s1 stays → Pulls mode first stays x left → IsOfBoard s1 (place_of s0.view.thread.0 x.place)
take_board s0 s1 mode first stays left x t p =
    (subst (λ (u : ThreadNo). u.0 < s1.view.terms.threads) t.steps.thread t.steps.one.low, p.inside)

pub take_may : (s0 s1 : PlaceView) (n : SessionNo) (first : Bool) (stays left : List Stay) (x : Stay) → Tried s0 s1 stays → Pulls s0.view.terms.rules.mode first stays x left → CanTake s1 n first x.face
take_may s0 s1 n first stays left x t p =
    let l = p.best.last in
    let fit = fit_true (allows s0.view.terms.rules.mode first l.chosen.face.uses) (is_safe l.chosen.face.uses) p.best.safe l.good in record {
      face = p.face;
      may = λ _. ap (λ (b : BoardTerms). allows b.rules.mode first x.face.uses) t.steps.terms
          ∙ (ap (λ (z : Stay). allows s0.view.terms.rules.mode first z.face.uses) (sym p.is) ∙ fit.0);
    }

pub take_turn : (s0 s1 : PlaceView) (stays : List Stay) (place : PlaceNo) (f : Face) → Tried s0 s1 stays → IsInTurn s1 place f
take_turn s0 s1 stays place f t = record {
  settled = ap (λ (s : Turn). s.due) t.rest.turn_is;
  try_ = subst (λ c. MayTry c place f) (sym (ap (λ (s : Turn). s.call) t.rest.turn_is)) tt;
}

module _ (s0 s1 s2 : PlaceView) (n : SessionNo) (first : Bool) (stays left : List Stay) (x : Stay) (v : Shown) (t : Tried s0 s1 stays) (p : Pulls s0.view.terms.rules.mode first stays x left)
    (k : Gets s1 s2 n first (place_of s0.view.thread.0 x.place) x.face v) where
  abbrev place : PlaceNo
  place = place_of s0.view.thread.0 x.place

  took : Steps s0 s2 (t.looks ++ taking s0.view.thread n first place x.face k.count)
  took = steps_both s0 s1 s2 t.looks (taking s0.view.thread n first place x.face k.count) t.steps
      (subst (λ u. Steps s1 s2 (taking u n first place x.face k.count)) t.steps.thread k.steps)

  took_even : IsEven (t.looks ++ taking s0.view.thread n first place x.face k.count)
  took_even = even-append t.looks (taking s0.view.thread n first place x.face k.count) (looks_even s0.view.thread t.looks t.looked) refl

  between : List Note
  between = t.steps.between ++ k.between

  at : s1.view.seen ++ k.between ≡ s0.view.seen ++ (t.steps.between ++ k.between)
  at = ap (λ l. l ++ k.between) t.steps.seen ∙ append_assoc s0.view.seen t.steps.between k.between

  legal : IsLegal (s1.view.seen ++ k.between)
  legal = EachStep-first MeetsNeeds empty_table (s1.view.seen ++ k.between) (taken s1.view.thread n first place x.face ∷ k.behind) (subst IsLegal k.seen k.steps.one.right.legal)

  follows : Follows stays s0.view.thread.0 (s0.view.seen ++ (t.steps.between ++ k.between))
  follows = subst (λ (z : ThreadNo × List Note). Follows stays z.0.0 z.1) (λ i. (t.steps.thread i, at i))
      (follows_more s1.view.thread.0 s1.view.seen k.between legal (elsewhere s1.view.thread k.between (subst NoParks (sym k.others) tt)) stays t.row)

  rests : RestsAt (s0.view.seen ++ (t.steps.between ++ k.between)) s0.view.thread.0 x
  rests = (p.inside, ap (λ (H : List Note). spot_at (table_after H) place) (sym at) ∙ (k.there.stood ∙ ap Holds k.face))

  pub takes_own : (q : Option ℕ) → TakesOwn (history_of s0 q) (history_of s2 q) n first v
  takes_own q = record {
    place = place;
    row = refl;
    takes = record {
      looks = t.looks;
      count = k.count;
      looked = t.looked;
      makes = subst (λ f. Makes (history_of s0 q) (history_of s2 q) (t.looks ++ taking s0.view.thread n first place f k.count)) (sym k.face)
          (makes_of s0 s2 (t.looks ++ taking s0.view.thread n first place x.face k.count) q q took took_even);
      server = k.there.server ∙ ap (λ (b : BoardTerms). b.server) t.steps.terms;
      between = t.steps.between ++ k.between;
      behind = k.behind;
      seen = k.seen ∙ (λ i. at i ++ taken (t.steps.thread i) n first place (sym k.face i) ∷ k.behind);
      what = ap (λ (H : List Note). what_of H v.face.id.0) (sym at) ∙ k.there.what;
    };
    passed = refl;
    best = subst (λ f. IsBest (history_of s0 q) (s0.view.seen ++ (t.steps.between ++ k.between)) first f) (sym k.face)
        (is_best (history_of s0 q) (s0.view.seen ++ (t.steps.between ++ k.between)) first stays left x follows p rests);
  }

  pub grows_took : (q : Option ℕ) → Grows (history_of s0 q) (history_of s2 q) (Take s0.view.thread n first place x.face.id x.face.uses ∷ [])
  grows_took q = record {
    added = t.looks ++ taking s0.view.thread n first place x.face k.count;
    makes = makes_of s0 s2 (t.looks ++ taking s0.view.thread n first place x.face k.count) q q took took_even;
    marks = sym (marks_taking t.looks s0.view.thread n first place x.face k.count t.looked);
    few =
        let a = length-append t.looks (taking s0.view.thread n first place x.face k.count) in
        dite (dec_lt 0 (length t.looks)) (λ h. let d = t.few h in omega arith) (λ h. omega arith);
  }

  pub row_took : IsRowOf left s2
  row_took =
      let gone = subst (λ (u : ThreadNo). IsGone s2 (place_of u.0 x.place) x.face) (sym took.thread) k.gone in
      pulled_row s2 s0.view.terms.rules.mode first stays left x p (row_then s1 s2 (taking s1.view.thread n first place x.face k.count) stays k.steps (tt, (tt, (tt, tt))) t.row) gone

  pub stands_took : Stands s2.view
  stands_took = took.one

pub takes_none : (s0 s1 : PlaceView) (first : Bool) (stays : List Stay) → Tried s0 s1 stays → NoneFits s0.view.terms.rules.mode first true stays → NoneFits s0.view.terms.rules.mode first false stays
    → (q : Option ℕ) → TakesNoneOwn (history_of s0 q) (history_of s1 q) first
takes_none s0 s1 first stays t safe idle q =
    let one = subst (λ o. NoneFits o first true stays) (ap (λ (b : BoardTerms). b.rules.mode) (sym t.steps.terms)) safe in
    let two = subst (λ o. NoneFits o first false stays) (ap (λ (b : BoardTerms). b.rules.mode) (sym t.steps.terms)) idle in record {
      looks = record { looks = t.looks; looked = t.looked; makes = makes_of s0 s1 t.looks q q t.steps (looks_even s0.view.thread t.looks t.looked) };
      passed = refl;
      none = none_rests (history_of s1 q) s1.view.seen s0.view.thread.0 first stays (subst (λ (u : ThreadNo). Follows stays u.0 s1.view.seen) t.steps.thread t.row) one two;
    }

pub grows_none : (s0 s1 : PlaceView) (stays : List Stay) → Tried s0 s1 stays → (q : Option ℕ) → Grows (history_of s0 q) (history_of s1 q) []
grows_none s0 s1 stays t q = record {
  added = t.looks;
  makes = makes_of s0 s1 t.looks q q t.steps (looks_even s0.view.thread t.looks t.looked);
  marks = sym (looks_marks s0.view.thread t.looks t.looked);
  few = dite (dec_lt 0 (length t.looks)) (λ h. let d = t.few h in omega arith) (λ h. omega arith);
}
