-- Looks through the rows, and the take behind them.
use Rattle.std.proofs.Common.{◌≡◌, ◌≢◌, inl, inr, ⊎_elim, ℕ, ◌+◌, ◌-◌, ◌*◌, ◌<◌, ◌≤◌, true, false, [], ◌∷◌, ◌++◌, refl, sym, ap, ◌∙◌, subst, arith}
use Rattle.std.proofs.lemmas.List.{length-append}
use Rattle.std.proofs.lemmas.Bool.{cases_eq}
use Rattle.hx_base.specs.declared.numbers.ThreadNo.{ThreadNo}
use Rattle.hx_base.specs.declared.numbers.PlaceNo.{PlaceNo}
use Rattle.hx_base.specs.declared.numbers.Face.{Face}
use Rattle.hx_base.specs.Shown.{Shown}
use Rattle.hx_pool.specs.declared.entries.Found.{Found}
use Rattle.hx_pool.specs.declared.entries.Found.TheVariants.{Empty, Resting, Leaving}
use Rattle.hx_pool.specs.declared.entries.Entry.TheVariants.{Look, Down}
use Rattle.hx_pool.specs.History.{plain}
use Rattle.hx_pool.specs.Causes.{IsUnavailable, nth_place, caretaker}
use Rattle.hx_places.specs.Asks.{CanTake}
use Rattle.hx_places.specs.Seats.{PlaceView, Stands, Notes, TakesAt}
use Rattle.hx_rows.proofs.Stepping.{notes_steps, note_steps, steps_both}
use Rattle.hx_takeover.proofs.Lists.{more_left, more_right}
use Rattle.hx_takeover.proofs.Trying.{looked_none, looked_one, looked_both, looked_face, took_now, took_after, back_to}
use Rattle.hx_purge.specs.Sweeps.{Misses, Takes, PassesTo, TakesNext}

-- a look that shows no connection
pub misses_other : (s0 s1 : PlaceView) (place : PlaceNo) (found : Found) → Notes s0 s1 (plain (Look s0.view.thread place found))
    → ((f : Face) → found ≢ Resting f) → Misses s0 s1 place
misses_other s0 s1 place found n none =
    let l = looked_one s0 s1 place found n in record {
      only = record { looks = l.looks; looked = l.looked; steps = l.steps; few = omega arith };
      none = inl (found, (λ f good. none f), inl refl);
    }

lost_shows : (t : ThreadNo) (place : PlaceNo) (f : Face) (found : Found) → found ≢ Resting f
    → IsUnavailable t (plain (Look t place (Resting f)) ∷ plain (Look t place found) ∷ []) place
lost_shows t place f Empty other = inl (Empty, (λ g good e. cc), inr (inl refl))
lost_shows t place f Leaving other = inl (Leaving, (λ g good e. cc), inr (inl refl))
lost_shows t place f (Resting g) other = inr (f, g, (λ same. other (ap (λ (h : Face). Resting h) (sym same))), inl refl, inr (inl refl))

-- a look, and a take that another won
pub misses_lost : (s0 s1 s2 : PlaceView) (place : PlaceNo) (f : Face) (found : Found) → Notes s0 s1 (plain (Look s0.view.thread place (Resting f)))
    → Notes s1 s2 (plain (Look s1.view.thread place found)) → found ≢ Resting f → Misses s0 s2 place
misses_lost s0 s1 s2 place f found n m other =
    let t = s0.view.thread in
    let S = notes_steps s0 s1 (plain (Look t place (Resting f))) n in
    let L = note_steps s0 s1 s2 (plain (Look t place (Resting f)) ∷ []) (λ u. plain (Look u place found)) S m in record {
      only = record {
        looks = plain (Look t place (Resting f)) ∷ plain (Look t place found) ∷ [];
        looked = ((place, Resting f, refl), ((place, found, refl), tt));
        steps = steps_both s0 s1 s2 (plain (Look t place (Resting f)) ∷ []) (plain (Look t place found) ∷ []) S L;
        few = omega arith;
      };
      none = lost_shows t place f found other;
    }

-- the caretaker may take whatever a look shows
pub care_may : (s0 s1 : PlaceView) (place : PlaceNo) (f : Face) → Notes s0 s1 (plain (Look s0.view.thread place (Resting f))) → CanTake s1 caretaker false f
care_may s0 s1 place f m = record { face = looked_face s0 s1 place f m; may = λ h. absurd (h refl) }

-- a look, and a take
pub takes : (s0 s1 s2 s3 : PlaceView) (place : PlaceNo) (f : Face) (v : Shown) (count : ℕ)
    → Notes s0 s1 (plain (Look s0.view.thread place (Resting f)))
    → TakesAt s1 s2 caretaker false place f v → Notes s2 s3 (plain (Down s2.view.thread count)) → Takes s0 s3 place v
takes s0 s1 s2 s3 place f v count m t d = record {
  looks = plain (Look s0.view.thread place (Resting f)) ∷ [];
  few = omega arith;
  took = took_after s0 s1 s3 1 caretaker false place v [] (looked_one s0 s1 place (Resting f) m) (took_now s1 s2 s3 caretaker false place f v count t d);
}

pub passes_none : (s : PlaceView) (from : ℕ) → Stands s.view → PassesTo s s from from
passes_none s from k = record { only = looked_none s (2 * (from - from)) k; none = λ i low high. absurd (omega arith) }

-- one place more
pub passes_more : (s0 s1 s2 : PlaceView) (from at : ℕ) (place : PlaceNo) → from ≤ at → place ≡ nth_place s0.view.thread s0.view.terms.threads at
    → PassesTo s0 s1 from at → Misses s1 s2 place → PassesTo s0 s2 from (at + 1)
passes_more s0 s1 s2 from at place ahead is p m =
    let l = looked_both s0 s1 s2 (2 * (at - from)) 2 p.only m.only in
    let t = s0.view.thread in
    let k = s0.view.terms.threads in record {
      only = record { looks = l.looks; looked = l.looked; steps = l.steps; few = let e = l.few in omega arith };
      none = λ i low high. ⊎_elim
          (λ (e : i ≡ at). subst (λ (q : PlaceNo). IsUnavailable t (p.only.looks ++ m.only.looks) q) (is ∙ ap (nth_place t k) (sym e))
          (more_right (λ _. true) t p.only.looks m.only.looks place (back_to s0 s1 (2 * (at - from)) (λ r u. true) m.only.looks place p.only m.none)))
          (λ (ne : i ≢ at). more_left (λ _. true) t p.only.looks m.only.looks (nth_place t k i) (p.none i low (omega arith)))
          (cases_eq i at);
    }

-- the next place had one
pub next_takes : (s0 s1 s2 : PlaceView) (from at : ℕ) (place : PlaceNo) (v : Shown) → from ≤ at → at < 64 * s0.view.terms.threads → s0.view.terms.threads ≤ 16
    → place ≡ nth_place s0.view.thread s0.view.terms.threads at → PassesTo s0 s1 from at → Takes s1 s2 place v → TakesNext s0 s2 from at place v
next_takes s0 s1 s2 from at place v ahead low few is p w =
    let t = s0.view.thread in record {
      looks = p.only.looks ++ w.looks;
      few = let e = length-append p.only.looks w.looks in let a = p.only.few in let b = w.few in omega arith;
      took = took_after s0 s1 s2 (2 * (at - from)) caretaker false place v w.looks p.only w.took;
      below = ahead;
      inside = low;
      place_is = is;
      none = λ i h j. more_left (λ _. true) t p.only.looks w.looks (nth_place t s0.view.terms.threads i) (p.none i h j);
    }
