-- Looks, and a take behind them.
use Rattle.std.proofs.Common.{◌≡◌, ◌≢◌, inl, inr, ⊎_elim, ℕ, ◌+◌, ◌*◌, ◌<◌, Bool, true, false, List, [], ◌∷◌, ◌++◌, refl, sym, ap, ◌∙◌, subst, arith, append_assoc}
use Rattle.std.proofs.lemmas.List.{length-append}
use Rattle.std.proofs.lemmas.Bool.{cases_eq}
use Rattle.hx_base.specs.declared.numbers.ThreadNo.{ThreadNo}
use Rattle.hx_base.specs.declared.numbers.SessionNo.{SessionNo}
use Rattle.hx_base.specs.declared.numbers.PlaceNo.{PlaceNo}
use Rattle.hx_base.specs.declared.numbers.Face.{Face}
use Rattle.hx_base.specs.declared.rules.PoolRules.{PoolRules}
use Rattle.hx_base.specs.PlaceWords.{IsFace}
use Rattle.hx_base.specs.Shown.{Shown}
use Rattle.hx_pool.specs.declared.board.BoardTerms.{BoardTerms}
use Rattle.hx_pool.specs.declared.entries.Found.{Found}
use Rattle.hx_pool.specs.declared.entries.Found.TheVariants.{Empty, Resting, Leaving}
use Rattle.hx_pool.specs.declared.entries.Entry.TheVariants.{Free, Look, Down}
use Rattle.hx_pool.specs.declared.entries.Note.{Note}
use Rattle.hx_pool.specs.Table.{Table, Spot, Vacant, Holds, Leaves, spot_at, spot_no, found_of, empty_table}
use Rattle.hx_pool.specs.History.{plain, table_after, what_of, MeetsNeeds}
use Rattle.hx_pool.specs.Causes.{AllLooks, IsUnavailableTo, place_of}
use Rattle.hx_pool.specs.Taking.{taken, taking, is_safe}
use Rattle.hx_pool.specs.Rules.{allows}
use Rattle.hx_rows.proofs.Choosing.{fit_true}
use Rattle.hx_pool.proofs.Histories.{EachStep-second}
use Rattle.hx_resting.specs.Row.{fits}
use Rattle.hx_places.specs.declared.view.View.{View}
use Rattle.hx_places.specs.declared.view.Hand.TheVariants.{Idle}
use Rattle.hx_places.specs.Turns.{Turn}
use Rattle.hx_places.specs.Asks.{CanTake, IsInTurn, MayTry}
use Rattle.hx_places.specs.Seats.{PlaceView, turn, Stands, Notes, TakesAt}
use Rattle.hx_places.proofs.Laws.{holds_face}
use Rattle.hx_rows.specs.Steps.{Steps, IsAtRest}
use Rattle.hx_rows.proofs.Resting.{table_more}
use Rattle.hx_rows.proofs.Stepping.{steps_none, steps_both, note_steps, notes_steps, takes_steps, turn_steps, looks_rest}
use Rattle.hx_takeover.specs.Scans.{may_in, Looked, Took, Misses, Takes, Passes, TakesInList}
use Rattle.hx_takeover.proofs.Lists.{same_face, unfit_face, more_left, more_right}

pub looks_both : (t : ThreadNo) (xs ys : List Note) → AllLooks t xs → AllLooks t ys → AllLooks t (xs ++ ys)
looks_both t [] ys a b = b
looks_both t (x ∷ xs) ys a b = (a.0, looks_both t xs ys a.1 b)

pub looked_none : (s : PlaceView) (most : ℕ) → Stands s.view → Looked s s most
looked_none s most k = record { looks = []; looked = tt; steps = steps_none s k; few = omega arith }

abbrev pub looked_one : (s0 s1 : PlaceView) (place : PlaceNo) (found : Found) → Notes s0 s1 (plain (Look s0.view.thread place found)) → Looked s0 s1 1
looked_one s0 s1 place found n = record {
  looks = plain (Look s0.view.thread place found) ∷ [];
  looked = ((place, found, refl), tt);
  steps = notes_steps s0 s1 (plain (Look s0.view.thread place found)) n;
  few = omega arith;
}

-- the second seat's looks, as looks by the first one's thread
pub looked_by : (s0 s1 : PlaceView) (a : ℕ) (ys : List Note) → Looked s0 s1 a → AllLooks s1.view.thread ys → AllLooks s0.view.thread ys
looked_by s0 s1 a ys l k = subst (λ (t : ThreadNo). AllLooks t ys) l.steps.thread k

abbrev pub looked_both : (s0 s1 s2 : PlaceView) (a b : ℕ) → Looked s0 s1 a → Looked s1 s2 b → Looked s0 s2 (a + b)
looked_both s0 s1 s2 a b l k = record {
  looks = l.looks ++ k.looks;
  looked = looks_both s0.view.thread l.looks k.looks l.looked (looked_by s0 s1 a k.looks l k.looked);
  steps = steps_both s0 s1 s2 l.looks k.looks l.steps k.steps;
  few = let e = length-append l.looks k.looks in let x = l.few in let y = k.few in omega arith;
}

pub looked_rest : (s0 s1 : PlaceView) (a : ℕ) → Looked s0 s1 a → IsAtRest s0 → IsAtRest s1
looked_rest s0 s1 a l r = looks_rest s0 s1 l.looks l.steps l.looked r

-- where a take stands in what the seat has seen
takes_seen : (s0 s1 : PlaceView) (n : SessionNo) (first : Bool) (place : PlaceNo) (f : Face) (v : Shown) → (t : TakesAt s0 s1 n first place f v)
    → s1.view.seen ≡ (s0.view.seen ++ t.takes.between) ++ taken s0.view.thread n first place f ∷ (t.frees.between ++ plain (Free s0.view.thread place) ∷ [])
takes_seen s0 s1 n first place f v t =
    let take : Note = taken s0.view.thread n first place f in
    let free : Note = plain (Free s0.view.thread place) in
    let a = t.takes in
    let c = t.frees in
    ap (λ (x : View). x.seen) c.view ∙ (ap (λ (x : View). (x.seen ++ c.between) ++ free ∷ []) a.view
    ∙ (append_assoc ((s0.view.seen ++ a.between) ++ take ∷ []) c.between (free ∷ []) ∙ append_assoc (s0.view.seen ++ a.between) (take ∷ []) (c.between ++ free ∷ [])))

-- a take, and the count down
module _ (s0 s1 s2 : PlaceView) (n : SessionNo) (first : Bool) (place : PlaceNo) (f : Face) (v : Shown) (count : ℕ) (t : TakesAt s0 s1 n first place f v)
    (d : Notes s1 s2 (plain (Down s1.view.thread count))) where
  abbrev pair : List Note
  pair = taken s0.view.thread n first place f ∷ plain (Free s0.view.thread place) ∷ []

  first_two : Steps s0 s1 (taken s0.view.thread n first place f ∷ plain (Free s0.view.thread place) ∷ [])
  first_two = takes_steps s0 s1 n first place f v t

  third : Steps s1 s2 (plain (Down s0.view.thread count) ∷ [])
  third = note_steps s0 s1 s2 pair (λ u. plain (Down u count)) first_two d

  pub took_now : Took s0 s2 n first place v []
  took_now =
      let free : Note = plain (Free s0.view.thread place) in
      let D = third in record {
        count = count;
        looked = tt;
        steps = subst (λ g. Steps s0 s2 (taking s0.view.thread n first place g count)) (sym t.face) (steps_both s0 s1 s2 pair (plain (Down s0.view.thread count) ∷ []) first_two D);
        between = t.takes.between;
        behind = (t.frees.between ++ free ∷ []) ++ D.between;
        seen = subst (λ g. s2.view.seen ≡ (s0.view.seen ++ t.takes.between) ++ taken s0.view.thread n first place g ∷ ((t.frees.between ++ free ∷ []) ++ D.between)) (sym t.face)
            (D.seen ∙ (ap (λ l. l ++ D.between) (takes_seen s0 s1 n first place f v t)
            ∙ append_assoc (s0.view.seen ++ t.takes.between) (taken s0.view.thread n first place f ∷ (t.frees.between ++ free ∷ [])) D.between));
        server = t.there.server;
        what = t.there.what;
      }

  pub took_rest : s0.view.hand ≡ Idle → IsAtRest s2
  took_rest idle = record {
    turn_is = turn_steps s1 s2 (plain (Down s0.view.thread count) ∷ []) (turn s1) third refl;
    idle = third.hand ∙ (first_two.hand ∙ idle);
  }

-- a take behind looks
pub took_after : (s0 s1 s2 : PlaceView) (a : ℕ) (n : SessionNo) (first : Bool) (place : PlaceNo) (v : Shown) (ys : List Note) → (l : Looked s0 s1 a) → Took s1 s2 n first place v ys
    → Took s0 s2 n first place v (l.looks ++ ys)
took_after s0 s1 s2 a n first place v ys l k =
    let T : List Note = taking s0.view.thread n first place v.face k.count in
    let S : Steps s1 s2 (ys ++ T) = subst (λ u. Steps s1 s2 (ys ++ taking u n first place v.face k.count)) l.steps.thread k.steps in
    let at : s1.view.seen ++ k.between ≡ s0.view.seen ++ (l.steps.between ++ k.between) = ap (λ l. l ++ k.between) l.steps.seen ∙ append_assoc s0.view.seen l.steps.between k.between in record {
      count = k.count;
      looked = looks_both s0.view.thread l.looks ys l.looked (looked_by s0 s1 a ys l k.looked);
      steps = subst (Steps s0 s2) (sym (append_assoc l.looks ys T)) (steps_both s0 s1 s2 l.looks (ys ++ T) l.steps S);
      between = l.steps.between ++ k.between;
      behind = k.behind;
      seen = k.seen ∙ (λ i. at i ++ taken (l.steps.thread i) n first place v.face ∷ k.behind);
      server = k.server ∙ ap (λ (b : BoardTerms). b.server) l.steps.terms;
      what = ap (λ (H : List Note). what_of H v.face.id.0) (sym at) ∙ k.what;
    }

-- what looks of the second seat show, for the first one
pub back_to : (s0 s1 : PlaceView) (a : ℕ) (may : PoolRules → ℕ → Bool) (ys : List Note) (at : PlaceNo) → Looked s0 s1 a → IsUnavailableTo (may s1.view.terms.rules) s1.view.thread ys at
    → IsUnavailableTo (may s0.view.terms.rules) s0.view.thread ys at
back_to s0 s1 a may ys at l m = subst (λ (z : ThreadNo × BoardTerms). IsUnavailableTo (may z.1.rules) z.0 ys at) (λ i. (l.steps.thread i, l.steps.terms i)) m

-- a look that shows nothing for the request
pub misses_unfit : (s0 s1 : PlaceView) (first safe : Bool) (place : PlaceNo) (found : Found) → Notes s0 s1 (plain (Look s0.view.thread place found))
    → ((f : Face) → may_in s0 first safe f.uses ≡ true → found ≢ Resting f) → Misses s0 s1 first safe place
misses_unfit s0 s1 first safe place found n none =
    let l = looked_one s0 s1 place found n in record {
      only = record { looks = l.looks; looked = l.looked; steps = l.steps; few = omega arith };
      none = inl (found, none, inl refl);
    }

lost_shows : (may : ℕ → Bool) (t : ThreadNo) (place : PlaceNo) (f : Face) (found : Found) → found ≢ Resting f
    → IsUnavailableTo may t (plain (Look t place (Resting f)) ∷ plain (Look t place found) ∷ []) place
lost_shows may t place f Empty other = inl (Empty, (λ g good e. cc), inr (inl refl))
lost_shows may t place f Leaving other = inl (Leaving, (λ g good e. cc), inr (inl refl))
lost_shows may t place f (Resting g) other = inr (f, g, (λ same. other (ap (λ (h : Face). Resting h) (sym same))), inl refl, inr (inl refl))

-- a look, and a take that another won
pub misses_lost : (s0 s1 s2 : PlaceView) (first safe : Bool) (place : PlaceNo) (f : Face) (found : Found) → Notes s0 s1 (plain (Look s0.view.thread place (Resting f)))
    → Notes s1 s2 (plain (Look s1.view.thread place found)) → found ≢ Resting f → Misses s0 s2 first safe place
misses_lost s0 s1 s2 first safe place f found n m other =
    let t = s0.view.thread in
    let S = notes_steps s0 s1 (plain (Look t place (Resting f))) n in
    let L = note_steps s0 s1 s2 (plain (Look t place (Resting f)) ∷ []) (λ u. plain (Look u place found)) S m in record {
      only = record {
        looks = plain (Look t place (Resting f)) ∷ plain (Look t place found) ∷ [];
        looked = ((place, Resting f, refl), ((place, found, refl), tt));
        steps = steps_both s0 s1 s2 (plain (Look t place (Resting f)) ∷ []) (plain (Look t place found) ∷ []) S L;
        few = omega arith;
      };
      none = lost_shows (may_in s0 first safe) t place f found other;
    }

found_holds : (s : Spot) (f : Face) → Resting f ≡ found_of s → s ≡ Holds f
found_holds Vacant f e = absurd (cc)
found_holds (Leaves t) f e = absurd (cc)
found_holds (Holds g) f e = ap Holds (sym (same_face f g e))

-- a face that a look shows is one that a word can show
pub looked_face : (s0 s1 : PlaceView) (place : PlaceNo) (f : Face) → Notes s0 s1 (plain (Look s0.view.thread place (Resting f))) → IsFace f
looked_face s0 s1 place f n =
    let x : Note = plain (Look s0.view.thread place (Resting f)) in
    let a = n.adds in
    let H : List Note = s0.view.seen ++ a.between in
    let need = (EachStep-second MeetsNeeds empty_table H (x ∷ []) a.right.legal).0.1 in
    let at : spot_at (table_after s1.view.seen) place ≡ spot_at (table_after H) place = ap (λ (v : View). spot_at (table_after v.seen) place) a.view ∙ ap (λ (T : Table). spot_at T place) (table_more H x) in
    holds_face s1.view.terms s1.view.seen (spot_no place) f n.one.right n.one.few (at ∙ found_holds (spot_at (table_after H) place) f need)

-- a seat at rest may try any face
pub rest_turn : (s : PlaceView) (place : PlaceNo) (f : Face) → IsAtRest s → IsInTurn s place f
rest_turn s place f r = record {
  settled = ap (λ (z : Turn). z.due) r.turn_is;
  try_ = subst (λ c. MayTry c place f) (sym (ap (λ (z : Turn). z.call) r.turn_is)) tt;
}

-- one place more
pub passes_more : (s0 s1 s2 : PlaceView) (first safe : Bool) (row k : ℕ) → Passes s0 s1 first safe row k → Misses s1 s2 first safe (place_of row k) → Passes s0 s2 first safe row (k + 1)
passes_more s0 s1 s2 first safe row k p m =
    let l = looked_both s0 s1 s2 (2 * k) 2 p.only m.only in
    let t = s0.view.thread in
    let ok : PoolRules → ℕ → Bool = λ (r : PoolRules) u. fits r.mode first safe u in record {
      only = record { looks = l.looks; looked = l.looked; steps = l.steps; few = let e = l.few in omega arith };
      none = λ q h. ⊎_elim
          (λ (e : q ≡ k). subst (λ j. IsUnavailableTo (may_in s0 first safe) t (p.only.looks ++ m.only.looks) (place_of row j)) (sym e)
          (more_right (may_in s0 first safe) t p.only.looks m.only.looks (place_of row k) (back_to s0 s1 (2 * k) ok m.only.looks (place_of row k) p.only m.none)))
          (λ (ne : q ≢ k). more_left (may_in s0 first safe) t p.only.looks m.only.looks (place_of row q) (p.none q (omega arith)))
          (cases_eq q k);
    }

-- the next place had one
pub list_takes : (s0 s1 s2 : PlaceView) (n : SessionNo) (first safe : Bool) (row k : ℕ) (v : Shown) → Passes s0 s1 first safe row k → k < 64 → Takes s1 s2 n first safe (place_of row k) v
    → TakesInList s0 s2 n first safe row (place_of row k) v
list_takes s0 s1 s2 n first safe row k v p low w = record {
  looks = p.only.looks ++ w.looks;
  few = let e = length-append p.only.looks w.looks in let a = p.only.few in let b = w.few in omega arith;
  took = took_after s0 s1 s2 (2 * k) n first (place_of row k) v w.looks p.only w.took;
  fit = ap (λ (b : BoardTerms). fits b.rules.mode first safe v.face.uses) (sym p.only.steps.terms) ∙ w.fit;
  row_is = refl;
  inside = low;
  before = λ q h. more_left (may_in s0 first safe) s0.view.thread p.only.looks w.looks (place_of row q) (p.none q h);
}

pub passes_none : (s : PlaceView) (first safe : Bool) (row : ℕ) → Stands s.view → Passes s s first safe row 0
passes_none s first safe row k = record { only = looked_none s 0 k; none = λ p h. absurd (omega arith) }

-- a face whose uses the request may not take, in the list that is meant
pub unfit : (s0 s1 : PlaceView) (first safe : Bool) (place : PlaceNo) (found : Found) (f : Face) (r : PoolRules) → Notes s0 s1 (plain (Look s0.view.thread place found)) → r ≡ s1.view.terms.rules
    → fits r.mode first safe f.uses ≡ false → (h : Face) → may_in s0 first safe h.uses ≡ true → Resting f ≢ Resting h
unfit s0 s1 first safe place found f r n is bad =
    let S = notes_steps s0 s1 (plain (Look s0.view.thread place found)) n in
    unfit_face (may_in s0 first safe) f (ap (λ (b : BoardTerms). fits b.rules.mode first safe f.uses) (sym S.terms) ∙ (ap (λ (q : PoolRules). fits q.mode first safe f.uses) (sym is) ∙ bad))

-- the take may be tried
pub can_take : (s0 s1 : PlaceView) (n : SessionNo) (first safe : Bool) (place : PlaceNo) (f : Face) (r : PoolRules) → Notes s0 s1 (plain (Look s0.view.thread place (Resting f))) → r ≡ s1.view.terms.rules
    → fits r.mode first safe f.uses ≡ true → CanTake s1 n first f
can_take s0 s1 n first safe place f r m is good = record {
  face = looked_face s0 s1 place f m;
  may = λ _. ap (λ (q : PoolRules). allows q.mode first f.uses) (sym is) ∙ (fit_true (allows r.mode first f.uses) (is_safe f.uses) safe good).0;
}

pub look_rest : (s0 s1 : PlaceView) (place : PlaceNo) (found : Found) → Notes s0 s1 (plain (Look s0.view.thread place found)) → IsAtRest s0 → IsAtRest s1
look_rest s0 s1 place found n r = looked_rest s0 s1 1 (looked_one s0 s1 place found n) r

-- a look, and a take
pub takes : (s0 s1 s2 s3 : PlaceView) (n : SessionNo) (first safe : Bool) (place : PlaceNo) (f : Face) (v : Shown) (count : ℕ) (r : PoolRules)
    → Notes s0 s1 (plain (Look s0.view.thread place (Resting f))) → r ≡ s1.view.terms.rules → fits r.mode first safe f.uses ≡ true
    → TakesAt s1 s2 n first place f v → Notes s2 s3 (plain (Down s2.view.thread count)) → Takes s0 s3 n first safe place v
takes s0 s1 s2 s3 n first safe place f v count r m is good t d =
    let S = notes_steps s0 s1 (plain (Look s0.view.thread place (Resting f))) m in record {
      looks = plain (Look s0.view.thread place (Resting f)) ∷ [];
      few = omega arith;
      took = took_after s0 s1 s3 1 n first place v [] (looked_one s0 s1 place (Resting f) m) (took_now s1 s2 s3 n first place f v count t d);
      fit = ap (λ (b : BoardTerms). fits b.rules.mode first safe v.face.uses) (sym S.terms)
          ∙ (ap (λ (q : PoolRules). fits q.mode first safe v.face.uses) (sym is) ∙ (ap (λ (g : Face). fits r.mode first safe g.uses) t.face ∙ good));
    }
