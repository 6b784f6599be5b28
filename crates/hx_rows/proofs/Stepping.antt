-- Steps, one after another, and what a thread owes and knows by them.
use Rattle.std.proofs.Common.{◌≡◌, ℕ, Bool, false, cond, List, [], ◌∷◌, ◌++◌, refl, sym, ap, ◌∙◌, subst, append_assoc, Option, None, eq-eqb}
use Rattle.std.proofs.lemmas.List.{append-nil, append_cancel_left}
use Rattle.hx_base.specs.declared.numbers.ThreadNo.{ThreadNo}
use Rattle.hx_base.specs.declared.numbers.SessionNo.{SessionNo}
use Rattle.hx_base.specs.declared.numbers.PlaceNo.{PlaceNo}
use Rattle.hx_base.specs.declared.numbers.Face.{Face}
use Rattle.hx_base.specs.Shown.{Shown}
use Rattle.hx_pool.specs.declared.entries.Found.TheVariants.{Empty}
use Rattle.hx_pool.specs.declared.entries.Entry.TheVariants.{Free, Look, Gate, Up}
use Rattle.hx_pool.specs.declared.entries.Note.{Note}
use Rattle.hx_pool.specs.Table.{spot_no}
use Rattle.hx_pool.specs.History.{plain, own_of, IsEven}
use Rattle.hx_pool.specs.Held.{Hold, hold_of, hold_from}
use Rattle.hx_pool.specs.Causes.{AllLooks}
use Rattle.hx_pool.specs.SeatView.{IsOneHistory, Makes, Calls, about_of}
use Rattle.hx_pool.specs.Taking.{taken}
use Rattle.hx_pool.proofs.Histories.{own_of-append, hold_from-append}
use Rattle.hx_places.specs.declared.view.View.{View}
use Rattle.hx_places.specs.declared.view.Hand.TheVariants.{Idle}
use Rattle.hx_places.specs.Turns.{Turn, first_turn, turn_of, turn_from, turn_after}
use Rattle.hx_places.specs.Known.{Known, Unknown, SeenVacant, WasVacant, known_after, known_of, known_from}
use Rattle.hx_places.specs.Asks.{Admission, Shut, Admitted, admission_after, admission_from, admission_of}
use Rattle.hx_places.specs.Seats.{PlaceView, about, history_of, turn, claiming_at, Stands, Notes, Publishes, TakesAt}
use Rattle.hx_rows.specs.Steps.{Steps, IsAtRest}

pub stands_one : (s : PlaceView) → Stands s.view → IsOneHistory (about s) s.view.seen s.view.mine
stands_one s k = record {
  legal = k.right.legal;
  mode = k.right.mode;
  limit = k.right.limit;
  own_part = sym k.own;
  threads = k.right.threads;
  inside = (k.low, k.few);
}

pub steps_none : (s : PlaceView) → Stands s.view → Steps s s []
steps_none s k = record {
  board = refl;
  terms = refl;
  thread = refl;
  hand = refl;
  mine = sym (append-nil s.view.mine);
  between = [];
  seen = sym (append-nil s.view.seen);
  was = k;
  one = k;
}

pub steps_both : (a b c : PlaceView) (xs ys : List Note) → Steps a b xs → Steps b c ys → Steps a c (xs ++ ys)
steps_both a b c xs ys s t = record {
  board = t.board ∙ s.board;
  terms = t.terms ∙ s.terms;
  thread = t.thread ∙ s.thread;
  hand = t.hand ∙ s.hand;
  mine = t.mine ∙ (ap (λ l. l ++ ys) s.mine ∙ append_assoc a.view.mine xs ys);
  between = s.between ++ t.between;
  seen = t.seen ∙ (ap (λ l. l ++ t.between) s.seen ∙ append_assoc a.view.seen s.between t.between);
  was = s.was;
  one = t.one;
}

pub notes_steps : (old new : PlaceView) (e : Note) → Notes old new e → Steps old new (e ∷ [])
notes_steps old new e n =
    let a = n.adds in record {
      board = n.board;
      terms = ap (λ (v : View). v.terms) a.view;
      thread = ap (λ (v : View). v.thread) a.view;
      hand = ap (λ (v : View). v.hand) a.view;
      mine = ap (λ (v : View). v.mine) a.view;
      between = a.between ++ e ∷ [];
      seen = ap (λ (v : View). v.seen) a.view ∙ append_assoc old.view.seen a.between (e ∷ []);
      was = n.was;
      one = n.one;
    }

-- a note behind other steps, with the thread of the first
pub note_steps : (a b c : PlaceView) (xs : List Note) (f : ThreadNo → Note) → Steps a b xs → Notes b c (f b.view.thread) → Steps b c (f a.view.thread ∷ [])
note_steps a b c xs f s n = subst (λ t. Steps b c (f t ∷ [])) s.thread (notes_steps b c (f b.view.thread) n)

pub note_then : (a b c : PlaceView) (xs : List Note) (f : ThreadNo → Note) → Steps a b xs → Notes b c (f b.view.thread) → Steps a c (xs ++ f a.view.thread ∷ [])
note_then a b c xs f s n = steps_both a b c xs (f a.view.thread ∷ []) s (note_steps a b c xs f s n)

-- a claim makes no entry, and the Park of its place one
pub publish_steps : (old new : PlaceView) (place : PlaceNo) (e : Note) → old.view.hand ≡ Idle → Publishes (claiming_at old place) new e → Steps old new (e ∷ [])
publish_steps old new place e idle n =
    let a = n.adds in record {
      board = n.board;
      terms = ap (λ (v : View). v.terms) a.view;
      thread = ap (λ (v : View). v.thread) a.view;
      hand = ap (λ (v : View). v.hand) a.view ∙ sym idle;
      mine = ap (λ (v : View). v.mine) a.view;
      between = a.between ++ e ∷ [];
      seen = ap (λ (v : View). v.seen) a.view ∙ append_assoc old.view.seen a.between (e ∷ []);
      was = record { right = n.was.right; own = n.was.own; row = n.was.row; low = n.was.low; few = n.was.few };
      one = n.one;
    }

-- a take makes two entries
pub takes_steps : (old new : PlaceView) (n : SessionNo) (first : Bool) (place : PlaceNo) (f : Face) (v : Shown) → TakesAt old new n first place f v
    → Steps old new (taken old.view.thread n first place f ∷ plain (Free old.view.thread place) ∷ [])
takes_steps old new n first place f v t =
    let take : Note = taken old.view.thread n first place f in
    let free : Note = plain (Free old.view.thread place) in
    let a = t.takes in
    let c = t.frees in record {
      board = t.board;
      terms = ap (λ (x : View). x.terms) c.view ∙ ap (λ (x : View). x.terms) a.view;
      thread = ap (λ (x : View). x.thread) c.view ∙ ap (λ (x : View). x.thread) a.view;
      hand = ap (λ (x : View). x.hand) c.view;
      mine = ap (λ (x : View). x.mine) c.view ∙ (ap (λ (x : View). x.mine ++ free ∷ []) a.view ∙ append_assoc old.view.mine (take ∷ []) (free ∷ []));
      between = a.between ++ take ∷ (c.between ++ free ∷ []);
      seen = ap (λ (x : View). x.seen) c.view ∙ (ap (λ (x : View). (x.seen ++ c.between) ++ free ∷ []) a.view
          ∙ (append_assoc ((old.view.seen ++ a.between) ++ take ∷ []) c.between (free ∷ [])
          ∙ (append_assoc (old.view.seen ++ a.between) (take ∷ []) (c.between ++ free ∷ [])
          ∙ append_assoc old.view.seen a.between (take ∷ (c.between ++ free ∷ [])))));
      was = t.was;
      one = t.one;
    }

-- of what was seen meanwhile just these entries are the thread's own
pub gained : (old new : PlaceView) (added : List Note) → (s : Steps old new added) → own_of old.view.thread s.between ≡ added
gained old new added s =
    let t = old.view.thread in
    append_cancel_left (own_of t old.view.seen) (own_of t s.between) added
    (sym (own_of-append t old.view.seen s.between)
    ∙ (ap (λ (l : List Note). own_of t l) (sym s.seen)
    ∙ (ap (λ (u : ThreadNo). own_of u new.view.seen) (sym s.thread)
    ∙ (sym s.one.own ∙ (s.mine ∙ ap (λ l. l ++ added) s.was.own)))))

-- a call made of steps whose entries are even is one of the trait of all seats
pub makes_of : (old new : PlaceView) (added : List Note) (p q : Option ℕ) → Steps old new added → IsEven added → Makes (history_of old p) (history_of new q) added
makes_of old new added p q s even = record {
  about = λ i. about_of (s.terms i) (s.thread i) (s.board i);
  mine = s.mine;
  seen = (s.between, s.seen);
  was = stands_one old s.was;
  one = stands_one new s.one;
  even = even;
}

pub calls_of : (old new : PlaceView) (added : List Note) (p : Option ℕ) → Steps old new added → IsEven added → Calls (history_of old p) (history_of new p) added
calls_of old new added p s even = record { makes = makes_of old new added p p s even; passed = refl }

pub turn_from-append : (s : Turn) (xs ys : List Note) → turn_from s (xs ++ ys) ≡ turn_from (turn_from s xs) ys
turn_from-append s [] ys = refl
turn_from-append s (x ∷ xs) ys = turn_from-append (turn_after s x.entry) xs ys

-- what a thread owes, some entries on
pub turn_steps : (old new : PlaceView) (added : List Note) (s : Turn) → Steps old new added → turn old ≡ s → turn new ≡ turn_from s added
turn_steps old new added s k is = ap turn_of k.mine ∙ (turn_from-append first_turn old.view.mine added ∙ ap (λ z. turn_from z added) is)

pub looks_turn : (t : ThreadNo) (looks : List Note) → AllLooks t looks → turn_from first_turn looks ≡ first_turn
looks_turn t [] l = refl
looks_turn t (x ∷ xs) l = ap (λ (y : Note). turn_from (turn_after first_turn y.entry) xs) l.0.2 ∙ looks_turn t xs l.1

-- looks leave a seat at rest
pub looks_rest : (old new : PlaceView) (looks : List Note) → Steps old new looks → AllLooks old.view.thread looks → IsAtRest old → IsAtRest new
looks_rest old new looks k l r = record {
  turn_is = turn_steps old new looks first_turn k r.turn_is ∙ looks_turn old.view.thread looks l;
  idle = k.hand ∙ r.idle;
}

-- which session has a connection, some entries on
pub hold_steps : (old new : PlaceView) (added : List Note) (i : ℕ) (o : Option Hold) → Steps old new added → hold_of old.view.mine i ≡ o → hold_of new.view.mine i ≡ hold_from i o added
hold_steps old new added i o k is = ap (λ l. hold_of l i) k.mine ∙ (hold_from-append i None old.view.mine added ∙ ap (λ z. hold_from i z added) is)

known_from-append : (p : ℕ) (o : Known) (xs ys : List Note) → known_from p o (xs ++ ys) ≡ known_from p (known_from p o xs) ys
known_from-append p o [] ys = refl
known_from-append p o (x ∷ xs) ys = known_from-append p (known_after p o x.entry) xs ys

-- what is known of a place, some entries on
pub known_steps : (old new : PlaceView) (added : List Note) (p : ℕ) (o : Known) → Steps old new added → known_of old.view.mine p ≡ o → known_of new.view.mine p ≡ known_from p o added
known_steps old new added p o k is = ap (λ l. known_of l p) k.mine ∙ (known_from-append p Unknown old.view.mine added ∙ ap (λ z. known_from p z added) is)

-- a look that shows the place vacant
pub looked_vacant : (old new : PlaceView) (t : ThreadNo) (place : PlaceNo) → Steps old new (plain (Look t place Empty) ∷ []) → WasVacant new.view.mine place
looked_vacant old new t place k =
    known_steps old new (plain (Look t place Empty) ∷ []) (spot_no place) (known_of old.view.mine (spot_no place)) k refl
    ∙ ap (λ c. cond c SeenVacant (known_of old.view.mine (spot_no place))) (eq-eqb (spot_no place) (spot_no place) refl)

admission_from-append : (a : Admission) (xs ys : List Note) → admission_from a (xs ++ ys) ≡ admission_from (admission_from a xs) ys
admission_from-append a [] ys = refl
admission_from-append a (x ∷ xs) ys = admission_from-append (admission_after a x.entry) xs ys

-- an Up after a Gate that shows ready
pub admits_behind : (a b : PlaceView) (xs : List Note) (t : ThreadNo) (old : ℕ) → Steps a b (xs ++ plain (Gate t false) ∷ plain (Up t old) ∷ []) → admission_of b.view.mine ≡ Admitted
admits_behind a b xs t old k = ap admission_of k.mine
    ∙ (admission_from-append Shut a.view.mine (xs ++ plain (Gate t false) ∷ plain (Up t old) ∷ [])
    ∙ admission_from-append (admission_of a.view.mine) xs (plain (Gate t false) ∷ plain (Up t old) ∷ []))
