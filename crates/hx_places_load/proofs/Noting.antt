-- What a seat's own entries say after one more of them.
use Rattle.std.proofs.Common.{◌≡◌, ℕ, zero, suc, Bool, false, cond, List, [], ◌∷◌, ◌++◌, All, slice_get, refl, sym, ap, ◌∙◌}
use Rattle.std.proofs.Common.{subst, eq-eqb, Option, Some, None}
use Rattle.std.specs.Option.{ForSome}
use Rattle.std.proofs.lemmas.List.Elements.{All-nil, All-cons}
use Rattle.hx_base.specs.declared.numbers.ThreadNo.{ThreadNo}
use Rattle.hx_base.specs.declared.numbers.SessionNo.{SessionNo}
use Rattle.hx_base.specs.declared.numbers.ConnId.{ConnId}
use Rattle.hx_base.specs.declared.numbers.PlaceNo.{PlaceNo}
use Rattle.hx_base.specs.declared.numbers.Face.{Face}
use Rattle.hx_pool.specs.declared.entries.Found.{Found}
use Rattle.hx_pool.specs.declared.entries.Found.TheVariants.{Empty}
use Rattle.hx_pool.specs.declared.entries.Entry.TheVariants.{Open, Look, Up, Gate}
use Rattle.hx_pool.specs.declared.entries.Note.{Note}
use Rattle.hx_pool.specs.Table.{spot_no}
use Rattle.hx_pool.specs.History.{plain}
use Rattle.hx_pool.specs.Held.{Hold, Has, hold_of, hold_after}
use Rattle.hx_pool.proofs.Histories.{hold_from-append}
use Rattle.hx_pool.proofs.Calls.{has_opened}
use Rattle.hx_places.specs.declared.view.View.{View}
use Rattle.hx_places.specs.declared.view.Hand.{Hand}
use Rattle.hx_places.specs.declared.view.Hand.TheVariants.{Idle}
use Rattle.hx_places.specs.declared.board.Board.{Board}
use Rattle.hx_places.specs.Boards.{AreFirst}
use Rattle.hx_places.specs.Turns.{Turn, first_turn, turn_after, turn_from, turn_of}
use Rattle.hx_places.specs.Known.{Known, Unknown, known_by, known_after, known_from, known_of, WasVacant}
use Rattle.hx_places.specs.Asks.{Admission, Shut, Admitted, admission_after, admission_from, admission_of}
use Rattle.hx_places.specs.Views.{Adds}
use Rattle.hx_places.specs.Seats.{PlaceView, Notes, turn}
use Rattle.hx_places_load.specs.Resting.{IsOurs, IsAtRest, IsFresh, Goes, Knows, HasFace}

pub turn_from-append : (s : Turn) (xs ys : List Note) → turn_from s (xs ++ ys) ≡ turn_from (turn_from s xs) ys
turn_from-append s [] ys = refl
turn_from-append s (x ∷ xs) ys = turn_from-append (turn_after s x.entry) xs ys

pub known_from-append : (p : ℕ) (o : Known) (xs ys : List Note)
    → known_from p o (xs ++ ys) ≡ known_from p (known_from p o xs) ys
known_from-append p o [] ys = refl
known_from-append p o (x ∷ xs) ys = known_from-append p (known_after p o x.entry) xs ys

pub admission_from-append : (a : Admission) (xs ys : List Note)
    → admission_from a (xs ++ ys) ≡ admission_from (admission_from a xs) ys
admission_from-append a [] ys = refl
admission_from-append a (x ∷ xs) ys = admission_from-append (admission_after a x.entry) xs ys

-- its own entries
pub mine_more : (hand : Hand) (v w : View) (e : Note) → Adds hand v w e → w.mine ≡ v.mine ++ e ∷ []
mine_more hand v w e a = ap (λ (x : View). x.mine) a.view

-- what it owes
pub turn_more : (hand : Hand) (v w : View) (e : Note) (s : Turn) → Adds hand v w e → turn_of v.mine ≡ s
    → turn_of w.mine ≡ turn_after s e.entry
turn_more hand v w e s a is = ap turn_of (mine_more hand v w e a)
    ∙ (turn_from-append first_turn v.mine (e ∷ []) ∙ ap (λ z. turn_after z e.entry) is)

-- what its session has
pub hold_more : (hand : Hand) (v w : View) (e : Note) (i : ℕ) → Adds hand v w e
    → hold_of w.mine i ≡ hold_after i (hold_of v.mine i) e.entry
hold_more hand v w e i a = ap (λ l. hold_of l i) (mine_more hand v w e a) ∙ hold_from-append i None v.mine (e ∷ [])

-- what it knows of a place
pub known_more : (hand : Hand) (v w : View) (e : Note) (p : ℕ) → Adds hand v w e
    → known_of w.mine p ≡ known_after p (known_of v.mine p) e.entry
known_more hand v w e p a = ap (λ l. known_of l p) (mine_more hand v w e a) ∙ known_from-append p Unknown v.mine (e ∷ [])

-- to what it is admitted
pub admission_more : (hand : Hand) (v w : View) (e : Note) → Adds hand v w e
    → admission_of w.mine ≡ admission_after (admission_of v.mine) e.entry
admission_more hand v w e a = ap admission_of (mine_more hand v w e a) ∙ admission_from-append Shut v.mine (e ∷ [])

pub ours_more : (hand : Hand) (v w : View) (e : Note) → Adds hand v w e → IsOurs v.terms → IsOurs w.terms
ours_more hand v w e a o = subst IsOurs (sym (ap (λ (x : View). x.terms) a.view)) o

-- an entry after which nothing is owed leaves the seat at rest
pub rests_from : (old new : PlaceView) (e : Note) (s : Turn) → Notes old new e → turn old ≡ s
    → old.view.hand ≡ Idle → IsOurs old.view.terms → turn_after s e.entry ≡ first_turn → IsAtRest new
rests_from old new e s n is idle ours calm = record {
  turn_is = turn_more old.view.hand old.view new.view e s n.adds is ∙ calm;
  idle = ap (λ (x : View). x.hand) n.adds.view ∙ idle;
  ours = ours_more old.view.hand old.view new.view e n.adds ours;
}

pub rests_more : (old new : PlaceView) (e : Note) → Notes old new e → IsAtRest old
    → turn_after first_turn e.entry ≡ first_turn → IsAtRest new
rests_more old new e n r calm = rests_from old new e first_turn n r.turn_is r.idle r.ours calm

-- an entry by which no hold changes
pub goes_more : (old new : PlaceView) (e : Note) → Notes old new e
    → ((i : ℕ) (o : Option Hold) → hold_after i o e.entry ≡ o) → Goes old new
goes_more old new e n same = record {
  terms = ap (λ (x : View). x.terms) n.adds.view;
  thread = ap (λ (x : View). x.thread) n.adds.view;
  holds = λ i. hold_more old.view.hand old.view new.view e i n.adds ∙ same i (hold_of old.view.mine i);
}

pub goes_both : (a b c : PlaceView) → Goes a b → Goes b c → Goes a c
goes_both a b c g h = record {
  terms = h.terms ∙ g.terms;
  thread = h.thread ∙ g.thread;
  holds = λ i. h.holds i ∙ g.holds i;
}

-- what the session has stays
pub has_still : (old new : PlaceView) (f : Face) → Goes old new → HasFace old f → HasFace new f
has_still old new f g h = (g.holds f.id.0 ∙ h.0, h.1, h.2)

pub keeps : (old new : PlaceView) (o : Option Face) → Goes old new → ForSome o (HasFace old) → ForSome o (HasFace new)
keeps old new o g h = λ f e. has_still old new f g (h f e)

-- an entry by which the seat learns of no place
pub knows_more : (old new : PlaceView) (e : Note) → Notes old new e
    → ((p : ℕ) (o : Known) → known_after p o e.entry ≡ o) → Knows old new
knows_more old new e n same = λ p. known_more old.view.hand old.view new.view e p n.adds
    ∙ same p (known_of old.view.mine p)

pub knows_both : (a b c : PlaceView) → Knows a b → Knows b c → Knows a c
knows_both a b c g h = λ p. h p ∙ g p

-- a look that shows the place vacant
pub seen_vacant : (old new : PlaceView) (t : ThreadNo) (place : PlaceNo) (found : Found)
    → Notes old new (plain (Look t place found)) → found ≡ Empty → WasVacant new.view.mine place
seen_vacant old new t place found n is =
    known_more old.view.hand old.view new.view (plain (Look t place found)) (spot_no place) n.adds
    ∙ (ap (λ (c : Bool). cond c (known_by found) (known_of old.view.mine (spot_no place)))
    (eq-eqb (spot_no place) (spot_no place) refl)
    ∙ ap known_by is)

-- a new connection has no use
pub has_new : (old new : PlaceView) (t : ThreadNo) (n : SessionNo) (id : ConnId)
    → Notes old new (plain (Open t n id)) → Has new.view.mine n id.0 0
has_new old new t n id notes =
    subst (λ (l : List Note). Has l n id.0 0)
    (sym (mine_more old.view.hand old.view new.view (plain (Open t n id)) notes.adds))
    (has_opened old.view.mine t n id)

-- a Gate that shows ready, and an Up
pub admitted_more : (a b c : PlaceView) (t u : ThreadNo) (count : ℕ) → Notes a b (plain (Gate t false))
    → Notes b c (plain (Up u count)) → admission_of c.view.mine ≡ Admitted
admitted_more a b c t u count g n =
    admission_more b.view.hand b.view c.view (plain (Up u count)) n.adds
    ∙ ap (λ (x : Admission). admission_after x (Up u count))
    (admission_more a.view.hand a.view b.view (plain (Gate t false)) g.adds)

-- what holds of each element that can be read
pub all_of : {A : Type 0} (P : A → Type 0) (xs : List A) → ((k : ℕ) (x : A) → slice_get xs k ≡ Some x → P x) → All P xs
all_of P [] each = All-nil P
all_of P (x ∷ xs) each = All-cons P x xs (each zero x refl) (all_of P xs (λ k y is. each (suc k) y is))

-- the seats of a board's threads have made and seen nothing
pub all_rest : {V : Type 0} (b : Board V) (seats : List PlaceView) → AreFirst b seats → IsOurs b.terms
    → All IsAtRest seats
all_rest b seats first ours = all_of IsAtRest seats (λ k s is. subst IsAtRest (sym (first.each k s is))
    (record { turn_is = refl; idle = refl; ours = ours }))

pub all_fresh : {V : Type 0} (b : Board V) (seats : List PlaceView) → AreFirst b seats → IsOurs b.terms
    → All IsFresh seats
all_fresh b seats first ours = all_of IsFresh seats (λ k s is. subst IsFresh (sym (first.each k s is))
    (record { rest = record { turn_is = refl; idle = refl; ours = ours }; unused = refl }))
