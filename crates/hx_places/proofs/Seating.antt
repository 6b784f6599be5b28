-- What a thread's seat keeps over a step.
use Rattle.std.proofs.Common.{◌≡◌, ◌≢◌, ℕ, ◌+◌, ◌<◌, ◌≤◌, Bool, cond, eqb, eq-eqb, List, [], ◌∷◌, ◌++◌, sym, refl, ap}
use Rattle.std.proofs.Common.{◌∙◌, subst, arith, Option, Some, None, IsSome}
use Rattle.std.proofs.lemmas.List.{append-nil}
use Rattle.hx_base.specs.declared.numbers.ThreadNo.{ThreadNo}
use Rattle.hx_pool.specs.declared.board.BoardTerms.{BoardTerms}
use Rattle.hx_pool.specs.declared.entries.Entry.{Entry}
use Rattle.hx_pool.specs.declared.entries.Note.{Note}
use Rattle.hx_pool.specs.History.{thread_of, own_of, opens_of, is_open, MeetsNeeds}
use Rattle.hx_pool.proofs.Histories.{own_of-append, opens_of-append, EachStep-second}
use Rattle.hx_places.specs.declared.view.View.{View}
use Rattle.hx_places.specs.declared.view.Hand.{Hand}
use Rattle.hx_pool.specs.declared.entries.Entry.TheVariants.{Gate, Take, Look}
use Rattle.hx_places.specs.Turns.{Turn, Due, Settled, WentUp, HasTaken, Call, AtEase, HasParked, FoundDrain, turn_of}
use Rattle.hx_places.specs.Turns.{CountsInTurn, FollowsPark, MayTurn}
use Rattle.hx_places.specs.Right.{IsRight}
use Rattle.hx_places.specs.Views.{noting, claiming, worker, told_by, Adds, Hears, Won, WasThere}
use Rattle.hx_places.specs.Seats.{PlaceView, Stands, Notes, KeepsSeat}
use Rattle.hx_places.specs.Asks.{MayReadGate, MayTry}
use Rattle.atomic_table.specs.Seated.{TableId}
use Rattle.hx_base.specs.declared.numbers.SessionNo.{SessionNo}
use Rattle.atomic_table.specs.Table.{Me}
use Rattle.hx_base.specs.declared.numbers.PlaceNo.{PlaceNo}
use Rattle.hx_base.specs.declared.numbers.Face.{Face}
use Rattle.hx_base.specs.Shown.{Shown}
use Rattle.hx_base.specs.PlaceWords.{resting_word}
use Rattle.hx_pool.specs.declared.entries.Found.{Found}
use Rattle.hx_pool.specs.declared.entries.Found.TheVariants.{Resting}
use Rattle.hx_pool.specs.Table.{empty_table, spot_no, Holds}
use Rattle.hx_pool.specs.Taking.{taken}
use Rattle.hx_places.specs.Known.{known_of, HasEmptied}
use Rattle.hx_pool.specs.Held.{Has, hold_from}
use Rattle.hx_pool.proofs.Holding.{holds_along}
use Rattle.hx_pool.proofs.Tables.{sound_empty}
use Rattle.hx_places.proofs.Knowing.{held_drawn, known_more}
use Rattle.hx_places.proofs.Turning.{turn_more}
use Rattle.hx_places.proofs.Opens.{next_small}
use Rattle.hx_places.proofs.Lists.{own_more}
use Rattle.hx_places.proofs.OwnRow.{own_row}
use Rattle.hx_places.proofs.Rightness.{right_start}

pub at_ease : (max : Option ℕ) (s : Turn) (e : Entry) → s.call ≡ AtEase → CountsInTurn max s.due e → MayTurn max s e
at_ease max s e ease counts = (counts, subst (λ c. FollowsPark c e) (sym ease) tt)

own_between : (t : ThreadNo) (v : View) (between : List Note) → v.mine ≡ own_of t v.seen → own_of t between ≡ []
    → v.mine ≡ own_of t (v.seen ++ between)
own_between t v between own others = own
    ∙ (sym (append-nil (own_of t v.seen))
    ∙ (ap (λ l. own_of t v.seen ++ l) (sym others) ∙ sym (own_of-append t v.seen between)))

opens_more : (mine : List Note) (e : Note) (opened opened' : ℕ) → opened ≡ opens_of mine
    → opened' ≡ opened + cond (is_open e) 1 0 → opened' ≡ opens_of (mine ++ e ∷ [])
opens_more mine e opened opened' is more = let a = opens_of-append mine (e ∷ []) in omega arith

-- one entry on
pub after_note : (b : BoardTerms) (t : ThreadNo) (opened opened' : ℕ) (hand : Hand) (v w : View) (e : Note)
    → KeepsSeat b t opened v → Adds hand v w e → thread_of e.entry ≡ t → opened' ≡ opened + cond (is_open e) 1 0
    → KeepsSeat b t opened' w
after_note b t opened opened' hand v w e k a mine more = subst (KeepsSeat b t opened') (sym a.view) record {
  role = k.role;
  terms = k.terms;
  thread = k.thread;
  low = k.low;
  few = k.few;
  own = ap (λ l. l ++ e ∷ [])
      (own_between t v a.between k.own (subst (λ (u : ThreadNo). own_of u a.between ≡ []) k.thread a.others))
      ∙ sym (own_more t (v.seen ++ a.between) e mine);
  right = subst (λ (x : BoardTerms). IsRight x ((v.seen ++ a.between) ++ e ∷ [])) k.terms a.right;
  opened_is = opens_more v.mine e opened opened' k.opened_is more;
}

pub after_claim : (b : BoardTerms) (t : ThreadNo) (opened : ℕ) (v w : View) (p : ℕ) → KeepsSeat b t opened v
    → w ≡ claiming v p → KeepsSeat b t opened w
after_claim b t opened v w p k is =
    subst (KeepsSeat b t opened)
    (sym is) record {
      role = k.role;
      terms = k.terms;
      thread = k.thread;
      low = k.low;
      few = k.few;
      own = k.own;
      right = k.right;
      opened_is = k.opened_is;
    }

pub after_hearing : (b : BoardTerms) (t : ThreadNo) (opened : ℕ) (v w : View) → KeepsSeat b t opened v → Hears v w
    → KeepsSeat b t opened w
after_hearing b t opened v w k h = subst (KeepsSeat b t opened) (sym h.view) record {
  role = k.role;
  terms = k.terms;
  thread = k.thread;
  low = k.low;
  few = k.few;
  own = own_between t v h.between k.own (subst (λ (u : ThreadNo). own_of u h.between ≡ []) k.thread h.others);
  right = subst (λ (x : BoardTerms). IsRight x (v.seen ++ h.between)) k.terms h.right;
  opened_is = k.opened_is;
}

-- a new seat has seen nothing
pub keeps_first : (b : BoardTerms) (t : ThreadNo) (v : View) → b.threads ≤ 16 → t.0 < b.threads → v ≡ worker b t
    → KeepsSeat b t 0 v
keeps_first b t v few low is =
    subst (KeepsSeat b t 0)
    (sym is) record {
      role = refl;
      terms = refl;
      thread = refl;
      low = low;
      few = few;
      own = refl;
      right =
          right_start b;
      opened_is = refl;
    }

abbrev value_or : {C : Type 0} → Option C → List (ℕ × Option C) → Option C
value_or d [] = d
value_or d (x ∷ xs) = x.1

pub slot_value : {C : Type 0} (k : ℕ) (x y : Option C) (l a b : List (ℕ × Option C)) → l ≡ (k, x) ∷ a
    → l ≡ (k, y) ∷ b → x ≡ y
slot_value k x y l a b e f = ap (value_or x) (sym e ∙ f)

pub some_value : {C : Type 0} (x y : C) → Some x ≡ Some y → x ≡ y
some_value x y e = (cc)

pub is_some_of : {C : Type 0} (x : Option C) (c : C) → x ≡ Some c → IsSome x
is_some_of x c e = subst IsSome (sym e) refl

pub may_gate : (c : Call) (t : ThreadNo) (draining : Bool) → MayReadGate c → FollowsPark c (Gate t draining)
may_gate AtEase t draining may = tt
may_gate (HasParked place f) t draining may = tt
may_gate (FoundDrain place f) t draining may = absurd may

pub after_told : (b : BoardTerms) (t : ThreadNo) (opened : ℕ) (v x w : View) → KeepsSeat b t opened v
    → w ≡ told_by v x → KeepsSeat b t opened w
after_told b t opened v x w k is =
    subst (KeepsSeat b t opened)
    (sym is) record {
      role = k.role;
      terms = k.terms;
      thread = k.thread;
      low = k.low;
      few = k.few;
      own = k.own;
      right = k.right;
      opened_is = k.opened_is;
    }

pub seat_is : (board board' : TableId) (v w : View) → board' ≡ board → w ≡ v
    → record { board = board'; view = w } ≡ (let r : PlaceView = record { board = board; view = v } in r)
seat_is board board' v w a b = λ i. record { board = a i; view = b i }

-- a connection that a session of the seat has, has a number that was drawn
pub has_number : (b : BoardTerms) (t : ThreadNo) (opened : ℕ) (v : View) (n : SessionNo) (i uses : ℕ)
    → KeepsSeat b t opened v → Has v.mine n i uses → (0 < i) × (i < 1099511627776)
has_number b t opened v n i uses k has =
    let held = holds_along empty_table v.seen t i None sound_empty k.right.legal (λ j e. cc)
    (record { session = n; uses = uses }) (ap (hold_from i None) (sym k.own) ∙ has) in
    let drawn = held_drawn v.seen i t n k.right.legal held.0 in
    let low = next_small b v.seen k.right k.few in
    let d = drawn.1 in (drawn.0, omega arith)

-- what a step tells of the view after an exchange, which leaves the view as it is
pub publishes_from : {hand : Hand} (v x w : View) (e e' : Note) → x ≡ v → e' ≡ e → Adds hand x w e' → Adds hand v w e
publishes_from {hand} v x w e e' same is a = subst (λ (z : View × Note). Adds hand z.0 w z.1) (λ i. (same i, is i)) a

pub try_take : (c : Call) (at : PlaceNo) (f : Face) (t : ThreadNo) (n : SessionNo) (first : Bool) → MayTry c at f
    → FollowsPark c (Take t n first at f.id f.uses)
try_take AtEase at f t n first may = tt
try_take (HasParked place g) at f t n first may = absurd may
try_take (FoundDrain place g) at f t n first may = may.0

pub try_look : (c : Call) (at : PlaceNo) (f : Face) (t : ThreadNo) (found : Found) → found ≢ Resting f
    → MayTry c at f → FollowsPark c (Look t at found)
try_look AtEase at f t found other may = tt
try_look (HasParked place g) at f t found other may = absurd may
try_look (FoundDrain place g) at f t found other may = (may.0, λ e. other (e ∙ ap Resting (sym may.1)))

pub hits : (word : ℕ) (f : Face) (a b : Note) → word ≡ resting_word f.id.0 f.uses
    → cond (eqb word (resting_word f.id.0 f.uses)) a b ≡ a
hits word f a b e = ap (λ c. cond c a b) (eq-eqb word (resting_word f.id.0 f.uses) e)

-- what a won slot tells, of another note that is the same
pub takes_from : {V : Type 0} (shows : V → Shown) (p : ℕ) (m m' : Me (Option V) View) (e e' : Note)
    (won : Won shows p m m' e) → e' ≡ e
    → (a : Adds m.0.hand m.0 m'.0 e') × WasThere m.0.terms (m.0.seen ++ a.between) p (shows won.v)
takes_from shows p m m' e e' won is = let a = won.adds in (
  record {
    between = a.between;
    others = a.others;
    view = a.view ∙ ap (noting m.0 m.0.hand (m.0.seen ++ a.between)) (sym is);
    right = subst (λ (z : Note). IsRight m.0.terms ((m.0.seen ++ a.between) ++ z ∷ [])) (sym is) a.right;
  },
  won.there,
)

mine_of : (hand : Hand) (v w : View) (e : Note) → Adds hand v w e → w.mine ≡ v.mine ++ e ∷ []
mine_of hand v w e a = ap (λ (x : View). x.mine) a.view

pub took_turn : (hand : Hand) (v w : View) (t : ThreadNo) (n : SessionNo) (first : Bool) (place : PlaceNo) (f : Face)
    → Adds hand v w (taken t n first place f) → (turn_of w.mine).call ≡ AtEase
took_turn hand v w t n first place f a = ap (λ l. (turn_of l).call) (mine_of hand v w (taken t n first place f) a)
    ∙ ap (λ s. s.call) (turn_more v.mine (taken t n first place f))

pub took_known : (hand : Hand) (v w : View) (t : ThreadNo) (n : SessionNo) (first : Bool) (place : PlaceNo)
    (f : Face) → Adds hand v w (taken t n first place f) → known_of w.mine (spot_no place) ≡ HasEmptied
took_known hand v w t n first place f a =
    ap (λ l. known_of l (spot_no place)) (mine_of hand v w (taken t n first place f) a)
    ∙ (known_more v.mine (spot_no place) (taken t n first place f)
    ∙ ap (λ c. cond c HasEmptied (known_of v.mine (spot_no place))) (eq-eqb (spot_no place) (spot_no place) refl))

-- a Take has the face of what rested
pub took_face : (hand : Hand) (v w : View) (t : ThreadNo) (n : SessionNo) (first : Bool) (place : PlaceNo) (f : Face)
    (s : Shown) → (a : Adds hand v w (taken t n first place f))
    → WasThere v.terms (v.seen ++ a.between) (spot_no place) s → s.face ≡ f
took_face hand v w t n first place f s a there =
    let need = (EachStep-second MeetsNeeds empty_table (v.seen ++ a.between)
    (taken t n first place f ∷ []) a.right.legal).0.1 in
    holds_inj s.face f (sym there.stood ∙ need)
  where
    holds_inj : (f g : Face) → Holds f ≡ Holds g → f ≡ g
    holds_inj f g e = cc

-- what the store that follows an exchange tells
pub frees_from : (hand : Hand) (v x w : View) (e e' : Note) → x ≡ v → v.hand ≡ hand → e' ≡ e → Adds x.hand x w e'
    → Adds hand v w e
frees_from hand v x w e e' same held is a =
    subst (λ (h : Hand). Adds h v w e) held
    (subst (λ (z : View × Note). Adds z.0.hand z.0 w z.1) (λ i. (same i, is i)) a)

pub stands_of : (b : BoardTerms) (t : ThreadNo) (opened : ℕ) (v : View) → KeepsSeat b t opened v → Stands v
stands_of b t opened v k =
    let own = subst (λ (u : ThreadNo). v.mine ≡ own_of u v.seen) (sym k.thread) k.own in record {
      right = subst (λ (x : BoardTerms). IsRight x v.seen) (sym k.terms) k.right;
      own = own;
      row = λ p. own_row v.seen v.thread p v.mine k.right.legal own;
      low = subst (λ (z : ThreadNo × BoardTerms). z.0.0 < z.1.threads) (λ i. (sym k.thread i, sym k.terms i)) k.low;
      few = subst (λ (x : BoardTerms). x.threads ≤ 16) (sym k.terms) k.few;
    }

-- what a call with one entry owes
pub notes_from : {hand : Hand} (board board' : TableId) (b : BoardTerms) (t : ThreadNo) (opened opened' : ℕ)
    (v w : View) (e e' : Note) → KeepsSeat b t opened v → board' ≡ board → e' ≡ e → thread_of e.entry ≡ v.thread
    → opened' ≡ opened + cond (is_open e) 1 0 → Adds hand v w e'
    → (a : Adds hand v w e) × Stands v × Stands w × KeepsSeat b t opened' w
notes_from {hand} board board' b t opened opened' v w e e' k same is mine more a' =
    let a : Adds hand v w e = subst (λ (z : Note). Adds hand v w z) is a' in
    let k' = after_note b t opened opened' hand v w e k a (mine ∙ k.thread) more in
    (a, stands_of b t opened v k, stands_of b t opened' w k', k')

pub notes_of : (board board' : TableId) (b : BoardTerms) (t : ThreadNo) (opened opened' : ℕ) (v w : View)
    (e e' : Note) → KeepsSeat b t opened v → board' ≡ board → e' ≡ e → thread_of e.entry ≡ v.thread
    → opened' ≡ opened + cond (is_open e) 1 0 → Adds v.hand v w e'
    → Notes (record { board = board; view = v }) (record { board = board'; view = w }) e
notes_of board board' b t opened opened' v w e e' k same is mine more a =
    let all = notes_from board board' b t opened opened' v w e e' k same is mine more a in
    record { board = same; adds = all.0; was = all.1; one = all.2 }

pub went_up : (old : ℕ) → WentUp old ≡ Settled → ⊥
went_up old e = cc

-- after a Park the drain state may be read
pub gate_due : (s : PlaceView) (place : PlaceNo) (f : Face) {d : Due}
    → turn_of s.view.mine ≡ record { due = d; call = HasParked place f } → MayReadGate (turn_of s.view.mine).call
gate_due s place f is = subst MayReadGate (sym (ap (λ (z : Turn). z.call) is)) tt

pub has_taken : HasTaken ≡ Settled → ⊥
has_taken e = cc

-- what is owed once the drain state was read after a Park
abbrev pub settled_turn : PlaceNo → Face → Bool → Turn
settled_turn place f draining = record { due = Settled; call = cond draining (FoundDrain place f) AtEase }
