-- The marks of a call, seat by seat.
use Rattle.std.proofs.Common.{◌≡◌, ℕ, zero, suc, ◌+◌, ◌≤◌, Bool, true, false, eqb, List, [], ◌∷◌, ◌++◌, refl, sym, ap, subst, arith, Option, Some, None, eq-eqb}
use Rattle.std.specs.Prelude.{if◌then◌else◌}
use Rattle.std.specs.List.{slice_get, slice_set}
use Rattle.std.proofs.lemmas.List.{append-nil}
use Rattle.std.proofs.lemmas.Bool.{eqb-true}
use Rattle.hx_base.specs.declared.numbers.ThreadNo.{ThreadNo}
use Rattle.hx_base.specs.declared.numbers.SessionNo.{SessionNo}
use Rattle.hx_config.specs.declared.parts.Server.{Server}
use Rattle.hx_pool.specs.declared.entries.Entry.{Entry}
use Rattle.hx_pool.specs.declared.entries.Note.{Note}
use Rattle.hx_pool.specs.SeatView.{History, StandsInOneHistory}
use Rattle.hx_pool.specs.Opening.{ReadsGate}
use Rattle.hx_connecting.specs.Touches.{Touch, touch_marks, marks_at, AddsEach, HasMarks, Balances}
use Rattle.hx_connecting.specs.Choice.{AskedAll}
use Rattle.hx_connecting.specs.Touched.{SeatMarks, AllStand, EachMarks, AddsSome}
use Rattle.hx_connecting.proofs.TouchLemmas.{seat_both, marked_none, marked_gate}

some_is : {A : Type 0} (x y : A) → Some x ≡ Some y → x ≡ y
some_is x y e = cc

same_seat : (h : History) (n : SessionNo) → StandsInOneHistory h → SeatMarks h h n []
same_seat h n one = record {
  added = [];
  makes = record {
    makes = record { about = refl; mine = sym (append-nil h.mine); seen = ([], sym (append-nil h.seen)); was = one; one = one; even = refl };
    passed = refl;
  };
  marked = marked_none n;
}

each_ext : (n : SessionNo) (f g : ℕ → List Entry) (i : ℕ) (olds news : List History) → ((k : ℕ) → i ≤ k → f k ≡ g k) → EachMarks n f i olds news → EachMarks n g i olds news
each_ext n f g i [] [] same e = tt
each_ext n f g i [] (k ∷ news) same e = absurd e
each_ext n f g i (h ∷ olds) [] same e = absurd e
each_ext n f g i (h ∷ olds) (k ∷ news) same e =
    (subst (λ (l : List Entry). SeatMarks h k n l) (same i (omega arith)) e.0, each_ext n f g (i + 1) olds news (λ j le. same j (omega (arith, le))) e.1)

pub each_none : (n : SessionNo) (g : ℕ → List Entry) (i : ℕ) (hs : List History) → AllStand hs → ((k : ℕ) → i ≤ k → g k ≡ []) → EachMarks n g i hs hs
each_none n g i [] all none = tt
each_none n g i (h ∷ hs) all none =
    (subst (λ (l : List Entry). SeatMarks h h n l) (sym (none i (omega arith))) (same_seat h n all.0), each_none n g (i + 1) hs all.1 (λ k le. none k (omega (arith, le))))

-- one seat's calls
pub each_set : (n : SessionNo) (g : ℕ → List Entry) (i j : ℕ) (olds : List History) (h new : History) → AllStand olds → slice_get olds j ≡ Some h → SeatMarks h new n (g (i + j))
    → ((k : ℕ) → i ≤ k → (k ≡ i + j → ⊥) → g k ≡ []) → EachMarks n g i olds (slice_set olds j new)
each_set n g i j [] h new all there one none = cc
each_set n g i zero (o ∷ olds) h new all there one none = (
  subst (λ (q : History). SeatMarks q new n (g i)) (sym (some_is o h there)) (subst (λ (k : ℕ). SeatMarks h new n (g k)) (omega arith) one),
  each_none n g (i + 1) olds all.1 (λ k le. none k (omega (arith, le)) (λ e. omega (arith, le, e))),
)
each_set n g i (suc j) (o ∷ olds) h new all there one none = (
  subst (λ (l : List Entry). SeatMarks o o n l) (sym (none i (omega arith) (λ e. omega (arith, e)))) (same_seat o n all.0),
  each_set n g (i + 1) j olds h new all.1 there (subst (λ (k : ℕ). SeatMarks h new n (g k)) (omega arith) one) (λ k le ne. none k (omega (arith, le)) (λ e. ne (omega (arith, e)))),
)

pub each_both : (n : SessionNo) (f g : ℕ → List Entry) (i : ℕ) (xs bs cs : List History) → EachMarks n f i xs bs → EachMarks n g i bs cs → EachMarks n (λ k. f k ++ g k) i xs cs
each_both n f g i [] [] [] x y = tt
each_both n f g i [] [] (c ∷ cs) x y = absurd y
each_both n f g i [] (b ∷ bs) cs x y = absurd x
each_both n f g i (a ∷ xs) [] cs x y = absurd x
each_both n f g i (a ∷ xs) (b ∷ bs) [] x y = absurd y
each_both n f g i (a ∷ xs) (b ∷ bs) (c ∷ cs) x y = (seat_both a b c n (f i) (g i) x.0 y.0, each_both n f g (i + 1) xs bs cs x.1 y.1)

pub each_stand : (n : SessionNo) (f : ℕ → List Entry) (i : ℕ) (xs bs : List History) → EachMarks n f i xs bs → AllStand bs
each_stand n f i [] [] x = tt
each_stand n f i [] (b ∷ bs) x = absurd x
each_stand n f i (a ∷ xs) [] x = absurd x
each_stand n f i (a ∷ xs) (b ∷ bs) x = (x.0.makes.makes.one, each_stand n f (i + 1) xs bs x.1)

gate_seat : (old new : History) (n : SessionNo) (ready : Bool) → ReadsGate old new ready → SeatMarks old new n []
gate_seat old new n ready k = record { added = _; makes = k; marked = marked_gate n old.about.thread _ }

pub asked_each : (n : SessionNo) (xs : List Server) (ready : Bool) (olds news : List History) → AllStand olds → AskedAll xs ready olds news → EachMarks n (λ k. []) 0 olds news
asked_each n [] ready olds news all same = subst (λ (hs : List History). EachMarks n (λ k. []) 0 olds hs) (sym same) (each_none n (λ k. []) 0 olds all (λ k le. refl))
asked_each n (x ∷ xs) ready olds news all (old, new, mids, there, reads, is, rest) =
    let one : EachMarks n (λ k. []) 0 olds mids = subst (λ (hs : List History). EachMarks n (λ k. []) 0 olds hs) (sym is) (each_set n (λ k. []) 0 x.no.0 olds old new all there (gate_seat old new n ready reads) (λ k le ne. refl)) in
    each_both n (λ k. []) (λ k. []) 0 olds mids news one (asked_each n xs ready mids news (each_stand n (λ k. []) 0 olds mids one) rest)

-- the entries of each seat, xs the call's words have them
add_each : (t : ThreadNo) (n : SessionNo) (first : Bool) (x : Option Touch) (i : ℕ) (olds news : List History) → EachMarks n (λ k. marks_at t n first x k) i olds news
    → (added : List (List Note)) × AddsEach (HasMarks t n first x) i olds news added
add_each t n first x i [] [] e = ([], tt)
add_each t n first x i [] (k ∷ news) e = absurd e
add_each t n first x i (h ∷ olds) [] e = absurd e
add_each t n first x i (h ∷ olds) (k ∷ news) e =
    let rest = add_each t n first x (i + 1) olds news e.1 in
    let es : List Note = e.0.added in
    let m = e.0.marked in
    (es ∷ rest.0, (e.0.makes.makes, record { marks = m.marks; own = m.own; balances = subst (λ (l : List Note). Balances 0 0 l) (append-nil es) (m.keeps 0 [] (λ c. refl)) }, rest.1))

pub here : (t : ThreadNo) (n : SessionNo) (first : Bool) (x : Touch) → touch_marks t n first x ≡ marks_at t n first (Some x) x.server.0
here t n first x = sym (ap (λ (b : Bool). if b then touch_marks t n first x else []) (eq-eqb x.server.0 x.server.0 refl))

pub not_here : (t : ThreadNo) (n : SessionNo) (first : Bool) (x : Touch) (k : ℕ) → (k ≡ x.server.0 → ⊥) → marks_at t n first (Some x) k ≡ []
not_here t n first x k ne = by_test (eqb x.server.0 k) refl
  where
    by_test : (b : Bool) → eqb x.server.0 k ≡ b → (if b then touch_marks t n first x else []) ≡ []
    by_test true e = absurd (ne (sym (eqb-true x.server.0 k e)))
    by_test false e = refl

-- the calls at one seat, behind those that left no mark
pub adds_at : (t : ThreadNo) (n : SessionNo) (first : Bool) (x : Touch) (olds mids : List History) (h new : History) → AllStand olds → EachMarks n (λ k. []) 0 olds mids
    → slice_get mids x.server.0 ≡ Some h → h.about.thread ≡ t → SeatMarks h new n (touch_marks h.about.thread n first x) → AddsSome t n first (Some x) olds (slice_set mids x.server.0 new)
adds_at t n first x olds mids h new all asked there thread one =
    let g : ℕ → List Entry = λ k. marks_at t n first (Some x) k in
    let mine : SeatMarks h new n (g x.server.0) = subst (λ (l : List Entry). SeatMarks h new n l) (here t n first x) (subst (λ (u : ThreadNo). SeatMarks h new n (touch_marks u n first x)) thread one) in
    let set : EachMarks n g 0 mids (slice_set mids x.server.0 new) = each_set n g 0 x.server.0 mids h new (each_stand n (λ k. []) 0 olds mids asked) there (subst (λ (k : ℕ). SeatMarks h new n (g k)) (omega arith) mine) (λ k le ne. not_here t n first x k (λ e. ne (omega (arith, e)))) in
    add_each t n first (Some x) 0 olds (slice_set mids x.server.0 new) (each_both n (λ k. []) g 0 olds mids (slice_set mids x.server.0 new) asked set)

-- where no connection was touched
pub adds_none : (t : ThreadNo) (n : SessionNo) (first : Bool) (olds mids : List History) → EachMarks n (λ k. []) 0 olds mids → AddsSome t n first None olds mids
adds_none t n first olds mids asked = add_each t n first None 0 olds mids asked

pub adds_none_at : (t : ThreadNo) (n : SessionNo) (first : Bool) (j : ℕ) (olds mids : List History) (h new : History) → EachMarks n (λ k. []) 0 olds mids
    → slice_get mids j ≡ Some h → SeatMarks h new n [] → AddsSome t n first None olds (slice_set mids j new)
adds_none_at t n first j olds mids h new asked there one =
    let news : List History = slice_set mids j new in
    add_each t n first None 0 olds news (each_both n (λ k. []) (λ k. []) 0 olds mids news asked
    (each_set n (λ k. []) 0 j mids h new (each_stand n (λ k. []) 0 olds mids asked) there one (λ k le ne. refl)))
