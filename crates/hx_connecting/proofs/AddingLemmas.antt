-- The entries of calls, seat by seat.
use Rattle.std.proofs.Common.{◌≡◌, ℕ, zero, suc, ◌+◌, ◌≤◌, Bool, List, [], ◌∷◌, ◌++◌, refl, sym, subst, ◌∙◌, arith, Option, Some, None}
use Rattle.std.specs.List.{slice_get, slice_set}
use Rattle.std.proofs.lemmas.List.{append-nil}
use Rattle.hx_base.specs.declared.numbers.ThreadNo.{ThreadNo}
use Rattle.hx_base.specs.declared.numbers.SessionNo.{SessionNo}
use Rattle.hx_pool.specs.declared.entries.Entry.{Entry}
use Rattle.hx_pool.specs.declared.entries.Note.{Note}
use Rattle.hx_pool.specs.SeatView.{History, StandsInOneHistory}
use Rattle.hx_pool.proofs.Calls.{makes_both}
use Rattle.hx_connecting.specs.Adding.{SeatAdds, EachAdds, AddsFor}
use Rattle.hx_connecting.specs.Holds.{HoldsConn}
use Rattle.hx_connecting.specs.Sessions.{Holding}
use Rattle.hx_connecting.specs.Touches.{Touch, touch_marks, marks_at, AddsEach, EachSeat, HasMarks, Balances}
use Rattle.hx_connecting.specs.Touched.{SeatMarks, AllStand}
use Rattle.hx_connecting.specs.Wanted.{OpensWereWanted}
use Rattle.hx_connecting.proofs.EachLemmas.{here, not_here}
use Rattle.hx_connecting.proofs.TouchLemmas.{marked_both, marked_none}
use Rattle.hx_connecting.proofs.WantedLemmas.{OpenNone, wanted_none, wanted_both, wanted_later, wanted_behind}

some_is : {A : Type 0} (x y : A) → Some x ≡ Some y → x ≡ y
some_is x y e = cc

-- a call that opened nothing
pub seat_adds : (old new : History) (n : SessionNo) (first : Bool) (ms : List Entry) → OpenNone ms → (s : SeatMarks old new n ms) → SeatAdds old new n first ms s.added
seat_adds old new n first ms none s = record {
  makes = s.makes;
  marked = s.marked;
  wanted = wanted_none new first [] s.added (subst OpenNone (sym s.marked.marks) none);
}

-- no call
same_adds : (h : History) (n : SessionNo) (first : Bool) → StandsInOneHistory h → SeatAdds h h n first [] []
same_adds h n first one = record {
  makes = record {
    makes = record { about = refl; mine = sym (append-nil h.mine); seen = ([], sym (append-nil h.seen)); was = one; one = one; even = refl };
    passed = refl;
  };
  marked = marked_none n;
  wanted = tt;
}

-- one call behind another
pub both_adds : (a b c : History) (n : SessionNo) (first : Bool) (ms ks : List Entry) (xs ys : List Note) → SeatAdds a b n first ms xs → SeatAdds b c n first ks ys → SeatAdds a c n first (ms ++ ks) (xs ++ ys)
both_adds a b c n first ms ks xs ys x y = record {
  makes = record { makes = makes_both a b c xs ys x.makes.makes y.makes.makes; passed = y.makes.passed ∙ x.makes.passed };
  marked = marked_both n xs ys ms ks x.marked y.marked;
  wanted = wanted_both c first [] xs ys (wanted_later b c first [] xs y.makes.makes.seen.0 y.makes.makes.about y.makes.makes.seen.1 x.wanted)
      (subst (λ (l : List Note). OpensWereWanted c first l ys) (append-nil xs) (wanted_behind c first xs [] ys y.wanted));
}

-- no entry at any seat
abbrev pub nothing : List History → List (List Note)
nothing [] = []
nothing (h ∷ hs) = [] ∷ nothing hs

-- the entries of calls behind those of others, seat by seat
abbrev pub joined : List (List Note) → List (List Note) → List (List Note)
joined [] bs = []
joined (xs ∷ rest) [] = []
joined (xs ∷ rest) (ys ∷ bs) = (xs ++ ys) ∷ joined rest bs

pub adds_ext : (n : SessionNo) (first : Bool) (f g : ℕ → List Entry) (i : ℕ) (olds news : List History) (added : List (List Note)) → ((k : ℕ) → i ≤ k → f k ≡ g k)
    → EachAdds n first f i olds news added → EachAdds n first g i olds news added
adds_ext n first f g i [] [] [] same e = tt
adds_ext n first f g i [] [] (es ∷ added) same e = absurd e
adds_ext n first f g i [] (k ∷ news) added same e = absurd e
adds_ext n first f g i (h ∷ olds) [] added same e = absurd e
adds_ext n first f g i (h ∷ olds) (k ∷ news) [] same e = absurd e
adds_ext n first f g i (h ∷ olds) (k ∷ news) (es ∷ added) same e =
    (subst (λ (l : List Entry). SeatAdds h k n first l es) (same i (omega arith)) e.0, adds_ext n first f g (i + 1) olds news added (λ j le. same j (omega (arith, le))) e.1)

pub adds_nothing : (n : SessionNo) (first : Bool) (g : ℕ → List Entry) (i : ℕ) (hs : List History) → AllStand hs → ((k : ℕ) → i ≤ k → g k ≡ []) → EachAdds n first g i hs hs (nothing hs)
adds_nothing n first g i [] all none = tt
adds_nothing n first g i (h ∷ hs) all none =
    (subst (λ (l : List Entry). SeatAdds h h n first l []) (sym (none i (omega arith))) (same_adds h n first all.0), adds_nothing n first g (i + 1) hs all.1 (λ k le. none k (omega (arith, le))))

-- one seat's calls
pub adds_set : (n : SessionNo) (first : Bool) (g : ℕ → List Entry) (i j : ℕ) (olds : List History) (h new : History) (es : List Note) → AllStand olds → slice_get olds j ≡ Some h
    → SeatAdds h new n first (g (i + j)) es → ((k : ℕ) → i ≤ k → (k ≡ i + j → ⊥) → g k ≡ []) → EachAdds n first g i olds (slice_set olds j new) (slice_set (nothing olds) j es)
adds_set n first g i j [] h new es all there one none = cc
adds_set n first g i zero (o ∷ olds) h new es all there one none = (
  subst (λ (q : History). SeatAdds q new n first (g i) es) (sym (some_is o h there)) (subst (λ (k : ℕ). SeatAdds h new n first (g k) es) (omega arith) one),
  adds_nothing n first g (i + 1) olds all.1 (λ k le. none k (omega (arith, le)) (λ e. omega (arith, le, e))),
)
adds_set n first g i (suc j) (o ∷ olds) h new es all there one none = (
  subst (λ (l : List Entry). SeatAdds o o n first l []) (sym (none i (omega arith) (λ e. omega (arith, e)))) (same_adds o n first all.0),
  adds_set n first g (i + 1) j olds h new es all.1 there (subst (λ (k : ℕ). SeatAdds h new n first (g k) es) (omega arith) one) (λ k le ne. none k (omega (arith, le)) (λ e. ne (omega (arith, e)))),
)

pub adds_both : (n : SessionNo) (first : Bool) (f g : ℕ → List Entry) (i : ℕ) (xs bs cs : List History) (es fs : List (List Note)) → EachAdds n first f i xs bs es → EachAdds n first g i bs cs fs
    → EachAdds n first (λ k. f k ++ g k) i xs cs (joined es fs)
adds_both n first f g i [] [] [] [] [] x y = tt
adds_both n first f g i [] [] [] [] (fs ∷ more) x y = absurd y
adds_both n first f g i [] [] [] (es ∷ rest) fs x y = absurd x
adds_both n first f g i [] [] (c ∷ cs) es fs x y = absurd y
adds_both n first f g i [] (b ∷ bs) cs es fs x y = absurd x
adds_both n first f g i (a ∷ xs) [] cs es fs x y = absurd x
adds_both n first f g i (a ∷ xs) (b ∷ bs) cs [] fs x y = absurd x
adds_both n first f g i (a ∷ xs) (b ∷ bs) [] (es ∷ rest) fs x y = absurd y
adds_both n first f g i (a ∷ xs) (b ∷ bs) (c ∷ cs) (es ∷ rest) [] x y = absurd y
adds_both n first f g i (a ∷ xs) (b ∷ bs) (c ∷ cs) (es ∷ rest) (fs ∷ more) x y =
    (both_adds a b c n first (f i) (g i) es fs x.0 y.0, adds_both n first f g (i + 1) xs bs cs rest more x.1 y.1)

pub adds_stand : (n : SessionNo) (first : Bool) (f : ℕ → List Entry) (i : ℕ) (xs bs : List History) (es : List (List Note)) → EachAdds n first f i xs bs es → AllStand bs
adds_stand n first f i [] [] es x = tt
adds_stand n first f i [] (b ∷ bs) es x = absurd x
adds_stand n first f i (a ∷ xs) [] es x = absurd x
adds_stand n first f i (a ∷ xs) (b ∷ bs) [] x = absurd x
adds_stand n first f i (a ∷ xs) (b ∷ bs) (es ∷ rest) x = (x.0.makes.makes.one, adds_stand n first f (i + 1) xs bs rest x.1)

-- each seat of a session's stands in one history
pub holds_stand : (t : ThreadNo) (n : SessionNo) (c : Option Holding) (i : ℕ) (seats : List History) → HoldsConn t n c i seats → AllStand seats
holds_stand t n c i [] holds = tt
holds_stand t n c i (h ∷ seats) holds = (holds.1, holds_stand t n c (i + 1) seats holds.3)

-- where no connection was touched
pub adds_no_touch : (t : ThreadNo) (n : SessionNo) (first : Bool) (hs : List History) → AllStand hs → AddsFor t n first None hs hs (nothing hs)
adds_no_touch t n first hs all = adds_nothing n first (λ k. []) 0 hs all (λ k le. refl)

-- the calls at one seat
pub adds_touch : (t : ThreadNo) (n : SessionNo) (first : Bool) (x : Touch) (olds : List History) (h new : History) (es : List Note) → AllStand olds → slice_get olds x.server.0 ≡ Some h → h.about.thread ≡ t
    → SeatAdds h new n first (touch_marks h.about.thread n first x) es → AddsFor t n first (Some x) olds (slice_set olds x.server.0 new) (slice_set (nothing olds) x.server.0 es)
adds_touch t n first x olds h new es all there thread one =
    let g : ℕ → List Entry = λ k. marks_at t n first (Some x) k in
    let mine : SeatAdds h new n first (g x.server.0) es = subst (λ (l : List Entry). SeatAdds h new n first l es) (here t n first x) (subst (λ (u : ThreadNo). SeatAdds h new n first (touch_marks u n first x) es) thread one) in
    adds_set n first g 0 x.server.0 olds h new es all there (subst (λ (k : ℕ). SeatAdds h new n first (g k) es) (omega arith) mine) (λ k le ne. not_here t n first x k (λ e. ne (omega (arith, e))))

-- calls that touched no connection, and then others
pub adds_then : (t : ThreadNo) (n : SessionNo) (first : Bool) (x : Option Touch) (xs bs cs : List History) (es fs : List (List Note)) → AddsFor t n first None xs bs es → AddsFor t n first x bs cs fs
    → AddsFor t n first x xs cs (joined es fs)
adds_then t n first x xs bs cs es fs a b = adds_both n first (λ k. []) (λ k. marks_at t n first x k) 0 xs bs cs es fs a b

-- others, and then calls that touched no connection
pub adds_before : (t : ThreadNo) (n : SessionNo) (first : Bool) (x : Option Touch) (xs bs cs : List History) (es fs : List (List Note)) → AddsFor t n first x xs bs es → AddsFor t n first None bs cs fs
    → AddsFor t n first x xs cs (joined es fs)
adds_before t n first x xs bs cs es fs a b =
    adds_ext n first (λ k. marks_at t n first x k ++ []) (λ k. marks_at t n first x k) 0 xs cs (joined es fs) (λ k le. append-nil (marks_at t n first x k))
    (adds_both n first (λ k. marks_at t n first x k) (λ k. []) 0 xs bs cs es fs a b)

-- the public words
pub adds_are : (t : ThreadNo) (n : SessionNo) (first : Bool) (x : Option Touch) (i : ℕ) (olds news : List History) (added : List (List Note)) → EachAdds n first (λ k. marks_at t n first x k) i olds news added
    → AddsEach (HasMarks t n first x) i olds news added
adds_are t n first x i [] [] [] e = tt
adds_are t n first x i [] [] (es ∷ added) e = absurd e
adds_are t n first x i [] (k ∷ news) added e = absurd e
adds_are t n first x i (h ∷ olds) [] added e = absurd e
adds_are t n first x i (h ∷ olds) (k ∷ news) [] e = absurd e
adds_are t n first x i (h ∷ olds) (k ∷ news) (es ∷ added) e =
    let m = e.0.marked in
    (e.0.makes.makes, record { marks = m.marks; own = m.own; balances = subst (λ (l : List Note). Balances 0 0 l) (append-nil es) (m.keeps 0 [] (λ c. refl)) }, adds_are t n first x (i + 1) olds news added e.1)

pub adds_wanted : (n : SessionNo) (first : Bool) (f : ℕ → List Entry) (i : ℕ) (olds news : List History) (added : List (List Note)) → EachAdds n first f i olds news added
    → EachSeat (λ h es. OpensWereWanted h first [] es) news added
adds_wanted n first f i [] [] [] e = tt
adds_wanted n first f i [] [] (es ∷ added) e = absurd e
adds_wanted n first f i [] (k ∷ news) added e = absurd e
adds_wanted n first f i (h ∷ olds) [] added e = absurd e
adds_wanted n first f i (h ∷ olds) (k ∷ news) [] e = absurd e
adds_wanted n first f i (h ∷ olds) (k ∷ news) (es ∷ added) e = (e.0.wanted, adds_wanted n first f (i + 1) olds news added e.1)
