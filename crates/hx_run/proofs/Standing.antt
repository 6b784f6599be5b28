-- A session that makes no turn in a round stands still, and so do all where none is made.
use Rattle.std.proofs.Common.{◌≡◌, ◌⊎◌, inl, inr, ⊎_elim, ℕ, suc, ◌<◌, ◌≤◌, ◌+◌, ◌-◌, Bool, true, false, List, [], ◌∷◌, Result, Ok, refl, sym, ap, ◌∙◌, subst, arith, Option, Some, None}
use Rattle.std.specs.Prelude.{Contains, if◌then◌else◌, nat_lt, length, slice_index_or, take}
use Rattle.std.proofs.lemmas.List.{take_all}
use Rattle.std.proofs.lemmas.Bool.{ltb-true, ltb-false}
use Rattle.std.proofs.lemmas.List.Elements.{Contains-append_cases}
use mathlib.Core.Logic.{dite}
use native.Mathlib.Decide.{ℕ_discrete}
use Rattle.hx_base.specs.declared.numbers.Millis.{Millis}
use Rattle.hx_base.specs.declared.numbers.SessionNo.{SessionNo}
use Rattle.hx_connecting.specs.Sessions.{SessionNow}
use Rattle.hx_course.proofs.Numbers.{some_is, found_number}
use Rattle.hx_course.proofs.TableLemmas.{none_in, one_in}
use Rattle.hx_link.specs.Nets.{NetState}
use Rattle.hx_session.specs.Standstill.{Stands}
use Rattle.hx_session.specs.declared.step.Step.{Step}
use Rattle.hx_worker.proofs.ByNumber.{placed_other, placed_same, placed_rise, if_going, none_behind, session_here, session_past}
use Rattle.hx_worker.specs.Admitting.{next_above}
use Rattle.hx_worker.specs.Steps.{StepsAt, placed}
use Rattle.hx_worker.specs.Stops.{StopsOne, StopsNext}
use Rattle.hx_worker.specs.Workers.{WorkerNow, NumbersRise, session_of}
use Rattle.hx_worker.specs.declared.answers.Stopped.{Stopped}
use Rattle.hx_run.proofs.Orders.{moments_next}
use Rattle.hx_run.specs.declared.running.Halt.{Halt}
use Rattle.hx_run.specs.Runs.{RunNow, IsRoomier}
use Rattle.hx_run.specs.Standings.{AllStood, StoodLast, AllStoodLast, Rise, LeavesOthers, StandsAlone, StoodUpTo}
use Rattle.hx_run.specs.Turns.{turns_after, counted}

-- ---- one step

none_some : {A : Type 0} (x : A) → None ≡ Some x → ⊥
none_some x e = cc

still_moved : (moved : Bool) (t t' : ℕ) → t' ≡ t → turns_after moved t' ≡ t → moved ≡ false
still_moved true t t' same e = absurd (more same e)
  where
    more : t' ≡ t → t' + 1 ≡ t → ⊥
    more p q = omega (arith, p, q)
still_moved false t t' same e = refl

going_is : (over : Bool) (a s : SessionNow) → a.over ≡ over → if_going a ≡ Some s → a ≡ s
going_is true a s e is = absurd (none_some s (sym (ap (λ (b : Bool). if b then None else Some a) e) ∙ is))
going_is false a s e is = some_is a s (sym (ap (λ (b : Bool). if b then None else Some a) e) ∙ is)

pub step_stands : (a b : RunNow) (w w' : WorkerNow) (net net' : NetState) (n : SessionNo) (now : Millis) (r : Step) → IsRoomier a.worker w → b.worker ≡ w' → b.turns ≡ a.turns → StepsAt w w' net net' n now.0 r → StandsAlone now n a (counted r.moved b)
step_stands a b w w' net net' n now r roomier worker turns k = record {
  leaves = record { rise = rise; others = others };
  stands = λ same up s is.
      let still : r.moved ≡ false = still_moved r.moved a.turns b.turns turns same in
      let stood : Stands k.0.session k.0.after now.0 = k.1.stands still in
      (k.0.session, subst (λ (z : SessionNow). Stands k.0.session z now.0) (after_is up s is) stood);
}
  where
    sessions : w.sessions ≡ a.worker.sessions
    sessions = ap (λ (v : WorkerNow). v.sessions) roomier

    last : w.last ≡ a.worker.last
    last = ap (λ (v : WorkerNow). v.last) roomier

    placed_is : b.worker.sessions ≡ placed w.sessions k.0.after
    placed_is = ap (λ (v : WorkerNow). v.sessions) worker ∙ k.0.sessions

    number : k.0.after.number.0 ≡ n.0
    number = ap (λ (m : SessionNo). m.0) k.0.step.same.session.number ∙ found_number w.sessions n.0 k.0.session k.0.there

    low : Rise a.worker → NumbersRise 0 w.sessions w.last
    low up = subst (λ (l : List SessionNow). NumbersRise 0 l w.last) (sym sessions) (subst (λ (m : ℕ). NumbersRise 0 a.worker.sessions m) (sym last) up)

    rise : Rise a.worker → Rise b.worker
    rise up =
        subst (λ (l : List SessionNow). NumbersRise 0 l b.worker.last) (sym placed_is)
        (subst (λ (m : ℕ). NumbersRise 0 (placed w.sessions k.0.after) m) (sym (ap (λ (v : WorkerNow). v.last) worker ∙ k.0.stays.last)) (placed_rise 0 w.last w.sessions k.0.after (low up)))

    others : (m : ℕ) → (m ≡ n.0 → ⊥) → session_of b.worker.sessions m ≡ session_of a.worker.sessions m
    others m apart =
        ap (λ (l : List SessionNow). session_of l m) placed_is ∙ (placed_other w.sessions k.0.after m (λ e. apart (sym e ∙ number)) ∙ ap (λ (l : List SessionNow). session_of l m) sessions)

    after_is : Rise a.worker → (s : SessionNow) → session_of b.worker.sessions n.0 ≡ Some s → k.0.after ≡ s
    after_is up s is =
        let here : session_of w.sessions k.0.after.number.0 ≡ Some k.0.session = ap (session_of w.sessions) number ∙ k.0.there in
        let at : session_of (placed w.sessions k.0.after) k.0.after.number.0 ≡ if_going k.0.after = placed_same 0 w.last w.sessions k.0.session k.0.after (low up) here in
        going_is k.0.after.over k.0.after s refl (sym at ∙ (ap (session_of (placed w.sessions k.0.after)) number ∙ (sym (ap (λ (l : List SessionNow). session_of l n.0) placed_is) ∙ is)))

-- ---- steps of one session

pub leaves_same : (n : SessionNo) (a : RunNow) → LeavesOthers n a a
leaves_same n a = record { rise = λ up. up; others = λ m apart. refl }

pub leaves_both : (n : SessionNo) (a b c : RunNow) → LeavesOthers n a b → LeavesOthers n b c → LeavesOthers n a c
leaves_both n a b c f g = record { rise = λ up. g.rise (f.rise up); others = λ m apart. g.others m apart ∙ f.others m apart }

-- the last of them made no turn, where all together made none
pub stands_behind : (now : Millis) (n : SessionNo) (a b c : RunNow) → a.turns ≤ b.turns → b.turns ≤ c.turns → LeavesOthers n a b → StandsAlone now n b c → StandsAlone now n a c
stands_behind now n a b c low high f g = record {
  leaves = leaves_both n a b c f g.leaves;
  stands = λ same up s is. g.stands (omega (arith, low, high, same)) (f.rise up) s is;
}

-- ---- a round

less_or : (i j : ℕ) → (i < j) ⊎ (j ≤ i)
less_or i j = by_bool (nat_lt i j) refl
  where
    by_bool : (b : Bool) → nat_lt i j ≡ b → (i < j) ⊎ (j ≤ i)
    by_bool true e = inl (ltb-true i j e)
    by_bool false e = inr (ltb-false i j e)

-- behind the first session
behind_first : (last : ℕ) (x : SessionNow) (rest : List SessionNow) (up : ℕ) (n : SessionNo) (m : ℕ) (s : SessionNow) → NumbersRise x.number.0 rest last → session_of (x ∷ rest) m ≡ Some s → up < m
    → (next_above rest up ≡ Some n → session_of rest m ≡ Some s → n.0 ≤ m) → (b : Bool) → nat_lt up x.number.0 ≡ b → (if b then Some x.number else next_above rest up) ≡ Some n → n.0 ≤ m
behind_first last x rest up n m s rise is low later true e q =
    let first : x.number.0 ≡ n.0 = ap (λ (z : SessionNo). z.0) (some_is x.number n q) in
    dite (ℕ_discrete x.number.0 m)
    (λ (here : x.number.0 ≡ m). omega (arith, first, here))
    (λ ne.
    ⊎_elim (λ (less : m < x.number.0). absurd (none_some s (sym (none_behind m x.number.0 last rest (omega (arith, less)) rise) ∙ (sym (session_past x rest m ne) ∙ is))))
    (λ (more : x.number.0 ≤ m). omega (arith, first, more)) (less_or m x.number.0))
behind_first last x rest up n m s rise is low later false e q = dite (ℕ_discrete x.number.0 m)
    (λ (here : x.number.0 ≡ m). absurd (not_above (ltb-false up x.number.0 e) here))
    (λ ne. later q (sym (session_past x rest m ne) ∙ is))
  where
    not_above : x.number.0 ≤ up → x.number.0 ≡ m → ⊥
    not_above le here = omega (arith, le, here, low)

-- no session is there between a number and the next one
between : (k last : ℕ) (ss : List SessionNow) (up : ℕ) (n : SessionNo) (m : ℕ) (s : SessionNow) → NumbersRise k ss last → next_above ss up ≡ Some n → session_of ss m ≡ Some s → up < m → n.0 ≤ m
between k last [] up n m s rise next is low = cc
between k last (x ∷ rest) up n m s rise next is low =
    behind_first last x rest up n m s rise.1 is low (λ q there. between x.number.0 last rest up n m s rise.1 q there low) (nat_lt up x.number.0) refl next

-- and none above, where no next one is there
above_first : (x : SessionNow) (rest : List SessionNow) (up m : ℕ) (s : SessionNow) → session_of (x ∷ rest) m ≡ Some s → (next_above rest up ≡ None → session_of rest m ≡ Some s → m ≤ up) → (b : Bool) → nat_lt up x.number.0 ≡ b
    → (if b then Some x.number else next_above rest up) ≡ None → m ≤ up
above_first x rest up m s is later true e q = absurd (none_some x.number (sym q))
above_first x rest up m s is later false e q = dite (ℕ_discrete x.number.0 m)
    (λ (here : x.number.0 ≡ m). let le = ltb-false up x.number.0 e in omega (arith, le, here))
    (λ ne. later q (sym (session_past x rest m ne) ∙ is))

above_none : (ss : List SessionNow) (up m : ℕ) (s : SessionNow) → next_above ss up ≡ None → session_of ss m ≡ Some s → m ≤ up
above_none [] up m s next is = cc
above_none (x ∷ rest) up m s next is = above_first x rest up m s is (λ q there. above_none rest up m s q there) (nat_lt up x.number.0) refl next

-- where numbers rise each session is found by its own
pub session_at : (k last : ℕ) (ss : List SessionNow) (s : SessionNow) → NumbersRise k ss last → Contains ss s → session_of ss s.number.0 ≡ Some s
session_at k last [] s rise there = absurd (none_in s there)
session_at k last (x ∷ rest) s rise there = ⊎_elim
    (λ (first : Contains (x ∷ []) s). let is = one_in x s first in subst (λ (z : SessionNow). session_of (x ∷ rest) z.number.0 ≡ Some z) is (session_here x rest x.number.0 refl))
    (λ (later : Contains rest s).
    let at = session_at x.number.0 last rest s rise.1 later in
    session_past x rest s.number.0 (λ e. none_some s (sym (none_behind s.number.0 x.number.0 last rest (omega (arith, e)) rise.1) ∙ at)) ∙ at)
    (Contains-append_cases (x ∷ []) rest s there)

pub stood_none : (now : Millis) (a : RunNow) → StoodUpTo now a a 0
stood_none now a same up m s is low = absurd (none_some s (sym (none_behind m 0 a.worker.last a.worker.sessions (zero_low low) up) ∙ is))
  where
    zero_low : (m ≡ 0) ⊎ (m < 0) → m ≤ 0
    zero_low (inl e) = omega (arith, e)
    zero_low (inr e) = omega (arith, e)

pub stood_next : (now : Millis) (a b c : RunNow) (up : ℕ) (n : SessionNo) → a.turns ≤ b.turns → b.turns ≤ c.turns → Rise b.worker → next_above b.worker.sessions up ≡ Some n → StoodUpTo now a b up → StandsAlone now n b c → StoodUpTo now a c n.0
stood_next now a b c up n low high rise next before one same here m s is within = dite (ℕ_discrete m n.0)
    (λ (its : m ≡ n.0). one.stands (omega (arith, low, high, same)) rise s (sym (ap (session_of c.worker.sessions) its) ∙ is))
    (λ apart.
    let was : session_of b.worker.sessions m ≡ Some s = sym (one.leaves.others m apart) ∙ is in
    before (omega (arith, low, high, same)) rise m s was (up_to was apart within))
  where
    up_to : session_of b.worker.sessions m ≡ Some s → (m ≡ n.0 → ⊥) → (m ≡ n.0) ⊎ (m < n.0) → (m ≡ up) ⊎ (m < up)
    up_to was apart (inl e) = absurd (apart e)
    up_to was apart (inr less) = ⊎_elim (λ (over : up < m). absurd (no_less (between 0 b.worker.last b.worker.sessions up n m s rise next was over) less)) (λ (le : m ≤ up). by_le le) (less_or up m)
      where
        no_less : n.0 ≤ m → m < n.0 → ⊥
        no_less p q = omega (arith, p, q)

        by_le : m ≤ up → (m ≡ up) ⊎ (m < up)
        by_le le = dite (ℕ_discrete m up) (λ (e : m ≡ up). inl e) (λ ne. inr (strict le ne))
          where
            strict : m ≤ up → (m ≡ up → ⊥) → m < up
            strict p q = omega (arith, p, q)

pub stood_all : (now : Millis) (a b : RunNow) (up : ℕ) → b.turns ≡ a.turns → Rise b.worker → next_above b.worker.sessions up ≡ None → StoodUpTo now a b up → AllStood now b.worker
stood_all now a b up same rise none stood s there =
    let at = session_at 0 b.worker.last b.worker.sessions s rise there in
    stood same rise s.number.0 s at (by_le (above_none b.worker.sessions up s.number.0 s none at))
  where
    by_le : s.number.0 ≤ up → (s.number.0 ≡ up) ⊎ (s.number.0 < up)
    by_le le = dite (ℕ_discrete s.number.0 up) (λ (e : s.number.0 ≡ up). inl e) (λ ne. inr (strict le ne))
      where
        strict : s.number.0 ≤ up → (s.number.0 ≡ up → ⊥) → s.number.0 < up
        strict p q = omega (arith, p, q)

-- ---- stops

pub least_stood : (moments : List Millis) (w r w' : WorkerNow) (net net' : NetState) (x : Stopped) (k : StopsOne r w' net net' x) → IsRoomier w r → AllStoodLast moments w → StoodLast moments k.session
least_stood moments w r w' net net' x k roomier stood =
    stood k.session (subst (λ (l : List SessionNow). Contains l k.session) (sym k.least ∙ ap (λ (v : WorkerNow). v.sessions) roomier) (0, omega arith, refl))

pub others_stood : (moments : List Millis) (w r w' : WorkerNow) (net net' : NetState) (x : Stopped) → StopsOne r w' net net' x → IsRoomier w r → AllStoodLast moments w → AllStoodLast moments w'
others_stood moments w r w' net net' x k roomier stood s there =
    stood s (subst (λ (l : List SessionNow). Contains l s) (sym k.least ∙ ap (λ (v : WorkerNow). v.sessions) roomier) (next_in s (subst (λ (l : List SessionNow). Contains l s) k.sessions there)))
  where
    next_in : (z : SessionNow) → Contains k.others z → Contains (k.session ∷ k.others) z
    next_in z h = (suc h.0, omega (arith, h.1), h.2)

pub others_still : (moments : List Millis) (w r w' : WorkerNow) (net net' : NetState) (o : Option Stopped) (x : Stopped) → IsRoomier w r → StopsNext r w' net net' o → o ≡ Some x → AllStoodLast moments w → AllStoodLast moments w'
others_still moments w r w' net net' o x roomier s is stood = others_stood moments w r w' net net' x (subst (λ (p : Option Stopped). StopsNext r w' net net' p) is s) roomier stood

pub none_still : (moments : List Millis) (w r w' : WorkerNow) (net net' : NetState) (o : Option Stopped) → IsRoomier w r → StopsNext r w' net net' o → o ≡ None → AllStoodLast moments w → AllStoodLast moments w'
none_still moments w r w' net net' o roomier s is stood =
    let k : StopsNext r w' net net' None = subst (λ (p : Option Stopped). StopsNext r w' net net' p) is s in
    λ z there. stood z (subst (λ (l : List SessionNow). Contains l z) (ap (λ (v : WorkerNow). v.sessions) roomier) (subst (λ (v : WorkerNow). Contains v.sessions z) k.1 there))

-- ---- moments

-- before the first one no session is there
pub none_last : (moments : List Millis) (w : WorkerNow) → w.sessions ≡ [] → AllStoodLast moments w
none_last moments w empty s there = absurd (none_in s (subst (λ (l : List SessionNow). Contains l s) empty there))

pub stood_last : (moments : List Millis) (i : ℕ) (d : Millis) (w : WorkerNow) → i < length moments → AllStood (slice_index_or moments i d) w → AllStoodLast (take (i + 1) moments) w
stood_last moments i d w low stood s there = record { earlier = take i moments; now = slice_index_or moments i d; last = (moments_next moments i d low).behind; stood = stood s there }

pub stood_through : (moments : List Millis) (i : ℕ) (w : WorkerNow) → length moments ≤ i → AllStoodLast (take i moments) w → AllStoodLast moments w
stood_through moments i w past stood = subst (λ (l : List Millis). AllStoodLast l w) (take_all i moments past) stood

-- a round that made no turn
pub none_more : (t t' : ℕ) → t ≤ t' → (let r : Result Bool Halt = Ok (nat_lt 0 (t' - t)) in r) ≡ Ok false → t' ≡ t
none_more t t' low last =
    let none : nat_lt 0 (t' - t) ≡ false = ok_is (nat_lt 0 (t' - t)) false last in
    let le = ltb-false 0 (t' - t) none in omega (arith, low, le)
  where
    ok_is : (a b : Bool) → (let r : Result Bool Halt = Ok a in r) ≡ Ok b → a ≡ b
    ok_is a b e = cc
