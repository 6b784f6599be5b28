-- What one call leaves of the marks at one seat of one thread.
use Rattle.std.proofs.Common.{◌≡◌, ◌≢◌, ◌⊎◌, inl, inr, ⊎_elim, ℕ, zero, suc, ◌+◌, ◌-◌, ◌*◌, ◌/◌, ◌<◌, ◌≤◌, ◌++◌, Bool, true, false, cond, List, [], ◌∷◌, length, refl, sym, ap, ◌∙◌, subst, arith, append-nil, append_assoc, Option}
use Rattle.std.specs.Prelude.{count_by, max, nat_lt}
use Rattle.std.proofs.lemmas.Bool.{le-ltb, lt-ltb, ltb-true, ltb-false}
use Rattle.std.proofs.lemmas.List.Sums.{sum_by-append}
use Rattle.hx_base.specs.declared.numbers.Face.{Face}
use Rattle.hx_base.specs.declared.numbers.Millis.{Millis}
use Rattle.hx_base.specs.declared.numbers.SessionNo.{SessionNo}
use Rattle.hx_base.specs.declared.numbers.ThreadNo.{ThreadNo}
use Rattle.hx_base.specs.declared.order.Order.{Order}
use Rattle.hx_base.specs.declared.order.Order.TheVariants.{Drain, Ready}
use Rattle.hx_base.specs.declared.what.What.{What}
use Rattle.hx_caretaker.specs.Orders.{Drains, Obeys, OrdersAt, ordered_server}
use Rattle.hx_caretaker.specs.Rounds.{PurgesQuota, RaisesRound, Ticks, TicksAt}
use Rattle.hx_caretaker.specs.Sweeps.{Sweep, Sweeps, Swept, sweep_marks}
use Rattle.hx_connecting.specs.Touches.{AllOf, HasMarks, IsOf, Touch}
use Rattle.hx_plain.specs.PlainSeat.{first_thread}
use Rattle.hx_pool.proofs.Counting.{all_own, below-second, downs_of, mine_even, moves_along, parks_of, ups_of}
use Rattle.hx_pool.proofs.Emptied.{covered_empty}
use Rattle.hx_pool.proofs.Histories.{EachStep-second, marks_of-append, table_from-append}
use Rattle.hx_pool.proofs.Purges.{takes_of-append}
use Rattle.hx_pool.proofs.Resting.{holds_one, resting_counts, resting_in}
use Rattle.hx_pool.specs.Causes.{IsCovered, caretaker, place_of}
use Rattle.hx_pool.specs.History.{plain, is_mark, is_park, is_take, marks_of, takes_of, table_from, table_after, EachStep, MeetsNeeds, IsLegal, IsEven}
use Rattle.hx_pool.specs.Purge.{quota_of, round_at, round_raised}
use Rattle.hx_pool.specs.SeatView.{About, AllBelow, History, Makes, StandsInOneHistory}
use Rattle.hx_pool.specs.Table.{Table, Spot, Vacant, Holds, Leaves, after, after_entry, empty_table, spot_at, Needs}
use Rattle.hx_pool.specs.Takeover.{counted}
use Rattle.hx_pool.specs.declared.entries.Entry.{Entry}
use Rattle.hx_pool.specs.declared.entries.Entry.TheVariants.{Open, Park, Take, Free, Close, Look, Up, Down, Count, Gate, SetGate, Round}
use Rattle.hx_pool.specs.declared.entries.Note.{Note}
use Rattle.hx_run.proofs.Closing.{NoPark, NoParks, elsewhere, sweeps_park}
use Rattle.hx_run.specs.Cares.{Care, Ordered, Ticked}
use Rattle.hx_cares.specs.Cared.{AllBy, Answers, Cared, Drained, Obeyed, Purged, asked_one, session_made, interval_at, is_parking, is_taking, rest_behind, round_after, round_behind, round_from}

-- the seat is that of the one thread, whose rounds are counted from 0, and its marks are such
pub record Stands (i : ℕ) (cares : List Care) (h : History) : Type 0 where
  pub thread : h.about.thread ≡ first_thread
  pub alone : h.about.threads ≡ 1
  pub start : h.about.start.0 ≡ 0
  pub even : IsEven h.mine
  pub cared : Cared i h.about.rules.delay.0 cares (marks_of h.mine)

-- ---- what the marks tell of the table

either_way : (P : List Entry → Type 0) (e : Entry) (es : List Entry) (b : Bool) → P (e ∷ es) → P es → P (cond b (e ∷ es) es)
either_way P e es true with_it without = with_it
either_way P e es false with_it without = without

count_first : (p : Entry → Bool) (e : Entry) (es : List Entry) → count_by p (e ∷ es) ≡ cond (p e) 1 0 + count_by p es
count_first p e es =
    let parts : count_by p (e ∷ es) ≡ count_by p (e ∷ []) + count_by p es = sum_by-append (λ (y : Entry). cond (p y) 1 0) (e ∷ []) es in
    omega (arith, parts)

notes_first : (p : Note → Bool) (x : Note) (xs : List Note) → count_by p (x ∷ xs) ≡ cond (p x) 1 0 + count_by p xs
notes_first p x xs =
    let parts : count_by p (x ∷ xs) ≡ count_by p (x ∷ []) + count_by p xs = sum_by-append (λ (y : Note). cond (p y) 1 0) (x ∷ []) xs in
    omega (arith, parts)

parks_one : (e : Entry) (w : Option What) (es : List Entry) → count_by is_parking (cond (is_mark e) (e ∷ es) es) ≡ cond (is_park (record { entry = e; what = w })) 1 0 + count_by is_parking es
parks_one (Open t n id) w es = count_first is_parking (Open t n id) es
parks_one (Park t n id place uses) w es = count_first is_parking (Park t n id place uses) es
parks_one (Take t n first place id uses) w es = count_first is_parking (Take t n first place id uses) es
parks_one (Free t place) w es = omega arith
parks_one (Close t n id) w es = count_first is_parking (Close t n id) es
parks_one (Look t place found) w es = omega arith
parks_one (Up t old) w es = omega arith
parks_one (Down t old) w es = omega arith
parks_one (Count t c) w es = omega arith
parks_one (Gate t draining) w es = omega arith
parks_one (SetGate t draining) w es = count_first is_parking (SetGate t draining) es
parks_one (Round t k old) w es = either_way (λ l. count_by is_parking l ≡ 0 + count_by is_parking es) (Round t k old) es (nat_lt old k) (count_first is_parking (Round t k old) es) (omega arith)

takes_one : (e : Entry) (w : Option What) (es : List Entry) → count_by is_taking (cond (is_mark e) (e ∷ es) es) ≡ cond (is_take (record { entry = e; what = w })) 1 0 + count_by is_taking es
takes_one (Open t n id) w es = count_first is_taking (Open t n id) es
takes_one (Park t n id place uses) w es = count_first is_taking (Park t n id place uses) es
takes_one (Take t n first place id uses) w es = count_first is_taking (Take t n first place id uses) es
takes_one (Free t place) w es = omega arith
takes_one (Close t n id) w es = count_first is_taking (Close t n id) es
takes_one (Look t place found) w es = omega arith
takes_one (Up t old) w es = omega arith
takes_one (Down t old) w es = omega arith
takes_one (Count t c) w es = omega arith
takes_one (Gate t draining) w es = omega arith
takes_one (SetGate t draining) w es = count_first is_taking (SetGate t draining) es
takes_one (Round t k old) w es = either_way (λ l. count_by is_taking l ≡ 0 + count_by is_taking es) (Round t k old) es (nat_lt old k) (count_first is_taking (Round t k old) es) (omega arith)

parks_marks : (H : List Note) → count_by is_parking (marks_of H) ≡ parks_of H
parks_marks [] = refl
parks_marks (x ∷ xs) = let more = parks_marks xs in let one = parks_one x.entry x.what (marks_of xs) in let first = notes_first is_park x xs in omega (arith, more, one, first)

takes_marks : (H : List Note) → count_by is_taking (marks_of H) ≡ takes_of H
takes_marks [] = refl
takes_marks (x ∷ xs) = let more = takes_marks xs in let one = takes_one x.entry x.what (marks_of xs) in let first = notes_first is_take x xs in omega (arith, more, one, first)

max_first : (a b : ℕ) → b < a → max a b ≡ a
max_first a b l = omega (arith, l)

max_second : (a b : ℕ) → a ≤ b → max a b ≡ b
max_second a b l = omega (arith, l)

round_one : (T : Table) (w : Option What) (e : Entry) (es : List Entry) → Needs T e → round_from (after_entry T w e).round es ≡ round_from T.round (cond (is_mark e) (e ∷ es) es)
round_one T w (Open t n id) es need = refl
round_one T w (Park t n id place uses) es need = refl
round_one T w (Take t n first place id uses) es need = refl
round_one T w (Free t place) es need = refl
round_one T w (Close t n id) es need = refl
round_one T w (Look t place found) es need = refl
round_one T w (Up t old) es need = refl
round_one T w (Down t old) es need = refl
round_one T w (Count t c) es need = refl
round_one T w (Gate t draining) es need = refl
round_one T w (SetGate t draining) es need = refl
round_one T w (Round t k old) es need =
    let go : (b : Bool) → nat_lt old k ≡ b → round_from (max k old) es ≡ round_from T.round (cond b (Round t k old ∷ es) es) =
    λ b. elim b as (λ b. nat_lt old k ≡ b → round_from (max k old) es ≡ round_from T.round (cond b (Round t k old ∷ es) es)) [
      | true ↦ λ e. ap (λ (n : ℕ). round_from n es) (max_first k old (ltb-true old k e))
      | false ↦ λ e. ap (λ (n : ℕ). round_from n es) (max_second k old (ltb-false old k e) ∙ need)
    ] in go (nat_lt old k) refl

round_marks : (T : Table) (H : List Note) → EachStep MeetsNeeds T H → (table_from T H).round ≡ round_from T.round (marks_of H)
round_marks T [] steps = refl
round_marks T (x ∷ xs) steps = round_marks (after T x) xs steps.1 ∙ round_one T x.what x.entry (marks_of xs) steps.0

-- ---- of one thread

below_one : (h : History) → StandsInOneHistory h → h.about.threads ≡ 1 → AllBelow 1 h.seen
below_one h one alone = subst (λ (k : ℕ). AllBelow k h.seen) alone one.threads

first_row : (h : History) → StandsInOneHistory h → h.about.threads ≡ 1 → h.about.thread.0 < 1
first_row h one alone = subst (λ (k : ℕ). h.about.thread.0 < k) alone one.inside.0

-- it has seen its own entries and no others
mine_seen : (h : History) → StandsInOneHistory h → h.about.threads ≡ 1 → h.mine ≡ h.seen
mine_seen h one alone = sym one.own_part ∙ all_own h.about.thread h.seen (first_row h one alone) (below_one h one alone)

rest_is : (h : History) → StandsInOneHistory h → h.about.threads ≡ 1 → rest_behind (marks_of h.mine) ≡ (table_after h.seen).resting
rest_is h one alone =
    let moves = moves_along 1 empty_table h.seen (below_one h one alone) one.legal (resting_counts 1 [] tt tt) in
    let rests = moves.resting in
    let parks = parks_marks h.mine ∙ ap parks_of (mine_seen h one alone) in
    let takes = takes_marks h.mine ∙ ap takes_of (mine_seen h one alone) in
    omega (arith, rests, parks, takes)

count_is : (h : History) → StandsInOneHistory h → h.about.threads ≡ 1 → IsEven h.mine → (table_after h.seen).count ≡ (table_after h.seen).resting
count_is h one alone even =
    let moves = moves_along 1 empty_table h.seen (below_one h one alone) one.legal (resting_counts 1 [] tt tt) in
    let rests = moves.resting in
    let counts = moves.count in
    let same : IsEven h.seen = subst IsEven (mine_seen h one alone) even in
    omega (arith, rests, counts, same)

round_is : (h : History) → StandsInOneHistory h → h.about.threads ≡ 1 → (table_after h.seen).round ≡ round_behind (marks_of h.mine)
round_is h one alone = round_marks empty_table h.seen one.legal ∙ ap (λ (l : List Note). round_behind (marks_of l)) (sym (mine_seen h one alone))

alone_behind : (old new : History) (added : List Note) → Makes old new added → old.about.threads ≡ 1 → new.about.threads ≡ 1
alone_behind old new added m alone = ap (λ (a : About). a.threads) m.about ∙ alone

seen_behind : (old new : History) (added : List Note) → Makes old new added → old.about.threads ≡ 1 → new.seen ≡ old.seen ++ added
seen_behind old new added m alone =
    sym (mine_seen new m.one (alone_behind old new added m alone)) ∙ (m.mine ∙ ap (λ (l : List Note). l ++ added) (mine_seen old m.was alone))

-- where each place is covered nothing rests
vacant_in : (k : ℕ) (spots : ℕ → Spot) → ((j : ℕ) → j < k → (f : Face) → spots j ≡ Holds f → ⊥) → resting_in spots k ≡ 0
vacant_in zero spots none = refl
vacant_in (suc k) spots none =
    let more = vacant_in k spots (λ j low. none j (omega (arith, low))) in
    let go : (s : Spot) → spots k ≡ s → holds_one s ≡ 0 = λ s. elim s as (λ s. spots k ≡ s → holds_one s ≡ 0) [
      | Vacant ↦ λ e. refl
      | Holds f ↦ λ e. absurd (none k (omega arith) f e)
      | Leaves t ↦ λ e. refl
    ] in
    let here = go (spots k) refl in
    omega (arith, more, here)

none_left : (t : ThreadNo) (front more : List Note) → t.0 < 1 → AllBelow 1 (front ++ more) → IsLegal (front ++ more) → ((row p : ℕ) → row < 1 → p < 64 → IsCovered t more (place_of row p)) → NoParks (marks_of more)
    → (table_after (front ++ more)).resting ≡ 0
none_left t front more z low legal covered parks =
    (resting_counts 1 (front ++ more) low legal).resting_is
    ∙ vacant_in 64 (table_after (front ++ more)).spots (λ j inside f e.
    let at : spot_at (table_after (front ++ more)) (place_of 0 j) ≡ Holds f = ap (λ (k : ℕ). (table_after (front ++ more)).spots k) (plus_zero j) ∙ e in
    covered_empty (table_after front) more (place_of 0 j) f t inside (elsewhere 0 more parks) (EachStep-second MeetsNeeds empty_table front more legal)
    (subst (λ (xs : List Note). IsCovered t xs (place_of 0 j)) (sym (all_own t more z (below-second 1 front more low))) (covered 0 j (omega arith) inside))
    (ap (λ (T : Table). spot_at T (place_of 0 j)) (sym (table_from-append empty_table front more)) ∙ at))
  where
    plus_zero : (j : ℕ) → 64 * 0 + j ≡ j
    plus_zero j = omega arith

-- ---- a session's call

all_by : (n : SessionNo) (e : Entry) (es : List Entry) → IsOf n e → AllBy n es → AllBy n (cond (is_mark e) (e ∷ es) es)
all_by n (Open t m id) es own all = (own, all)
all_by n (Park t m id place uses) es own all = (own, all)
all_by n (Take t m first place id uses) es own all = (own, all)
all_by n (Free t place) es own all = all
all_by n (Close t m id) es own all = (own, all)
all_by n (Look t place found) es own all = all
all_by n (Up t old) es own all = all
all_by n (Down t old) es own all = all
all_by n (Count t c) es own all = all
all_by n (Gate t draining) es own all = all
all_by n (SetGate t draining) es own all = absurd own
all_by n (Round t k old) es own all = absurd own

marks_by : (n : SessionNo) (es : List Note) → AllOf n es → AllBy n (marks_of es)
marks_by n [] all = tt
marks_by n (x ∷ xs) all = all_by n x.entry (marks_of xs) all.0 (marks_by n xs all.1)

behind : (i : ℕ) (cares cares' : List Care) (g h : History) (es : List Note) → Makes g h es → Stands i cares g → Cared i g.about.rules.delay.0 cares' (marks_of g.mine ++ marks_of es) → Stands i cares' h
behind i cares cares' g h es m s c = record {
  thread = ap (λ (a : About). a.thread) m.about ∙ s.thread;
  alone = ap (λ (a : About). a.threads) m.about ∙ s.alone;
  start = ap (λ (a : About). a.start.0) m.about ∙ s.start;
  even = mine_even g h es m s.even;
  cared = subst (λ (l : List Entry). Cared i h.about.rules.delay.0 cares' l) (sym (ap marks_of m.mine ∙ marks_of-append g.mine es))
      (subst (λ (d : ℕ). Cared i d cares' (marks_of g.mine ++ marks_of es)) (sym (ap (λ (a : About). a.rules.delay.0) m.about)) c);
}

pub session_stands : (i : ℕ) (cares : List Care) (g h : History) (es : List Note) (t : ThreadNo) (n : SessionNo) (first : Bool) (x : Option Touch) → Makes g h es → HasMarks t n first x i es → n.0 ≢ 0 → Stands i cares g → Stands i cares h
session_stands i cares g h es t n first x m marks other s =
    behind i cares cares g h es m s (session_made cares (marks_of g.mine) n (marks_of es) s.cared other (marks_by n es marks.own))

-- ---- an order

drain_answers : (old new : History) (added : List Note) (swept : List Swept) → Makes old new added → Drains old added swept → old.about.thread ≡ first_thread → old.about.threads ≡ 1
    → Drained (marks_of old.mine) (marks_of added)
drain_answers old new added swept m d first alone = record {
  swept = swept;
  marks = ap marks_of d.sets ∙ (ap (λ (l : List Entry). SetGate old.about.thread true ∷ l) d.closes.marks ∙ ap (λ (t : ThreadNo). SetGate t true ∷ sweep_marks t swept) first);
  until = ap rest_behind (sym (ap marks_of m.mine ∙ marks_of-append old.mine added)) ∙ (rest_is new m.one (alone_behind old new added m alone) ∙ none);
}
  where
    gate : Note
    gate = plain (SetGate old.about.thread true)

    seen : new.seen ≡ (old.seen ++ gate ∷ []) ++ d.more
    seen = seen_behind old new added m alone ∙ (ap (λ (l : List Note). old.seen ++ l) d.sets ∙ sym (append_one old.seen gate d.more))
      where
        append_one : (xs : List Note) (x : Note) (ys : List Note) → (xs ++ x ∷ []) ++ ys ≡ xs ++ x ∷ ys
        append_one [] x ys = refl
        append_one (y ∷ xs) x ys = ap (λ (l : List Note). y ∷ l) (append_one xs x ys)

    none : (table_after new.seen).resting ≡ 0
    none = ap (λ (l : List Note). (table_after l).resting) seen
        ∙ none_left old.about.thread (old.seen ++ gate ∷ []) d.more (first_row old m.was alone)
        (subst (AllBelow 1) seen (below_one new m.one (alone_behind old new added m alone)))
        (subst IsLegal seen m.one.legal)
        (λ row p low inside. d.all row p (subst (λ (k : ℕ). row < k) (sym alone) low) inside)
        (subst NoParks (sym d.closes.marks) (sweeps_park old.about.thread swept))

obeyed_at : (what : Order) (old new : History) (added : List Note) (swept : List Swept) → Makes old new added → Obeys what old added swept → old.about.thread ≡ first_thread → old.about.threads ≡ 1
    → Obeyed what (marks_of old.mine) (marks_of added)
obeyed_at (Drain server) old new added swept m d first alone = drain_answers old new added swept m d first alone
obeyed_at (Ready server) old new added swept m d first alone = ap marks_of d.0 ∙ ap (λ (t : ThreadNo). SetGate t false ∷ []) first

-- another server's
nothing_asked : (i : ℕ) (cares : List Care) (h : History) (care : Care) → Stands i cares h → Answers i h.about.rules.delay.0 (marks_of h.mine) care [] → Stands i (cares ++ care ∷ []) h
nothing_asked i cares h care s a = record {
  thread = s.thread;
  alone = s.alone;
  start = s.start;
  even = s.even;
  cared = subst (λ (l : List Entry). Cared i h.about.rules.delay.0 (cares ++ care ∷ []) l) (append-nil (marks_of h.mine)) (asked_one cares (marks_of h.mine) care [] s.cared a);
}

pub order_stands : (what : Order) (i : ℕ) (cares : List Care) (old new : History) (x : Sweep) → OrdersAt what i old new x → Stands i cares old → Stands i (cares ++ Ordered what ∷ []) new
order_stands what i cares old new x (inl (is, d)) s =
    behind i cares (cares ++ Ordered what ∷ []) old new x.added d.makes s
    (asked_one cares (marks_of old.mine) (Ordered what) (marks_of x.added) s.cared (inr (sym is, obeyed_at what old new x.added x.swept d.makes d.does s.thread s.alone)))
order_stands what i cares old new x (inr (other, same, none)) s =
    subst (Stands i (cares ++ Ordered what ∷ [])) (sym same) (nothing_asked i cares old (Ordered what) s (inl (λ e. other (sym e), refl)))

-- ---- a round

takes_swept : (t : ThreadNo) (swept : List Swept) → count_by is_taking (sweep_marks t swept) ≡ length swept
takes_swept t [] = refl
takes_swept t (x ∷ swept) =
    let more = takes_swept t swept in
    let take : Entry = Take t caretaker false x.place x.face.id x.face.uses in
    let close : Entry = Close t caretaker x.face.id in
    let one = count_first is_taking take (close ∷ sweep_marks t swept) in
    let two = count_first is_taking close (sweep_marks t swept) in
    omega (arith, more, one, two)

no_parks : (es : List Entry) → NoParks es → count_by is_parking es ≡ 0
no_parks [] none = refl
no_parks (e ∷ es) none = let first = count_first is_parking e es in let one = not_park e none.0 in let more = no_parks es none.1 in omega (arith, first, one, more)
  where
    not_park : (e : Entry) → NoPark e → cond {A = ℕ} (is_parking e) 1 0 ≡ 0
    not_park (Open t n id) none = refl
    not_park (Park t n id place uses) none = absurd none
    not_park (Take t n first place id uses) none = refl
    not_park (Free t place) none = refl
    not_park (Close t n id) none = refl
    not_park (Look t place found) none = refl
    not_park (Up t old) none = refl
    not_park (Down t old) none = refl
    not_park (Count t c) none = refl
    not_park (Gate t draining) none = refl
    not_park (SetGate t draining) none = refl
    not_park (Round t k old) none = refl

round_now : (h : History) (now : Millis) → h.about.start.0 ≡ 0 → round_at h.about now ≡ interval_at h.about.rules.delay.0 now
round_now h now start = let since : now.0 - h.about.start.0 ≡ now.0 = omega (arith, start) in ap (λ (n : ℕ). n / h.about.rules.delay.0) since

quota_low : (c intervals : ℕ) → quota_of c intervals ≤ c
quota_low c intervals = omega arith

-- the entries of a round that is counted, and those behind it
module _ (now : Millis) (old new : History) (added : List Note) (swept : List Swept) (m : Makes old new added) (first : old.about.thread ≡ first_thread) (alone : old.about.threads ≡ 1) (start : old.about.start.0 ≡ 0) (even : IsEven old.mine) where
  abbrev Delay : ℕ
  Delay = old.about.rules.delay.0

  steps : EachStep MeetsNeeds (table_after old.seen) added
  steps = EachStep-second MeetsNeeds empty_table old.seen added (subst IsLegal (seen_behind old new added m alone) m.one.legal)

  module _ (r : RaisesRound now old added swept) where
    was_is : r.was ≡ round_behind (marks_of old.mine)
    was_is =
        let need : EachStep MeetsNeeds (table_after old.seen) (round_raised old.about now r.was ∷ r.more) = subst (EachStep MeetsNeeds (table_after old.seen)) r.raises steps in
        need.0 ∙ round_is old m.was alone

    raised_marks : (b : Bool) → nat_lt r.was (round_at old.about now) ≡ b → marks_of added ≡ cond b (Round old.about.thread (round_at old.about now) r.was ∷ marks_of r.more) (marks_of r.more)
    raised_marks b is = ap marks_of r.raises ∙ ap (λ (c : Bool). cond c (Round old.about.thread (round_at old.about now) r.was ∷ marks_of r.more) (marks_of r.more)) is

    module _ (late : r.was < round_at old.about now) (p : PurgesQuota old (round_at old.about now - r.was) r.more swept) where
      abbrev front : List Note
      front = round_raised old.about now r.was ∷ counted old.about.thread p.c ∷ []

      parts : added ≡ front ++ p.more
      parts = r.raises ∙ ap (λ (l : List Note). round_raised old.about now r.was ∷ l) p.counts

      taken_is : takes_of p.more ≡ length swept
      taken_is = sym (takes_marks p.more) ∙ (ap (count_by is_taking) p.closes.marks ∙ takes_swept old.about.thread swept)

      no_park : NoParks (marks_of p.more)
      no_park = subst NoParks (sym p.closes.marks) (sweeps_park old.about.thread swept)

      count_was : p.c ≡ (table_after old.seen).resting
      count_was =
          let need : EachStep MeetsNeeds (table_after old.seen) (front ++ p.more) = subst (EachStep MeetsNeeds (table_after old.seen)) parts steps in
          need.1.0 ∙ count_is old m.was alone even

      not_fewer : takes_of p.more < quota_of p.c (round_at old.about now - r.was) → ((row k : ℕ) → row < old.about.threads → k < 64 → IsCovered old.about.thread p.more (place_of row k)) → ⊥
      not_fewer few all =
          let seen : new.seen ≡ (old.seen ++ front) ++ p.more = seen_behind old new added m alone ∙ (ap (λ (l : List Note). old.seen ++ l) parts ∙ sym (append_assoc old.seen front p.more)) in
          let low : AllBelow 1 new.seen = below_one new m.one (alone_behind old new added m alone) in
          let none = none_left old.about.thread (old.seen ++ front) p.more (first_row old m.was alone) (subst (AllBelow 1) seen low) (subst IsLegal seen m.one.legal)
          (λ row k inside under. all row k (subst (λ (n : ℕ). row < n) (sym alone) inside) under) no_park in
          let low_added : AllBelow 1 (front ++ p.more) = subst (AllBelow 1) parts (below-second 1 old.seen added (subst (AllBelow 1) (seen_behind old new added m alone) low)) in
          let moves = moves_along 1 (table_after old.seen) (front ++ p.more) low_added (subst (EachStep MeetsNeeds (table_after old.seen)) parts steps) (resting_counts 1 old.seen (below_one old m.was alone) m.was.legal) in
          let end : (table_from (table_after old.seen) (front ++ p.more)).resting ≡ 0 =
          ap (λ (T : Table). T.resting) (sym (table_from-append empty_table old.seen (front ++ p.more))) ∙ (ap (λ (l : List Note). (table_after l).resting) (sym (append_assoc old.seen front p.more)) ∙ none) in
          let rests = moves.resting in
          let parks : parks_of p.more ≡ 0 = sym (parks_marks p.more) ∙ no_parks (marks_of p.more) no_park in
          let quota = quota_low p.c (round_at old.about now - r.was) in
          let count = count_was in
          let takes_front = takes_of-append front p.more in
          let parks_front : parks_of (front ++ p.more) ≡ parks_of front + parks_of p.more = sum_by-append (λ (y : Note). cond (is_park y) 1 0) front p.more in
          omega (arith, few, end, rests, parks, quota, count, takes_front, parks_front)

      purged : Purged Delay now (marks_of old.mine) (marks_of added)
      purged = record {
        new = subst (λ (k : ℕ). round_behind (marks_of old.mine) < k) (round_now old now start) (subst (λ (w : ℕ). w < round_at old.about now) was_is late);
        swept = swept;
        marks = raised_marks true (lt-ltb r.was (round_at old.about now) late)
            ∙ (ap (λ (l : List Entry). Round old.about.thread (round_at old.about now) r.was ∷ l) (ap marks_of p.counts ∙ p.closes.marks)
            ∙ (ap (λ (t : ThreadNo). Round t (round_at old.about now) r.was ∷ sweep_marks t swept) first
            ∙ (ap (λ (k : ℕ). Round first_thread k r.was ∷ sweep_marks first_thread swept) (round_now old now start)
            ∙ ap (λ (w : ℕ). Round first_thread (interval_at Delay now) w ∷ sweep_marks first_thread swept) was_is)));
        as_many =
            let all : takes_of p.more ≡ quota_of p.c (round_at old.about now - r.was) = ⊎_elim (λ e. e) (λ f. absurd (not_fewer f.0 f.1)) p.used in
            sym taken_is ∙ (all ∙ (ap (λ (c : ℕ). quota_of c (round_at old.about now - r.was)) (count_was ∙ sym (rest_is old m.was alone))
            ∙ (ap (λ (k : ℕ). quota_of (rest_behind (marks_of old.mine)) (k - r.was)) (round_now old now start)
            ∙ ap (λ (w : ℕ). quota_of (rest_behind (marks_of old.mine)) (interval_at Delay now - w)) was_is)));
      }

    raised : (interval_at Delay now ≤ round_behind (marks_of old.mine)) × (marks_of added ≡ []) ⊎ Purged Delay now (marks_of old.mine) (marks_of added)
    raised = ⊎_elim
        (λ early. inl (
          subst (λ (k : ℕ). k ≤ round_behind (marks_of old.mine)) (round_now old now start) (subst (λ (w : ℕ). round_at old.about now ≤ w) was_is early.0),
          raised_marks false (le-ltb r.was (round_at old.about now) early.0) ∙ ap marks_of early.1,
        ))
        (λ late. inr (purged late.0 late.1))
        r.purges

  tick_answers : (i : ℕ) → Ticks now old added swept → Answers i Delay (marks_of old.mine) (Ticked now) (marks_of added)
  tick_answers i (inl none) = inl (none.0, ap marks_of none.1)
  tick_answers i (inr some) = inr (some.0, raised some.1)

pub tick_stands : (now : Millis) (i : ℕ) (cares : List Care) (old new : History) (x : Sweep) → TicksAt now i old new x → Stands i cares old → Stands i (cares ++ Ticked now ∷ []) new
tick_stands now i cares old new x d s =
    behind i cares (cares ++ Ticked now ∷ []) old new x.added d.makes s
    (asked_one cares (marks_of old.mine) (Ticked now) (marks_of x.added) s.cared (tick_answers now old new x.added x.swept d.makes s.thread s.alone s.start s.even i d.does))
