-- From the servers that were asked in turn to the gates among a call's entries, and the choice that they show.
use Rattle.std.proofs.Common.{◌≡◌, ◌⊎◌, ◌≤◌, ◌<◌, ◌+◌, ◌-◌, ◌%◌, ℕ, zero, suc, Bool, true, false, eqb, not, List, [], ◌∷◌, ◌++◌, length, map, get_or, refl, sym, ap, subst, ◌∙◌, inl, inr, arith, append_assoc, Option, Some, ⊎_elim}
use Rattle.std.specs.Prelude.{nat_lt, if◌then◌else◌, option_map}
use Rattle.std.specs.List.{slice_get, slice_set}
use Rattle.std.proofs.lemmas.Bool.{ltb-true, ltb-false, eqb-true, eqb-false}
use Rattle.std.proofs.lemmas.List.{append-nil, append_cancel_left, length-append, length-map, get_or_append_left}
use Rattle.std.proofs.lemmas.Option.{slice_get-map, slice_get-get_or, slice_get_within}
use Rattle.std.proofs.Math.Nat.{mod-eq_of_lt, mod-eq-sub-mod}
use Rattle.hx_base.specs.declared.numbers.ServerNo.{ServerNo}
use Rattle.hx_base.specs.declared.numbers.ThreadNo.{ThreadNo}
use Rattle.hx_config.specs.declared.parts.Server.{Server}
use Rattle.hx_pool.specs.Causes.{Among}
use Rattle.hx_pool.specs.declared.entries.Entry.{Entry}
use Rattle.hx_pool.specs.declared.entries.Entry.TheVariants.{Gate}
use Rattle.hx_pool.specs.declared.entries.Note.{Note}
use Rattle.hx_pool.specs.History.{plain, marks_of}
use Rattle.hx_pool.specs.SeatView.{History, Makes}
use Rattle.hx_pool.proofs.Histories.{marks_of-append}
use Rattle.hx_pool.proofs.Purges.{among_left, among_right}
use Rattle.hx_connecting.specs.Choice.{in_turn, at_of, AskedAll, ChoosesReady}
use Rattle.hx_connecting.specs.Choosing.{ShowsGate, Chooses}
use Rattle.hx_connecting.specs.Touches.{AddsEach}
use Rattle.hx_connecting.proofs.AroundLemmas.{seat_set}
use Rattle.hx_connecting.proofs.ChoiceLemmas.{length_in_turn, in_turn_at, at_next}

some_is : {A : Type 0} (x y : A) → Some x ≡ Some y → x ≡ y
some_is x y e = cc

pub is_or_not : (a b : ℕ) → (a ≡ b) ⊎ (a ≡ b → ⊥)
is_or_not a b = by_test (eqb a b) refl
  where
    by_test : (t : Bool) → eqb a b ≡ t → (a ≡ b) ⊎ (a ≡ b → ⊥)
    by_test true e = inl (eqb-true a b e)
    by_test false e = inr (eqb-false a b e)

pub set_other : {A : Type 0} (xs : List A) (k j : ℕ) (x : A) → (j ≡ k → ⊥) → slice_get (slice_set xs k x) j ≡ slice_get xs j
set_other [] k j x ne = refl
set_other (y ∷ xs) zero zero x ne = absurd (ne refl)
set_other (y ∷ xs) zero (suc j) x ne = refl
set_other (y ∷ xs) (suc k) zero x ne = refl
set_other (y ∷ xs) (suc k) (suc j) x ne = set_other xs k j x (λ e. ne (ap suc e))

pub set_again : {A : Type 0} (xs : List A) (k : ℕ) (x : A) → slice_get xs k ≡ Some x → slice_set xs k x ≡ xs
set_again [] k x there = cc
set_again (y ∷ xs) zero x there = ap (λ (z : _). z ∷ xs) (some_is x y (sym there))
set_again (y ∷ xs) (suc k) x there = ap (λ (l : List _). y ∷ l) (set_again xs k x there)

pub set_count : {A : Type 0} (xs : List A) (k : ℕ) (x : A) → length (slice_set xs k x) ≡ length xs
set_count [] k x = refl
set_count (y ∷ xs) zero x = refl
set_count (y ∷ xs) (suc k) x = ap suc (set_count xs k x)

pub there_is : {A : Type 0} (xs : List A) (j : ℕ) → j < length xs → (x : A) × (slice_get xs j ≡ Some x)
there_is [] j low = absurd (omega (arith, low))
there_is (x ∷ xs) zero low = (x, refl)
there_is (x ∷ xs) (suc j) low = there_is xs j (omega (arith, low))

-- a seat's entries grew by such ones
abbrev pub Grew : (List Note → Type 0) → List History → List History → ℕ → Type 0
Grew P olds news j = (old : History) → slice_get olds j ≡ Some old
    → (new : History) × (es : List Note) × (slice_get news j ≡ Some new) × (new.mine ≡ old.mine ++ es) × P es

abbrev pub NoMark : List Note → Type 0
NoMark es = marks_of es ≡ []

abbrev pub AnyNotes : List Note → Type 0
AnyNotes es = Unit {0}

pub grew_none : (P : List Note → Type 0) (olds news : List History) (j : ℕ) → news ≡ olds → P [] → Grew P olds news j
grew_none P olds news j same p = λ old there. (old, [], ap (λ (hs : List History). slice_get hs j) same ∙ there, sym (append-nil old.mine), p)

pub grew_set : (P : List Note → Type 0) (olds news : List History) (k j : ℕ) (old new : History) (es : List Note) → slice_get olds k ≡ Some old → news ≡ slice_set olds k new → new.mine ≡ old.mine ++ es → P es → P [] → Grew P olds news j
grew_set P olds news k j old new es was is mine p none = λ h there. by_case h there (is_or_not j k)
  where
    by_case : (h : History) → slice_get olds j ≡ Some h → (j ≡ k) ⊎ (j ≡ k → ⊥) → (n : History) × (fs : List Note) × (slice_get news j ≡ Some n) × (n.mine ≡ h.mine ++ fs) × P fs
    by_case h there (inl e) = (
      new,
      es,
      ap (λ (hs : List History). slice_get hs j) is ∙ (ap (λ (i : ℕ). slice_get (slice_set olds k new) i) e ∙ seat_set k olds old new was),
      mine ∙ ap (λ (x : History). x.mine ++ es) (some_is old h (sym was ∙ (ap (slice_get olds) (sym e) ∙ there))),
      p,
    )
    by_case h there (inr ne) = (h, [], ap (λ (hs : List History). slice_get hs j) is ∙ (set_other olds k j new ne ∙ there), sym (append-nil h.mine), none)

pub grew_then : (P : List Note → Type 0) (xs bs cs : List History) (j : ℕ) → ((a b : List Note) → P a → P b → P (a ++ b)) → Grew P xs bs j → Grew P bs cs j → Grew P xs cs j
grew_then P xs bs cs j both f g = λ old there.
    let a = f old there in
    let b = g a.0 a.2 in
    (b.0, a.1 ++ b.1, b.2, b.3 ∙ (ap (λ (l : List Note). l ++ b.1) a.3 ∙ append_assoc old.mine a.1 b.1), both a.1 b.1 a.4 b.4)

pub no_mark_both : (a b : List Note) → NoMark a → NoMark b → NoMark (a ++ b)
no_mark_both a b x y = marks_of-append a b ∙ (ap (λ (l : List Entry). l ++ marks_of b) x ∙ y)

pub asked_grew : (xs : List Server) (ready : Bool) (olds news : List History) (j : ℕ) → AskedAll xs ready olds news → Grew NoMark olds news j
asked_grew [] ready olds news j same = grew_none NoMark olds news j same refl
asked_grew (x ∷ xs) ready olds news j (old, new, mids, there, reads, is, rest) =
    grew_then NoMark olds mids news j no_mark_both (grew_set NoMark olds mids x.no.0 j old new _ there is reads.makes.mine refl refl) (asked_grew xs ready mids news j rest)

asked_count : (xs : List Server) (ready : Bool) (olds news : List History) → AskedAll xs ready olds news → length news ≡ length olds
asked_count [] ready olds news same = ap (λ (hs : List History). length hs) same
asked_count (x ∷ xs) ready olds news (old, new, mids, there, reads, is, rest) = asked_count xs ready mids news rest ∙ (ap (λ (hs : List History). length hs) is ∙ set_count olds x.no.0 new)

-- what a seat of the call shows among its entries
abbrev Shown : (Entry → Type 0) → List History → List History → ℕ → Type 0
Shown E olds news j = (old : History) × (new : History) × (es : List Note) × (slice_get olds j ≡ Some old) × (slice_get news j ≡ Some new) × (new.mine ≡ old.mine ++ es) × Among E es

shown_later : (E : Entry → Type 0) (P : List Note → Type 0) (xs bs cs : List History) (j : ℕ) → Shown E xs bs j → Grew P bs cs j → Shown E xs cs j
shown_later E P xs bs cs j (old, new, es, was, is, mine, among) g =
    let k = g new is in
    (old, k.0, es ++ k.1, was, k.2, k.3 ∙ (ap (λ (l : List Note). l ++ k.1) mine ∙ append_assoc old.mine es k.1), among_left E es k.1 among)

shown_behind : (E : Entry → Type 0) (P : List Note → Type 0) (xs bs cs : List History) (j : ℕ) → length bs ≡ length xs → Grew P xs bs j → Shown E bs cs j → Shown E xs cs j
shown_behind E P xs bs cs j count g (old, new, es, was, is, mine, among) =
    let low : j < length xs = omega (arith, slice_get_within bs j old was, count) in
    let o = there_is xs j low in
    let k = g o.0 o.1 in
    let same : k.0 ≡ old = some_is k.0 old (sym k.2 ∙ was) in
    (o.0, new, k.1 ++ es, o.1, is, mine ∙ (ap (λ (h : History). h.mine ++ es) (sym same) ∙ (ap (λ (l : List Note). l ++ es) k.3 ∙ append_assoc o.0.mine k.1 es)), among_right E k.1 es among)

-- each seat is the thread's
abbrev pub AllOfThread : ThreadNo → List History → Type 0
AllOfThread t hs = (j : ℕ) (h : History) → slice_get hs j ≡ Some h → h.about.thread ≡ t

thread_set : (t : ThreadNo) (olds : List History) (k : ℕ) (old new : History) → slice_get olds k ≡ Some old → new.about ≡ old.about → AllOfThread t olds → AllOfThread t (slice_set olds k new)
thread_set t olds k old new was same all = λ j h there. ⊎_elim
    (λ (e : j ≡ k). ap (λ (x : History). x.about.thread) (some_is h new (sym there ∙ (ap (slice_get (slice_set olds k new)) e ∙ seat_set k olds old new was))) ∙ (ap (λ a. a.thread) same ∙ all k old was))
    (λ (ne : j ≡ k → ⊥). all j h (sym (set_other olds k j new ne) ∙ there))
    (is_or_not j k)

asked_thread : (t : ThreadNo) (xs : List Server) (ready : Bool) (olds news : List History) → AllOfThread t olds → AskedAll xs ready olds news → AllOfThread t news
asked_thread t [] ready olds news all same = subst (AllOfThread t) (sym same) all
asked_thread t (x ∷ xs) ready olds news all (old, new, mids, there, reads, is, rest) =
    asked_thread t xs ready mids news (subst (AllOfThread t) (sym is) (thread_set t olds x.no.0 old new there reads.makes.about all)) rest

abbrev IsGate : ThreadNo → Bool → Entry → Type 0
IsGate t draining e = e ≡ Gate t draining

-- each server that was asked shows its gate
asked_shown : (t : ThreadNo) (xs : List Server) (ready : Bool) (olds news : List History) (i : ℕ) (x : Server) → AllOfThread t olds → AskedAll xs ready olds news → slice_get xs i ≡ Some x → Shown (IsGate t (not ready)) olds news x.no.0
asked_shown t [] ready olds news i x all asked at = cc
asked_shown t (y ∷ xs) ready olds news zero x all (old, new, mids, there, reads, is, rest) at =
    let one : Shown (IsGate t (not ready)) olds mids y.no.0 = (
      old,
      new,
      plain (Gate old.about.thread (not ready)) ∷ [],
      there,
      ap (λ (hs : List History). slice_get hs y.no.0) is ∙ seat_set y.no.0 olds old new there,
      reads.makes.mine,
      inl (ap (λ (u : ThreadNo). Gate u (not ready)) (all y.no.0 old there)),
    ) in
    subst (λ (s : Server). Shown (IsGate t (not ready)) olds news s.no.0) (some_is y x at) (shown_later (IsGate t (not ready)) NoMark olds mids news y.no.0 one (asked_grew xs ready mids news y.no.0 rest))
asked_shown t (y ∷ xs) ready olds news (suc i) x all (old, new, mids, there, reads, is, rest) at =
    let mid : AllOfThread t mids = subst (AllOfThread t) (sym is) (thread_set t olds y.no.0 old new there reads.makes.about all) in
    shown_behind (IsGate t (not ready)) NoMark olds mids news x.no.0 (ap (λ (hs : List History). length hs) is ∙ set_count olds y.no.0 new) (grew_set NoMark olds mids y.no.0 x.no.0 old new _ there is reads.makes.mine refl refl)
    (asked_shown t xs ready mids news i x mid rest at)

-- a call's entries, by a seat's place
pub adds_at : (P : ℕ → List Note → Type 0) (i j : ℕ) (olds news : List History) (added : List (List Note)) (old : History) → AddsEach P i olds news added → slice_get olds j ≡ Some old
    → (new : History) × (es : List Note) × (slice_get news j ≡ Some new) × (slice_get added j ≡ Some es) × Makes old new es × P (i + j) es
adds_at P i j [] news added old adds there = cc
adds_at P i j (h ∷ olds) [] added old adds there = absurd adds
adds_at P i j (h ∷ olds) (k ∷ news) [] old adds there = absurd adds
adds_at P i zero (h ∷ olds) (k ∷ news) (es ∷ added) old adds there =
    (k, es, refl, refl, subst (λ (x : History). Makes x k es) (some_is h old there) adds.0, subst (λ (m : ℕ). P m es) (omega arith) adds.1)
adds_at P i (suc j) (h ∷ olds) (k ∷ news) (es ∷ added) old adds there =
    let r = adds_at P (i + 1) j olds news added old adds.2 there in
    (r.0, r.1, r.2, r.3, r.4, subst (λ (m : ℕ). P m r.1) (omega arith) r.5)

-- what a call's seat shows stands among its entries
entries_show : (P : ℕ → List Note → Type 0) (E : Entry → Type 0) (j : ℕ) (olds news : List History) (added : List (List Note)) → AddsEach P 0 olds news added → Shown E olds news j → (es : List Note) × (slice_get added j ≡ Some es) × Among E es
entries_show P E j olds news added adds (old, new, es, was, is, mine, among) =
    let r = adds_at P 0 j olds news added old adds was in
    let same : r.0 ≡ new = some_is r.0 new (sym r.2 ∙ is) in
    let eq : r.1 ≡ es = append_cancel_left old.mine r.1 es (sym r.4.mine ∙ (ap (λ (h : History). h.mine) same ∙ mine)) in
    (r.1, r.3, subst (Among E) (sym eq) among)

-- the place of the k-th server in turn, by remainders
mod_at : (n turn k : ℕ) → turn < n → k ≤ n → (turn + k) % n ≡ at_of n turn k
mod_at n turn k low few = by_test (nat_lt (turn + k) n) (λ e. ltb-true (turn + k) n e) (λ e. ltb-false (turn + k) n e)
  where
    by_test : (b : Bool) → (b ≡ true → turn + k < n) → (b ≡ false → n ≤ turn + k) → (turn + k) % n ≡ (if b then turn + k else (turn + k) - n)
    by_test true front back = mod-eq_of_lt (front refl)
    by_test false front back = let over : n ≤ turn + k = back refl in mod-eq-sub-mod over ∙ mod-eq_of_lt (omega (arith, over, low, few))

at_low : (n turn k : ℕ) → turn < n → k < n → at_of n turn k < n
at_low n turn k low less = by_test (nat_lt (turn + k) n) (λ e. ltb-true (turn + k) n e) (λ e. ltb-false (turn + k) n e)
  where
    by_test : (b : Bool) → (b ≡ true → turn + k < n) → (b ≡ false → n ≤ turn + k) → (if b then turn + k else (turn + k) - n) < n
    by_test true front back = front refl
    by_test false front back = let over : n ≤ turn + k = back refl in omega (arith, over, low, less)

-- the k-th server in turn
turn_at : (servers : List Server) (turn k : ℕ) (d : Server) → turn < length servers → k < length servers → slice_get servers ((turn + k) % length servers) ≡ Some (get_or (in_turn servers turn) k d)
turn_at servers turn k d low less =
    let n = length servers in
    ap (slice_get servers) (mod_at n turn k low (omega (arith, less))) ∙ (slice_get-get_or servers (at_of n turn k) d (at_low n turn k low less) ∙ ap Some (sym (in_turn_at servers turn k (at_of n turn k) d low less refl)))

-- the servers' numbers
number_at : (servers : List Server) (i : ℕ) (s : Server) → slice_get servers i ≡ Some s → slice_get (map (λ (x : Server). x.no) servers) i ≡ Some s.no
number_at servers i s there = slice_get-map (λ (x : Server). x.no) servers i ∙ ap (option_map (λ (x : Server). x.no)) there

shows_gate : (P : ℕ → List Note → Type 0) (t : ThreadNo) (olds news : List History) (added : List (List Note)) (o : Option ServerNo) (v : ServerNo) (draining : Bool) → o ≡ Some v → AddsEach P 0 olds news added
    → Shown (IsGate t draining) olds news v.0 → ShowsGate t added o draining
shows_gate P t olds news added o v draining is adds shown = subst (λ (x : Option ServerNo). ShowsGate t added x draining) (sym is) (entries_show P (IsGate t draining) v.0 olds news added adds shown)

-- the first server in turn that is ready
pub chooses_by_gates : (P : ℕ → List Note → Type 0) (t : ThreadNo) (servers : List Server) (turn turn' : ℕ) (olds asked news : List History) (added : List (List Note)) (v : ServerNo) → turn < length servers → AllOfThread t olds
    → ChoosesReady servers turn turn' olds asked v → ((j : ℕ) → Grew AnyNotes asked news j) → AddsEach P 0 olds news added → Chooses t (map (λ (x : Server). x.no) servers) turn turn' added v
chooses_by_gates P t servers turn turn' olds asked news added v low all k later adds =
    let n = length servers in
    let step = length k.passed in
    let count : length (map (λ (x : Server). x.no) servers) ≡ n = length-map servers (λ (x : Server). x.no) in
    let size : length (in_turn servers turn) ≡ n = length_in_turn servers turn (omega (arith, low)) in
    let less : step < n = omega (arith, size, ap (λ (l : List Server). length l) k.order, length-append k.passed (k.chosen ∷ k.later)) in
    let place : (turn + step) % n ≡ k.place = mod_at n turn step low (omega (arith, less)) ∙ sym k.at in
    let mod_same : (j : ℕ) → (turn + j) % length (map (λ (x : Server). x.no) servers) ≡ (turn + j) % n = λ j. ap (λ (m : ℕ). (turn + j) % m) count in
    let mids_all : AllOfThread t k.mids = asked_thread t k.passed false olds k.mids all k.drained in
    let chosen_shown : Shown (IsGate t false) k.mids asked k.chosen.no.0 = asked_shown t (k.chosen ∷ []) true k.mids asked 0 k.chosen mids_all k.ready refl in
    let chosen_here : Shown (IsGate t false) olds news k.chosen.no.0 =
    shown_behind (IsGate t false) NoMark olds k.mids news k.chosen.no.0 (asked_count k.passed false olds k.mids k.drained) (asked_grew k.passed false olds k.mids k.chosen.no.0 k.drained)
    (shown_later (IsGate t false) AnyNotes k.mids asked news k.chosen.no.0 chosen_shown (later k.chosen.no.0)) in
    record {
      step = step;
      within = omega (arith, less, count);
      is = ap (slice_get (map (λ (x : Server). x.no) servers)) (mod_same step ∙ place) ∙ (number_at servers k.place k.chosen k.there ∙ ap Some k.is);
      ready = shows_gate P t olds news added (Some v) v false refl adds (subst (λ (w : ServerNo). Shown (IsGate t false) olds news w.0) k.is chosen_here);
      before = λ j before.
          let x = there_is k.passed j before in
          let same : get_or (in_turn servers turn) j k.chosen ≡ x.0 = ap (λ (l : List Server). get_or l j k.chosen) k.order ∙ (get_or_append_left k.passed (k.chosen ∷ k.later) k.chosen j before ∙ some_is (get_or k.passed j k.chosen) x.0 (sym (slice_get-get_or k.passed j k.chosen before) ∙ x.1)) in
          let is : slice_get (map (λ (y : Server). y.no) servers) ((turn + j) % length (map (λ (y : Server). y.no) servers)) ≡ Some x.0.no =
          ap (slice_get (map (λ (y : Server). y.no) servers)) (mod_same j) ∙ number_at servers ((turn + j) % n) x.0 (turn_at servers turn j k.chosen low (omega (arith, before, less)) ∙ ap Some same) in
          let drained : Shown (IsGate t true) olds k.mids x.0.no.0 = asked_shown t k.passed false olds k.mids j x.0 all k.drained x.1 in
          shows_gate P t olds news added _ x.0.no true is adds
          (shown_later (IsGate t true) AnyNotes olds asked news x.0.no.0 (shown_later (IsGate t true) NoMark olds k.mids asked x.0.no.0 drained (asked_grew (k.chosen ∷ []) true k.mids asked x.0.no.0 k.ready)) (later x.0.no.0));
      next = k.turn_after ∙ (at_next n turn step k.place low less k.at ∙ (sym (mod_at n turn (step + 1) low (omega (arith, less))) ∙ (ap (λ (m : ℕ). m % n) (omega arith) ∙ ap (λ (m : ℕ). (turn + step + 1) % m) (sym count))));
    }
