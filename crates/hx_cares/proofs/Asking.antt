-- The SetGates and Rounds among such marks are just those that were asked for.
use Rattle.std.proofs.Common.{◌≡◌, ◌≢◌, ◌⊎◌, inl, inr, ⊎_elim, ℕ, zero, suc, ◌<◌, ◌≤◌, ◌++◌, Bool, true, false, cond, List, [], ◌∷◌, refl, sym, ap, ◌∙◌, subst, arith, append-nil, append_assoc, eq-eqb, ne_eqb}
use Rattle.std.specs.Prelude.{nat_lt, if◌then◌else◌, ◌==◌}
use Rattle.std.specs.List.{flat_map}
use Rattle.std.proofs.lemmas.Bool.{le-ltb, lt-ltb}
use Rattle.std.proofs.lemmas.Grind.{flat_map-append}
use mathlib.Core.Logic.{dite}
use native.Mathlib.Decide.{ℕ_discrete}
use Rattle.hx_base.specs.declared.numbers.Millis.{Millis}
use Rattle.hx_base.specs.declared.numbers.SessionNo.{SessionNo}
use Rattle.hx_base.specs.declared.numbers.ThreadNo.{ThreadNo}
use Rattle.hx_base.specs.declared.order.Order.{Order}
use Rattle.hx_base.specs.declared.order.Order.TheVariants.{Drain, Ready}
use Rattle.hx_caretaker.specs.Orders.{ordered_server}
use Rattle.hx_caretaker.specs.Sweeps.{Swept, sweep_marks}
use Rattle.hx_connecting.specs.Touches.{IsOf}
use Rattle.hx_plain.specs.PlainSeat.{first_thread}
use Rattle.hx_pool.specs.declared.entries.Entry.{Entry}
use Rattle.hx_pool.specs.declared.entries.Entry.TheVariants.{Open, Park, Take, Free, Close, Look, Up, Down, Count, Gate, SetGate, Round}
use Rattle.hx_run.specs.Cares.{Care, Ordered, Ticked, drains_below}
use Rattle.hx_cares.specs.Asked.{gate_asked, gate_set, gates_asked, gates_in, is_drain, round_made, rounds_asked, rounds_from, rounds_in}
use Rattle.hx_cares.specs.Cared.{AllBy, Answers, Cared, Obeyed, Purged, asked_one, none_yet, session_made, interval_at, round_after, round_behind, round_from}

-- ---- marks that set no gate and make no round

abbrev IsOther : Entry → Type 0
IsOther (SetGate t draining) = ⊥
IsOther (Round t k old) = ⊥
IsOther _ = Unit {0}

abbrev AllOther : List Entry → Type 0
AllOther [] = Unit {0}
AllOther (e ∷ es) = IsOther e × AllOther es

other_by : (n : SessionNo) (e : Entry) → IsOf n e → IsOther e
other_by n (Open t m id) own = tt
other_by n (Park t m id place uses) own = tt
other_by n (Take t m first place id uses) own = tt
other_by n (Free t place) own = tt
other_by n (Close t m id) own = tt
other_by n (Look t place found) own = tt
other_by n (Up t old) own = tt
other_by n (Down t old) own = tt
other_by n (Count t c) own = tt
other_by n (Gate t draining) own = tt
other_by n (SetGate t draining) own = absurd own
other_by n (Round t k old) own = absurd own

all_other : (n : SessionNo) (es : List Entry) → AllBy n es → AllOther es
all_other n [] all = tt
all_other n (e ∷ es) all = (other_by n e all.0, all_other n es all.1)

swept_other : (t : ThreadNo) (swept : List Swept) → AllOther (sweep_marks t swept)
swept_other t [] = tt
swept_other t (x ∷ swept) = (tt, (tt, swept_other t swept))

-- such a mark says nothing of gates or rounds
record SaysNone (e : Entry) : Type 0 where
  pub gate : gate_set e ≡ []
  pub made : round_made e ≡ []
  pub stays : (k : ℕ) → round_after k e ≡ k

says_none : (e : Entry) → IsOther e → SaysNone e
says_none (Open t m id) o = record { gate = refl; made = refl; stays = λ k. refl }
says_none (Park t m id place uses) o = record { gate = refl; made = refl; stays = λ k. refl }
says_none (Take t m first place id uses) o = record { gate = refl; made = refl; stays = λ k. refl }
says_none (Free t place) o = record { gate = refl; made = refl; stays = λ k. refl }
says_none (Close t m id) o = record { gate = refl; made = refl; stays = λ k. refl }
says_none (Look t place found) o = record { gate = refl; made = refl; stays = λ k. refl }
says_none (Up t old) o = record { gate = refl; made = refl; stays = λ k. refl }
says_none (Down t old) o = record { gate = refl; made = refl; stays = λ k. refl }
says_none (Count t c) o = record { gate = refl; made = refl; stays = λ k. refl }
says_none (Gate t draining) o = record { gate = refl; made = refl; stays = λ k. refl }
says_none (SetGate t draining) o = absurd o
says_none (Round t k old) o = absurd o

no_gates : (es : List Entry) → AllOther es → gates_in es ≡ []
no_gates [] o = refl
no_gates (e ∷ es) o = ap (λ (l : List Bool). l ++ gates_in es) (says_none e o.0).gate ∙ no_gates es o.1

no_rounds : (es : List Entry) → AllOther es → rounds_in es ≡ []
no_rounds [] o = refl
no_rounds (e ∷ es) o = ap (λ (l : List ℕ). l ++ rounds_in es) (says_none e o.0).made ∙ no_rounds es o.1

same_round : (k : ℕ) (es : List Entry) → AllOther es → round_from k es ≡ k
same_round k [] o = refl
same_round k (e ∷ es) o = ap (λ (n : ℕ). round_from n es) ((says_none e o.0).stays k) ∙ same_round k es o.1

round_more : (k : ℕ) (xs ys : List Entry) → round_from k (xs ++ ys) ≡ round_from (round_from k xs) ys
round_more k [] ys = refl
round_more k (x ∷ xs) ys = round_more (round_after k x) xs ys

-- ---- gates

gates_more : (server : ℕ) (cares : List Care) (es : List Entry) (care : Care) (more : List Entry) → gates_in es ≡ gates_asked server cares → gates_in more ≡ gate_asked server care
    → gates_in (es ++ more) ≡ gates_asked server (cares ++ care ∷ [])
gates_more server cares es care more before now =
    flat_map-append gate_set es more
    ∙ (ap (λ (l : List Bool). l ++ gates_in more) before
    ∙ (ap (λ (l : List Bool). gates_asked server cares ++ l) (now ∙ sym (append-nil (gate_asked server care)))
    ∙ sym (flat_map-append (gate_asked server) cares (care ∷ []))))

gate_here : (server : ℕ) (what : Order) → (ordered_server what).0 ≡ server → gate_asked server (Ordered what) ≡ is_drain what ∷ []
gate_here server what is = ap (λ (b : Bool). if b then is_drain what ∷ [] else []) (eq-eqb (ordered_server what).0 server is)

gate_elsewhere : (server : ℕ) (what : Order) → (ordered_server what).0 ≢ server → gate_asked server (Ordered what) ≡ []
gate_elsewhere server what ne = ap (λ (b : Bool). if b then is_drain what ∷ [] else []) (ne_eqb (ordered_server what).0 server ne)

obeyed_gate : (what : Order) (es more : List Entry) → Obeyed what es more → (gates_in more ≡ is_drain what ∷ []) × (rounds_in more ≡ []) × ((k : ℕ) → round_from k more ≡ k)
obeyed_gate (Drain server) es more d = (
  ap gates_in d.marks ∙ ap (λ (l : List Bool). true ∷ l) (no_gates (sweep_marks first_thread d.swept) (swept_other first_thread d.swept)),
  ap rounds_in d.marks ∙ no_rounds (sweep_marks first_thread d.swept) (swept_other first_thread d.swept),
  λ k. ap (round_from k) d.marks ∙ same_round k (sweep_marks first_thread d.swept) (swept_other first_thread d.swept),
)
obeyed_gate (Ready server) es more d = (ap gates_in d, ap rounds_in d, λ k. ap (round_from k) d)

purged_gate : (delay : ℕ) (now : Millis) (es more : List Entry) → Purged delay now es more → (gates_in more ≡ []) × (rounds_in more ≡ interval_at delay now ∷ []) × ((k : ℕ) → round_from k more ≡ interval_at delay now)
purged_gate delay now es more p = (
  ap gates_in p.marks ∙ no_gates (sweep_marks first_thread p.swept) (swept_other first_thread p.swept),
  ap rounds_in p.marks ∙ ap (λ (l : List ℕ). interval_at delay now ∷ l) (no_rounds (sweep_marks first_thread p.swept) (swept_other first_thread p.swept)),
  λ k. ap (round_from k) p.marks ∙ same_round (interval_at delay now) (sweep_marks first_thread p.swept) (swept_other first_thread p.swept),
)

answered_gate : (server delay : ℕ) (es : List Entry) (care : Care) (more : List Entry) → Answers server delay es care more → gates_in more ≡ gate_asked server care
answered_gate server delay es (Ordered what) more (inl a) = ap gates_in a.1 ∙ sym (gate_elsewhere server what a.0)
answered_gate server delay es (Ordered what) more (inr a) = (obeyed_gate what es more a.1).0 ∙ sym (gate_here server what a.0)
answered_gate server delay es (Ticked now) more (inl a) = ap gates_in a.1
answered_gate server delay es (Ticked now) more (inr (pos, inl a)) = ap gates_in a.1
answered_gate server delay es (Ticked now) more (inr (pos, inr p)) = (purged_gate delay now es more p).0

gates_hold : (server delay : ℕ) (cares : List Care) (es : List Entry) → Cared server delay cares es → gates_in es ≡ gates_asked server cares
gates_hold server delay _ _ none_yet = refl
gates_hold server delay _ _ (session_made cares es n more c other own) =
    flat_map-append gate_set es more ∙ (ap (λ (l : List Bool). gates_in es ++ l) (no_gates more (all_other n more own)) ∙ (append-nil (gates_in es) ∙ gates_hold server delay cares es c))
gates_hold server delay _ _ (asked_one cares es care more c a) =
    gates_more server cares es care more (gates_hold server delay cares es c) (answered_gate server delay es care more a)

-- ---- rounds

-- the interval behind these
reached : ℕ → ℕ → List Care → ℕ
reached delay was [] = was
reached delay was (Ordered what ∷ cares) = reached delay was cares
reached delay was (Ticked now ∷ cares) = reached delay (cond (nat_lt was (interval_at delay now)) (interval_at delay now) was) cares

rounds_end : (delay was : ℕ) (cares : List Care) (care : Care) → rounds_from delay was (cares ++ care ∷ []) ≡ rounds_from delay was cares ++ rounds_from delay (reached delay was cares) (care ∷ [])
unfolding rounds_from reached
rounds_end delay was [] care = refl
rounds_end delay was (Ordered what ∷ cares) care = rounds_end delay was cares care
rounds_end delay was (Ticked now ∷ cares) care =
    elim (nat_lt was (interval_at delay now)) as (λ b. (if b then interval_at delay now ∷ rounds_from delay (interval_at delay now) (cares ++ care ∷ []) else rounds_from delay was (cares ++ care ∷ []))
    ≡ (if b then interval_at delay now ∷ rounds_from delay (interval_at delay now) cares else rounds_from delay was cares) ++ rounds_from delay (reached delay (cond b (interval_at delay now) was) cares) (care ∷ [])) [
      | true ↦ ap (λ (l : List ℕ). interval_at delay now ∷ l) (rounds_end delay (interval_at delay now) cares care)
      | false ↦ rounds_end delay was cares care
    ]

reached_end : (delay was : ℕ) (cares : List Care) (care : Care) → reached delay was (cares ++ care ∷ []) ≡ reached delay (reached delay was cares) (care ∷ [])
unfolding reached
reached_end delay was [] care = refl
reached_end delay was (Ordered what ∷ cares) care = reached_end delay was cares care
reached_end delay was (Ticked now ∷ cares) care = reached_end delay (cond (nat_lt was (interval_at delay now)) (interval_at delay now) was) cares care

-- where purges are set: the rounds, and the interval behind them
record Rounds (delay : ℕ) (cares : List Care) (es : List Entry) : Type 0 where
  pub made : rounds_in es ≡ rounds_from delay 0 cares
  pub stands : round_behind es ≡ reached delay 0 cares

-- what the answer to one more adds
record Adds (delay was : ℕ) (care : Care) (more : List Entry) : Type 0 where
  pub made : rounds_in more ≡ rounds_from delay was (care ∷ [])
  pub stands : round_from was more ≡ reached delay was (care ∷ [])

adds_order : (delay was : ℕ) (what : Order) (more : List Entry) → rounds_in more ≡ [] → ((k : ℕ) → round_from k more ≡ k) → Adds delay was (Ordered what) more
unfolding rounds_from reached
adds_order delay was what more none same = record { made = none; stands = same was }

adds_early : (delay was : ℕ) (now : Millis) (more : List Entry) → interval_at delay now ≤ was → more ≡ [] → Adds delay was (Ticked now) more
unfolding rounds_from reached
adds_early delay was now more low none =
    let no : nat_lt was (interval_at delay now) ≡ false = le-ltb was (interval_at delay now) low in record {
      made = ap rounds_in none ∙ sym (ap (λ (b : Bool). if b then interval_at delay now ∷ [] else []) no);
      stands = ap (round_from was) none ∙ sym (ap (λ (b : Bool). cond b (interval_at delay now) was) no);
    }

adds_late : (delay was : ℕ) (now : Millis) (more : List Entry) → was < interval_at delay now → rounds_in more ≡ interval_at delay now ∷ [] → ((k : ℕ) → round_from k more ≡ interval_at delay now) → Adds delay was (Ticked now) more
unfolding rounds_from reached
adds_late delay was now more late one to =
    let yes_ : nat_lt was (interval_at delay now) ≡ true = lt-ltb was (interval_at delay now) late in record {
      made = one ∙ sym (ap (λ (b : Bool). if b then interval_at delay now ∷ [] else []) yes_);
      stands = to was ∙ sym (ap (λ (b : Bool). cond b (interval_at delay now) was) yes_);
    }

answered_round : (server delay : ℕ) (es : List Entry) (care : Care) (more : List Entry) → delay ≢ 0 → Answers server delay es care more → Adds delay (round_behind es) care more
answered_round server delay es (Ordered what) more pos (inl a) = adds_order delay (round_behind es) what more (ap rounds_in a.1) (λ k. ap (round_from k) a.1)
answered_round server delay es (Ordered what) more pos (inr a) = let o = obeyed_gate what es more a.1 in adds_order delay (round_behind es) what more o.1 o.2
answered_round server delay es (Ticked now) more pos (inl a) = absurd (pos a.0)
answered_round server delay es (Ticked now) more pos (inr (same, inl a)) = adds_early delay (round_behind es) now more a.0 a.1
answered_round server delay es (Ticked now) more pos (inr (same, inr p)) = let o = purged_gate delay now es more p in adds_late delay (round_behind es) now more p.new o.1 o.2

rounds_hold : (server delay : ℕ) (cares : List Care) (es : List Entry) → delay ≢ 0 → Cared server delay cares es → Rounds delay cares es
unfolding rounds_from reached
rounds_hold server delay _ _ pos none_yet = record { made = refl; stands = refl }
rounds_hold server delay _ _ pos (session_made cares es n more c other own) =
    let h = rounds_hold server delay cares es pos c in
    let o = all_other n more own in record {
      made = flat_map-append round_made es more ∙ (ap (λ (l : List ℕ). rounds_in es ++ l) (no_rounds more o) ∙ (append-nil (rounds_in es) ∙ h.made));
      stands = round_more 0 es more ∙ (same_round (round_behind es) more o ∙ h.stands);
    }
rounds_hold server delay _ _ pos (asked_one cares es care more c a) =
    let h = rounds_hold server delay cares es pos c in
    let add = subst (λ (k : ℕ). Adds delay k care more) h.stands (answered_round server delay es care more pos a) in record {
      made = flat_map-append round_made es more ∙ (ap (λ (l : List ℕ). l ++ rounds_in more) h.made ∙ (ap (λ (l : List ℕ). rounds_from delay 0 cares ++ l) add.made ∙ sym (rounds_end delay 0 cares care)));
      stands = round_more 0 es more ∙ (ap (λ (k : ℕ). round_from k more) h.stands ∙ (add.stands ∙ sym (reached_end delay 0 cares care)));
    }

-- where none is set there is no Round
never_rounds : (server delay : ℕ) (cares : List Care) (es : List Entry) → delay ≡ 0 → Cared server delay cares es → rounds_in es ≡ []
never_rounds server delay _ _ zero_is none_yet = refl
never_rounds server delay _ _ zero_is (session_made cares es n more c other own) =
    flat_map-append round_made es more ∙ (ap (λ (l : List ℕ). rounds_in es ++ l) (no_rounds more (all_other n more own)) ∙ (append-nil (rounds_in es) ∙ never_rounds server delay cares es zero_is c))
never_rounds server delay _ _ zero_is (asked_one cares es care more c a) =
    flat_map-append round_made es more ∙ (ap (λ (l : List ℕ). rounds_in es ++ l) (none care a) ∙ (append-nil (rounds_in es) ∙ never_rounds server delay cares es zero_is c))
  where
    none : (care : Care) → Answers server delay es care more → rounds_in more ≡ []
    none (Ordered what) (inl a) = ap rounds_in a.1
    none (Ordered what) (inr a) = (obeyed_gate what es more a.1).1
    none (Ticked now) (inl a) = ap rounds_in a.1
    none (Ticked now) (inr a) = absurd (a.0 zero_is)

pub marks_asked : (server delay : ℕ) (cares : List Care) (es : List Entry) → Cared server delay cares es → (gates_in es ≡ gates_asked server cares) × (rounds_in es ≡ rounds_asked delay cares)
marks_asked server delay cares es c = (
  gates_hold server delay cares es c,
  dite (ℕ_discrete delay 0)
      (λ (z : delay ≡ 0). never_rounds server delay cares es z c ∙ sym (ap (λ (b : Bool). if b then [] else rounds_from delay 0 cares) (eq-eqb delay 0 z)))
      (λ pos. (rounds_hold server delay cares es pos c).made ∙ sym (ap (λ (b : Bool). if b then [] else rounds_from delay 0 cares) (ne_eqb delay 0 pos))),
)

-- ---- the drains at the end

one_gate : (server : ℕ) (care : Care) (cares : List Care) → gates_asked server (cares ++ care ∷ []) ≡ gates_asked server cares ++ gate_asked server care
one_gate server care cares = flat_map-append (gate_asked server) cares (care ∷ []) ∙ ap (λ (l : List Bool). gates_asked server cares ++ l) (append-nil (gate_asked server care))

none_below : (server n : ℕ) → n ≤ server → gates_asked server (drains_below n) ≡ []
none_below server zero low = refl
none_below server (suc n) low =
    one_gate server (Ordered (Drain (record { 0 = n }))) (drains_below n)
    ∙ (ap (λ (l : List Bool). l ++ gate_asked server (Ordered (Drain (record { 0 = n })))) (none_below server n (omega (arith, low)))
    ∙ gate_elsewhere server (Drain (record { 0 = n })) (λ e. omega (arith, e, low)))

one_below : (server n : ℕ) → server < n → gates_asked server (drains_below n) ≡ true ∷ []
one_below server zero low = absurd (omega (arith, low))
one_below server (suc n) low =
    one_gate server (Ordered (Drain (record { 0 = n }))) (drains_below n)
    ∙ dite (ℕ_discrete n server)
    (λ (is : n ≡ server).
    ap (λ (l : List Bool). l ++ gate_asked server (Ordered (Drain (record { 0 = n })))) (none_below server n (omega (arith, is)))
    ∙ gate_here server (Drain (record { 0 = n })) is)
    (λ ne.
    ap (λ (l : List Bool). gates_asked server (drains_below n) ++ l) (gate_elsewhere server (Drain (record { 0 = n })) ne)
    ∙ (append-nil (gates_asked server (drains_below n)) ∙ one_below server n (omega (arith, low, ne))))

pub drained_last : (server n : ℕ) (cares : List Care) → server < n → gates_asked server (cares ++ drains_below n) ≡ gates_asked server cares ++ true ∷ []
drained_last server n cares low = flat_map-append (gate_asked server) cares (drains_below n) ∙ ap (λ (l : List Bool). gates_asked server cares ++ l) (one_below server n low)
