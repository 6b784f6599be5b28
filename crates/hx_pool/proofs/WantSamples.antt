-- What sessions hold, take, open and close, tried on small histories.
use Rattle.std.proofs.Common.{◌≡◌, ◌≢◌, ◌⊎◌, ℕ, ◌≤◌, true, false, List, [], ◌∷◌, ◌++◌, length, refl, sym, ap, ◌∙◌, subst, ⊎_elim, arith, lit≤, lit<, inl, inr, Some, None, length-append}
use mathlib.Core.Logic.{dite}
use native.Mathlib.Decide.{ℕ_discrete}
use Rattle.hx_base.specs.declared.numbers.ThreadNo.{ThreadNo}
use Rattle.hx_base.specs.declared.numbers.SessionNo.{SessionNo}
use Rattle.hx_base.specs.declared.numbers.ConnId.{ConnId}
use Rattle.hx_base.specs.declared.numbers.PlaceNo.{PlaceNo}
use Rattle.hx_base.specs.declared.numbers.Face.{Face}
use Rattle.hx_base.specs.declared.rules.Mode.{Mode}
use Rattle.hx_base.specs.declared.rules.Mode.TheVariants.{Never, Aggressive, Always}
use Rattle.atomic_table.specs.Seated.{TableId}
use Rattle.hx_pool.specs.declared.entries.Entry.TheVariants.{Open, Park, Take, Close, Count, Gate, SetGate}
use Rattle.hx_pool.specs.declared.entries.Note.{Note}
use Rattle.hx_pool.specs.Table.{Table, Spot, Vacant, Holds, put, face_of, spot_no, spot_at}
use Rattle.hx_pool.specs.History.{plain, entries_of, table_after}
use Rattle.hx_pool.specs.Held.{held_by, HasJust}
use Rattle.hx_pool.specs.Drain.{since_drain}
use Rattle.hx_pool.specs.Causes.{Among, place_of}
use Rattle.hx_pool.specs.Taking.{NoneRestsIn, is_safe, is_preferred, last_park, IsBest}
use Rattle.hx_pool.specs.Totals.{totals_of}
use Rattle.hx_pool.specs.SeatView.{About, History}
use Rattle.hx_pool.specs.Wants.{OpensForWant, ClosesForCause}
use Rattle.hx_pool.proofs.Tables.{put_same, put_other}

abbrev by : ℕ → ThreadNo
by t = record { 0 = t }

abbrev session : ℕ → SessionNo
session n = record { 0 = n }

abbrev id : ℕ → ConnId
id i = record { 0 = i }

abbrev place : ℕ → PlaceNo
place k = record { row = 0; place = k }

abbrev opens : ℕ → ℕ → Note
opens n i = plain (Open (by 0) (session n) (id i))

abbrev parks : ℕ → ℕ → ℕ → ℕ → Note
parks n i k uses = plain (Park (by 0) (session n) (id i) (place k) uses)

abbrev takes : ℕ → ℕ → ℕ → ℕ → Note
takes n i k uses = plain (Take (by 0) (session n) false (place k) (id i) uses)

-- what session 1 holds: what it opened; nothing once parked; the use that it took
held_samples : (held_by (opens 1 1 ∷ []) (session 1) ≡ face_of (id 1) 0 ∷ [])
    × (held_by (opens 1 1 ∷ parks 1 1 0 1 ∷ []) (session 1) ≡ [])
    × (held_by (opens 1 1 ∷ parks 1 1 0 1 ∷ takes 1 1 0 1 ∷ []) (session 1) ≡ face_of (id 1) 1 ∷ [])
    × (held_by (opens 1 1 ∷ opens 2 2 ∷ parks 1 1 0 1 ∷ takes 2 1 0 1 ∷ []) (session 2) ≡ face_of (id 2) 0 ∷ face_of (id 1) 1 ∷ [])
    × (held_by (opens 1 1 ∷ plain (Close (by 0) (session 1) (id 1)) ∷ []) (session 1) ≡ [])
held_samples = (refl, refl, refl, refl, refl)

-- the last Park of a connection, counted from 1
park_samples : (last_park (opens 1 1 ∷ parks 1 1 0 1 ∷ takes 1 1 0 1 ∷ parks 1 1 0 2 ∷ []) 1 ≡ 4) × (last_park (opens 1 1 ∷ []) 1 ≡ 0)
park_samples = (refl, refl)

abbrev drains : Note
drains = plain (SetGate (by 0) true)

abbrev readies : Note
readies = plain (SetGate (by 0) false)

-- entries since the last draining one
drain_samples : (since_drain (opens 1 1 ∷ []) ≡ None) × (since_drain (opens 1 1 ∷ readies ∷ []) ≡ None) × (since_drain (drains ∷ opens 1 1 ∷ drains ∷ readies ∷ opens 1 2 ∷ []) ≡ Some (readies ∷ opens 1 2 ∷ []))
drain_samples = (refl, refl, refl)

abbrev about : Mode → ℕ → TableId → About
about m low b = record { thread = by 0; rules = record { mode = m; max = None; low = low; delay = record { 0 = 1 } }; board = b; threads = 1; start = record { 0 = 0 }; server = record { 0 = 0 } }

abbrev history : Mode → ℕ → TableId → List Note → History
history m low b seen = record { about = about m low b; seen = seen; mine = seen; passed = None }

abbrev one_rests : List Note
one_rests = opens 1 1 ∷ parks 1 1 0 1 ∷ []

-- the number that was opened
abbrev opened_in : Note → ℕ
opened_in x = elim x.entry [ Open t n id ↦ id.0 | _ ↦ 0 ]

-- the only place of an entry behind these two
behind_two : (H later : List Note) (a b x : Note) → a ≢ x → b ≢ x → a ∷ b ∷ x ∷ [] ≡ H ++ x ∷ later → H ≡ a ∷ b ∷ []
behind_two [] later a b x na nb e = absurd (na (cc))
behind_two (p ∷ []) later a b x na nb e = absurd (nb (cc))
behind_two (p ∷ q ∷ []) later a b x na nb e = cc
behind_two (p ∷ q ∷ r ∷ H) later a b x na nb e = absurd (omega (arith, ap length e, length-append H (x ∷ later)))

-- a session that opens while one rests that it may take did not want it
opens_beside : (b : TableId) → ¬ OpensForWant (history Always 0 b (one_rests ++ opens 2 2 ∷ [])) true (opens 2 2 ∷ [])
opens_beside b w =
    let wanted = (w (0, refl)).0 in
    let upto = behind_two wanted.0 wanted.1 (opens 1 1) (parks 1 1 0 1) (opens 2 2) (λ e. omega (arith, ap opened_in e)) (λ e. omega (arith, ap opened_in e)) wanted.2 in
    let none = subst (λ H. NoneRestsIn (history Always 0 b (one_rests ++ opens 2 2 ∷ [])) H 0 true) upto wanted.3.own_row in
    let no = none 0 (face_of (id 1) 1) (omega arith) refl in cc

-- under aggressive a first request may not take it, but it has to look for others, and count
opens_uncounted : (b : TableId) → ¬ OpensForWant (history Aggressive 0 b (one_rests ++ opens 2 2 ∷ [])) true (opens 2 2 ∷ [])
opens_uncounted b w =
    let wants = (w (2, refl)).0.3 in
    elim wants.others [ inl few ↦ few.2 | inr more ↦ more.0.2 ]

abbrev counts : ℕ → Note
counts c = plain (Count (by 0) c)

-- below the least number a session opens where nothing rests in its own row
opens_few : (b : TableId) → OpensForWant (history Always 1 b (counts 0 ∷ opens 1 1 ∷ [])) true (counts 0 ∷ opens 1 1 ∷ [])
opens_few b some = (tt, ((counts 0 ∷ [], [], refl, record { own_row = λ p f low rests. cc; others = inl (0, lit< tt, inl refl) }), tt))

-- what closings of session 1 are for: here, that a Gate was read before
abbrev after_gate : SessionNo → ConnId → List Note → Type 0
after_gate n id before = Among (λ e. e ≡ Gate (by 0) true) before

abbrev closes : ℕ → ℕ → Note
closes n i = plain (Close (by 0) (session n) (id i))

abbrev gate : Note
gate = plain (Gate (by 0) true)

-- each Close of a session has its cause behind it, one of the caretaker needs none, and one that comes too early has none
closed_for_cause : ClosesForCause after_gate [] (closes 0 2 ∷ gate ∷ closes 1 1 ∷ [])
closed_for_cause = (λ some. absurd (some refl), (tt, (λ some. inr (inl refl), tt)))

closed_too_early : ¬ ClosesForCause after_gate [] (closes 1 1 ∷ gate ∷ [])
closed_too_early c = c.0 (λ e. cc)

-- how often each was done
totals_sample : totals_of (entries_of (opens 1 1 ∷ parks 1 1 0 1 ∷ takes 2 1 0 1 ∷ closes 2 1 ∷ opens 1 2 ∷ parks 1 2 1 1 ∷ takes 0 2 1 1 ∷ plain (Take (by 0) (session 1) false (record { row = 1; place = 0 }) (id 7) 1) ∷ []))
    ≡ record { opened = 2; parked = 2; taken = 1; over = 1; care = 1; closed = 1 }
totals_sample = refl

-- of two that rest in a row, the one that was parked later is the best, and the other isn't
abbrev two_rest : List Note
two_rest = opens 1 1 ∷ opens 2 2 ∷ parks 1 1 0 1 ∷ parks 2 2 1 1 ∷ []

earlier_not_best : (b : TableId) → ¬ IsBest (history Always 0 b two_rest) two_rest false (face_of (id 1) 1)
earlier_not_best b best =
    let later = (best 1 (face_of (id 2) 1) (lit< tt) refl refl).1 refl in omega (arith, later)

-- nor is one of the safe list for a later request, where one of the idle list rests
abbrev safe_rests : List Note
safe_rests = opens 1 1 ∷ opens 2 2 ∷ parks 1 1 0 2 ∷ parks 2 2 1 1 ∷ []

safe_not_best : (b : TableId) → ¬ IsBest (history Always 0 b safe_rests) safe_rests false (face_of (id 1) 2)
safe_not_best b best =
    let no = (best 1 (face_of (id 2) 1) (lit< tt) refl refl).0 in cc

-- what rests in the row of two_rest
rest_there : (p : ℕ) (f : Face) → spot_at (table_after two_rest) (place_of 0 p) ≡ Holds f → (f ≡ face_of (id 1) 1) ⊎ (f ≡ face_of (id 2) 1)
rest_there p f rests =
    let before : Table = table_after (opens 1 1 ∷ opens 2 2 ∷ parks 1 1 0 1 ∷ []) in
    let none : ℕ → Spot = λ j. Vacant in
    let q = spot_no (place_of 0 p) in
    dite (ℕ_discrete q 1)
    (λ e. let is : Holds (face_of (id 2) 1) ≡ Holds f = sym (put_same before.spots 1 (Holds (face_of (id 2) 1)) q e) ∙ rests in inr (cc))
    (λ ne. let was : put none 0 (Holds (face_of (id 1) 1)) q ≡ Holds f = sym (put_other before.spots 1 (Holds (face_of (id 2) 1)) q ne) ∙ rests in
    dite (ℕ_discrete q 0)
    (λ e. let is : Holds (face_of (id 1) 1) ≡ Holds f = sym (put_same none 0 (Holds (face_of (id 1) 1)) q e) ∙ was in inl (cc))
    (λ other. let is : Vacant ≡ Holds f = sym (put_other none 0 (Holds (face_of (id 1) 1)) q other) ∙ was in absurd (cc)))

later_is_best : (b : TableId) → IsBest (history Always 0 b two_rest) two_rest false (face_of (id 2) 1)
later_is_best b p f low rests may = ⊎_elim
    (λ (e : f ≡ face_of (id 1) 1). subst (λ (g : Face). (is_preferred false g.uses 1 ≡ false) × (is_safe g.uses ≡ is_safe 1 → last_park two_rest g.id.0 ≤ 4)) (sym e) (refl, λ same. lit≤ tt))
    (λ (e : f ≡ face_of (id 2) 1). subst (λ (g : Face). (is_preferred false g.uses 1 ≡ false) × (is_safe g.uses ≡ is_safe 1 → last_park two_rest g.id.0 ≤ 4)) (sym e) (refl, λ same. lit≤ tt))
    (rest_there p f rests)

-- under never a session holds its connection however often it was used; where connections are shared, as often as it says
just_unshared : (b : TableId) → HasJust (history Never 0 b (opens 1 1 ∷ [])) (session 1) (Some (face_of (id 1) 7))
just_unshared b = (0, refl, λ shared. absurd (shared refl))

just_shared : (b : TableId) → ¬ HasJust (history Always 0 b (opens 1 1 ∷ [])) (session 1) (Some (face_of (id 1) 7))
just_shared b j =
    let is = j.1 in
    let same : face_of (id 1) 0 ≡ face_of (id 1) j.0 = cc in
    let none : 0 ≡ j.0 = ap (λ (f : Face). f.uses) same in
    let used : j.0 ≡ 7 = j.2 (λ e. cc) in omega arith
