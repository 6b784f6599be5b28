-- The calls of the purge task: where a quota stands, what a drain has made, and how many marks a call leaves.
use Rattle.std.proofs.Common.{◌≡◌, ℕ, ◌+◌, ◌-◌, ◌%◌, ◌<◌, ◌≤◌, Bool, true, false, cond, List, [], ◌∷◌, ◌++◌, length, refl, sym, ap, ◌∙◌, subst, arith, Option, Some, None, append_assoc}
use Rattle.std.specs.Prelude.{nat_lt}
use Rattle.std.proofs.lemmas.List.{append_cancel_left, append-nil}
use Rattle.std.proofs.Math.Nat.{mod-eq_of_lt}
use Rattle.hx_base.specs.declared.numbers.ThreadNo.{ThreadNo}
use Rattle.hx_base.specs.declared.numbers.SessionNo.{SessionNo}
use Rattle.hx_base.specs.declared.numbers.PlaceNo.{PlaceNo}
use Rattle.hx_base.specs.declared.numbers.Millis.{Millis}
use Rattle.hx_base.specs.declared.what.What.{What}
use Rattle.hx_base.specs.Shown.{Shown}
use Rattle.hx_pool.specs.declared.budget.Quota.{Quota}
use Rattle.hx_pool.specs.declared.entries.Entry.{Entry}
use Rattle.hx_pool.specs.declared.entries.Entry.TheVariants.{Open, Park, Take, Free, Close, Look, Up, Down, Count, Gate, SetGate, Round}
use Rattle.hx_pool.specs.declared.entries.Note.{Note}
use Rattle.hx_pool.specs.Causes.{AllLooks, place_of}
use Rattle.hx_pool.specs.Drain.{since_after, since_from, since_drain, NoSetGate}
use Rattle.hx_pool.specs.History.{marks_of}
use Rattle.hx_pool.specs.Purge.{StandsAt, GivesQuota, round_raised, round_at, quota_of}
use Rattle.hx_pool.specs.SeatView.{About, History, Makes, Grows, Stores}
use Rattle.hx_pool.specs.Taking.{Takes, taking}
use Rattle.hx_pool.proofs.Calls.{marks_taking}
use Rattle.hx_pool.proofs.Histories.{since_from-append}

-- ---- quotas

-- a quota of which no place was passed names the own row's first place
pub fresh_at : (a : About) (left : ℕ) → a.thread.0 < a.threads → StandsAt a (record { left = left; row = a.thread.0; place = 0; seen = 0 })
fresh_at a left low =
    let none : a.thread.0 + 0 ≡ a.thread.0 = omega arith in
    let row : (a.thread.0 + 0) % a.threads ≡ a.thread.0 = ap (λ (x : ℕ). x % a.threads) none ∙ mod-eq_of_lt low in
    record { inside = omega arith; at = λ h. ap (λ (x : ℕ). place_of x 0) (sym row) }

-- so the quota that due gives is one that purge_next may go on with
pub fresh_stands : (old new : History) (now : Millis) (q : Quota) → GivesQuota old new now q → StandsAt new.about q
fresh_stands old new now q h =
    let m = h.makes.makes in
    let P : About → Type 0 = λ b. let r : Quota = record { left = quota_of h.c (round_at old.about now - h.was); row = b.thread.0; place = 0; seen = 0 } in StandsAt new.about r in
    subst (λ (r : Quota). StandsAt new.about r) (sym h.answer) (subst P m.about (fresh_at new.about (quota_of h.c (round_at old.about now - h.was)) m.one.inside.0))

-- ---- drains

abbrev note : Entry → Option What → Note
note e w = record { entry = e; what = w }

since_step : (e : Entry) (w : Option What) (es : List Note) → NoSetGate (note e w ∷ []) → since_after (Some es) (note e w) ≡ Some (es ++ note e w ∷ [])
since_step (Open t n id) w es h = refl
since_step (Park t n id place uses) w es h = refl
since_step (Take t n first place id uses) w es h = refl
since_step (Free t place) w es h = refl
since_step (Close t n id) w es h = refl
since_step (Look t place found) w es h = refl
since_step (Up t old) w es h = refl
since_step (Down t old) w es h = refl
since_step (Count t c) w es h = refl
since_step (Gate t draining) w es h = refl
since_step (SetGate t draining) w es h = absurd h.0
since_step (Round t k old) w es h = refl

since_all : (es xs : List Note) → NoSetGate xs → since_from (Some es) xs ≡ Some (es ++ xs)
since_all es [] h = ap Some (sym (append-nil es))
since_all es (x ∷ xs) h = ap (λ o. since_from o xs) (since_step x.entry x.what es (h.0, tt)) ∙ (since_all (es ++ x ∷ []) xs h.1 ∙ ap Some (append_assoc es (x ∷ []) xs))

pub no_gate_both : (xs ys : List Note) → NoSetGate xs → NoSetGate ys → NoSetGate (xs ++ ys)
no_gate_both [] ys h k = k
no_gate_both (x ∷ xs) ys h k = (h.0, no_gate_both xs ys h.1 k)

pub no_gate_looks : (t : ThreadNo) (looks : List Note) → AllLooks t looks → NoSetGate looks
no_gate_looks t [] l = tt
no_gate_looks t (x ∷ xs) l = no_gate_both (x ∷ []) xs (subst (λ (y : Note). NoSetGate (y ∷ [])) (sym l.0.2) (tt, tt)) (no_gate_looks t xs l.1)

-- a call that sets no gate adds its entries to those since the drain
pub since_by : (old new : History) (added : List Note) → Makes old new added → NoSetGate added → (es : List Note) → since_drain old.mine ≡ Some es → since_drain new.mine ≡ Some (es ++ added)
since_by old new added m none es e = ap since_drain m.mine ∙ (since_from-append None old.mine added ∙ (ap (λ o. since_from o added) e ∙ since_all es added none))

-- ---- marks and journals

-- a take leaves one mark
pub taking_marks : (old new : History) (n : SessionNo) (first : Bool) (place : PlaceNo) (v : Shown) (t : Takes old new [] n first place v)
    → length (marks_of (t.looks ++ taking old.about.thread n first place v.face t.count)) ≡ 1
taking_marks old new n first place v t = ap length (marks_taking t.looks old.about.thread n first place v.face t.count t.looked)

-- a Round leaves at most one
pub round_marks : (a : About) (now : Millis) (was : ℕ) (more : List Note) → marks_of more ≡ [] → length (marks_of (round_raised a now was ∷ more)) ≤ 1
round_marks a now was more none =
    let e : Entry = Round a.thread (round_at a now) was in
    let go : (b : Bool) → length (cond b (e ∷ []) []) ≤ 1 = λ b. elim b as (λ b. length (cond b (e ∷ []) []) ≤ 1) [
      | true ↦ omega arith
      | false ↦ omega arith
    ] in
    subst (λ m. length (cond (nat_lt was (round_at a now)) (e ∷ m) m) ≤ 1) (sym none) (go (nat_lt was (round_at a now)))

-- the marks that a call tells are those of the entries that it is known to make
pub told_marks : (old new : History) (last : List Entry) (es : List Note) → Makes old new es → Grows old new last → last ≡ marks_of es
told_marks old new last es m g =
    let same : g.added ≡ es = append_cancel_left old.mine g.added es (sym g.makes.mine ∙ m.mine) in
    g.marks ∙ ap marks_of same

-- so a journal stores just these
pub kept_by : (old new : History) (k k' : Option ℕ) (s s' : ℕ) (last : List Entry) (es : List Note) → Makes old new es → Grows old new last → Stores k k' s s' last → Stores k k' s s' (marks_of es)
kept_by old new k k' s s' last es m g stores = subst (Stores k k' s s') (told_marks old new last es m g) stores

-- where there is room for so many marks, and the call makes no more, the journal stays as whole as it was
pub kept_within : (k k' : Option ℕ) (s s' : ℕ) (last : List Entry) (n : ℕ) → Stores k k' s s' last → length last ≤ n → n ≤ s → (k' ≡ k) × (s ≤ s' + n)
kept_within k k' s s' last n stores few room = let f = stores.fits (omega arith) in let more = f.1 in (f.0, omega arith)
