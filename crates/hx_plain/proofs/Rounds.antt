-- Purge intervals: a new one gives a quota, an old one none.
use Rattle.std.proofs.Common.{◌≡◌, ◌≢◌, ℕ, ◌-◌, ◌<◌, ◌≤◌, cond, Bool, List, [], ◌∷◌, ◌++◌, length, refl, sym, ap, subst, arith, Option, inr, append_assoc}
use Rattle.std.proofs.lemmas.Bool.{le-ltb, lt-ltb}
use Rattle.std.specs.Prelude.{max}
use Rattle.hx_base.specs.declared.numbers.Millis.{Millis}
use Rattle.hx_base.specs.declared.totals.Totals.{Totals}
use Rattle.hx_pool.specs.declared.entries.Entry.TheVariants.{Round, Count}
use Rattle.hx_pool.specs.declared.entries.Note.{Note}
use Rattle.hx_pool.specs.History.{plain}
use Rattle.hx_pool.specs.SeatView.{About, Grows}
use Rattle.hx_pool.specs.Purge.{round_at, quota_of, GivesQuota, GivesNoQuota}
use Rattle.hx_plain.specs.Row.{Rested}
use Rattle.hx_plain.specs.Plain.{alone, known, Stands, KeepsAll}
use Rattle.hx_plain.proofs.Steps.{round_stands, count_at}
use Rattle.hx_plain.proofs.Keeping.{keeps_on, calls_by, grows_by}

module _ (a : About) (p : Option ℕ) (notes : List Note) (n : ℕ) (d : Bool) (o : ℕ) (rests : List Rested) (t : Totals) (room : ℕ) (s : KeepsAll a notes (known n d o rests) rests p t room) (now : Millis) (k : ℕ) (is : k ≡ round_at a now) (some : a.rules.delay.0 ≢ 0) where
  raised : (r : ℕ) → max k o ≡ r → Stands a (notes ++ plain (Round a.thread k o) ∷ []) (known n d r rests) rests
  raised r e = subst (λ (j : ℕ). Stands a (notes ++ plain (Round a.thread k o) ∷ []) (known n d j rests) rests) e (round_stands a notes (known n d o rests) rests s.stands k)

  pub not_due : k ≤ o → KeepsAll a (notes ++ plain (Round a.thread k o) ∷ []) (known n d o rests) rests p t room × GivesNoQuota (alone a p notes) (alone a p (notes ++ plain (Round a.thread k o) ∷ [])) now × Grows (alone a p notes) (alone a p (notes ++ plain (Round a.thread k o) ∷ [])) []
  not_due early =
      let st = raised o (omega arith) in
      let ys : List Note = plain (Round a.thread k o) ∷ [] in (
        keeps_on a notes (known n d o rests) rests p t room s ys (known n d o rests) rests t room st (tt, tt) refl s.roomy,
        inr (some, record { was = o; early = subst (λ (j : ℕ). j ≤ o) is early; makes = subst (λ (j : ℕ). Rattle.hx_pool.specs.SeatView.Calls (alone a p notes) (alone a p (notes ++ ys)) (plain (Round a.thread j o) ∷ [])) is (calls_by a p notes ys s.stands.one st.one refl) }),
        grows_by a p p notes ys [] s.stands.one st.one refl (sym (ap (λ (b : Bool). cond b (Round a.thread k o ∷ []) []) (le-ltb o k early))) (omega arith),
      )

  pub is_due : o < k → (c : ℕ) → c ≡ length rests → let hs : List Note = notes ++ plain (Round a.thread k o) ∷ plain (Count a.thread c) ∷ [] in
      KeepsAll a hs (known n d k rests) rests p t room × GivesQuota (alone a p notes) (alone a p hs) now (record { left = quota_of c (k - o); row = a.thread.0; place = 0; seen = 0 }) × Grows (alone a p notes) (alone a p hs) (Round a.thread k o ∷ [])
  is_due late c counted =
      let x : Note = plain (Round a.thread k o) in
      let y : Note = plain (Count a.thread c) in
      let st = raised k (omega arith) in
      let st' = count_at a (notes ++ x ∷ []) (known n d k rests) rests st c counted in
      let two : Stands a (notes ++ x ∷ y ∷ []) (known n d k rests) rests = subst (λ (hs : List Note). Stands a hs (known n d k rests) rests) (append_assoc notes (x ∷ []) (y ∷ [])) st' in (
        keeps_on a notes (known n d o rests) rests p t room s (x ∷ y ∷ []) (known n d k rests) rests t room two (tt, (tt, tt)) refl s.roomy,
        record {
          while_ = some;
          was = o;
          late = subst (λ (j : ℕ). o < j) is late;
          c = c;
          makes = subst (λ (j : ℕ). Rattle.hx_pool.specs.SeatView.Calls (alone a p notes) (alone a p (notes ++ x ∷ y ∷ [])) (plain (Round a.thread j o) ∷ y ∷ [])) is (calls_by a p notes (x ∷ y ∷ []) s.stands.one two.one refl);
          answer = ap (λ (j : ℕ). let q : Rattle.hx_pool.specs.declared.budget.Quota.Quota = record { left = quota_of c (j - o); row = a.thread.0; place = 0; seen = 0 } in q) is;
        },
        grows_by a p p notes (x ∷ y ∷ []) _ s.stands.one two.one refl (sym (ap (λ (b : Bool). cond b (Round a.thread k o ∷ []) []) (lt-ltb o k late))) (omega arith),
      )
