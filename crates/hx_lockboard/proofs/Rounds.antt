-- Purge intervals: a new one gives a quota, an old one none.
use Rattle.std.proofs.Common.{◌≡◌, ◌≢◌, ℕ, ◌-◌, ◌<◌, ◌≤◌, cond, Bool, List, [], ◌∷◌, ◌++◌, length, refl, sym, ap, subst, arith, inr, append_assoc}
use Rattle.std.proofs.lemmas.Bool.{le-ltb, lt-ltb}
use Rattle.std.specs.Prelude.{max}
use Rattle.hx_base.specs.declared.numbers.Millis.{Millis}
use Rattle.hx_base.specs.Shown.{Shown}
use Rattle.hx_pool.specs.declared.budget.Quota.{Quota}
use Rattle.hx_pool.specs.declared.entries.Entry.TheVariants.{Round, Count}
use Rattle.hx_pool.specs.declared.entries.Note.{Note}
use Rattle.hx_pool.specs.History.{plain}
use Rattle.hx_pool.specs.SeatView.{Grows, Calls}
use Rattle.hx_pool.specs.Purge.{round_at, quota_of, GivesQuota, GivesNoQuota}
use Rattle.hx_resting.specs.declared.values.Rows.{Rows}
use Rattle.hx_resting.specs.Rows.{Rested, rests_of, Known, Stands, IsAfter}
use Rattle.hx_resting.specs.Desks.{DeskView, adds_notes}
use Rattle.hx_lockboard.specs.LockDesks.{given_back}
use Rattle.hx_lockboard.specs.Seats.{about, history, KeepsAll}
use Rattle.hx_resting.proofs.Steps.{round_stands, count_stands}
use Rattle.hx_lockboard.proofs.Calls.{Start, whole, after_of, low_of, keeps_on, calls_of, grows_of}

module _ {V : Type 0} (shows : V → Shown) (k : Start shows) (now : Millis) (r : ℕ) (is : r ≡ round_at (about k.b k.t k.d0) now) (some : k.b.rules.delay.0 ≢ 0) where
  abbrev rests : List Rested
  rests = rests_of shows k.rows.resting.items

  abbrev o : ℕ
  o = k.rows.round

  abbrev known_at : ℕ → Known
  known_at j = record { next = k.rows.next; draining = k.rows.draining; count = length rests; round = j }

  raised : (j : ℕ) → max r o ≡ j → Stands k.b (whole shows k ++ plain (Round k.t r o) ∷ []) (known_at j) rests
  raised j e = subst (λ (i : ℕ). Stands k.b (whole shows k ++ plain (Round k.t r o) ∷ []) (known_at i) rests) e (round_stands k.b k.t (low_of shows k) (whole shows k) (known_at o) rests (after_of shows k).stands r)

  abbrev one : List Note
  one = plain (Round k.t r o) ∷ []

  pub late_after : r ≤ o → IsAfter shows k.b (whole shows k ++ one) k.rows
  late_after late = record { stands = raised o (omega arith); roomy = (after_of shows k).roomy }

  pub not_due : (late : r ≤ o) (d2 d3 : DeskView) (wrote : d2 ≡ adds_notes k.d1 one) → d3 ≡ given_back d2
      → KeepsAll k.b k.t d3 k.p k.totals k.opened × GivesNoQuota (history k.b k.t k.p k.d0) (history k.b k.t k.p d3) now × Grows (history k.b k.t k.p k.d0) (history k.b k.t k.p d3) []
  not_due late d2 d3 wrote back = (
    keeps_on shows k d2 one wrote d3 back (refl, tt) k.rows (late_after late) k.totals (tt, tt) refl refl,
    inr (some, record { was = o; early = subst (λ (j : ℕ). j ≤ o) is late; makes = subst (λ (j : ℕ). Calls (history k.b k.t k.p k.d0) (history k.b k.t k.p d3) (plain (Round k.t j o) ∷ [])) is (calls_of shows k d2 one wrote d3 back (refl, tt) k.rows (late_after late) refl) }),
    grows_of shows k d2 one wrote d3 back (refl, tt) k.rows (late_after late) refl k.p [] (sym (ap (λ (z : Bool). cond z (Round k.t r o ∷ []) []) (le-ltb o r late))) (omega arith),
  )

  module _ (early : o < r) (c : ℕ) (counted : c ≡ length rests) (rows' : Rows V) (same : rows' ≡ record k.rows { round = r }) where
    abbrev pub two : List Note
    two = plain (Round k.t r o) ∷ plain (Count k.t c) ∷ []

    pub early_after : IsAfter shows k.b (whole shows k ++ two) rows'
    early_after =
        let st = count_stands k.b k.t (low_of shows k) (whole shows k ++ one) (known_at r) rests (raised r (omega arith)) in
        let st' : Stands k.b (whole shows k ++ two) (known_at r) rests = subst (λ hs. Stands k.b hs (known_at r) rests) (append_assoc (whole shows k) one (plain (Count k.t c) ∷ [])) (subst (λ (j : ℕ). Stands k.b ((whole shows k ++ one) ++ plain (Count k.t j) ∷ []) (known_at r) rests) (sym counted) st) in
        let base : IsAfter shows k.b (whole shows k ++ two) (record k.rows { round = r }) = record { stands = st'; roomy = (after_of shows k).roomy } in
        subst (IsAfter shows k.b (whole shows k ++ two)) (sym same) base

    pub is_due : (d2 d3 : DeskView) → d2 ≡ adds_notes k.d1 two → d3 ≡ given_back d2
        → KeepsAll k.b k.t d3 k.p k.totals k.opened × GivesQuota (history k.b k.t k.p k.d0) (history k.b k.t k.p d3) now (record { left = quota_of c (r - o); row = k.t.0; place = 0; seen = 0 }) × Grows (history k.b k.t k.p k.d0) (history k.b k.t k.p d3) (Round k.t r o ∷ [])
    is_due d2 d3 wrote back = (
      keeps_on shows k d2 two wrote d3 back (refl, (refl, tt)) rows' early_after k.totals (tt, (tt, tt)) refl refl,
      record {
        while_ = some;
        was = o;
        late = subst (λ (j : ℕ). o < j) is early;
        c = c;
        makes = subst (λ (j : ℕ). Calls (history k.b k.t k.p k.d0) (history k.b k.t k.p d3) (plain (Round k.t j o) ∷ plain (Count k.t c) ∷ [])) is (calls_of shows k d2 two wrote d3 back (refl, (refl, tt)) rows' early_after refl);
        answer = ap (λ (j : ℕ). let q : Quota = record { left = quota_of c (j - o); row = k.t.0; place = 0; seen = 0 } in q) is;
      },
      grows_of shows k d2 two wrote d3 back (refl, (refl, tt)) rows' early_after refl k.p _ (sym (ap (λ (z : Bool). cond z (Round k.t r o ∷ []) []) (lt-ltb o r early))) (omega arith),
    )
