-- What the marks of a call say of its entries.
use Rattle.std.proofs.Common.{◌≡◌, ℕ, Bool, true, false, cond, List, [], ◌∷◌, ◌++◌, refl, sym, ap, ◌∙◌, Option, None, nat_lt}
use Rattle.std.specs.Prelude.{filter}
use Rattle.hx_base.specs.declared.numbers.ThreadNo.{ThreadNo}
use Rattle.hx_base.specs.declared.totals.Totals.{Totals}
use Rattle.hx_pool.specs.declared.entries.Entry.{Entry}
use Rattle.hx_pool.specs.declared.entries.Entry.TheVariants.{Open, Park, Take, Free, Close, Look, Up, Down, Count, Gate, SetGate, Round}
use Rattle.hx_pool.specs.declared.entries.Note.{Note}
use Rattle.hx_pool.specs.History.{entries_of, is_mark}
use Rattle.hx_pool.specs.SeatView.{Grows}
use Rattle.hx_pool.specs.Totals.{totals_of, totals_after, totals_from}
use Rattle.hx_pool.proofs.Histories.{totals_more}
use Rattle.hx_places.specs.Seats.{PlaceView, history_of}
use Rattle.hx_rows.specs.declared.stays.Stay.{Stay}
use Rattle.hx_rows.specs.Row.{IsRowOf}
use Rattle.hx_rows.specs.Steps.{IsAtRest}
use Rattle.hx_purge.specs.Drains.{Drains}
use Rattle.hx_purge.specs.Slots.{KeepsSlot}
use Rattle.hx_purge.proofs.Draining.{IsNoDrain, NoDrain, drains_more}

-- none of the entries sets a drain
abbrev pub AreQuiet : List Entry → Type 0
AreQuiet [] = Unit {0}
AreQuiet (e ∷ es) = IsNoDrain e × AreQuiet es

-- a Round is a mark or not
round_totals : (z : Totals) (t : ThreadNo) (k old : ℕ) (fs es : List Entry) (b : Bool) → totals_from z fs ≡ totals_from z es → totals_from z (cond b (Round t k old ∷ fs) fs) ≡ totals_from z es
round_totals z t k old fs es true h = h
round_totals z t k old fs es false h = h

round_quiet : (t : ThreadNo) (k old : ℕ) (fs es : List Entry) (b : Bool) → (AreQuiet fs → AreQuiet es) → AreQuiet (cond b (Round t k old ∷ fs) fs) → AreQuiet es
round_quiet t k old fs es true f h = f h.1
round_quiet t k old fs es false f h = f h

-- entries that are no marks count for nothing
totals_marks : (z : Totals) (es : List Entry) → totals_from z (filter is_mark es) ≡ totals_from z es
totals_marks z [] = refl
totals_marks z (Open t n id ∷ es) = totals_marks (totals_after z (Open t n id)) es
totals_marks z (Park t n id place uses ∷ es) = totals_marks (totals_after z (Park t n id place uses)) es
totals_marks z (Take t n first place id uses ∷ es) = totals_marks (totals_after z (Take t n first place id uses)) es
totals_marks z (Free t place ∷ es) = totals_marks z es
totals_marks z (Close t n id ∷ es) = totals_marks (totals_after z (Close t n id)) es
totals_marks z (Look t place found ∷ es) = totals_marks z es
totals_marks z (Up t old ∷ es) = totals_marks z es
totals_marks z (Down t old ∷ es) = totals_marks z es
totals_marks z (Count t c ∷ es) = totals_marks z es
totals_marks z (Gate t draining ∷ es) = totals_marks z es
totals_marks z (SetGate t draining ∷ es) = totals_marks z es
totals_marks z (Round t k old ∷ es) = round_totals z t k old (filter is_mark es) es (is_mark (Round t k old)) (totals_marks z es)

-- entries that are no marks set no drain
quiet_marks : (es : List Entry) → AreQuiet (filter is_mark es) → AreQuiet es
quiet_marks [] q = tt
quiet_marks (Open t n id ∷ es) q = (tt, quiet_marks es q.1)
quiet_marks (Park t n id place uses ∷ es) q = (tt, quiet_marks es q.1)
quiet_marks (Take t n first place id uses ∷ es) q = (tt, quiet_marks es q.1)
quiet_marks (Free t place ∷ es) q = (tt, quiet_marks es q)
quiet_marks (Close t n id ∷ es) q = (tt, quiet_marks es q.1)
quiet_marks (Look t place found ∷ es) q = (tt, quiet_marks es q)
quiet_marks (Up t old ∷ es) q = (tt, quiet_marks es q)
quiet_marks (Down t old ∷ es) q = (tt, quiet_marks es q)
quiet_marks (Count t c ∷ es) q = (tt, quiet_marks es q)
quiet_marks (Gate t draining ∷ es) q = (tt, quiet_marks es q)
quiet_marks (SetGate t draining ∷ es) q = (q.0, quiet_marks es q.1)
quiet_marks (Round t k old ∷ es) q = (tt, round_quiet t k old (filter is_mark es) es (is_mark (Round t k old)) (quiet_marks es) q)

quiet_notes : (xs : List Note) → AreQuiet (entries_of xs) → NoDrain xs
quiet_notes [] q = tt
quiet_notes (x ∷ xs) q = (q.0, quiet_notes xs q.1)

-- a call whose marks are these
module _ (s0 s1 : PlaceView) (stays stays' : List Stay) (p q : Option ℕ) (k k' : Totals) (last : List Entry)
    (s : KeepsSlot s0 stays p k) (g : Grows (history_of s0 p) (history_of s1 q) last) (rest : IsAtRest s1) (row : IsRowOf stays' s1) (counted : k' ≡ totals_from k last) where
  counted_on : k' ≡ totals_of (entries_of s1.view.mine)
  counted_on = counted
      ∙ (ap (λ (l : List Entry). totals_from k l) g.marks
      ∙ (totals_marks k (entries_of g.added)
      ∙ (ap (λ (z : Totals). totals_from z (entries_of g.added)) s.counted
      ∙ (sym (totals_more s0.view.mine g.added)
      ∙ ap (λ (l : List Note). totals_of (entries_of l)) (sym g.makes.mine)))))

  pub keeps_with : Drains s1 q → KeepsSlot s1 stays' q k'
  keeps_with d = record {
    one = g.makes.one;
    rest = rest;
    row = row;
    drains = d;
    counted = counted_on;
  }

  pub quiet_drains : AreQuiet last → Drains s1 p
  quiet_drains h = drains_more s0 s1 g.added p g.makes.about g.makes.mine
      (quiet_notes g.added (quiet_marks (entries_of g.added) (Rattle.std.proofs.Common.subst AreQuiet g.marks h))) s.drains

-- the same, where the marks set no drain
pub keeps_on : (s0 s1 : PlaceView) (stays stays' : List Stay) (p : Option ℕ) (k k' : Totals) (last : List Entry) → KeepsSlot s0 stays p k → Grows (history_of s0 p) (history_of s1 p) last
    → IsAtRest s1 → IsRowOf stays' s1 → k' ≡ totals_from k last → AreQuiet last → KeepsSlot s1 stays' p k'
keeps_on s0 s1 stays stays' p k k' last s g rest row counted quiet =
    keeps_with s0 s1 stays stays' p p k k' last s g rest row counted (quiet_drains s0 s1 stays stays' p p k k' last s g rest row counted quiet)
