-- The totals of entries that follow each other are the sums of their totals.
use Rattle.std.proofs.Common.{◌≡◌, ◌<◌, ℕ, ◌^◌, List, [], ◌∷◌, ◌++◌, refl, sym, ap, ◌∙◌, arith}
use Rattle.std.specs.Prelude.{cond, ◌==◌, Bool, true, false}
use Rattle.hx_base.specs.declared.totals.Totals.{Totals}
use Rattle.hx_pool.specs.declared.entries.Entry.{Entry}
use Rattle.hx_pool.specs.declared.entries.Entry.TheVariants.{Open, Park, Take, Close, Free, Look, Up, Down, Count, Gate, SetGate, Round}
use Rattle.hx_pool.specs.Totals.{no_totals, one_more, totals_after, totals_from, totals_of}
use Rattle.hx_stats.specs.Sums.{both, sum_of}

both_more : (a b : ℕ) → both a (one_more b) ≡ one_more (both a b)
both_more a b = omega (arith)

-- a take, by who took it and from which row
take_sum : (a b : Totals) (care own : Bool)
    → sum_of a (cond care (record b { care = one_more b.care }) (cond own (record b { taken = one_more b.taken }) (record b { over = one_more b.over })))
    ≡ cond care (record (sum_of a b) { care = one_more (both a.care b.care) })
    (cond own (record (sum_of a b) { taken = one_more (both a.taken b.taken) }) (record (sum_of a b) { over = one_more (both a.over b.over) }))
take_sum a b true own = ap (λ (k : ℕ). record (sum_of a b) { care = k }) (both_more a.care b.care)
take_sum a b false true = ap (λ (k : ℕ). record (sum_of a b) { taken = k }) (both_more a.taken b.taken)
take_sum a b false false = ap (λ (k : ℕ). record (sum_of a b) { over = k }) (both_more a.over b.over)

-- one entry more
sum_after : (a b : Totals) (e : Entry) → sum_of a (totals_after b e) ≡ totals_after (sum_of a b) e
sum_after a b (Open t n id) = ap (λ (k : ℕ). record (sum_of a b) { opened = k }) (both_more a.opened b.opened)
sum_after a b (Park t n id place uses) = ap (λ (k : ℕ). record (sum_of a b) { parked = k }) (both_more a.parked b.parked)
sum_after a b (Take t n first place id uses) = take_sum a b (n.0 == 0) (place.row == t.0)
sum_after a b (Close t n id) = ap (λ (k : ℕ). record (sum_of a b) { closed = k }) (both_more a.closed b.closed)
sum_after a b (Free t place) = refl
sum_after a b (Look t place found) = refl
sum_after a b (Up t old) = refl
sum_after a b (Down t old) = refl
sum_after a b (Count t c) = refl
sum_after a b (Gate t draining) = refl
sum_after a b (SetGate t draining) = refl
sum_after a b (Round t k old) = refl

-- entries more
sum_from : (a b : Totals) (es : List Entry) → sum_of a (totals_from b es) ≡ totals_from (sum_of a b) es
sum_from a b [] = refl
sum_from a b (e ∷ es) = sum_from a (totals_after b e) es ∙ ap (λ (s : Totals). totals_from s es) (sum_after a b e)

from_both : (s : Totals) (es fs : List Entry) → totals_from s (es ++ fs) ≡ totals_from (totals_from s es) fs
from_both s [] fs = refl
from_both s (e ∷ es) fs = from_both (totals_after s e) es fs

-- each number fits u64
record IsBounded (s : Totals) : Type 0 where
  opened : s.opened < 2 ^ 64
  parked : s.parked < 2 ^ 64
  taken : s.taken < 2 ^ 64
  over : s.over < 2 ^ 64
  care : s.care < 2 ^ 64
  closed : s.closed < 2 ^ 64

more_fits : (k : ℕ) → one_more k < 2 ^ 64
more_fits k = omega (arith)

take_fits : (s : Totals) (care own : Bool) → IsBounded s
    → IsBounded (cond care (record s { care = one_more s.care }) (cond own (record s { taken = one_more s.taken }) (record s { over = one_more s.over })))
take_fits s true own f = record {
  opened = f.opened;
  parked = f.parked;
  taken = f.taken;
  over = f.over;
  care = more_fits s.care;
  closed = f.closed;
}
take_fits s false true f = record {
  opened = f.opened;
  parked = f.parked;
  taken = more_fits s.taken;
  over = f.over;
  care = f.care;
  closed = f.closed;
}
take_fits s false false f = record {
  opened = f.opened;
  parked = f.parked;
  taken = f.taken;
  over = more_fits s.over;
  care = f.care;
  closed = f.closed;
}

after_fits : (s : Totals) (e : Entry) → IsBounded s → IsBounded (totals_after s e)
after_fits s (Open t n id) f = record {
  opened = more_fits s.opened;
  parked = f.parked;
  taken = f.taken;
  over = f.over;
  care = f.care;
  closed = f.closed;
}
after_fits s (Park t n id place uses) f = record {
  opened = f.opened;
  parked = more_fits s.parked;
  taken = f.taken;
  over = f.over;
  care = f.care;
  closed = f.closed;
}
after_fits s (Take t n first place id uses) f = take_fits s (n.0 == 0) (place.row == t.0) f
after_fits s (Close t n id) f = record {
  opened = f.opened;
  parked = f.parked;
  taken = f.taken;
  over = f.over;
  care = f.care;
  closed = more_fits s.closed;
}
after_fits s (Free t place) f = f
after_fits s (Look t place found) f = f
after_fits s (Up t old) f = f
after_fits s (Down t old) f = f
after_fits s (Count t c) f = f
after_fits s (Gate t draining) f = f
after_fits s (SetGate t draining) f = f
after_fits s (Round t k old) f = f

from_fits : (s : Totals) (es : List Entry) → IsBounded s → IsBounded (totals_from s es)
from_fits s [] f = f
from_fits s (e ∷ es) f = from_fits (totals_after s e) es (after_fits s e f)

none_fits : IsBounded no_totals
none_fits = record { opened = omega arith; parked = omega arith; taken = omega arith; over = omega arith; care = omega arith; closed = omega arith }

both_none : (k : ℕ) → k < 2 ^ 64 → both k 0 ≡ k
both_none k lt = omega (arith, lt)

sum_none : (s : Totals) → IsBounded s → sum_of s no_totals ≡ s
sum_none s f = rw (both_none s.opened f.opened, both_none s.parked f.parked, both_none s.taken f.taken, both_none s.over f.over, both_none s.care f.care, both_none s.closed f.closed) refl

-- added up, the totals of two lists are those of both
pub sum_of_both : (es fs : List Entry) → totals_of (es ++ fs) ≡ sum_of (totals_of es) (totals_of fs)
sum_of_both es fs =
    let s = totals_of es in
    from_both no_totals es fs
    ∙ sym (sum_from s no_totals fs ∙ ap (λ (x : Totals). totals_from x fs) (sum_none s (from_fits no_totals es none_fits)))
