-- Counts over several calls.
use Rattle.std.proofs.Common.{ℕ, ◌+◌, List, [], ◌∷◌, ◌++◌, refl, sym, subst, Option}
use Rattle.hx_base.specs.declared.what.What.{What}
use Rattle.hx_base.specs.declared.numbers.ThreadNo.{ThreadNo}
use Rattle.hx_pool.specs.declared.entries.Entry.{Entry}
use Rattle.hx_pool.specs.declared.entries.Entry.TheVariants.{Open, Park, Take, Free, Close, Look, Up, Down, Count, Gate, SetGate, Round}
use Rattle.hx_pool.specs.declared.entries.Note.{Note}
use Rattle.hx_pool.specs.Causes.{AllLooks}
use Rattle.hx_connecting.specs.Touches.{Balances}

abbrev note : Entry → Option What → Note
note e w = record { entry = e; what = w }

balances_more : (a b : ℕ) (e : Entry) (w : Option What) (xs ys : List Note) → ((c d : ℕ) → Balances c d xs → Balances c d (xs ++ ys))
    → Balances a b (note e w ∷ xs) → Balances a b (note e w ∷ (xs ++ ys))
balances_more a b (Open t n id) w xs ys k h = k a b h
balances_more a b (Park t n id place uses) w xs ys k h = k a (b + 1) h
balances_more a b (Take t n first place id uses) w xs ys k h = k (a + 1) b h
balances_more a b (Free t place) w xs ys k h = k a b h
balances_more a b (Close t n id) w xs ys k h = k a b h
balances_more a b (Look t place found) w xs ys k h = k a b h
balances_more a b (Up t old) w xs ys k h = k (a + 1) b h
balances_more a b (Down t old) w xs ys k h = k a (b + 1) h
balances_more a b (Count t c) w xs ys k h = (h.0, k a b h.1)
balances_more a b (Gate t draining) w xs ys k h = k a b h
balances_more a b (SetGate t draining) w xs ys k h = k a b h
balances_more a b (Round t r old) w xs ys k h = k a b h

-- what goes on in balance stays in balance
pub balances_both : (a b : ℕ) (xs ys : List Note) → Balances a b xs → ((c : ℕ) → Balances c c ys) → Balances a b (xs ++ ys)
balances_both a b [] ys h k = subst (λ n. Balances a n ys) h (k a)
balances_both a b (x ∷ xs) ys h k = balances_more a b x.entry x.what xs ys (λ c d p. balances_both c d xs ys p k) h

-- looks count nothing
pub balances_looks : (t : ThreadNo) (looks : List Note) → AllLooks t looks → (c : ℕ) → Balances c c looks
balances_looks t [] l c = refl
balances_looks t (x ∷ xs) l c = subst (λ (y : Note). Balances c c (y ∷ xs)) (sym l.0.2) (balances_looks t xs l.1 c)
