-- What the pool rules ask of a history (HAProxy 2.4 Configuration Manual, section 4.2: http-reuse; 5.2: pool-max-conn).
use Rattle.std.specs.Prelude.{◌≡◌, ◌≢◌, ℕ, ◌≤◌, ◌||◌, nat_le, not, Bool, true, false, List, IfSome}
use Rattle.hx_base.specs.declared.rules.Mode.{Mode}
use Rattle.hx_base.specs.declared.rules.Mode.TheVariants.{Never, Safe, Aggressive, Always}
use Rattle.hx_base.specs.declared.rules.PoolRules.{PoolRules}
use Rattle.hx_pool.specs.declared.entries.Entry.{Entry}
use Rattle.hx_pool.specs.declared.entries.Entry.TheVariants.{Park, Take}
use Rattle.hx_pool.specs.declared.entries.Note.{Note}
use Rattle.hx_pool.specs.Table.{Table, empty_table, after}
use Rattle.hx_pool.specs.History.{EachStep}

-- whether a request may go over a connection with so many uses
abbrev pub allows : Mode → Bool → ℕ → Bool
allows Never first uses = false
allows Safe first uses = not first
allows Aggressive first uses = not first || nat_le 2 uses
allows Always first uses = true

-- the mode lets the entry follow a history with this table
abbrev pub MayFollow : Mode → Table → Entry → Type 0
MayFollow m T (Park t n id place uses) = m ≢ Never
MayFollow m T (Take t n first place id uses) = n.0 ≢ 0 → allows m first uses ≡ true
MayFollow m T _ = Unit {0}

-- nothing is parked where connections are never shared, and each session takes what it may
abbrev pub KeepsMode : PoolRules → List Note → Type 0
KeepsMode rules H = EachStep (λ T x. MayFollow rules.mode T x.entry) empty_table H

-- no more rest than the limit lets
abbrev pub IsBelowMax : PoolRules → Table → Type 0
IsBelowMax rules T = IfSome rules.max (λ m. T.resting ≤ m)

-- after every prefix at most max places hold a connection
abbrev pub KeepsLimit : PoolRules → List Note → Type 0
KeepsLimit rules H = EachStep (λ T x. IsBelowMax rules (after T x)) empty_table H
