-- What an operator orders of a server: that it drains, or that it takes requests again.
use Rattle.std.specs.Prelude.{◌≡◌, ◌≢◌, ◌⊎◌, ℕ, true, false, List, [], ◌∷◌}
use Rattle.hx_base.specs.declared.numbers.ServerNo.{ServerNo}
use Rattle.hx_base.specs.declared.order.Order.{Order}
use Rattle.hx_base.specs.declared.order.Order.TheVariants.{Drain, Ready}
use Rattle.hx_pool.specs.declared.entries.Entry.TheVariants.{SetGate}
use Rattle.hx_pool.specs.declared.entries.Note.{Note}
use Rattle.hx_pool.specs.Causes.{AllCovered}
use Rattle.hx_pool.specs.History.{plain}
use Rattle.hx_pool.specs.SeatView.{History}
use Rattle.hx_caretaker.specs.Sweeps.{Swept, Sweep, ClosesThem, Sweeps, no_sweep}

-- behind the SetGate that drains, each place is taken from or has nothing to take
pub record Drains (h : History) (es : List Note) (swept : List Swept) : Type 0 where
  pub more : List Note
  pub sets : es ≡ plain (SetGate h.about.thread true) ∷ more
  pub closes : ClosesThem h more swept
  pub all : AllCovered h.about more

-- an order, on its server: Ready makes one SetGate that doesn't drain
abbrev pub Obeys : Order → History → List Note → List Swept → Type 0
Obeys (Drain server) h es swept = Drains h es swept
Obeys (Ready server) h es swept = (es ≡ plain (SetGate h.about.thread false) ∷ []) × (swept ≡ [])

-- the server of an order
abbrev pub ordered_server : Order → ServerNo
ordered_server (Drain server) = server
ordered_server (Ready server) = server

-- the order is carried out at its server's seat, and at another nothing is done
abbrev pub OrdersAt : Order → ℕ → History → History → Sweep → Type 0
OrdersAt what i old new x =
    ((i ≡ (ordered_server what).0) × Sweeps (Obeys what) old new x)
    ⊎ ((i ≢ (ordered_server what).0) × (new ≡ old) × (x ≡ no_sweep))
