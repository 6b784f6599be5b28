-- Private: what a look at one place of a list shows of its order.
use Rattle.std.specs.Prelude.{List, [], ◌∷◌, ⊤}

-- it stands before the first of the others
abbrev pub Leads : {A : Type 0} → (A → A → Type 0) → A → List A → Type 0
Leads Before a [] = ⊤
Leads Before a (b ∷ others) = Before a b
