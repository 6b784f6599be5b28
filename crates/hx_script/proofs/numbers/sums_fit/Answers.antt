use Rattle.std.proofs.Common.{ℕ, List, [], ◌∷◌, All, rules}
use Rattle.std.proofs.lemmas.List.Elements.{All-nil, All-cons}
use Rattle.hx_script.specs.Numbers.{IsNumber}
use Rattle.hx_script.proofs.numbers.sums_fit.Goals as goal

three : (a b c : ℕ) (more : List ℕ) → IsNumber a → IsNumber b → IsNumber c → All IsNumber more → All IsNumber (a ∷ b ∷ c ∷ more)
three a b c more x y z rest = All-cons IsNumber a (b ∷ c ∷ more) x (All-cons IsNumber b (c ∷ more) y (All-cons IsNumber c more z rest))

pub returns : goal.returns
returns c =
    let t = c.args.totals in
    three t.opened t.parked t.taken (t.over ∷ t.care ∷ t.closed ∷ []) (search rules) (search rules) (search rules)
    (three t.over t.care t.closed [] (search rules) (search rules) (search rules) (All-nil IsNumber))
