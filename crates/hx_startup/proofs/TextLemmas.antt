-- The line of a line that was passed over.
use Rattle.std.proofs.Common.{◌≡◌, ℕ, List, ◌++◌, ◌∙◌, refl, sym, ap}
use Rattle.std.specs.Prelude.{codes, decimal}
use Rattle.std.proofs.lemmas.List.{append_assoc}
use Rattle.hx_startup.specs.Starts.{passed_line}

passed_is : (n : ℕ) → passed_line n ≡ codes "passed over " ++ decimal n ++ codes "\n"
unfolding passed_line
passed_is n = refl

pub passed_joined : (a b c d : List ℕ) (n : ℕ) → b ≡ a ++ codes "passed over " → c ≡ b ++ decimal n → d ≡ c ++ codes "\n" → d ≡ a ++ passed_line n
passed_joined a b c d n e f g =
    let w = codes "passed over " in let m = decimal n in let x = codes "\n" in
    g ∙ ap (λ (l : List ℕ). l ++ x) (f ∙ ap (λ (l : List ℕ). l ++ m) e) ∙ append_assoc (a ++ w) m x ∙ append_assoc a w (m ++ x)
    ∙ ap (λ (l : List ℕ). a ++ l) (sym (passed_is n))
