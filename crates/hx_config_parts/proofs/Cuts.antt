-- Cutting a word at a byte, one byte after the other.
use Rattle.std.proofs.Common.{◌≡◌, ℕ, ◌+◌, ◌<◌, ◌≤◌, ◌≢◌, true, false, List, [], ◌∷◌, ◌++◌, length, take, drop, get_or, Result, Ok, Err, refl, sym, ap, ◌∙◌, append_assoc}
use Rattle.std.proofs.lemmas.List.{drop_more, drop_all, take_more, append-nil}
use Rattle.std.proofs.lemmas.Bool.{eq-eqb, ne_eqb, cond-true, cond-false}
use Rattle.std.specs.Prelude.{◌==◌}
use Rattle.hx_config_parts.specs.declared.fault.Rule.{Rule}
use Rattle.hx_config_parts.specs.declared.fault.Rule.TheVariants.{BadAddress}
use Rattle.hx_config_parts.specs.Faults.{◌>>=◌}
use Rattle.hx_config_parts.specs.Addresses.{before, cut_at}

-- with bytes that were read before
abbrev pub behind : List ℕ → Result (List ℕ × List ℕ) Rule → Result (List ℕ × List ℕ) Rule
behind front read = read >>= λ x. Ok (front ++ x.0, x.1)

regroup : (front : List ℕ) (b : ℕ) (read : Result (List ℕ × List ℕ) Rule) → behind front (before b read) ≡ behind (front ++ b ∷ []) read
regroup front b (Ok x) = ap (λ (xs : List ℕ). Ok (xs, x.1)) (sym (append_assoc front (b ∷ []) x.0))
regroup front b (Err e) = refl

pub found_mark : (mark : ℕ) (word : List ℕ) (i : ℕ) (total : Result (List ℕ × List ℕ) Rule) → i < length word → get_or word i 0 ≡ mark
    → behind (take i word) (cut_at mark (drop i word)) ≡ total → total ≡ Ok (take i word, drop (i + 1) word)
unfolding cut_at
found_mark mark word i total lt is so_far =
    let test : (get_or word i 0 == mark) ≡ true = eq-eqb _ _ is in
    let at : cut_at mark (drop i word) ≡ Ok ([], drop (i + 1) word) = rw (drop_more word i 0 lt) (cond-true _ _ _ test) in
    sym so_far ∙ ap (behind (take i word)) at ∙ ap (λ (xs : List ℕ). Ok (xs, drop (i + 1) word)) (append-nil (take i word))

pub passed_byte : (mark : ℕ) (word : List ℕ) (i : ℕ) (total : Result (List ℕ × List ℕ) Rule) → i < length word → get_or word i 0 ≢ mark
    → behind (take i word) (cut_at mark (drop i word)) ≡ total → behind (take (i + 1) word) (cut_at mark (drop (i + 1) word)) ≡ total
unfolding cut_at
passed_byte mark word i total lt is so_far =
    let test : (get_or word i 0 == mark) ≡ false = ne_eqb _ _ is in
    let at : cut_at mark (drop i word) ≡ before (get_or word i 0) (cut_at mark (drop (i + 1) word)) = rw (drop_more word i 0 lt) (cond-false _ _ _ test) in
    let more : take (i + 1) word ≡ take i word ++ get_or word i 0 ∷ [] = take_more word i 0 lt in
    ap (λ (xs : List ℕ). behind xs (cut_at mark (drop (i + 1) word))) more
    ∙ sym (regroup (take i word) (get_or word i 0) (cut_at mark (drop (i + 1) word)))
    ∙ sym (ap (behind (take i word)) at) ∙ so_far

pub no_mark : (mark : ℕ) (word : List ℕ) (i : ℕ) (total : Result (List ℕ × List ℕ) Rule) → length word ≤ i
    → behind (take i word) (cut_at mark (drop i word)) ≡ total → total ≡ Err BadAddress
unfolding cut_at
no_mark mark word i total past so_far = sym so_far ∙ ap (λ (xs : List ℕ). behind (take i word) (cut_at mark xs)) (drop_all i word past)
