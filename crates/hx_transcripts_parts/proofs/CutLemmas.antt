-- Cutting a word at a mark, one byte after the other.
use Rattle.std.proofs.Common.{◌≡◌, ℕ, ◌+◌, ◌<◌, ◌≤◌, ◌≢◌, true, false, List, [], ◌∷◌, ◌++◌, length, take, drop, get_or, Option, Some, None, refl, sym, ap, ◌∙◌, append_assoc}
use Rattle.std.proofs.lemmas.List.{drop_more, drop_all, take_more, append-nil}
use Rattle.std.proofs.lemmas.Bool.{eq-eqb, ne_eqb, cond-true, cond-false}
use Rattle.std.specs.Prelude.{◌==◌}
use Rattle.hx_transcripts_parts.specs.Numbers.{with_first, cut_at}

-- with bytes that were read before
abbrev pub behind : List ℕ → Option (List ℕ × List ℕ) → Option (List ℕ × List ℕ)
behind front None = None
behind front (Some x) = Some (front ++ x.0, x.1)

regroup : (front : List ℕ) (b : ℕ) (read : Option (List ℕ × List ℕ)) → behind front (with_first b read) ≡ behind (front ++ b ∷ []) read
regroup front b (Some x) = ap (λ (xs : List ℕ). Some (xs, x.1)) (sym (append_assoc front (b ∷ []) x.0))
regroup front b None = refl

pub found_mark : (mark : ℕ) (word : List ℕ) (i : ℕ) (total : Option (List ℕ × List ℕ)) → i < length word → get_or word i 0 ≡ mark
    → behind (take i word) (cut_at mark (drop i word)) ≡ total → total ≡ Some (take i word, drop (i + 1) word)
unfolding cut_at
found_mark mark word i total lt is so_far =
    let test : (get_or word i 0 == mark) ≡ true = eq-eqb _ _ is in
    let at : cut_at mark (drop i word) ≡ Some ([], drop (i + 1) word) = rw (drop_more word i 0 lt) (cond-true _ _ _ test) in
    sym so_far ∙ ap (behind (take i word)) at ∙ ap (λ (xs : List ℕ). Some (xs, drop (i + 1) word)) (append-nil (take i word))

pub passed_byte : (mark : ℕ) (word : List ℕ) (i : ℕ) (total : Option (List ℕ × List ℕ)) → i < length word → get_or word i 0 ≢ mark
    → behind (take i word) (cut_at mark (drop i word)) ≡ total → behind (take (i + 1) word) (cut_at mark (drop (i + 1) word)) ≡ total
unfolding cut_at
passed_byte mark word i total lt is so_far =
    let test : (get_or word i 0 == mark) ≡ false = ne_eqb _ _ is in
    let at : cut_at mark (drop i word) ≡ with_first (get_or word i 0) (cut_at mark (drop (i + 1) word)) = rw (drop_more word i 0 lt) (cond-false _ _ _ test) in
    let more : take (i + 1) word ≡ take i word ++ get_or word i 0 ∷ [] = take_more word i 0 lt in
    ap (λ (xs : List ℕ). behind xs (cut_at mark (drop (i + 1) word))) more
    ∙ sym (regroup (take i word) (get_or word i 0) (cut_at mark (drop (i + 1) word)))
    ∙ sym (ap (behind (take i word)) at) ∙ so_far

pub no_mark : (mark : ℕ) (word : List ℕ) (i : ℕ) (total : Option (List ℕ × List ℕ)) → length word ≤ i
    → behind (take i word) (cut_at mark (drop i word)) ≡ total → total ≡ None
unfolding cut_at
no_mark mark word i total past so_far = sym so_far ∙ ap (λ (xs : List ℕ). behind (take i word) (cut_at mark xs)) (drop_all i word past)
