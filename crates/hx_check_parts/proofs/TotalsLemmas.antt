-- Totals by one mark more.
use Rattle.std.proofs.Common.{◌≡◌, ℕ, ◌+◌, ◌<◌, List, [], ◌∷◌, length, take, get_or, refl, sym, ap, ◌∙◌}
use Rattle.std.specs.Prelude.{fold}
use Rattle.std.proofs.lemmas.List.Sums.{fold_more}
use Rattle.hx_base.specs.declared.totals.Totals.{Totals}
use Rattle.hx_pool.specs.declared.entries.Entry.{Entry}
use Rattle.hx_pool.specs.Totals.{no_totals, totals_after, totals_from, totals_of}

by_fold : (s : Totals) (es : List Entry) → totals_from s es ≡ fold totals_after s es
by_fold s [] = refl
by_fold s (e ∷ es) = by_fold (totals_after s e) es

-- one mark more
pub totals_more : (es : List Entry) (i : ℕ) (d : Entry) → i < length es
    → totals_of (take (i + 1) es) ≡ totals_after (totals_of (take i es)) (get_or es i d)
totals_more es i d within =
    by_fold no_totals (take (i + 1) es) ∙ fold_more totals_after no_totals es i d within
    ∙ ap (λ s. totals_after s (get_or es i d)) (sym (by_fold no_totals (take i es)))
