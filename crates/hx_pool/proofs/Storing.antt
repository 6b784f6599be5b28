-- Journals over several calls.
use Rattle.std.proofs.Common.{◌≡◌, ℕ, List, [], ◌++◌, refl, ◌∙◌, arith, Option, None, inl, inr, ⊎_elim}
use Rattle.std.proofs.lemmas.List.{length-append}
use Rattle.hx_pool.specs.declared.entries.Entry.{Entry}
use Rattle.hx_pool.specs.SeatView.{StillKept, Stores}

pub still_both : (k k' k'' : Option ℕ) → StillKept k k' → StillKept k' k'' → StillKept k k''
still_both k k' k'' a b = ⊎_elim
    (λ (same : k'' ≡ k'). ⊎_elim (λ (was : k' ≡ k). inl (same ∙ was)) (λ (none : k' ≡ None). inr (same ∙ none)) a)
    (λ (none : k'' ≡ None). inr none)
    b

-- a call without marks changes nothing
pub stores_none : (k : Option ℕ) (s : ℕ) → Stores k k s s []
stores_none k s = record { still = inl refl; fits = λ _. (refl, omega arith) }

-- two calls, one after the other, store their marks one after the other
pub stores_both : (k k' k'' : Option ℕ) (s s' s'' : ℕ) (l m : List Entry) → Stores k k' s s' l → Stores k' k'' s' s'' m → Stores k k'' s s'' (l ++ m)
stores_both k k' k'' s s' s'' l m a b = record {
  still = still_both k k' k'' a.still b.still;
  fits = λ few.
      let n = length-append l m in
      let f = a.fits (omega arith) in
      let room = f.1 in
      let g = b.fits (omega arith) in
      let room' = g.1 in
      (g.0 ∙ f.0, omega arith);
}
