-- After a drain that passed every place nothing rests but a park under way.
use Rattle.std.proofs.Common.{◌≡◌, ℕ, ◌*◌, Bool, true, false, cond, List, [], ◌∷◌, ◌++◌, refl, sym, ap, ◌∙◌, subst, eq-eqb, Option, Some, None}
use Rattle.hx_base.specs.declared.numbers.ThreadNo.{ThreadNo}
use Rattle.hx_pool.specs.declared.entries.Entry.{Entry}
use Rattle.hx_pool.specs.declared.entries.Entry.TheVariants.{SetGate}
use Rattle.hx_pool.specs.declared.entries.Note.{Note}
use Rattle.hx_pool.specs.History.{plain, is_by, own_of}
use Rattle.hx_pool.specs.Causes.{AllCovered}
use Rattle.hx_pool.specs.Drain.{since_after, since_from, since_drain, NoSetGate}
use Rattle.hx_pool.proofs.Histories.{own_of-append, since_from-append}
use Rattle.hx_pool.proofs.Coverage.{covered_all}
use Rattle.hx_places.specs.Seats.{PlaceView, about, history_of, Stands}
use Rattle.hx_places.proofs.Drained.{drained}
use Rattle.hx_purge.specs.Drains.{Covers, Drains, IsEmptied}
use Rattle.hx_purge.proofs.Draining.{IsNoDrain, NoDrain, since_some}

-- where nobody sets the drain state no drain is set
quiet_entry : (x : Note) → NoSetGate (x ∷ []) → IsNoDrain x.entry
quiet_entry x n =
    let P : Entry → Type 0 = λ e. NoSetGate (record { entry = e; what = x.what } ∷ []) → IsNoDrain e in
    let all : (e : Entry) → P e = λ e. elim e as P [ SetGate t draining ↦ λ h. absurd h.0 | _ ↦ λ h. tt ] in
    all x.entry n

quiet_set : (xs : List Note) → NoSetGate xs → NoDrain xs
quiet_set [] n = tt
quiet_set (x ∷ xs) n = (quiet_entry x (n.0, tt), quiet_set xs n.1)

quiet_own : (t : ThreadNo) (xs : List Note) → NoDrain xs → NoDrain (own_of t xs)
quiet_own t [] n = tt
quiet_own t (x ∷ xs) n =
    let go : (b : Bool) → NoDrain (cond b (x ∷ own_of t xs) (own_of t xs)) = λ b. elim b as (λ b. NoDrain (cond b (x ∷ own_of t xs) (own_of t xs))) [
      | true ↦ (n.0, quiet_own t xs n.1)
      | false ↦ quiet_own t xs n.1
    ] in go (is_by t x)

-- a thread's own entries since its SetGate
since_set : (t : ThreadNo) (before later : List Note) → NoSetGate later → since_drain (own_of t (before ++ plain (SetGate t true) ∷ later)) ≡ Some (own_of t later)
since_set t before later n =
    let x : Note = plain (SetGate t true) in
    let o : Option (List Note) = since_from None (own_of t before) in
    let P : Option (List Note) → Type 0 = λ o. since_after o x ≡ Some [] in
    let all : (o : Option (List Note)) → P o = λ o. elim o as P [ None ↦ refl | Some es ↦ refl ] in
    let kept : own_of t (x ∷ later) ≡ x ∷ own_of t later = ap (λ b. cond b (x ∷ own_of t later) (own_of t later)) (eq-eqb t.0 t.0 refl) in
    ap since_drain (own_of-append t before (x ∷ later) ∙ ap (λ l. own_of t before ++ l) kept)
    ∙ (since_from-append None (own_of t before) (x ∷ own_of t later)
    ∙ (ap (λ z. since_from z (own_of t later)) (all o) ∙ since_some [] (own_of t later) (quiet_own t later (quiet_set later n))))

some_same : (xs ys : List Note) → Some xs ≡ Some ys → xs ≡ ys
some_same xs ys e = cc

pub emptied : (s : PlaceView) (p : Option ℕ) → Stands s.view → Covers s (64 * s.view.terms.threads) → IsEmptied (history_of s p)
emptied s p k c = λ before later parts none.
    let t = s.view.thread in
    let own : s.view.mine ≡ own_of t (before ++ plain (SetGate t true) ∷ later) = k.own ∙ ap (own_of t) parts in
    let same : c.es ≡ own_of t later = some_same c.es (own_of t later) (sym c.since ∙ (ap since_drain own ∙ since_set t before later none)) in
    drained s.view.terms s.view.seen t k.right before later parts none (subst (λ (es : List Note). AllCovered (about s) es) same (covered_all (about s) c.es k.low c.covered))

-- the same by what the drain has passed
pub emptied_by : (s : PlaceView) (q : Option ℕ) → Stands s.view → Drains s q → q ≡ Some (64 * s.view.terms.threads) → IsEmptied (history_of s q)
emptied_by s q k d e = emptied s q k (subst (λ (o : Option ℕ). Drains s o) e d)
