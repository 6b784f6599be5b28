-- Laws over a board's history that the layers above use.
use Rattle.std.proofs.Common.{◌≡◌, ℕ, ◌≤◌, arith, ⊎_elim, List, [], ◌∷◌, ◌++◌, sym, ap, ◌∙◌, subst, None}
use Rattle.hx_base.specs.declared.numbers.ThreadNo.{ThreadNo}
use Rattle.hx_base.specs.declared.numbers.SessionNo.{SessionNo}
use Rattle.hx_pool.specs.declared.board.BoardTerms.{BoardTerms}
use Rattle.hx_pool.specs.declared.entries.Note.{Note}
use Rattle.hx_pool.specs.Table.{Table, HeldBy, empty_table, after}
use Rattle.hx_pool.specs.History.{own_of, table_after, table_from, EachStep, MeetsNeeds}
use Rattle.hx_pool.specs.Held.{Has}
use Rattle.hx_pool.specs.Rules.{IsBelowMax}
use Rattle.hx_pool.proofs.Holding.{holds_along}
use Rattle.hx_pool.proofs.Tables.{sound_empty}
use Rattle.hx_pool.proofs.Histories.{EachStep-second, table_from-append}
use Rattle.hx_base.specs.declared.numbers.Face.{Face}
use Rattle.hx_base.specs.PlaceWords.{IsFace}
use Rattle.hx_pool.specs.declared.entries.Entry.{Entry}
use Rattle.hx_pool.specs.declared.entries.Entry.TheVariants.{Open, Park, Take, Free, Close, Look, Up, Down, Count}
use Rattle.hx_pool.specs.declared.entries.Entry.TheVariants.{Gate, SetGate, Round}
use Rattle.hx_pool.specs.Table.{Holds, Needs}
use Rattle.hx_places.specs.Right.{IsRight}
use Rattle.hx_places.proofs.Opens.{next_small}
use Rattle.hx_places.proofs.Knowing.{rests_drawn}
use Rattle.hx_places.proofs.Rests.{Throughout, Since, ParksAt, now_rests, rests_since}

-- two owners never have one connection
pub one_owner : (b : BoardTerms) (H : List Note) (t u : ThreadNo) (n m : SessionNo) (i j k : ℕ) → IsRight b H
    → Has (own_of t H) n i j → Has (own_of u H) m i k → (t ≡ u) × (n ≡ m)
one_owner b H t u n m i j k r a c =
    let x = holds_along empty_table H t i None sound_empty r.legal (λ z e. cc) (record { session = n; uses = j }) a in
    let y = holds_along empty_table H u i None sound_empty r.legal (λ z e. cc) (record { session = m; uses = k }) c in
    same t u n m (sym x.0 ∙ y.0)
  where
    same : (t u : ThreadNo) (n m : SessionNo) → HeldBy t n ≡ HeldBy u m → (t ≡ u) × (n ≡ m)
    same t u n m e = (cc, cc)

-- at each moment of the history no more rest than may
pub limit_at : (b : BoardTerms) (xs : List Note) (x : Note) (ys : List Note) → IsRight b (xs ++ x ∷ ys)
    → IsBelowMax b.rules (table_after (xs ++ x ∷ []))
limit_at b xs x ys r = subst (IsBelowMax b.rules) (sym (table_from-append empty_table xs (x ∷ [])))
    (EachStep-second (λ T z. IsBelowMax b.rules (after T z)) empty_table xs (x ∷ ys) r.limit).0

parked_fine : (T : Table) (x : Note) (p : ℕ) (f : Face) → ParksAt p f x.entry → Needs T x.entry
    → (1 ≤ f.uses) × (f.uses ≤ 65535)
parked_fine T x p f k need = by_entry x.entry k need
  where
    by_entry : (e : Entry) → ParksAt p f e → Needs T e → (1 ≤ f.uses) × (f.uses ≤ 65535)
    by_entry (Open t n id) k need = absurd k
    by_entry (Park t n id at uses) k need = let same = ap (λ (g : Face). g.uses) k.1 in let used = need.used in
        let most = need.most in (omega arith, omega arith)
    by_entry (Take t n first at id uses) k need = absurd k
    by_entry (Free t at) k need = absurd k
    by_entry (Close t n id) k need = absurd k
    by_entry (Look t at found) k need = absurd k
    by_entry (Up t old) k need = absurd k
    by_entry (Down t old) k need = absurd k
    by_entry (Count t c) k need = absurd k
    by_entry (Gate t draining) k need = absurd k
    by_entry (SetGate t draining) k need = absurd k
    by_entry (Round t j old) k need = absurd k

-- what rests has a face that a word can show
pub holds_face : (b : BoardTerms) (H : List Note) (p : ℕ) (f : Face) → IsRight b H → b.threads ≤ 16
    → (table_after H).spots p ≡ Holds f → IsFace f
holds_face b H p f r few holds =
    let drawn = rests_drawn H p f r.legal holds in
    let low = next_small b H r few in
    let uses : (1 ≤ f.uses) × (f.uses ≤ 65535) =
    ⊎_elim (λ (all : Throughout p f empty_table H). absurd (let no = now_rests p f empty_table H all in (cc)))
    (λ (s : Since p f empty_table H). parked_fine (table_from empty_table s.before) s.park p f s.parks
    (EachStep-second MeetsNeeds empty_table s.before (s.park ∷ s.later)
    (subst (EachStep MeetsNeeds empty_table) s.whole r.legal)).0)
    (rests_since p f empty_table H holds) in
    let a = drawn.1 in let c = uses.0 in let d = uses.1 in (drawn.0, omega arith, omega arith, omega arith)
