-- A connection is opened once, so that its Open stands at one place of a legal history.
use Rattle.std.proofs.Common.{◌≡◌, ◌+◌, ◌≤◌, Bool, List, [], ◌∷◌, ◌++◌, refl, sym, ap₂, ◌∙◌, subst, arith, Option}
use Rattle.hx_base.specs.declared.numbers.ThreadNo.{ThreadNo}
use Rattle.hx_base.specs.declared.numbers.SessionNo.{SessionNo}
use Rattle.hx_base.specs.declared.numbers.ConnId.{ConnId}
use Rattle.hx_base.specs.declared.what.What.{What}
use Rattle.hx_pool.specs.declared.entries.Entry.{Entry}
use Rattle.hx_pool.specs.declared.entries.Entry.TheVariants.{Open, Park, Take, Free, Close, Look, Up, Down, Count, Gate, SetGate, Round}
use Rattle.hx_pool.specs.declared.entries.Note.{Note}
use Rattle.hx_pool.specs.Table.{Table, Needs, after_entry, after, empty_table}
use Rattle.hx_pool.specs.History.{plain, table_from, EachStep, MeetsNeeds, IsLegal}
use Rattle.hx_pool.specs.SeatView.{History}
use Rattle.hx_pool.specs.Wants.{WantsNewConn, IsWanted}
use Rattle.hx_pool.proofs.Histories.{EachStep-second}

next_entry : (T : Table) (w : Option What) (e : Entry) → T.next ≤ (after_entry T w e).next
next_entry T w (Open t n id) = omega arith
next_entry T w (Park t n id place uses) = omega arith
next_entry T w (Take t n first place id uses) = omega arith
next_entry T w (Free t place) = omega arith
next_entry T w (Close t n id) = omega arith
next_entry T w (Look t place found) = omega arith
next_entry T w (Up t old) = omega arith
next_entry T w (Down t old) = omega arith
next_entry T w (Count t c) = omega arith
next_entry T w (Gate t draining) = omega arith
next_entry T w (SetGate t draining) = omega arith
next_entry T w (Round t k old) = omega arith

-- the next number never falls
next_along : (T : Table) (H : List Note) → T.next ≤ (table_from T H).next
next_along T [] = omega arith
next_along T (x ∷ xs) = let a = next_entry T x.what x.entry in let b = next_along (after T x) xs in omega arith

-- behind an Open of a number there is no second
no_second : (T : Table) (t u : ThreadNo) (n m : SessionNo) (id : ConnId) (G more : List Note) → Needs T (Open t n id) → EachStep MeetsNeeds (after T (plain (Open t n id))) (G ++ plain (Open u m id) ∷ more) → ⊥
no_second T t u n m id G more need steps =
    let S = after T (plain (Open t n id)) in
    let rest = EachStep-second MeetsNeeds S G (plain (Open u m id) ∷ more) steps in
    let first = need.1 in
    let again = rest.0.1 in
    let rises = next_along S G in omega arith

once : (T : Table) (t u : ThreadNo) (n m : SessionNo) (id : ConnId) (H G later more : List Note) → EachStep MeetsNeeds T (H ++ plain (Open t n id) ∷ later)
    → H ++ plain (Open t n id) ∷ later ≡ G ++ plain (Open u m id) ∷ more → H ≡ G
once T t u n m id [] [] later more steps e = refl
once T t u n m id [] (g ∷ G) later more steps e =
    let tail : later ≡ G ++ plain (Open u m id) ∷ more = cc in
    absurd (no_second T t u n m id G more steps.0 (subst (EachStep MeetsNeeds (after T (plain (Open t n id)))) tail steps.1))
once T t u n m id (h ∷ H) [] later more steps e =
    let head : h ≡ plain (Open u m id) = cc in
    let both : EachStep MeetsNeeds T (plain (Open u m id) ∷ (H ++ plain (Open t n id) ∷ later)) = subst (λ (x : Note). EachStep MeetsNeeds T (x ∷ (H ++ plain (Open t n id) ∷ later))) head steps in
    absurd (no_second T u t m n id H later both.0 both.1)
once T t u n m id (h ∷ H) (g ∷ G) later more steps e =
    let head : h ≡ g = cc in
    let tail : H ++ plain (Open t n id) ∷ later ≡ G ++ plain (Open u m id) ∷ more = cc in
    ap₂ (λ (x : Note) (xs : List Note). x ∷ xs) head (once (after T h) t u n m id H G later more steps.1 tail)

pub opened_once : (t u : ThreadNo) (n m : SessionNo) (id : ConnId) (H G later more : List Note) → IsLegal (H ++ plain (Open t n id) ∷ later)
    → H ++ plain (Open t n id) ∷ later ≡ G ++ plain (Open u m id) ∷ more → H ≡ G
opened_once t u n m id H G later more legal e = once empty_table t u n m id H G later more legal e

-- so an Open that was wanted where it stands was wanted wherever the history is cut at it
pub wanted_at : (h : History) (first : Bool) (before : List Note) (n : SessionNo) (id : ConnId) (G more : List Note) → IsLegal h.seen → IsWanted h first before (plain (Open h.about.thread n id))
    → h.seen ≡ G ++ plain (Open h.about.thread n id) ∷ more → WantsNewConn h first G before
wanted_at h first before n id G more legal w cut =
    let t = h.about.thread in
    subst (λ (K : List Note). WantsNewConn h first K before) (opened_once t t n n id w.0 G w.1 more (subst IsLegal w.2 legal) (sym w.2 ∙ cut)) w.3
