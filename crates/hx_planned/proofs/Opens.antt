-- Which numbers connections get: each Open takes the next one, and nothing else does.
use Rattle.std.proofs.Common.{◌≡◌, ℕ, ◌+◌, Bool, true, false, cond, List, [], ◌∷◌, ◌++◌, refl, sym, ap, ◌∙◌, subst, arith, Option}
use Rattle.std.specs.Prelude.{◌≤◌}
use Rattle.hx_base.specs.declared.numbers.ConnId.{ConnId}
use Rattle.hx_base.specs.declared.numbers.SessionNo.{SessionNo}
use Rattle.hx_base.specs.declared.numbers.ThreadNo.{ThreadNo}
use Rattle.hx_base.specs.declared.what.What.{What}
use Rattle.hx_pool.specs.declared.entries.Entry.{Entry}
use Rattle.hx_pool.specs.declared.entries.Entry.TheVariants.{Open, Park, Take, Free, Close, Look, Up, Down, Count, Gate, SetGate, Round}
use Rattle.hx_pool.specs.declared.entries.Note.{Note}
use Rattle.hx_pool.specs.History.{is_mark, marks_of, table_from, table_after, EachStep, MeetsNeeds}
use Rattle.hx_pool.specs.Table.{Table, Needs, after_entry, after, empty_table}
use Rattle.hx_pool.proofs.Histories.{EachStep-second}
use Rattle.hx_connecting.specs.Touches.{Came, Had, Opened, Took, Went, Stays, Rests, Ends, EndsTakenBack, Touch, came_marks, went_marks, touch_marks}
use Rattle.hx_course.proofs.TableLemmas.{AllSpare, first_mark}

-- the connections that an entry opens, and that entries open
abbrev pub one_open : Entry → ℕ
one_open (Open t n id) = 1
one_open _ = 0

abbrev pub opens : List Entry → ℕ
opens [] = 0
opens (e ∷ es) = one_open e + opens es

pub opens_both : (xs ys : List Entry) → opens (xs ++ ys) ≡ opens xs + opens ys
opens_both [] ys = omega arith
opens_both (x ∷ xs) ys = let r = opens_both xs ys in omega arith

plain_opens : (b : Bool) (e : Entry) (more : List Entry) → one_open e ≡ 0 → opens (cond b (e ∷ more) more) ≡ opens more
plain_opens true e more none = omega (arith, none)
plain_opens false e more none = refl

next_entry : (T : Table) (w : Option What) (e : Entry) (more : List Entry) → (after_entry T w e).next + opens more ≡ T.next + opens (cond (is_mark e) (e ∷ more) more)
next_entry T w (Open t n id) more = omega arith
next_entry T w (Park t n id place uses) more = omega arith
next_entry T w (Take t n first place id uses) more = omega arith
next_entry T w (Close t n id) more = omega arith
next_entry T w (Free t place) more = refl
next_entry T w (Look t place found) more = refl
next_entry T w (Up t old) more = refl
next_entry T w (Down t old) more = refl
next_entry T w (Count t c) more = refl
next_entry T w (Gate t draining) more = refl
next_entry T w (SetGate t draining) more = omega arith
next_entry T w (Round t k old) more = ap (λ (i : ℕ). T.next + i) (sym (plain_opens (is_mark (Round t k old)) (Round t k old) more refl))

-- the next number rises by one with each Open
pub next_along : (T : Table) (es : List Note) → (table_from T es).next ≡ T.next + opens (marks_of es)
next_along T [] = omega arith
next_along T (x ∷ xs) = next_along (after T x) xs ∙ next_entry T x.what x.entry (marks_of xs)

-- and is 1 at least
pub next_low : (H : List Note) → 1 ≤ (table_after H).next
next_low H = let e = next_along empty_table H in omega arith

-- a connection that is opened by the first of the marks gets that number
pub open_next : (T : Table) (es : List Note) (t : ThreadNo) (n : SessionNo) (id : ConnId) (ms : List Entry) → EachStep MeetsNeeds T es → marks_of es ≡ Open t n id ∷ ms → id.0 ≡ T.next
open_next T es t n id ms legal e =
    let r = first_mark es (Open t n id) ms e in
    let S = table_from T r.0 in
    let steps : EachStep MeetsNeeds T (r.0 ++ r.1 ∷ r.2) = subst (EachStep MeetsNeeds T) r.3 legal in
    let need : Needs S (Open t n id) = subst (Needs S) r.5 (EachStep-second MeetsNeeds T r.0 (r.1 ∷ r.2) steps).0 in
    let along : S.next ≡ T.next + opens (marks_of r.0) = next_along T r.0 in
    let none : opens (marks_of r.0) ≡ 0 = ap opens r.4 in
    need.1 ∙ (along ∙ omega (arith, none))

-- ---- the marks of a call

went_opens : (t : ThreadNo) (n : SessionNo) (id : ConnId) (w : Went) → opens (went_marks t n id w) ≡ 0
went_opens t n id Stays = refl
went_opens t n id (Rests place uses) = refl
went_opens t n id Ends = refl
went_opens t n id (EndsTakenBack place uses) = refl

-- as many as the call opened
abbrev pub came_opens : Came → ℕ
came_opens Had = 0
came_opens Opened = 1
came_opens (Took place uses) = 0

came_count : (t : ThreadNo) (n : SessionNo) (first : Bool) (id : ConnId) (c : Came) → opens (came_marks t n first id c) ≡ came_opens c
came_count t n first id Had = refl
came_count t n first id Opened = refl
came_count t n first id (Took place uses) = refl

pub touch_opens : (t : ThreadNo) (n : SessionNo) (first : Bool) (y : Touch) → opens (touch_marks t n first y) ≡ came_opens y.came
touch_opens t n first y =
    let a = opens_both (came_marks t n first y.id y.came) (went_marks t n y.id y.went) in
    let b = came_count t n first y.id y.came in
    let c = went_opens t n y.id y.went in
    a ∙ omega (arith, b, c)

-- marks of no connection open none
none_opens : (e : Entry) → ((i : ℕ) → AllSpare i (e ∷ [])) → one_open e ≡ 0
none_opens (Open t n id) spares = absurd ((spares id.0).0 refl)
none_opens (Park t n id place uses) spares = refl
none_opens (Take t n first place id uses) spares = refl
none_opens (Close t n id) spares = refl
none_opens (Free t place) spares = refl
none_opens (Look t place found) spares = refl
none_opens (Up t old) spares = refl
none_opens (Down t old) spares = refl
none_opens (Count t c) spares = refl
none_opens (Gate t draining) spares = refl
none_opens (SetGate t draining) spares = refl
none_opens (Round t k old) spares = refl

pub spare_opens : (es : List Entry) → ((i : ℕ) → AllSpare i es) → opens es ≡ 0
spare_opens [] spares = refl
spare_opens (e ∷ es) spares = let a = none_opens e (λ i. ((spares i).0, tt)) in let b = spare_opens es (λ i. (spares i).1) in omega arith
