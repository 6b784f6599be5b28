-- Histories, one after another.
use Rattle.std.proofs.Common.{◌≡◌, ℕ, ◌+◌, List, [], ◌∷◌, ◌++◌, refl, ap, ◌∙◌, Option, arith}
use Rattle.std.proofs.lemmas.List.{map-append}
use Rattle.std.proofs.lemmas.List.Elements.{filter-append}
use Rattle.std.proofs.lemmas.List.Sums.{sum_by-append}
use Rattle.std.specs.Prelude.{cond, filter}
use Rattle.hx_base.specs.declared.numbers.ThreadNo.{ThreadNo}
use Rattle.hx_base.specs.declared.numbers.SessionNo.{SessionNo}
use Rattle.hx_base.specs.declared.numbers.Face.{Face}
use Rattle.hx_base.specs.declared.totals.Totals.{Totals}
use Rattle.hx_pool.specs.declared.entries.Entry.{Entry}
use Rattle.hx_pool.specs.declared.entries.Note.{Note}
use Rattle.hx_pool.specs.Table.{Table, after}
use Rattle.hx_pool.specs.History.{is_mark, entries_of, marks_of, is_by, own_of, is_open, opens_of, is_take, is_park, is_up, is_down, IsEven, table_from, EachStep}
use Rattle.hx_pool.specs.Held.{Hold, hold_after, hold_from, held_after, held_from}
use Rattle.hx_pool.specs.SeatView.{AllBelow}
use Rattle.hx_pool.specs.Drain.{since_after, since_from}
use Rattle.hx_pool.specs.Totals.{totals_after, totals_from, totals_of, no_totals}

pub table_from-append : (T : Table) (xs ys : List Note) → table_from T (xs ++ ys) ≡ table_from (table_from T xs) ys
table_from-append T [] ys = refl
table_from-append T (x ∷ xs) ys = table_from-append (after T x) xs ys

pub EachStep-append : (P : Table → Note → Type 0) (T : Table) (xs ys : List Note) → EachStep P T xs → EachStep P (table_from T xs) ys → EachStep P T (xs ++ ys)
EachStep-append P T [] ys a b = b
EachStep-append P T (x ∷ xs) ys a b = (a.0, EachStep-append P (after T x) xs ys a.1 b)

pub EachStep-first : (P : Table → Note → Type 0) (T : Table) (xs ys : List Note) → EachStep P T (xs ++ ys) → EachStep P T xs
EachStep-first P T [] ys a = tt
EachStep-first P T (x ∷ xs) ys a = (a.0, EachStep-first P (after T x) xs ys a.1)

pub EachStep-second : (P : Table → Note → Type 0) (T : Table) (xs ys : List Note) → EachStep P T (xs ++ ys) → EachStep P (table_from T xs) ys
EachStep-second P T [] ys a = a
EachStep-second P T (x ∷ xs) ys a = EachStep-second P (after T x) xs ys a.1

pub own_of-append : (t : ThreadNo) (xs ys : List Note) → own_of t (xs ++ ys) ≡ own_of t xs ++ own_of t ys
own_of-append t xs ys = filter-append (is_by t) xs ys

pub entries_of-append : (xs ys : List Note) → entries_of (xs ++ ys) ≡ entries_of xs ++ entries_of ys
entries_of-append xs ys = map-append (λ (x : Note). x.entry) xs ys

pub marks_of-append : (xs ys : List Note) → marks_of (xs ++ ys) ≡ marks_of xs ++ marks_of ys
marks_of-append xs ys = ap (λ l. filter is_mark l) (entries_of-append xs ys) ∙ filter-append is_mark (entries_of xs) (entries_of ys)

pub opens_of-append : (xs ys : List Note) → opens_of (xs ++ ys) ≡ opens_of xs + opens_of ys
opens_of-append xs ys = sum_by-append (λ (x : Note). cond (is_open x) 1 0) xs ys

pub even-append : (xs ys : List Note) → IsEven xs → IsEven ys → IsEven (xs ++ ys)
even-append xs ys a b =
    let u = sum_by-append (λ (x : Note). cond (is_up x) 1 0) xs ys in
    let d = sum_by-append (λ (x : Note). cond (is_down x) 1 0) xs ys in
    let p = sum_by-append (λ (x : Note). cond (is_park x) 1 0) xs ys in
    let t = sum_by-append (λ (x : Note). cond (is_take x) 1 0) xs ys in
    omega arith

pub AllBelow-append : (n : ℕ) (xs ys : List Note) → AllBelow n xs → AllBelow n ys → AllBelow n (xs ++ ys)
AllBelow-append n [] ys a b = b
AllBelow-append n (x ∷ xs) ys a b = (a.0, AllBelow-append n xs ys a.1 b)

pub hold_from-append : (i : ℕ) (o : Option Hold) (xs ys : List Note) → hold_from i o (xs ++ ys) ≡ hold_from i (hold_from i o xs) ys
hold_from-append i o [] ys = refl
hold_from-append i o (x ∷ xs) ys = hold_from-append i (hold_after i o x.entry) xs ys

pub held_from-append : (n : SessionNo) (fs : List Face) (xs ys : List Note) → held_from n fs (xs ++ ys) ≡ held_from n (held_from n fs xs) ys
held_from-append n fs [] ys = refl
held_from-append n fs (x ∷ xs) ys = held_from-append n (held_after n fs x.entry) xs ys

pub since_from-append : (o : Option (List Note)) (xs ys : List Note) → since_from o (xs ++ ys) ≡ since_from (since_from o xs) ys
since_from-append o [] ys = refl
since_from-append o (x ∷ xs) ys = since_from-append (since_after o x) xs ys

pub totals_from-append : (s : Totals) (xs ys : List Entry) → totals_from s (xs ++ ys) ≡ totals_from (totals_from s xs) ys
totals_from-append s [] ys = refl
totals_from-append s (e ∷ es) ys = totals_from-append (totals_after s e) es ys

-- the totals after a call follow from those before it and the call's own entries
pub totals_more : (mine added : List Note) → totals_of (entries_of (mine ++ added)) ≡ totals_from (totals_of (entries_of mine)) (entries_of added)
totals_more mine added = ap totals_of (entries_of-append mine added) ∙ totals_from-append no_totals (entries_of mine) (entries_of added)
