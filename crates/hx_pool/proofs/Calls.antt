-- What callers draw from the calls of a seat.
use Rattle.std.proofs.Common.{◌≡◌, ℕ, ◌-◌, eqb, Bool, true, false, cond, List, [], ◌∷◌, ◌++◌, refl, sym, ap, ◌∙◌, subst, Option, None, ⊎_elim, eq-eqb, append_assoc}
use Rattle.std.proofs.lemmas.List.{append-nil}
use Rattle.hx_base.specs.declared.numbers.ThreadNo.{ThreadNo}
use Rattle.hx_base.specs.declared.numbers.SessionNo.{SessionNo}
use Rattle.hx_base.specs.declared.numbers.ConnId.{ConnId}
use Rattle.hx_base.specs.declared.numbers.PlaceNo.{PlaceNo}
use Rattle.hx_base.specs.declared.numbers.Face.{Face}
use Rattle.hx_base.specs.Shown.{Shown}
use Rattle.hx_pool.specs.declared.entries.Entry.TheVariants.{Open, Park, Take, Up, Down, Gate}
use Rattle.hx_pool.specs.declared.entries.Note.{Note}
use Rattle.hx_pool.specs.declared.refusals.NoPark.{NoPark}
use Rattle.hx_pool.specs.declared.refusals.NoPark.TheVariants.{Never, NoneKept, RowFull, Draining, PoolFull}
use Rattle.hx_pool.specs.History.{plain, marks_of, IsEven}
use Rattle.hx_pool.specs.Held.{Hold, hold, hold_after, hold_from, hold_of, Has}
use Rattle.hx_pool.specs.SeatView.{History, Makes}
use Rattle.hx_pool.specs.Causes.{AllLooks}
use Rattle.hx_pool.specs.Opening.{HasConn}
use Rattle.hx_pool.specs.Taking.{taking}
use Rattle.hx_pool.specs.Parking.{CanPark, parked, gated, Settles, FindsDraining, TakesBack, RefusesPark}
use Rattle.hx_pool.proofs.Histories.{hold_from-append, marks_of-append, even-append}

-- two calls, one after the other
pub makes_both : (a b c : History) (xs ys : List Note) → Makes a b xs → Makes b c ys → Makes a c (xs ++ ys)
makes_both a b c xs ys m k = record {
  about = k.about ∙ m.about;
  mine = k.mine ∙ (ap (λ l. l ++ ys) m.mine ∙ append_assoc a.mine xs ys);
  seen = (m.seen.0 ++ k.seen.0, k.seen.1 ∙ (ap (λ l. l ++ k.seen.0) m.seen.1 ∙ append_assoc a.seen m.seen.0 k.seen.0));
  was = m.was;
  one = k.one;
  even = even-append xs ys m.even k.even;
}

-- looks change no hold
pub looks_hold : (t : ThreadNo) (looks : List Note) (i : ℕ) (o : Option Hold) → AllLooks t looks → hold_from i o looks ≡ o
looks_hold t [] i o l = refl
looks_hold t (x ∷ xs) i o l = ap (λ (y : Note). hold_from i (hold_after i o y.entry) xs) l.0.2 ∙ looks_hold t xs i o l.1

-- looks change no count
pub looks_even : (t : ThreadNo) (looks : List Note) → AllLooks t looks → IsEven looks
looks_even t [] l = refl
looks_even t (x ∷ xs) l = even-append (x ∷ []) xs (subst (λ (y : Note). IsEven (y ∷ [])) (sym l.0.2) refl) (looks_even t xs l.1)

-- looks are no marks
pub looks_marks : (t : ThreadNo) (looks : List Note) → AllLooks t looks → marks_of looks ≡ []
looks_marks t [] l = refl
looks_marks t (x ∷ xs) l = ap (λ (y : Note). marks_of (y ∷ xs)) l.0.2 ∙ looks_marks t xs l.1

same_id : (i : ℕ) (x o : Option Hold) → cond (eqb i i) x o ≡ x
same_id i x o = ap (λ b. cond b x o) (eq-eqb i i refl)

-- a call that looks, and then makes entries which leave this hold, leaves it
pub has_kept : (mine looks tail : List Note) (t : ThreadNo) (n : SessionNo) (i uses : ℕ) → AllLooks t looks
    → (hold_from i (hold n uses) tail ≡ hold n uses) → Has mine n i uses → Has (mine ++ (looks ++ tail)) n i uses
has_kept mine looks tail t n i uses l same h =
    hold_from-append i None mine (looks ++ tail)
    ∙ (hold_from-append i (hold_of mine i) looks tail
    ∙ (ap (λ o. hold_from i o tail) (looks_hold t looks i (hold_of mine i) l ∙ h) ∙ same))

pub has_opened : (mine : List Note) (t : ThreadNo) (n : SessionNo) (id : ConnId) → Has (mine ++ plain (Open t n id) ∷ []) n id.0 0
has_opened mine t n id = hold_from-append id.0 None mine (plain (Open t n id) ∷ []) ∙ same_id id.0 (hold n 0) (hold_of mine id.0)

pub has_taken : (mine before : List Note) (t : ThreadNo) (n : SessionNo) (first : Bool) (place : PlaceNo) (f : Face) (count : ℕ) → Has (mine ++ (before ++ taking t n first place f count)) n f.id.0 f.uses
has_taken mine before t n first place f count =
    let o = hold_from f.id.0 (hold_of mine f.id.0) before in
    hold_from-append f.id.0 None mine (before ++ taking t n first place f count)
    ∙ (hold_from-append f.id.0 (hold_of mine f.id.0) before (taking t n first place f count)
    ∙ same_id f.id.0 (hold n f.uses) o)

pub marks_taking : (looks : List Note) (t : ThreadNo) (n : SessionNo) (first : Bool) (place : PlaceNo) (f : Face) (count : ℕ) → AllLooks t looks → marks_of (looks ++ taking t n first place f count) ≡ Take t n first place f.id f.uses ∷ []
marks_taking looks t n first place f count l = marks_of-append looks (taking t n first place f count) ∙ ap (λ m. m ++ Take t n first place f.id f.uses ∷ []) (looks_marks t looks l)

settles_marks : (t : ThreadNo) (place : PlaceNo) (f : Face) (tail : List Note) → Settles t place f tail → marks_of tail ≡ []
settles_marks t place f tail s = ⊎_elim (λ e. ap marks_of e) (λ r. ap marks_of r.2) s

pub marks_parked : (looks : List Note) (t : ThreadNo) (n : SessionNo) (place : PlaceNo) (v : Shown) (count : ℕ) (tail : List Note) → AllLooks t looks → Settles t place v.face tail
    → marks_of (gated t looks (plain (Up t count) ∷ parked t n place v ∷ tail)) ≡ Park t n v.face.id place v.face.uses ∷ []
marks_parked looks t n place v count tail l s = marks_of-append looks (plain (Gate t false) ∷ plain (Up t count) ∷ parked t n place v ∷ tail)
    ∙ (ap (λ m. m ++ Park t n v.face.id place v.face.uses ∷ marks_of tail) (looks_marks t looks l) ∙ ap (λ m. Park t n v.face.id place v.face.uses ∷ m) (settles_marks t place v.face tail s))

-- the session has the connection where the call's entries say so
still_by : (old new : History) (n : SessionNo) (v : Shown) (uses : ℕ) (added : List Note) → new.mine ≡ old.mine ++ added → Has (old.mine ++ added) n v.face.id.0 uses → HasConn new n v.face.id
still_by old new n v uses added e h = (uses, subst (λ l. Has l n v.face.id.0 uses) (sym e) h)

-- after a refused park the session still has the connection
pub refused_still : (old new : History) (n : SessionNo) (v : Shown) (why : NoPark) → CanPark old n v → RefusesPark old new n v why → HasConn new n v.face.id
refused_still old new n v Never can r = still_by old new n v (v.face.uses - 1) [] r.1.makes.mine (ap (λ l. hold_of l v.face.id.0) (append-nil old.mine) ∙ can.has)
refused_still old new n v NoneKept can r = still_by old new n v (v.face.uses - 1) [] r.2.makes.mine (ap (λ l. hold_of l v.face.id.0) (append-nil old.mine) ∙ can.has)
refused_still old new n v RowFull can r =
    let looks = r.2.looks in
    still_by old new n v (v.face.uses - 1) looks.looks looks.makes.mine
    (hold_from-append v.face.id.0 None old.mine looks.looks ∙ (looks_hold old.about.thread looks.looks v.face.id.0 (hold_of old.mine v.face.id.0) looks.looked ∙ can.has))
refused_still old new n v Draining can r = ⊎_elim
    (λ (f : FindsDraining old new). still_by old new n v (v.face.uses - 1) (f.looks ++ plain (Gate old.about.thread true) ∷ []) f.makes.makes.mine
    (has_kept old.mine f.looks (plain (Gate old.about.thread true) ∷ []) old.about.thread n v.face.id.0 (v.face.uses - 1) f.looked refl can.has))
    (λ (b : TakesBack old new n v).
    let t = old.about.thread in
    let before : List Note = b.looks ++ plain (Gate t false) ∷ plain (Up t b.count) ∷ parked t n b.place v ∷ plain (Gate t true) ∷ [] in
    let tail : List Note = taking t n false b.place v.face b.down in
    still_by old new n v v.face.uses (gated t b.looks (plain (Up t b.count) ∷ parked t n b.place v ∷ plain (Gate t true) ∷ tail)) b.makes.makes.mine
    (subst (λ l. Has (old.mine ++ l) n v.face.id.0 v.face.uses) (append_assoc b.looks (plain (Gate t false) ∷ plain (Up t b.count) ∷ parked t n b.place v ∷ plain (Gate t true) ∷ []) tail)
    (has_taken old.mine before t n false b.place v.face b.down)))
    r.2
refused_still old new n v (PoolFull c) can r =
    let f = r.2 in let t = old.about.thread in
    still_by old new n v (v.face.uses - 1) (gated t f.looks (plain (Up t c) ∷ plain (Down t f.down) ∷ [])) f.makes.makes.mine
    (has_kept old.mine f.looks (plain (Gate t false) ∷ plain (Up t c) ∷ plain (Down t f.down) ∷ []) t n v.face.id.0 (v.face.uses - 1) f.looked refl can.has)
