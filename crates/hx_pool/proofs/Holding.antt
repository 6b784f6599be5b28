-- What a thread's own entries say of a connection stands in the table, whatever other threads did.
use Rattle.std.proofs.Common.{◌≡◌, ◌≢◌, ℕ, eqb, Bool, true, false, cond, List, [], ◌∷◌, ◌++◌, refl, sym, ap, ◌∙◌, subst, arith, Option, Some, None, eq-eqb, ne_eqb}
use Rattle.std.proofs.lemmas.Bool.{eqb-true, eqb-false}
use Rattle.std.proofs.lemmas.List.{append_cancel_left}
use mathlib.Core.Logic.{dite}
use native.Mathlib.Decide.{ℕ_discrete}
use Rattle.hx_base.specs.declared.numbers.ThreadNo.{ThreadNo}
use Rattle.hx_base.specs.declared.numbers.SessionNo.{SessionNo}
use Rattle.hx_base.specs.declared.numbers.ConnId.{ConnId}
use Rattle.hx_base.specs.declared.what.What.{What}
use Rattle.hx_pool.specs.declared.entries.Entry.{Entry}
use Rattle.hx_pool.specs.declared.entries.Entry.TheVariants.{Open, Park, Take, Free, Close, Look, Up, Down, Count, Gate, SetGate, Round}
use Rattle.hx_pool.specs.declared.entries.Note.{Note}
use Rattle.hx_pool.specs.Table.{Table, HeldBy, IdleAt, Closed, face_of, Needs, after_entry, after, empty_table}
use Rattle.hx_pool.specs.History.{plain, thread_of, own_of, table_from, table_after, EachStep, MeetsNeeds, IsLegal}
use Rattle.hx_pool.specs.Held.{Hold, hold, hold_after, hold_from, Has}
use Rattle.hx_pool.specs.SeatView.{About, History, StandsInOneHistory, Makes}
use Rattle.hx_pool.specs.Opening.{Closes}
use Rattle.hx_pool.proofs.Histories.{table_from-append, EachStep-first, EachStep-second, own_of-append}
use Rattle.hx_pool.proofs.Tables.{put_same, put_other, Sound, sound_empty, sound_after, sound_along, closed_along}

-- the hold is that of the table
abbrev pub HoldsIn : Table → ThreadNo → ℕ → Option Hold → Type 0
HoldsIn T t i o = (h : Hold) → o ≡ Some h → (T.conns i ≡ HeldBy t h.session) × (T.uses i ≡ h.uses)

pub touched : (P : Option Hold → Type 0) (o new : Option Hold) (i k : ℕ) (b : Bool) → (k ≡ i → b ≡ true → P new) → (k ≡ i → b ≡ false → P o) → (k ≢ i → P o) → P (cond b (cond (eqb k i) new o) o)
touched P o new i k true own other apart = dite (ℕ_discrete k i) (λ e. subst P (sym (ap (λ c. cond c new o) (eq-eqb k i e))) (own e refl)) (λ ne. subst P (sym (ap (λ c. cond c new o) (ne_eqb k i ne))) (apart ne))
touched P o new i k false own other apart = dite (ℕ_discrete k i) (λ e. other e refl) (λ ne. apart ne)

pub untouched : (P : Option Hold → Type 0) (o : Option Hold) (b : Bool) → P o → P (cond b o o)
untouched P o true h = h
untouched P o false h = h

stays : (T S : Table) (t : ThreadNo) (i : ℕ) (o : Option Hold) → S.conns i ≡ T.conns i → S.uses i ≡ T.uses i → HoldsIn T t i o → HoldsIn S t i o
stays T S t i o c u h k e = (c ∙ (h k e).0, u ∙ (h k e).1)

session_in : SessionNo → Option Hold → SessionNo
session_in d None = d
session_in d (Some k) = k.session

uses_in : Option Hold → ℕ
uses_in None = 0
uses_in (Some k) = k.uses

session_is : (n : SessionNo) (u : ℕ) (k : Hold) → hold n u ≡ Some k → n ≡ k.session
unfolding session_in
session_is n u k e = ap (session_in n) e

uses_is : (n : SessionNo) (u : ℕ) (k : Hold) → hold n u ≡ Some k → u ≡ k.uses
unfolding uses_in
uses_is n u k e = ap uses_in e

pub same_thread : (u t : ThreadNo) → eqb u.0 t.0 ≡ true → u ≡ t
same_thread u t e = ap (λ (n : ℕ). let r : ThreadNo = record { 0 = n } in r) (eqb-true u.0 t.0 e)

pub holds_entry : (T : Table) (w : Option What) (e : Entry) (t : ThreadNo) (i : ℕ) (o : Option Hold) → Sound T → Needs T e → HoldsIn T t i o
    → HoldsIn (after_entry T w e) t i (cond (eqb (thread_of e).0 t.0) (hold_after i o e) o)
holds_entry T w (Open u n id) t i o s need h = let S : Table = after_entry T w (Open u n id) in touched (HoldsIn S t i) o (hold n 0) i id.0 (eqb u.0 t.0)
    (λ e own k is. let same = same_thread u t own in (put_same T.conns id.0 (HeldBy u n) i (sym e) ∙ (ap (λ (q : ThreadNo). HeldBy q n) same ∙ ap (HeldBy t) (session_is n 0 k is)), put_same T.uses id.0 0 i (sym e) ∙ uses_is n 0 k is))
    (λ e other k is. let c = (h k is).0 in let f = s.fresh i (omega arith) in cc)
    (λ ne. stays T S t i o (put_other T.conns id.0 (HeldBy u n) i (λ e. ne (sym e))) (put_other T.uses id.0 0 i (λ e. ne (sym e))) h)
holds_entry T w (Park u n id place uses) t i o s need h = let S : Table = after_entry T w (Park u n id place uses) in touched (HoldsIn S t i) o None i id.0 (eqb u.0 t.0)
    (λ e own k is. cc)
    (λ e other k is. let c = (h k is).0 in let m = need.held in let v = ap T.conns e in let x : u ≡ t = cc in absurd (eqb-false u.0 t.0 other (ap (λ (q : ThreadNo). q.0) x)))
    (λ ne. stays T S t i o (put_other T.conns id.0 (IdleAt place) i (λ e. ne (sym e))) (put_other T.uses id.0 uses i (λ e. ne (sym e))) h)
holds_entry T w (Take u n first place id uses) t i o s need h = let S : Table = after_entry T w (Take u n first place id uses) in let here = s.rests place (face_of id uses) need.0 need.1 in touched (HoldsIn S t i) o (hold n uses) i id.0 (eqb u.0 t.0)
    (λ e own k is. let same = same_thread u t own in (put_same T.conns id.0 (HeldBy u n) i (sym e) ∙ (ap (λ (q : ThreadNo). HeldBy q n) same ∙ ap (HeldBy t) (session_is n uses k is)), ap T.uses (sym e) ∙ (here.1 ∙ uses_is n uses k is)))
    (λ e other k is. let c = (h k is).0 in let m = here.0 in let v = ap T.conns e in cc)
    (λ ne. stays T S t i o (put_other T.conns id.0 (HeldBy u n) i (λ e. ne (sym e))) refl h)
holds_entry T w (Free u place) t i o s need h = untouched (HoldsIn T t i) o (eqb u.0 t.0) h
holds_entry T w (Close u n id) t i o s need h = let S : Table = after_entry T w (Close u n id) in touched (HoldsIn S t i) o None i id.0 (eqb u.0 t.0)
    (λ e own k is. cc)
    (λ e other k is. let c = (h k is).0 in let m = need in let v = ap T.conns e in let x : u ≡ t = cc in absurd (eqb-false u.0 t.0 other (ap (λ (q : ThreadNo). q.0) x)))
    (λ ne. stays T S t i o (put_other T.conns id.0 Closed i (λ e. ne (sym e))) refl h)
holds_entry T w (Look u place found) t i o s need h = untouched (HoldsIn T t i) o (eqb u.0 t.0) h
holds_entry T w (Up u old) t i o s need h = untouched (HoldsIn T t i) o (eqb u.0 t.0) h
holds_entry T w (Down u old) t i o s need h = untouched (HoldsIn T t i) o (eqb u.0 t.0) h
holds_entry T w (Count u c) t i o s need h = untouched (HoldsIn T t i) o (eqb u.0 t.0) h
holds_entry T w (Gate u draining) t i o s need h = untouched (HoldsIn T t i) o (eqb u.0 t.0) h
holds_entry T w (SetGate u draining) t i o s need h = untouched (HoldsIn T t i) o (eqb u.0 t.0) h
holds_entry T w (Round u k old) t i o s need h = untouched (HoldsIn T t i) o (eqb u.0 t.0) h

-- the hold over the own entries, one entry on
pub own_step : (t : ThreadNo) (i : ℕ) (o : Option Hold) (x : Note) (xs : List Note) → hold_from i o (own_of t (x ∷ xs)) ≡ hold_from i (cond (eqb (thread_of x.entry).0 t.0) (hold_after i o x.entry) o) (own_of t xs)
own_step t i o x xs = elim (eqb (thread_of x.entry).0 t.0) as (λ b. hold_from i o (cond b (x ∷ own_of t xs) (own_of t xs)) ≡ hold_from i (cond b (hold_after i o x.entry) o) (own_of t xs)) [ true ↦ refl | false ↦ refl ]

pub holds_along : (T : Table) (H : List Note) (t : ThreadNo) (i : ℕ) (o : Option Hold) → Sound T → EachStep MeetsNeeds T H → HoldsIn T t i o → HoldsIn (table_from T H) t i (hold_from i o (own_of t H))
holds_along T [] t i o s l h = h
holds_along T (x ∷ xs) t i o s l h =
    let next : Option Hold = cond (eqb (thread_of x.entry).0 t.0) (hold_after i o x.entry) o in
    subst (HoldsIn (table_from (after T x) xs) t i) (sym (own_step t i o x xs)) (holds_along (after T x) xs t i next (sound_after T x s l.0) l.1 (holds_entry T x.what x.entry t i o s l.0 h))

-- a session of the seat has a connection in the table where the seat's own entries say so
pub has_with : (h : History) (n : SessionNo) (i uses : ℕ) → StandsInOneHistory h → Has h.mine n i uses
    → ((table_after h.seen).conns i ≡ HeldBy h.about.thread n) × ((table_after h.seen).uses i ≡ uses)
has_with h n i uses one has =
    holds_along empty_table h.seen h.about.thread i None sound_empty one.legal (λ k e. cc) (record { session = n; uses = uses }) (ap (hold_from i None) one.own_part ∙ has)

-- where a thread's own entries of a list begin with y, the list is cut at y
pub split_own : (t : ThreadNo) (xs : List Note) (y : Note) (zs : List Note) → own_of t xs ≡ y ∷ zs → (before : List Note) × (behind : List Note) × (xs ≡ before ++ y ∷ behind) × (own_of t behind ≡ zs)
split_own t [] y zs e = cc
split_own t (x ∷ xs) y zs e =
    let P : Bool → Type 0 = λ b. cond b (x ∷ own_of t xs) (own_of t xs) ≡ y ∷ zs → (before : List Note) × (behind : List Note) × (x ∷ xs ≡ before ++ y ∷ behind) × (own_of t behind ≡ zs) in
    let go : (b : Bool) → P b = λ b. elim b as P [
      | true ↦ λ q. ([], xs, cc, cc)
      | false ↦ λ q. let r = split_own t xs y zs q in (x ∷ r.0, r.1, ap (λ l. x ∷ l) r.2, r.3)
    ] in
    go (eqb (thread_of x.entry).0 t.0) e

-- the seat's own part of what it has observed since a call began is what the call added
pub gained : (old new : History) (added : List Note) (m : Makes old new added) → own_of old.about.thread m.seen.0 ≡ added
gained old new added m =
    let t = old.about.thread in
    let whole : own_of t new.seen ≡ old.mine ++ added = ap (λ (a : About). own_of a.thread new.seen) (sym m.about) ∙ (m.one.own_part ∙ m.mine) in
    append_cancel_left old.mine (own_of t m.seen.0) added (ap (λ l. l ++ own_of t m.seen.0) (sym m.was.own_part) ∙ (sym (own_of-append t old.seen m.seen.0) ∙ (ap (own_of t) (sym m.seen.1) ∙ whole)))

-- after a close the connection is closed
pub closed_at_exit : (old new : History) (n : SessionNo) (id : ConnId) → Closes old new n id → (table_after new.seen).conns id.0 ≡ Closed
closed_at_exit old new n id call =
    let m = call.makes in
    let t = old.about.thread in
    let x : Note = plain (Close t n id) in
    let cut = split_own t m.seen.0 x [] (gained old new (x ∷ []) m) in
    let T : Table = table_from (table_after old.seen) cut.0 in
    let legal : EachStep MeetsNeeds (table_after old.seen) (cut.0 ++ x ∷ cut.1) = subst (EachStep MeetsNeeds (table_after old.seen)) cut.2 (EachStep-second MeetsNeeds empty_table old.seen m.seen.0 (subst IsLegal m.seen.1 m.one.legal)) in
    let start = sound_along empty_table old.seen sound_empty m.was.legal in
    let here = sound_along (table_after old.seen) cut.0 start (EachStep-first MeetsNeeds (table_after old.seen) cut.0 (x ∷ cut.1) legal) in
    let rest = EachStep-second MeetsNeeds (table_after old.seen) cut.0 (x ∷ cut.1) legal in
    let done = closed_along (after T x) cut.1 id.0 (sound_after T x here rest.0) rest.1 (put_same T.conns id.0 Closed id.0 refl) in
    let e : table_after new.seen ≡ table_from (after T x) cut.1 = ap table_after m.seen.1 ∙ (table_from-append empty_table old.seen m.seen.0 ∙ (ap (table_from (table_after old.seen)) cut.2 ∙ table_from-append (table_after old.seen) cut.0 (x ∷ cut.1))) in
    ap (λ (S : Table). S.conns id.0) e ∙ done
