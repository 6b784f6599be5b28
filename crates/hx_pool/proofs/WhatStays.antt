-- What stood beside a connection that a session holds stays so until the session parks it.
use Rattle.std.proofs.Common.{◌≡◌, ◌⊎◌, eqb, Bool, true, false, cond, List, [], ◌∷◌, ◌++◌, refl, sym, ap, ◌∙◌, subst, arith, Some, inl, inr, eq-eqb, append_assoc}
use Rattle.std.specs.Prelude.{Option}
use mathlib.Core.Logic.{dite}
use native.Mathlib.Decide.{ℕ_discrete}
use Rattle.hx_base.specs.declared.numbers.ThreadNo.{ThreadNo}
use Rattle.hx_base.specs.declared.numbers.SessionNo.{SessionNo}
use Rattle.hx_base.specs.declared.numbers.ConnId.{ConnId}
use Rattle.hx_base.specs.declared.numbers.PlaceNo.{PlaceNo}
use Rattle.hx_base.specs.declared.what.What.{What}
use Rattle.hx_base.specs.Shown.{Shown}
use Rattle.hx_pool.specs.declared.entries.Entry.{Entry}
use Rattle.hx_pool.specs.declared.entries.Entry.TheVariants.{Open, Park, Take, Free, Close, Look, Up, Down, Count, Gate, SetGate, Round}
use Rattle.hx_pool.specs.declared.entries.Note.{Note}
use Rattle.hx_pool.specs.Table.{Table, HeldBy, IdleAt, Closed, face_of, Needs, after_entry, after, empty_table}
use Rattle.hx_pool.specs.History.{thread_of, own_of, table_from, table_after, what_of, EachStep, MeetsNeeds, IsLegal}
use Rattle.hx_pool.specs.Held.{ParksOther, AllParkOther}
use Rattle.hx_pool.specs.SeatView.{History, Makes}
use Rattle.hx_pool.specs.Opening.{HasConn}
use Rattle.hx_pool.specs.Taking.{taken, taking, Takes}
use Rattle.hx_pool.proofs.Histories.{table_from-append, EachStep-first, EachStep-second, own_of-append}
use Rattle.hx_pool.proofs.Holding.{gained, has_with}
use Rattle.hx_pool.proofs.Tables.{put_same, put_other, Sound, sound_at, sound_after}

-- a session of the thread holds the connection, or it is closed
abbrev IsKept : Table → ThreadNo → ConnId → Type 0
IsKept T t id = ((n : SessionNo) × (T.conns id.0 ≡ HeldBy t n)) ⊎ (T.conns id.0 ≡ Closed)

-- the same afterwards, and the same stands beside it
abbrev Keeps : Table → Table → ThreadNo → ConnId → Type 0
Keeps T S t id = IsKept S t id × (S.whats id.0 ≡ T.whats id.0)

-- nothing of it changes
same : (T S : Table) (t : ThreadNo) (id : ConnId) → S.conns id.0 ≡ T.conns id.0 → S.whats id.0 ≡ T.whats id.0 → IsKept T t id → Keeps T S t id
same T S t id c w (inl (n, is)) = (inl (n, c ∙ is), w)
same T S t id c w (inr is) = (inr (c ∙ is), w)

keeps_entry : (T : Table) (w : Option What) (e : Entry) (t : ThreadNo) (id : ConnId) → Sound T → Needs T e → (eqb (thread_of e).0 t.0 ≡ true → ParksOther id e) → IsKept T t id
    → Keeps T (after_entry T w e) t id
keeps_entry T w (Open u n i) t id s need p k =
    same T (after_entry T w (Open u n i)) t id (put_other T.conns i.0 (HeldBy u n) id.0 (λ e. unopened k (s.fresh id.0 (omega arith)))) refl k
  where
    unopened : IsKept T t id → T.conns id.0 ≡ Rattle.hx_pool.specs.Table.Unopened → ⊥
    unopened (inl (n, is)) none = cc
    unopened (inr is) none = cc
keeps_entry T w (Park u n i place uses) t id s need p k = dite (ℕ_discrete i.0 id.0)
    (λ e. absurd (held k (sym (ap T.conns e) ∙ need.held) e))
    (λ ne. same T (after_entry T w (Park u n i place uses)) t id (put_other T.conns i.0 (IdleAt place) id.0 (λ e. ne (sym e))) (put_other T.whats i.0 w id.0 (λ e. ne (sym e))) k)
  where
    held : IsKept T t id → T.conns id.0 ≡ HeldBy u n → i.0 ≡ id.0 → ⊥
    held (inl (m, is)) by e = let own : u ≡ t = cc in p (eq-eqb u.0 t.0 (ap (λ (q : ThreadNo). q.0) own)) e
    held (inr is) by e = cc
keeps_entry T w (Take u n first place i uses) t id s need p k =
    same T (after_entry T w (Take u n first place i uses)) t id (put_other T.conns i.0 (HeldBy u n) id.0 (λ e. resting k (ap T.conns e ∙ (s.rests place (face_of i uses) need.0 need.1).0))) refl k
  where
    resting : IsKept T t id → T.conns id.0 ≡ IdleAt place → ⊥
    resting (inl (m, is)) at = cc
    resting (inr is) at = cc
keeps_entry T w (Close u n i) t id s need p k = dite (ℕ_discrete i.0 id.0)
    (λ e. (inr (put_same T.conns i.0 Closed id.0 (sym e)), refl))
    (λ ne. same T (after_entry T w (Close u n i)) t id (put_other T.conns i.0 Closed id.0 (λ e. ne (sym e))) refl k)
keeps_entry T w (Free u place) t id s need p k = (k, refl)
keeps_entry T w (Look u place found) t id s need p k = (k, refl)
keeps_entry T w (Up u old) t id s need p k = (k, refl)
keeps_entry T w (Down u old) t id s need p k = (k, refl)
keeps_entry T w (Count u c) t id s need p k = (k, refl)
keeps_entry T w (Gate u draining) t id s need p k = (k, refl)
keeps_entry T w (SetGate u draining) t id s need p k = (k, refl)
keeps_entry T w (Round u r old) t id s need p k = (k, refl)

what_along : (T : Table) (xs : List Note) (t : ThreadNo) (id : ConnId) → Sound T → EachStep MeetsNeeds T xs → AllParkOther id (own_of t xs) → IsKept T t id → (table_from T xs).whats id.0 ≡ T.whats id.0
what_along T [] t id s l p k = refl
what_along T (x ∷ xs) t id s l p k =
    let P : Bool → Type 0 = λ b. AllParkOther id (cond b (x ∷ own_of t xs) (own_of t xs)) → (b ≡ true → ParksOther id x.entry) × AllParkOther id (own_of t xs) in
    let go : (b : Bool) → P b = λ b. elim b as P [
      | true ↦ λ q. (λ e. q.0, q.1)
      | false ↦ λ q. (λ e. cc, q)
    ] in
    let both = go (eqb (thread_of x.entry).0 t.0) p in
    let next = keeps_entry T x.what x.entry t id s l.0 both.0 k in
    what_along (after T x) xs t id (sound_after T x s l.0) l.1 both.1 next.0 ∙ next.1

-- what stood beside a connection of a session stands there after a call that doesn't park it
pub what_stays : (old new : History) (n : SessionNo) (id : ConnId) (es : List Note) → Makes old new es → HasConn old n id → AllParkOther id es → what_of new.seen id.0 ≡ what_of old.seen id.0
what_stays old new n id es m has apart =
    let t = old.about.thread in
    let T = table_after old.seen in
    let is = has_with old n id.0 has.0 m.was has.1 in
    let legal : EachStep MeetsNeeds T m.seen.0 = EachStep-second MeetsNeeds empty_table old.seen m.seen.0 (subst IsLegal m.seen.1 m.one.legal) in
    ap (λ (H : List Note). what_of H id.0) m.seen.1
    ∙ (ap (λ (S : Table). S.whats id.0) (table_from-append empty_table old.seen m.seen.0)
    ∙ what_along T m.seen.0 t id (sound_at old.seen m.was.legal) legal (subst (AllParkOther id) (sym (gained old new es m)) apart) (inl (n, is.0)))

park_other_second : (id : ConnId) (xs ys : List Note) → AllParkOther id (xs ++ ys) → AllParkOther id ys
park_other_second id [] ys p = p
park_other_second id (x ∷ xs) ys p = park_other_second id xs ys p.1

pub park_other_both : (id : ConnId) (xs ys : List Note) → AllParkOther id xs → AllParkOther id ys → AllParkOther id (xs ++ ys)
park_other_both id [] ys p q = q
park_other_both id (x ∷ xs) ys p q = (p.0, park_other_both id xs ys p.1 q)

-- at the end of the call that took it, a connection has beside it what the taken value tells
pub taken_what : (old new : History) (lead : List Note) (n : SessionNo) (first : Bool) (place : PlaceNo) (v : Shown) (k : Takes old new lead n first place v)
    → AllParkOther v.face.id (lead ++ (k.looks ++ taking old.about.thread n first place v.face k.count)) → what_of new.seen v.face.id.0 ≡ Some v.what
taken_what old new lead n first place v k apart =
    let t = old.about.thread in
    let id = v.face.id in
    let m = k.makes in
    let x : Note = taken t n first place v.face in
    let H : List Note = old.seen ++ k.between in
    let T : Table = table_after H in
    let whole : EachStep MeetsNeeds empty_table (H ++ x ∷ k.behind) = subst IsLegal k.seen m.one.legal in
    let steps : EachStep MeetsNeeds T (x ∷ k.behind) = EachStep-second MeetsNeeds empty_table H (x ∷ k.behind) whole in
    let sound = sound_at H (EachStep-first MeetsNeeds empty_table H (x ∷ k.behind) whole) in
    let cut : m.seen.0 ≡ k.between ++ x ∷ k.behind = Rattle.std.proofs.lemmas.List.append_cancel_left old.seen m.seen.0 (k.between ++ x ∷ k.behind) (sym m.seen.1 ∙ (k.seen ∙ append_assoc old.seen k.between (x ∷ k.behind))) in
    let own : own_of t k.between ++ own_of t (x ∷ k.behind) ≡ lead ++ (k.looks ++ taking t n first place v.face k.count) = sym (own_of-append t k.between (x ∷ k.behind)) ∙ (ap (own_of t) (sym cut) ∙ gained old new (lead ++ (k.looks ++ taking t n first place v.face k.count)) m) in
    let mine : own_of t (x ∷ k.behind) ≡ x ∷ own_of t k.behind = ap (λ (b : Bool). cond b (x ∷ own_of t k.behind) (own_of t k.behind)) (eq-eqb t.0 t.0 refl) in
    let rest : AllParkOther id (x ∷ own_of t k.behind) = subst (AllParkOther id) mine (park_other_second id (own_of t k.between) (own_of t (x ∷ k.behind)) (subst (AllParkOther id) (sym own) apart)) in
    ap (λ (G : List Note). what_of G id.0) k.seen
    ∙ (ap (λ (S : Table). S.whats id.0) (table_from-append empty_table H (x ∷ k.behind))
    ∙ (what_along (after T x) k.behind t id (sound_after T x sound steps.0) steps.1 rest.1 (inl (n, put_same T.conns id.0 (HeldBy t n) id.0 refl)) ∙ k.what))
