-- A session has just what the table says that it holds, and the list of what it holds says so too.
use Rattle.std.proofs.Common.{◌≡◌, ◌≢◌, ℕ, eqb, Bool, true, false, cond, List, [], ◌∷◌, ◌++◌, refl, sym, ap, ◌∙◌, subst, arith, Option, Some, None}
use Rattle.std.proofs.lemmas.Bool.{eqb-true, eqb-false}
use Rattle.hx_base.specs.declared.numbers.ThreadNo.{ThreadNo}
use Rattle.hx_base.specs.declared.numbers.SessionNo.{SessionNo}
use Rattle.hx_base.specs.declared.numbers.ConnId.{ConnId}
use Rattle.hx_base.specs.declared.numbers.Face.{Face}
use Rattle.hx_base.specs.declared.what.What.{What}
use Rattle.hx_pool.specs.declared.entries.Entry.{Entry}
use Rattle.hx_pool.specs.declared.entries.Entry.TheVariants.{Open, Park, Take, Free, Close, Look, Up, Down, Count, Gate, SetGate, Round}
use Rattle.hx_pool.specs.declared.entries.Note.{Note}
use Rattle.hx_pool.specs.Table.{Table, Conn, HeldBy, IdleAt, Closed, face_of, Needs, after_entry, after, empty_table}
use Rattle.hx_pool.specs.History.{thread_of, own_of, table_from, table_after, EachStep, MeetsNeeds}
use Rattle.hx_pool.specs.Held.{Hold, hold, hold_after, hold_from, Has, without, held_after, held_from, held_by, HoldsJust}
use Rattle.hx_pool.specs.SeatView.{History, StandsInOneHistory}
use Rattle.hx_pool.proofs.Tables.{put_same, put_other, Sound, sound_empty, sound_after}
use Rattle.hx_pool.proofs.Holding.{touched, untouched, same_thread, own_step}

-- where the table says that a session of the thread holds the connection, the hold says so
abbrev pub TellsHold : Table → ThreadNo → ℕ → Option Hold → Type 0
TellsHold T t i o = (n : SessionNo) → T.conns i ≡ HeldBy t n → o ≡ hold n (T.uses i)

thread_in : ThreadNo → Conn → ThreadNo
thread_in d (HeldBy t n) = t
thread_in d _ = d

session_in : SessionNo → Conn → SessionNo
session_in d (HeldBy t n) = n
session_in d _ = d

thread_is : (t u : ThreadNo) (n m : SessionNo) → HeldBy t n ≡ HeldBy u m → t ≡ u
unfolding thread_in
thread_is t u n m e = ap (thread_in t) e

session_is : (t u : ThreadNo) (n m : SessionNo) → HeldBy t n ≡ HeldBy u m → n ≡ m
unfolding session_in
session_is t u n m e = ap (session_in n) e

still : (T S : Table) (t : ThreadNo) (i : ℕ) (o : Option Hold) → S.conns i ≡ T.conns i → S.uses i ≡ T.uses i → TellsHold T t i o → TellsHold S t i o
still T S t i o c u h n e = h n (sym c ∙ e) ∙ ap (hold n) (sym u)

owns_entry : (T : Table) (w : Option What) (e : Entry) (t : ThreadNo) (i : ℕ) (o : Option Hold) → Sound T → Needs T e → TellsHold T t i o
    → TellsHold (after_entry T w e) t i (cond (eqb (thread_of e).0 t.0) (hold_after i o e) o)
owns_entry T w (Open u n id) t i o s need h = let S : Table = after_entry T w (Open u n id) in touched (TellsHold S t i) o (hold n 0) i id.0 (eqb u.0 t.0)
    (λ e own m is. let same : HeldBy u n ≡ HeldBy t m = sym (put_same T.conns id.0 (HeldBy u n) i (sym e)) ∙ is in
    ap (λ (q : SessionNo). hold q 0) (session_is u t n m same) ∙ ap (hold m) (sym (put_same T.uses id.0 0 i (sym e))))
    (λ e other m is. let same : HeldBy u n ≡ HeldBy t m = sym (put_same T.conns id.0 (HeldBy u n) i (sym e)) ∙ is in
    absurd (eqb-false u.0 t.0 other (ap (λ (q : ThreadNo). q.0) (thread_is u t n m same))))
    (λ ne. still T S t i o (put_other T.conns id.0 (HeldBy u n) i (λ e. ne (sym e))) (put_other T.uses id.0 0 i (λ e. ne (sym e))) h)
owns_entry T w (Park u n id place uses) t i o s need h = let S : Table = after_entry T w (Park u n id place uses) in touched (TellsHold S t i) o None i id.0 (eqb u.0 t.0)
    (λ e own m is. let same : IdleAt place ≡ HeldBy t m = sym (put_same T.conns id.0 (IdleAt place) i (sym e)) ∙ is in cc)
    (λ e other m is. let same : IdleAt place ≡ HeldBy t m = sym (put_same T.conns id.0 (IdleAt place) i (sym e)) ∙ is in cc)
    (λ ne. still T S t i o (put_other T.conns id.0 (IdleAt place) i (λ e. ne (sym e))) (put_other T.uses id.0 uses i (λ e. ne (sym e))) h)
owns_entry T w (Take u n first place id uses) t i o s need h = let S : Table = after_entry T w (Take u n first place id uses) in let here = s.rests place (face_of id uses) need.0 need.1 in touched (TellsHold S t i) o (hold n uses) i id.0 (eqb u.0 t.0)
    (λ e own m is. let same : HeldBy u n ≡ HeldBy t m = sym (put_same T.conns id.0 (HeldBy u n) i (sym e)) ∙ is in
    ap (λ (q : SessionNo). hold q uses) (session_is u t n m same) ∙ ap (hold m) (sym here.1 ∙ ap T.uses e))
    (λ e other m is. let same : HeldBy u n ≡ HeldBy t m = sym (put_same T.conns id.0 (HeldBy u n) i (sym e)) ∙ is in
    absurd (eqb-false u.0 t.0 other (ap (λ (q : ThreadNo). q.0) (thread_is u t n m same))))
    (λ ne. still T S t i o (put_other T.conns id.0 (HeldBy u n) i (λ e. ne (sym e))) refl h)
owns_entry T w (Free u place) t i o s need h = untouched (TellsHold T t i) o (eqb u.0 t.0) h
owns_entry T w (Close u n id) t i o s need h = let S : Table = after_entry T w (Close u n id) in touched (TellsHold S t i) o None i id.0 (eqb u.0 t.0)
    (λ e own m is. let same : Closed ≡ HeldBy t m = sym (put_same T.conns id.0 Closed i (sym e)) ∙ is in cc)
    (λ e other m is. let same : Closed ≡ HeldBy t m = sym (put_same T.conns id.0 Closed i (sym e)) ∙ is in cc)
    (λ ne. still T S t i o (put_other T.conns id.0 Closed i (λ e. ne (sym e))) refl h)
owns_entry T w (Look u place found) t i o s need h = untouched (TellsHold T t i) o (eqb u.0 t.0) h
owns_entry T w (Up u old) t i o s need h = untouched (TellsHold T t i) o (eqb u.0 t.0) h
owns_entry T w (Down u old) t i o s need h = untouched (TellsHold T t i) o (eqb u.0 t.0) h
owns_entry T w (Count u c) t i o s need h = untouched (TellsHold T t i) o (eqb u.0 t.0) h
owns_entry T w (Gate u draining) t i o s need h = untouched (TellsHold T t i) o (eqb u.0 t.0) h
owns_entry T w (SetGate u draining) t i o s need h = untouched (TellsHold T t i) o (eqb u.0 t.0) h
owns_entry T w (Round u k old) t i o s need h = untouched (TellsHold T t i) o (eqb u.0 t.0) h

owns_along : (T : Table) (H : List Note) (t : ThreadNo) (i : ℕ) (o : Option Hold) → Sound T → EachStep MeetsNeeds T H → TellsHold T t i o → TellsHold (table_from T H) t i (hold_from i o (own_of t H))
owns_along T [] t i o s l h = h
owns_along T (x ∷ xs) t i o s l h =
    let next : Option Hold = cond (eqb (thread_of x.entry).0 t.0) (hold_after i o x.entry) o in
    subst (TellsHold (table_from (after T x) xs) t i) (sym (own_step t i o x xs)) (owns_along (after T x) xs t i next (sound_after T x s l.0) l.1 (owns_entry T x.what x.entry t i o s l.0 h))

-- what the table says that a session of the seat holds, it has by the seat's own entries
pub with_has : (h : History) (n : SessionNo) (i : ℕ) → StandsInOneHistory h → (table_after h.seen).conns i ≡ HeldBy h.about.thread n → Has h.mine n i ((table_after h.seen).uses i)
with_has h n i one is = ap (hold_from i None) (sym one.own_part) ∙ owns_along empty_table h.seen h.about.thread i None sound_empty one.legal (λ m e. cc) n is

-- each of these faces is that of a connection which the session holds
abbrev pub AreHeld : Table → ThreadNo → SessionNo → List Face → Type 0
AreHeld T t n [] = Unit {0}
AreHeld T t n (f ∷ fs) = ((T.conns f.id.0 ≡ HeldBy t n) × (T.uses f.id.0 ≡ f.uses)) × AreHeld T t n fs

-- the tables agree but for one connection
abbrev SameBut : Table → Table → ℕ → Type 0
SameBut T S k = (i : ℕ) → i ≢ k → (S.conns i ≡ T.conns i) × (S.uses i ≡ T.uses i)

far : (T S : Table) (k : ℕ) (t : ThreadNo) (n : SessionNo) (fs : List Face) → SameBut T S k → T.conns k ≢ HeldBy t n → AreHeld T t n fs → AreHeld S t n fs
far T S k t n [] same other a = tt
far T S k t n (f ∷ fs) same other a =
    let ne : f.id.0 ≢ k = λ e. other (ap T.conns (sym e) ∙ a.0.0) in let s = same f.id.0 ne in
    ((s.0 ∙ a.0.0, s.1 ∙ a.0.1), far T S k t n fs same other a.1)

left_out : (T S : Table) (id : ConnId) (t : ThreadNo) (n : SessionNo) (fs : List Face) → SameBut T S id.0 → AreHeld T t n fs → AreHeld S t n (without id fs)
left_out T S id t n [] same a = tt
left_out T S id t n (f ∷ fs) same a =
    let rest = left_out T S id t n fs same a.1 in
    let go : (b : Bool) → eqb f.id.0 id.0 ≡ b → AreHeld S t n (cond b (without id fs) (f ∷ without id fs)) = λ b. elim b as (λ b. eqb f.id.0 id.0 ≡ b → AreHeld S t n (cond b (without id fs) (f ∷ without id fs))) [
      | true ↦ λ e. rest
      | false ↦ λ e. let s = same f.id.0 (eqb-false f.id.0 id.0 e) in ((s.0 ∙ a.0.0, s.1 ∙ a.0.1), rest)
    ] in go (eqb f.id.0 id.0) refl

with_one : (T : Table) (t : ThreadNo) (n : SessionNo) (fs : List Face) (f : Face) → AreHeld T t n fs → (T.conns f.id.0 ≡ HeldBy t n) → (T.uses f.id.0 ≡ f.uses) → AreHeld T t n (fs ++ f ∷ [])
with_one T t n [] f a c u = ((c, u), tt)
with_one T t n (g ∷ fs) f a c u = (a.0, with_one T t n fs f a.1 c u)

chosen : (P : List Face → Type 0) (b c : Bool) (new fs : List Face) → (b ≡ true → c ≡ true → P new) → (b ≡ true → c ≡ false → P fs) → (b ≡ false → P fs) → P (cond b (cond c new fs) fs)
chosen P true true new fs p q r = p refl refl
chosen P true false new fs p q r = q refl refl
chosen P false c new fs p q r = r refl

unchosen : (P : List Face → Type 0) (b : Bool) (fs : List Face) → P fs → P (cond b fs fs)
unchosen P true fs p = p
unchosen P false fs p = p

same_session : (m n : SessionNo) → eqb m.0 n.0 ≡ true → m ≡ n
same_session m n e = ap (λ (k : ℕ). let r : SessionNo = record { 0 = k } in r) (eqb-true m.0 n.0 e)

held_entry : (T : Table) (w : Option What) (e : Entry) (t : ThreadNo) (n : SessionNo) (fs : List Face) → Sound T → Needs T e → AreHeld T t n fs
    → AreHeld (after_entry T w e) t n (cond (eqb (thread_of e).0 t.0) (held_after n fs e) fs)
held_entry T w (Open u m id) t n fs s need a =
    let S : Table = after_entry T w (Open u m id) in
    let rest : AreHeld S t n fs = far T S id.0 t n fs (λ i ne. (put_other T.conns id.0 (HeldBy u m) i ne, put_other T.uses id.0 0 i ne)) (λ e. let f = s.fresh id.0 (omega arith) in cc) a in
    chosen (AreHeld S t n) (eqb u.0 t.0) (eqb m.0 n.0) (fs ++ face_of id 0 ∷ []) fs
    (λ own mine. with_one S t n fs (face_of id 0) rest
    (put_same T.conns id.0 (HeldBy u m) id.0 refl ∙ (ap (λ (q : ThreadNo). HeldBy q m) (same_thread u t own) ∙ ap (HeldBy t) (same_session m n mine)))
    (put_same T.uses id.0 0 id.0 refl))
    (λ own mine. rest) (λ own. rest)
held_entry T w (Park u m id place uses) t n fs s need a =
    let S : Table = after_entry T w (Park u m id place uses) in
    let same : SameBut T S id.0 = λ i ne. (put_other T.conns id.0 (IdleAt place) i ne, put_other T.uses id.0 uses i ne) in
    chosen (AreHeld S t n) (eqb u.0 t.0) (eqb m.0 n.0) (without id fs) fs
    (λ own mine. left_out T S id t n fs same a)
    (λ own mine. far T S id.0 t n fs same (λ e. eqb-false m.0 n.0 mine (ap (λ (q : SessionNo). q.0) (session_is u t m n (sym need.held ∙ e)))) a)
    (λ own. far T S id.0 t n fs same (λ e. eqb-false u.0 t.0 own (ap (λ (q : ThreadNo). q.0) (thread_is u t m n (sym need.held ∙ e)))) a)
held_entry T w (Take u m first place id uses) t n fs s need a =
    let S : Table = after_entry T w (Take u m first place id uses) in
    let here = s.rests place (face_of id uses) need.0 need.1 in
    let rest : AreHeld S t n fs = far T S id.0 t n fs (λ i ne. (put_other T.conns id.0 (HeldBy u m) i ne, refl)) (λ e. let f = here.0 in cc) a in
    chosen (AreHeld S t n) (eqb u.0 t.0) (eqb m.0 n.0) (fs ++ face_of id uses ∷ []) fs
    (λ own mine. with_one S t n fs (face_of id uses) rest
    (put_same T.conns id.0 (HeldBy u m) id.0 refl ∙ (ap (λ (q : ThreadNo). HeldBy q m) (same_thread u t own) ∙ ap (HeldBy t) (same_session m n mine)))
    here.1)
    (λ own mine. rest) (λ own. rest)
held_entry T w (Free u place) t n fs s need a = unchosen (AreHeld T t n) (eqb u.0 t.0) fs a
held_entry T w (Close u m id) t n fs s need a =
    let S : Table = after_entry T w (Close u m id) in
    let same : SameBut T S id.0 = λ i ne. (put_other T.conns id.0 Closed i ne, refl) in
    chosen (AreHeld S t n) (eqb u.0 t.0) (eqb m.0 n.0) (without id fs) fs
    (λ own mine. left_out T S id t n fs same a)
    (λ own mine. far T S id.0 t n fs same (λ e. eqb-false m.0 n.0 mine (ap (λ (q : SessionNo). q.0) (session_is u t m n (sym need ∙ e)))) a)
    (λ own. far T S id.0 t n fs same (λ e. eqb-false u.0 t.0 own (ap (λ (q : ThreadNo). q.0) (thread_is u t m n (sym need ∙ e)))) a)
held_entry T w (Look u place found) t n fs s need a = unchosen (AreHeld T t n) (eqb u.0 t.0) fs a
held_entry T w (Up u old) t n fs s need a = unchosen (AreHeld T t n) (eqb u.0 t.0) fs a
held_entry T w (Down u old) t n fs s need a = unchosen (AreHeld T t n) (eqb u.0 t.0) fs a
held_entry T w (Count u c) t n fs s need a = unchosen (AreHeld T t n) (eqb u.0 t.0) fs a
held_entry T w (Gate u draining) t n fs s need a = unchosen (AreHeld T t n) (eqb u.0 t.0) fs a
held_entry T w (SetGate u draining) t n fs s need a = unchosen (AreHeld T t n) (eqb u.0 t.0) fs a
held_entry T w (Round u k old) t n fs s need a = unchosen (AreHeld T t n) (eqb u.0 t.0) fs a

held_step : (t : ThreadNo) (n : SessionNo) (fs : List Face) (x : Note) (xs : List Note) → held_from n fs (own_of t (x ∷ xs)) ≡ held_from n (cond (eqb (thread_of x.entry).0 t.0) (held_after n fs x.entry) fs) (own_of t xs)
held_step t n fs x xs = elim (eqb (thread_of x.entry).0 t.0) as (λ b. held_from n fs (cond b (x ∷ own_of t xs) (own_of t xs)) ≡ held_from n (cond b (held_after n fs x.entry) fs) (own_of t xs)) [ true ↦ refl | false ↦ refl ]

held_along : (T : Table) (H : List Note) (t : ThreadNo) (n : SessionNo) (fs : List Face) → Sound T → EachStep MeetsNeeds T H → AreHeld T t n fs → AreHeld (table_from T H) t n (held_from n fs (own_of t H))
held_along T [] t n fs s l a = a
held_along T (x ∷ xs) t n fs s l a =
    let next : List Face = cond (eqb (thread_of x.entry).0 t.0) (held_after n fs x.entry) fs in
    subst (AreHeld (table_from (after T x) xs) t n) (sym (held_step t n fs x xs)) (held_along (after T x) xs t n next (sound_after T x s l.0) l.1 (held_entry T x.what x.entry t n fs s l.0 a))

-- what the list of a session's connections names is with it in the table
pub held_with : (h : History) (n : SessionNo) → StandsInOneHistory h → AreHeld (table_after h.seen) h.about.thread n (held_by h.mine n)
held_with h n one = subst (λ l. AreHeld (table_after h.seen) h.about.thread n (held_from n [] l)) one.own_part (held_along empty_table h.seen h.about.thread n [] sound_empty one.legal tt)

-- a session that holds just one connection has it, so that it may park or close it
pub just_has : (h : History) (n : SessionNo) (f : Face) → StandsInOneHistory h → HoldsJust h.mine n (Some f) → Has h.mine n f.id.0 f.uses
just_has h n f one just =
    let a : AreHeld (table_after h.seen) h.about.thread n (f ∷ []) = subst (AreHeld (table_after h.seen) h.about.thread n) just (held_with h n one) in
    subst (Has h.mine n f.id.0) a.0.1 (with_has h n f.id.0 one a.0.0)
