-- A connection that a step opened was wanted.
use Rattle.std.proofs.Common.{◌≡◌, ◌⊎◌, ℕ, ◌<◌, ◌≤◌, eqb, Bool, true, false, cond, List, [], ◌∷◌, ◌++◌, refl, sym, ap, subst, ◌∙◌, inl, inr, append_assoc, Ok, eq-eqb}
use Rattle.std.proofs.lemmas.List.{append-nil, append_cancel_right}
use Rattle.hx_base.specs.declared.numbers.ThreadNo.{ThreadNo}
use Rattle.hx_base.specs.declared.numbers.SessionNo.{SessionNo}
use Rattle.hx_base.specs.declared.numbers.ConnId.{ConnId}
use Rattle.hx_pool.specs.declared.entries.Found.{Found}
use Rattle.hx_pool.specs.declared.entries.Entry.{Entry}
use Rattle.hx_pool.specs.declared.entries.Entry.TheVariants.{Open, Park, Take, Free, Close, Look, Up, Down, Count, Gate, SetGate, Round}
use Rattle.hx_pool.specs.declared.entries.Note.{Note}
use Rattle.hx_pool.specs.declared.refusals.NoneOver.TheVariants.{NotAllowed, BelowLow, NoneSeen}
use Rattle.hx_pool.specs.Table.{empty_table}
use Rattle.hx_pool.specs.History.{plain, thread_of, own_of, EachStep, MeetsNeeds, IsLegal}
use Rattle.hx_pool.specs.SeatView.{About, History, Makes}
use Rattle.hx_pool.specs.Rules.{allows}
use Rattle.hx_base.specs.declared.numbers.PlaceNo.{PlaceNo}
use Rattle.hx_pool.specs.declared.entries.Found.TheVariants.{Resting}
use Rattle.hx_pool.specs.Causes.{AllLooks, Among, IsUnavailableTo, place_of}
use Rattle.hx_pool.specs.Opening.{Opens}
use Rattle.hx_pool.specs.Taking.{TakesNoneOwn, NoneRestsIn}
use Rattle.hx_pool.specs.Takeover.{AllowsNone, AllowsSome, OthersUnavailable, counted}
use Rattle.hx_pool.specs.Wants.{ShowsFew, ShowsEnough}
use Rattle.hx_pool.proofs.Histories.{own_of-append, EachStep-second, EachStep-first}
use Rattle.hx_pool.proofs.Holding.{split_own, gained}
use Rattle.hx_pool.proofs.Calls.{makes_both}
use Rattle.hx_pool.proofs.Purges.{among_right}
use Rattle.hx_pool.proofs.Rows.{ParksElsewhere, AllElsewhere, none_stays}
use Rattle.hx_connecting.specs.Connecting.{FindsNone}
use Rattle.hx_connecting.specs.Wanted.{OpensWanted}

-- no entry is a Park
abbrev pub IsNoPark : Entry → Type 0
IsNoPark (Park t n id place uses) = ⊥
IsNoPark _ = Unit {0}

abbrev pub ParksNone : List Note → Type 0
ParksNone [] = Unit {0}
ParksNone (x ∷ xs) = IsNoPark x.entry × ParksNone xs

pub parks_none_both : (xs ys : List Note) → ParksNone xs → ParksNone ys → ParksNone (xs ++ ys)
parks_none_both [] ys p q = q
parks_none_both (x ∷ xs) ys p q = (p.0, parks_none_both xs ys p.1 q)

pub looks_park_none : (t : ThreadNo) (looks : List Note) → AllLooks t looks → ParksNone looks
looks_park_none t [] a = tt
looks_park_none t (x ∷ xs) a = (subst (λ (y : Note). IsNoPark y.entry) (sym a.0.2) tt, looks_park_none t xs a.1)

elsewhere : (t : ThreadNo) (e : Entry) → (eqb (thread_of e).0 t.0 ≡ true → IsNoPark e) → ParksElsewhere t.0 e
elsewhere t (Park u n id place uses) never = λ same. never (eqb_same u.0 t.0 same)
  where
    eqb_same : (i j : ℕ) → i ≡ j → eqb i j ≡ true
    eqb_same i j e = eq-eqb i j e
elsewhere t (Open u n id) never = tt
elsewhere t (Take u n first place id uses) never = tt
elsewhere t (Free u place) never = tt
elsewhere t (Close u n id) never = tt
elsewhere t (Look u place found) never = tt
elsewhere t (Up u old) never = tt
elsewhere t (Down u old) never = tt
elsewhere t (Count u c) never = tt
elsewhere t (Gate u draining) never = tt
elsewhere t (SetGate u draining) never = tt
elsewhere t (Round u k old) never = tt

-- where the own entries of a list park nothing, none of the list parks in the thread's row
pub all_elsewhere : (t : ThreadNo) (xs : List Note) → ParksNone (own_of t xs) → AllElsewhere t.0 xs
all_elsewhere t [] p = tt
all_elsewhere t (x ∷ xs) p =
    let P : Bool → Type 0 = λ b. ParksNone (cond b (x ∷ own_of t xs) (own_of t xs)) → (b ≡ true → IsNoPark x.entry) × ParksNone (own_of t xs) in
    let go : (b : Bool) → P b = λ b. elim b as P [
      | true ↦ λ q. (λ e. q.0, q.1)
      | false ↦ λ q. (λ e. cc, q)
    ] in
    let both = go (eqb (thread_of x.entry).0 t.0) p in
    (elsewhere t x.entry both.0, all_elsewhere t xs both.1)

-- the own entries before the first one of the call are none
own_before : (t : ThreadNo) (before behind : List Note) (x : Note) → own_of t (before ++ x ∷ behind) ≡ x ∷ [] → eqb (thread_of x.entry).0 t.0 ≡ true → own_of t behind ≡ [] → own_of t before ≡ []
own_before t before behind x all own none =
    let tail : own_of t (x ∷ behind) ≡ x ∷ [] = ap (λ (b : Bool). cond b (x ∷ own_of t behind) (own_of t behind)) own ∙ ap (λ (l : List Note). x ∷ l) none in
    let joined : own_of t before ++ (x ∷ []) ≡ [] ++ (x ∷ []) = ap (λ (l : List Note). own_of t before ++ l) (sym tail) ∙ sym (own_of-append t before (x ∷ behind)) ∙ all in
    cancel_right (own_of t before) [] (x ∷ []) joined
  where
    cancel_right : (xs ys zs : List Note) → xs ++ zs ≡ ys ++ zs → xs ≡ ys
    cancel_right xs ys zs e = append_cancel_right xs ys zs e

-- what nobody parked in the row since H, nothing rests there
pub wanted_row : (a b c : History) (xs : List Note) (n : SessionNo) (first : Bool) (id : ConnId) → NoneRestsIn a a.seen a.about.thread.0 first → Makes a b xs → ParksNone xs → Opens b c n (Ok id)
    → (H : List Note) × (later : List Note) × (c.seen ≡ H ++ plain (Open a.about.thread n id) ∷ later) × NoneRestsIn c H a.about.thread.0 first
wanted_row a b c xs n first id none ab parks opens =
    let m = opens.1.makes in
    let t = a.about.thread in
    let x : Note = plain (Open t n id) in
    let same : b.about.thread ≡ t = ap (λ (i : About). i.thread) ab.about in
    let gain : own_of t m.seen.0 ≡ x ∷ [] = subst (λ (u : ThreadNo). own_of u m.seen.0 ≡ plain (Open u n id) ∷ []) same (gained b c (plain (Open b.about.thread n id) ∷ []) m) in
    let cut = split_own t m.seen.0 x [] gain in
    let before = cut.0 in
    let behind = cut.1 in
    let more : List Note = ab.seen.0 ++ before in
    let own : own_of t before ≡ [] = own_before t before behind x (ap (own_of t) (sym cut.2) ∙ gain) (eq-eqb t.0 t.0 refl) cut.3 in
    let mine : own_of t more ≡ xs = own_of-append t ab.seen.0 before ∙ ap (λ (l : List Note). own_of t ab.seen.0 ++ l) own ∙ append-nil (own_of t ab.seen.0) ∙ gained a b xs ab in
    let whole : c.seen ≡ (a.seen ++ more) ++ x ∷ behind = m.seen.1 ∙ ap (λ (l : List Note). b.seen ++ l) cut.2 ∙ sym (append_assoc b.seen before (x ∷ behind))
    ∙ ap (λ (l : List Note). (l ++ before) ++ x ∷ behind) ab.seen.1 ∙ ap (λ (l : List Note). l ++ x ∷ behind) (append_assoc a.seen ab.seen.0 before) in
    let legal : EachStep MeetsNeeds empty_table ((a.seen ++ more) ++ x ∷ behind) = subst IsLegal whole m.one.legal in
    let steps = EachStep-second MeetsNeeds empty_table a.seen more (EachStep-first MeetsNeeds empty_table (a.seen ++ more) (x ∷ behind) legal) in
    let apart : AllElsewhere t.0 more = all_elsewhere t more (subst ParksNone (sym mine) parks) in
    let here : NoneRestsIn c a.seen t.0 first = subst (λ (i : About). NoneRestsIn (record c { about = i }) a.seen t.0 first) (sym (m.about ∙ ab.about)) none in
    (a.seen ++ more, behind, whole, none_stays c a.seen more t.0 first apart steps here)

allowed_some : (h k : History) (first : Bool) → k.about ≡ h.about → AllowsNone h first → AllowsSome k first → ⊥
allowed_some h k first same never some =
    let e : allows h.about.rules.mode first some.0 ≡ true = subst (λ (i : About). allows i.rules.mode first some.0 ≡ true) same some.1 in
    let f = never some.0 in
    cc

-- the Open of a call stands in what was seen
open_seen : (b c : History) (n : SessionNo) (id : ConnId) → Opens b c n (Ok id) → (H : List Note) × (later : List Note) × (c.seen ≡ H ++ plain (Open b.about.thread n id) ∷ later)
open_seen b c n id opens =
    let m = opens.1.makes in
    let x : Note = plain (Open b.about.thread n id) in
    let cut = split_own b.about.thread m.seen.0 x [] (gained b c (x ∷ []) m) in
    (b.seen ++ cut.0, cut.1, m.seen.1 ∙ ap (λ (l : List Note). b.seen ++ l) cut.2 ∙ sym (append_assoc b.seen cut.0 (x ∷ cut.1)))

pub lift : (may : ℕ → Bool) (t : ThreadNo) (es fs : List Note) (at : PlaceNo) → ((x : Found) → Among (λ e. e ≡ Look t at x) es → Among (λ e. e ≡ Look t at x) fs) → IsUnavailableTo may t es at → IsUnavailableTo may t fs at
lift may t es fs at into (inl (found, never, a)) = inl (found, never, into found a)
lift may t es fs at into (inr (f, g, apart, a, b)) = inr (f, g, apart, into (Resting f) a, into (Resting g) b)

-- of a step that found no connection and opened one, where the mode allows none
opens_unshared : (old mid new : History) (n : SessionNo) (first : Bool) (id : ConnId) (xs : List Note) → (AllowsSome new first → ⊥) → Makes old mid xs → Opens mid new n (Ok id) → OpensWanted old new n first id
opens_unshared old mid new n first id xs never makes opens =
    let same : mid.about.thread ≡ old.about.thread = ap (λ (i : About). i.thread) makes.about in
    let seen = open_seen mid new n id opens in
    record {
      before = xs;
      makes = subst (λ (t : ThreadNo). Makes old new (xs ++ plain (Open t n id) ∷ [])) same (makes_both old mid new xs (plain (Open mid.about.thread n id) ∷ []) makes opens.1.makes);
      H = seen.0;
      later = seen.1;
      seen = subst (λ (t : ThreadNo). new.seen ≡ seen.0 ++ plain (Open t n id) ∷ seen.1) same seen.2;
      wanted = λ some. absurd (never some);
    }

-- where none was in the own row, and the entries of the takeover show why none was taken of another
opens_after : (old own mid new : History) (n : SessionNo) (first : Bool) (id : ConnId) (ys : List Note) → (none : TakesNoneOwn old own first) → Makes own mid ys → ParksNone ys
    → ((h : History) → h.about ≡ own.about → ShowsFew h (none.looks.looks ++ ys) ⊎ (ShowsEnough h (none.looks.looks ++ ys) × OthersUnavailable h first (none.looks.looks ++ ys)))
    → Opens mid new n (Ok id) → OpensWanted old new n first id
opens_after old own mid new n first id ys none makes parks shows opens =
    let looks = none.looks.looks in
    let all : Makes old mid (looks ++ ys) = makes_both old own mid looks ys none.looks.makes makes in
    let same : own.about.thread ≡ old.about.thread = ap (λ (i : About). i.thread) none.looks.makes.about in
    let here : NoneRestsIn own own.seen own.about.thread.0 first = subst (λ (t : ThreadNo). NoneRestsIn own own.seen t.0 first) (sym same) none.none in
    let row = wanted_row own mid new ys n first id here makes parks opens in
    let about : new.about ≡ own.about = opens.1.makes.about ∙ makes.about in
    let thread : new.about.thread ≡ own.about.thread = ap (λ (i : About). i.thread) about in
    record {
      before = looks ++ ys;
      makes = subst (λ (t : ThreadNo). Makes old new ((looks ++ ys) ++ plain (Open t n id) ∷ [])) (ap (λ (i : About). i.thread) all.about)
          (makes_both old mid new (looks ++ ys) (plain (Open mid.about.thread n id) ∷ []) all opens.1.makes);
      H = row.0;
      later = row.1;
      seen = subst (λ (t : ThreadNo). new.seen ≡ row.0 ++ plain (Open t n id) ∷ row.1) same row.2;
      wanted = λ some. record { own_row = subst (λ (t : ThreadNo). NoneRestsIn new row.0 t.0 first) (sym thread) row.3; others = shows new about };
    }

-- of a step that found no connection and opened one
pub opens_wanted : (old mid new : History) (n : SessionNo) (first : Bool) (id : ConnId) → FindsNone old mid first → Opens mid new n (Ok id) → OpensWanted old new n first id
opens_wanted old mid new n first id (inl (never, calls)) opens =
    opens_unshared old mid new n first id [] (allowed_some old new first (opens.1.makes.about ∙ calls.makes.about) never) calls.makes opens
opens_wanted old mid new n first id (inr (own, NotAllowed, none, over)) opens =
    opens_unshared old mid new n first id (none.looks.looks ++ []) (allowed_some own new first (opens.1.makes.about ∙ over.1.makes.about) over.0) (makes_both old own mid none.looks.looks [] none.looks.makes over.1.makes) opens
opens_wanted old mid new n first id (inr (own, BelowLow k, none, over)) opens =
    opens_after old own mid new n first id (counted own.about.thread k ∷ []) none over.2.makes (tt, tt)
    (λ h is. inl (k, subst (λ (i : About). k < i.rules.low) (sym is) over.1, among_right (λ e. e ≡ Count h.about.thread k) none.looks.looks (counted own.about.thread k ∷ []) (inl (ap (λ (i : About). Count i.thread k) (sym is))))) opens
opens_wanted old mid new n first id (inr (own, NoneSeen, none, over)) opens =
    let s = over.1 in
    let t = own.about.thread in
    let ys : List Note = counted t s.c ∷ s.looks in
    opens_after old own mid new n first id ys none s.makes.makes (tt, looks_park_none t s.looks s.looked)
    (λ h is. inr (
      (s.c, subst (λ (i : About). i.rules.low ≤ s.c) (sym is) s.enough, among_right (λ e. e ≡ Count h.about.thread s.c) none.looks.looks ys (inl (ap (λ (i : About). Count i.thread s.c) (sym is)))),
      subst (λ (i : About). OthersUnavailable (record h { about = i }) first (none.looks.looks ++ ys)) (sym is)
          (λ row p low apart inside. lift (allows own.about.rules.mode first) t s.looks (none.looks.looks ++ ys) (place_of row p) (λ x among. among_right (λ e. e ≡ Look t (place_of row p) x) none.looks.looks ys (inr among)) (s.none row p low apart inside)),
    )) opens
