-- What a call opened was wanted, behind other entries too, and as more is seen.
use Rattle.std.proofs.Common.{◌≡◌, ◌⊎◌, ℕ, Bool, true, false, cond, List, [], ◌∷◌, ◌++◌, sym, ap, subst, ◌∙◌, inl, inr, append_assoc, Ok, ⊎_elim}
use Rattle.std.specs.Prelude.{⊤}
use Rattle.std.proofs.lemmas.List.{append-nil, append_cancel_left, append_cancel_right}
use Rattle.hx_base.specs.declared.numbers.ThreadNo.{ThreadNo}
use Rattle.hx_base.specs.declared.numbers.SessionNo.{SessionNo}
use Rattle.hx_base.specs.declared.numbers.ServerNo.{ServerNo}
use Rattle.hx_base.specs.declared.numbers.ConnId.{ConnId}
use Rattle.hx_message.specs.declared.MethodKind.{MethodKind}
use Rattle.hx_link.specs.Nets.{NetState}
use Rattle.hx_conn.specs.Conns.{RestedNow}
use Rattle.hx_conn.specs.WhatTold.{shown}
use Rattle.hx_pool.specs.declared.entries.Entry.{Entry}
use Rattle.hx_pool.specs.declared.entries.Entry.TheVariants.{Open, Park, Take, Free, Close, Look, Up, Down, Count, Gate, SetGate, Round}
use Rattle.hx_pool.specs.declared.entries.Note.{Note}
use Rattle.hx_pool.specs.History.{plain, is_mark, marks_of}
use Rattle.hx_pool.specs.SeatView.{About, History, Makes}
use Rattle.hx_pool.specs.Rules.{allows}
use Rattle.hx_pool.specs.Causes.{place_of}
use Rattle.hx_pool.specs.Opening.{Opens, Closes}
use Rattle.hx_pool.specs.Taking.{NoneRestsIn}
use Rattle.hx_pool.specs.Takeover.{AllowsSome, OthersUnavailable}
use Rattle.hx_pool.specs.Wants.{WantsNewConn, ShowsFew, ShowsEnough}
use Rattle.hx_pool.proofs.Histories.{marks_of-append}
use Rattle.hx_pool.proofs.Calls.{makes_both}
use Rattle.hx_pool.proofs.Purges.{among_right}
use Rattle.hx_connecting.specs.declared.connecting.Connected.{Connected}
use Rattle.hx_connecting.specs.declared.connecting.Connected.TheVariants.{Begun, Dead, Refused}
use Rattle.hx_connecting.specs.Connecting.{FindsOne, FindsNone, TriesRested, TriesNew, Connects}
use Rattle.hx_connecting.specs.Wanted.{OpensWereWanted}
use Rattle.hx_connecting.proofs.WantLemmas.{lift, opens_wanted}
use Rattle.hx_connecting.proofs.TouchLemmas.{one_seat, none_seat}

-- an entry that opens nothing
abbrev pub OpensNot : Entry → Type 0
OpensNot (Open t n id) = ⊥
OpensNot _ = ⊤

abbrev pub OpenNone : List Entry → Type 0
OpenNone [] = ⊤
OpenNone (e ∷ es) = OpensNot e × OpenNone es

tail_none : (b : Bool) (e : Entry) (ms : List Entry) → OpenNone (cond b (e ∷ ms) ms) → OpenNone ms
tail_none true e ms none = none.1
tail_none false e ms none = none

head_none : (e : Entry) (ms : List Entry) → OpenNone (cond (is_mark e) (e ∷ ms) ms) → OpensNot e
head_none (Open t n id) ms none = none.0
head_none (Park t n id place uses) ms none = tt
head_none (Take t n first place id uses) ms none = tt
head_none (Free t place) ms none = tt
head_none (Close t n id) ms none = tt
head_none (Look t place found) ms none = tt
head_none (Up t old) ms none = tt
head_none (Down t old) ms none = tt
head_none (Count t c) ms none = tt
head_none (Gate t draining) ms none = tt
head_none (SetGate t draining) ms none = tt
head_none (Round t k old) ms none = tt

-- entries without an Open among their marks
pub wanted_none : (h : History) (first : Bool) (before es : List Note) → OpenNone (marks_of es) → OpensWereWanted h first before es
wanted_none h first before [] none = tt
wanted_none h first before (x ∷ xs) none =
    (λ id n is. absurd (subst (λ (y : Note). OpensNot y.entry) is (head_none x.entry (marks_of xs) none)), wanted_none h first (before ++ x ∷ []) xs (tail_none (is_mark x.entry) x.entry (marks_of xs) none))

-- entries behind one another
pub wanted_both : (h : History) (first : Bool) (before xs ys : List Note) → OpensWereWanted h first before xs → OpensWereWanted h first (before ++ xs) ys → OpensWereWanted h first before (xs ++ ys)
wanted_both h first before [] ys a b = subst (λ (l : List Note). OpensWereWanted h first l ys) (append-nil before) b
wanted_both h first before (x ∷ xs) ys a b =
    (a.0, wanted_both h first (before ++ x ∷ []) xs ys a.1 (subst (λ (l : List Note). OpensWereWanted h first l ys) (sym (append_assoc before (x ∷ []) xs)) b))

wants_later : (h k : History) (first : Bool) (H es : List Note) → k.about ≡ h.about → WantsNewConn h first H es → WantsNewConn k first H es
wants_later h k first H es same w = record {
  own_row = subst (λ (i : About). NoneRestsIn (record k { about = i }) H i.thread.0 first) (sym same) w.own_row;
  others = subst (λ (i : About). ShowsFew (record k { about = i }) es ⊎ (ShowsEnough (record k { about = i }) es × OthersUnavailable (record k { about = i }) first es)) (sym same) w.others;
}

-- as more is seen
pub wanted_later : (h k : History) (first : Bool) (before es more : List Note) → k.about ≡ h.about → k.seen ≡ h.seen ++ more → OpensWereWanted h first before es → OpensWereWanted k first before es
wanted_later h k first before [] more same seen w = tt
wanted_later h k first before (x ∷ xs) more same seen w = (
  λ id n is.
      let at = w.0 id n (is ∙ ap (λ (i : About). plain (Open i.thread n id)) same) in (
        at.0,
        at.1 ++ more,
        seen ∙ (ap (λ (l : List Note). l ++ more) at.2 ∙ append_assoc at.0 (x ∷ at.1) more),
        λ some. wants_later h k first at.0 before same (at.3 (subst (λ (i : About). AllowsSome (record k { about = i }) first) same some)),
      ),
  wanted_later h k first (before ++ x ∷ []) xs more same seen w.1,
)

others_behind : (h : History) (first : Bool) (front es : List Note) → OthersUnavailable h first es → OthersUnavailable h first (front ++ es)
others_behind h first front es none = λ row p low apart inside.
    lift (allows h.about.rules.mode first) h.about.thread es (front ++ es) (place_of row p) (λ x among. among_right (λ e. e ≡ Look h.about.thread (place_of row p) x) front es among) (none row p low apart inside)

wants_behind : (h : History) (first : Bool) (H front es : List Note) → WantsNewConn h first H es → WantsNewConn h first H (front ++ es)
wants_behind h first H front es w = record {
  own_row = w.own_row;
  others = ⊎_elim
      (λ (few : ShowsFew h es). inl (few.0, few.1, among_right (λ e. e ≡ Count h.about.thread few.0) front es few.2))
      (λ (none : ShowsEnough h es × OthersUnavailable h first es).
      inr ((none.0.0, none.0.1, among_right (λ e. e ≡ Count h.about.thread none.0.0) front es none.0.2), others_behind h first front es none.1))
      w.others;
}

-- behind other entries of the call
pub wanted_behind : (h : History) (first : Bool) (front before es : List Note) → OpensWereWanted h first before es → OpensWereWanted h first (front ++ before) es
wanted_behind h first front before [] w = tt
wanted_behind h first front before (x ∷ xs) w = (
  λ id n is. let at = w.0 id n is in (at.0, at.1, at.2, λ some. wants_behind h first at.0 front before (at.3 some)),
  subst (λ (l : List Note). OpensWereWanted h first l xs) (sym (append_assoc front before (x ∷ []))) (wanted_behind h first front (before ++ x ∷ []) xs w.1),
)

-- a call makes its entries and no others
pub makes_only : (old new : History) (xs ys : List Note) → Makes old new xs → Makes old new ys → xs ≡ ys
makes_only old new xs ys a b = append_cancel_left old.mine xs ys (sym a.mine ∙ b.mine)

marks_none : (h : History) (first : Bool) (es : List Note) (ms : List Entry) → marks_of es ≡ ms → OpenNone ms → OpensWereWanted h first [] es
marks_none h first es ms is none = wanted_none h first [] es (subst OpenNone (sym is) none)

rested_wanted : {X : Type 0} (old mid new : History) (n : SessionNo) (first : Bool) (r : RestedNow) (now : ℕ) (m : MethodKind) (net net' : NetState) (c : Connected X)
    → FindsOne old mid n first (shown r) → TriesRested mid new n r now m net net' c → (es : List Note) → Makes old new es → OpensWereWanted new first [] es
rested_wanted old mid new n first r now m net net' (Begun busy fresh) f k es makes =
    let at = one_seat old mid n first (shown r) f in
    let same : es ≡ at.seat.added = makes_only old mid es at.seat.added (subst (λ (h : History). Makes old h es) k.0 makes) at.seat.makes.makes in
    marks_none new first es (Take old.about.thread n first at.place r.id r.uses ∷ []) (ap marks_of same ∙ at.seat.marked.marks) (tt, tt)
rested_wanted old mid new n first r now m net net' Dead f k es makes =
    let at = one_seat old mid n first (shown r) f in
    let close : List Note = plain (Close mid.about.thread n r.id) ∷ [] in
    let same : es ≡ at.seat.added ++ close = makes_only old new es (at.seat.added ++ close) makes (makes_both old mid new at.seat.added close at.seat.makes.makes k.3.closes.makes) in
    marks_none new first es (Take old.about.thread n first at.place r.id r.uses ∷ Close mid.about.thread n r.id ∷ [])
    (ap marks_of same ∙ (marks_of-append at.seat.added close ∙ ap (λ (l : List Entry). l ++ marks_of close) at.seat.marked.marks)) (tt, (tt, tt))
rested_wanted old mid new n first r now m net net' Refused f k es makes = absurd k

-- what a step that found no connection opened
opened_wanted : (old mid new : History) (n : SessionNo) (first : Bool) (id : ConnId) → FindsNone old mid first → Opens mid new n (Ok id) → (es : List Note) → Makes old new es → OpensWereWanted new first [] es
opened_wanted old mid new n first id f opens es makes =
    let w = opens_wanted old mid new n first id f opens in
    let found = none_seat old mid n first f in
    let x : Note = plain (Open old.about.thread n id) in
    let same : mid.about.thread ≡ old.about.thread = ap (λ (i : About). i.thread) found.makes.makes.about in
    let whole : Makes old new (found.added ++ x ∷ []) = subst (λ (t : ThreadNo). Makes old new (found.added ++ plain (Open t n id) ∷ [])) same
    (makes_both old mid new found.added (plain (Open mid.about.thread n id) ∷ []) found.makes.makes opens.1.makes) in
    let before : w.before ≡ found.added = append_cancel_right w.before found.added (x ∷ []) (makes_only old new (w.before ++ x ∷ []) (found.added ++ x ∷ []) w.makes whole) in
    let none : OpensWereWanted new first [] w.before = marks_none new first w.before [] (ap marks_of before ∙ found.marked.marks) tt in
    subst (λ (l : List Note). OpensWereWanted new first [] l) (makes_only old new (w.before ++ x ∷ []) es w.makes makes)
    (wanted_both new first [] w.before (x ∷ []) none (λ id' n' is. (w.H, w.later, w.seen, w.wanted), tt))

-- the same, where it is closed in the step
failed_wanted : (old mid near new : History) (n : SessionNo) (first : Bool) (id : ConnId) → FindsNone old mid first → Opens mid near n (Ok id) → Closes near new n id → (es : List Note) → Makes old new es
    → OpensWereWanted new first [] es
failed_wanted old mid near new n first id f opens closes es makes =
    let found = none_seat old mid n first f in
    let open_ : List Note = plain (Open mid.about.thread n id) ∷ [] in
    let close : List Note = plain (Close near.about.thread n id) ∷ [] in
    let first_part : Makes old near (found.added ++ open_) = makes_both old mid near found.added open_ found.makes.makes opens.1.makes in
    let same : es ≡ (found.added ++ open_) ++ close = makes_only old new es ((found.added ++ open_) ++ close) makes (makes_both old near new (found.added ++ open_) close first_part closes.makes) in
    subst (λ (l : List Note). OpensWereWanted new first [] l) (sym same)
    (wanted_both new first [] (found.added ++ open_) close
    (wanted_later near new first [] (found.added ++ open_) closes.makes.seen.0 closes.makes.about closes.makes.seen.1 (opened_wanted old mid near n first id f opens (found.added ++ open_) first_part))
    (wanted_none new first (found.added ++ open_) close (tt, tt)))

new_wanted : {X : Type 0} (old mid new : History) (n : SessionNo) (first : Bool) (server : ServerNo) (m : MethodKind) (net net' : NetState) (c : Connected X)
    → FindsNone old mid first → TriesNew mid new n server m net net' c → (es : List Note) → Makes old new es → OpensWereWanted new first [] es
new_wanted old mid new n first server m net net' (Begun busy fresh) f k es makes = opened_wanted old mid new n first k.1.id f k.1.opens es makes
new_wanted old mid new n first server m net net' Dead f k es makes = absurd k
new_wanted old mid new n first server m net net' Refused f k es makes = ⊎_elim
    (λ e.
    let found = none_seat old mid n first f in
    let same : es ≡ found.added ++ [] = makes_only old new es (found.added ++ []) makes (makes_both old mid new found.added [] found.makes.makes e.1.1.makes) in
    marks_none new first es [] (ap marks_of (same ∙ append-nil found.added) ∙ found.marked.marks) tt)
    (λ z. ⊎_elim
    (λ x. failed_wanted old mid z.0 new n first z.1 f z.2 x.0 es makes)
    (λ y. failed_wanted old mid z.0 new n first z.1 f z.2 y.6.closes es makes)
    z.3)
    k

-- what a try to connect opened
pub connects_wanted : {X : Type 0} (old new : History) (n : SessionNo) (first : Bool) (server : ServerNo) (now : ℕ) (m : MethodKind) (net net' : NetState) (c : Connected X)
    → Connects old new n first server now m net net' c → (es : List Note) → Makes old new es → OpensWereWanted new first [] es
connects_wanted old new n first server now m net net' c k es makes = ⊎_elim
    (λ a. rested_wanted old a.0 new n first a.1 now m net net' c a.2 a.4 es makes)
    (λ b. new_wanted old b.0 new n first server m net net' c b.1 b.2 es makes)
    k
