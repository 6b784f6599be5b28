-- The marks of a connection that a session takes, opens or closes.
use Rattle.std.proofs.Common.{◌≡◌, ℕ, ◌+◌, Bool, true, false, List, [], ◌∷◌, ◌++◌, refl, sym, ap, subst, ◌∙◌, inl, inr, append_assoc, Option, Some, None, Ok, ⊎_elim}
use Rattle.hx_base.specs.declared.numbers.ThreadNo.{ThreadNo}
use Rattle.hx_base.specs.declared.numbers.SessionNo.{SessionNo}
use Rattle.hx_base.specs.declared.numbers.ServerNo.{ServerNo}
use Rattle.hx_base.specs.declared.numbers.ConnId.{ConnId}
use Rattle.hx_base.specs.declared.numbers.PlaceNo.{PlaceNo}
use Rattle.hx_base.specs.declared.numbers.Face.{Face}
use Rattle.hx_base.specs.Shown.{Shown}
use Rattle.hx_message.specs.declared.MethodKind.{MethodKind}
use Rattle.hx_link.specs.Nets.{NetState, TellsDial, DialTold, StaysTold, told_dial}
use Rattle.hx_conn.specs.Conns.{RestedNow, BusyNow, IsRested}
use Rattle.hx_conn.specs.WhatTold.{shown, what_of_link}
use Rattle.hx_link.specs.Told.{LinkState}
use Rattle.hx_link.specs.Courses.{Course, attached, after_dial, without_next}
use Rattle.std.specs.Prelude.{option_map}
use Rattle.hx_connecting.specs.Sessions.{Exchanging}
use Rattle.hx_connecting.specs.Links.{GainsAll, LeavesPlans, plans_of, CourseStays}
use Rattle.hx_connecting.proofs.WayLemmas.{begun_same, gains_stay, gains_eq, course_stays, course_attached, course_dialled, took_goes, attach_dials, dies_so, bury_dials, bury_gains, gains_dial, follows_stays, follows_ends, fails_none, opened_buries}
use Rattle.hx_pool.specs.declared.entries.Entry.{Entry}
use Rattle.hx_pool.specs.declared.entries.Entry.TheVariants.{Open, Take, Close, Gate}
use Rattle.hx_pool.specs.declared.entries.Note.{Note}
use Rattle.hx_pool.specs.declared.refusals.NoneOver.{NoneOver}
use Rattle.hx_pool.specs.declared.refusals.NoneOver.TheVariants.{NotAllowed, BelowLow, NoneSeen}
use Rattle.hx_pool.specs.History.{plain, marks_of, own_of, what_of}
use Rattle.hx_pool.specs.SeatView.{About, History, Calls, Makes}
use Rattle.hx_pool.specs.Causes.{AllLooks}
use Rattle.hx_pool.specs.Opening.{Opens, Closes}
use Rattle.hx_pool.specs.Taking.{Takes, TakesNoneOwn, taking}
use Rattle.hx_pool.specs.Takeover.{RefusesTakeover, counted}
use Rattle.hx_pool.proofs.Calls.{makes_both, looks_marks}
use Rattle.hx_pool.proofs.Histories.{marks_of-append, own_of-append}
use Rattle.hx_pool.proofs.Holding.{gained}
use Rattle.std.proofs.lemmas.List.{append_cancel_left}
use Rattle.hx_connecting.specs.declared.connecting.Connected.{Connected}
use Rattle.hx_connecting.specs.declared.connecting.Connected.TheVariants.{Begun, Dead, Refused}
use Rattle.hx_connecting.specs.Connecting.{FindsOne, FindsNone, TriesRested, TriesNew, Connects}
use Rattle.hx_connecting.specs.Touches.{IsOf, AllOf, Balances, Opened, Took, Stays, Ends}
use Rattle.hx_base.specs.Counts.{Rose}
use Rattle.hx_connecting.specs.Closings.{ClosesFor, call_of, ended_at_rest, dial_failed}
use Rattle.hx_connecting.proofs.CauseLemmas.{causes_always, dead_cause, rose_on}
use Rattle.hx_connecting.specs.Touched.{Marked, SeatMarks, ConnectTouches}

own_both : (n : SessionNo) (xs ys : List Note) → AllOf n xs → AllOf n ys → AllOf n (xs ++ ys)
own_both n [] ys a b = b
own_both n (x ∷ xs) ys a b = (a.0, own_both n xs ys a.1 b)

pub marked_both : (n : SessionNo) (xs ys : List Note) (ms ks : List Entry) → Marked n xs ms → Marked n ys ks → Marked n (xs ++ ys) (ms ++ ks)
marked_both n xs ys ms ks a b = record {
  marks = marks_of-append xs ys ∙ (ap (λ (l : List Entry). l ++ marks_of ys) a.marks ∙ ap (λ (l : List Entry). ms ++ l) b.marks);
  own = own_both n xs ys a.own b.own;
  keeps = λ k zs rest. subst (λ (l : List Note). Balances k k l) (sym (append_assoc xs ys zs)) (a.keeps k (ys ++ zs) (λ c. b.keeps c zs rest));
}

pub marked_none : (n : SessionNo) → Marked n [] []
marked_none n = record { marks = refl; own = tt; keeps = λ k ys rest. rest k }

looks_own : (n : SessionNo) (t : ThreadNo) (looks : List Note) → AllLooks t looks → AllOf n looks
looks_own n t [] l = tt
looks_own n t (x ∷ xs) l = (subst (λ (y : Note). IsOf n y.entry) (sym l.0.2) tt, looks_own n t xs l.1)

looks_keep : (t : ThreadNo) (looks : List Note) → AllLooks t looks → (a : ℕ) (ys : List Note) → ((c : ℕ) → Balances c c ys) → Balances a a (looks ++ ys)
looks_keep t [] l a ys rest = rest a
looks_keep t (x ∷ xs) l a ys rest = subst (λ (y : Note). Balances a a (y ∷ (xs ++ ys))) (sym l.0.2) (looks_keep t xs l.1 a ys rest)

pub marked_looks : (n : SessionNo) (t : ThreadNo) (looks : List Note) → AllLooks t looks → Marked n looks []
marked_looks n t looks l = record { marks = looks_marks t looks l; own = looks_own n t looks l; keeps = looks_keep t looks l }

pub marked_taking : (t : ThreadNo) (n : SessionNo) (first : Bool) (place : PlaceNo) (f : Face) (count : ℕ) → Marked n (taking t n first place f count) (Take t n first place f.id f.uses ∷ [])
marked_taking t n first place f count = record { marks = refl; own = (refl, (tt, (tt, tt))); keeps = λ a ys rest. rest (a + 1) }

pub marked_count : (n : SessionNo) (t : ThreadNo) (c : ℕ) → Marked n (counted t c ∷ []) []
marked_count n t c = record { marks = refl; own = (tt, tt); keeps = λ a ys rest. (refl, rest a) }

pub marked_gate : (n : SessionNo) (t : ThreadNo) (draining : Bool) → Marked n (plain (Gate t draining) ∷ []) []
marked_gate n t draining = record { marks = refl; own = (tt, tt); keeps = λ a ys rest. rest a }

pub marked_open : (n : SessionNo) (t : ThreadNo) (id : ConnId) → Marked n (plain (Open t n id) ∷ []) (Open t n id ∷ [])
marked_open n t id = record { marks = refl; own = (refl, tt); keeps = λ a ys rest. rest a }

pub marked_close : (n : SessionNo) (t : ThreadNo) (id : ConnId) → Marked n (plain (Close t n id) ∷ []) (Close t n id ∷ [])
marked_close n t id = record { marks = refl; own = (refl, tt); keeps = λ a ys rest. rest a }

-- one call of a seat after the other
pub seat_both : (a b c : History) (n : SessionNo) (ms ks : List Entry) → SeatMarks a b n ms → SeatMarks b c n ks → SeatMarks a c n (ms ++ ks)
seat_both a b c n ms ks x y = record {
  added = x.added ++ y.added;
  makes = record { makes = makes_both a b c x.added y.added x.makes.makes y.makes.makes; passed = y.makes.passed ∙ x.makes.passed };
  marked = marked_both n x.added y.added ms ks x.marked y.marked;
}

-- a call without a mark first
seat_after : (a b c : History) (n : SessionNo) (ks : List Entry) → SeatMarks a b n [] → SeatMarks b c n ks → SeatMarks a c n ks
seat_after a b c n ks x y = seat_both a b c n [] ks x y

-- the thread stays
thread_stays : (a b : History) (n : SessionNo) (ms : List Entry) → SeatMarks a b n ms → b.about.thread ≡ a.about.thread
thread_stays a b n ms x = ap (λ (h : About). h.thread) x.makes.makes.about

takes_seat : (old new : History) (lead : List Note) (n : SessionNo) (first : Bool) (place : PlaceNo) (v : Shown) → Takes old new lead n first place v → new.passed ≡ old.passed → Marked n lead []
    → SeatMarks old new n (Take old.about.thread n first place v.face.id v.face.uses ∷ [])
takes_seat old new lead n first place v k passed led =
    let t = old.about.thread in
    let es : List Note = taking t n first place v.face k.count in
    record {
      added = lead ++ (k.looks ++ es);
      makes = record { makes = k.makes; passed = passed };
      marked = marked_both n lead (k.looks ++ es) [] (Take t n first place v.face.id v.face.uses ∷ []) led
          (marked_both n k.looks es [] (Take t n first place v.face.id v.face.uses ∷ []) (marked_looks n t k.looks k.looked) (marked_taking t n first place v.face k.count));
    }

looks_seat : (old new : History) (n : SessionNo) (first : Bool) → TakesNoneOwn old new first → SeatMarks old new n []
looks_seat old new n first k = record {
  added = k.looks.looks;
  makes = record { makes = k.looks.makes; passed = k.passed };
  marked = marked_looks n old.about.thread k.looks.looks k.looks.looked;
}

nothing_seat : (old new : History) (n : SessionNo) → Calls old new [] → SeatMarks old new n []
nothing_seat old new n k = record { added = []; makes = k; marked = marked_none n }

refused_seat : (old new : History) (n : SessionNo) (first : Bool) (why : NoneOver) → RefusesTakeover old new first why → SeatMarks old new n []
refused_seat old new n first NotAllowed k = nothing_seat old new n k.1
refused_seat old new n first (BelowLow c) k = record { added = counted old.about.thread c ∷ []; makes = k.2; marked = marked_count n old.about.thread c }
refused_seat old new n first NoneSeen k =
    let s = k.1 in let t = old.about.thread in
    record { added = counted t s.c ∷ s.looks; makes = s.makes; marked = marked_both n (counted t s.c ∷ []) s.looks [] [] (marked_count n t s.c) (marked_looks n t s.looks s.looked) }

pub none_seat : (old new : History) (n : SessionNo) (first : Bool) → FindsNone old new first → SeatMarks old new n []
none_seat old new n first f = ⊎_elim
    (λ a. nothing_seat old new n a.1)
    (λ b. seat_after old b.0 new n [] (looks_seat old b.0 n first b.2) (refused_seat b.0 new n first b.1 b.3))
    f

-- behind a part of the history that has all of before the call, this thread made entries of the call alone
own_behind : (old new : History) (es more H later : List Note) → Makes old new es → H ≡ old.seen ++ more → new.seen ≡ H ++ later → (front : List Note) × (es ≡ front ++ own_of new.about.thread later)
own_behind old new es more H later m is seen =
    let t = old.about.thread in
    let cut : m.seen.0 ≡ more ++ later =
    append_cancel_left old.seen m.seen.0 (more ++ later) (sym m.seen.1 ∙ (seen ∙ (ap (λ (l : List Note). l ++ later) is ∙ append_assoc old.seen more later))) in
    let own : es ≡ own_of t more ++ own_of t later = sym (gained old new es m) ∙ (ap (own_of t) cut ∙ own_of-append t more later) in
    (own_of t more, own ∙ ap (λ (a : About). own_of t more ++ own_of a.thread later) (sym m.about))

-- where a connection was taken, and what stood beside its last Park
pub record TookAt (old new : History) (n : SessionNo) (first : Bool) (v : Shown) : Type 0 where
  pub place : PlaceNo
  pub seat : SeatMarks old new n (Take old.about.thread n first place v.face.id v.face.uses ∷ [])
  pub H : List Note
  pub later : List Note
  pub more : List Note
  pub behind : H ≡ old.seen ++ more
  pub seen : new.seen ≡ H ++ later
  pub what : what_of H v.face.id.0 ≡ Some v.what
  pub server : v.server ≡ old.about.server

pub one_seat : (old new : History) (n : SessionNo) (first : Bool) (v : Shown) → FindsOne old new n first v → TookAt old new n first v
one_seat old new n first v f = ⊎_elim
    (λ a. record {
      place = a.place;
      seat = takes_seat old new [] n first a.place v a.takes a.passed (marked_none n);
      H = old.seen ++ a.takes.between;
      later = _;
      more = a.takes.between;
      behind = refl;
      seen = a.takes.seen;
      what = a.takes.what;
      server = a.takes.server;
    })
    (λ b. let x = looks_seat old b.0 n first b.1 in let k = b.2 in record {
      place = k.place;
      seat = subst (λ (t : ThreadNo). SeatMarks old new n (Take t n first k.place v.face.id v.face.uses ∷ [])) (thread_stays old b.0 n [] x)
          (seat_after old b.0 new n (Take b.0.about.thread n first k.place v.face.id v.face.uses ∷ []) x
          (takes_seat b.0 new (counted b.0.about.thread k.c ∷ []) n first k.place v k.takes k.passed (marked_count n b.0.about.thread k.c)));
      H = b.0.seen ++ k.takes.between;
      later = _;
      more = x.makes.makes.seen.0 ++ k.takes.between;
      behind = ap (λ (l : List Note). l ++ k.takes.between) x.makes.makes.seen.1 ∙ append_assoc old.seen x.makes.makes.seen.0 k.takes.between;
      seen = k.takes.seen;
      what = k.takes.what;
      server = k.takes.server ∙ ap (λ (h : About). h.server) x.makes.makes.about;
    })
    f

-- a mark behind others, by the thread of the first seat
seat_then : (a b c : History) (n : SessionNo) (ms : List Entry) (k : ThreadNo → Entry) → SeatMarks a b n ms → SeatMarks b c n (k b.about.thread ∷ []) → SeatMarks a c n (ms ++ k a.about.thread ∷ [])
seat_then a b c n ms k x y = seat_both a b c n ms (k a.about.thread ∷ []) x (subst (λ (t : ThreadNo). SeatMarks b c n (k t ∷ [])) (thread_stays a b n ms x) y)

pub closes_seat : (old new : History) (n : SessionNo) (id : ConnId) → Closes old new n id → SeatMarks old new n (Close old.about.thread n id ∷ [])
closes_seat old new n id k = record { added = plain (Close old.about.thread n id) ∷ []; makes = k; marked = marked_close n old.about.thread id }

pub opens_seat : (old new : History) (n : SessionNo) (id : ConnId) → Opens old new n (Ok id) → SeatMarks old new n (Open old.about.thread n id ∷ [])
opens_seat old new n id k = record { added = plain (Open old.about.thread n id) ∷ []; makes = k.1; marked = marked_open n old.about.thread id }

rested_touch : {X : Type 0} (old mid new : History) (n : SessionNo) (first : Bool) (server : ServerNo) (r : RestedNow) (now : ℕ) (m : MethodKind) (net net' : NetState) (c : Connected X)
    → old.about.server ≡ server → IsRested r → FindsOne old mid n first (shown r) → TriesRested mid new n r now m net net' c → ConnectTouches old new n first server net net' c
rested_touch old mid new n first server r now m net net' (Begun busy fresh) here rested f k =
    let at = one_seat old mid n first (shown r) f in
    let loops : busy.link ≡ record k.2.0.link { on_loop = Some net.loop_no } = ap (λ (b : BusyNow). b.link) k.2.2.1 in
    let srv : busy.server ≡ server = ap (λ (b : BusyNow). b.server) k.2.2.1 ∙ (ap (λ (q : RestedNow). q.server) k.2.1.0 ∙ (at.server ∙ here)) in
    let ids : r.id ≡ busy.id = sym (ap (λ (q : RestedNow). q.id) k.2.1.0) ∙ sym (ap (λ (b : BusyNow). b.id) k.2.2.1) in
    record {
      touch = Some (record { server = server; id = r.id; came = Took at.place r.uses; went = Stays });
      at_server = refl;
      seat = subst (λ (h : History). SeatMarks old h n (Take old.about.thread n first at.place r.id r.uses ∷ [])) (sym k.0) at.seat;
      comes = (ids, refl);
      goes = λ s s' es makes none has. let own = own_behind old new es at.more at.H at.later makes at.behind (ap (λ (h : History). h.seen) k.0 ∙ at.seen) in (
        record {
          before = Some (what_of_link r.link);
          after = Some (what_of_link busy.link);
          gone = None;
          was = (
            none,
            (
              at.H,
              at.later,
              what_of_link r.link,
              ap (λ (h : History). h.seen) k.0 ∙ at.seen,
              at.what,
              refl,
              own.0,
              own.1,
            ),
          );
          is = (refl, (Exchanging busy, (has, srv, sym ids), refl));
          same = begun_same r k.2.0 now busy net.loop_no k.2.1 loops;
          dials = attach_dials net net' k.2.2.0.0;
          buries = gains_eq net.buried net'.buried (ap (λ (q : NetState). q.buried) k.2.2.0.0.0);
        },
        λ served. (Exchanging busy, has, took_goes r k.2.0 now m net net' busy rested k.2.1 k.2.2),
        λ q z served closed. absurd closed,
      );
    }
rested_touch old mid new n first server r now m net net' Dead here rested f k =
    let at = one_seat old mid n first (shown r) f in
    let buried = k.3.buries in
    let dies = dies_so r now k.1 net k.0 rested k.2 in
    let seen : new.seen ≡ at.H ++ (at.later ++ k.3.closes.makes.seen.0) =
    k.3.closes.makes.seen.1 ∙ (ap (λ (l : List Note). l ++ k.3.closes.makes.seen.0) at.seen ∙ append_assoc at.H at.later k.3.closes.makes.seen.0) in
    record {
      touch = Some (record { server = server; id = r.id; came = Took at.place r.uses; went = Ends });
      at_server = refl;
      seat = seat_then old mid new n (Take old.about.thread n first at.place r.id r.uses ∷ []) (λ t. Close t n r.id) at.seat (closes_seat mid new n r.id k.3.closes);
      comes = refl;
      goes = λ s s' es makes none has. let own = own_behind old new es at.more at.H (at.later ++ k.3.closes.makes.seen.0) makes at.behind seen in (
        record {
          before = Some (what_of_link r.link);
          after = Some (what_of_link k.1);
          gone = Some k.1;
          was = (
            none,
            (
              at.H,
              at.later ++ k.3.closes.makes.seen.0,
              what_of_link r.link,
              seen,
              at.what,
              refl,
              own.0,
              own.1,
            ),
          );
          is = (has, (subst (λ (q : ServerNo). TellsDial q r.id k.1) (at.server ∙ here) dies.dial, refl));
          same = dies.same;
          dials = bury_dials net k.0 net' k.1 dies.dials dies.course buried;
          buries = bury_gains net.buried k.0.buried net'.buried k.1 dies.buried buried.3;
        },
        λ served. tt,
        λ q z served closed left named comes.
            causes_always (λ y id b. ClosesFor (call_of s s' net net' new b (record { server = server; id = r.id; came = Took at.place r.uses; went = Ends }) (Some (what_of_link r.link)) (Some (what_of_link k.1)) served left))
            (λ y id b. ended_at_rest (inr (at.place, r.uses, refl)) (dead_cause r now k.1 net k.0 net' k.2 buried.1)) [] es,
      );
    }
rested_touch old mid new n first server r now m net net' Refused here rested f k = absurd k

opened_seat : (old mid new : History) (n : SessionNo) (first : Bool) (id : ConnId) → FindsNone old mid first → Opens mid new n (Ok id) → SeatMarks old new n (Open old.about.thread n id ∷ [])
opened_seat old mid new n first id f o = seat_then old mid new n [] (λ t. Open t n id) (none_seat old mid n first f) (opens_seat mid new n id o)

failed_seat : (old mid near new : History) (n : SessionNo) (first : Bool) (id : ConnId) → FindsNone old mid first → Opens mid near n (Ok id) → Closes near new n id
    → SeatMarks old new n (Open old.about.thread n id ∷ Close old.about.thread n id ∷ [])
failed_seat old mid near new n first id f o k = seat_then old near new n (Open old.about.thread n id ∷ []) (λ t. Close t n id) (opened_seat old mid near n first id f o) (closes_seat near new n id k)

new_touch : {X : Type 0} (old mid new : History) (n : SessionNo) (first : Bool) (server : ServerNo) (m : MethodKind) (net net' : NetState) (c : Connected X)
    → FindsNone old mid first → TriesNew mid new n server m net net' c → ConnectTouches old new n first server net net' c
new_touch old mid new n first server m net net' (Begun busy fresh) f k =
    let o = k.1 in let d = o.dialled in
    let links : busy.link ≡ record o.link { on_loop = Some o.net.loop_no } = ap (λ (b : BusyNow). b.link) o.begins.1 in
    let ids : o.id ≡ busy.id = sym (ap (λ (b : BusyNow). b.id) o.begins.1) in
    record {
      touch = Some (record { server = server; id = o.id; came = Opened; went = Stays });
      at_server = refl;
      seat = opened_seat old mid new n first o.id f o.opens;
      comes = (ids, refl);
      goes = λ s s' es makes none has. (
        record {
          before = None;
          after = Some (what_of_link busy.link);
          gone = None;
          was = (none, refl);
          is = (refl, (Exchanging busy, (has, ap (λ (b : BusyNow). b.server) o.begins.1, sym ids), refl));
          same = tt;
          dials = (
            true,
            o.link.tag,
            gains_dial (told_dial server o.id true o.link.tag) net.dials o.net.dials net'.dials d.dials (inl (ap (λ (q : NetState). q.dials) o.begins.0.0.0)),
            follows_stays server o.id net.course o.link net' (what_of_link busy.link) d.follows (ap (λ (l : LinkState). l.plan) links),
            subst (λ (q : Option Course). LeavesPlans (without_next server (plans_of net.course)) net.course q) (sym (ap (λ (q : NetState). q.course) o.begins.0.0.0 ∙ ap (λ (q : NetState). option_map attached q.course) d.net))
                (course_attached (without_next server (plans_of net.course)) net.course (option_map (after_dial server) net.course) (course_dialled server net.course)),
            inl (refl, (what_of_link busy.link, refl, ap (λ (l : LinkState). l.tag) links)),
          );
          buries = subst (λ (q : Option (List LinkState)). GainsAll [] net.buried q) (sym (ap (λ (q : NetState). q.buried) o.begins.0.0.0)) (gains_stay net.buried o.net.buried d.buried);
        },
        λ served. (
          Exchanging busy,
          has,
          record {
            uses_are = ap (λ (b : BusyNow). b.uses) o.begins.1;
            sent_from = ap (λ (b : BusyNow). b.exchange.sent_from) o.begins.1 ∙ d.fresh.fresh.sent_count;
            taken_from = ap (λ (b : BusyNow). b.exchange.taken_from) o.begins.1 ∙ d.fresh.fresh.taken_count;
          },
        ),
        λ q z served closed. absurd closed,
      );
    }
new_touch old mid new n first server m net net' Dead f k = absurd k
new_touch old mid new n first server m net net' Refused f k = ⊎_elim
    (λ e. let same : net' ≡ net = e.2 in record {
      touch = None;
      at_server = tt;
      seat = seat_after old mid new n [] (none_seat old mid n first f) (nothing_seat mid new n e.1.1);
      comes = tt;
      goes = λ s s' es makes none has. record {
        conn = has ∙ sym none;
        course = subst (λ (q : NetState). CourseStays net q) (sym same) (course_stays net.course);
        dials = gains_eq net.dials net'.dials (ap (λ (q : NetState). q.dials) same);
        buries = gains_eq net.buried net'.buried (ap (λ (q : NetState). q.buried) same);
      };
    })
    (λ z. let near = z.0 in let id = z.1 in ⊎_elim
    (λ x. let d = x.1 in record {
      touch = Some (record { server = server; id = id; came = Opened; went = Ends });
      at_server = refl;
      seat = failed_seat old mid near new n first id f z.2 x.0;
      comes = (refl, refl);
      goes = λ s s' es makes none has. (
        record {
          before = None;
          after = None;
          gone = None;
          was = (none, refl);
          is = (has, (refl, refl));
          same = tt;
          dials = (
            false,
            None,
            gains_dial (told_dial server id false None) net.dials net'.dials net'.dials d.dials (inl refl),
            fails_none server id net.course net' d.none,
            subst (λ (q : Option Course). LeavesPlans (without_next server (plans_of net.course)) net.course q) (sym (ap (λ (q : NetState). q.course) d.net)) (course_dialled server net.course),
            inr (refl, refl, d.fault.1),
          );
          buries = gains_stay net.buried net'.buried d.buried;
        },
        λ served. tt,
        λ q w served closed left named comes.
            causes_always (λ y i b. ClosesFor (call_of s s' net net' new b (record { server = server; id = id; came = Opened; went = Ends }) None None served left))
            (λ y i b. dial_failed refl d.fault.1) [] es,
      );
    })
    (λ y. let link = y.0 in let net1 = y.1 in let net2 = y.2 in let d = y.4 in let dead = y.5 in let b = y.6.buries in record {
      touch = Some (record { server = server; id = id; came = Opened; went = Ends });
      at_server = refl;
      seat = failed_seat old mid near new n first id f z.2 y.6.closes;
      comes = (refl, refl);
      goes = λ s s' es makes none has. (
        record {
          before = None;
          after = Some (what_of_link link);
          gone = Some link;
          was = (none, refl);
          is = (has, (d.fresh.dial, refl));
          same = tt;
          dials = (
            true,
            link.tag,
            gains_dial (told_dial server id true link.tag) net.dials net1.dials net'.dials d.dials (subst (λ (q : Option (List DialTold)). StaysTold q net'.dials) (ap (λ (q : NetState). q.dials) dead.0.0) b.2),
            follows_ends server id net.course net1.course link net' (what_of_link link) (ap (λ (q : NetState). q.course) d.net) d.follows refl dead.1,
            subst (λ (q : Option Course). LeavesPlans (without_next server (plans_of net.course)) net.course q) (sym (ap (λ (q : NetState). q.course) b.0 ∙ (ap (λ (q : NetState). q.course) dead.0.0 ∙ ap (λ (q : NetState). option_map attached q.course) d.net)))
                (course_attached (without_next server (plans_of net.course)) net.course (option_map (after_dial server) net.course) (course_dialled server net.course)),
            inl (refl, (what_of_link link, refl, refl)),
          );
          buries = opened_buries net.buried net1.buried net2.buried net'.buried link d.buried (ap (λ (q : NetState). q.buried) dead.0.0) b.3;
        },
        λ served. tt,
        λ q w served closed left named comes.
            let rose : Rose net.faults net'.faults = rose_on net.faults net2.faults net'.faults (subst (λ (k : ℕ). Rose k net2.faults) (ap (λ (u : NetState). u.faults) d.net) dead.2.1) b.1 in
            causes_always (λ v i b. ClosesFor (call_of s s' net net' new b (record { server = server; id = id; came = Opened; went = Ends }) None (Some (what_of_link link)) served left))
            (λ v i b. dial_failed refl rose) [] es,
      );
    })
    z.3)
    k

pub connects_touch : {X : Type 0} (old new : History) (n : SessionNo) (first : Bool) (server : ServerNo) (now : ℕ) (m : MethodKind) (net net' : NetState) (c : Connected X)
    → old.about.server ≡ server → Connects old new n first server now m net net' c → ConnectTouches old new n first server net net' c
connects_touch old new n first server now m net net' c here k = ⊎_elim
    (λ a. rested_touch old a.0 new n first server a.1 now m net net' c here a.3 a.2 a.4)
    (λ b. new_touch old b.0 new n first server m net net' c b.1 b.2)
    k
