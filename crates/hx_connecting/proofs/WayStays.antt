-- A connection that stays with its session, from call to call.
use Rattle.std.proofs.Common.{◌≡◌, ℕ, ◌+◌, List, [], ◌++◌, refl, sym, ap, subst, ◌∙◌, inl, inr, append_assoc, Option, Some, None, ⊎_elim}
use Rattle.std.specs.Prelude.{IfSome}
use Rattle.std.proofs.lemmas.List.Elements.{Contains-append_right}
use Rattle.hx_base.specs.Spans.{bytes_in}
use Rattle.hx_base.specs.declared.numbers.ThreadNo.{ThreadNo}
use Rattle.hx_base.specs.declared.numbers.SessionNo.{SessionNo}
use Rattle.hx_base.specs.declared.what.What.{What}
use Rattle.hx_base.specs.declared.what.LinkTold.{LinkTold}
use Rattle.hx_conn.specs.Conns.{RestedNow, BusyNow}
use Rattle.hx_conn.specs.WhatTold.{what_of_link}
use Rattle.hx_link.specs.Told.{LinkState}
use Rattle.hx_link.specs.Nets.{NetState}
use Rattle.hx_message.specs.Message.{Persists}
use Rattle.hx_message.specs.declared.MethodKind.{MethodKind}
use Rattle.hx_pool.specs.declared.entries.Note.{Note}
use Rattle.hx_pool.specs.SeatView.{History}
use Rattle.hx_record.specs.declared.served.Carried.{Carried}
use Rattle.hx_record.specs.declared.served.Kind.{Kind}
use Rattle.hx_record.specs.declared.served.Kind.TheVariants as kind
use Rattle.hx_record.specs.declared.served.Served.{Served}
use Rattle.hx_pool.specs.History.{marks_of, own_of}
use Rattle.hx_pool.specs.Wants.{ClosesForCause}
use Rattle.std.proofs.lemmas.List.{append-nil}
use Rattle.hx_connecting.specs.Closings.{ClosesFor, call_of}
use Rattle.hx_connecting.specs.Outcomes.{Outcome, CloseNone}
use Rattle.hx_connecting.proofs.CauseLemmas.{Causes, causes_on, causes_behind, causes_wider, cause_back, cause_wider}
use Rattle.hx_connecting.specs.Exchanges.{HadGoes, IsSameExchange, ExchangeGoes, PassedEnds, EndsWith, IsClosed, CameGoes}
use Rattle.hx_connecting.specs.Links.{IsSameLink, GoesOn, TellsBefore, TellsAfter}
use Rattle.hx_connecting.specs.Sessions.{SessionNow, Holding, Resting, Exchanging, IsSomeAnd, conn_link, conn_server, conn_id}
use Rattle.hx_connecting.specs.Touches.{Touch, Came, Had, Opened, Took, Went, Stays, Rests, Ends, EndsTakenBack}
use Rattle.hx_connecting.specs.Ways.{IsOwn, GivesOwn, FitsRecord, stays_of, told_by, StaysWith, ExchangeStays, ToldStays, StaysOn, WayOf}
use Rattle.hx_connecting.proofs.WayLemmas.{same_self, same_then}

exchange_self : (b : BusyNow) → IsSameExchange b b
exchange_self b = record { begins = record { uses_are = refl; sent_from = refl; taken_from = refl }; method = refl }

pub exchange_then : (a b c : BusyNow) → IsSameExchange a b → IsSameExchange b c → IsSameExchange a c
exchange_then a b c x y = record {
  begins = record { uses_are = y.begins.uses_are ∙ x.begins.uses_are; sent_from = y.begins.sent_from ∙ x.begins.sent_from; taken_from = y.begins.taken_from ∙ x.begins.taken_from };
  method = y.method ∙ x.method;
}

some_same : {A : Type 0} (x y : A) → Some x ≡ Some y → x ≡ y
some_same x y e = cc

busy_same : (s : SessionNow) (b c : BusyNow) → s.conn ≡ Some (Exchanging b) → s.conn ≡ Some (Exchanging c) → c ≡ b
busy_same s b c x y = cc

not_resting : (s : SessionNow) (b : BusyNow) (r : RestedNow) → s.conn ≡ Some (Exchanging b) → s.conn ≡ Some (Resting r) → ⊥
not_resting s b r x y = cc

not_none : (s : SessionNow) (c : Holding) → s.conn ≡ Some c → s.conn ≡ None → ⊥
not_none s c x y = cc

-- what a record of each kind says of the connection
pub own_ends : (s : SessionNow) (x : Touch) (w : Option What) (q : RestedNow) (k : Kind) → s.conn ≡ Some (Resting q) → IsOwn k → PassedEnds s x w k
own_ends s x w q (kind.Passed c) e own = absurd own
own_ends s x w q (kind.Cut c why) e own = absurd own
own_ends s x w q (kind.Own status) e own = inr (q, e)

pub closed_ends : (s : SessionNow) (x : Touch) (w : Option What) (k : Kind) → IsClosed x.went → PassedEnds s x w k
closed_ends s x w (kind.Passed c) e = inl e
closed_ends s x w (kind.Cut c why) e = e
closed_ends s x w (kind.Own status) e = inl e

ends_same : (a b : BusyNow) (c : Carried) (o : Option LinkTold) → b.exchange.method ≡ a.exchange.method → IfSome o (λ l. EndsWith b c l.sent l.taken) → IfSome o (λ l. EndsWith a c l.sent l.taken)
ends_same a b c None m e = tt
ends_same a b c (Some l) m e = record {
  all_sent = e.all_sent;
  all_taken = e.all_taken;
  persists = subst (λ (k : MethodKind). Persists k (bytes_in l.taken c.took)) m e.persists;
}

told_same : (a b : BusyNow) (c : Carried) (w : Option What) → b.exchange.method ≡ a.exchange.method → IsSomeAnd w (λ v. IfSome v.told (λ l. EndsWith b c l.sent l.taken))
    → IsSomeAnd w (λ v. IfSome v.told (λ l. EndsWith a c l.sent l.taken))
told_same a b c None m e = e
told_same a b c (Some v) m e = ends_same a b c v.told m e

pub same_ends : (s s2 : SessionNow) (x x2 : Touch) (w : Option What) (a b : BusyNow) (k : Kind) → s.conn ≡ Some (Exchanging a) → s2.conn ≡ Some (Exchanging b) → x2.went ≡ x.went → IsSameExchange a b
    → PassedEnds s2 x2 w k → PassedEnds s x w k
same_ends s s2 x x2 w a b (kind.Passed c) was was2 went same e = ⊎_elim
    (λ z. inl (subst IsClosed went z))
    (λ z. inr (a, was, told_same a z.0 c w (ap (λ (y : BusyNow). y.exchange.method) (busy_same s2 b z.0 was2 z.1) ∙ same.method) z.2))
    e
same_ends s s2 x x2 w a b (kind.Cut c why) was was2 went same e = subst IsClosed went e
same_ends s s2 x x2 w a b (kind.Own status) was was2 went same e = ⊎_elim (λ z. inl (subst IsClosed went z)) (λ z. absurd (not_resting s2 b z.0 was2 z.1)) e

-- nothing was done with it
pub stays_self : (c : Option Holding) (served : Option Served) → GivesOwn served c → StaysWith c c served
stays_self None None own = (refl, tt)
stays_self None (Some r) own = (refl, own.0)
stays_self (Some (Resting r)) None own = (Resting r, refl, record { server = refl; id = refl; link = same_self r.link; goes = (refl, refl, refl); fits = tt })
stays_self (Some (Resting r)) (Some x) own = (
  Resting r,
  refl,
  record { server = refl; id = refl; link = same_self r.link; goes = (refl, refl, refl); fits = λ s was. record { ends = own_ends s (stays_of (Resting r)) (Some (what_of_link r.link)) r x.kind was own.0; told = refl } },
)
stays_self (Some (Exchanging b)) None own = (Exchanging b, refl, record { server = refl; id = refl; link = same_self b.link; goes = exchange_self b; fits = tt })
stays_self (Some (Exchanging b)) (Some x) own = absurd own.1

pub on_self : (c : Option Holding) → StaysOn c c
on_self None = refl
on_self (Some (Resting r)) = refl
on_self (Some (Exchanging b)) = (b, refl, record { server = refl; id = refl; link = same_self b.link; same = exchange_self b }, refl)

pub stays_then_busy : (a b c : BusyNow) → ExchangeStays a b → ExchangeStays b c → ExchangeStays a c
stays_then_busy a b c x y = record {
  server = y.server ∙ x.server;
  id = y.id ∙ x.id;
  link = same_then (what_of_link a.link) (what_of_link b.link) (what_of_link c.link) x.link y.link;
  same = exchange_then a b c x.same y.same;
}

-- an exchange that went on, and goes on
pub on_then : (c k d : Option Holding) → StaysOn c k → StaysOn k d → StaysOn c d
on_then None k d x y = subst (λ (o : Option Holding). StaysOn o d) x y
on_then (Some (Resting r)) k d x y = subst (λ (o : Option Holding). StaysOn o d) x y
on_then (Some (Exchanging a)) k d x y =
    let b = x.0 in
    let z = subst (λ (o : Option Holding). StaysOn o d) x.1 y in
    (z.0, z.1, stays_then_busy a b z.0 x.2 z.2, z.3 ∙ x.3)

had_then : (a b : BusyNow) (k : Holding) (served : Option Served) → IsSameExchange a b → HadGoes (Exchanging b) k served → HadGoes (Exchanging a) k served
had_then a b (Exchanging c) served x y = exchange_then a b c x y
had_then a b (Resting r) served x y = (y.0 ∙ ap (λ (u : ℕ). u + 1) x.begins.uses_are, y.1, y.2)

fits_then : (a b : BusyNow) (k : Holding) (served : Option Served) → IsSameExchange a b → IfSome served (λ r. ToldStays a b)
    → IfSome served (λ r. (s : SessionNow) → s.conn ≡ Some (Exchanging b) → FitsRecord s (stays_of (Exchanging b)) (Some (what_of_link b.link)) (Some (what_of_link (conn_link k))) r)
    → IfSome served (λ r. (s : SessionNow) → s.conn ≡ Some (Exchanging a) → FitsRecord s (stays_of (Exchanging a)) (Some (what_of_link a.link)) (Some (what_of_link (conn_link k))) r)
fits_then a b k None same told f = tt
fits_then a b k (Some r) same told f = λ s was.
    let s2 : SessionNow = record s { conn = Some (Exchanging b) } in
    let z = f s2 refl in
    record {
      ends = same_ends s s2 (stays_of (Exchanging a)) (stays_of (Exchanging b)) (Some (what_of_link (conn_link k))) a b r.kind was refl refl same z.ends;
      told = z.told ∙ told;
    }

-- an exchange that went on, and then stays with the session; where a record is given no byte was moved before
pub stays_behind : (a b : BusyNow) (d : Option Holding) (served : Option Served) → ExchangeStays a b → IfSome served (λ r. ToldStays a b) → StaysWith (Some (Exchanging b)) d served
    → StaysWith (Some (Exchanging a)) d served
stays_behind a b d served x told y =
    let e = y.2 in (
      y.0,
      y.1,
      record {
        server = e.server ∙ x.server;
        id = e.id ∙ x.id;
        link = same_then (what_of_link a.link) (what_of_link b.link) (what_of_link (conn_link y.0)) x.link e.link;
        goes = had_then a b y.0 served x.same e.goes;
        fits = fits_then a b y.0 served x.same told e.fits;
      },
    )

always : {P : Type 0} (served : Option Served) → P → IfSome served (λ r. P)
always None p = tt
always (Some r) p = p

pub stays_then : (c k d : Option Holding) (served : Option Served) → StaysOn c k → StaysWith k d served → StaysWith c d served
stays_then None k d served x y = subst (λ (o : Option Holding). StaysWith o d served) x y
stays_then (Some (Resting r)) k d served x y = subst (λ (o : Option Holding). StaysWith o d served) x y
stays_then (Some (Exchanging a)) k d served x y =
    stays_behind a x.0 d served x.2 (always served x.3) (subst (λ (o : Option Holding). StaysWith o d served) x.1 y)

pub on_stays : (c d : Option Holding) → StaysOn c d → StaysWith c d None
on_stays c d x = stays_then c d d None x (stays_self d None tt)

-- the way of its link behind an exchange that went on
goes_behind : (a b : What) (o : Option What) → IsSameLink a b → GoesOn (Some b) o → GoesOn (Some a) o
goes_behind a b None x y = y
goes_behind a b (Some c) x y = same_then a b c x y

pub record WasHad (s : SessionNow) (h : History) (es : List Note) (x : Touch) (came : Came) (a b : BusyNow) (w : Option What) : Type 0 where
  pub was : TellsBefore s h es x came (Some (what_of_link a.link))
  pub told : w ≡ Some (what_of_link b.link)
  pub had : came ≡ Had

had_behind : (s s2 : SessionNow) (h : History) (es : List Note) (x : Touch) (came : Came) (a b : BusyNow) (w : Option What) → s.conn ≡ Some (Exchanging a) → s2.conn ≡ Some (Exchanging b) → ExchangeStays a b
    → TellsBefore s2 h es x came w → WasHad s h es x came a b w
had_behind s s2 h es x Had a b w was was2 e t =
    let same : t.0 ≡ Exchanging b = some_same t.0 (Exchanging b) (sym t.1.0 ∙ was2) in
    record {
      was = (Exchanging a, (was, sym e.server ∙ (sym (ap conn_server same) ∙ t.1.1), sym e.id ∙ (sym (ap conn_id same) ∙ t.1.2)), refl);
      told = t.2 ∙ ap (λ (c : Holding). Some (what_of_link (conn_link c))) same;
      had = refl;
    }
had_behind s s2 h es x Opened a b w was was2 e t = absurd (not_none s2 (Exchanging b) was2 t.0)
had_behind s s2 h es x (Took place uses) a b w was was2 e t = absurd (not_none s2 (Exchanging b) was2 t.0)

came_behind : (came : Came) (c d : Option Holding) (a b : BusyNow) (w v : Option What) (new : Holding) (served : Option Served) → came ≡ Had → c ≡ Some (Exchanging a) → d ≡ Some (Exchanging b) → IsSameExchange a b
    → CameGoes came d w new served → CameGoes came c v new served
came_behind came c d a b w v new served had was was2 same y =
    let there : CameGoes Had (Some (Exchanging b)) w new served = subst (λ (o : Option Holding). CameGoes Had o w new served) was2 (subst (λ (z : Came). CameGoes z d w new served) had y) in
    subst (λ (z : Came). CameGoes z c v new served) (sym had) (subst (λ (o : Option Holding). CameGoes Had o v new served) (sym was) (had_then a b new served same there))

exchange_behind : (s s2 s' : SessionNow) (x : Touch) (went : Went) (a b : BusyNow) (w v : Option What) (served : Option Served) → x.came ≡ Had → s.conn ≡ Some (Exchanging a) → s2.conn ≡ Some (Exchanging b)
    → IsSameExchange a b → ExchangeGoes s2 s' x went w served → ExchangeGoes s s' x went v served
exchange_behind s s2 s' x Stays a b w v served had was was2 same y = (y.0, y.1, came_behind x.came s.conn s2.conn a b w v y.0 served had was was2 same y.2)
exchange_behind s s2 s' x (Rests place uses) a b w v served had was was2 same y =
    (a, was, y.2, y.3 ∙ ap (λ (u : ℕ). u + 1) (ap (λ (z : BusyNow). z.uses) (busy_same s2 b y.0 was2 y.1) ∙ same.begins.uses_are), y.4)
exchange_behind s s2 s' x Ends a b w v served had was was2 same y = tt
exchange_behind s s2 s' x (EndsTakenBack place uses) a b w v served had was was2 same y = y

record_behind : (s s2 : SessionNow) (x : Touch) (a b : BusyNow) (before after : Option What) (served : Option Served) → before ≡ Some (what_of_link b.link) → s.conn ≡ Some (Exchanging a)
    → s2.conn ≡ Some (Exchanging b) → IsSameExchange a b → IfSome served (λ r. ToldStays a b) → IfSome served (λ r. FitsRecord s2 x before after r)
    → IfSome served (λ r. FitsRecord s x (Some (what_of_link a.link)) after r)
record_behind s s2 x a b before after None is was was2 same told f = tt
record_behind s s2 x a b before after (Some r) is was was2 same told f =
    record { ends = same_ends s s2 x x after a b r.kind was was2 refl same f.ends; told = f.told ∙ (ap told_by is ∙ told) }

pub way_behind : (t : ThreadNo) (n : SessionNo) (a b : BusyNow) (c' : Option Holding) (o : Outcome) (h : History) (es : List Note) (old new : NetState) (x : Touch) (served : Option Served) → ExchangeStays a b
    → IfSome served (λ r. ToldStays a b) → WayOf t n (Some (Exchanging b)) c' o h es old new x served → WayOf t n (Some (Exchanging a)) c' o h es old new x served
way_behind t n a b c' o h es old new x served e told way = λ s s' was is by named.
    let s2 : SessionNow = record s { conn = Some (Exchanging b) } in
    let z = way s2 s' refl is by named in
    let g = z.0 in
    let had = had_behind s s2 h es x x.came a b g.before was refl e g.was in (
      record {
        before = Some (what_of_link a.link);
        after = g.after;
        gone = g.gone;
        was = had.was;
        is = g.is;
        same = goes_behind (what_of_link a.link) (what_of_link b.link) g.after e.link (subst (λ (o : Option What). GoesOn o g.after) had.told g.same);
        dials = g.dials;
        buries = g.buries;
      },
      exchange_behind s s2 s' x x.went a b g.before (Some (what_of_link a.link)) served had.had was refl e.same z.1,
      record_behind s s2 x a b g.before g.after served had.told was refl e.same told z.2,
      λ closed left number comes.
          causes_on (λ m id q. ClosesFor (call_of s2 s' old new h q x g.before g.after served left)) (λ m id q. ClosesFor (call_of s s' old new h q x (Some (what_of_link a.link)) g.after served left))
          (λ m id q. cause_back s s2 s' old new h q x g.before (Some (what_of_link a.link)) g.after served left a b was refl refl had.had e.same) [] es (z.3 closed left number comes),
    )

pub way_on : (t : ThreadNo) (n : SessionNo) (c k c' : Option Holding) (z : Outcome) (h : History) (es : List Note) (old new : NetState) (x : Touch) (served : Option Served) → StaysOn c k
    → WayOf t n k c' z h es old new x served → WayOf t n c c' z h es old new x served
way_on t n None k c' z h es old new x served e way = subst (λ (o : Option Holding). WayOf t n o c' z h es old new x served) e way
way_on t n (Some (Resting r)) k c' z h es old new x served e way = subst (λ (o : Option Holding). WayOf t n o c' z h es old new x served) e way
way_on t n (Some (Exchanging a)) k c' z h es old new x served e way =
    way_behind t n a e.0 c' z h es old new x served e.2 (always served e.3) (subst (λ (o : Option Holding). WayOf t n o c' z h es old new x served) e.1 way)

-- with entries before those of the way
tells_wider : (s : SessionNow) (xs es : List Note) (x : Touch) (went : Went) (l : Option LinkState) (w : Option What) → TellsAfter s es x went l w → TellsAfter s (xs ++ es) x went l w
tells_wider s xs es x Stays l w y = y
tells_wider s xs es x (Rests place uses) l w y = (y.0, y.1, (y.2.0, y.2.1, Contains-append_right xs es _ y.2.2))
tells_wider s xs es x Ends l w y = y
tells_wider s xs es x (EndsTakenBack place uses) l w y = y

before_wider : (s : SessionNow) (h : History) (xs es : List Note) (x : Touch) (came : Came) (w : Option What) → TellsBefore s h es x came w → TellsBefore s h (xs ++ es) x came w
before_wider s h xs es x Had w y = y
before_wider s h xs es x Opened w y = y
before_wider s h xs es x (Took place uses) w y =
    let z = y.1 in
    let own = own_of h.about.thread z.1 in
    (y.0, (z.0, z.1, z.2, z.3, z.4, z.5, xs ++ z.6, ap (λ (l : List Note). xs ++ l) z.7 ∙ sym (append_assoc xs z.6 own)))

pub way_wider : (t : ThreadNo) (n : SessionNo) (c c' : Option Holding) (o : Outcome) (h : History) (xs es : List Note) (old new : NetState) (x : Touch) (served : Option Served) → CloseNone (marks_of xs)
    → WayOf t n c c' o h es old new x served → WayOf t n c c' o h (xs ++ es) old new x served
way_wider t n c c' o h xs es old new x served none way = λ s s' was is by named.
    let z = way s s' was is by named in
    let g = z.0 in (
      record {
        before = g.before;
        after = g.after;
        gone = g.gone;
        was = before_wider s h xs es x x.came g.before g.was;
        is = tells_wider s' xs es x x.went g.gone g.after g.is;
        same = g.same;
        dials = g.dials;
        buries = g.buries;
      },
      z.1,
      z.2,
      λ closed left number comes.
          let P : Causes = λ m id b. ClosesFor (call_of s s' old new h b x g.before g.after served left) in
          causes_behind P [] xs es none
          (subst (λ (l : List Note). ClosesForCause P l es) (append-nil xs) (causes_wider P P xs (λ m id b. cause_wider s s' old new h xs b x g.before g.after served left) [] es (z.3 closed left number comes))),
    )
