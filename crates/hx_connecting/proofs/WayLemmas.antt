-- How links go on through calls, and nets.
use Rattle.std.proofs.Common.{◌≡◌, ℕ, ◌+◌, ◌≤◌, Bool, true, false, List, [], ◌∷◌, ◌++◌, length, refl, sym, ap, subst, ◌∙◌, inl, inr, arith, Option, Some, None, ⊎_elim, append_assoc}
use Rattle.std.specs.Prelude.{IfSome, IsSome, option_map, take}
use Rattle.std.proofs.lemmas.List.{append-nil}
use Rattle.hx_base.specs.declared.what.What.{What}
use Rattle.hx_base.specs.declared.what.LinkTold.{LinkTold}
use Rattle.hx_base.specs.declared.numbers.ConnId.{ConnId}
use Rattle.hx_base.specs.declared.plan.Plan.{Plan}
use Rattle.hx_conn.specs.WhatTold as whats
use Rattle.hx_conn.specs.WhatTold.{what_of_link}
use Rattle.hx_conn.specs.Conns.{RestedNow, BusyNow}
use Rattle.hx_conn.specs.Steps.{Probes, ProbesOk, BeginsOk}
use Rattle.hx_link.specs.Told.{LinkState}
use Rattle.hx_link.specs.Links.{LinkReads, LinkWrites, LinkFinishes}
use Rattle.hx_link.specs.declared.answers.Put.{Put}
use Rattle.hx_link.specs.declared.answers.Put.TheVariants as put
use Rattle.hx_base.specs.declared.numbers.ServerNo.{ServerNo}
use Rattle.hx_message.specs.declared.MethodKind.{MethodKind}
use Rattle.hx_conn.specs.Conns.{IsRested}
use Rattle.hx_conn.specs.Causes.{death_of}
use Rattle.hx_connecting.specs.Connecting.{Dies}
use Rattle.hx_connecting.specs.Sessions.{Exchanging}
use Rattle.hx_connecting.specs.Exchanges.{BeginsAt, TookGoes}
use Rattle.hx_connecting.specs.Touches.{Opened, Stays, Ends}
use Rattle.hx_connecting.specs.Links.{DialFollows}
use Rattle.hx_link.specs.Courses.{Course, attached, after_attach, after_dial, without_next, attach_fails}
use Rattle.hx_link.specs.Nets.{NetState, AttachCounted, NetBuries, NetDetaches, StaysTold, GainsTold, TellsDial, DialTold, FollowsNext, HasNoNext}
use Rattle.hx_link.specs.declared.answers.Got.{Got}
use Rattle.hx_link.specs.declared.answers.Got.TheVariants as got
use Rattle.hx_connecting.specs.Links.{GrowsTold, IsSameLink, GainsAll, LeavesPlans, plans_of, CourseStays}

-- bytes stand behind those that were told
abbrev Grows : Option (List ℕ) → Option (List ℕ) → Type 0
Grows a b = (more : List ℕ) × (b ≡ option_map (λ xs. xs ++ more) a)

stay : (a : Option (List ℕ)) → Grows a a
stay None = ([], refl)
stay (Some xs) = ([], ap (λ l. Some l) (sym (append-nil xs)))

grow_told : (sa ta : Option (List ℕ)) (k m : List ℕ) (ea eb : Bool) → (ea ≡ true → eb ≡ true)
    → IfSome (whats.told_of sa ta ea) (λ c. (d : LinkTold) × (whats.told_of (option_map (λ xs. xs ++ k) sa) (option_map (λ xs. xs ++ m) ta) eb ≡ Some d) × GrowsTold c d)
grow_told None ta k m ea eb h = tt
grow_told (Some s) None k m ea eb h = tt
grow_told (Some s) (Some t) k m ea eb h = (record { sent = s ++ k; taken = t ++ m; ended = eb }, refl, record { sent = (k, refl); taken = (m, refl); ended = h })

told_before : (sa ta : Option (List ℕ)) (k m : List ℕ) (ea eb : Bool) → IsSome (whats.told_of (option_map (λ xs. xs ++ k) sa) (option_map (λ xs. xs ++ m) ta) eb) → IsSome (whats.told_of sa ta ea)
told_before None ta k m ea eb h = h
told_before (Some s) None k m ea eb h = h
told_before (Some s) (Some t) k m ea eb h = refl

same_of : (a b : LinkState) → b.tag ≡ a.tag → b.plan ≡ a.plan → a.faults ≤ b.faults → Grows a.sent b.sent → Grows a.taken b.taken → (a.told_end ≡ true → b.told_end ≡ true)
    → IsSameLink (what_of_link a) (what_of_link b)
same_of a b tag plan faults (k, ke) (m, me) ended =
    let same : whats.told_of b.sent b.taken b.told_end ≡ whats.told_of (option_map (λ xs. xs ++ k) a.sent) (option_map (λ xs. xs ++ m) a.taken) b.told_end =
    ap (λ (s : Option (List ℕ)). whats.told_of s b.taken b.told_end) ke ∙ ap (λ (t : Option (List ℕ)). whats.told_of (option_map (λ xs. xs ++ k) a.sent) t b.told_end) me in
    record {
      tag = tag;
      plan = plan;
      faults = faults;
      told = subst (λ (o : Option LinkTold). IfSome (whats.told_of a.sent a.taken a.told_end) (λ c. (d : LinkTold) × (o ≡ Some d) × GrowsTold c d)) (sym same) (grow_told a.sent a.taken k m a.told_end b.told_end ended);
      told_before = λ h. told_before a.sent a.taken k m a.told_end b.told_end (subst (λ (o : Option LinkTold). IsSome o) same h);
    }

pub reads_same : (a b : LinkState) (now : ℕ) (answer : Got) (bytes : List ℕ) → LinkReads a b now answer bytes → IsSameLink (what_of_link a) (what_of_link b)
reads_same a b now (got.Bytes n) bytes r =
    subst (λ (l : LinkState). IsSameLink (what_of_link a) (what_of_link l)) (sym r)
    (same_of a (record a { taken_count = a.taken_count + n; taken = option_map (λ xs. xs ++ take n bytes) a.taken; read_waited = false }) refl refl (omega arith) (stay a.sent) (take n bytes, refl) (λ e. e))
reads_same a b now got.NotYet bytes r =
    subst (λ (l : LinkState). IsSameLink (what_of_link a) (what_of_link l)) (sym r.0)
    (same_of a (record a { read_waits = b.read_waits; read_wait_at = now; read_waited = true }) refl refl (omega arith) (stay a.sent) (stay a.taken) (λ e. e))
reads_same a b now got.End bytes r =
    subst (λ (l : LinkState). IsSameLink (what_of_link a) (what_of_link l)) (sym r)
    (same_of a (record a { told_end = true }) refl refl (omega arith) (stay a.sent) (stay a.taken) (λ e. refl))
reads_same a b now got.Failed bytes r =
    subst (λ (l : LinkState). IsSameLink (what_of_link a) (what_of_link l)) (sym r.0)
    (same_of a (record a { faults = b.faults }) refl refl (omega (arith, r.1.0)) (stay a.sent) (stay a.taken) (λ e. e))

-- a link that rested, and the exchange that begins on it
pub begun_same : (r p : RestedNow) (now : ℕ) (b : BusyNow) (loop : ℕ) → ProbesOk r now p → b.link ≡ record p.link { on_loop = Some loop } → IsSameLink (what_of_link r.link) (what_of_link b.link)
begun_same r p now b loop k e =
    subst (λ (l : LinkState). IsSameLink (what_of_link r.link) (what_of_link l)) (sym e) (reads_same r.link p.link now k.1.answer k.1.byte k.1.reads)

-- what a net keeps
gains_none : {A : Type 0} (a : Option (List A)) → GainsAll [] a a
gains_none None = inl refl
gains_none (Some xs) = inl (ap (λ l. Some l) (sym (append-nil xs)))

pub gains_stay : {A : Type 0} (a b : Option (List A)) → StaysTold a b → GainsAll [] a b
gains_stay a b s = ⊎_elim (λ e. subst (λ o. GainsAll [] a o) (sym e) (gains_none a)) (λ e. inr e) s

pub course_stays : (o : Option Course) → LeavesPlans (plans_of o) o o
course_stays None = tt
course_stays (Some c) = (c, refl, refl, λ e. e)

failing_after : (f : Option ℕ) → f ≡ None → after_attach f ≡ None
failing_after None e = refl
failing_after (Some k) e = cc

pub course_attached : (plans : List Plan) (o : Option Course) (p : Option Course) → LeavesPlans plans o p → LeavesPlans plans o (option_map attached p)
course_attached plans None p l = tt
course_attached plans (Some c) p (d, e, same, none) = (attached d, ap (λ x. option_map attached x) e, same, λ h. failing_after d.failing (none h))

none_some : {A : Type 0} {x : A} → None ≡ Some x → ⊥
none_some e = cc

-- a probe that the connection outlives moves no byte
pub probe_counts : (r : RestedNow) (now : ℕ) (link : LinkState) → Probes r now link None → (link.sent_count ≡ r.link.sent_count) × (link.taken_count ≡ r.link.taken_count)
probe_counts r now link p = by_answer p.answer p.reads p.tells
  where
    by_answer : (answer : Got) → LinkReads r.link link now answer p.byte → None ≡ death_of answer → (link.sent_count ≡ r.link.sent_count) × (link.taken_count ≡ r.link.taken_count)
    by_answer (got.Bytes n) reads e = absurd (none_some e)
    by_answer got.NotYet reads e = (ap (λ (l : LinkState). l.sent_count) reads.0, ap (λ (l : LinkState). l.taken_count) reads.0)
    by_answer got.End reads e = absurd (none_some e)
    by_answer got.Failed reads e = absurd (none_some e)

begins_told : (b : BusyNow) (u sc tc : ℕ) (s t : Option (List ℕ)) (ended : Bool) → IfSome s (λ x. length x ≡ sc) → IfSome t (λ x. length x ≡ tc) → BeginsAt b u sc tc
    → IfSome (whats.told_of s t ended) (λ l. BeginsAt b u (length l.sent) (length l.taken))
begins_told b u sc tc None t ended hs ht k = tt
begins_told b u sc tc (Some s) None ended hs ht k = tt
begins_told b u sc tc (Some s) (Some t) ended hs ht k = record { uses_are = k.uses_are; sent_from = k.sent_from ∙ sym hs; taken_from = k.taken_from ∙ sym ht }

-- the exchange on a connection that was taken begins where its bytes at rest end
pub took_goes : (r p : RestedNow) (now : ℕ) (m : MethodKind) (net net' : NetState) (b : BusyNow) → IsRested r → ProbesOk r now p → BeginsOk p m net net' b → TookGoes (Some (what_of_link r.link)) r.uses (Exchanging b)
took_goes r p now m net net' b rested probes begins =
    let counts = probe_counts r now p.link probes.1 in
    let uses : b.uses ≡ r.uses = ap (λ (x : BusyNow). x.uses) begins.1 ∙ ap (λ (q : RestedNow). q.uses) probes.0 in (
      uses,
      begins_told b r.uses r.link.sent_count r.link.taken_count r.link.sent r.link.taken r.link.told_end rested.counted.sent rested.counted.taken
          (record { uses_are = uses; sent_from = ap (λ (x : BusyNow). x.exchange.sent_from) begins.1 ∙ counts.0; taken_from = ap (λ (x : BusyNow). x.exchange.taken_from) begins.1 ∙ counts.1 }),
    )

pub gains_eq : {A : Type 0} (a b : Option (List A)) → b ≡ a → GainsAll [] a b
gains_eq a b e = gains_stay a b (inl e)

leaves_eq : (plans : List Plan) (o p q : Option Course) → q ≡ p → LeavesPlans plans o p → LeavesPlans plans o q
leaves_eq plans o p q e l = subst (λ x. LeavesPlans plans o x) (sym e) l

pub attach_dials : (net net' : NetState) → AttachCounted net net' → GainsAll [] net.dials net'.dials × CourseStays net net'
attach_dials net net' k = (
  gains_eq net.dials net'.dials (ap (λ (q : NetState). q.dials) k.0),
  leaves_eq (plans_of net.course) net.course (option_map attached net.course) net'.course (ap (λ (q : NetState). q.course) k.0) (course_attached (plans_of net.course) net.course net.course (course_stays net.course)),
)

pub record DiesSo (r : RestedNow) (link : LinkState) (net net' : NetState) : Type 0 where
  pub same : IsSameLink (what_of_link r.link) (what_of_link link)
  pub dial : TellsDial r.server r.id link
  pub dials : net'.dials ≡ net.dials
  pub course : CourseStays net net'
  pub buried : net'.buried ≡ net.buried

reads_dial : (a b : LinkState) (now : ℕ) (answer : Got) (bytes : List ℕ) → LinkReads a b now answer bytes → b.dial ≡ a.dial
reads_dial a b now (got.Bytes n) bytes r = ap (λ (l : LinkState). l.dial) r
reads_dial a b now got.NotYet bytes r = ap (λ (l : LinkState). l.dial) r.0
reads_dial a b now got.End bytes r = ap (λ (l : LinkState). l.dial) r
reads_dial a b now got.Failed bytes r = ap (λ (l : LinkState). l.dial) r.0

dial_of : (r : RestedNow) (b : LinkState) → b.dial ≡ r.link.dial → TellsDial r.server r.id r.link → TellsDial r.server r.id b
dial_of r b e t = subst (λ (o : Option (ℕ × ℕ)). IfSome o (λ d. d ≡ (r.server.0, r.id.0))) (sym e) t

pub dies_so : (r : RestedNow) (now : ℕ) (link : LinkState) (net net' : NetState) → IsRested r → Dies r now link net net' → DiesSo r link net net'
dies_so r now link net net' rested d = ⊎_elim
    (λ a. let p = a.1.1.2 in record {
      same = reads_same r.link link now p.answer p.byte p.reads;
      dial = dial_of r link (reads_dial r.link link now p.answer p.byte p.reads) rested.dial;
      dials = ap (λ (q : NetState). q.dials) a.2;
      course = leaves_eq (plans_of net.course) net.course net.course net'.course (ap (λ (q : NetState). q.course) a.2) (course_stays net.course);
      buried = ap (λ (q : NetState). q.buried) a.2;
    })
    (λ b. let p = b.2.1 in let k = b.3 in record {
      same = subst (λ (l : LinkState). IsSameLink (what_of_link r.link) (what_of_link l)) (sym k.3) (reads_same r.link b.0.link now p.answer p.byte p.reads);
      dial = dial_of r link (ap (λ (l : LinkState). l.dial) k.3 ∙ reads_dial r.link b.0.link now p.answer p.byte p.reads) rested.dial;
      dials = ap (λ (q : NetState). q.dials) k.0.0;
      course = (attach_dials net net' k.0).1;
      buried = ap (λ (q : NetState). q.buried) k.0.0;
    })
    d

pub bury_dials : (net mid net' : NetState) (link : LinkState) → mid.dials ≡ net.dials → CourseStays net mid → NetBuries mid net' link → GainsAll [] net.dials net'.dials × CourseStays net net'
bury_dials net mid net' link dials course k = (
  subst (λ o. GainsAll [] o net'.dials) dials (gains_stay mid.dials net'.dials k.2),
  leaves_eq (plans_of net.course) net.course mid.course net'.course (ap (λ (q : NetState). q.course) k.0) course,
)

pub bury_gains : (old mid new : Option (List LinkState)) (link : LinkState) → mid ≡ old → GainsTold link mid new → GainsAll (link ∷ []) old new
bury_gains old mid new link e g = subst (λ o. GainsAll (link ∷ []) o new) e (⊎_elim (λ x. inl x) (λ x. inr x) g)

-- a dial, and what the net does after it
pub course_dialled : (server : ServerNo) (o : Option Course) → LeavesPlans (without_next server (plans_of o)) o (option_map (after_dial server) o)
course_dialled server None = tt
course_dialled server (Some c) = (after_dial server c, refl, refl, λ e. e)

pub gains_dial : (x : DialTold) (old mid new : Option (List DialTold)) → GainsTold x old mid → StaysTold mid new → GainsAll (x ∷ []) old new
gains_dial x old mid new g s = ⊎_elim (λ e. subst (λ o. GainsAll (x ∷ []) old o) (sym e) (⊎_elim (λ y. inl y) (λ y. inr y) g)) (λ e. inr e) s

stays_not : Stays ≡ Ends → ⊥
stays_not e = cc

pub follows_stays : (server : ServerNo) (id : ConnId) (o : Option Course) (link : LinkState) (new : NetState) (w : What) → FollowsNext server o link → w.plan ≡ link.plan
    → IfSome o (λ c. DialFollows (record { server = server; id = id; came = Opened; went = Stays }) c new true (Some w))
follows_stays server id None link new w f e = tt
follows_stays server id (Some c) link new w f e = (f.0, f.1, f.2, e ∙ f.3, λ k. absurd (stays_not k))

pub follows_ends : (server : ServerNo) (id : ConnId) (o p : Option Course) (link : LinkState) (new : NetState) (w : What) → p ≡ option_map (after_dial server) o → FollowsNext server o link → w.plan ≡ link.plan
    → IfSome p (λ c. attach_fails c.failing ≡ true)
    → IfSome o (λ c. DialFollows (record { server = server; id = id; came = Opened; went = Ends }) c new true (Some w))
follows_ends server id None p link new w is f e fails = tt
follows_ends server id (Some c) p link new w is f e fails = (f.0, f.1, f.2, e ∙ f.3, λ k. subst (λ (q : Option Course). IfSome q (λ c. attach_fails c.failing ≡ true)) is fails)

pub fails_none : (server : ServerNo) (id : ConnId) (o : Option Course) (new : NetState) → HasNoNext server o new
    → IfSome o (λ c. DialFollows (record { server = server; id = id; came = Opened; went = Ends }) c new false None)
fails_none server id None new h = tt
fails_none server id (Some c) new h = h

-- a link that was dialled and buried in the call
pub opened_buries : (a b c d : Option (List LinkState)) (link : LinkState) → StaysTold a b → c ≡ b → GainsTold link c d → GainsAll (link ∷ []) a d
opened_buries a b c d link s e g = ⊎_elim
    (λ x. bury_gains a c d link (e ∙ x) g)
    (λ x. ⊎_elim (λ y. inr (y ∙ ap (λ (o : Option (List LinkState)). option_map (λ xs. xs ++ link ∷ []) o) (e ∙ x))) (λ y. inr y) g)
    s

pub writes_same : (a b : LinkState) (now : ℕ) (answer : Put) (bytes : List ℕ) → LinkWrites a b now answer bytes → IsSameLink (what_of_link a) (what_of_link b)
writes_same a b now (put.Bytes n) bytes r =
    subst (λ (l : LinkState). IsSameLink (what_of_link a) (what_of_link l)) (sym r)
    (same_of a (record a { sent_count = a.sent_count + n; sent = option_map (λ xs. xs ++ take n bytes) a.sent; read_waited = false }) refl refl (omega arith) (take n bytes, refl) (stay a.taken) (λ e. e))
writes_same a b now put.NotYet bytes r =
    subst (λ (l : LinkState). IsSameLink (what_of_link a) (what_of_link l)) (sym r.0)
    (same_of a (record a { write_waits = b.write_waits; write_wait_at = now }) refl refl (omega arith) (stay a.sent) (stay a.taken) (λ e. e))
writes_same a b now put.Failed bytes r =
    subst (λ (l : LinkState). IsSameLink (what_of_link a) (what_of_link l)) (sym r.0)
    (same_of a (record a { faults = b.faults }) refl refl (omega (arith, r.1.0)) (stay a.sent) (stay a.taken) (λ e. e))

-- a link that is finished, or detached
pub finishes_same : (a b : LinkState) → LinkFinishes a b → IsSameLink (what_of_link a) (what_of_link b)
finishes_same a b r =
    subst (λ (l : LinkState). IsSameLink (what_of_link a) (what_of_link l)) (sym r.0)
    (same_of a (record a { faults = b.faults }) refl refl (omega (arith, r.1)) (stay a.sent) (stay a.taken) (λ e. e))

pub detaches_same : (old new : NetState) (a b : LinkState) → NetDetaches old new a b → IsSameLink (what_of_link a) (what_of_link b)
detaches_same old new a b r =
    subst (λ (l : LinkState). IsSameLink (what_of_link a) (what_of_link l)) (sym r.1)
    (same_of a (record a { on_loop = None }) refl refl (omega arith) (stay a.sent) (stay a.taken) (λ e. e))

-- from one call to the next
pub same_then : (a b c : What) → IsSameLink a b → IsSameLink b c → IsSameLink a c
same_then a b c x y = record {
  tag = y.tag ∙ x.tag;
  plan = y.plan ∙ x.plan;
  faults = omega (arith, x.faults, y.faults);
  told = by_told a.told x.told;
  told_before = λ h. x.told_before (y.told_before h);
}
  where
    on : (k : LinkTold) (d : LinkTold) → b.told ≡ Some d → GrowsTold k d → (e : LinkTold) × (c.told ≡ Some e) × GrowsTold k e
    on k d e g =
        let z = subst (λ (o : Option LinkTold). IfSome o (λ q. (e : LinkTold) × (c.told ≡ Some e) × GrowsTold q e)) e y.told in (
          z.0,
          z.1,
          record {
            sent = (g.sent.0 ++ z.2.sent.0, z.2.sent.1 ∙ (ap (λ l. l ++ z.2.sent.0) g.sent.1 ∙ append_assoc k.sent g.sent.0 z.2.sent.0));
            taken = (g.taken.0 ++ z.2.taken.0, z.2.taken.1 ∙ (ap (λ l. l ++ z.2.taken.0) g.taken.1 ∙ append_assoc k.taken g.taken.0 z.2.taken.0));
            ended = λ q. z.2.ended (g.ended q);
          },
        )

    by_told : (t : Option LinkTold) → IfSome t (λ k. (d : LinkTold) × (b.told ≡ Some d) × GrowsTold k d) → IfSome t (λ k. (e : LinkTold) × (c.told ≡ Some e) × GrowsTold k e)
    by_told None h = tt
    by_told (Some k) h = on k h.0 h.1 h.2

pub same_self : (a : LinkState) → IsSameLink (what_of_link a) (what_of_link a)
same_self a = same_of a a refl refl (omega arith) (stay a.sent) (stay a.taken) (λ e. e)
