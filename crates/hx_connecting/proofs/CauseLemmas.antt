-- Why a connection is closed: a cause of each Close among entries.
use Rattle.std.proofs.Common.{◌≡◌, ◌⊎◌, ℕ, ◌<◌, ◌≤◌, Bool, true, false, List, [], ◌∷◌, ◌++◌, length, take, refl, sym, ap, subst, ◌∙◌, inl, inr, arith, append_assoc, length-append, cond, Option, Some, None, ⊎_elim}
use Rattle.std.specs.Prelude.{IfSome, option_map}
use Rattle.std.proofs.lemmas.List.{append-nil, length-take}
use Rattle.hx_base.specs.Counts.{Rose}
use Rattle.hx_base.specs.declared.numbers.SessionNo.{SessionNo}
use Rattle.hx_base.specs.declared.numbers.ConnId.{ConnId}
use Rattle.hx_base.specs.declared.numbers.PlaceNo.{PlaceNo}
use Rattle.hx_base.specs.Spans.{bytes_in}
use Rattle.hx_message.specs.declared.MethodKind.{MethodKind}
use Rattle.hx_message.specs.Message.{Persists}
use Rattle.hx_base.specs.declared.what.What.{What}
use Rattle.hx_link.specs.Told.{LinkState}
use Rattle.hx_link.specs.Links.{LinkReads}
use Rattle.hx_link.specs.Nets.{NetState}
use Rattle.hx_link.specs.Sources.{GotFits}
use Rattle.hx_link.specs.declared.answers.Got.{Got}
use Rattle.hx_link.specs.declared.answers.Got.TheVariants as got
use Rattle.hx_conn.specs.Causes.{death_of}
use Rattle.hx_conn.specs.Conns.{RestedNow, BusyNow}
use Rattle.hx_conn.specs.WhatTold.{told_of, what_of_link}
use Rattle.hx_conn.specs.declared.causes.Death.{Death}
use Rattle.hx_pool.specs.declared.entries.Entry.{Entry}
use Rattle.hx_pool.specs.declared.entries.Entry.TheVariants.{Open, Park, Take, Free, Close, Look, Up, Down, Count, Gate, SetGate, Round}
use Rattle.hx_pool.specs.declared.entries.Note.{Note}
use Rattle.hx_pool.specs.History.{is_mark, marks_of}
use Rattle.hx_pool.specs.SeatView.{History}
use Rattle.hx_pool.specs.Wants.{ClosesForCause, EndsRefused}
use Rattle.hx_record.specs.declared.served.Left.{Left}
use Rattle.hx_record.specs.declared.served.Served.{Served}
use Rattle.hx_connecting.specs.Connecting.{Dies as DeadLink}
use Rattle.hx_connecting.specs.Closings.{ClosesFor, Dies, TellsDeath, MayNotRest, call_of, ended_at_rest, dial_failed, not_reusable, never_shared, broken_off}
use Rattle.hx_connecting.specs.Exchanges.{IsSameExchange}
use Rattle.hx_connecting.specs.Outcomes.{ClosesNot, CloseNone}
use Rattle.hx_connecting.specs.Sessions.{SessionNow, Resting, Exchanging, IsSomeAnd}
use Rattle.hx_connecting.specs.Touches.{Touch, Had, Opened, Took}

-- what may be the cause of a Close
abbrev pub Causes : Type 1
Causes = SessionNo → ConnId → List Note → Type 0

-- a cause that speaks of no entries
close_any : (P : Causes) (b : List Note) → ((n : SessionNo) (id : ConnId) → P n id b) → (e : Entry) → ClosesForCause P b (record { entry = e; what = None } ∷ [])
close_any P b f (Open t n id) = (tt, tt)
close_any P b f (Park t n id place uses) = (tt, tt)
close_any P b f (Take t n first place id uses) = (tt, tt)
close_any P b f (Free t place) = (tt, tt)
close_any P b f (Close t n id) = (λ ne. f n id, tt)
close_any P b f (Look t place found) = (tt, tt)
close_any P b f (Up t old) = (tt, tt)
close_any P b f (Down t old) = (tt, tt)
close_any P b f (Count t c) = (tt, tt)
close_any P b f (Gate t draining) = (tt, tt)
close_any P b f (SetGate t draining) = (tt, tt)
close_any P b f (Round t k old) = (tt, tt)

pub causes_always : (P : Causes) → ((n : SessionNo) (id : ConnId) (b : List Note) → P n id b) → (b es : List Note) → ClosesForCause P b es
causes_always P f b [] = tt
causes_always P f b (x ∷ es) = ((close_any P b (λ n id. f n id b) x.entry).0, causes_always P f (b ++ x ∷ []) es)

-- entries without a Close
tail_none : (b : Bool) (e : Entry) (ms : List Entry) → CloseNone (cond b (e ∷ ms) ms) → CloseNone ms
tail_none true e ms none = none.1
tail_none false e ms none = none

head_none : (e : Entry) (ms : List Entry) → CloseNone (cond (is_mark e) (e ∷ ms) ms) → ClosesNot e
head_none (Open t n id) ms none = tt
head_none (Park t n id place uses) ms none = tt
head_none (Take t n first place id uses) ms none = tt
head_none (Free t place) ms none = tt
head_none (Close t n id) ms none = none.0
head_none (Look t place found) ms none = tt
head_none (Up t old) ms none = tt
head_none (Down t old) ms none = tt
head_none (Count t c) ms none = tt
head_none (Gate t draining) ms none = tt
head_none (SetGate t draining) ms none = tt
head_none (Round t k old) ms none = tt

not_closed : (P : Causes) (b : List Note) (e : Entry) → ClosesNot e → ClosesForCause P b (record { entry = e; what = None } ∷ [])
not_closed P b (Open t n id) none = (tt, tt)
not_closed P b (Park t n id place uses) none = (tt, tt)
not_closed P b (Take t n first place id uses) none = (tt, tt)
not_closed P b (Free t place) none = (tt, tt)
not_closed P b (Close t n id) none = absurd none
not_closed P b (Look t place found) none = (tt, tt)
not_closed P b (Up t old) none = (tt, tt)
not_closed P b (Down t old) none = (tt, tt)
not_closed P b (Count t c) none = (tt, tt)
not_closed P b (Gate t draining) none = (tt, tt)
not_closed P b (SetGate t draining) none = (tt, tt)
not_closed P b (Round t k old) none = (tt, tt)

pub causes_none : (P : Causes) (b es : List Note) → CloseNone (marks_of es) → ClosesForCause P b es
causes_none P b [] none = tt
causes_none P b (x ∷ es) none = ((not_closed P b x.entry (head_none x.entry (marks_of es) none)).0, causes_none P (b ++ x ∷ []) es (tail_none (is_mark x.entry) x.entry (marks_of es) none))

-- behind entries without a Close
pub causes_behind : (P : Causes) (b xs es : List Note) → CloseNone (marks_of xs) → ClosesForCause P (b ++ xs) es → ClosesForCause P b (xs ++ es)
causes_behind P b [] es none k = subst (λ (l : List Note). ClosesForCause P l es) (append-nil b) k
causes_behind P b (x ∷ xs) es none k = (
  (not_closed P b x.entry (head_none x.entry (marks_of xs) none)).0,
  causes_behind P (b ++ x ∷ []) xs es (tail_none (is_mark x.entry) x.entry (marks_of xs) none) (subst (λ (l : List Note). ClosesForCause P l es) (sym (append_assoc b (x ∷ []) xs)) k),
)

-- one entry
pub causes_last : (P : Causes) (b : List Note) (x : Note) → ((n : SessionNo) (id : ConnId) → P n id b) → ClosesForCause P b (x ∷ [])
causes_last P b x f = ((close_any P b f x.entry).0, tt)

-- the same entries behind others, for a cause that holds there too
close_on : (P Q : Causes) (b c : List Note) → ((n : SessionNo) (id : ConnId) → P n id b → Q n id c) → (e : Entry) → ClosesForCause P b (record { entry = e; what = None } ∷ [])
    → ClosesForCause Q c (record { entry = e; what = None } ∷ [])
close_on P Q b c f (Open t n id) k = (tt, tt)
close_on P Q b c f (Park t n id place uses) k = (tt, tt)
close_on P Q b c f (Take t n first place id uses) k = (tt, tt)
close_on P Q b c f (Free t place) k = (tt, tt)
close_on P Q b c f (Close t n id) k = (λ ne. f n id (k.0 ne), tt)
close_on P Q b c f (Look t place found) k = (tt, tt)
close_on P Q b c f (Up t old) k = (tt, tt)
close_on P Q b c f (Down t old) k = (tt, tt)
close_on P Q b c f (Count t x) k = (tt, tt)
close_on P Q b c f (Gate t draining) k = (tt, tt)
close_on P Q b c f (SetGate t draining) k = (tt, tt)
close_on P Q b c f (Round t x old) k = (tt, tt)

pub causes_wider : (P Q : Causes) (xs : List Note) → ((n : SessionNo) (id : ConnId) (b : List Note) → P n id b → Q n id (xs ++ b)) → (b es : List Note) → ClosesForCause P b es → ClosesForCause Q (xs ++ b) es
causes_wider P Q xs f b [] k = tt
causes_wider P Q xs f b (x ∷ es) k = (
  (close_on P Q b (xs ++ b) (λ n id. f n id b) x.entry (k.0, tt)).0,
  subst (λ (l : List Note). ClosesForCause Q l es) (sym (append_assoc xs b (x ∷ []))) (causes_wider P Q xs f (b ++ x ∷ []) es k.1),
)

pub causes_on : (P Q : Causes) → ((n : SessionNo) (id : ConnId) (b : List Note) → P n id b → Q n id b) → (b es : List Note) → ClosesForCause P b es → ClosesForCause Q b es
causes_on P Q f b es k = causes_wider P Q [] f b es k

-- a cause behind other entries of the call
refused_wider : (h : History) (n : SessionNo) (id : ConnId) (xs es : List Note) → EndsRefused h n id es → EndsRefused h n id (xs ++ es)
refused_wider h n id xs es r = record {
  old = r.old;
  new = r.new;
  v = r.v;
  why = r.why;
  added = r.added;
  about = r.about;
  is = r.is;
  refuses = r.refuses;
  makes = r.makes;
  ends = (xs ++ r.ends.0, ap (λ (l : List Note). xs ++ l) r.ends.1 ∙ sym (append_assoc xs r.ends.0 r.added));
  own = r.own;
}

pub cause_wider : (s s' : SessionNow) (old new : NetState) (h : History) (xs es : List Note) (x : Touch) (before after : Option What) (served : Option Served) (left : Option Left)
    → ClosesFor (call_of s s' old new h es x before after served left) → ClosesFor (call_of s s' old new h (xs ++ es) x before after served left)
cause_wider s s' old new h xs es x before after served left (ended_at_rest was dies) = ended_at_rest was dies
cause_wider s s' old new h xs es x before after served left (dial_failed came fails) = dial_failed came fails
cause_wider s s' old new h xs es x before after served left (not_reusable b p was passed may) =
    not_reusable b p was passed (⊎_elim (λ a. inl a) (λ a. ⊎_elim (λ c. inr (inl c)) (λ c. ⊎_elim (λ d. inr (inr (inl d))) (λ d. inr (inr (inr (refused_wider h s.number x.id xs es d)))) c) a) may)
cause_wider s s' old new h xs es x before after served left (never_shared mode leaves) = never_shared mode leaves
cause_wider s s' old new h xs es x before after served left (broken_off broke) = broken_off (record { exchange = broke.exchange; was = broke.was; ends = broke.ends })

-- and with more faults of the net behind it
pub rose_on : (a b c : ℕ) → Rose a b → b ≤ c → Rose a c
rose_on a b c r le = omega (arith, r, le)

pub cause_faults : (s s' : SessionNow) (old new new' : NetState) (h : History) (es : List Note) (x : Touch) (before after : Option What) (served : Option Served) (left : Option Left) → new.faults ≤ new'.faults
    → ClosesFor (call_of s s' old new h es x before after served left) → ClosesFor (call_of s s' old new' h es x before after served left)
cause_faults s s' old new new' h es x before after served left le (ended_at_rest was dies) = ended_at_rest was (⊎_elim (λ a. inl a) (λ b. inr (rose_on old.faults new.faults new'.faults b le)) dies)
cause_faults s s' old new new' h es x before after served left le (dial_failed came fails) = dial_failed came (rose_on old.faults new.faults new'.faults fails le)
cause_faults s s' old new new' h es x before after served left le (not_reusable b p was passed may) = not_reusable b p was passed may
cause_faults s s' old new new' h es x before after served left le (never_shared mode leaves) = never_shared mode leaves
cause_faults s s' old new new' h es x before after served left le (broken_off broke) = broken_off (record { exchange = broke.exchange; was = broke.was; ends = broke.ends })

-- behind an exchange that went on
rests_not : (s : SessionNow) (b : BusyNow) (r : RestedNow) → s.conn ≡ Some (Exchanging b) → s.conn ≡ Some (Resting r) → ⊥
rests_not s b r x y = cc

busy_same : (s : SessionNow) (b c : BusyNow) → s.conn ≡ Some (Exchanging b) → s.conn ≡ Some (Exchanging c) → b ≡ c
busy_same s b c x y = cc

took_not : (x : Touch) (place : PlaceNo) (uses : ℕ) → x.came ≡ Had → x.came ≡ Took place uses → ⊥
took_not x place uses a b = cc

opened_not : (x : Touch) → x.came ≡ Had → x.came ≡ Opened → ⊥
opened_not x a b = cc

pub cause_back : (s s2 s' : SessionNow) (old new : NetState) (h : History) (es : List Note) (x : Touch) (w v after : Option What) (served : Option Served) (left : Option Left) (a b : BusyNow) → s.conn ≡ Some (Exchanging a)
    → s2.conn ≡ Some (Exchanging b) → s.number ≡ s2.number → x.came ≡ Had → IsSameExchange a b → ClosesFor (call_of s2 s' old new h es x w after served left) → ClosesFor (call_of s s' old new h es x v after served left)
cause_back s s2 s' old new h es x w v after served left a b was was2 number had same (ended_at_rest rests dies) =
    absurd (⊎_elim (λ r. rests_not s2 b r.0 was2 r.1) (λ t. took_not x t.0 t.1 had t.2) rests)
cause_back s s2 s' old new h es x w v after served left a b was was2 number had same (dial_failed came fails) = absurd (opened_not x had came)
cause_back s s2 s' old new h es x w v after served left a b was was2 number had same (not_reusable c p is passed may) =
    let here : MayNotRest (call_of s2 s' old new h es x w after served left) b p = subst (λ (y : BusyNow). MayNotRest (call_of s2 s' old new h es x w after served left) y p) (sym (busy_same s2 b c was2 is)) may in
    let there : MayNotRest (call_of s s' old new h es x v after served left) a p = ⊎_elim
    (λ z. inl z)
    (λ z. ⊎_elim
    (λ y. inr (inl (subst (λ (m : MethodKind). IsSomeAnd after (λ q. IfSome q.told (λ l. ¬ Persists m (bytes_in l.taken p.took)))) same.method y)))
    (λ y. ⊎_elim (λ u. inr (inr (inl (sym same.begins.uses_are ∙ u)))) (λ u. inr (inr (inr (subst (λ (m : SessionNo). EndsRefused h m x.id es) (sym number) u)))) y)
    z)
    here in
    not_reusable a p was passed there
cause_back s s2 s' old new h es x w v after served left a b was was2 number had same (never_shared mode leaves) = never_shared mode leaves
cause_back s s2 s' old new h es x w v after served left a b was was2 number had same (broken_off broke) = broken_off (record { exchange = a; was = was; ends = broke.ends })

-- a link that rested is dead
told_dies : (s : Option (List ℕ)) (t u : Option (List ℕ)) (ended : Bool) (more : List ℕ) → u ≡ option_map (λ (xs : List ℕ). xs ++ more) t → 0 < length more
    → IfSome (told_of s t ended) (λ a. IfSome (told_of s u ended) (λ b. Dies a b))
told_dies None t u ended more e some = tt
told_dies (Some s) None u ended more e some = tt
told_dies (Some s) (Some t) u ended more e some =
    subst (λ (o : Option (List ℕ)). IfSome (told_of (Some s) o ended) (λ b. Dies (record { sent = s; taken = t; ended = ended }) b)) (sym e) (inr (omega (arith, some, length-append t more)))

told_ends : (s t : Option (List ℕ)) (ended : Bool) → IfSome (told_of s t ended) (λ a. IfSome (told_of s t true) (λ b. Dies a b))
told_ends None t ended = tt
told_ends (Some s) None ended = tt
told_ends (Some s) (Some t) ended = inl refl

read_dies : (a b : LinkState) (now : ℕ) (answer : Got) (byte : List ℕ) (cause : Death) → length byte ≡ 1 → GotFits answer 1 → LinkReads a b now answer byte → Some cause ≡ death_of answer
    → TellsDeath (Some (what_of_link a)) (Some (what_of_link b))
read_dies a b now (got.Bytes n) byte cause one fits r is = (
  what_of_link a,
  what_of_link b,
  refl,
  refl,
  inr (subst (λ (l : LinkState). IfSome (what_of_link a).told (λ x. IfSome (what_of_link l).told (λ y. Dies x y))) (sym r)
      (told_dies a.sent a.taken (option_map (λ (xs : List ℕ). xs ++ take n byte) a.taken) a.told_end (take n byte) refl (omega (arith, length-take n byte, one, fits)))),
)
read_dies a b now got.NotYet byte cause one fits r is = cc
read_dies a b now got.End byte cause one fits r is = (
  what_of_link a,
  what_of_link b,
  refl,
  refl,
  inr (subst (λ (l : LinkState). IfSome (what_of_link a).told (λ x. IfSome (what_of_link l).told (λ y. Dies x y))) (sym r) (told_ends a.sent a.taken a.told_end)),
)
read_dies a b now got.Failed byte cause one fits r is = (what_of_link a, what_of_link b, refl, refl, inl r.1.1)

pub dead_cause : (r : RestedNow) (now : ℕ) (link : LinkState) (net mid net' : NetState) → DeadLink r now link net mid → mid.faults ≤ net'.faults
    → TellsDeath (Some (what_of_link r.link)) (Some (what_of_link link)) ⊎ Rose net.faults net'.faults
dead_cause r now link net mid net' d le = ⊎_elim
    (λ a. let p = a.1.1.2 in inl (read_dies r.link link now p.answer p.byte a.1.1.0 p.one p.fits p.reads p.tells))
    (λ b. inr (rose_on net.faults mid.faults net'.faults b.3.2.1 le))
    d
