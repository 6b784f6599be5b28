-- Why a session leaves.
use Rattle.std.proofs.Common.{◌≡◌, ◌⊎◌, ◌≤◌, ℕ, Bool, true, false, List, [], ◌∷◌, ◌++◌, length, take, drop, refl, sym, ap, subst, ◌∙◌, inl, inr, arith, length-append, Option, Some, None, ⊎_elim}
use Rattle.std.specs.Prelude.{IfSome, if◌then◌else◌}
use Rattle.std.proofs.lemmas.List.{take-append-drop}
use Rattle.std.specs.List.{slice_get}
use Rattle.httparse.specs.Ascii.{space}
use Rattle.httparse.specs.Grammar.{ReadsRequest, HasNoRequest, MayBecomeRequest, print_blank}
use Rattle.hx_record.specs.Samples.{ask as sample}
use Rattle.hx_record.proofs.TrueSamples.{ask_head, asked}
use Rattle.hx_session_parts.specs.Asks.{AskLooks}
use Rattle.hx_session_parts.specs.declared.asks.AskLook.TheVariants.{More}
use Rattle.httparse.proofs.GrammarLemmas.{ReadsRequest-append, print_request-append}
use Rattle.hx_base.specs.Counts.{Rose}
use Rattle.hx_base.specs.declared.numbers.Millis.{Millis}
use Rattle.hx_config.specs.declared.parts.Back.{Back}
use Rattle.hx_config.specs.declared.parts.Front.{Front}
use Rattle.hx_config.specs.Meaning.{Meaning}
use Rattle.hx_connecting.specs.Choosing.{back_at, back_no}
use Rattle.hx_link.specs.Told.{LinkState}
use Rattle.hx_message.specs.Partial.{HasWholeRequest}
use Rattle.hx_record.specs.declared.served.CutCause.{CutCause}
use Rattle.hx_record.specs.declared.served.CutCause.TheVariants as cut
use Rattle.hx_record.specs.declared.served.Kind.{Kind}
use Rattle.hx_record.specs.declared.served.Kind.TheVariants as kind
use Rattle.hx_record.specs.declared.served.Left.{Left as Leave}
use Rattle.hx_record.specs.declared.served.LeftCause.{LeftCause}
use Rattle.hx_record.specs.declared.served.LeftCause.TheVariants as cause
use Rattle.hx_record.specs.declared.served.Served.{Served}
use Rattle.hx_session.specs.declared.deadline.Late.TheVariants.{Client}
use Rattle.hx_session.specs.declared.stage.Came.{Came}
use Rattle.hx_session.specs.declared.stage.Came.TheVariants.{On, Moved, Ends}
use Rattle.hx_session.specs.Causes.{HasCome, Limits, LeavesFor, ended, after, idle, fault}
use Rattle.hx_session.specs.Desks.{DeskNow}
use Rattle.hx_session.specs.Exchanged.{ExchangeNow}
use Rattle.hx_session.specs.First.{FindsLate}
use Rattle.hx_session.specs.Fits.{limits_of, limits_with}
use Rattle.hx_session.specs.Leaving.{LeavesBy, CameLeaves, NoneWhole}
use Rattle.hx_session.specs.Moves.{GivesClient, ReadsClient}
use Rattle.hx_session.specs.declared.moves.Move.TheVariants.{Failed}
use Rattle.hx_session.specs.Records.{cut_ends, ends_after}
use Rattle.hx_session.specs.Seen.{session_seen}
use Rattle.hx_session.specs.Stages.{StageNow, Exchanging, IsBetween}
use Rattle.hx_session.specs.Telling.{CameTells, DoneTells, IsOfStage, LeavesOwn, LeavesWith, TellsEnd}
use Rattle.hx_session.proofs.IdleLemmas.{since_bytes}

-- no request stands in no bytes
empty_front : (a b c : List ℕ) (x : ℕ) → [] ≡ a ++ (b ++ x ∷ c) → ⊥
empty_front a b c x e = omega (arith, ap length e, length-append a (b ++ x ∷ c), length-append b (x ∷ c))

pub none_empty : (bytes : List ℕ) → bytes ≡ [] → HasNoRequest bytes
none_empty bytes e h rest r = empty_front (print_blank h.blank) h.method _ space (sym e ∙ (r.1 ∙ print_request-append h rest))

-- but one may come
pub empty_more : (bytes : List ℕ) → bytes ≡ [] → AskLooks bytes More
empty_more bytes e = (omega (arith, ap (λ (xs : List ℕ). length xs) e), none_empty bytes e, subst MayBecomeRequest (sym e) (inl (sample, ask_head, asked.reads)))

-- and where no head stands no whole request does
none_whole : (bytes : List ℕ) → HasNoRequest bytes → (n : ℕ) → HasWholeRequest bytes n → ⊥
none_whole bytes none n (inside, (m, (g, body, x, is))) =
    none g (body ++ drop n bytes) (subst (λ (b : List ℕ). ReadsRequest b g (body ++ drop n bytes)) (take-append-drop n bytes) (ReadsRequest-append (take n bytes) g body (drop n bytes) x.begins.reads))

pub between_none : (d : DeskNow) → IsBetween d → HasNoRequest d.from.bytes → NoneWhole d.client d.ask_from
between_none d b none = since_bytes (λ bytes. (n : ℕ) → HasWholeRequest bytes n → ⊥) d.client.taken d.client.taken_count d.ask_from d.from.bytes b.anew.taken (none_whole d.from.bytes none)

-- a fault was counted
pub rose_one : (a b : ℕ) → Rose a b → 1 ≤ b
rose_one a b r = omega (arith, r)

pub gave_fault : (d d' : DeskNow) (now : ℕ) → GivesClient d d' now Failed → 1 ≤ d'.client.faults
gave_fault d d' now g = rose_one d.client.faults d'.client.faults g.1.1.1

pub took_fault : (d d' : DeskNow) (now : ℕ) → ReadsClient d d' now Failed → 1 ≤ d'.client.faults
took_fault d d' now g = rose_one d.client.faults d'.client.faults g.1.1.1

-- with the record of an exchange it leaves for another cause
exch_leaves : (limits : Limits) (now : ℕ) (d0 d : DeskNow) (e : ExchangeNow) (why w : LeftCause) (r : Served) (k : Kind) → IsOfStage (Exchanging e) d0 w r k → LeavesWith (ends_after k) why → LeavesBy limits now d why
exch_leaves limits now d0 d e why w r (kind.Own status) of k = absurd of
exch_leaves limits now d0 d e why w r (kind.Passed c) of k = by_closing c.closing k
  where
    by_closing : (b : Bool) → LeavesWith (if b then Some cause.Closing else None) why → LeavesBy limits now d why
    by_closing true l = ⊎_elim (λ z. subst (λ (x : LeftCause). LeavesBy limits now d x) (sym z) tt) (λ z. absurd (own_not z.0)) l
      where
        own_not : cause.Closing ≡ cause.Own → ⊥
        own_not z = cc
    by_closing false l = absurd l
exch_leaves limits now d0 d e why w r (kind.Cut c x) of k = ⊎_elim (λ z. subst (λ (q : LeftCause). LeavesBy limits now d q) (sym z) (by_cut x)) (λ z. absurd (own_not x z.0)) k
  where
    by_cut : (x : CutCause) → LeavesBy limits now d (cut_ends x)
    by_cut cut.Early = tt
    by_cut cut.Ended = tt
    by_cut cut.Fault = tt
    by_cut cut.Broken = tt
    by_cut cut.Late = tt
    by_cut cut.Client = tt
    by_cut cut.Silent = tt
    by_cut cut.Stop = tt

    own_not : (x : CutCause) → cut_ends x ≡ cause.Own → ⊥
    own_not cut.Early z = cc
    own_not cut.Ended z = cc
    own_not cut.Fault z = cc
    own_not cut.Broken z = cc
    own_not cut.Late z = cc
    own_not cut.Client z = cc
    own_not cut.Silent z = cc
    own_not cut.Stop z = cc

end_leaves : (limits : Limits) (now : ℕ) (d0 d1 d : DeskNow) (e : ExchangeNow) (served : Option Served) (why : LeftCause) → TellsEnd (Exchanging e) d0 d1 served why → LeavesBy limits now d why
end_leaves limits now d0 d1 d e None why t = absurd t.2
end_leaves limits now d0 d1 d e (Some r) why t = exch_leaves limits now d0 d e why why r r.kind t.1 t.2

-- a part of a step that begins in an exchange
pub told_leaves : {X : Type 0} (limits : Limits) (now : ℕ) (d0 d1 d : DeskNow) (e : ExchangeNow) (c : Came X) → CameTells d0 (Exchanging e) d1 c → CameLeaves limits now d c
told_leaves limits now d0 d1 d e (On stage w) t = tt
told_leaves limits now d0 d1 d e (Moved stage w served) t = tt
told_leaves limits now d0 d1 d e (Ends x) t = end_leaves limits now d0 d1 d e x.served x.cause t

-- an own answer's record is given with it
pub own_leaves_by : (limits : Limits) (now : ℕ) (d d' : DeskNow) (why : LeftCause) → d'.client ≡ d.client → d'.since ≡ d.since → LeavesOwn d why → LeavesBy limits now d why → LeavesBy limits now d' why
own_leaves_by limits now d d' cause.End client since own k = absurd (⊎_elim (λ z. by_own z.0) (λ z. ⊎_elim (λ y. by_fault y) (λ y. ⊎_elim (λ x. by_idle x) (λ x. by_stop x) y) z) own)
  where
    by_own : cause.End ≡ cause.Own → ⊥
    by_own z = cc

    by_fault : cause.End ≡ cause.Fault → ⊥
    by_fault z = cc

    by_idle : cause.End ≡ cause.Idle → ⊥
    by_idle z = cc

    by_stop : cause.End ≡ cause.Stop → ⊥
    by_stop z = cc
own_leaves_by limits now d d' cause.Fault client since own k = subst (λ (l : LinkState). 1 ≤ l.faults) (sym client) k
own_leaves_by limits now d d' cause.Idle client since own k = subst (λ (m : Millis). HasCome limits.client m.0 now ⊎ HasCome limits.keep_alive m.0 now) (sym since) k
own_leaves_by limits now d d' cause.Closing client since own k = tt
own_leaves_by limits now d d' cause.Own client since own k = tt
own_leaves_by limits now d d' cause.Cut client since own k = tt
own_leaves_by limits now d d' cause.Stop client since own k = tt

-- once the client's link is on no loop
pub loose_leaves : (limits : Limits) (now : ℕ) (d d' : DeskNow) (why : LeftCause) → d'.client ≡ record d.client { on_loop = None } → d'.since ≡ d.since → d'.ask_from ≡ d.ask_from → LeavesBy limits now d why → LeavesBy limits now d' why
loose_leaves limits now d d' cause.End client since begins k =
    subst (λ (l : LinkState). (l.told_end ≡ true) × NoneWhole l d'.ask_from) (sym client) (k.0, subst (λ (n : ℕ). NoneWhole d.client n) (sym begins) k.1)
loose_leaves limits now d d' cause.Fault client since begins k = subst (λ (l : LinkState). 1 ≤ l.faults) (sym client) k
loose_leaves limits now d d' cause.Idle client since begins k = subst (λ (m : Millis). HasCome limits.client m.0 now ⊎ HasCome limits.keep_alive m.0 now) (sym since) k
loose_leaves limits now d d' cause.Closing client since begins k = tt
loose_leaves limits now d d' cause.Own client since begins k = tt
loose_leaves limits now d d' cause.Cut client since begins k = tt
loose_leaves limits now d d' cause.Stop client since begins k = tt

-- the client's deadline
pub late_leaves : (d : DeskNow) (s : StageNow) (front : Front) (back : Back) (now : ℕ) → FindsLate d s front back now (Some Client) → LeavesBy (limits_with (Some front) (Some back)) now d cause.Idle
late_leaves d s front back now k = ⊎_elim (λ c. inl c) (λ c. inr c.0) k

-- the timeouts of the session's frontend and backend
pub limits_same : (config : Meaning) (front : ℕ) (f : Front) (b : Back) → slice_get config.fronts front ≡ Some f → slice_get config.backs f.back ≡ Some b → limits_of config front ≡ limits_with (Some f) (Some b)
limits_same config front f b front_is back_is = ap (λ (o : Option Front). limits_with o (back_at config (back_no o))) front_is ∙ ap (λ (o : Option Back). limits_with (Some f) o) back_is

-- a failure or a deadline
by_late : (limits : Limits) (now front : ℕ) (d d' : DeskNow) (s s' : StageNow) (served : Option Served) (why : LeftCause) → d'.since ≡ d.since → (why ≡ cause.Fault) ⊎ (why ≡ cause.Idle)
    → LeavesBy limits now d' why → LeavesFor limits (session_seen front d s) (session_seen front d' s') served now why
by_late limits now front d d' s s' served why since z k = ⊎_elim
    (λ e. subst (λ (w : LeftCause). LeavesFor limits (session_seen front d s) (session_seen front d' s') served now w) (sym e) (fault (subst (λ (w : LeftCause). LeavesBy limits now d' w) e k)))
    (λ e. subst (λ (w : LeftCause). LeavesFor limits (session_seen front d s) (session_seen front d' s') served now w) (sym e)
    (idle (subst (λ (m : Millis). HasCome limits.client m.0 now ⊎ HasCome limits.keep_alive m.0 now) since (subst (λ (w : LeftCause). LeavesBy limits now d' w) e k))))
    z

-- as the worker sees it
pub leaves_for_cause : (limits : Limits) (now front : ℕ) (d d' : DeskNow) (s s' : StageNow) (served : Option Served) (left : Option Leave) → d'.since ≡ d.since → DoneTells d s d' s' served left
    → IfSome left (λ l. LeavesBy limits now d' l.cause) → IfSome left (λ l. LeavesFor limits (session_seen front d s) (session_seen front d' s') served now l.cause)
leaves_for_cause limits now front d d' s s' served None since t k = tt
leaves_for_cause limits now front d d' s s' None (Some l) since t k = ⊎_elim
    (λ e. let b = subst (λ (w : LeftCause). LeavesBy limits now d' w) e k in subst (λ (w : LeftCause). LeavesFor limits (session_seen front d s) (session_seen front d' s') None now w) (sym e) (ended b.0 b.1))
    (λ z. by_late limits now front d d' s s' None l.cause since z k)
    t.1
leaves_for_cause limits now front d d' s s' (Some r) (Some l) since t k = with_record (ends_after r.kind) refl t.2
  where
    with_record : (o : Option LeftCause) → ends_after r.kind ≡ o → LeavesWith o l.cause → LeavesFor limits (session_seen front d s) (session_seen front d' s') (Some r) now l.cause
    with_record None e w = absurd w
    with_record (Some y) e w = ⊎_elim
        (λ z. after r l.cause refl (e ∙ ap (λ (q : LeftCause). Some q) (sym z)))
        (λ z. ⊎_elim (λ x. by_late limits now front d d' s s' (Some r) l.cause since (inl x) k) (λ x. ⊎_elim (λ q. by_late limits now front d d' s s' (Some r) l.cause since (inr q) k) (λ q. absurd (t.4 q)) x) z.1)
        w
