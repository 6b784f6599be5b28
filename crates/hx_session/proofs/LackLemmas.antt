use Rattle.hx_session.specs.declared.step.Waiting.{Waiting}
use Rattle.hx_session.specs.declared.stage.Stage.{Stage}
use Rattle.hx_session.specs.Standing.{GoesToHeld, IsGood, CamePlaced}
use Rattle.hx_session.specs.Seen.{conn_seen}
use Rattle.hx_session.specs.Picking.{IsSameKind, Picks}
use Rattle.hx_session.specs.Desks.{DeskNow}
use Rattle.hx_connecting.specs.Around.{resting}
use Rattle.hx_connecting.specs.Sessions.{Holding, Resting, Exchanging as Carrying}
use Rattle.hx_pool.specs.History.{opens_of}
use Rattle.hx_pool.specs.Opening.{Opens, open_limit}
use Rattle.hx_base.specs.declared.numbers.OutOfIds.{OutOfIds}
use Rattle.hx_base.specs.declared.numbers.ConnId.{ConnId}
use Rattle.hx_base.specs.Counts.{Rose}
use Rattle.std.specs.Prelude.{slice_get, slice_set}
-- Why no server took a request.
use Rattle.std.proofs.Common.{◌≡◌, ◌≤◌, ℕ, Bool, true, false, List, Option, Some, None, Ok, Err, refl, sym, ap, subst, ◌∙◌, inl, inr, [], ◌∷◌, zero, suc, arith, append-nil}
use Rattle.hx_base.specs.declared.numbers.ServerNo.{ServerNo}
use Rattle.hx_base.specs.declared.numbers.SessionNo.{SessionNo}
use Rattle.hx_config.specs.declared.parts.Server.{Server}
use Rattle.hx_conn.specs.Conns.{RestedNow}
use Rattle.hx_link.specs.Nets.{NetState}
use Rattle.hx_message.specs.declared.MethodKind.{MethodKind}
use Rattle.hx_pool.specs.SeatView.{History, About}
use Rattle.hx_connecting.specs.Choice.{AskedAll, in_turn}
use Rattle.hx_connecting.specs.Closing.{ConnectsTo}
use Rattle.hx_connecting.specs.Connecting.{OpensNone, TriesFor}
use Rattle.hx_connecting.specs.declared.connecting.Connected.{Connected}
use Rattle.hx_connecting.specs.declared.connecting.Connected.TheVariants.{Refused}
use Rattle.hx_session.specs.Beginning.{ChoosesIn, ChoosesServer}
use Rattle.hx_session.specs.Causes.{Unserved, all_drain, no_numbers, no_dial}
use Rattle.hx_session.specs.Decided.{AsksAll, CameAsks, CameOut, HasLack, Lack, RefusesAt, ServesNone, came_chosen, came_out, server_of, waits_out, OutOf, CameDecides, LacksAt, Terms, IsMoved}
use Rattle.hx_session.specs.Stages.{StageNow, Reading, Choosing, Exchanging, Answering, Left, stage_now}
use Rattle.hx_session.specs.declared.stage.Came.{Came}
use Rattle.hx_session.specs.declared.stage.Came.TheVariants.{On, Moved, Ends}

-- a try that was refused found no number, or closed what it had opened
tries_none : (X : Type 0) (old new : History) (n : SessionNo) (first : Bool) (v : ServerNo) (now : ℕ) (method : MethodKind) (net net' : NetState) (held : Option RestedNow)
    → TriesFor {X = X} old new n first v now method net net' held Refused → (mid : History) × OpensNone mid new n v net net'
tries_none X old new n first v now method net net' (Some r) (rested, never) = absurd never
tries_none X old new n first v now method net net' None (inl (mid, r, finds, rested, never)) = absurd never
tries_none X old new n first v now method net net' None (inr (mid, finds, none)) = (mid, none)

pub refuses_at : {X : Type 0} (olds news : List History) (n : SessionNo) (first : Bool) (v : ServerNo) (now : ℕ) (method : MethodKind) (net net' : NetState) (held : Option RestedNow) (c : Connected X)
    → c ≡ Refused → ConnectsTo olds news n first v now method net net' held c → RefusesAt n v olds news net net'
refuses_at {X = X} olds news n first v now method net net' held c is k =
    let z = tries_none X k.old k.new n first v now method net net' held (subst (λ (x : Connected X). TriesFor k.old k.new n first v now method net net' held x) is k.tries) in
    record { old = k.old; mid = z.0; new = k.new; was = k.was; seats = k.seats; none = z.1 }

-- a request for which no server was chosen behind the turn: each was asked
none_before : (servers : List Server) (turn turn' : ℕ) (olds news : List History) (v w : Option ServerNo) → ChoosesServer servers turn turn' olds news v w → w ≡ None → v ≡ None
none_before servers turn turn' olds news None w k e = refl
none_before servers turn turn' olds news (Some x) w k e = let z = sym k.0 ∙ e in cc

asked_none : (servers : List Server) (turn turn' : ℕ) (olds news : List History) (v w : Option ServerNo) → ChoosesServer servers turn turn' olds news v w → w ≡ None → AskedAll (in_turn servers turn) false olds news
asked_none servers turn turn' olds news None None k e = k.drained
asked_none servers turn turn' olds news None (Some x) k e = cc
asked_none servers turn turn' olds news (Some x) w k e = let z = sym k.0 ∙ e in cc

-- no connection of a session that had none rests with it
held_none : (k : Option Holding) (held : Option RestedNow) (server : Option ServerNo) → GoesToHeld held server → server ≡ None → IsSameKind k (resting held) → k ≡ None
held_none None held server goes none same = refl
held_none (Some (Resting r)) None server goes none same = cc
held_none (Some (Carrying b)) None server goes none same = let z = same.1 in cc
held_none k (Some r) server goes none same = let z = sym goes ∙ none in cc

asks_from : (servers : List Server) (turn turn' : ℕ) (k : Option Holding) (hs olds news : List History) (s s' : StageNow) → IsGood s → IsSameKind k (conn_seen s) → (k ≡ None → olds ≡ hs)
    → ChoosesIn servers turn turn' olds news s s' → AsksAll servers turn s' hs news
asks_from servers turn turn' k hs olds news (Choosing c) s' good same from x =
    subst (λ (z : StageNow). AsksAll servers turn z hs news) (sym x.1) (λ none.
    let before = none_before servers turn turn' olds news c.server x.0.server x.2.server none in
    subst (λ (l : List History). AskedAll (in_turn servers turn) false l news) (from (held_none k c.held c.server good before same))
    (asked_none servers turn turn' olds news c.server x.0.server x.2.server none))
asks_from servers turn turn' k hs olds news (Reading held) s' good same from x = subst (λ (z : StageNow). AsksAll servers turn z hs news) (sym x.0) tt
asks_from servers turn turn' k hs olds news (Exchanging e) s' good same from x = subst (λ (z : StageNow). AsksAll servers turn z hs news) (sym x.0) tt
asks_from servers turn turn' k hs olds news (Answering a) s' good same from x = subst (λ (z : StageNow). AsksAll servers turn z hs news) (sym x.0) tt
asks_from servers turn turn' k hs olds news Left s' good same from x = absurd good

-- of a step that goes on
pub asks_on : {X : Type 0} (servers : List Server) (turn turn' : ℕ) (d : DeskNow) (k : Option Holding) (v : Option ServerNo) (hs olds news : List History) (stage : Stage X) (w : Waiting) (s' : StageNow)
    → CamePlaced d (On stage w) olds → Picks k v hs (On stage w) olds → ChoosesIn servers turn turn' olds news (stage_now stage) s' → AsksAll servers turn s' hs news
asks_on servers turn turn' d k v hs olds news stage w s' placed p x = asks_from servers turn turn' k hs olds news (stage_now stage) s' placed.good p.1 p.2 x

-- the net failed where what was opened is closed again
rose_to : (a b c : ℕ) → Rose a b → b ≤ c → Rose a c
rose_to a b c r le = omega (arith, r, le)

pub rose_none : (mid new : History) (n : SessionNo) (v : ServerNo) (net net' : NetState) → ((h : History) × (id : ConnId) × Opens mid h n (Ok id)) → OpensNone mid new n v net net' → Rose net.faults net'.faults
rose_none mid new n v net net' (h, id, opened) (inl (e, spent, same)) = omega (arith, opened.0, spent.0)
rose_none mid new n v net net' o (inr (h, id, opens, inl (closes, fails))) = fails.fault.1
rose_none mid new n v net net' o (inr (h, id, opens, inr (link, dialled_net, after, why, dialled, dead, closed))) =
    rose_to net.faults after.faults net'.faults (subst (λ (f : ℕ). Rose f after.faults) (ap (λ (x : NetState). x.faults) dialled.net) dead.2.1) closed.buries.1

set_there : {A : Type 0} (xs : List A) (k : ℕ) (x y : A) → slice_get xs k ≡ Some x → slice_get (slice_set xs k y) k ≡ Some y
set_there [] k x y there = cc
set_there (z ∷ xs) zero x y there = refl
set_there (z ∷ xs) (suc k) x y there = set_there xs k x y there

spent_at : (mid new : History) (n : SessionNo) (e : OutOfIds) → Opens mid new n (Err e) → opens_of new.mine ≡ open_limit new.about.thread
spent_at mid new n e o =
    ap opens_of (o.1.makes.mine ∙ append-nil mid.mine) ∙ (o.0 ∙ ap (λ (a : About). open_limit a.thread) (sym o.1.makes.about))

-- so it is of the whole call
pub lifts : (k : Lack) (news : List History) (net net' : NetState) → (k.out ≡ true → (news ≡ k.news) × (k.net ≡ net) × (net' ≡ k.net')) → (u : Unserved) → HasLack k u → LacksAt k.servers k.olds news net net' u
lifts k news net net' tie all_drain h = (k.turn, subst (λ (l : List History). AskedAll (in_turn k.servers k.turn) false k.olds l) (sym ((tie h.0).0 ∙ h.3)) h.2)
lifts k news net net' tie no_numbers (out, v, chosen, (old, new, e, was, seats, (mid, opens))) =
    (v, new, ap (λ (l : List History). slice_get l v.0) ((tie out).0 ∙ seats) ∙ set_there k.asked v.0 old new was, spent_at mid new k.session e opens)
lifts k news net net' tie no_dial (out, v, chosen, rose) =
    subst (λ (x : NetState). Rose x.faults net'.faults) (tie out).1 (subst (λ (x : NetState). Rose k.net.faults x.faults) (sym (tie out).2) rose)

-- the net of a step that goes on is that where it began
pub far_net : {X : Type 0} (t : Terms) (now : ℕ) (d0 : DeskNow) (s0 : StageNow) (net0 : NetState) (d : DeskNow) (came : Came X) (net : NetState) → came_out came ≡ true → CameDecides t now d0 s0 net0 d came net → net ≡ net0
far_net t now d0 s0 net0 d (On stage w) net out k = k.net_same
far_net t now d0 s0 net0 d (Moved stage w served) net out k = cc
far_net t now d0 s0 net0 d (Ends e) net out k = cc

-- why, of a request that waits for its exchange
lack_at : (k : Lack) (v : Option ServerNo) → k.out ≡ true → k.chosen ≡ v → (v ≡ None → AskedAll (in_turn k.servers k.turn) false k.olds k.asked)
    → ServesNone k.session v k.asked k.news k.net k.net' → (u : Unserved) × HasLack k u
lack_at k None out chosen asks none = (all_drain, (out, chosen, asks refl, none))
lack_at k (Some v) out chosen asks refuses = by_none refuses.none
  where
    by_none : OpensNone refuses.mid refuses.new k.session v k.net k.net' → (u : Unserved) × HasLack k u
    by_none (inl (e, opens, same)) = (no_numbers, (out, v, chosen, (refuses.old, refuses.new, e, refuses.was, refuses.seats, (refuses.mid, opens))))
    by_none (inr (mid, id, opens, rest)) = (no_dial, (out, v, chosen, rose_none refuses.mid refuses.new k.session v k.net k.net' (mid, id, opens) (inr (mid, id, opens, rest))))

lack_of : (k : Lack) (s : StageNow) → k.out ≡ waits_out s → k.chosen ≡ server_of s → AsksAll k.servers k.turn s k.olds k.asked
    → OutOf k.session s k.asked k.news k.net k.net' → (u : Unserved) × HasLack k u
lack_of k (Reading held) out chosen asks o = absurd o
lack_of k (Choosing c) out chosen asks o = lack_at k c.server out chosen asks o
lack_of k (Exchanging e) out chosen asks o = absurd o
lack_of k (Answering a) out chosen asks o = absurd o
lack_of k Left out chosen asks o = absurd o

pub lacks : {X : Type 0} (k : Lack) (came : Came X) → k.out ≡ came_out came → k.chosen ≡ came_chosen came → CameAsks k.servers k.turn came k.olds k.asked
    → CameOut k.session came k.asked k.news k.net k.net' → (u : Unserved) × HasLack k u
lacks k (On stage w) out chosen asks o = lack_of k (stage_now stage) out chosen asks o
lacks k (Moved stage w served) out chosen asks o = absurd o
lacks k (Ends e) out chosen asks o = absurd o

-- a step that is over stays as it is
pub ties : {X : Type 0} (s5 s6 s7 s8 : List History) (n5 n6 n7 n8 : NetState) (c5 c6 c7 : Came X)
    → (IsMoved c5 → (c6 ≡ c5) × (s6 ≡ s5) × (n6 ≡ n5)) → (IsMoved c6 → (c7 ≡ c6) × (s7 ≡ s6) × (n7 ≡ n6)) → (IsMoved c7 → (s8 ≡ s7) × (n8 ≡ n7))
    → IsMoved c5 → (s8 ≡ s5) × (n8 ≡ n5)
ties {X = X} s5 s6 s7 s8 n5 n6 n7 n8 c5 c6 c7 a b z m5 =
    let x = a m5 in
    let m6 = subst (λ (c : Came X). IsMoved c) (sym x.0) m5 in
    let y = b m6 in
    let m7 = subst (λ (c : Came X). IsMoved c) (sym y.0) m6 in
    let w = z m7 in
    (w.0 ∙ (y.1 ∙ x.1), w.1 ∙ (y.2 ∙ x.2))

-- no other stage waits for its exchange
pub not_out : (s : StageNow) (b : StageNow) → s ≡ b → waits_out b ≡ false → waits_out s ≡ true → ⊥
not_out s b is never out = let z = sym never ∙ (ap waits_out (sym is) ∙ out) in cc
