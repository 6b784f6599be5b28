-- The choice of a server, part by part of a step.
use Rattle.std.proofs.Common.{◌≡◌, ◌⊎◌, ℕ, Bool, true, List, refl, sym, ap, subst, ◌∙◌, inl, inr, arith, Option, Some, None, ⊎_elim}
use Rattle.std.specs.Prelude.{IfSome, IsSome}
use Rattle.hx_base.specs.declared.numbers.ServerNo.{ServerNo}
use Rattle.hx_base.specs.declared.numbers.SessionNo.{SessionNo}
use Rattle.hx_base.specs.declared.numbers.ThreadNo.{ThreadNo}
use Rattle.hx_config.specs.declared.parts.Server.{Server}
use Rattle.hx_conn.specs.Conns.{RestedNow, BusyNow}
use Rattle.hx_link.specs.Nets.{NetState}
use Rattle.hx_message.specs.declared.MethodKind.{MethodKind}
use Rattle.hx_pool.specs.SeatView.{History}
use Rattle.hx_connecting.specs.declared.connecting.Connected.{Connected}
use Rattle.hx_connecting.specs.Around.{HasAround, resting}
use Rattle.hx_connecting.specs.Choice as choice
use Rattle.hx_connecting.specs.Closing.{ClosesAny, ConnectsTo}
use Rattle.hx_connecting.specs.Sessions as seen
use Rattle.hx_connecting.proofs.AroundLemmas.{numbered_here}
use Rattle.hx_connecting.proofs.TouchLemmas.{connects_touch}
use Rattle.hx_session.specs.declared.stage.Came.{Came}
use Rattle.hx_session.specs.declared.stage.Came.TheVariants.{On, Moved, Ends}
use Rattle.hx_session.specs.declared.stage.Ending.{Ending}
use Rattle.hx_session.specs.declared.stage.Stage.{Stage}
use Rattle.hx_session.specs.declared.step.Waiting.{Waiting}
use Rattle.hx_session.specs.Beginning.{ChoosesServer, ChoosesIn}
use Rattle.hx_session.specs.Picking.{IsSameKind, ChangesAt, CallsAt, KeepsServer, PicksTo, Picks, ConnectsStage, or_chose, PicksSo}
use Rattle.hx_session.specs.Seen.{conn_seen, chosen_seen, own_seen, over_seen, unless_held}
use Rattle.hx_session.specs.Stages.{StageNow, ChoosingNow, Reading, Choosing, Exchanging, Answering, Left, stage_now, own_stage}
use Rattle.hx_session.specs.Standing.{GoesToHeld, IsGood, server_held}

-- no seat was called
pub calls_none : (chosen : Option ServerNo) (olds news : List History) → news ≡ olds → CallsAt chosen olds news
calls_none None olds news same = same
calls_none (Some v) olds news same = inl same

-- calls of none, and then of that one
calls_then : (chosen : Option ServerNo) (xs bs cs : List History) → bs ≡ xs → CallsAt chosen bs cs → CallsAt chosen xs cs
calls_then chosen xs bs cs same k = subst (λ (hs : List History). CallsAt chosen hs cs) same k

pub kind_same : (c d : Option seen.Holding) → d ≡ c → IsSameKind c d
kind_same None d e = e
kind_same (Some (seen.Resting r)) d e = e
kind_same (Some (seen.Exchanging b)) d e = (b, e)

pub kind_self : (c : Option seen.Holding) → IsSameKind c c
kind_self c = kind_same c c refl

kind_then : (c d e : Option seen.Holding) → IsSameKind c d → IsSameKind d e → IsSameKind c e
kind_then None d e x y = subst (λ (o : Option seen.Holding). IsSameKind o e) x y
kind_then (Some (seen.Resting r)) d e x y = subst (λ (o : Option seen.Holding). IsSameKind o e) x y
kind_then (Some (seen.Exchanging b)) d e x y = subst (λ (o : Option seen.Holding). IsSameKind o e) x.1 y

kind_none : (c d : Option seen.Holding) → IsSameKind c d → c ≡ None → d ≡ None
kind_none None d x e = x
kind_none (Some (seen.Resting r)) d x e = cc
kind_none (Some (seen.Exchanging b)) d x e = cc

busy_not : (b : BusyNow) → Some (seen.Exchanging b) ≡ None → ⊥
busy_not b e = cc

busy_no_rest : (b : BusyNow) (r : RestedNow) → Some (seen.Exchanging b) ≡ Some (seen.Resting r) → ⊥
busy_no_rest b r e = cc

kind_of_none : (c d : Option seen.Holding) → IsSameKind c d → d ≡ None → c ≡ None
kind_of_none None d x e = refl
kind_of_none (Some (seen.Resting r)) d x e = cc
kind_of_none (Some (seen.Exchanging b)) d x e = absurd (busy_not x.0 (sym x.1 ∙ e))

kind_of_rest : (c d : Option seen.Holding) (r : RestedNow) → IsSameKind c d → d ≡ Some (seen.Resting r) → c ≡ Some (seen.Resting r)
kind_of_rest None d r x e = cc
kind_of_rest (Some (seen.Resting q)) d r x e = sym x ∙ e
kind_of_rest (Some (seen.Exchanging b)) d r x e = absurd (busy_no_rest x.0 r (sym x.1 ∙ e))

keeps_then : (chosen chosen' : Option ServerNo) (c d : Option seen.Holding) (s : StageNow) → chosen' ≡ chosen → IsSameKind c d → KeepsServer chosen' d s → KeepsServer chosen c s
keeps_then chosen chosen' c d s same kind k = record {
  stays = subst (λ (o : Option ServerNo). IfSome o (λ v. (chosen_seen s ≡ Some v) ⊎ IsSome (conn_seen s) ⊎ IsSome (own_seen s) ⊎ (over_seen s ≡ true))) same k.stays;
  from = by_seen (chosen_seen s) k.from;
}
  where
    by_seen : (o : Option ServerNo) → IfSome o (λ v. (chosen' ≡ Some v) ⊎ ((r : RestedNow) × (d ≡ Some (seen.Resting r)) × (r.server ≡ v) × (conn_seen s ≡ None)))
        → IfSome o (λ v. (chosen ≡ Some v) ⊎ ((r : RestedNow) × (c ≡ Some (seen.Resting r)) × (r.server ≡ v) × (conn_seen s ≡ None)))
    by_seen None f = tt
    by_seen (Some v) f = ⊎_elim (λ e. inl (sym same ∙ e)) (λ z. inr (z.0, kind_of_rest c d z.0 kind z.1, z.2, z.3)) f

to_then : (chosen chosen' : Option ServerNo) (c d : Option seen.Holding) (xs bs cs : List History) (s : StageNow) → chosen' ≡ chosen → IsSameKind c d → (c ≡ None → bs ≡ xs) → PicksTo d chosen' bs s cs → PicksTo c chosen xs s cs
to_then chosen chosen' c d xs bs cs s same kind none k = record {
  keeps = keeps_then chosen chosen' c d s same kind k.keeps;
  calls = λ e. calls_then chosen xs bs cs (none e) (subst (λ (o : Option ServerNo). CallsAt o bs cs) same (k.calls (kind_none c d kind e)));
}

-- a part behind those so far
pub picks_then : {X : Type 0} (c : Option seen.Holding) (chosen : Option ServerNo) (xs bs cs : List History) (stage : Stage X) (w : Waiting) (came : Came X) → Picks c chosen xs (On stage w) bs
    → Picks (conn_seen (stage_now stage)) (chosen_seen (stage_now stage)) bs came cs → Picks c chosen xs came cs
picks_then c chosen xs bs cs stage w (On stage' w') p q = (
  q.0 ∙ p.0,
  kind_then c (conn_seen (stage_now stage)) (conn_seen (stage_now stage')) p.1 q.1,
  λ e. q.2 (kind_none c (conn_seen (stage_now stage)) p.1 e) ∙ p.2 e,
)
picks_then c chosen xs bs cs stage w (Moved stage' w' served) p q =
    to_then chosen (chosen_seen (stage_now stage)) c (conn_seen (stage_now stage)) xs bs cs (stage_now stage') p.0 p.1 p.2 q
picks_then c chosen xs bs cs stage w (Ends e) p q = λ none. let k = q (kind_none c (conn_seen (stage_now stage)) p.1 none) in (k.0, k.1 ∙ p.2 none)

-- a part from a stage with another connection of the same kind, and the same choice
pub picks_from : {X : Type 0} (c d : Option seen.Holding) (chosen chosen' : Option ServerNo) (xs cs : List History) (came : Came X) → chosen' ≡ chosen → IsSameKind c d → Picks d chosen' xs came cs → Picks c chosen xs came cs
picks_from c d chosen chosen' xs cs (On stage' w') same kind q = (q.0 ∙ same, kind_then c d (conn_seen (stage_now stage')) kind q.1, λ e. q.2 (kind_none c d kind e))
picks_from c d chosen chosen' xs cs (Moved stage' w' served) same kind q = to_then chosen chosen' c d xs xs cs (stage_now stage') same kind (λ e. refl) q
picks_from c d chosen chosen' xs cs (Ends e) same kind q = λ none. q (kind_none c d kind none)

-- the server stays chosen
keeps_same : (chosen : Option ServerNo) (c : Option seen.Holding) (s : StageNow) → chosen_seen s ≡ chosen → KeepsServer chosen c s
keeps_same chosen c s same = record { stays = by_chosen chosen same; from = by_seen (chosen_seen s) (sym same) }
  where
    by_chosen : (o : Option ServerNo) → chosen_seen s ≡ o → IfSome o (λ v. (chosen_seen s ≡ Some v) ⊎ IsSome (conn_seen s) ⊎ IsSome (own_seen s) ⊎ (over_seen s ≡ true))
    by_chosen None e = tt
    by_chosen (Some v) e = inl e

    by_seen : (o : Option ServerNo) → chosen ≡ o → IfSome o (λ v. (chosen ≡ Some v) ⊎ ((r : RestedNow) × (c ≡ Some (seen.Resting r)) × (r.server ≡ v) × (conn_seen s ≡ None)))
    by_seen None e = tt
    by_seen (Some v) e = inl e

-- none is chosen behind it, and what was chosen is used up
pub to_used : (chosen : Option ServerNo) (c : Option seen.Holding) (olds : List History) (s : StageNow) → chosen_seen s ≡ None → IsSome (own_seen s) → PicksTo c chosen olds s olds
to_used chosen c olds s none own = record {
  keeps = record { stays = by_chosen chosen; from = subst (λ (o : Option ServerNo). IfSome o (λ v. (chosen ≡ Some v) ⊎ ((r : RestedNow) × (c ≡ Some (seen.Resting r)) × (r.server ≡ v) × (conn_seen s ≡ None)))) (sym none) tt };
  calls = λ e. calls_none chosen olds olds refl;
}
  where
    by_chosen : (o : Option ServerNo) → IfSome o (λ v. (chosen_seen s ≡ Some v) ⊎ IsSome (conn_seen s) ⊎ IsSome (own_seen s) ⊎ (over_seen s ≡ true))
    by_chosen None = tt
    by_chosen (Some v) = inr (inr (inl own))

-- an own answer is decided
pub to_answer : (chosen : Option ServerNo) (c : Option seen.Holding) (olds : List History) (s : StageNow) (status : ℕ) (held : Option RestedNow) → s ≡ own_stage status held → PicksTo c chosen olds s olds
to_answer chosen c olds s status held is = to_used chosen c olds s (ap chosen_seen is) (subst (λ (x : StageNow). IsSome (own_seen x)) (sym is) refl)

-- the stage stays
pub to_same : (olds : List History) (s : StageNow) → PicksTo (conn_seen s) (chosen_seen s) olds s olds
to_same olds s = record { keeps = keeps_same (chosen_seen s) (conn_seen s) s refl; calls = λ e. calls_none (chosen_seen s) olds olds refl }

pub on_same : {X : Type 0} (olds : List History) (stage : Stage X) (w : Waiting) → Picks (conn_seen (stage_now stage)) (chosen_seen (stage_now stage)) olds (On stage w) olds
on_same olds stage w = (refl, kind_same (conn_seen (stage_now stage)) (conn_seen (stage_now stage)) refl, λ e. refl)

-- out of an exchange no server is chosen
pub to_unchosen : (b : BusyNow) (olds news : List History) (s : StageNow) → chosen_seen s ≡ None → PicksTo (Some (seen.Exchanging b)) None olds s news
to_unchosen b olds news s none = record {
  keeps = record { stays = tt; from = subst (λ (o : Option ServerNo). IfSome o (λ v. (None ≡ Some v) ⊎ ((r : RestedNow) × (Some (seen.Exchanging b) ≡ Some (seen.Resting r)) × (r.server ≡ v) × (conn_seen s ≡ None)))) (sym none) tt };
  calls = λ (e : Some (seen.Exchanging b) ≡ None). cc;
}

-- the head of a request is there: its server is that of what rests with the session
pub held_unchosen : (held : Option RestedNow) → unless_held held (server_held held) ≡ None
held_unchosen None = refl
held_unchosen (Some r) = refl

pub to_choosing : (held : Option RestedNow) (olds : List History) (c : ChoosingNow) → c.held ≡ held → c.server ≡ server_held held → PicksTo (resting held) None olds (Choosing c) olds
to_choosing held olds c same server =
    let none : unless_held c.held c.server ≡ None = ap (λ (h : Option RestedNow). unless_held h c.server) same ∙ (ap (unless_held held) server ∙ held_unchosen held) in
    record {
      keeps = record { stays = tt; from = subst (λ (o : Option ServerNo). IfSome o (λ v. (None ≡ Some v) ⊎ ((r : RestedNow) × (resting held ≡ Some (seen.Resting r)) × (r.server ≡ v) × (resting c.held ≡ None)))) (sym none) tt };
      calls = λ e. refl;
    }

-- a session that leaves with what rests with it
pub held_none : (held : Option RestedNow) → resting held ≡ None → held ≡ None
held_none None e = refl
held_none (Some r) e = cc

pub ends_held : {X : Type 0} (held : Option RestedNow) (chosen : Option ServerNo) (olds : List History) (e : Ending X) → e.held ≡ held → Picks (resting held) chosen olds (Ends e) olds
ends_held held chosen olds e is = λ none. (is ∙ held_none held none, refl)

pub ends_busy : {X : Type 0} (b : BusyNow) (olds news : List History) (came : Came X) (e : Ending X) → came ≡ Ends e → Picks (Some (seen.Exchanging b)) None olds came news
ends_busy {X = X} b olds news came e is = subst (λ (x : Came X). Picks (Some (seen.Exchanging b)) None olds x news) (sym is) (λ (none : Some (seen.Exchanging b) ≡ None). cc)

-- a server was connected to at its seat
connects_at : {X : Type 0} (t : ThreadNo) (n : SessionNo) (first : Bool) (server : ServerNo) (olds news : List History) (now : ℕ) (m : MethodKind) (net net' : NetState) (d : Connected X)
    → HasAround t n None olds → ConnectsTo olds news n first server now m net net' None d → ChangesAt server olds news
connects_at t n first server olds news now m net net' d a k =
    let here : k.old.about.server ≡ server = server_same k.old.about.server server (numbered_here 0 server.0 olds k.old k.was a.servers ∙ omega arith) in
    let x = connects_touch k.old k.new n first server now m net net' d here k.tries in
    record { old = k.old; new = k.new; es = x.seat.added; was = k.was; seats = k.seats; mine = x.seat.makes.makes.mine }
  where
    server_same : (a b : ServerNo) → a.0 ≡ b.0 → a ≡ b
    server_same a b e = let made : ℕ → ServerNo = λ i. record { 0 = i } in ap made e

some_server : (v w : ServerNo) → Some v ≡ Some w → v ≡ w
some_server v w e = cc

pub to_connected : {X : Type 0} (t : ThreadNo) (n : SessionNo) (first : Bool) (olds news : List History) (now : ℕ) (m : MethodKind) (net net' : NetState) (d : Connected X) (c : ChoosingNow) (server : ServerNo) (s : StageNow)
    → c.server ≡ Some server → GoesToHeld c.held c.server → HasAround t n (resting c.held) olds → ConnectsTo olds news n first server now m net net' c.held d → ConnectsStage server s
    → PicksTo (resting c.held) (unless_held c.held c.server) olds s news
to_connected {X = X} t n first olds news now m net net' d c server s is good a k to = by_held c.held good a k
  where
    by_held : (held : Option RestedNow) → GoesToHeld held c.server → HasAround t n (resting held) olds → ConnectsTo olds news n first server now m net net' held d → PicksTo (resting held) (unless_held held c.server) olds s news
    by_held None g b j = subst (λ (o : Option ServerNo). PicksTo None o olds s news) (sym is) (record {
      keeps = record {
        stays = ⊎_elim (λ x. inl x.0) (λ x. ⊎_elim (λ y. inr (inl y)) (λ y. inr (inr (inl y))) x.1) to;
        from = ⊎_elim
            (λ x. subst (λ (o : Option ServerNo). IfSome o (λ v. (Some server ≡ Some v) ⊎ ((r : RestedNow) × (None ≡ Some (seen.Resting r)) × (r.server ≡ v) × (conn_seen s ≡ None)))) (sym x.0) (inl refl))
            (λ x. subst (λ (o : Option ServerNo). IfSome o (λ v. (Some server ≡ Some v) ⊎ ((r : RestedNow) × (None ≡ Some (seen.Resting r)) × (r.server ≡ v) × (conn_seen s ≡ None)))) (sym x.0) tt)
            to;
      };
      calls = λ none. inr (connects_at t n first server olds news now m net net' d b j);
    })
    by_held (Some r) g b j =
        let same : server ≡ r.server = some_server server r.server (sym is ∙ g) in
        record {
          keeps = record {
            stays = tt;
            from = ⊎_elim
                (λ x. subst (λ (o : Option ServerNo). IfSome o (λ v. (None ≡ Some v) ⊎ ((q : RestedNow) × (Some (seen.Resting r) ≡ Some (seen.Resting q)) × (q.server ≡ v) × (conn_seen s ≡ None)))) (sym x.0) (inr (r, refl, sym same, x.1)))
                (λ x. subst (λ (o : Option ServerNo). IfSome o (λ v. (None ≡ Some v) ⊎ ((q : RestedNow) × (Some (seen.Resting r) ≡ Some (seen.Resting q)) × (q.server ≡ v) × (conn_seen s ≡ None)))) (sym x.0) tt)
                to;
          };
          calls = λ (none : Some (seen.Resting r) ≡ None). cc;
        }

-- nothing was held that had to be closed
pub closes_none : (olds news : List History) (n : SessionNo) (held : Option RestedNow) (net net' : NetState) → held ≡ None → ClosesAny olds news n held net net' → news ≡ olds
closes_none olds news n None net net' none k = k.0
closes_none olds news n (Some r) net net' none k = cc

pub never_none : (b : BusyNow) → Some (seen.Exchanging b) ≡ None → (x : Option RestedNow) (olds news : List History) → (x ≡ None) × (news ≡ olds)
never_none b e x olds news = cc

-- the part that takes the turn
so_none : {X : Type 0} (servers : List Server) (turn turn' : ℕ) (s : StageNow) (olds : List History) (came : Came X) (news : List History) → turn' ≡ turn → Picks (conn_seen s) (chosen_seen s) olds came news
    → PicksSo servers turn turn' s olds came news
so_none servers turn turn' s olds came news same p = record { chose = None; asked = olds; takes = inl (refl, same, refl); picks = p }

pub so_same : {X : Type 0} (servers : List Server) (turn : ℕ) (s : StageNow) (olds : List History) (came : Came X) (news : List History) → Picks (conn_seen s) (chosen_seen s) olds came news → PicksSo servers turn turn s olds came news
so_same servers turn s olds came news p = so_none servers turn turn s olds came news refl p

same_picks : {X : Type 0} (c : Option seen.Holding) (chosen : Option ServerNo) (xs bs cs : List History) (stage stage' : Stage X) (w w' : Waiting) → cs ≡ bs → chosen_seen (stage_now stage') ≡ chosen_seen (stage_now stage)
    → conn_seen (stage_now stage') ≡ conn_seen (stage_now stage) → Picks c chosen xs (On stage w) bs → Picks c chosen xs (On stage' w') cs
same_picks c chosen xs bs cs stage stage' w w' same a b p = (a ∙ p.0, subst (IsSameKind c) (sym b) p.1, λ e. same ∙ p.2 e)

pub so_turn : {X : Type 0} (servers : List Server) (turn turn' : ℕ) (s : StageNow) (stage stage' : Stage X) (w w' : Waiting) (xs olds news : List History) → IsGood (stage_now stage)
    → Picks (conn_seen s) (chosen_seen s) xs (On stage w) olds → ChoosesIn servers turn turn' olds news (stage_now stage) (stage_now stage') → PicksSo servers turn turn' s xs (On stage' w') news
so_turn {X = X} servers turn turn' s stage stage' w w' xs olds news good p k = by_stage (stage_now stage) refl good k
  where
    unchanged : (u : StageNow) → stage_now stage ≡ u → stage_now stage' ≡ u → news ≡ olds → turn' ≡ turn → PicksSo servers turn turn' s xs (On stage' w') news
    unchanged u is to same turns = so_none servers turn turn' s xs (On stage' w') news turns
        (same_picks (conn_seen s) (chosen_seen s) xs olds news stage stage' w w' same (ap chosen_seen to ∙ sym (ap chosen_seen is)) (ap conn_seen to ∙ sym (ap conn_seen is)) p)

    by_server : (c c' : ChoosingNow) → stage_now stage ≡ Choosing c → stage_now stage' ≡ Choosing c' → c'.held ≡ c.held → (v : Option ServerNo) → c.server ≡ v → GoesToHeld c.held v → (h : Option RestedNow) → c.held ≡ h
        → ChoosesServer servers turn turn' olds news v c'.server → PicksSo servers turn turn' s xs (On stage' w') news
    by_server c c' is to held (Some v) sv g h hh q = so_none servers turn turn' s xs (On stage' w') news q.2
        (same_picks (conn_seen s) (chosen_seen s) xs olds news stage stage' w w' q.1
        (ap chosen_seen to ∙ (ap (λ (x : Option RestedNow). unless_held x c'.server) held ∙ (ap (unless_held c.held) (q.0 ∙ sym sv) ∙ sym (ap chosen_seen is))))
        (ap conn_seen to ∙ (ap resting held ∙ sym (ap conn_seen is))) p)
    by_server c c' is to held None sv g (Some r) hh q = absurd (no_server r (subst (λ (x : Option RestedNow). GoesToHeld x None) hh g))
      where
        no_server : (q : RestedNow) → GoesToHeld (Some q) None → ⊥
        no_server q e = cc
    by_server c c' is to held None sv g None hh q =
        let none : conn_seen s ≡ None = kind_of_none (conn_seen s) (conn_seen (stage_now stage)) p.1 (ap conn_seen is ∙ ap resting hh) in
        let before : chosen_seen s ≡ None = sym p.0 ∙ (ap chosen_seen is ∙ (ap (λ (x : Option RestedNow). unless_held x c.server) hh ∙ sv)) in
        record {
          chose = c'.server;
          asked = news;
          takes = inr (before, none, subst (λ (hs : List History). choice.Chooses servers turn turn' hs news c'.server) (p.2 none) q);
          picks = (
            ap chosen_seen to ∙ (ap (λ (x : Option RestedNow). unless_held x c'.server) (held ∙ hh) ∙ chose_now (chosen_seen s) c'.server before),
            subst (λ (o : Option seen.Holding). IsSameKind o (conn_seen (stage_now stage'))) (sym none) (ap conn_seen to ∙ ap resting (held ∙ hh)),
            λ e. refl,
          );
        }
      where
        chose_now : (b v : Option ServerNo) → b ≡ None → v ≡ or_chose b v
        chose_now b None e = sym e
        chose_now b (Some v) e = refl

    by_stage : (u : StageNow) → stage_now stage ≡ u → IsGood u → ChoosesIn servers turn turn' olds news u (stage_now stage') → PicksSo servers turn turn' s xs (On stage' w') news
    by_stage (Choosing c) is g q = by_server c q.0 is q.1 q.2.held c.server refl g c.held refl q.2.server
    by_stage (Reading held) is g q = unchanged (Reading held) is q.0 q.1 q.2
    by_stage (Exchanging e) is g q = unchanged (Exchanging e) is q.0 q.1 q.2
    by_stage (Answering a) is g q = unchanged (Answering a) is q.0 q.1 q.2
    by_stage Left is g q = unchanged Left is q.0 q.1 q.2

-- the end of a step
pub done_on : {X : Type 0} (c : Option seen.Holding) (chosen : Option ServerNo) (olds news : List History) (stage : Stage X) (w : Waiting) → Picks c chosen olds (On stage w) news → PicksTo c chosen olds (stage_now stage) news
done_on c chosen olds news stage w p = record { keeps = keeps_same chosen c (stage_now stage) p.0; calls = λ e. calls_none chosen olds news (p.2 e) }

pub done_left : (c : Option seen.Holding) (chosen : Option ServerNo) (olds news : List History) (s : StageNow) → s ≡ Left → (c ≡ None → news ≡ olds) → PicksTo c chosen olds s news
done_left c chosen olds news s is same = subst (λ (x : StageNow). PicksTo c chosen olds x news) (sym is) (record {
  keeps = record { stays = by_chosen chosen; from = tt };
  calls = λ e. calls_none chosen olds news (same e);
})
  where
    by_chosen : (o : Option ServerNo) → IfSome o (λ v. (None ≡ Some v) ⊎ IsSome {T = seen.Holding} None ⊎ IsSome {T = ℕ} None ⊎ (true ≡ true))
    by_chosen None = tt
    by_chosen (Some v) = inr (inr (inr refl))
