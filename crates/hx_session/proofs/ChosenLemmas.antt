-- The choice of a step, as its worker learns of it.
use Rattle.std.proofs.Common.{◌≡◌, ◌⊎◌, ◌<◌, ◌+◌, ℕ, zero, suc, Bool, true, false, List, [], ◌∷◌, ◌++◌, length, get_or, refl, sym, ap, subst, ◌∙◌, inl, inr, arith, Option, Some, None, ⊎_elim}
use Rattle.std.specs.Prelude.{IfSome, IsSome}
use Rattle.std.specs.List.{slice_get, slice_set}
use Rattle.std.proofs.lemmas.List.{append_cancel_left}
use Rattle.hx_base.specs.declared.numbers.ServerNo.{ServerNo}
use Rattle.hx_base.specs.declared.numbers.SessionNo.{SessionNo}
use Rattle.hx_base.specs.declared.numbers.ThreadNo.{ThreadNo}
use Rattle.hx_config.specs.declared.parts.Back.{Back}
use Rattle.hx_config.specs.declared.parts.Front.{Front}
use Rattle.hx_config.specs.declared.parts.Server.{Server}
use Rattle.hx_config.specs.Meaning.{Meaning}
use Rattle.hx_conn.specs.Conns.{RestedNow}
use Rattle.hx_link.specs.Nets.{NetState}
use Rattle.hx_pool.specs.declared.entries.Note.{Note}
use Rattle.hx_pool.specs.History.{marks_of}
use Rattle.hx_pool.specs.SeatView.{History}
use Rattle.hx_connecting.specs.Choosing.{back_no, Turns, IsChosen, KeepsChoice}
use Rattle.hx_connecting.specs.Holds.{HoldsConn}
use Rattle.hx_connecting.specs.Sessions.{Holding, Resting, around_with, is_first}
use Rattle.hx_connecting.specs.Touches.{Touch, Came, Had, Opened, Took, touch_marks, went_marks, came_marks, marks_at, AddsEach, HasMarks, Adds}
use Rattle.hx_connecting.proofs.AroundLemmas.{holds_here}
use Rattle.hx_connecting.proofs.EachLemmas.{here}
use Rattle.hx_session.specs.declared.step.Step.{Step}
use Rattle.hx_session.specs.Desks.{DeskNow}
use Rattle.hx_session.specs.Picked.{IsOfSeat, StepPicks}
use Rattle.hx_session.specs.Picking.{CallsAt, KeepsServer, or_chose, TakesTurn, PicksAll}
use Rattle.hx_session.specs.Seen.{conn_seen, chosen_seen, own_seen, over_seen, session_seen}
use Rattle.hx_session.specs.Stages.{StageNow}
use Rattle.hx_session.proofs.TurnLemmas.{is_or_not, set_other, set_again, set_count, there_is, Grew, NoMark, AnyNotes, AllOfThread, grew_none, grew_set, asked_grew, adds_at, no_mark_both, grew_then, chooses_by_gates}

some_is : {A : Type 0} (x y : A) → Some x ≡ Some y → x ≡ y
some_is x y e = cc

some_not : (v : ServerNo) → Some v ≡ None → ⊥
some_not v e = cc

set_here : (xs : List ℕ) (k x : ℕ) → k < length xs → slice_get (slice_set xs k x) k ≡ Some x
set_here [] k x low = absurd (omega (arith, low))
set_here (y ∷ xs) zero x low = refl
set_here (y ∷ xs) (suc k) x low = set_here xs k x (omega (arith, low))

turn_there : (xs : List ℕ) (i : ℕ) → i < length xs → slice_get xs i ≡ Some (get_or xs i 0)
turn_there [] i low = absurd (omega (arith, low))
turn_there (x ∷ xs) zero low = refl
turn_there (x ∷ xs) (suc i) low = turn_there xs i (omega (arith, low))

-- a connection to the chosen server
calls_grew : (v : ServerNo) (olds news : List History) → CallsAt (Some v) olds news → (j : ℕ) → Grew AnyNotes olds news j
calls_grew v olds news k j = ⊎_elim (λ same. grew_none AnyNotes olds news j same tt) (λ c. grew_set AnyNotes olds news v.0 j c.old c.new c.es c.was c.seats c.mine tt tt) k

holds_thread : (t : ThreadNo) (n : SessionNo) (c : Option Holding) (seats : List History) → HoldsConn t n c 0 seats → AllOfThread t seats
holds_thread t n c seats holds = λ j h there. (holds_here t n c 0 j seats h there holds).0

-- the turns
turns_taken : (config : Meaning) (front : ℕ) (d : DeskNow) (s : StageNow) (f : Front) (b : Back) (turns : List ℕ) (turn' : ℕ) (olds asked news : List History) (added : List (List Note)) (P : ℕ → List Note → Type 0) (chose : Option ServerNo)
    → slice_get config.fronts front ≡ Some f → slice_get config.backs f.back ≡ Some b → f.back < length turns → get_or turns f.back 0 < length b.servers → HoldsConn d.worker d.session (conn_seen s) 0 olds
    → TakesTurn b.servers (get_or turns f.back 0) turn' s olds asked chose → (conn_seen s ≡ None → CallsAt (or_chose (chosen_seen s) chose) asked news) → AddsEach P 0 olds news added
    → Turns config (session_seen front d s) turns (slice_set turns f.back turn') added chose
turns_taken config front d s f b turns turn' olds asked news added P None front_is back_is low fits holds takes calls adds =
    let same : turn' ≡ get_or turns f.back 0 = ⊎_elim (λ k. k.1) (λ k. k.2.turn_same) takes in
    ap (slice_set turns f.back) same ∙ set_again turns f.back (get_or turns f.back 0) (turn_there turns f.back low)
turns_taken config front d s f b turns turn' olds asked news added P (Some v) front_is back_is low fits holds (inl k) calls adds = absurd (some_not v k.2)
turns_taken config front d s f b turns turn' olds asked news added P (Some v) front_is back_is low fits holds (inr k) calls adds = record {
  none_before = k.0;
  none_held = k.1;
  back = f.back;
  is_its = ap back_no front_is;
  turn = get_or turns f.back 0;
  turn' = turn';
  was = turn_there turns f.back low;
  now = set_here turns f.back turn' low;
  others = (set_count turns f.back turn', λ i ne. set_other turns f.back i turn' ne);
  terms = b;
  terms_are = back_is;
  chooses = chooses_by_gates P d.worker b.servers (get_or turns f.back 0) turn' olds asked news added v fits (holds_thread d.worker d.session (conn_seen s) olds holds) k.2 (calls_grew v asked news (calls k.1)) adds;
}

-- the server that is chosen
now_same : (servers : List Server) (turn turn' : ℕ) (s : StageNow) (olds asked : List History) (chose : Option ServerNo) (v : ServerNo) → TakesTurn servers turn turn' s olds asked chose → chosen_seen s ≡ Some v → or_chose (chosen_seen s) chose ≡ Some v
now_same servers turn turn' s olds asked chose v (inl k) is = subst (λ (o : Option ServerNo). or_chose (chosen_seen s) o ≡ Some v) (sym k.2) is
now_same servers turn turn' s olds asked chose v (inr k) is = absurd (some_not v (sym is ∙ k.0))

now_was : (before chose : Option ServerNo) (v : ServerNo) → or_chose before chose ≡ Some v → (before ≡ Some v) ⊎ (chose ≡ Some v)
now_was before None v is = inl is
now_was before (Some w) v is = inr is

choice_kept : (front : ℕ) (d d' : DeskNow) (s s' : StageNow) (servers : List Server) (turn turn' : ℕ) (olds asked : List History) (chose : Option ServerNo) → TakesTurn servers turn turn' s olds asked chose
    → KeepsServer (or_chose (chosen_seen s) chose) (conn_seen s) s' → KeepsChoice (session_seen front d s) (session_seen front d' s') chose
choice_kept front d d' s s' servers turn turn' olds asked chose takes k = record { stays = by_chosen (chosen_seen s) refl; from = by_seen (chosen_seen s') k.from }
  where
    by_chosen : (o : Option ServerNo) → chosen_seen s ≡ o
        → IfSome o (λ v. (chosen_seen s' ≡ Some v) ⊎ IsSome (conn_seen s') ⊎ IsSome (own_seen s') ⊎ ((session_seen front d' s').served ≡ (session_seen front d s).served → ⊥) ⊎ (over_seen s' ≡ true))
    by_chosen None is = tt
    by_chosen (Some v) is =
        let stays = subst (λ (o : Option ServerNo). IfSome o (λ w. (chosen_seen s' ≡ Some w) ⊎ IsSome (conn_seen s') ⊎ IsSome (own_seen s') ⊎ (over_seen s' ≡ true))) (now_same servers turn turn' s olds asked chose v takes is) k.stays in
        ⊎_elim (λ a. inl a) (λ a. ⊎_elim (λ x. inr (inl x)) (λ x. ⊎_elim (λ y. inr (inr (inl y))) (λ y. inr (inr (inr (inr y)))) x) a) stays

    by_seen : (o : Option ServerNo) → IfSome o (λ v. (or_chose (chosen_seen s) chose ≡ Some v) ⊎ ((r : RestedNow) × (conn_seen s ≡ Some (Resting r)) × (r.server ≡ v) × (conn_seen s' ≡ None)))
        → IfSome o (λ v. (chosen_seen s ≡ Some v) ⊎ (chose ≡ Some v) ⊎ ((r : RestedNow) × (conn_seen s ≡ Some (Resting r)) × (r.server ≡ v) × (conn_seen s' ≡ None)))
    by_seen None f = tt
    by_seen (Some v) f = ⊎_elim (λ e. ⊎_elim (λ a. inl a) (λ a. inr (inl a)) (now_was (chosen_seen s) chose v e)) (λ z. inr (inr z)) f

-- no other seat than the chosen server's was called but for its gate
takes_grew : (servers : List Server) (turn turn' : ℕ) (s : StageNow) (olds asked : List History) (chose : Option ServerNo) (j : ℕ) → TakesTurn servers turn turn' s olds asked chose → Grew NoMark olds asked j
takes_grew servers turn turn' s olds asked chose j (inl k) = grew_none NoMark olds asked j k.0 refl
takes_grew servers turn turn' s olds asked None j (inr k) = asked_grew _ false olds asked j k.2.drained
takes_grew servers turn turn' s olds asked (Some v) j (inr k) = grew_then NoMark olds k.2.mids asked j no_mark_both (asked_grew k.2.passed false olds k.2.mids j k.2.drained) (asked_grew (k.2.chosen ∷ []) true k.2.mids asked j k.2.ready)

calls_other : (chosen : Option ServerNo) (olds news : List History) (j : ℕ) → CallsAt chosen olds news → ((v : ServerNo) × (chosen ≡ Some v) × (j ≡ v.0)) ⊎ (slice_get news j ≡ slice_get olds j)
calls_other None olds news j same = inr (ap (λ (hs : List History). slice_get hs j) same)
calls_other (Some v) olds news j (inl same) = inr (ap (λ (hs : List History). slice_get hs j) same)
calls_other (Some v) olds news j (inr c) = ⊎_elim (λ e. inl (v, refl, e)) (λ ne. inr (ap (λ (hs : List History). slice_get hs j) c.seats ∙ set_other olds v.0 j c.new ne)) (is_or_not j v.0)

-- a connection that the session hadn't left a mark
came_some : (t : ThreadNo) (n : SessionNo) (first : Bool) (x : Touch) → (x.came ≡ Had → ⊥) → touch_marks t n first x ≡ [] → ⊥
came_some t n first x not_had none = by_came x.came refl none
  where
    by_came : (c : Came) → x.came ≡ c → came_marks t n first x.id c ++ went_marks t n x.id x.went ≡ [] → ⊥
    by_came Had is e = not_had is
    by_came Opened is e = cc
    by_came (Took place uses) is e = cc

server_same : (a b : ServerNo) → a.0 ≡ b.0 → a ≡ b
server_same a b e = let made : ℕ → ServerNo = λ k. record { 0 = k } in ap made e

chosen_touch : (t : ThreadNo) (n : SessionNo) (first : Bool) (servers : List Server) (turn turn' : ℕ) (s : StageNow) (olds asked news : List History) (added : List (List Note)) (chose : Option ServerNo) (y : Touch)
    → TakesTurn servers turn turn' s olds asked chose → CallsAt (or_chose (chosen_seen s) chose) asked news → Adds t n first (Some y) olds news added → y.server.0 < length olds → (y.came ≡ Had → ⊥)
    → or_chose (chosen_seen s) chose ≡ Some y.server
chosen_touch t n first servers turn turn' s olds asked news added chose y takes calls adds low not_had =
    let j = y.server.0 in
    let o = there_is olds j low in
    let g = takes_grew servers turn turn' s olds asked chose j takes o.0 o.1 in
    let r = adds_at (HasMarks t n first (Some y)) 0 j olds news added o.0 adds o.1 in
    let place : 0 + j ≡ j = omega arith in
    let marks : marks_of r.1 ≡ touch_marks t n first y = r.5.marks ∙ (ap (λ (k : ℕ). marks_at t n first (Some y) k) place ∙ sym (here t n first y)) in
    ⊎_elim
    (λ z. z.1 ∙ ap Some (server_same z.0 y.server (sym z.2)))
    (λ same.
    let new : r.0 ≡ g.0 = some_is r.0 g.0 (sym r.2 ∙ (same ∙ g.2)) in
    let es : r.1 ≡ g.1 = append_cancel_left o.0.mine r.1 g.1 (sym r.4.mine ∙ (ap (λ (h : History). h.mine) new ∙ g.3)) in
    absurd (came_some t n first y not_had (sym marks ∙ (ap marks_of es ∙ g.4))))
    (calls_other (or_chose (chosen_seen s) chose) asked news j calls)

not_some : IsSome {T = Holding} None → ⊥
not_some e = cc

not_had : (c : Option Holding) (k : Came) → c ≡ None → (k ≡ Had → IsSome c) → k ≡ Had → ⊥
not_had c k none f e = not_some (subst (λ (o : Option Holding). IsSome o) none (f e))

pub step_picks : (config : Meaning) (front : ℕ) (d d' : DeskNow) (s s' : StageNow) (f : Front) (b : Back) (turns : List ℕ) (turn' : ℕ) (olds news : List History) (net net' : NetState) (r : Step)
    → slice_get config.fronts front ≡ Some f → slice_get config.backs f.back ≡ Some b → f.back < length turns → HoldsConn d.worker d.session (conn_seen s) 0 olds
    → PicksAll b.servers (get_or turns f.back 0) turn' s olds s' news
    → StepPicks config (session_seen front d s) (session_seen front d' s') (around_with olds turns net) (around_with news (slice_set turns f.back turn') net') r
step_picks config front d d' s s' f b turns turn' olds news net net' r front_is back_is low holds p = λ x added adds of.
    record {
      chose = p.chose;
      turns = turns_taken config front d s f b turns turn' olds p.asked news added _ p.chose front_is back_is low p.fits holds p.takes p.picks.calls adds;
      choice = choice_kept front d d' s s' b.servers (get_or turns f.back 0) turn' olds p.asked p.chose p.takes p.picks.keeps;
      on_chosen = on_chosen x added adds of;
    }
  where
    on_chosen : (x : Option Touch) (added : List (List Note)) → Adds d.worker d.session (is_first (session_seen front d s)) x olds news added → IsOfSeat (session_seen front d s) olds x
        → IfSome x (λ y. conn_seen s ≡ None → IsChosen (session_seen front d s) p.chose y.server)
    on_chosen None added adds of = tt
    on_chosen (Some y) added adds of = λ none. now_was (chosen_seen s) p.chose y.server
        (chosen_touch d.worker d.session (is_first (session_seen front d s)) b.servers (get_or turns f.back 0) turn' s olds p.asked news added p.chose y p.takes (p.picks.calls none) adds of.0 (not_had (conn_seen s) y.came none of.1))
