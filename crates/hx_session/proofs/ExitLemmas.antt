-- What a step of a session leaves to its worker.
use Rattle.std.proofs.Common.{◌≡◌, ◌<◌, ℕ, zero, suc, true, false, List, [], ◌∷◌, length, refl, sym, ap, subst, ◌∙◌, inl, inr, arith, Option, Some, None, ⊎_elim, ◌⊎◌}
use Rattle.std.specs.Prelude.{IfSome, IsSome, Contains}
use Rattle.std.specs.List.{slice_get, slice_set}
use Rattle.hx_base.specs.declared.numbers.ServerNo.{ServerNo}
use Rattle.hx_base.specs.declared.numbers.ThreadNo.{ThreadNo}
use Rattle.hx_base.specs.declared.numbers.Millis.{Millis}
use Rattle.hx_config.specs.declared.parts.Back.{Back}
use Rattle.hx_config.specs.declared.parts.Front.{Front}
use Rattle.hx_config.specs.Limits.{all_servers}
use Rattle.hx_config.specs.Meaning.{Meaning}
use Rattle.hx_conn.specs.Conns.{RestedNow}
use Rattle.hx_pool.specs.SeatView.{History}
use Rattle.hx_record.specs.declared.served.Left.{Left as Leave}
use Rattle.hx_connecting.specs.Choosing.{servers_of}
use Rattle.hx_connecting.specs.Holds.{HoldsConn}
use Rattle.hx_session.specs.declared.step.Waits.{Waits}
use Rattle.hx_session.specs.declared.step.Waits.TheVariants as waits
use Rattle.hx_session.specs.Desks.{DeskNow}
use Rattle.hx_session.specs.Fits.{SeatsServe, GoesTo, IsGoing, TurnsFit}
use Rattle.hx_session.specs.Seen.{conn_seen, chosen_seen, unless_held, over_seen, session_seen}
use Rattle.hx_session.specs.Stages.{StageNow, StandsSo, Reading, Choosing, Exchanging, Answering, Left}
use Rattle.hx_session.specs.Waiting.{StandsStill}
use Rattle.hx_session.specs.Standing.{IsSound, IsPlaced, IsRoutedTo, IsDone, KeepsWho}
use Rattle.hx_session.specs.Doings.{IsSameSession}
use Rattle.hx_session.specs.Parting.{outcome_of}
use Rattle.hx_connecting.specs.Outcomes.{ComesOut}
use Rattle.hx_session.proofs.ClientLemmas.{client_self}
use Rattle.hx_session.proofs.EntryLemmas.{never_back}

-- between its calls
pub done_sound : (d : DeskNow) (s : StageNow) (seats : List History) (w : Waits) (left : Option Leave) → IsDone d s seats w left → IsSound d s
done_sound d Left seats w left k = (k.0.tallied, k.0.session, k.0.no_loop)
done_sound d (Reading held) seats w left k = (k.0.set.stands, k.0.good, k.0.set.numbered.counted)
done_sound d (Choosing c) seats w left k = (k.0.set.stands, k.0.good, k.0.set.numbered.counted)
done_sound d (Exchanging e) seats w left k = (k.0.set.stands, k.0.good, k.0.set.numbered.counted)
done_sound d (Answering a) seats w left k = (k.0.set.stands, k.0.good, k.0.set.numbered.counted)

pub done_holds : (d : DeskNow) (s : StageNow) (seats : List History) (w : Waits) (left : Option Leave) → IsDone d s seats w left → HoldsConn d.worker d.session (conn_seen s) 0 seats
done_holds d Left seats w left k = k.0.around.holds
done_holds d (Reading held) seats w left k = k.0.set.around.holds
done_holds d (Choosing c) seats w left k = k.0.set.around.holds
done_holds d (Exchanging e) seats w left k = k.0.set.around.holds
done_holds d (Answering a) seats w left k = k.0.set.around.holds

-- and it stands so where it didn't move
pub done_stands : (d0 d : DeskNow) (s0 s : StageNow) (seats : List History) (w : Waits) (left : Option Leave) (now : ℕ) → StandsStill d0 s0 d s now → IsDone d s seats w left → StandsSo d s
done_stands d0 d s0 Left seats w left now k done = absurd k.unread.idle.nothing
done_stands d0 d s0 (Reading held) seats w left now k done = done.0.set.stands
done_stands d0 d s0 (Choosing c) seats w left now k done = done.0.set.stands
done_stands d0 d s0 (Exchanging e) seats w left now k done = done.0.set.stands
done_stands d0 d s0 (Answering a) seats w left now k done = done.0.set.stands

pub done_ended : (d : DeskNow) (s : StageNow) (seats : List History) (w : Waits) (left : Option Leave) → IsDone d s seats w left
    → (w ≡ waits.Ended → over_seen s ≡ true) × (over_seen s ≡ true → w ≡ waits.Ended)
done_ended d Left seats w left k = (λ e. refl, λ e. k.1)
done_ended d (Reading held) seats w left k = (λ e. absurd (k.1 e), λ e. cc)
done_ended d (Choosing c) seats w left k = (λ e. absurd (k.1 e), λ e. cc)
done_ended d (Exchanging x) seats w left k = (λ e. absurd (k.1 e), λ e. cc)
done_ended d (Answering a) seats w left k = (λ e. absurd (k.1 e), λ e. cc)

pub done_left : (d : DeskNow) (s : StageNow) (seats : List History) (w : Waits) (left : Option Leave) → IsDone d s seats w left → over_seen s ≡ true → d.client.on_loop ≡ None
done_left d Left seats w left k e = k.0.no_loop
done_left d (Reading held) seats w left k e = cc
done_left d (Choosing c) seats w left k e = cc
done_left d (Exchanging x) seats w left k e = cc
done_left d (Answering a) seats w left k e = cc

-- how it comes out
pub done_comes : (front : ℕ) (d : DeskNow) (s : StageNow) (seats : List History) (w : Waits) (left : Option Leave) → IsDone d s seats w left → ComesOut (outcome_of s) (session_seen front d s) left
done_comes front d Left seats w left k = subst (λ (o : Option Leave). IsSome o) (sym k.2.1) refl
done_comes front d (Reading held) seats w left k = tt
done_comes front d (Choosing c) seats w left k = tt
done_comes front d (Exchanging x) seats w left k = tt
done_comes front d (Answering a) seats w left k = refl

-- a session that goes on has its client's link on its worker's loop
done_loop : (d : DeskNow) (s : StageNow) (seats : List History) (w : Waits) (left : Option Leave) → IsDone d s seats w left → over_seen s ≡ false → d.client.on_loop ≡ Some d.worker.0
done_loop d Left seats w left k e = cc
done_loop d (Reading held) seats w left k e = k.0.set.numbered.on_loop
done_loop d (Choosing c) seats w left k e = k.0.set.numbered.on_loop
done_loop d (Exchanging x) seats w left k e = k.0.set.numbered.on_loop
done_loop d (Answering a) seats w left k e = k.0.set.numbered.on_loop

-- what stays of it in a step
pub done_same : (front : ℕ) (d d' : DeskNow) (s s' : StageNow) (seats : List History) (w : Waits) (left : Option Leave) → KeepsWho d d' → d.client.on_loop ≡ Some d.worker.0 → IsDone d' s' seats w left
    → IsSameSession (session_seen front d s) (session_seen front d' s')
done_same front d d' s s' seats w left k loop done = record {
  worker = k.worker;
  number = k.session;
  front = refl;
  since = ap (λ (m : Millis). m.0) k.since;
  client = k.client;
  loop = (
    λ e. done_loop d' s' seats w left done e ∙ (ap (λ (t : ThreadNo). Some t.0) k.worker ∙ sym loop),
    λ e. done_left d' s' seats w left done e,
  );
}

-- one that has given its Left is as it was
pub over_same : (front : ℕ) (d : DeskNow) (s : StageNow) → IsSound d s → over_seen s ≡ true → IsSameSession (session_seen front d s) (session_seen front d s)
over_same front d Left k e = record { worker = refl; number = refl; front = refl; since = refl; client = client_self d.client; loop = (λ x. refl, λ x. k.2) }
over_same front d (Reading held) k e = cc
over_same front d (Choosing c) k e = cc
over_same front d (Exchanging x) k e = cc
over_same front d (Answering a) k e = cc

-- the server that was chosen, as the worker sees it
exit_goes : (b : Back) (s : StageNow) → IsRoutedTo b s → GoesTo b (conn_seen s) (chosen_seen s)
exit_goes b (Reading held) r = r
exit_goes b (Choosing c) r = record { to_conn = r.to_conn; to_chosen = by_held c.held c.server r.to_chosen }
  where
    by_held : (held : Option RestedNow) (v : Option ServerNo) → IfSome v (λ x. Contains (servers_of b) x) → IfSome (unless_held held v) (λ x. Contains (servers_of b) x)
    by_held None v g = g
    by_held (Some r) v g = tt
exit_goes b (Exchanging e) r = record { to_conn = r.to_conn; to_chosen = tt }
exit_goes b (Answering a) r = record { to_conn = r.to_conn; to_chosen = tt }
exit_goes b Left r = record { to_conn = tt; to_chosen = tt }

exit_going : (config : Meaning) (front : ℕ) (d : DeskNow) (s : StageNow) (seats : List History) (f : Front) (b : Back) → slice_get config.fronts front ≡ Some f → slice_get config.backs f.back ≡ Some b
    → over_seen s ≡ false → IsPlaced d s seats → IsRoutedTo b s → SeatsServe d.worker seats (all_servers config.backs) → IsGoing config (session_seen front d s)
exit_going config front d s seats f b front_is back_is going p r serves = record {
  going = going;
  routed = record { front = f; front_is = front_is; back = b; back_is = back_is; goes = exit_goes b s r };
  never = never_back d.worker config (conn_seen s) seats serves p.set.around.never;
  loops = record { client = p.set.numbered.on_loop; conn = p.set.around.loop };
}

pub done_going : (config : Meaning) (front : ℕ) (d : DeskNow) (s : StageNow) (seats : List History) (w : Waits) (left : Option Leave) (f : Front) (b : Back) → slice_get config.fronts front ≡ Some f
    → slice_get config.backs f.back ≡ Some b → IsDone d s seats w left → IsRoutedTo b s → SeatsServe d.worker seats (all_servers config.backs) → over_seen s ≡ false → IsGoing config (session_seen front d s)
done_going config front d Left seats w left f b front_is back_is k r serves e = cc
done_going config front d (Reading held) seats w left f b front_is back_is k r serves e = exit_going config front d (Reading held) seats f b front_is back_is e k.0 r serves
done_going config front d (Choosing c) seats w left f b front_is back_is k r serves e = exit_going config front d (Choosing c) seats f b front_is back_is e k.0 r serves
done_going config front d (Exchanging x) seats w left f b front_is back_is k r serves e = exit_going config front d (Exchanging x) seats f b front_is back_is e k.0 r serves
done_going config front d (Answering a) seats w left f b front_is back_is k r serves e = exit_going config front d (Answering a) seats f b front_is back_is e k.0 r serves

-- one turn changed
set_cases : (turns : List ℕ) (i k t new : ℕ) → slice_get (slice_set turns i new) k ≡ Some t → ((k ≡ i) × (t ≡ new)) ⊎ (slice_get turns k ≡ Some t)
set_cases [] i k t new e = cc
set_cases (x ∷ turns) zero zero t new e = inl (refl, cc)
set_cases (x ∷ turns) zero (suc k) t new e = inr e
set_cases (x ∷ turns) (suc i) zero t new e = inr e
set_cases (x ∷ turns) (suc i) (suc k) t new e = ⊎_elim (λ h. inl (ap suc h.0, h.1)) (λ h. inr h) (set_cases turns i k t new e)

set_length : (turns : List ℕ) (i new : ℕ) → length (slice_set turns i new) ≡ length turns
set_length [] i new = refl
set_length (x ∷ turns) zero new = omega arith
set_length (x ∷ turns) (suc i) new = omega (arith, set_length turns i new)

pub turns_set : (config : Meaning) (turns : List ℕ) (i new : ℕ) (b : Back) → TurnsFit config turns → slice_get config.backs i ≡ Some b → new < length b.servers → TurnsFit config (slice_set turns i new)
turns_set config turns i new b fit there low = record {
  count = set_length turns i new ∙ fit.count;
  each = λ k t c at back. ⊎_elim
      (λ h. inl (subst (λ (x : ℕ). x < length c.servers) (sym h.1) (subst (λ (y : Back). new < length y.servers) (some_same b c (sym there ∙ (ap (slice_get config.backs) (sym h.0) ∙ back))) low)))
      (λ h. fit.each k t c h back)
      (set_cases turns i k t new at);
}
  where
    some_same : (x y : Back) → Some x ≡ Some y → x ≡ y
    some_same x y e = cc
