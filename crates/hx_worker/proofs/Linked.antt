-- Which links a step and a stop leave buried, and which server a step chose for the connection that it touched.
use Rattle.std.proofs.Common.{◌≡◌, ⊎_elim, inl, inr, ℕ, suc, ◌+◌, ◌<◌, Bool, true, false, List, [], ◌∷◌, ◌++◌, length, refl, sym, ap, ◌∙◌, subst, Option, Some, None, IsSome, append_assoc}
use Rattle.std.proofs.lemmas.Option.{slice_get_within}
use Rattle.std.specs.Prelude.{option_map, option_to_list}
use Rattle.hx_base.specs.declared.what.What.{What}
use Rattle.hx_config.specs.Meaning.{Meaning}
use Rattle.hx_link.specs.Told.{LinkState}
use Rattle.hx_link.specs.Nets.{NetState}
use Rattle.hx_pool.specs.declared.entries.Note.{Note}
use Rattle.hx_pool.specs.SeatView.{History}
use Rattle.hx_connecting.specs.Links.{GainsAll, TellsBefore}
use Rattle.hx_connecting.specs.Sessions.{SessionNow, Around, Holding, is_first}
use Rattle.hx_connecting.specs.Touches.{Came, Touch, Had, AddsEach, HasMarks}
use Rattle.hx_session.specs.Doings.{Doing}
use Rattle.hx_session.specs.Linking.{StepLinks, StopLinks}
use Rattle.hx_session.specs.Picked.{IsOfSeat, StepPicks}
use Rattle.hx_session.specs.Steps.{StepChooses, doing}
use Rattle.hx_session.specs.Stopping.{StopTouches, stopping}
use Rattle.hx_session.specs.Telling.{stopped}
use Rattle.hx_session.specs.Touching.{Touches}
use Rattle.hx_session.specs.declared.step.Step.{Step}
use Rattle.hx_worker.specs.declared.answers.Stopped.{Stopped}
use Rattle.hx_worker.specs.Steps.{SessionStep, BuriesClient, gone_of, buried_with, buried_by}
use Rattle.hx_worker.specs.Stops.{stop_gone_of, buried_at_stop}

-- ---- the server of the touched connection

adds_length : (P : ℕ → List Note → Type 0) (i : ℕ) (old new : List History) (added : List (List Note)) → AddsEach P i old new added → length added ≡ length old
adds_length P i [] [] [] a = refl
adds_length P i [] [] (x ∷ added) a = absurd a
adds_length P i [] (y ∷ new) added a = absurd a
adds_length P i (x ∷ old) [] added a = absurd a
adds_length P i (x ∷ old) (y ∷ new) [] a = absurd a
adds_length P i (x ∷ old) (y ∷ new) (es ∷ added) a = ap suc (adds_length P (i + 1) old new added a.2)

-- a session that had the connection had one
had_one : (s : SessionNow) (h : History) (es : List Note) (x : Touch) (w : Option What) → TellsBefore s h es x Had w → IsSome s.conn
had_one s h es x w k = subst (λ (o : Option Holding). IsSome o) (sym k.1.0) refl

is_of_seat : (d : Doing) (x : Option Touch) → Touches d x → length d.added ≡ length d.before.seats → IsOfSeat d.old d.before.seats x
is_of_seat d None t e = tt
is_of_seat d (Some x) t e = (
  subst (λ n. x.server.0 < n) e (slice_get_within d.added x.server.0 t.at.es t.at.entries),
  λ had. had_one d.old t.at.history t.at.es x t.goes.before (subst (λ (c : Came). TellsBefore d.old t.at.history t.at.es x c t.goes.before) had t.goes.was),
)

-- what a step chose, told of the connection that it touched
pub chose_for : (config : Meaning) (s a : SessionNow) (before after : Around) (r : Step) (l : StepLinks s a before after r) → StepPicks config s a before after r
    → StepChooses config (doing s a before after l.added r) l.touches.touch
chose_for config s a before after r l picks =
    picks l.touches.touch l.added l.touches.adds
    (is_of_seat (doing s a before after l.added r) l.touches.touch l.touches.touched
    (adds_length (HasMarks s.worker s.number (is_first s) l.touches.touch) 0 before.seats after.seats l.added l.touches.adds))

-- ---- burials

gains_then : {A : Type 0} (xs ys : List A) (a b c : Option (List A)) → GainsAll xs a b → GainsAll ys b c → GainsAll (xs ++ ys) a c
gains_then {A = A} xs ys a b c g h = ⊎_elim
    (λ (k : c ≡ option_map (λ l. l ++ ys) b). ⊎_elim
    (λ (j : b ≡ option_map (λ l. l ++ xs) a). inl (k ∙ (ap (option_map (λ l. l ++ ys)) j ∙ both a)))
    (λ (n : b ≡ None). inr (k ∙ ap (option_map (λ l. l ++ ys)) n)) g)
    (λ (n : c ≡ None). inr n) h
  where
    both : (o : Option (List A)) → option_map (λ l. l ++ ys) (option_map (λ l. l ++ xs) o) ≡ option_map (λ l. l ++ (xs ++ ys)) o
    both None = refl
    both (Some l) = ap Some (append_assoc l xs ys)

-- the connection's link was buried by the session's call, and the client's behind it
then_client : (gone : Option LinkState) (over : Bool) (client : LinkState) (net mid net' : NetState) → GainsAll (option_to_list gone) net.buried mid.buried → BuriesClient over client mid net'
    → GainsAll (buried_with gone over client) net.buried net'.buried
then_client gone false client net mid net' g b = subst (λ (n : NetState). GainsAll (option_to_list gone) net.buried n.buried) (sym b) g
then_client gone true client net mid net' g b = gains_then (option_to_list gone) (client ∷ []) net.buried mid.buried net'.buried g b.1.buried

touch_buries : (d : Doing) (x : Option Touch) (t : Touches d x) → GainsAll (option_to_list (gone_of d x t)) d.before.net.buried d.after.net.buried
touch_buries d None t = t.0.buries
touch_buries d (Some x) t = t.goes.buries

stop_buries : (d : Doing) (x : Option Touch) (t : StopTouches d x) → GainsAll (option_to_list (stop_gone_of d x t)) d.before.net.buried d.after.net.buried
stop_buries d None t = t.1.buries
stop_buries d (Some x) t = t.goes.buries

pub step_buried : (config : Meaning) (s a : SessionNow) (before after : Around) (r : Step) (x : SessionStep config s a before after r) (net' : NetState) → BuriesClient a.over a.client after.net net'
    → GainsAll (buried_by config s a before after r x) before.net.buried net'.buried
step_buried config s a before after r x net' b =
    let d = doing s a before after x.links.added r in let t = x.links.touches in
    then_client (gone_of d t.touch t.touched) a.over a.client before.net after.net net' (touch_buries d t.touch t.touched) b

pub stop_buried : (s : SessionNow) (client : LinkState) (before after : Around) (x : Stopped) (k : StopLinks s client before after x.served x.left) (net' : NetState) → BuriesClient true client after.net net'
    → GainsAll (buried_at_stop s client before after x k) before.net.buried net'.buried
stop_buried s client before after x k net' b =
    let d = stopping s (stopped s client x.served) before after k.added x.served x.left in
    then_client (stop_gone_of d k.touch k.touched) true client before.net after.net net' (stop_buries d k.touch k.touched) b
