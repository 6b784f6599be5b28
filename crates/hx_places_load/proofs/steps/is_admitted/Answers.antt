use Rattle.std.proofs.Common.{◌≡◌, ℕ, false, refl, sym, ap, ◌∙◌, subst}
use Rattle.hx_pool.specs.declared.entries.Entry.TheVariants.{Gate, Up, Down}
use Rattle.hx_pool.specs.declared.entries.Note.{Note}
use Rattle.hx_pool.specs.History.{plain}
use Rattle.hx_places.specs.declared.view.View.{View}
use Rattle.hx_places.specs.Turns.{Turn, AtEase, WentUp, IsBelow, first_turn}
use Rattle.hx_places.specs.Seats.{turn}
use Rattle.hx_places_load.proofs.Noting.{turn_more, ours_more, rests_more, rests_from, goes_more, goes_both}
use Rattle.hx_places_load.proofs.Noting.{knows_more, knows_both, admitted_more}
use Rattle.hx_places_load.proofs.Taking.{up_due}
use Rattle.hx_places_load.proofs.steps.is_admitted.Goals as goal

pub returns-then-gate-clause-shut : goal.returns-then-gate-clause-shut
returns-then-gate-clause-shut c = λ _. rests_more c.args.seat.now c.gate.new.self _ c.gate.ensures.notes c.requires.rest refl

pub returns-then-gate-clause-goes : goal.returns-then-gate-clause-goes
returns-then-gate-clause-goes c = goes_more c.args.seat.now c.gate.new.self _ c.gate.ensures.notes (λ i o. refl)

pub returns-then-gate-clause-knows : goal.returns-then-gate-clause-knows
returns-then-gate-clause-knows c = knows_more c.args.seat.now c.gate.new.self _ c.gate.ensures.notes (λ p o. refl)

pub up-before-requires-clause-due : goal.up-before-requires-clause-due
up-before-requires-clause-due c =
    let r = rests_more c.args.seat.now c.gate.new.self _ c.gate.ensures.notes c.requires.rest refl in
    ap (λ (z : Turn). z.due) r.turn_is

pub up-before-requires-clause-ease : goal.up-before-requires-clause-ease
up-before-requires-clause-ease c =
    let r = rests_more c.args.seat.now c.gate.new.self _ c.gate.ensures.notes c.requires.rest refl in
    ap (λ (z : Turn). z.call) r.turn_is

pub down-requires-clause-due : goal.down-requires-clause-due
down-requires-clause-due c =
    let r = rests_more c.args.seat.now c.gate.new.self _ c.gate.ensures.notes c.requires.rest refl in
    let s1 = c.gate.new.self in
    let s2 = c.up-before.new.self in
    let up : Note = plain (Up s1.view.thread c.up-before.result) in
    up_due s2 c.up-before.result (turn_more s1.view.hand s1.view s2.view up first_turn c.up-before.ensures.notes.adds r.turn_is)

pub down-requires-clause-ease : goal.down-requires-clause-ease
down-requires-clause-ease c =
    let r = rests_more c.args.seat.now c.gate.new.self _ c.gate.ensures.notes c.requires.rest refl in
    let s1 = c.gate.new.self in
    let s2 = c.up-before.new.self in
    let up : Note = plain (Up s1.view.thread c.up-before.result) in
    ap (λ (z : Turn). z.call) (turn_more s1.view.hand s1.view s2.view up first_turn c.up-before.ensures.notes.adds r.turn_is)

pub returns-then-not-is_below-clause-shut : goal.returns-then-not-is_below-clause-shut
returns-then-not-is_below-clause-shut c =
    let r = rests_more c.args.seat.now c.gate.new.self _ c.gate.ensures.notes c.requires.rest refl in
    let s1 = c.gate.new.self in
    let s2 = c.up-before.new.self in
    let s3 = c.down.new.self in
    let up : Note = plain (Up s1.view.thread c.up-before.result) in
    let n = c.up-before.ensures.notes in
    let owes = turn_more s1.view.hand s1.view s2.view up first_turn n.adds r.turn_is in
    λ _. rests_from s2 s3 _ (record { due = WentUp c.up-before.result; call = AtEase }) c.down.ensures.notes owes
    (ap (λ (x : View). x.hand) n.adds.view ∙ r.idle) (ours_more s1.view.hand s1.view s2.view up n.adds r.ours) refl

pub returns-then-not-is_below-clause-goes : goal.returns-then-not-is_below-clause-goes
returns-then-not-is_below-clause-goes c =
    let s0 = c.args.seat.now in
    let s1 = c.gate.new.self in
    let s2 = c.up-before.new.self in
    let s3 = c.down.new.self in
    goes_both s0 s2 s3
    (goes_both s0 s1 s2 (goes_more s0 s1 _ c.gate.ensures.notes (λ i o. refl))
    (goes_more s1 s2 _ c.up-before.ensures.notes (λ i o. refl)))
    (goes_more s2 s3 _ c.down.ensures.notes (λ i o. refl))

pub returns-then-not-is_below-clause-knows : goal.returns-then-not-is_below-clause-knows
returns-then-not-is_below-clause-knows c =
    let s0 = c.args.seat.now in
    let s1 = c.gate.new.self in
    let s2 = c.up-before.new.self in
    let s3 = c.down.new.self in
    knows_both s0 s2 s3
    (knows_both s0 s1 s2 (knows_more s0 s1 _ c.gate.ensures.notes (λ p o. refl))
    (knows_more s1 s2 _ c.up-before.ensures.notes (λ p o. refl)))
    (knows_more s2 s3 _ c.down.ensures.notes (λ p o. refl))

pub returns-clause-admitted : goal.returns-clause-admitted
returns-clause-admitted c =
    let s0 = c.args.seat.now in
    let r = rests_more s0 c.gate.new.self _ c.gate.ensures.notes c.requires.rest refl in
    let s1 = c.gate.new.self in
    let s2 = c.up-before.new.self in
    let before = c.up-before.result in
    let up : Note = plain (Up s1.view.thread before) in
    let n = c.up-before.ensures.notes in
    let goes = goes_more s1 s2 up n (λ i o. refl) in
    λ _. record {
      before = before;
      turn_is = turn_more s1.view.hand s1.view s2.view up first_turn n.adds r.turn_is;
      below = subst (λ o. IsBelow o before)
          (ap (λ r. r.max) c.rules-max.ensures ∙ sym (ap (λ r. r.rules.max) goes.terms))
          (c.is_below.ensures c.if-not-is_below.false);
      admission = admitted_more s0 s1 s2 s0.view.thread s1.view.thread before c.if-gate.ensures.notes n;
      idle = ap (λ (x : View). x.hand) n.adds.view ∙ r.idle;
      ours = ours_more s1.view.hand s1.view s2.view up n.adds r.ours;
    }

pub returns-clause-goes : goal.returns-clause-goes
returns-clause-goes c =
    let s0 = c.args.seat.now in
    let s1 = c.gate.new.self in
    let s2 = c.up-before.new.self in
    goes_both s0 s1 s2 (goes_more s0 s1 _ c.gate.ensures.notes (λ i o. refl))
    (goes_more s1 s2 _ c.up-before.ensures.notes (λ i o. refl))

pub returns-clause-knows : goal.returns-clause-knows
returns-clause-knows c =
    let s0 = c.args.seat.now in
    let s1 = c.gate.new.self in
    let s2 = c.up-before.new.self in
    knows_both s0 s1 s2 (knows_more s0 s1 _ c.gate.ensures.notes (λ p o. refl))
    (knows_more s1 s2 _ c.up-before.ensures.notes (λ p o. refl))
