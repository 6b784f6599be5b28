use Rattle.std.proofs.Common.{◌≡◌, ◌<◌, Bool, cond, true, false, sym, ap, ◌∙◌, subst}
use Rattle.hx_places.specs.declared.view.View.{View}
use Rattle.hx_places.specs.Asks.{MayReadGate}
use Rattle.hx_places.specs.Turns.{Turn, Settled, AtEase, HasParked, FoundDrain}
use Rattle.hx_places_load.proofs.Noting.{turn_more, ours_more}
use Rattle.hx_places_load.proofs.steps.drains_now.Goals as goal

pub gate-requires : goal.gate-requires
gate-requires c = let p = c.requires.parked.2.turn_is in record { ease = subst MayReadGate (sym (ap (λ (z : Turn). z.call) p)) tt }

pub returns-clause-ready : goal.returns-clause-ready
returns-clause-ready c =
    let s1 = c.args.seat.now in
    let s2 = c.gate.new.self in
    let place = c.requires.parked.0 in
    let f = c.requires.parked.1 in
    let h = c.requires.parked.2 in
    let n = c.gate.ensures.notes in
    let q = turn_more s1.view.hand s1.view s2.view _ (record { due = Settled; call = HasParked place f }) n.adds h.turn_is in
    λ off. record {
      turn_is = q ∙ ap (λ (d : Bool). let t : Turn = record { due = Settled; call = cond d (FoundDrain place f) AtEase } in t) off;
      idle = ap (λ (x : View). x.hand) n.adds.view ∙ h.idle;
      ours = ours_more s1.view.hand s1.view s2.view _ n.adds h.ours;
    }

pub returns-clause-drains : goal.returns-clause-drains
returns-clause-drains c place f h on =
    let s1 = c.args.seat.now in
    let s2 = c.gate.new.self in
    let n = c.gate.ensures.notes in
    let q = turn_more s1.view.hand s1.view s2.view _ (record { due = Settled; call = HasParked place f }) n.adds h.turn_is in
    let terms = ap (λ (x : View). x.terms) n.adds.view in record {
      turn_is = q ∙ ap (λ (d : Bool). let t : Turn = record { due = Settled; call = cond d (FoundDrain place f) AtEase } in t) on;
      idle = ap (λ (x : View). x.hand) n.adds.view ∙ h.idle;
      board = (subst (λ b. place.row < b.threads) (sym terms) h.board.0, h.board.1);
      ours = ours_more s1.view.hand s1.view s2.view _ n.adds h.ours;
    }
