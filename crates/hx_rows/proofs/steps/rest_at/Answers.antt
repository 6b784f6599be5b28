use Rattle.std.proofs.Common.{sym, ap, subst}
use Rattle.hx_base.specs.declared.numbers.PlaceNo.{PlaceNo}
use Rattle.hx_base.specs.PlaceWords.{IsFace}
use Rattle.hx_pool.specs.Parking.{parked}
use Rattle.hx_places.specs.Turns.{Turn}
use Rattle.hx_places.specs.Asks.{MayReadGate}
use Rattle.hx_places.specs.Seats.{PlaceView, claiming_at, Publishes}
use Rattle.hx_rows.proofs.Parking.{parked_turn, face_fine, stays, may_try, is_taken, comes_back, can_take_back, gated_terms}
use Rattle.hx_rows.proofs.steps.rest_at.Goals as goal

pub gate-requires : goal.gate-requires
gate-requires g c =
    let s0 = c.args.seat.now in
    let s2 = c.publish.new.self in
    let v = g.V.Faced.shows c.args.v in
    let P : Publishes (claiming_at s0 c.args.place) s2 (parked s0.view.thread c.args.n c.args.place v) = subst (λ (z : PlaceView × PlaceNo). Publishes z.0 s2 (parked z.0.view.thread c.args.n z.1 v))
    (λ i. (c.claim-claim.ensures.claims i, c.claim-claim.ensures.claim i)) c.publish.ensures.notes in
    record { ease = subst MayReadGate (sym (ap (λ (s : Turn). s.call) (parked_turn s0 s2 c.args.n c.args.place v c.requires.may P))) tt }

pub returns-then-not-gate : goal.returns-then-not-gate
returns-then-not-gate g c =
    let s0 = c.args.seat.now in
    let s2 = c.publish.new.self in
    let v = g.V.Faced.shows c.args.v in
    let P : Publishes (claiming_at s0 c.args.place) s2 (parked s0.view.thread c.args.n c.args.place v) = subst (λ (z : PlaceView × PlaceNo). Publishes z.0 s2 (parked z.0.view.thread c.args.n z.1 v))
    (λ i. (c.claim-claim.ensures.claims i, c.claim-claim.ensures.claim i)) c.publish.ensures.notes in
    stays s0 s2 c.args.n c.args.place v c.requires.may P c.gate.new.self c.gate.result c.if-not-gate.true c.gate.ensures.notes

pub take_from-requires-clause-takes : goal.take_from-requires-clause-takes
take_from-requires-clause-takes g c =
    let s0 = c.args.seat.now in
    let s2 = c.publish.new.self in
    let v = g.V.Faced.shows c.args.v in
    let P : Publishes (claiming_at s0 c.args.place) s2 (parked s0.view.thread c.args.n c.args.place v) = subst (λ (z : PlaceView × PlaceNo). Publishes z.0 s2 (parked z.0.view.thread c.args.n z.1 v))
    (λ i. (c.claim-claim.ensures.claims i, c.claim-claim.ensures.claim i)) c.publish.ensures.notes in
    can_take_back s0 c.gate.new.self c.args.n c.face-face.result (subst IsFace (sym c.face-face.ensures) (face_fine s0 s2 c.args.n c.args.place v c.requires.may P)) c.requires.mode (gated_terms s0 s2 c.args.n c.args.place v c.requires.may P c.gate.new.self c.gate.result c.if-not-gate.false c.gate.ensures.notes)

pub take_from-requires-clause-turn : goal.take_from-requires-clause-turn
take_from-requires-clause-turn g c =
    let s0 = c.args.seat.now in
    let s2 = c.publish.new.self in
    let v = g.V.Faced.shows c.args.v in
    let P : Publishes (claiming_at s0 c.args.place) s2 (parked s0.view.thread c.args.n c.args.place v) = subst (λ (z : PlaceView × PlaceNo). Publishes z.0 s2 (parked z.0.view.thread c.args.n z.1 v))
    (λ i. (c.claim-claim.ensures.claims i, c.claim-claim.ensures.claim i)) c.publish.ensures.notes in
    may_try s0 s2 c.args.n c.args.place v c.requires.may P c.gate.new.self c.gate.result c.face-face.result c.if-not-gate.false c.gate.ensures.notes c.face-face.ensures

pub returns-in-Some : goal.returns-in-Some
returns-in-Some g c =
    let s0 = c.args.seat.now in
    let s2 = c.publish.new.self in
    let v = g.V.Faced.shows c.args.v in
    let P : Publishes (claiming_at s0 c.args.place) s2 (parked s0.view.thread c.args.n c.args.place v) = subst (λ (z : PlaceView × PlaceNo). Publishes z.0 s2 (parked z.0.view.thread c.args.n z.1 v))
    (λ i. (c.claim-claim.ensures.claims i, c.claim-claim.ensures.claim i)) c.publish.ensures.notes in
    comes_back s0 s2 c.args.n c.args.place v c.requires.may P c.gate.new.self c.take_from.new.seat c.gate.result c.face-face.result (g.V.Faced.shows c.in-Some.v) c.if-not-gate.false c.gate.ensures.notes c.face-face.ensures c.requires.parks.server c.in-Some.ensures

pub returns-in-None : goal.returns-in-None
returns-in-None g c =
    let s0 = c.args.seat.now in
    let s2 = c.publish.new.self in
    let v = g.V.Faced.shows c.args.v in
    let P : Publishes (claiming_at s0 c.args.place) s2 (parked s0.view.thread c.args.n c.args.place v) = subst (λ (z : PlaceView × PlaceNo). Publishes z.0 s2 (parked z.0.view.thread c.args.n z.1 v))
    (λ i. (c.claim-claim.ensures.claims i, c.claim-claim.ensures.claim i)) c.publish.ensures.notes in
    is_taken s0 s2 c.args.n c.args.place v c.requires.may P c.gate.new.self c.take_from.new.seat c.gate.result c.face-face.result c.if-not-gate.false c.gate.ensures.notes c.face-face.ensures c.in-None.ensures
