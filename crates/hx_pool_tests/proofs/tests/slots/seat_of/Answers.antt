use Rattle.std.proofs.Common.{◌≡◌, ap, ◌∙◌}
use Rattle.std.proofs.lemmas.Result.{IfOk-weaker}
use Rattle.hx_pool.specs.SeatView.{History}
use Rattle.hx_places.specs.Seats.{PlaceView}
use Rattle.hx_purge.specs.Slots.{SlotView}
use Rattle.hx_pool_tests.proofs.ThreeSeats.{one_of}
use Rattle.hx_pool_tests.proofs.tests.slots.seat_of.Goals as goal

pub new-requires-clause-unused : goal.new-requires-clause-unused
new-requires-clause-unused c =
    let all = c.in_ok-seats.ensures.seats in
    let first = one_of c.in_ok-seats.seats.items c.pop.new.self.items c.pop.result c.unwrap-seat.result c.pop.ensures.items c.unwrap-seat.ensures (all.count ∙ c.requires.terms.0) in
    ap (λ (s : PlaceView). s.view.mine) (all.each 0 c.unwrap-seat.result first)

pub new-requires-clause-idle : goal.new-requires-clause-idle
new-requires-clause-idle c =
    let all = c.in_ok-seats.ensures.seats in
    let first = one_of c.in_ok-seats.seats.items c.pop.new.self.items c.pop.result c.unwrap-seat.result c.pop.ensures.items c.unwrap-seat.ensures (all.count ∙ c.requires.terms.0) in
    ap (λ (s : PlaceView). s.view.hand) (all.each 0 c.unwrap-seat.result first)

pub returns : goal.returns
returns c =
    let all = c.in_ok-seats.ensures.seats in
    let first = one_of c.in_ok-seats.seats.items c.pop.new.self.items c.pop.result c.unwrap-seat.result c.pop.ensures.items c.unwrap-seat.ensures (all.count ∙ c.requires.terms.0) in
    IfOk-weaker _ _ (λ (s : SlotView). s.history.about.server ≡ record { 0 = 0 })
    (λ s e. ap (λ (h : History). h.about.server) e ∙ (ap (λ (s : PlaceView). s.view.terms.server) (all.each 0 c.unwrap-seat.result first) ∙ c.requires.terms.1))
    c.new.ensures.history
