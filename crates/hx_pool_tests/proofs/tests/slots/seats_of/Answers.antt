use Rattle.std.proofs.Common.{◌≡◌, ◌≢◌, ℕ, sym, ap, ◌∙◌, arith}
use Rattle.hx_pool.specs.SeatView.{History}
use Rattle.hx_places.specs.Seats.{PlaceView}
use Rattle.hx_pool_tests.proofs.ThreeSeats.{three_of}
use Rattle.hx_pool_tests.proofs.tests.slots.seats_of.Goals as goal

pub new-requires-clause-unused : goal.new-requires-clause-unused
new-requires-clause-unused c =
    let all = c.in_ok-seats.ensures.seats in
    let each = three_of c.in_ok-seats.seats.items c.pop.new.self.items c.pop-2.new.self.items c.pop-3.new.self.items c.pop-3.result c.pop-2.result c.pop.result c.unwrap-first.result c.unwrap-second.result c.unwrap-third.result c.pop.ensures.items c.unwrap-third.ensures c.pop-2.ensures.items c.unwrap-second.ensures c.pop-3.ensures.items c.unwrap-first.ensures (all.count ∙ c.requires.terms.0) in
    ap (λ (s : PlaceView). s.view.mine) (all.each 0 c.unwrap-first.result each.0)

pub new-requires-clause-idle : goal.new-requires-clause-idle
new-requires-clause-idle c =
    let all = c.in_ok-seats.ensures.seats in
    let each = three_of c.in_ok-seats.seats.items c.pop.new.self.items c.pop-2.new.self.items c.pop-3.new.self.items c.pop-3.result c.pop-2.result c.pop.result c.unwrap-first.result c.unwrap-second.result c.unwrap-third.result c.pop.ensures.items c.unwrap-third.ensures c.pop-2.ensures.items c.unwrap-second.ensures c.pop-3.ensures.items c.unwrap-first.ensures (all.count ∙ c.requires.terms.0) in
    ap (λ (s : PlaceView). s.view.hand) (all.each 0 c.unwrap-first.result each.0)

pub returns-clause-a : goal.returns-clause-a
returns-clause-a c =
    let all = c.in_ok-seats.ensures.seats in
    let each = three_of c.in_ok-seats.seats.items c.pop.new.self.items c.pop-2.new.self.items c.pop-3.new.self.items c.pop-3.result c.pop-2.result c.pop.result c.unwrap-first.result c.unwrap-second.result c.unwrap-third.result c.pop.ensures.items c.unwrap-third.ensures c.pop-2.ensures.items c.unwrap-second.ensures c.pop-3.ensures.items c.unwrap-first.ensures (all.count ∙ c.requires.terms.0) in
    ap (λ (h : History). h.about.server) c.in_ok-a.ensures.history ∙ (ap (λ (s : PlaceView). s.view.terms.server) (all.each 0 c.unwrap-first.result each.0) ∙ c.requires.terms.1)

pub new-requires-2-clause-unused : goal.new-requires-2-clause-unused
new-requires-2-clause-unused c =
    let all = c.in_ok-seats.ensures.seats in
    let each = three_of c.in_ok-seats.seats.items c.pop.new.self.items c.pop-2.new.self.items c.pop-3.new.self.items c.pop-3.result c.pop-2.result c.pop.result c.unwrap-first.result c.unwrap-second.result c.unwrap-third.result c.pop.ensures.items c.unwrap-third.ensures c.pop-2.ensures.items c.unwrap-second.ensures c.pop-3.ensures.items c.unwrap-first.ensures (all.count ∙ c.requires.terms.0) in
    ap (λ (s : PlaceView). s.view.mine) (all.each 1 c.unwrap-second.result each.1)

pub new-requires-2-clause-idle : goal.new-requires-2-clause-idle
new-requires-2-clause-idle c =
    let all = c.in_ok-seats.ensures.seats in
    let each = three_of c.in_ok-seats.seats.items c.pop.new.self.items c.pop-2.new.self.items c.pop-3.new.self.items c.pop-3.result c.pop-2.result c.pop.result c.unwrap-first.result c.unwrap-second.result c.unwrap-third.result c.pop.ensures.items c.unwrap-third.ensures c.pop-2.ensures.items c.unwrap-second.ensures c.pop-3.ensures.items c.unwrap-first.ensures (all.count ∙ c.requires.terms.0) in
    ap (λ (s : PlaceView). s.view.hand) (all.each 1 c.unwrap-second.result each.1)

pub returns-clause-b : goal.returns-clause-b
returns-clause-b c =
    let all = c.in_ok-seats.ensures.seats in
    let each = three_of c.in_ok-seats.seats.items c.pop.new.self.items c.pop-2.new.self.items c.pop-3.new.self.items c.pop-3.result c.pop-2.result c.pop.result c.unwrap-first.result c.unwrap-second.result c.unwrap-third.result c.pop.ensures.items c.unwrap-third.ensures c.pop-2.ensures.items c.unwrap-second.ensures c.pop-3.ensures.items c.unwrap-first.ensures (all.count ∙ c.requires.terms.0) in
    ap (λ (h : History). h.about.server) c.in_ok-b.ensures.history ∙ (ap (λ (s : PlaceView). s.view.terms.server) (all.each 1 c.unwrap-second.result each.1) ∙ c.requires.terms.1)

pub new-requires-3-clause-unused : goal.new-requires-3-clause-unused
new-requires-3-clause-unused c =
    let all = c.in_ok-seats.ensures.seats in
    let each = three_of c.in_ok-seats.seats.items c.pop.new.self.items c.pop-2.new.self.items c.pop-3.new.self.items c.pop-3.result c.pop-2.result c.pop.result c.unwrap-first.result c.unwrap-second.result c.unwrap-third.result c.pop.ensures.items c.unwrap-third.ensures c.pop-2.ensures.items c.unwrap-second.ensures c.pop-3.ensures.items c.unwrap-first.ensures (all.count ∙ c.requires.terms.0) in
    ap (λ (s : PlaceView). s.view.mine) (all.each 2 c.unwrap-third.result each.2)

pub new-requires-3-clause-idle : goal.new-requires-3-clause-idle
new-requires-3-clause-idle c =
    let all = c.in_ok-seats.ensures.seats in
    let each = three_of c.in_ok-seats.seats.items c.pop.new.self.items c.pop-2.new.self.items c.pop-3.new.self.items c.pop-3.result c.pop-2.result c.pop.result c.unwrap-first.result c.unwrap-second.result c.unwrap-third.result c.pop.ensures.items c.unwrap-third.ensures c.pop-2.ensures.items c.unwrap-second.ensures c.pop-3.ensures.items c.unwrap-first.ensures (all.count ∙ c.requires.terms.0) in
    ap (λ (s : PlaceView). s.view.hand) (all.each 2 c.unwrap-third.result each.2)

pub returns-clause-c : goal.returns-clause-c
returns-clause-c c =
    let all = c.in_ok-seats.ensures.seats in
    let each = three_of c.in_ok-seats.seats.items c.pop.new.self.items c.pop-2.new.self.items c.pop-3.new.self.items c.pop-3.result c.pop-2.result c.pop.result c.unwrap-first.result c.unwrap-second.result c.unwrap-third.result c.pop.ensures.items c.unwrap-third.ensures c.pop-2.ensures.items c.unwrap-second.ensures c.pop-3.ensures.items c.unwrap-first.ensures (all.count ∙ c.requires.terms.0) in
    ap (λ (h : History). h.about.server) c.in_ok-c.ensures.history ∙ (ap (λ (s : PlaceView). s.view.terms.server) (all.each 2 c.unwrap-third.result each.2) ∙ c.requires.terms.1)

apart : (x y : ℕ) → x ≡ 0 → y ≡ 2 → x ≢ y
apart x y e f same = omega arith

pub returns-clause-one : goal.returns-clause-one
returns-clause-one c =
    let all = c.in_ok-seats.ensures.seats in
    let each = three_of c.in_ok-seats.seats.items c.pop.new.self.items c.pop-2.new.self.items c.pop-3.new.self.items c.pop-3.result c.pop-2.result c.pop.result c.unwrap-first.result c.unwrap-second.result c.unwrap-third.result c.pop.ensures.items c.unwrap-third.ensures c.pop-2.ensures.items c.unwrap-second.ensures c.pop-3.ensures.items c.unwrap-first.ensures (all.count ∙ c.requires.terms.0) in
    let first = all.each 0 c.unwrap-first.result each.0 in
    let third = all.each 2 c.unwrap-third.result each.2 in
    let a = c.in_ok-a.ensures.history in
    let b = c.in_ok-c.ensures.history in
    record {
      board = ap (λ (h : History). h.about.board) a ∙ (ap (λ (s : PlaceView). s.board) first ∙ sym (ap (λ (h : History). h.about.board) b ∙ ap (λ (s : PlaceView). s.board) third));
      apart = apart _ _ (ap (λ (h : History). h.about.thread.0) a ∙ ap (λ (s : PlaceView). s.view.thread.0) first) (ap (λ (h : History). h.about.thread.0) b ∙ ap (λ (s : PlaceView). s.view.thread.0) third);
    }
