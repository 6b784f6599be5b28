use Rattle.std.proofs.Common.{◌≡◌, ◌≢◌, ℕ, sym, ap, ◌∙◌, arith}
use Rattle.hx_pool.specs.SeatView.{About}
use Rattle.hx_pool_tests.proofs.ThreeSeats.{three_of}
use Rattle.hx_pool_tests.proofs.tests.boards.seats_of.Goals as goal

pub returns-clause-servers : goal.returns-clause-servers
returns-clause-servers g c =
    let all = c.in_ok-seats.ensures.seats in
    let each = three_of c.in_ok-seats.seats.items c.pop.new.self.items c.pop-2.new.self.items c.pop-3.new.self.items c.pop-3.result c.pop-2.result c.pop.result c.unwrap-a.result c.unwrap-b.result c.unwrap-c.result c.pop.ensures.items c.unwrap-c.ensures c.pop-2.ensures.items c.unwrap-b.ensures c.pop-3.ensures.items c.unwrap-a.ensures (all.0 ∙ c.requires.terms.0) in
    let a = all.1 0 c.unwrap-a.result each.0 in
    let b = all.1 1 c.unwrap-b.result each.1 in
    let d = all.1 2 c.unwrap-c.result each.2 in
    (ap (λ (x : About). x.server) a.0 ∙ c.requires.terms.1, ap (λ (x : About). x.server) b.0 ∙ c.requires.terms.1, ap (λ (x : About). x.server) d.0 ∙ c.requires.terms.1)

apart : (x y : ℕ) → x ≡ 0 → y ≡ 1 → x ≢ y
apart x y e f same = omega arith

pub returns-clause-one : goal.returns-clause-one
returns-clause-one g c =
    let all = c.in_ok-seats.ensures.seats in
    let each = three_of c.in_ok-seats.seats.items c.pop.new.self.items c.pop-2.new.self.items c.pop-3.new.self.items c.pop-3.result c.pop-2.result c.pop.result c.unwrap-a.result c.unwrap-b.result c.unwrap-c.result c.pop.ensures.items c.unwrap-c.ensures c.pop-2.ensures.items c.unwrap-b.ensures c.pop-3.ensures.items c.unwrap-a.ensures (all.0 ∙ c.requires.terms.0) in
    let a = all.1 0 c.unwrap-a.result each.0 in
    let b = all.1 1 c.unwrap-b.result each.1 in
    record { board = ap (λ (x : About). x.board) a.0 ∙ sym (ap (λ (x : About). x.board) b.0); apart = apart _ _ (ap (λ (x : About). x.thread.0) a.0) (ap (λ (x : About). x.thread.0) b.0) }
