use Rattle.std.proofs.Common.{◌≡◌, ◌≢◌, ℕ, sym, ap, ◌∙◌, arith}
use Rattle.hx_places.specs.Seats.{PlaceView}
use Rattle.hx_pool_tests.proofs.RowCalls.{owner_first, two_of}
use Rattle.hx_pool_tests.proofs.tests.rows.owners_of.Goals as goal

pub returns-clause-a : goal.returns-clause-a
returns-clause-a c =
    let all = c.in_ok-seats.ensures.seats in
    let each = two_of c.in_ok-seats.seats.items c.pop.new.self.items c.pop-2.new.self.items c.pop-2.result c.pop.result c.unwrap-first.result c.unwrap-last.result c.pop.ensures.items c.unwrap-last.ensures c.pop-2.ensures.items c.unwrap-first.ensures (all.count ∙ c.requires.terms.0) in
    owner_first _ _ _ c.unwrap-first.result c.in_ok-new.field-0 (all.each 0 c.unwrap-first.result each.0) c.requires.terms.1 c.in_ok-new.ensures.0

pub returns-clause-b : goal.returns-clause-b
returns-clause-b c =
    let all = c.in_ok-seats.ensures.seats in
    let each = two_of c.in_ok-seats.seats.items c.pop.new.self.items c.pop-2.new.self.items c.pop-2.result c.pop.result c.unwrap-first.result c.unwrap-last.result c.pop.ensures.items c.unwrap-last.ensures c.pop-2.ensures.items c.unwrap-first.ensures (all.count ∙ c.requires.terms.0) in
    owner_first _ _ _ _ c.in_ok-new-2.field-0 (c.last.view_is ∙ all.each 1 c.unwrap-last.result each.1) c.requires.terms.1 c.in_ok-new-2.ensures.0

pub returns-clause-board : goal.returns-clause-board
returns-clause-board c =
    let all = c.in_ok-seats.ensures.seats in
    let each = two_of c.in_ok-seats.seats.items c.pop.new.self.items c.pop-2.new.self.items c.pop-2.result c.pop.result c.unwrap-first.result c.unwrap-last.result c.pop.ensures.items c.unwrap-last.ensures c.pop-2.ensures.items c.unwrap-first.ensures (all.count ∙ c.requires.terms.0) in
    ap (λ (s : PlaceView). s.board) (all.each 0 c.unwrap-first.result each.0) ∙ sym (ap (λ (s : PlaceView). s.board) (c.last.view_is ∙ all.each 1 c.unwrap-last.result each.1))

apart : (x y : ℕ) → x ≡ 0 → y ≡ 1 → x ≢ y
apart x y e f same = omega arith

pub returns-clause-apart : goal.returns-clause-apart
returns-clause-apart c =
    let all = c.in_ok-seats.ensures.seats in
    let each = two_of c.in_ok-seats.seats.items c.pop.new.self.items c.pop-2.new.self.items c.pop-2.result c.pop.result c.unwrap-first.result c.unwrap-last.result c.pop.ensures.items c.unwrap-last.ensures c.pop-2.ensures.items c.unwrap-first.ensures (all.count ∙ c.requires.terms.0) in
    apart _ _ (ap (λ (s : PlaceView). s.view.thread.0) (all.each 0 c.unwrap-first.result each.0)) (ap (λ (s : PlaceView). s.view.thread.0) (c.last.view_is ∙ all.each 1 c.unwrap-last.result each.1))
