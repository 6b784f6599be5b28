use Rattle.std.proofs.Common.{◌+◌, ℕ, ap, subst, ◌∙◌, arith}
use Rattle.hx_pool.specs.Table.{spot_no}
use Rattle.hx_resting.specs.Rows.{rests_of, spot_in}
use Rattle.hx_resting.specs.Row.{is_wanted, IsUnfit, GoodAt}
use Rattle.hx_resting.proofs.Looks.{ran_none, ran_more, look_is}
use Rattle.hx_resting.proofs.row.look_for_wanted.Goals as goal

pub loop-count-init : goal.loop-count-init
loop-count-init g c = record { ran = ran_none (g.D.Desk.page c.args.desk.now) c.args.t c.args.threads (is_wanted c.args.wanted) (rests_of g.V.Faced.shows c.args.resting.now) c.args.from; out = c.requires.out }

pub returns-in-Some : goal.returns-in-Some
returns-in-Some g c =
    let at = c.number_of-no.ensures ∙ ap spot_no c.place_at-place.ensures in
    (c.loop-count.invariant.ran, omega arith, subst (λ (j : ℕ). GoodAt (is_wanted c.args.wanted) (rests_of g.V.Faced.shows c.args.resting.now) c.in-Some.i j) at c.in-Some.ensures)

pub loop-count-preserved : goal.loop-count-preserved
loop-count-preserved g c =
    let rests = rests_of g.V.Faced.shows c.args.resting.now in
    let may = is_wanted c.args.wanted in
    let k = c.loop-count.count in
    let at = c.number_of-no.ensures ∙ ap spot_no c.place_at-place.ensures in
    let none = subst (λ (j : ℕ). IsUnfit may (spot_in rests j)) at c.in_default.ensures in
    let look = look_is (g.D.Desk.page c.loop-count.desk) (g.D.Desk.page c.write.new.self) c.args.t c.args.threads rests (c.args.from + k) c.place_at-place.result c.number_of-no.result c.found_at-found.result c.place_at-place.ensures c.number_of-no.ensures c.found_at-found.ensures c.write.ensures in record {
      ran = ran_more (g.D.Desk.page c.args.desk.now) (g.D.Desk.page c.loop-count.desk) (g.D.Desk.page c.write.new.self) c.args.t c.args.threads may rests c.args.from k c.loop-count.invariant.ran none look.0;
      out = ap (λ d. d.view.out) look.0 ∙ c.loop-count.invariant.out;
    }
