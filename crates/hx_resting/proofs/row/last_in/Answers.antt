use Rattle.std.proofs.Common.{◌≡◌, ◌+◌, ◌-◌, ℕ, drop, sym, ◌∙◌, subst, arith}
use Rattle.hx_resting.specs.Rows.{rests_of}
use Rattle.hx_resting.specs.Row.{NoneFits}
use Rattle.hx_resting.proofs.Looks.{last_is}
use Rattle.hx_resting.proofs.row.last_in.Goals as goal

pub returns-then-fits_at : goal.returns-then-fits_at
returns-then-fits_at g c =
    let back : c.loop-i.i ≡ (c.loop-i.i - 1) + 1 = omega arith in
    last_is g.V.Faced.shows c.args.mode c.args.first c.args.safe c.args.row c.args.resting.now (c.loop-i.i - 1) c.index-resting-i.result (omega (arith, c.loop-i.invariant.inside)) c.index-resting-i.is (sym c.fits_at.ensures ∙ c.if-fits_at.true)
    (subst (λ (j : ℕ). NoneFits c.args.mode c.args.first c.args.safe c.args.row (rests_of g.V.Faced.shows (drop j c.args.resting.now))) back c.loop-i.invariant.none)
