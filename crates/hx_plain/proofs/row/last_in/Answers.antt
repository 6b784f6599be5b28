use Rattle.std.proofs.Common.{◌≡◌, ◌+◌, ◌-◌, true, ℕ, drop, ap, sym, ◌∙◌, subst, arith}
use Rattle.hx_base.specs.declared.numbers.Face.{Face}
use Rattle.hx_plain.specs.declared.rest.Rest.{Rest}
use Rattle.hx_resting.specs.Row.{fits}
use Rattle.hx_plain.specs.Row.{rests_of, NoneFits}
use Rattle.hx_plain.proofs.Looks.{last_is}
use Rattle.hx_plain.proofs.row.last_in.Goals as goal

pub returns-then-fits : goal.returns-then-fits
returns-then-fits g c =
    let shows = g.V.Faced.shows in
    let r = c.index-resting-i.result in
    let back : c.loop-i.i ≡ (c.loop-i.i - 1) + 1 = omega arith in
    let good : fits c.args.mode c.args.first c.args.safe (shows r.v).face.uses ≡ true =
    ap (λ (y : Rest g.row.V.Denot). fits c.args.mode c.args.first c.args.safe (shows y.v).face.uses) c.index-resting-i.is ∙ ap (λ (f : Face). fits c.args.mode c.args.first c.args.safe f.uses) (sym c.face.ensures) ∙ (sym c.fits.ensures ∙ c.if-fits.true) in
    last_is shows c.args.mode c.args.first c.args.safe c.args.resting.now (c.loop-i.i - 1) r (omega (arith, c.loop-i.invariant.inside)) c.index-resting-i.is good
    (subst (λ (j : ℕ). NoneFits c.args.mode c.args.first c.args.safe (rests_of shows (drop j c.args.resting.now))) back c.loop-i.invariant.none)
