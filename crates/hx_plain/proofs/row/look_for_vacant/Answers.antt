use Rattle.std.proofs.Common.{◌≡◌, ◌≢◌, ◌+◌, ap, sym, ◌∙◌, arith}
use Rattle.std.proofs.lemmas.Bool.{cases_eq}
use Rattle.std.proofs.Common.{⊎_elim}
use Rattle.hx_pool.specs.Table.{found_of}
use Rattle.hx_plain.specs.Row.{rests_of, spot_in}
use Rattle.hx_plain.proofs.Looks.{scan_none, scan_more, empty_vacant}
use Rattle.hx_plain.proofs.row.look_for_vacant.Goals as goal

pub loop-place-init : goal.loop-place-init
loop-place-init g c = scan_none c.args.ledger.now c.args.t (rests_of g.V.Faced.shows c.args.resting.now)

pub returns-in-Empty : goal.returns-in-Empty
returns-in-Empty g c =
    let rests = rests_of g.V.Faced.shows c.args.resting.now in
    let s = c.loop-place.invariant in (
      scan_more c.args.ledger.now c.loop-place.ledger c.write.new.self c.args.t rests c.loop-place.place c.loop-place.place s (rw c.found_at-found.ensures at c.write.ensures) c.loop-place.place s.taken,
      omega arith,
      empty_vacant rests c.loop-place.place (sym c.found_at-found.ensures ∙ c.in-Empty.is),
    )

pub loop-place-preserved : goal.loop-place-preserved
loop-place-preserved g c =
    let rests = rests_of g.V.Faced.shows c.args.resting.now in
    let s = c.loop-place.invariant in
    let p = c.loop-place.place in
    scan_more c.args.ledger.now c.loop-place.ledger c.write.new.self c.args.t rests p p s (rw c.found_at-found.ensures at c.write.ensures) (p + 1)
    (λ q h. ⊎_elim (λ (e : q ≡ p). λ v. c.in_default.not-Empty (c.found_at-found.ensures ∙ ap found_of (ap (spot_in rests) (sym e) ∙ v))) (λ (ne : q ≢ p). s.taken q (omega arith)) (cases_eq q p))
