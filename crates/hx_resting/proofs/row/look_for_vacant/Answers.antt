use Rattle.std.proofs.Common.{◌≡◌, ◌≢◌, ◌+◌, ap, sym, ◌∙◌, arith, ⊎_elim}
use Rattle.std.proofs.lemmas.Bool.{cases_eq}
use Rattle.hx_pool.specs.Table.{found_of}
use Rattle.hx_resting.specs.Rows.{rests_of, spot_in}
use Rattle.hx_resting.specs.Row.{nth_no}
use Rattle.hx_resting.proofs.Looks.{scan_none, scan_more, empty_vacant, look_is}
use Rattle.hx_resting.proofs.row.look_for_vacant.Goals as goal

pub loop-q-init : goal.loop-q-init
loop-q-init g c = record { scan = scan_none (g.D.Desk.page c.args.desk.now) c.args.t c.args.threads (rests_of g.V.Faced.shows c.args.resting.now); out = c.requires.out }

pub returns-in-Empty : goal.returns-in-Empty
returns-in-Empty g c =
    let rests = rests_of g.V.Faced.shows c.args.resting.now in
    let s = c.loop-q.invariant.scan in
    let q = c.loop-q.q in
    let look = look_is (g.D.Desk.page c.loop-q.desk) (g.D.Desk.page c.write.new.self) c.args.t c.args.threads rests q c.place_at-place.result c.number_of.result c.found_at-found.result c.place_at-place.ensures c.number_of.ensures c.found_at-found.ensures c.write.ensures in (
      scan_more (g.D.Desk.page c.args.desk.now) (g.D.Desk.page c.loop-q.desk) (g.D.Desk.page c.write.new.self) c.args.t c.args.threads rests q q s look.0 q s.taken,
      omega arith,
      empty_vacant rests (nth_no c.args.t c.args.threads q) (sym look.1 ∙ c.in-Empty.is),
    )

pub loop-q-preserved : goal.loop-q-preserved
loop-q-preserved g c =
    let rests = rests_of g.V.Faced.shows c.args.resting.now in
    let s = c.loop-q.invariant.scan in
    let q = c.loop-q.q in
    let look = look_is (g.D.Desk.page c.loop-q.desk) (g.D.Desk.page c.write.new.self) c.args.t c.args.threads rests q c.place_at-place.result c.number_of.result c.found_at-found.result c.place_at-place.ensures c.number_of.ensures c.found_at-found.ensures c.write.ensures in record {
      scan = scan_more (g.D.Desk.page c.args.desk.now) (g.D.Desk.page c.loop-q.desk) (g.D.Desk.page c.write.new.self) c.args.t c.args.threads rests q q s look.0 (q + 1)
          (λ j h. ⊎_elim (λ (e : j ≡ q). λ v. c.in_default.not-Empty (look.1 ∙ ap found_of (ap (λ i. spot_in rests (nth_no c.args.t c.args.threads i)) (sym e) ∙ v))) (λ (ne : j ≢ q). s.taken j (omega arith)) (cases_eq j q));
      out = ap (λ d. d.view.out) look.0 ∙ c.loop-q.invariant.out;
    }
