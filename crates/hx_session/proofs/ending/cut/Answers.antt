use Rattle.std.proofs.Common.{◌∙◌}
use Rattle.std.proofs.Common.{List, map, refl, sym, ap, subst, inr, Some}
use Rattle.hx_pool.specs.SeatView.{History}
use Rattle.hx_connecting.specs.Outcomes.{Leaving}
use Rattle.hx_connecting.proofs.TouchedCalls.{broken_cause}
use Rattle.hx_connecting.proofs.WayCalls.{busy_some}
use Rattle.hx_session.proofs.ClosingLemmas.{cut_breaks}
use Rattle.hx_session.specs.Parting.{first_of}
use Rattle.hx_session.specs.Stages.{Exchanging as Stage}
use Rattle.hx_session.proofs.StandingLemmas.{goes_ends, cut_keeps, cut_leaves}
use Rattle.hx_session.proofs.TellLemmas.{cut_told}
use Rattle.hx_session.specs.Desks.{desk_now, DeskNow}
use Rattle.hx_session.specs.Exchanged.{exchange_now, ExchangeNow}
use Rattle.hx_session.specs.declared.stage.Came.{Came}
use Rattle.hx_session.specs.Ending.{EndsInCut}
use Rattle.hx_session.proofs.PickLemmas.{never_none}
use Rattle.hx_session.specs.Still.{HasMoved}
use Rattle.hx_session.proofs.DecidedLemmas.{closes_buries}
use Rattle.hx_session.specs.Decided.{CutsAs}
use Rattle.hx_session.specs.Over.{carried_of}
use Rattle.hx_record.specs.declared.served.Served.{Served}
use Rattle.hx_session.proofs.ending.cut.Goals as goal

pub returns-clause-ends : goal.returns-clause-ends
returns-clause-ends g c =
    let d : DeskNow = desk_now g.L.Link.state c.args.desk.now in
    let mid : DeskNow = desk_now g.L.Link.state c.cut_off-served.new.desk in
    let e = c.drop_waiting.ensures in
    subst (λ (x : Came g.row.L.Denot). EndsInCut d (desk_now g.L.Link.state c.drop_waiting.new.self) (exchange_now c.args.exchange) c.args.cause x) (sym c.leave_after.ensures)
    (refl, refl, (c.cut_off-served.result, mid, refl, c.cut_off-served.ensures.cuts, ap (λ (x : DeskNow). x.client) e, ap (λ (x : DeskNow). x.ask_from) e, ap (λ (x : DeskNow). x.gave_from) e))

pub returns-clause-goes : goal.returns-clause-goes
returns-clause-goes g c =
    let f = g.S.HasHistory.history in
    let d : DeskNow = desk_now g.L.Link.state c.args.desk.now in
    let d1 : DeskNow = desk_now g.L.Link.state c.cut_off-served.new.desk in
    let d2 : DeskNow = desk_now g.L.Link.state c.drop_waiting.new.self in
    let e : ExchangeNow = exchange_now c.args.exchange in
    let olds : List History = map f c.args.seats.now in
    let news : List History = map f c.cut_off-served.new.seats in
    let k = c.cut_off-served.ensures in
    let is = c.drop_waiting.ensures in
    let w = busy_some d.worker d.session (first_of d) e.busy Leaving olds news (g.N.Net.state c.args.net.now) (g.N.Net.state c.cut_off-served.new.net) (Some c.cut_off-served.result) c.requires.set.around k.meaning
    (broken_cause d.session e.busy Leaving _ _ (Some c.cut_off-served.result) (cut_breaks d d1 e c.args.cause c.cut_off-served.result Leaving k.cuts)) k.closes in
    goes_ends d d2 (Stage e) olds news (g.N.Net.state c.args.net.now) (g.N.Net.state c.cut_off-served.new.net) c.leave_after.result _ c.leave_after.ensures
    (record { desk = cut_keeps d d1 d2 e c.args.cause c.cut_off-served.result k.cuts is; about = k.about; loop_no = k.loop_ })
    (cut_leaves d d1 d2 e c.args.cause c.cut_off-served.result olds news k.cuts is c.requires.set (k.around d.worker c.requires.set.around))
    (inr (record { touch = w.touch; may = inr refl; counts = tt; at = w.at; way = w.way }))
    (cut_told d d1 d2 e c.args.cause c.cut_off-served.result c.requires.ends k.cuts is)
    (λ none. never_none e.busy none _ _ _)

pub returns-clause-moved : goal.returns-clause-moved
returns-clause-moved g c = subst (λ (x : Came g.row.L.Denot). HasMoved x) (sym c.leave_after.ensures) tt

pub returns-clause-cuts : goal.returns-clause-cuts
returns-clause-cuts g c =
    let f = g.S.HasHistory.history in
    let d : DeskNow = desk_now g.L.Link.state c.args.desk.now in
    let d2 : DeskNow = desk_now g.L.Link.state c.drop_waiting.new.self in
    let e : ExchangeNow = exchange_now c.args.exchange in
    let net = g.N.Net.state c.args.net.now in
    let net2 = g.N.Net.state c.cut_off-served.new.net in
    let k = c.cut_off-served.ensures in
    let client = ap (λ (x : DeskNow). x.client) c.drop_waiting.ensures ∙ ap (λ (x : DeskNow). x.client) k.cuts.desk in
    subst (λ (x : Came g.row.L.Denot). CutsAs d e.busy net c.args.cause d2 x net2) (sym c.leave_after.ensures) (
      (c.cut_off-served.result, carried_of e k.cuts.took_to, c.args.cause, refl, ap (λ (r : Served). r.kind) k.cuts.served, refl),
      refl,
      client,
      k.meaning,
      closes_buries e.busy d.session (map f c.args.seats.now) (map f c.cut_off-served.new.seats) net net2 k.meaning k.closes,
    )
