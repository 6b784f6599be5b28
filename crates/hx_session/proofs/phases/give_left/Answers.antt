use Rattle.std.proofs.Common.{sym, ap, subst, Some, List, map, ◌∙◌, inr}
use Rattle.hx_link.specs.Told.{LinkState}
use Rattle.hx_record.specs.declared.served.Left.{Left}
use Rattle.hx_session.specs.Desks.{desk_now, DeskNow}
use Rattle.hx_session.specs.Stages.{Left as Gone}
use Rattle.hx_session.specs.Telling.{DoneTells}
use Rattle.hx_session.proofs.TellLemmas.{end_detached}
use Rattle.hx_pool.specs.SeatView.{History}
use Rattle.hx_session.proofs.PartingLemmas.{leaves_then}
use Rattle.hx_session.proofs.PickLemmas.{closes_none}
use Rattle.hx_session.specs.Leaving.{LeavesBy}
use Rattle.hx_session.proofs.LeavingLemmas.{loose_leaves}
use Rattle.hx_session.proofs.DecidedLemmas.{done_leaves}
use Rattle.hx_session.proofs.DecidedLemmas.{lets_bury}
use Rattle.hx_session.proofs.phases.give_left.Goals as goal

pub returns-clause-told : goal.returns-clause-told
returns-clause-told g c = λ d0 s0 t.
    let d : DeskNow = desk_now g.L.Link.state c.args.desk.now in
    let d2 : DeskNow = desk_now g.L.Link.state c.let_go.new.desk in
    let link = c.let_go.ensures.client in
    subst (λ (l : Left). DoneTells d0 s0 d2 Gone c.args.ending.served (Some l)) (sym c.leave.ensures)
    (end_detached s0 d0 d d2 c.args.ending.served c.args.ending.cause c.let_go.ensures.desk
    (record { taken = ap (λ (l : LinkState). l.taken) link; sent = ap (λ (l : LinkState). l.sent) link; ended = ap (λ (l : LinkState). l.told_end) link })
    (ap (λ (l : LinkState). l.finished) link) t)

pub returns-clause-touches : goal.returns-clause-touches
returns-clause-touches g c = λ d0 s0 hs net0 t n p.
    let f = g.S.HasHistory.history in
    let d : DeskNow = desk_now g.L.Link.state c.args.desk.now in
    let olds : List History = map f c.args.seats.now in
    let news : List History = map f c.let_go.new.seats in
    leaves_then d0 d s0 c.args.ending hs olds news net0 _ _ _ _ t n c.requires.leaving.around c.let_go.ensures.closes p

pub returns-clause-seats : goal.returns-clause-seats
returns-clause-seats g c = λ none. closes_none _ _ _ c.args.ending.held _ _ none c.let_go.ensures.closes.closes

pub returns-clause-left : goal.returns-clause-left
returns-clause-left g c = λ limits moment k.
    let d : DeskNow = desk_now g.L.Link.state c.args.desk.now in
    let d2 : DeskNow = desk_now g.L.Link.state c.let_go.new.desk in
    subst (λ (l : Left). LeavesBy limits moment d2 l.cause) (sym c.leave.ensures)
    (loose_leaves limits moment d d2 c.args.ending.cause c.let_go.ensures.client c.let_go.ensures.keeps.who.since (ap (λ (x : DeskNow). x.ask_from) c.let_go.ensures.desk) k)

pub returns-clause-own : goal.returns-clause-own
returns-clause-own g c = λ status taken k. (ap (λ (l : LinkState). l.taken_count) c.let_go.ensures.client ∙ k.0, inr k.1)

pub returns-clause-decides : goal.returns-clause-decides
returns-clause-decides g c = λ limits moment d0 s0 net0 k.
    let d : DeskNow = desk_now g.L.Link.state c.args.desk.now in
    let d2 : DeskNow = desk_now g.L.Link.state c.let_go.new.desk in
    done_leaves limits moment d0 s0 net0 d d2 (g.N.Net.state c.args.net.now) (g.N.Net.state c.let_go.new.net) c.args.ending.held c.args.ending.served k.0 k.1 (λ none. lets_bury _ _ _ _ _ _ _ _ none c.let_go.ensures.closes) c.let_go.ensures.client
