use Rattle.std.proofs.Common.{◌≡◌, ◌<◌, ℕ, length, List, map, sym, ap, subst, inl}
use Rattle.hx_conn.specs.Conns.{RestedNow}
use Rattle.hx_pool.specs.SeatView.{History}
use Rattle.hx_connecting.specs.Settling.{Settles, RestsAs}
use Rattle.hx_connecting.proofs.SeatLemmas.{seat_below}
use Rattle.hx_connecting.proofs.AroundCalls.{rests_around, rests_held, rests_abouts}
use Rattle.hx_connecting.proofs.settle.rest.Goals as goal

pub settle-requires-clause-seat : goal.settle-requires-clause-seat
settle-requires-clause-seat g c =
    let f = g.S.HasHistory.history in
    let has = c.requires.has in
    let at : c.in-Ok.rested.server.0 ≡ c.args.busy.server.0 = ap (λ (r : RestedNow). r.server.0) c.in-Ok.ensures.ok.2 in
    subst (λ (i : ℕ). i < length c.args.seats.now) (sym at) (seat_below f c.args.seats.now c.args.busy.server.0 has.0 has.1)

pub returns-in-Ok-clause-around : goal.returns-in-Ok-clause-around
returns-in-Ok-clause-around g c =
    let f = g.S.HasHistory.history in
    let net = g.N.Net.state c.args.net.now in
    let mid = g.N.Net.state c.rest.new.net in
    let net2 = g.N.Net.state c.settle.new.net in
    let ok = c.in-Ok.ensures.ok in
    let olds : List History = map f c.args.seats.now in
    let news : List History = map f c.settle.new.seats in
    let q = c.settle.result in
    let k : RestsAs olds news c.args.n c.args.busy net net2 q =
    inl (mid, ok.0, ok.1, subst (λ (r : RestedNow). Settles olds news c.args.n r mid net2 q) ok.2 c.settle.ensures.settles) in
    λ t a. rests_around t olds news c.args.n c.args.busy net net2 q k a

pub returns-in-Ok-clause-own : goal.returns-in-Ok-clause-own
returns-in-Ok-clause-own g c =
    let f = g.S.HasHistory.history in
    let net = g.N.Net.state c.args.net.now in
    let mid = g.N.Net.state c.rest.new.net in
    let net2 = g.N.Net.state c.settle.new.net in
    let ok = c.in-Ok.ensures.ok in
    let olds : List History = map f c.args.seats.now in
    let news : List History = map f c.settle.new.seats in
    let q = c.settle.result in
    let k : RestsAs olds news c.args.n c.args.busy net net2 q =
    inl (mid, ok.0, ok.1, subst (λ (r : RestedNow). Settles olds news c.args.n r mid net2 q) ok.2 c.settle.ensures.settles) in
    rests_held olds news c.args.n c.args.busy net net2 q c.requires.has k

pub returns-in-Ok-clause-abouts : goal.returns-in-Ok-clause-abouts
returns-in-Ok-clause-abouts g c =
    let f = g.S.HasHistory.history in
    let net = g.N.Net.state c.args.net.now in
    let mid = g.N.Net.state c.rest.new.net in
    let net2 = g.N.Net.state c.settle.new.net in
    let ok = c.in-Ok.ensures.ok in
    let olds : List History = map f c.args.seats.now in
    let news : List History = map f c.settle.new.seats in
    let q = c.settle.result in
    let k : RestsAs olds news c.args.n c.args.busy net net2 q =
    inl (mid, ok.0, ok.1, subst (λ (r : RestedNow). Settles olds news c.args.n r mid net2 q) ok.2 c.settle.ensures.settles) in
    rests_abouts olds news c.args.n c.args.busy net net2 q c.requires.one k
