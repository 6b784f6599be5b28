use Rattle.std.proofs.Common.{◌≡◌, ◌<◌, ℕ, length, List, map, get_or, sym, ap, subst, ◌∙◌, Some}
use Rattle.std.specs.List.{slice_get, slice_set}
use Rattle.std.proofs.lemmas.List.{map-set}
use Rattle.hx_base.specs.declared.numbers.ServerNo.{ServerNo}
use Rattle.hx_base.specs.declared.numbers.ConnId.{ConnId}
use Rattle.hx_pool.specs.SeatView.{History}
use Rattle.hx_connecting.specs.Connecting.{IsClosed}
use Rattle.hx_connecting.specs.Closing.{ClosesAt}
use Rattle.hx_connecting.specs.Journals.{room_of}
use Rattle.hx_connecting.proofs.RoomLemmas.{rooms_set}
use Rattle.hx_connecting.proofs.SeatLemmas.{seat_at, seat_below}
use Rattle.hx_connecting.proofs.AroundCalls.{busy_closed, busy_abouts, busy_loop}
use Rattle.hx_connecting.proofs.closing.close_busy.Goals as goal

pub returns : goal.returns
returns g c =
    let f = g.S.HasHistory.history in
    let seats = c.args.seats.now in
    let i = c.server-server.result.0 in
    let j = c.args.busy.server.0 in
    let same : i ≡ j = ap (λ (s : ServerNo). s.0) c.server-server.ensures in
    let d = c.index-seats-server.result in
    let old : History = f (get_or seats i d) in
    let there : slice_get (map f seats) j ≡ Some old = subst (λ (k : ℕ). slice_get (map f seats) j ≡ Some (f (get_or seats k d))) (sym same) (seat_at f seats j _ d c.requires.has.1) in
    let low : i < length seats = subst (λ (k : ℕ). k < length seats) (sym same) (seat_below f seats j _ c.requires.has.1) in
    let net = g.N.Net.state c.args.net.now in
    let net2 = g.N.Net.state c.close.new.net in
    let olds : List History = map f seats in
    let news : List History = map f (slice_set seats i c.close.new.seat) in
    let closes : ClosesAt olds news j c.args.n c.args.busy.id net net2 c.args.busy.link = record {
      old = old;
      new = f c.close.new.seat;
      was = there;
      seats = map-set f seats i c.close.new.seat ∙ ap (λ (k : ℕ). slice_set (map f seats) k (f c.close.new.seat)) same;
      between = g.N.Net.state c.end-link.new.net;
      detached = g.L.Link.state c.end-link.result;
      detaches = c.end-link.ensures.detaches;
      closed = subst (λ (id : ConnId). IsClosed old (f c.close.new.seat) c.args.n id (g.N.Net.state c.end-link.new.net) net2 (g.L.Link.state c.end-link.result)) c.id-id.ensures c.close.ensures.closed;
    } in
    record {
      closes = closes;
      meaning = c.end-link.ensures.meaning;
      around = λ t a. busy_closed t c.args.n c.args.busy olds news net net2 closes a;
      abouts = busy_abouts j c.args.n c.args.busy.id c.args.busy.link olds news net net2 closes;
      loop_ = busy_loop j c.args.n c.args.busy.id c.args.busy.link olds news net net2 closes;
      rooms = rooms_set f (room_of g.S.HasHistory.kept_from g.S.HasHistory.spare) seats i d c.close.new.seat low c.close.ensures.room;
    }
