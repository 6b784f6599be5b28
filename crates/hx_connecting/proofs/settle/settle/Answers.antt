use Rattle.std.proofs.Common.{◌≡◌, ◌<◌, ℕ, length, map, get_or, sym, ap, subst, ◌∙◌, Some}
use Rattle.std.specs.List.{slice_get, slice_set}
use Rattle.std.proofs.lemmas.List.{map-set}
use Rattle.hx_base.specs.declared.numbers.ServerNo.{ServerNo}
use Rattle.hx_pool.specs.SeatView.{History}
use Rattle.hx_connecting.specs.Settling.{MaySettle, Settles}
use Rattle.hx_connecting.specs.Journals.{room_of}
use Rattle.hx_connecting.proofs.RoomLemmas.{rooms_set}
use Rattle.hx_connecting.proofs.SeatLemmas.{seat_at}
use Rattle.hx_connecting.proofs.AroundCalls.{settles_loop}
use Rattle.hx_connecting.proofs.settle.settle.Goals as goal

some_same : {A : Type 0} (x y : A) → Some x ≡ Some y → x ≡ y
some_same x y e = cc

pub settle_at-requires : goal.settle_at-requires
settle_at-requires g c =
    let f = g.S.HasHistory.history in
    let seats = c.args.seats.now in
    let i = c.server-server.result.0 in
    let j = c.args.rested.server.0 in
    let same : i ≡ j = ap (λ (s : ServerNo). s.0) c.server-server.ensures.server in
    let d = c.index-seats-server.result in
    let may = c.requires.may in
    let there : slice_get (map f seats) j ≡ Some (f (get_or seats i d)) = subst (λ (k : ℕ). slice_get (map f seats) j ≡ Some (f (get_or seats k d))) (sym same) (seat_at f seats j _ d may.1) in
    record { may = subst (λ (h : History). MaySettle c.args.n c.args.rested h) (some_same may.0 (f (get_or seats i d)) (sym may.1 ∙ there)) may.2 }

pub returns : goal.returns
returns g c =
    let f = g.S.HasHistory.history in
    let seats = c.args.seats.now in
    let i = c.server-server.result.0 in
    let j = c.args.rested.server.0 in
    let same : i ≡ j = ap (λ (s : ServerNo). s.0) c.server-server.ensures.server in
    let d = c.index-seats-server.result in
    let old : History = f (get_or seats i d) in
    let new : History = f c.settle_at.new.seat in
    let there : slice_get (map f seats) j ≡ Some old = subst (λ (k : ℕ). slice_get (map f seats) j ≡ Some (f (get_or seats k d))) (sym same) (seat_at f seats j _ d c.requires.may.1) in
    let net = g.N.Net.state c.args.net.now in
    let net2 = g.N.Net.state c.settle_at.new.net in
    let settles : Settles (map f seats) (map f (slice_set seats i c.settle_at.new.seat)) c.args.n c.args.rested net net2 c.settle_at.result = record {
      old = old;
      new = new;
      was = there;
      seats = map-set f seats i c.settle_at.new.seat ∙ ap (λ (k : ℕ). slice_set (map f seats) k new) same;
      settles = c.settle_at.ensures.settles;
    } in
    record {
      settles = settles;
      loop_ = settles_loop _ _ c.args.n c.args.rested net net2 c.settle_at.result settles;
      rooms = rooms_set f (room_of g.S.HasHistory.kept_from g.S.HasHistory.spare) seats i d c.settle_at.new.seat (subst (λ (k : ℕ). k < length seats) (sym same) c.requires.seat) c.settle_at.ensures.room;
    }
