use Rattle.std.proofs.Common.{◌<◌, ℕ, length, map, refl, sym, subst, Option}
use Rattle.std.specs.Prelude.{IfSome, Contains}
use Rattle.hx_base.specs.declared.numbers.ServerNo.{ServerNo}
use Rattle.hx_connecting.specs.Choosing.{servers_of}
use Rattle.hx_session.specs.Decided.{ServesNone}
use Rattle.hx_connecting.specs.Journals.{room_of}
use Rattle.hx_connecting.proofs.RoomLemmas.{rooms_none}
use Rattle.hx_session.proofs.EntryLemmas.{routed_seat}
use Rattle.hx_session.proofs.asks.go_out.Goals as goal

pub address_of-address-requires : goal.address_of-address-requires
address_of-address-requires g c =
    let back = c.args.scene.back.now in
    subst (λ (n : ℕ). c.in-Some.server.0 < n) c.requires.servers
    (routed_seat back c.in-Some.server (length c.args.seats.now) c.requires.seats (subst (λ (o : Option ServerNo). IfSome o (λ v. Contains (servers_of back) v)) c.in-Some.is c.requires.routed.to_chosen))

pub connect_to-requires-clause-seat : goal.connect_to-requires-clause-seat
connect_to-requires-clause-seat g c =
    let back = c.args.scene.back.now in
    routed_seat back c.in-Some.server (length c.args.seats.now) c.requires.seats (subst (λ (o : Option ServerNo). IfSome o (λ v. Contains (servers_of back) v)) c.in-Some.is c.requires.routed.to_chosen)

pub returns-in-None : goal.returns-in-None
returns-in-None g c = record {
  comes = c.refuse.ensures.comes (map g.S.HasHistory.history c.args.seats.now) (g.N.Net.state c.args.net.now) c.requires.placed;
  rooms = rooms_none g.S.HasHistory.history (room_of g.S.HasHistory.kept_from g.S.HasHistory.spare) c.args.seats.now;
  own = c.refuse.ensures.own;
  lacks = λ status is. subst (λ (o : Option ServerNo). ServesNone c.args.desk.now.session o (map g.S.HasHistory.history c.args.seats.now) (map g.S.HasHistory.history c.args.seats.now) (g.N.Net.state c.args.net.now) (g.N.Net.state c.args.net.now)) (sym c.in-None.is) refl;
}
