use Rattle.std.proofs.Common.{◌≡◌, true, false, sym, ap, subst, ◌∙◌, inl, inr}
use Rattle.hx_base.specs.declared.rules.PoolRules.{PoolRules}
use Rattle.hx_base.specs.declared.numbers.ConnId.{ConnId}
use Rattle.hx_base.specs.declared.numbers.Face.{Face}
use Rattle.hx_link.specs.Told.{LinkState}
use Rattle.hx_link.specs.Nets.{NetState}
use Rattle.hx_conn.specs.WhatTold.{shown}
use Rattle.hx_pool.specs.Parking.{Parks}
use Rattle.hx_pool.specs.SeatView.{History}
use Rattle.hx_connecting.specs.Connecting.{IsClosed}
use Rattle.hx_connecting.specs.Journals.{room_of}
use Rattle.hx_connecting.specs.Rooms.{RoomStays}
use Rattle.hx_connecting.proofs.RoomLemmas.{room_by, room_both}
use Rattle.hx_connecting.proofs.settle.settle_at.Goals.{in-Err, in_default}
use Rattle.hx_connecting.proofs.settle.settle_at.Goals as goal

not_true : false ≡ true → ⊥
not_true e = cc

pub returns : goal.returns
returns g c = record {
  settles = (
    λ e. not_true (c.if-is_never.ensures.1 (ap (λ (r : PoolRules). r.mode) c.rules.ensures.rules ∙ e)),
    elim c.match-park.branch [
      | in-Err w ↦
          let f = g.S.HasHistory.history in
          let net = g.N.Net.state in
          let v = w.in-Err.field-0.v in
          let mid : History = f c.park.new.self in
          let new : History = f c.match-park.seat in
          let closed : IsClosed mid (f w.close.new.seat) c.args.n v.id (net c.args.net.now) (net w.close.new.net) v.link =
          subst (λ (l : LinkState). IsClosed mid (f w.close.new.seat) c.args.n v.id (net c.args.net.now) (net w.close.new.net) l) w.end-link.ensures.link
          (subst (λ (id : ConnId). IsClosed mid (f w.close.new.seat) c.args.n id (net c.args.net.now) (net w.close.new.net) (g.L.Link.state w.end-link.result)) (ap (λ (x : Face). x.id) w.face.ensures) w.close.ensures.closed) in
          inr (
            mid,
            w.in-Err.field-0.why,
            v,
            w.in-Err.ensures.answer,
            w.end-link.ensures.meaning,
            w.in-Err.ensures.back,
            subst (λ (h : History). IsClosed mid h c.args.n v.id (net c.args.net.now) (net c.match-park.net) v.link) (sym (ap f w.seat-is))
                (subst (λ (s : NetState). IsClosed mid (f w.close.new.seat) c.args.n v.id (net c.args.net.now) s v.link) (sym (ap net w.net-is)) closed),
          )
      | in_default w ↦
          let f = g.S.HasHistory.history in
          inl (
            w.in_default.field-0,
            subst (λ (h : History). Parks (f c.args.seat.now) h c.args.n w.in_default.field-0 (shown c.args.rested)) (sym (ap f w.seat-is)) w.in_default.ensures.answer,
            ap g.N.Net.state w.net-is,
          )
    ],
  );
  room = elim c.match-park.branch [
    | in-Err w ↦
        let f = g.S.HasHistory.history in
        let room = room_of g.S.HasHistory.kept_from g.S.HasHistory.spare in
        subst (λ (s : g.row.S.Denot). RoomStays f room c.args.seat.now s) (sym w.seat-is)
        (room_both _ _ _ _ _ _ (room_by _ _ _ _ _ _ _ c.park.ensures.grows c.park.ensures.kept) w.close.ensures.room)
    | in_default w ↦
        let f = g.S.HasHistory.history in
        let room = room_of g.S.HasHistory.kept_from g.S.HasHistory.spare in
        subst (λ (s : g.row.S.Denot). RoomStays f room c.args.seat.now s) (sym w.seat-is) (room_by _ _ _ _ _ _ _ c.park.ensures.grows c.park.ensures.kept)
  ];
}
