use Rattle.std.proofs.Common.{sym, subst, ap, ◌∙◌}
use Rattle.hx_base.specs.declared.numbers.ConnId.{ConnId}
use Rattle.hx_conn.specs.Conns.{RestedNow}
use Rattle.hx_pool.specs.Opening.{HasConn}
use Rattle.hx_connecting.proofs.ConnectLemmas.{has_new}
use Rattle.hx_connecting.proofs.RoomLemmas.{room_by, room_both}
use Rattle.hx_connecting.proofs.connecting.open.Goals as goal

pub close-requires : goal.close-requires
close-requires g c = has_new _ _ c.args.want.n c.in-Ok.id c.in-Ok.ensures.answer

pub close-requires-in-Err : goal.close-requires-in-Err
close-requires-in-Err g c =
    let id = c.in-Err.ensures.dead.4 ∙ ap (λ (r : RestedNow). r.id) c.first.ensures in
    record { has = subst (λ (k : ConnId). HasConn (g.S.HasHistory.history c.open_new.new.self) c.args.want.n k) (sym id) (has_new _ _ c.args.want.n c.in-Ok.id c.in-Ok.ensures.answer) }

pub returns-in_default-dial-clause-room : goal.returns-in_default-dial-clause-room
returns-in_default-dial-clause-room g c =
    room_both _ _ _ _ _ _ (room_by _ _ _ _ _ _ _ c.open_new.ensures.grows c.open_new.ensures.kept) (room_by _ _ _ _ _ _ _ c.close.ensures.grows c.close.ensures.kept)

pub returns-in-Err-clause-room : goal.returns-in-Err-clause-room
returns-in-Err-clause-room g c = room_both _ _ _ _ _ _ (room_by _ _ _ _ _ _ _ c.open_new.ensures.grows c.open_new.ensures.kept) c.close-in-Err.ensures.room
