use Rattle.hx_conn.specs.WhatTold.{shown}
use Rattle.hx_connecting.proofs.ConnectLemmas.{has_own, has_over}
use Rattle.hx_connecting.proofs.RoomLemmas.{room_by, room_both}
use Rattle.hx_connecting.proofs.connecting.take.Goals as goal

pub returns-in-Some-clause-has : goal.returns-in-Some-clause-has
returns-in-Some-clause-has g c = has_own _ _ c.args.want.n c.args.want.first (shown c.in-Some.rested) c.in-Some.ensures.answer

pub returns-in-Ok-clause-has : goal.returns-in-Ok-clause-has
returns-in-Ok-clause-has g c = has_over _ _ c.args.want.n c.args.want.first (shown c.in-Ok.rested) c.in-Ok.ensures.answer

pub returns-in-Ok-clause-room : goal.returns-in-Ok-clause-room
returns-in-Ok-clause-room g c =
    room_both _ _ _ _ _ _ (room_by _ _ _ _ _ _ _ c.take_own.ensures.grows c.take_own.ensures.kept) (room_by _ _ _ _ _ _ _ c.take_over.ensures.grows c.take_over.ensures.kept)

pub returns-in-Err-clause-room : goal.returns-in-Err-clause-room
returns-in-Err-clause-room g c =
    room_both _ _ _ _ _ _ (room_by _ _ _ _ _ _ _ c.take_own.ensures.grows c.take_own.ensures.kept) (room_by _ _ _ _ _ _ _ c.take_over.ensures.grows c.take_over.ensures.kept)
