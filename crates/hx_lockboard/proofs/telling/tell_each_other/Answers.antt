use Rattle.hx_lockboard.proofs.Alike.{know_alike, board_back}
use Rattle.hx_lockboard.proofs.telling.tell_each_other.Goals as goal

pub tell-requires-2 : goal.tell-requires-2
tell-requires-2 g c = board_back _ _ _ _ c.tell.ensures.own c.tell.ensures.other c.requires

pub returns : goal.returns
returns g c = know_alike _ _ _ _ _ _ c.tell.ensures.own c.tell.ensures.other c.tell-2.ensures.own c.tell-2.ensures.other
