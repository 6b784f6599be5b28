use Rattle.hx_connecting.proofs.RoomLemmas.{room_by}
use Rattle.hx_connecting.proofs.closing.close.Goals as goal

pub returns-clause-room : goal.returns-clause-room
returns-clause-room g c = room_by _ _ _ _ _ _ _ c.close.ensures.grows c.close.ensures.kept
