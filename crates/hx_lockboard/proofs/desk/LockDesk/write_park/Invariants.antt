use Rattle.std.proofs.Common.{Some}
use Rattle.hx_lockboard.proofs.desk.LockDesk.write_park.Given as goal

abbrev pub ghosts-add : goal.ghosts-add
ghosts-add g a = record { note = record { entry = a._entry; what = Some (g.V.Faced.shows a._beside.now).what } }
