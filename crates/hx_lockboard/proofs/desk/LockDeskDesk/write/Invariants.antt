use Rattle.hx_pool.specs.History.{plain}
use Rattle.hx_lockboard.proofs.desk.LockDeskDesk.write.Given as goal

abbrev pub ghosts-add : goal.ghosts-add
ghosts-add g a = record { note = plain a._entry }
