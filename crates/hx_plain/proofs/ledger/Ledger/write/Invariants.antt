use Rattle.hx_pool.specs.History.{plain}
use Rattle.hx_plain.proofs.ledger.Ledger.write.Given as goal

abbrev pub ghosts-add : goal.ghosts-add
ghosts-add a = record { note = plain a._entry }
