use Rattle.std.proofs.Common.{false}
use Rattle.hx_purge.proofs.Closing.{gate_rest, gate_row}
use Rattle.hx_purge.proofs.Draining.{drains_ready}
use Rattle.hx_purge.proofs.drain.set_ready.Goals as goal

pub returns-clause-drains : goal.returns-clause-drains
returns-clause-drains g c = λ q d. drains_ready c.args.seat.now c.set_gate.new.self q c.set_gate.ensures.notes d

pub returns-clause-row : goal.returns-clause-row
returns-clause-row g c = gate_row c.args.seat.now c.set_gate.new.self false c.set_gate.ensures.notes

pub returns-clause-rest : goal.returns-clause-rest
returns-clause-rest g c = gate_rest c.args.seat.now c.set_gate.new.self false c.set_gate.ensures.notes c.requires.rest
