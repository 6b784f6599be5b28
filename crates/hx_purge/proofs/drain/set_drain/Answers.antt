use Rattle.std.proofs.Common.{true}
use Rattle.hx_purge.proofs.Closing.{gate_rest, gate_row}
use Rattle.hx_purge.proofs.Draining.{drains_anew}
use Rattle.hx_purge.proofs.drain.set_drain.Goals as goal

pub returns-clause-drains : goal.returns-clause-drains
returns-clause-drains g c = drains_anew c.args.seat.now c.set_gate.new.self c.set_gate.ensures.notes

pub returns-clause-row : goal.returns-clause-row
returns-clause-row g c = gate_row c.args.seat.now c.set_gate.new.self true c.set_gate.ensures.notes

pub returns-clause-rest : goal.returns-clause-rest
returns-clause-rest g c = gate_rest c.args.seat.now c.set_gate.new.self true c.set_gate.ensures.notes c.requires.rest
