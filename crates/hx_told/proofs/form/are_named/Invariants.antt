use Rattle.std.proofs.Common.{◌<◌, All, take}
use Rattle.hx_record.specs.declared.bytes.ConnBytes.{ConnBytes}
use Rattle.hx_told.proofs.form.are_named.Given as goal

abbrev pub invariant-loop-conn : goal.invariant-loop-conn
invariant-loop-conn l = All (λ (c : ConnBytes). c.server.0 < l.count) (take l.conn-index l.conns)
