use Rattle.std.proofs.Common.{◌≡◌, drop}
use Rattle.hx_check_parts.specs.Links.{conn_of}
use Rattle.hx_check_parts.proofs.links.first_conn.Given as goal

abbrev pub invariant-loop-conn : goal.invariant-loop-conn
invariant-loop-conn l = conn_of (drop l.conn-index l.conns) l.server l.id ≡ conn_of l.conns l.server l.id
