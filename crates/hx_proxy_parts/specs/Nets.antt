-- What a net over sockets tells before its first call.
use Rattle.std.specs.Prelude.{None}
use Rattle.hx_base.specs.declared.numbers.ThreadNo.{ThreadNo}
use Rattle.hx_link.specs.Nets.{NetState}

-- it tells neither dials nor burials
abbrev pub new_sock_net : ThreadNo → NetState
new_sock_net thread = record { faults = 0; loop_no = thread.0; dials = None; buried = None; course = None }
