-- Private: how the fields of a link over a socket stand for what it tells.
use Rattle.std.specs.Prelude.{None, option_map}
use Rattle.hx_link.specs.Told.{LinkState}
use Rattle.hx_proxy_parts.specs.declared.sock_link.SockLink.TheInside.{Inside}

-- it tells no bytes, no tag, no dial and no plan
abbrev pub link_view : Inside → LinkState
link_view l = record {
  faults = l.faults;
  read_waits = l.read_waits;
  read_wait_at = l.read_wait_at;
  read_waited = l.read_waited;
  write_waits = l.write_waits;
  write_wait_at = l.write_wait_at;
  taken_count = l.taken;
  sent_count = l.sent;
  taken = None;
  sent = None;
  read_length = l.read_length;
  write_length = l.write_length;
  told_end = l.ended;
  finished = l.finished;
  on_loop = option_map (λ t. t.0) l.on_loop;
  tag = None;
  dial = None;
  plan = None;
}
