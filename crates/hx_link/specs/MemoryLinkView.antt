-- Private: how the fields of a link in memory stand for what it tells.
use Rattle.std.specs.Prelude.{◌≡◌, ◌≤◌, true, length, take, Some, IsSome, IfSome, option_map}
use Rattle.hx_link.specs.Told.{most_bytes}
use Rattle.hx_link.specs.Planned.{planned}
use Rattle.hx_link.specs.Places.{IsPlace}
use Rattle.hx_link.specs.MemoryLinks.{MemoryLinkNow, WaitsFor, CannotFail}
use Rattle.hx_link.specs.declared.memory_link.MemoryLink.TheInside.{Inside}

-- the value of a link in memory
abbrev pub link_view : Inside → MemoryLinkNow
link_view m = record {
  plan = m.plan;
  state = record {
    faults = m.faults;
    read_waits = m.read_waits;
    read_wait_at = m.read_wait_at;
    read_waited = m.read_waited;
    write_waits = 0;
    write_wait_at = 0;
    taken_count = m.at.taken;
    sent_count = length m.sent.items;
    taken = Some (take m.at.taken (planned m.plan.pieces));
    sent = Some m.sent.items;
    read_length = m.read_length;
    write_length = m.write_length;
    told_end = m.ended;
    finished = m.finished;
    on_loop = option_map (λ t. t.0) m.on_loop;
    tag = Some m.plan.line;
    dial = option_map (λ d. (d.0.0, d.1.0)) m.dial;
    plan = Some m.plan;
  };
  calls = m.calls;
  starved = m.starved;
}

-- what its fields keep
pub record IsLink (m : Inside) : Type 0 where
  pub place : IsPlace m.plan.pieces m.at
  pub within : m.at.taken ≤ length (planned m.plan.pieces)
  pub most : m.at.taken ≤ most_bytes
  pub ended : m.ended ≡ true → (m.at.taken ≡ length (planned m.plan.pieces)) × IsSome m.plan.end
  pub room : IfSome m.plan.room (λ n. 1 ≤ n)
  pub waits : m.read_waited ≡ true → WaitsFor m.plan m.at.taken (length m.sent.items) m.read_wait_at
  pub faults : CannotFail (link_view m) → m.faults ≡ 0
