-- What a session is but for where it stands, and what always holds of it.
use Rattle.std.specs.Prelude.{◌≡◌, ℕ, ◌≤◌, Bool, true, []}
use Rattle.hx_base.specs.declared.numbers.ThreadNo.{ThreadNo}
use Rattle.hx_base.specs.declared.numbers.SessionNo.{SessionNo}
use Rattle.hx_base.specs.declared.numbers.Millis.{Millis}
use Rattle.hx_link.specs.Told.{LinkState, IsCounted, most_bytes}
use Rattle.hx_link.specs.Pipes.{PipeNow, pipe}
use Rattle.hx_session.specs.declared.desk.Desk.{Desk}

pub record DeskNow : Type 0 where
  pub worker : ThreadNo
  pub session : SessionNo
  pub number : ℕ
  pub client : LinkState
  pub from : PipeNow
  pub to : PipeNow
  pub up : PipeNow
  pub down : PipeNow
  pub taken : ℕ
  pub given : ℕ
  -- where the ranges of the next record begin
  pub ask_from : ℕ
  pub gave_from : ℕ
  pub ended : Bool
  -- the moment of the admission, and that of the last byte on the client's link
  pub since : Millis
  pub moved : Millis
  pub waits_since : Millis

-- a desk by what its client's link tells
abbrev pub desk_now : {X : Type 0} → (X → LinkState) → Desk X → DeskNow
desk_now state d = record {
  worker = d.worker;
  session = d.session;
  number = d.number;
  client = state d.client;
  from = d.from;
  to = d.to;
  up = d.up;
  down = d.down;
  taken = d.taken;
  given = d.given;
  ask_from = d.ask_from;
  gave_from = d.gave_from;
  ended = d.ended;
  since = d.since;
  moved = d.moved;
  waits_since = d.waits_since;
}

-- the counters are those of the client's link, and the pipes have their sizes
pub record IsDesk (d : DeskNow) : Type 0 where
  pub taken : d.taken ≡ d.client.taken_count
  pub given : d.given ≡ d.client.sent_count
  pub ended : d.ended ≡ true → d.client.told_end ≡ true
  pub counted : IsCounted d.client
  pub few_taken : d.taken ≤ most_bytes
  pub few_given : d.given ≤ most_bytes
  pub from : d.from.capacity ≡ 16384
  pub to : d.to.capacity ≡ 18432
  pub up : d.up.capacity ≡ 18432
  pub down : d.down.capacity ≡ 18432

-- nothing waits in the pipes to the client and on the server's side
abbrev pub emptied : DeskNow → DeskNow
emptied d = record d { to = pipe [] d.to.capacity; up = pipe [] d.up.capacity; down = pipe [] d.down.capacity }
