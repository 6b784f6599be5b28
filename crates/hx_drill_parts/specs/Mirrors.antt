-- What a link that mirrors the load is to a contract, and what always holds of it.
use Rattle.std.specs.Prelude.{◌≡◌, ℕ, ◌≤◌, Bool, false, List, [], ◌++◌, length, take, All, Option, Some, None, OnSome, IfNone, option_map}
use Rattle.std.specs.List.{flat_map}
use Rattle.hx_base.specs.declared.numbers.ServerNo.{ServerNo}
use Rattle.hx_base.specs.declared.numbers.ConnId.{ConnId}
use Rattle.hx_link.specs.Told.{LinkState}
use Rattle.hx_drill_parts.specs.declared.ask.Ask.{Ask}
use Rattle.hx_drill_parts.specs.declared.counts.Counts.{Counts}
use Rattle.hx_drill_parts.specs.declared.counts.Owner.{Owner}
use Rattle.hx_drill_parts.specs.declared.counts.Owner.TheVariants.{Client, Server}
use Rattle.hx_drill_parts.specs.Load.{forwarded_text, answer_text}

-- a link that mirrors the load, as contracts see it
pub record MirrorNow (T : Type 0) : Type 0 where
  pub state : LinkState
  -- the session whose client's end it is; none: a server's
  pub client : Option ℕ
  -- all bytes that were sent on it, and all that it has to give so far
  pub sent : List ℕ
  pub gives : List ℕ
  -- how many of the bytes sent on it were answered
  pub answered : ℕ
  -- its gate
  pub gate : T

-- a session's first request is answered only where the gate doesn't shut the session
abbrev pub MayPass : (ℕ → Bool) → Ask → Type 0
MayPass shuts ask = ask.number ≡ 0 → shuts ask.session ≡ false

-- the request stands whole at the front of the bytes, and has so many
abbrev pub IsHeard : List ℕ → Ask → ℕ → Type 0
IsHeard bytes ask n = (take n bytes ≡ forwarded_text ask) × (n ≤ length bytes)

-- what a server's end has to give are the answers to the first requests that were sent on it, in order
pub record AreAnswers (shuts : ℕ → Bool) (heard gives : List ℕ) : Type 0 where
  pub asks : List Ask
  pub heard_is : heard ≡ flat_map forwarded_text asks
  pub gives_is : gives ≡ flat_map (λ ask. answer_text ask false) asks
  pub pass : All (MayPass shuts) asks

-- it tells its bytes, was taken from its front, and a server's end gives the answers to what was sent on it
pub record IsMirror {T : Type 0} (shuts : T → ℕ → Bool) (m : MirrorNow T) : Type 0 where
  pub sent : m.state.sent ≡ Some m.sent
  pub taken : m.state.taken ≡ Some (take m.state.taken_count m.gives)
  pub within : m.state.taken_count ≤ length m.gives
  pub inside : m.answered ≤ length m.sent
  pub answers : IfNone m.client (AreAnswers (shuts m.gate) (take m.answered m.sent) m.gives)

-- a call leaves whose end it is, its gate, and all that it had to give; a client's end has nothing more to give
pub record StaysEnd {T : Type 0} (old new : MirrorNow T) : Type 0 where
  pub client : new.client ≡ old.client
  pub gate : new.gate ≡ old.gate
  pub gives : (more : List ℕ) × (new.gives ≡ old.gives ++ more)
  pub fixed : OnSome old.client (new.gives ≡ old.gives)

-- the session of a client's end
abbrev pub client_of : Owner → Option ℕ
client_of (Client session) = Some session
client_of (Server server id) = None

-- the server and the id for which a server's end was dialled
abbrev pub dial_of : Owner → Option (ℕ × ℕ)
dial_of (Client session) = None
dial_of (Server server id) = Some (server.0, id.0)

-- what a link with these counts tells
abbrev pub mirror_state : Counts → Owner → ℕ → List ℕ → List ℕ → LinkState
mirror_state c owner taken sent gives = record {
  faults = c.faults;
  read_waits = c.read_waits;
  read_wait_at = c.read_wait_at;
  read_waited = c.read_waited;
  write_waits = 0;
  write_wait_at = 0;
  taken_count = taken;
  sent_count = length sent;
  taken = Some (take taken gives);
  sent = Some sent;
  read_length = c.read_length;
  write_length = c.write_length;
  told_end = false;
  finished = c.finished;
  on_loop = option_map (λ t. t.0) c.on_loop;
  tag = client_of owner;
  dial = dial_of owner;
  plan = None;
}

-- a link with these counts
abbrev pub mirror_now : {T : Type 0} → Counts → Owner → ℕ → ℕ → List ℕ → List ℕ → T → MirrorNow T
mirror_now c owner taken answered sent gives gate = record {
  state = mirror_state c owner taken sent gives;
  client = client_of owner;
  sent = sent;
  gives = gives;
  answered = answered;
  gate = gate;
}

-- before the first call
abbrev pub no_counts : Counts
no_counts = record {
  faults = 0;
  read_waits = 0;
  read_wait_at = 0;
  read_waited = false;
  read_length = 0;
  write_length = 0;
  finished = false;
  on_loop = None;
}

-- the end of a session's client before the first call: it has this text to give
abbrev pub client_end : {T : Type 0} → T → ℕ → List ℕ → MirrorNow T
client_end gate session text = mirror_now no_counts (Client session) 0 0 [] text gate

-- the end that a dial gives: nothing was sent on it, so it has nothing to give
abbrev pub server_end : {T : Type 0} → T → ServerNo → ConnId → MirrorNow T
server_end gate server id = mirror_now no_counts (Server server id) 0 0 [] [] gate

-- a link with that loop, or with none
abbrev pub with_loop : {T : Type 0} → Option ℕ → MirrorNow T → MirrorNow T
with_loop on_loop m = record m { state = record m.state { on_loop = on_loop } }
