-- What a caller learns of each call on a connection.
use Rattle.std.specs.Prelude.{◌≡◌, ℕ, ◌+◌, ◌≤◌, Bool, true, false, ◌||◌, List, length, Option, Some, None, IfSome}
use Rattle.hx_base.specs.declared.numbers.ConnId.{ConnId}
use Rattle.hx_message.specs.declared.MethodKind.{MethodKind}
use Rattle.hx_message.specs.Message.{IsWholeAnswer, Persists}
use Rattle.hx_link.specs.declared.answers.Got.{Got}
use Rattle.hx_link.specs.declared.answers.Put.{Put}
use Rattle.hx_link.specs.declared.answers.Got.TheVariants as got
use Rattle.hx_link.specs.declared.answers.Put.TheVariants as put
use Rattle.hx_link.specs.Told.{LinkState, CountsOne}
use Rattle.hx_link.specs.Sources.{GotFits}
use Rattle.hx_link.specs.Links.{LinkReads, LinkWrites}
use Rattle.hx_link.specs.Courses.{attach_fails}
use Rattle.hx_link.specs.Nets.{NetState, OnlyFaults, AttachCounted}
use Rattle.hx_link.specs.Pipes.{PipeNow}
use Rattle.hx_link.specs.Moves.{ReadsInto, WritesFrom}
use Rattle.hx_conn.specs.declared.causes.Death.{Death}
use Rattle.hx_conn.specs.declared.causes.Death.TheVariants.{AttachFault}
use Rattle.hx_conn.specs.declared.causes.RestCause.{RestCause}
use Rattle.hx_conn.specs.declared.exchange.Exchange.{Exchange}
use Rattle.hx_conn.specs.Causes.{death_code, death_of, rest_code, rest_cause}
use Rattle.hx_conn.specs.Conns.{RestedNow, BusyNow, answered}

-- one read of the link into one byte, and the death that it tells
pub record Probes (r : RestedNow) (now : ℕ) (link : LinkState) (cause : Option Death) : Type 0 where
  pub answer : Got
  pub byte : List ℕ
  pub one : length byte ≡ 1
  pub fits : GotFits answer 1
  pub reads : LinkReads r.link link now answer byte
  pub tells : cause ≡ death_of answer

-- it rests on, where the read had to wait and the link told no end before
abbrev pub ProbesOk : RestedNow → ℕ → RestedNow → Type 0
ProbesOk r now new = (new ≡ record r { link = new.link }) × Probes r now new.link None × (r.link.told_end ≡ false)

-- it is dead, where the read answered anything else
abbrev pub ProbesDead : RestedNow → ℕ → LinkState → ConnId → ℕ → Type 0
ProbesDead r now link id why =
    (id ≡ r.id) × ((cause : Death) × (why ≡ death_code cause) × Probes r now link (Some cause))

-- an exchange that begins where so many bytes were sent and taken
abbrev pub new_exchange : MethodKind → ℕ → ℕ → Exchange
new_exchange method sent taken = record {
  method = method;
  sent_from = sent;
  taken_from = taken;
  asked = false;
  answer = None;
  failed = false;
}

-- the connection with the loop, and an exchange that begins
abbrev pub begun : RestedNow → MethodKind → ℕ → BusyNow
begun r method loop_no = record {
  link = record r.link { on_loop = Some loop_no };
  id = r.id;
  server = r.server;
  uses = r.uses;
  exchange = new_exchange method r.link.sent_count r.link.taken_count;
}

-- an exchange begins, attached to the net's loop
abbrev pub BeginsOk : RestedNow → MethodKind → NetState → NetState → BusyNow → Type 0
BeginsOk r method net_old net_new b =
    (AttachCounted net_old net_new × IfSome net_old.course (λ c. attach_fails c.failing ≡ false))
    × (b ≡ begun r method net_old.loop_no)

-- the net failed, and the link is as it was
abbrev pub BeginsDead : RestedNow → NetState → NetState → LinkState → ConnId → ℕ → Type 0
BeginsDead r net_old net_new link id why =
    AttachCounted net_old net_new × IfSome net_old.course (λ c. attach_fails c.failing ≡ true)
    × CountsOne net_old.faults net_new.faults × (link ≡ r.link) × (id ≡ r.id) × (why ≡ death_code AttachFault)

-- a write or a read failed
abbrev pub is_failed_put : Put → Bool
is_failed_put (put.Bytes n) = false
is_failed_put put.NotYet = false
is_failed_put put.Failed = true

-- the read failed
abbrev pub is_failed_got : Got → Bool
is_failed_got (got.Bytes n) = false
is_failed_got got.NotYet = false
is_failed_got got.End = false
is_failed_got got.Failed = true

-- one call of the link, which the exchange remembers where it failed
abbrev pub after_call : BusyNow → LinkState → Bool → BusyNow
after_call b link failed =
    record b { link = link; exchange = record b.exchange { failed = b.exchange.failed || failed } }

-- a write of these bytes of the request
abbrev pub WritesAsk : BusyNow → BusyNow → ℕ → Put → List ℕ → Type 0
WritesAsk old new now result bytes =
    (new ≡ after_call old new.link (is_failed_put result)) × LinkWrites old.link new.link now result bytes

-- one write to the link; what it took is gone from the pipe's front
pub record SendsAsk (old new : BusyNow) (now : ℕ) (before after : PipeNow) (result : Put) : Type 0 where
  pub busy : new ≡ after_call old new.link (is_failed_put result)
  pub write : WritesFrom old.link new.link now before after result

-- one read of the link; what it gave stands at the pipe's end
pub record ReadsAnswer (old new : BusyNow) (now : ℕ) (before after : PipeNow) (result : Got) : Type 0 where
  pub busy : new ≡ after_call old new.link (is_failed_got result)
  pub read : ReadsInto old.link new.link now before after result

-- the first n bytes taken in the exchange are a whole answer, and the connection persists after it where that is said;
-- one that runs to the end is whole where the link told its end after it
pub record AnswerIsWhole (b : BusyNow) (n : ℕ) (persistent : Bool) : Type 0 where
  pub there : b.exchange.taken_from + n ≤ b.link.taken_count
  pub answer : IfSome b.link.taken (λ taken. IsWholeAnswer b.exchange.method (answered b n taken)
      ((b.link.told_end ≡ true) × (b.exchange.taken_from + n ≡ b.link.taken_count)))
  pub persists : persistent ≡ true → IfSome b.link.taken (λ taken. Persists b.exchange.method (answered b n taken))

-- the whole request was written
abbrev pub ask_ended : BusyNow → BusyNow
ask_ended b = record b { exchange = record b.exchange { asked = true } }

-- the whole answer was read
abbrev pub answer_ended : BusyNow → ℕ → Bool → BusyNow
answer_ended b n persistent =
    record b { exchange = record b.exchange { answer = Some (record { len = n; persistent = persistent }) } }

-- the first cause for which it may not rest
abbrev pub refusal : BusyNow → Option RestCause
refusal b = rest_cause b.exchange b.link.taken_count b.uses

-- it rests with one use more, and without a loop
abbrev pub rested_of : BusyNow → RestedNow
rested_of b = record { link = record b.link { on_loop = None }; id = b.id; server = b.server; uses = b.uses + 1 }

-- no cause holds it back, and it rests with one use more
abbrev pub RestsOk : BusyNow → NetState → NetState → RestedNow → Type 0
RestsOk b net_old net_new r = OnlyFaults net_old net_new × (refusal b ≡ None) × (r ≡ rested_of b)

-- the net and the connection, still attached, are as they were
abbrev pub RestsNot : BusyNow → NetState → NetState → BusyNow → ℕ → Type 0
RestsNot b net_old net_new back why =
    (net_new ≡ net_old) × (back ≡ b) × ((cause : RestCause) × (refusal b ≡ Some cause) × (why ≡ rest_code cause))
