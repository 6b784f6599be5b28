-- Where a session stands after a read of its client, and what each call of the client's link keeps.
use Rattle.std.proofs.Common.{◌≡◌, ◌≤◌, ◌+◌, ℕ, true, List, [], ◌++◌, length, sym, ap, subst, append_assoc, arith}
use Rattle.std.proofs.lemmas.List.{take_all}
use Rattle.hx_link.specs.declared.answers.Got.TheVariants as got
use Rattle.hx_link.specs.declared.answers.Put.TheVariants as put
use Rattle.hx_link.specs.Told.{LinkState}
use Rattle.hx_link.specs.Links.{LinkReads, LinkWrites}
use Rattle.hx_link.specs.Pipes.{pipe}
use Rattle.hx_session.proofs.BreakLemmas.{going_unbroken}
use Rattle.hx_session.proofs.ClientLemmas.{client_is, client_read, client_written}
use Rattle.hx_session.specs.Doings.{IsSameClient}
use Rattle.hx_session.specs.declared.moves.Move.{Move}
use Rattle.hx_session.specs.declared.moves.Move.TheVariants.{Idle, Bytes, Waits, Ended, Failed}
use Rattle.hx_session.specs.Since.{HasSince}
use Rattle.hx_session.specs.Desks.{DeskNow, IsDesk}
use Rattle.hx_session.specs.Moves.{with_client, GivesClient, ReadsClient}
use Rattle.hx_session.specs.Stages.{StageNow, Reading, Choosing, Exchanging, Answering, Left, StandsSo}
use Rattle.hx_session.specs.Standing.{KeepsAsk}
use Rattle.hx_session.specs.Still.{WantsClient}
use Rattle.hx_session.proofs.SinceLemmas.{since_same, reads_since, read_sends}
use Rattle.hx_session.proofs.StandLemmas.{SameBytes, stands_same, stands_waiting, stands_idle, stands_given}

keeps_of : (d d' : DeskNow) → d'.worker ≡ d.worker → d'.session ≡ d.session → d'.since ≡ d.since → IsSameClient d.client d'.client → d'.client.on_loop ≡ d.client.on_loop → d'.number ≡ d.number → d'.ask_from ≡ d.ask_from
    → d.taken ≤ d'.taken → KeepsAsk d d'
keeps_of d d' worker session since client loop number from taken = record {
  desk = record { who = record { worker = worker; session = session; since = since; client = client }; on_loop = loop };
  number = number;
  ask_from = from;
  taken = taken;
}

-- the desk with another link, which is attached as it was
keeps_client : (d d' : DeskNow) → d' ≡ with_client d d'.client → IsSameClient d.client d'.client → d'.client.on_loop ≡ d.client.on_loop → KeepsAsk d d'
keeps_client d d' e client loop = keeps_of d d' (ap (λ (x : DeskNow). x.worker) e) (ap (λ (x : DeskNow). x.session) e) (ap (λ (x : DeskNow). x.since) e) client loop
    (ap (λ (x : DeskNow). x.number) e) (ap (λ (x : DeskNow). x.ask_from) e) (omega (arith, ap (λ (x : DeskNow). x.taken) e))

keeps_same : (d d' : DeskNow) → d' ≡ d → KeepsAsk d d'
keeps_same d d' e = keeps_of d d' (ap (λ (x : DeskNow). x.worker) e) (ap (λ (x : DeskNow). x.session) e) (ap (λ (x : DeskNow). x.since) e) (client_is d.client d'.client (ap (λ (x : DeskNow). x.client) e)) (ap (λ (x : DeskNow). x.client.on_loop) e)
    (ap (λ (x : DeskNow). x.number) e) (ap (λ (x : DeskNow). x.ask_from) e) (omega (arith, ap (λ (x : DeskNow). x.taken) e))

pub gives_keep : (d d' : DeskNow) (now : ℕ) (m : Move) → GivesClient d d' now m → KeepsAsk d d'
gives_keep d d' now Idle g = keeps_same d d' g.0
gives_keep d d' now Bytes g = let e = g.desk in
    keeps_of d d' (ap (λ (x : DeskNow). x.worker) e) (ap (λ (x : DeskNow). x.session) e) (ap (λ (x : DeskNow). x.since) e) (client_written d.client d'.client now (put.Bytes (length g.given)) g.given g.writes) (ap (λ (l : LinkState). l.on_loop) g.writes)
    (ap (λ (x : DeskNow). x.number) e) (ap (λ (x : DeskNow). x.ask_from) e) (omega (arith, ap (λ (x : DeskNow). x.taken) e))
gives_keep d d' now Waits g = keeps_client d d' g.0 (client_written d.client d'.client now put.NotYet [] g.1) (ap (λ (l : LinkState). l.on_loop) g.1.0)
gives_keep d d' now Ended g = absurd g
gives_keep d d' now Failed g = keeps_client d d' g.0 (client_written d.client d'.client now put.Failed [] g.1) (ap (λ (l : LinkState). l.on_loop) g.1.0)

pub reads_keep : (d d' : DeskNow) (now : ℕ) (m : Move) → ReadsClient d d' now m → KeepsAsk d d'
reads_keep d d' now Idle g = keeps_same d d' g.0
reads_keep d d' now Bytes g = let e = g.desk in
    keeps_of d d' (ap (λ (x : DeskNow). x.worker) e) (ap (λ (x : DeskNow). x.session) e) (ap (λ (x : DeskNow). x.since) e) (client_read d.client d'.client now (got.Bytes (length g.taken)) g.taken g.reads) (ap (λ (l : LinkState). l.on_loop) g.reads)
    (ap (λ (x : DeskNow). x.number) e) (ap (λ (x : DeskNow). x.ask_from) e) (omega (arith, ap (λ (x : DeskNow). x.taken) e))
reads_keep d d' now Waits g = keeps_client d d' g.0 (client_read d.client d'.client now got.NotYet [] g.1) (ap (λ (l : LinkState). l.on_loop) g.1.0)
reads_keep d d' now Ended g = let e = g.0 in
    keeps_of d d' (ap (λ (x : DeskNow). x.worker) e) (ap (λ (x : DeskNow). x.session) e) (ap (λ (x : DeskNow). x.since) e) (client_read d.client d'.client now got.End [] g.1) (ap (λ (l : LinkState). l.on_loop) g.1)
    (ap (λ (x : DeskNow). x.number) e) (ap (λ (x : DeskNow). x.ask_from) e) (omega (arith, ap (λ (x : DeskNow). x.taken) e))
reads_keep d d' now Failed g = keeps_client d d' g.0 (client_read d.client d'.client now got.Failed [] g.1) (ap (λ (l : LinkState). l.on_loop) g.1.0)

write_failed : (old new : LinkState) (now : ℕ) → LinkWrites old new now put.Failed [] → SameBytes old new
write_failed old new now w = record {
  taken = ap (λ (l : LinkState). l.taken) w.0;
  taken_count = ap (λ (l : LinkState). l.taken_count) w.0;
  sent = ap (λ (l : LinkState). l.sent) w.0;
  sent_count = ap (λ (l : LinkState). l.sent_count) w.0;
  ended = ap (λ (l : LinkState). l.told_end) w.0;
}

-- a session stands where it stood after any call that gives
pub gives_stand : (d d' : DeskNow) (s : StageNow) (now : ℕ) (m : Move) → IsDesk d' → GivesClient d d' now m → StandsSo d s → StandsSo d' s
gives_stand d d' s now Idle desk g st = stands_idle d d' s now g st
gives_stand d d' s now Bytes desk g st = stands_given d d' s now desk g st
gives_stand d d' s now Waits desk g st = stands_waiting d d' s now g st
gives_stand d d' s now Ended desk g st = absurd g
gives_stand d d' s now Failed desk g st = subst (λ (x : DeskNow). StandsSo x s) (sym g.0) (stands_same d s d'.client (write_failed d.client d'.client now g.1) st)

read_waited : (old new : LinkState) (now : ℕ) → LinkReads old new now got.NotYet [] → SameBytes old new
read_waited old new now w = record {
  taken = ap (λ (l : LinkState). l.taken) w.0;
  taken_count = ap (λ (l : LinkState). l.taken_count) w.0;
  sent = ap (λ (l : LinkState). l.sent) w.0;
  sent_count = ap (λ (l : LinkState). l.sent_count) w.0;
  ended = ap (λ (l : LinkState). l.told_end) w.0;
}

read_failed : (old new : LinkState) (now : ℕ) → LinkReads old new now got.Failed [] → SameBytes old new
read_failed old new now w = record {
  taken = ap (λ (l : LinkState). l.taken) w.0;
  taken_count = ap (λ (l : LinkState). l.taken_count) w.0;
  sent = ap (λ (l : LinkState). l.sent) w.0;
  sent_count = ap (λ (l : LinkState). l.sent_count) w.0;
  ended = ap (λ (l : LinkState). l.told_end) w.0;
}

-- the desk of a client that has told its end
abbrev at_end : DeskNow → LinkState → DeskNow
at_end d l = record d { client = l; ended = true }

stands_end : (d : DeskNow) (s : StageNow) (l : LinkState) → IsDesk (at_end d l) → l.taken ≡ d.client.taken → l.taken_count ≡ d.client.taken_count → l.sent ≡ d.client.sent → l.sent_count ≡ d.client.sent_count
    → WantsClient s → StandsSo d s → StandsSo (at_end d l) s
stands_end d (Reading held) l desk taken taken_count sent sent_count wants b = record {
  anew = record {
    desk = desk;
    taken = since_same d.client.taken l.taken d.client.taken_count l.taken_count d.ask_from d.from.bytes taken taken_count b.anew.taken;
    given = since_same d.client.sent l.sent d.client.sent_count l.sent_count d.gave_from [] sent sent_count b.anew.given;
  };
  to = b.to;
  up = b.up;
  down = b.down;
}
stands_end d (Choosing c) l desk taken taken_count sent sent_count wants st = absurd wants
stands_end d (Exchanging e) l desk taken taken_count sent sent_count wants c = record {
  desk = desk;
  ask = record {
    head = c.ask.head;
    kind = c.ask.kind;
    taken = c.ask.taken;
    put = c.ask.put;
    sent = c.ask.sent;
    way = c.ask.way;
    front = since_same d.client.taken l.taken d.client.taken_count l.taken_count d.ask_from (c.ask.taken ++ d.from.bytes) taken taken_count c.ask.front;
    sends = c.ask.sends;
    back = c.ask.back;
    state = c.ask.state;
    method = c.ask.method;
    close = c.ask.close;
    written = c.ask.written;
    done = c.ask.done;
    breaks = c.ask.breaks;
  };
  answer = record {
    taken = c.answer.taken;
    put = c.answer.put;
    gave = c.answer.gave;
    way = c.answer.way;
    front = c.answer.front;
    gives = since_same d.client.sent l.sent d.client.sent_count l.sent_count d.gave_from c.answer.gave sent sent_count c.answer.gives;
    back = c.answer.back;
    answered = c.answer.answered;
    breaks = c.answer.breaks;
  };
  ended = c.ended;
  open_ = c.open_;
}
stands_end d (Answering a) l desk taken taken_count sent sent_count wants st = absurd wants
stands_end d Left l desk taken taken_count sent sent_count wants st = absurd wants

-- the desk of a client of whom bytes were taken
abbrev with_more : DeskNow → LinkState → List ℕ → ℕ → DeskNow
with_more d l more now = record d { client = l; from = pipe (d.from.bytes ++ more) d.from.capacity; taken = d.taken + length more; moved = record { 0 = now } }

took_since : (d : DeskNow) (l : LinkState) (more bytes : List ℕ) (now : ℕ) → LinkReads d.client l now (got.Bytes (length more)) more → HasSince d.client.taken d.client.taken_count d.ask_from bytes
    → HasSince l.taken l.taken_count d.ask_from (bytes ++ more)
took_since d l more bytes now r h =
    subst (λ (xs : List ℕ). HasSince l.taken l.taken_count d.ask_from (bytes ++ xs)) (take_all (length more) more (omega arith))
    (reads_since d.client l now d.ask_from (got.Bytes (length more)) bytes more (omega arith) r h)

stands_more : (d : DeskNow) (s : StageNow) (l : LinkState) (more : List ℕ) (now : ℕ) → IsDesk (with_more d l more now) → LinkReads d.client l now (got.Bytes (length more)) more → WantsClient s → StandsSo d s → StandsSo (with_more d l more now) s
stands_more d (Reading held) l more now desk r wants b =
    let sends = read_sends d.client l now (got.Bytes (length more)) more r in record {
      anew = record {
        desk = desk;
        taken = took_since d l more d.from.bytes now r b.anew.taken;
        given = since_same d.client.sent l.sent d.client.sent_count l.sent_count d.gave_from [] sends.0 sends.1 b.anew.given;
      };
      to = b.to;
      up = b.up;
      down = b.down;
    }
stands_more d (Choosing c) l more now desk r wants st = absurd wants
stands_more d (Exchanging e) l more now desk r wants c =
    let sends = read_sends d.client l now (got.Bytes (length more)) more r in record {
      desk = desk;
      ask = record {
        head = c.ask.head;
        kind = c.ask.kind;
        taken = c.ask.taken;
        put = c.ask.put;
        sent = c.ask.sent;
        way = c.ask.way;
        front = subst (λ (xs : List ℕ). HasSince l.taken l.taken_count d.ask_from xs) (append_assoc c.ask.taken d.from.bytes more)
            (took_since d l more (c.ask.taken ++ d.from.bytes) now r c.ask.front);
        sends = c.ask.sends;
        back = c.ask.back;
        state = c.ask.state;
        method = c.ask.method;
        close = c.ask.close;
        written = c.ask.written;
        done = c.ask.done;
        breaks = going_unbroken c.ask.kind e.ask.state c.ask.way.body (d.from.bytes ++ more) wants;
      };
      answer = record {
        taken = c.answer.taken;
        put = c.answer.put;
        gave = c.answer.gave;
        way = c.answer.way;
        front = c.answer.front;
        gives = since_same d.client.sent l.sent d.client.sent_count l.sent_count d.gave_from c.answer.gave sends.0 sends.1 c.answer.gives;
        back = c.answer.back;
        answered = c.answer.answered;
        breaks = c.answer.breaks;
      };
      ended = c.ended;
      open_ = c.open_;
    }
stands_more d (Answering a) l more now desk r wants st = absurd wants
stands_more d Left l more now desk r wants st = absurd wants

-- a session stands where it stood after any read of its client
pub reads_stand : (d d' : DeskNow) (s : StageNow) (now : ℕ) (m : Move) → IsDesk d' → ReadsClient d d' now m → WantsClient s → StandsSo d s → StandsSo d' s
reads_stand d d' s now Idle desk g wants st = subst (λ (x : DeskNow). StandsSo x s) (sym g.0) st
reads_stand d d' s now Bytes desk g wants st =
    subst (λ (x : DeskNow). StandsSo x s) (sym g.desk) (stands_more d s d'.client g.taken now (subst IsDesk g.desk desk) g.reads wants st)
reads_stand d d' s now Waits desk g wants st = subst (λ (x : DeskNow). StandsSo x s) (sym g.0) (stands_same d s d'.client (read_waited d.client d'.client now g.1) st)
reads_stand d d' s now Ended desk g wants st = let e = g.1 in
    subst (λ (x : DeskNow). StandsSo x s) (sym g.0) (stands_end d s d'.client (subst IsDesk g.0 desk) (ap (λ (l : LinkState). l.taken) e) (ap (λ (l : LinkState). l.taken_count) e)
    (ap (λ (l : LinkState). l.sent) e) (ap (λ (l : LinkState). l.sent_count) e) wants st)
reads_stand d d' s now Failed desk g wants st = subst (λ (x : DeskNow). StandsSo x s) (sym g.0) (stands_same d s d'.client (read_failed d.client d'.client now g.1) st)
