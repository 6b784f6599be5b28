-- A step that didn't move yet: what its parts leave.
use Rattle.std.specs.Prelude.{◌||◌}
use Rattle.std.proofs.Common.{◌≡◌, ℕ, Bool, true, false, List, refl, sym, ap, subst, ◌∙◌, inl, inr, arith, ⊎_elim}
use Rattle.hx_conn.specs.Conns.{BusyNow}
use Rattle.hx_conn.specs.Steps.{after_call}
use Rattle.hx_config.specs.declared.parts.Server.{Server}
use Rattle.hx_link.specs.Told.{LinkState, CountsOne}
use Rattle.hx_pool.specs.SeatView.{History}
use Rattle.hx_session.specs.declared.moves.Move.{Move}
use Rattle.hx_session.specs.declared.moves.Move.TheVariants.{Idle, Bytes, Waits, Ended, Failed}
use Rattle.hx_session.specs.declared.stage.Came.{Came}
use Rattle.hx_session.specs.declared.stage.Came.TheVariants.{On, Moved, Ends}
use Rattle.hx_session.specs.declared.step.Waiting.{Waiting as Waits_}
use Rattle.hx_session.specs.Beginning.{ChoosesIn}
use Rattle.hx_session.specs.Desks.{DeskNow}
use Rattle.hx_session.specs.Exchanged.{ExchangeNow}
use Rattle.hx_session.specs.Moves.{with_client, GivesClient, ReadsClient}
use Rattle.hx_session.specs.Stages.{StageNow, Reading, Choosing, Exchanging, Answering, Left, stage_now}
use Rattle.hx_session.specs.Still.{HasOnlyWaited, ReadWaited, WriteWaited, IsStill, StageStill, CannotGive, CannotRead, HasMoved, WhereOn, with_link}
use Rattle.hx_session.specs.Waiting.{SendsNone, ReadsNone, CannotSend, CannotReadServer, IsGiven, IsIdle, IsNone, IsPaused, IsUnread, NothingLeft, PausedOrChosen, StandsStill, AskIdle, LeavesNothing, StaysOrMoves}
use Rattle.hx_session.specs.Finishing.{SpellsNone}
use Rattle.hx_session.specs.declared.exchange.AnswerWay.TheVariants.{Heads}
use Rattle.hx_session_parts.specs.Answers.{AnswerLooks}
use Rattle.hx_session_parts.specs.declared.answers.AnswerLook.TheVariants as answer
use Rattle.hx_session.proofs.StillLemmas.{writes_wait, reads_wait, give_idle, give_waits, read_idle, read_waits}

-- where the step is over there is nothing to say
pub moved_where : {X : Type 0} (c : Came X) (P : StageNow → Waits_ → Type 0) → HasMoved c → WhereOn c P
moved_where (On stage w) P k = absurd k
moved_where (Moved stage w served) P k = tt
moved_where (Ends e) P k = tt

-- and what is said of one that goes on is said again
pub where_then : {X : Type 0} (c : Came X) (P Q : StageNow → Waits_ → Type 0) → ((s : StageNow) (w : Waits_) → P s w → Q s w) → WhereOn c P → WhereOn c Q
where_then (On stage w) P Q f k = f (stage_now stage) w k
where_then (Moved stage w served) P Q f k = tt
where_then (Ends e) P Q f k = tt

-- a step that begins
link_still : (l : LinkState) → HasOnlyWaited l l
link_still l = record { link = refl; reads = omega arith; writes = omega arith }

pub begins_still : (d : DeskNow) (s : StageNow) → IsStill d s d s
begins_still d s = record { desk = refl; client = link_still d.client; stage = here s }
  where
    here : (t : StageNow) → StageStill t t
    here (Reading held) = refl
    here (Choosing c) = refl
    here (Exchanging e) = (refl, link_still e.busy.link)
    here (Answering a) = refl
    here Left = refl

-- one write to the client, or none
pub gives_paused : (d0 d d' : DeskNow) (s0 s : StageNow) (now : ℕ) (m : Move) → IsNone m → GivesClient d d' now m → IsStill d0 s0 d s → IsGiven d0 s0 d' s now
gives_paused d0 d d' s0 s now m none gives still = ⊎_elim
    (λ e. let k = give_idle d0 d d' s0 s now still (subst (λ (x : Move). GivesClient d d' now x) e gives) in record { still = k.0; gave = k.1 })
    (λ e. let k = give_waits d0 d d' s0 s now still (subst (λ (x : Move). GivesClient d d' now x) e gives) in record { still = k.0; gave = k.1 })
    none

-- an exchange on a link that waits
exchange_is : (e f : ExchangeNow) → Exchanging e ≡ Exchanging f → e ≡ f
exchange_is e f z = cc

still_link : (s0 : StageNow) (e f : ExchangeNow) → StageStill s0 (Exchanging e) → f ≡ with_link e f.busy.link
    → ((l : LinkState) → HasOnlyWaited l e.busy.link → HasOnlyWaited l f.busy.link) → StageStill s0 (Exchanging f)
still_link (Reading held) e f k is on = absurd (other k)
  where
    other : Exchanging e ≡ Reading held → ⊥
    other z = cc
still_link (Choosing c) e f k is on = absurd (other k)
  where
    other : Exchanging e ≡ Choosing c → ⊥
    other z = cc
still_link (Exchanging e0) e f k is on = (is ∙ ap (λ (x : ExchangeNow). with_link x f.busy.link) k.0, on e0.busy.link k.1)
still_link (Answering a) e f k is on = absurd (other k)
  where
    other : Exchanging e ≡ Answering a → ⊥
    other z = cc
still_link Left e f k is on = absurd (other k)
  where
    other : Exchanging e ≡ Left → ⊥
    other z = cc

-- the link of the exchange in which the step began
was_link : (s0 : StageNow) (e0 e : ExchangeNow) → s0 ≡ Exchanging e0 → StageStill s0 (Exchanging e) → HasOnlyWaited e0.busy.link e.busy.link
was_link s0 e0 e is k = (subst (λ (x : StageNow). StageStill x (Exchanging e)) is k).1

-- one write to the server, or none
pub sends_paused : (d0 d d' : DeskNow) (s0 : StageNow) (e e' : ExchangeNow) (now : ℕ) (m : Move) → IsNone m → SendsNone d e d' e' now m → IsGiven d0 s0 d (Exchanging e) now → IsPaused d0 s0 d' (Exchanging e') now
sends_paused d0 d d' s0 e e' now Idle none (desk, same, up) given =
    subst (λ (x : DeskNow). IsPaused d0 s0 x (Exchanging e') now) (sym desk)
    (subst (λ (x : ExchangeNow). IsPaused d0 s0 d (Exchanging x) now) (sym same) (record { given = given; sent = λ a b was is. inl up }))
sends_paused d0 d d' s0 e e' now Waits none (desk, same, writes) given =
    subst (λ (x : DeskNow). IsPaused d0 s0 x (Exchanging e') now) (sym desk)
    (record {
      given = record {
        still = record {
          desk = given.still.desk;
          client = given.still.client;
          stage = still_link s0 e e' given.still.stage same (λ l k. (writes_wait l e.busy.link e'.busy.link now k writes.0 writes.1).0);
        };
        gave = given.gave;
      };
      sent = λ a b was is.
          let k = was_link s0 a e was given.still.stage in
          inr (subst (λ (x : ExchangeNow). WriteWaited a.busy.link x.busy.link now) (exchange_is e' b is) (writes_wait a.busy.link e.busy.link e'.busy.link now k writes.0 writes.1).1);
    })
sends_paused d0 d d' s0 e e' now Bytes none k given = absurd (⊎_elim (λ z. first z) (λ z. second z) none)
  where
    first : Bytes ≡ Idle → ⊥
    first z = cc

    second : Bytes ≡ Waits → ⊥
    second z = cc
sends_paused d0 d d' s0 e e' now Ended none k given = absurd (⊎_elim (λ z. first z) (λ z. second z) none)
  where
    first : Ended ≡ Idle → ⊥
    first z = cc

    second : Ended ≡ Waits → ⊥
    second z = cc
sends_paused d0 d d' s0 e e' now Failed none k given = absurd (⊎_elim (λ z. first z) (λ z. second z) none)
  where
    first : Failed ≡ Idle → ⊥
    first z = cc

    second : Failed ≡ Waits → ⊥
    second z = cc

-- where no exchange is under way nothing is to be sent
pub none_sent : (d0 d : DeskNow) (s0 s : StageNow) (now : ℕ) → ((e : ExchangeNow) → s ≡ Exchanging e → ⊥) → IsGiven d0 s0 d s now → IsPaused d0 s0 d s now
none_sent d0 d s0 s now other given = record { given = given; sent = λ e f was is. absurd (other f is) }

pub none_read : (d0 d : DeskNow) (s0 s : StageNow) (now : ℕ) → ((e : ExchangeNow) → s ≡ Exchanging e → ⊥) → IsUnread d0 s0 d s now → StandsStill d0 s0 d s now
none_read d0 d s0 s now other unread = record { unread = unread; server = λ e f was is. absurd (other f is) }

-- a server is chosen for a request, or none
pub paused_or : (d0 d : DeskNow) (s0 s : StageNow) (now : ℕ) → IsPaused d0 s0 d s now → PausedOrChosen d0 s0 d s now
paused_or d0 d s0 (Reading held) now p = p
paused_or d0 d s0 (Choosing c) now p = tt
paused_or d0 d s0 (Exchanging e) now p = p
paused_or d0 d s0 (Answering a) now p = p
paused_or d0 d s0 Left now p = p

pub turn_paused : (d0 d : DeskNow) (s0 : StageNow) (now : ℕ) (servers : List Server) (turn turn' : ℕ) (olds news : List History) (s s' : StageNow) → ChoosesIn servers turn turn' olds news s s' → IsPaused d0 s0 d s now
    → PausedOrChosen d0 s0 d s' now
turn_paused d0 d s0 now servers turn turn' olds news (Reading held) s' k p = subst (λ (x : StageNow). PausedOrChosen d0 s0 d x now) (sym k.0) p
turn_paused d0 d s0 now servers turn turn' olds news (Choosing c) s' k p = subst (λ (x : StageNow). PausedOrChosen d0 s0 d x now) (sym k.1) tt
turn_paused d0 d s0 now servers turn turn' olds news (Exchanging e) s' k p = subst (λ (x : StageNow). PausedOrChosen d0 s0 d x now) (sym k.0) p
turn_paused d0 d s0 now servers turn turn' olds news (Answering a) s' k p = subst (λ (x : StageNow). PausedOrChosen d0 s0 d x now) (sym k.0) p
turn_paused d0 d s0 now servers turn turn' olds news Left s' k p = subst (λ (x : StageNow). PausedOrChosen d0 s0 d x now) (sym k.0) p

-- at a stage at which no server is to be chosen
pub not_chosen : (d0 d : DeskNow) (s0 s : StageNow) (now : ℕ) → NothingLeft d s → PausedOrChosen d0 s0 d s now → IsIdle d0 s0 d s now
not_chosen d0 d s0 (Reading held) now left p = record { paused = p; nothing = left }
not_chosen d0 d s0 (Choosing c) now left p = absurd left
not_chosen d0 d s0 (Exchanging e) now left p = record { paused = p; nothing = left }
not_chosen d0 d s0 (Answering a) now left p = record { paused = p; nothing = left }
not_chosen d0 d s0 Left now left p = record { paused = p; nothing = left }

-- a phase that changed nothing
pub phase_idle : {X : Type 0} (d0 d d' : DeskNow) (s0 s : StageNow) (now : ℕ) (c : Came X) → PausedOrChosen d0 s0 d s now → WhereOn c (λ t w. (d' ≡ d) × (t ≡ s) × NothingLeft d s) → WhereOn c (λ t w. IsIdle d0 s0 d' t now)
phase_idle d0 d d' s0 s now c p k = where_then c (λ t w. (d' ≡ d) × (t ≡ s) × NothingLeft d s) (λ t w. IsIdle d0 s0 d' t now)
    (λ t w q. subst (λ (x : DeskNow). IsIdle d0 s0 x t now) (sym q.0) (subst (λ (x : StageNow). IsIdle d0 s0 d x now) (sym q.1) (not_chosen d0 d s0 s now q.2 p)))
    k

-- the client's link has nothing to do with it
with_nothing : (d : DeskNow) (l : LinkState) (s : StageNow) → NothingLeft d s → NothingLeft (with_client d l) s
with_nothing d l (Reading held) k = k
with_nothing d l (Choosing c) k = k
with_nothing d l (Exchanging e) k = k
with_nothing d l (Answering a) k = k
with_nothing d l Left k = k

with_paused : (d0 d d' : DeskNow) (s0 s : StageNow) (now : ℕ) → d' ≡ with_client d d'.client → IsIdle d0 s0 d s now → IsStill d0 s0 d' s → CannotGive d0 d' now → CannotRead d0 d' s now → IsUnread d0 s0 d' s now
with_paused d0 d d' s0 s now is idle still gave read = record {
  idle = record {
    paused = record {
      given = record { still = still; gave = gave };
      sent = λ e f was here. subst (λ (x : DeskNow). CannotSend x e f now) (sym is) (idle.paused.sent e f was here);
    };
    nothing = subst (λ (x : DeskNow). NothingLeft x s) (sym is) (with_nothing d d'.client s idle.nothing);
  };
  read = read;
}

-- one read of the client, or none
pub reads_paused : (d0 d d' : DeskNow) (s0 s : StageNow) (now : ℕ) (m : Move) → IsNone m → ReadsClient d d' now m → IsIdle d0 s0 d s now → IsUnread d0 s0 d' s now
reads_paused d0 d d' s0 s now m none reads idle =
    let g = idle.paused.given in
    ⊎_elim
    (λ e.
    let r = subst (λ (x : Move). ReadsClient d d' now x) e reads in
    let k = read_idle d0 d d' s0 s now g.still g.gave r in
    with_paused d0 d d' s0 s now (r.0 ∙ ap (λ (x : DeskNow). with_client d x.client) (sym r.0)) idle k.0 k.1 k.2)
    (λ e.
    let r = subst (λ (x : Move). ReadsClient d d' now x) e reads in
    let k = read_waits d0 d d' s0 s now g.still g.gave r in
    with_paused d0 d d' s0 s now r.0 idle k.0 k.1 k.2)
    none

pub unwanted : (d0 d : DeskNow) (s0 s : StageNow) (now : ℕ) → IsIdle d0 s0 d s now → CannotRead d0 d s now → IsUnread d0 s0 d s now
unwanted d0 d s0 s now idle read = record { idle = idle; read = read }

-- one read of the server, or none
link_sent : (a b : LinkState) (c : LinkState) (now : ℕ) → c ≡ record b { read_waits = c.read_waits; read_wait_at = now; read_waited = true; read_length = c.read_length } → WriteWaited a b now → WriteWaited a c now
link_sent a b c now is w =
    (subst (λ (n : ℕ). CountsOne a.write_waits n) (sym (ap (λ (l : LinkState). l.write_waits) is)) w.0, ap (λ (l : LinkState). l.write_wait_at) is ∙ w.1)

still_sent : (d : DeskNow) (a e f : ExchangeNow) (now : ℕ) → f.busy.link ≡ record e.busy.link { read_waits = f.busy.link.read_waits; read_wait_at = now; read_waited = true; read_length = f.busy.link.read_length } → CannotSend d a e now → CannotSend d a f now
still_sent d a e f now is (inl up) = inl up
still_sent d a e f now is (inr w) = inr (link_sent a.busy.link e.busy.link f.busy.link now is w)

pub server_paused : (d0 d d' : DeskNow) (s0 : StageNow) (e e' : ExchangeNow) (now : ℕ) (m : Move) → IsNone m → ReadsNone d e d' e' now m → IsUnread d0 s0 d (Exchanging e) now → StandsStill d0 s0 d' (Exchanging e') now
server_paused d0 d d' s0 e e' now Idle none (desk, same, why) unread =
    subst (λ (x : DeskNow). StandsStill d0 s0 x (Exchanging e') now) (sym desk)
    (subst (λ (x : ExchangeNow). StandsStill d0 s0 d (Exchanging x) now) (sym same) (record {
      unread = unread;
      server = λ a b was is. subst (λ (x : ExchangeNow). CannotReadServer d a x now) (exchange_is e b is) (⊎_elim (λ z. inl z) (λ z. inr (inl z)) why);
    }))
server_paused d0 d d' s0 e e' now Waits none (desk, same, reads) unread =
    let p = unread.idle.paused in
    let wait : (l : LinkState) → HasOnlyWaited l e.busy.link → HasOnlyWaited l e'.busy.link × ReadWaited l e'.busy.link now = λ l k. reads_wait l e.busy.link e'.busy.link now k reads.0 reads.1 in
    subst (λ (x : DeskNow). StandsStill d0 s0 x (Exchanging e') now) (sym desk)
    (record {
      unread = record {
        idle = record {
          paused = record {
            given = record {
              still = record {
                desk = p.given.still.desk;
                client = p.given.still.client;
                stage = still_link s0 e e' p.given.still.stage same (λ l k. (wait l k).0);
              };
              gave = p.given.gave;
            };
            sent = λ a b was is. subst (λ (x : ExchangeNow). CannotSend d a x now) (exchange_is e' b is) (still_sent d a e e' now reads.0 (p.sent a e was refl));
          };
          nothing = subst (λ (x : ExchangeNow). NothingLeft d (Exchanging x)) (sym same) unread.idle.nothing;
        };
        read = subst (λ (x : ExchangeNow). CannotRead d0 d (Exchanging x) now) (sym same) unread.read;
      };
      server = λ a b was is. subst (λ (x : ExchangeNow). CannotReadServer d a x now) (exchange_is e' b is) (inr (inr (wait a.busy.link (was_link s0 a e was p.given.still.stage)).1));
    })
server_paused d0 d d' s0 e e' now Bytes none k unread = absurd (⊎_elim (λ z. first z) (λ z. second z) none)
  where
    first : Bytes ≡ Idle → ⊥
    first z = cc

    second : Bytes ≡ Waits → ⊥
    second z = cc
server_paused d0 d d' s0 e e' now Ended none k unread = absurd (⊎_elim (λ z. first z) (λ z. second z) none)
  where
    first : Ended ≡ Idle → ⊥
    first z = cc

    second : Ended ≡ Waits → ⊥
    second z = cc
server_paused d0 d d' s0 e e' now Failed none k unread = absurd (⊎_elim (λ z. first z) (λ z. second z) none)
  where
    first : Failed ≡ Idle → ⊥
    first z = cc

    second : Failed ≡ Waits → ⊥
    second z = cc

-- a call on the exchange's connection that had to wait
or_false : (b : Bool) → (b || false) ≡ b
or_false true = refl
or_false false = refl

pub call_link : (e : ExchangeNow) (b : BusyNow) → b ≡ after_call e.busy b.link false → record e { busy = b } ≡ with_link e b.link
call_link e b is =
    ap (λ (x : BusyNow). record e { busy = x }) is ∙ ap (λ (f : Bool). record e { busy = record e.busy { link = b.link; exchange = record e.busy.exchange { failed = f } } }) (or_false e.busy.exchange.failed)

-- a part that is over, or whose exchange stays
pub left_where : {X : Type 0} (d : DeskNow) (s : StageNow) (d' : DeskNow) (c : Came X) → HasMoved c → LeavesNothing d s d' c
left_where d s d' c k = moved_where c (λ t w. (d' ≡ d) × (t ≡ s) × NothingLeft d s) k

pub stays_left : {X : Type 0} (d : DeskNow) (e : ExchangeNow) (c : Came X) → NothingLeft d (Exchanging e) → StaysOrMoves e false c → LeavesNothing d (Exchanging e) d c
stays_left d e c left k = where_then c (λ t w. t ≡ Exchanging e) (λ t w. (d ≡ d) × (t ≡ Exchanging e) × NothingLeft d (Exchanging e)) (λ t w q. (refl, q, left)) k

-- a head that was found, and spelled or not
pub spelled_leaves : {X : Type 0} (d : DeskNow) (e : ExchangeNow) (d2 : DeskNow) (e2 : ExchangeNow) (spelled : Bool) (c : Came X) → (spelled ≡ false → SpellsNone d e d2 e2) → StaysOrMoves e2 spelled c → AskIdle d e
    → LeavesNothing d (Exchanging e) d2 c
spelled_leaves d e d2 e2 true c full k idle = left_where d (Exchanging e) d2 c k
spelled_leaves d e d2 e2 false c full k idle =
    let f = full refl in
    where_then c (λ t w. t ≡ Exchanging e2) (λ t w. (d2 ≡ d) × (t ≡ Exchanging e) × NothingLeft d (Exchanging e)) (λ t w q. (f.desk, q ∙ ap Exchanging f.exchange, (idle, inl (inl f.waits)))) k

-- no head was found
pub heads_leave : {X : Type 0} (d : DeskNow) (e : ExchangeNow) (d2 : DeskNow) (c : Came X) → d2 ≡ d → e.ended ≡ false → e.answer ≡ Heads → AnswerLooks e.busy.exchange.method d.down.bytes answer.More → StaysOrMoves e false c → AskIdle d e
    → LeavesNothing d (Exchanging e) d2 c
heads_leave d e d2 c same open_ heads more k idle = where_then c (λ t w. t ≡ Exchanging e) (λ t w. (d2 ≡ d) × (t ≡ Exchanging e) × NothingLeft d (Exchanging e)) (λ t w q. (same, q, (idle, inr (open_, heads, more)))) k
