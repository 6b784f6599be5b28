-- The first step of a session, and deadlines.
use Rattle.std.proofs.Common.{◌≡◌, ◌≤◌, ◌<◌, ◌+◌, ◌*◌, ◌-◌, ℕ, Bool, true, false, List, [], ◌++◌, length, refl, sym, ap, subst, ◌∙◌, inl, inr, arith, Option, Some, None, ⊎_elim}
use Rattle.std.specs.Prelude.{IfSome}
use Rattle.hx_config.specs.declared.parts.Back.{Back}
use Rattle.hx_config.specs.declared.parts.Front.{Front}
use Rattle.hx_session.specs.declared.deadline.Late.{Late}
use Rattle.hx_session.specs.declared.deadline.Late.TheVariants.{Client, Connect, Server as OfServer}
use Rattle.hx_session.specs.Desks.{DeskNow}
use Rattle.hx_session.specs.Exchanged.{ExchangeNow}
use Rattle.hx_session.specs.First.{FindsLate, ServerComes, IsFresh, WasRead, ReadOn, IsEnding}
use Rattle.hx_session.specs.Stages.{StageNow, AnsweringNow, Reading, Choosing, Exchanging, Answering, Left}
use Rattle.hx_base.specs.Counts.{Rose}
use Rattle.hx_config.specs.declared.parts.Server.{Server}
use Rattle.hx_config.specs.Meaning.{Meaning}
use Rattle.hx_conn.specs.Conns.{RestedNow}
use Rattle.hx_connecting.specs.Choosing.{back_at, back_no}
use Rattle.hx_connecting.specs.Sessions.{SessionNow}
use Rattle.hx_connecting.proofs.CauseLemmas.{rose_on}
use Rattle.hx_link.specs.Told.{LinkState}
use Rattle.hx_pool.specs.SeatView.{History}
use Rattle.hx_session.specs.Beginning.{ChoosesIn}
use Rattle.hx_session.specs.Causes.{HasCome}
use Rattle.hx_session.specs.Doings.{IsSameClient}
use Rattle.hx_session.specs.Fits.{limits_of, limits_with}
use Rattle.hx_session.specs.Moves.{GivesClient, ReadsClient}
use Rattle.hx_session.specs.Seen.{one_if, session_seen}
use Rattle.hx_session.specs.Standing.{IsSound}
use Rattle.hx_session.specs.Steps.{IsNew}
use Rattle.hx_session.specs.declared.moves.Move.{Move}
use Rattle.hx_session.specs.declared.moves.Move.TheVariants.{Idle, Bytes, Waits, Ended, Failed}
use Rattle.hx_session.specs.declared.stage.Came.{Came}
use Rattle.hx_session.specs.declared.stage.Came.TheVariants.{On, Moved, Ends}
use Rattle.std.proofs.lemmas.List.{nil_from_length, length-append}
use Rattle.std.specs.List.{slice_get}

-- a deadline of the server's side, in an exchange
pub server_finds : (d : DeskNow) (s : StageNow) (e : ExchangeNow) (front : Front) (back : Back) (now : ℕ) (late : Option Late) → s ≡ Exchanging e → IfSome late (λ l. ServerComes d.since.0 back now l) → FindsLate d s front back now late
server_finds d s e front back now None is k = tt
server_finds d s e front back now (Some Client) is k = absurd k
server_finds d s e front back now (Some Connect) is k = (e, is, k)
server_finds d s e front back now (Some OfServer) is k = (e, is, k)

-- where a head is read no server is waited for
pub fresh_late : (l : LinkState) (d : DeskNow) (s : StageNow) (front : Front) (back : Back) (now : ℕ) (late : Late) → IsFresh l d s → d.number ≡ 1 → FindsLate d s front back now (Some late) → HasCome front.client d.since.0 now
fresh_late l d s front back now Client f one k = ⊎_elim (λ c. c) (λ c. absurd (c.1.later one)) k
fresh_late l d s front back now Connect f one k = absurd (reading_not f.held k.0 (sym f.is ∙ k.1))
  where
    reading_not : (held : Option RestedNow) (e : ExchangeNow) → Reading held ≡ Exchanging e → ⊥
    reading_not held e x = cc
fresh_late l d s front back now OfServer f one k = absurd (reading_not f.held k.0 (sym f.is ∙ k.1))
  where
    reading_not : (held : Option RestedNow) (e : ExchangeNow) → Reading held ≡ Exchanging e → ⊥
    reading_not held e x = cc

pub fresh_desk : (l : LinkState) (d d' : DeskNow) (s : StageNow) → d' ≡ d → IsFresh l d s → IsFresh l d' s
fresh_desk l d d' s e f = subst (λ (x : DeskNow). IsFresh l x s) (sym e) f

-- other stages
pub answering_not : (a : AnsweringNow) (held : Option RestedNow) → Answering a ≡ Reading held → ⊥
answering_not a held e = cc

pub read_not : (held : Option RestedNow) (e : ExchangeNow) → Reading held ≡ Exchanging e → ⊥
read_not held e x = cc

pub fresh_not : (l : LinkState) (d : DeskNow) (e : ExchangeNow) → IsFresh l d (Exchanging e) → ⊥
fresh_not l d e f = read_not f.held e (sym f.is)

-- nothing is given
none_given : (given to : List ℕ) → [] ≡ given ++ to → 1 ≤ length given → ⊥
none_given given to e some = omega (arith, some, ap length e, length-append given to)

none_waits : (bytes : List ℕ) → bytes ≡ [] → 1 ≤ length bytes → ⊥
none_waits bytes e some = omega (arith, some, ap length e)

pub gives_fresh : (l : LinkState) (d d' : DeskNow) (s : StageNow) (now : ℕ) (m : Move) → IsFresh l d s → GivesClient d d' now m → (m ≡ Idle) × IsFresh l d' s
gives_fresh l d d' s now Idle f g = (refl, fresh_desk l d d' s g.0 f)
gives_fresh l d d' s now Bytes f g = absurd (none_given g.given d'.to.bytes (sym f.to ∙ g.front) g.some)
gives_fresh l d d' s now Waits f g = absurd (none_waits d.to.bytes f.to g.2)
gives_fresh l d d' s now Ended f g = absurd g
gives_fresh l d d' s now Failed f g = absurd (none_waits d.to.bytes f.to g.2)

pub idle_not : (m k : Move) → m ≡ Idle → m ≡ k → (k ≡ Idle → ⊥) → ⊥
idle_not m k e f no_ = no_ (sym f ∙ e)

-- the client is read
pub reads_fresh : (l : LinkState) (d d' : DeskNow) (s : StageNow) (now : ℕ) (m : Move) → IsFresh l d s → ReadsClient d d' now m → (m ≡ Idle → ⊥) × WasRead l d'.client
reads_fresh l d d' s now Idle f g = absurd (⊎_elim (λ e. both d.ended f.ended e) (λ e. omega (arith, e, ap length f.from, f.room)) g.1)
  where
    both : (b : Bool) → b ≡ false → b ≡ true → ⊥
    both true x y = cc
    both false x y = cc
reads_fresh l d d' s now Bytes f g = (λ e. cc, inl (subst (λ (x : LinkState). x.taken_count < d'.client.taken_count) f.client (omega (arith, g.some, ap (λ (x : LinkState). x.taken_count) g.reads))))
reads_fresh l d d' s now Waits f g = (λ e. cc, inr (inr (inl (subst (λ (x : LinkState). Rose x.read_waits d'.client.read_waits) f.client g.1.1.1))))
reads_fresh l d d' s now Ended f g = (λ e. cc, inr (inl (ap (λ (x : LinkState). x.told_end) g.1)))
reads_fresh l d d' s now Failed f g = (λ e. cc, inr (inr (inr (subst (λ (x : LinkState). Rose x.faults d'.client.faults) f.client g.1.1.1))))

pub failed_read : (l : LinkState) (d d2 d3 : DeskNow) (s : StageNow) (now : ℕ) → IsFresh l d s → ReadsClient d d2 now Failed → IsSameClient d2.client d3.client → WasRead l d3.client
failed_read l d d2 d3 s now f g same = inr (inr (inr (rose_on l.faults d2.client.faults d3.client.faults (subst (λ (x : LinkState). Rose x.faults d2.client.faults) f.client g.1.1.1) same.link.faults)))

pub read_ends : {X : Type 0} (l : LinkState) (d : DeskNow) (came : Came X) → IsEnding came → WasRead l d.client → ReadOn l d came
read_ends l d (On stage w) e r = absurd e
read_ends l d (Moved stage w served) e r = absurd e
read_ends l d (Ends x) e r = r

pub read_was : {X : Type 0} (l : LinkState) (d : DeskNow) (came : Came X) → ReadOn l d came → WasRead l d.client
read_was l d (On stage w) r = r.0
read_was l d (Moved stage w served) r = r
read_was l d (Ends x) r = r

-- no server is chosen while a head is read
pub turn_fresh : (l : LinkState) (d : DeskNow) (servers : List Server) (turn turn' : ℕ) (olds news : List History) (s s' : StageNow) → ChoosesIn servers turn turn' olds news s s' → IsFresh l d s → IsFresh l d s'
turn_fresh l d servers turn turn' olds news (Reading held) s' k f = subst (λ (x : StageNow). IsFresh l d x) (sym k.0) f
turn_fresh l d servers turn turn' olds news (Choosing c) s' k f = absurd (other f.held f.is)
  where
    other : (held : Option RestedNow) → Choosing c ≡ Reading held → ⊥
    other held e = cc
turn_fresh l d servers turn turn' olds news (Exchanging x) s' k f = subst (λ (y : StageNow). IsFresh l d y) (sym k.0) f
turn_fresh l d servers turn turn' olds news (Answering a) s' k f = subst (λ (y : StageNow). IsFresh l d y) (sym k.0) f
turn_fresh l d servers turn turn' olds news Left s' k f = subst (λ (y : StageNow). IsFresh l d y) (sym k.0) f

-- a session that is new
none_some : {A : Type 0} (x : A) → Some x ≡ None → ⊥
none_some x e = cc

not_ended : (b : Bool) → one_if b ≡ 0 → b ≡ false
not_ended true e = cc
not_ended false e = refl

pub new_fresh : (front : ℕ) (d : DeskNow) (s : StageNow) → IsSound d s → IsNew (session_seen front d s) → IsFresh d.client d s × (d.number ≡ 1)
new_fresh front d Left sound n = absurd (over (ap (λ (x : SessionNow). x.over) n.0))
  where
    over : true ≡ false → ⊥
    over e = cc
new_fresh front d (Exchanging e) sound n = absurd (none_some _ (ap (λ (x : SessionNow). x.conn) n.0))
new_fresh front d (Answering a) sound n = absurd (none_some _ (ap (λ (x : SessionNow). x.own) n.0))
new_fresh front d (Choosing c) sound n = absurd (raised d.number (one_if d.ended) (ap (λ (x : SessionNow). x.stage) n.0))
  where
    raised : (number ended : ℕ) → 8 * (number - 1) + (1 + ended) ≡ 0 → ⊥
    raised number ended e = omega (arith, e)
new_fresh front d (Reading held) sound n =
    let b = sound.0 in
    let stage : 8 * (d.number - 1) + one_if d.ended ≡ 0 = ap (λ (x : SessionNow). x.stage) n.0 in (
      record {
        held = held;
        is = refl;
        client = refl;
        from = nil_from_length d.from.bytes (omega (arith, b.anew.taken.count, n.1));
        room = b.anew.desk.from;
        to = b.to;
        ended = not_ended d.ended (omega (arith, stage));
      },
      omega (arith, ap (λ (x : SessionNow). x.served) n.0, sound.2.one),
    )

-- the timeouts of its frontend
pub limits_are : (config : Meaning) (front : ℕ) (f : Front) (b : Back) → slice_get config.fronts front ≡ Some f → slice_get config.backs f.back ≡ Some b → (limits_of config front).client ≡ f.client
limits_are config front f b front_is back_is =
    ap (λ (o : Option Front). (limits_with o (back_at config (back_no o))).client) front_is ∙ ap (λ (o : Option Back). (limits_with (Some f) o).client) back_is
