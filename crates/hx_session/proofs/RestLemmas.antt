-- A connection whose exchange passed may rest, and the session is between two requests.
use Rattle.std.proofs.Common.{◌≡◌, ◌≢◌, ◌≤◌, ◌+◌, ◌-◌, ℕ, Bool, List, [], ◌∷◌, ◌++◌, length, drop, refl, sym, ap, subst, ◌∙◌, arith, Option, Some, None, ⊎_elim}
use Rattle.std.specs.Prelude.{Contains}
use Rattle.std.proofs.lemmas.List.{length-append}
use Rattle.httparse.specs.Ascii.{space}
use Rattle.httparse.specs.Grammar.{RequestHead, print_request, print_blank, print_version, print_end, print_section}
use Rattle.hx_base.specs.declared.numbers.ServerNo.{ServerNo}
use Rattle.hx_base.specs.declared.numbers.SessionNo.{SessionNo}
use Rattle.hx_base.specs.declared.numbers.ThreadNo.{ThreadNo}
use Rattle.hx_config.specs.declared.parts.Back.{Back}
use Rattle.hx_conn.specs.Conns.{RestedNow, BusyNow}
use Rattle.hx_link.specs.Nets.{NetState}
use Rattle.hx_conn.specs.Steps.{rested_of, answer_ended}
use Rattle.hx_link.specs.Pipes.{PipeNow, pipe}
use Rattle.hx_message.specs.Forwarded.{BeginsRequest}
use Rattle.hx_pool.specs.Held.{Has}
use Rattle.hx_pool.specs.Opening.{HasConn}
use Rattle.hx_pool.specs.SeatView.{History, StandsInOneHistory}
use Rattle.hx_pool.specs.Table.{face_of}
use Rattle.hx_pool.proofs.Owning.{just_has}
use Rattle.hx_connecting.specs.Around.{HasAround, resting}
use Rattle.hx_connecting.specs.Choosing.{servers_of}
use Rattle.hx_connecting.specs.Closing.{AtSeat, HasHeld}
use Rattle.hx_connecting.specs.Sessions.{Exchanging}
use Rattle.hx_connecting.specs.Settling.{MaySettle, RestsAs}
use Rattle.hx_connecting.proofs.AroundLemmas.{just_here, one_here, numbered_here}
use Rattle.hx_session.proofs.ClientLemmas.{client_self}
use Rattle.hx_session.specs.declared.exchange.BodyWay.{BodyWay}
use Rattle.hx_session.specs.Carried.{IsCarried}
use Rattle.hx_session.specs.Desks.{DeskNow}
use Rattle.hx_session.specs.Exchanged.{ExchangeNow}
use Rattle.hx_session.specs.Over.{IsOver, after_record}
use Rattle.hx_session.specs.Stages.{IsBetween, Reading, Exchanging as Stage}
use Rattle.hx_session.specs.Finishing.{RestsTo}
use Rattle.hx_session.specs.Fits.{GoesTo}
use Rattle.hx_session.specs.Standing.{IsCounted, IsPlaced, KeepsDesk}
use Rattle.hx_session.proofs.PassedLemmas.{begins_anew, body_of}

server_same : (a b : ServerNo) → a.0 ≡ b.0 → a ≡ b
server_same a b e = let made : ℕ → ServerNo = λ k. record { 0 = k } in ap made e

-- the seat of a connection whose answer ended
pub rest_seat : (t : ThreadNo) (n : SessionNo) (b : BusyNow) (len : ℕ) (persistent : Bool) (seats : List History) → n.0 ≢ 0 → HasAround t n (Some (Exchanging b)) seats
    → AtSeat seats b.server.0 (λ h. HasConn h n b.id) → AtSeat seats b.server.0 (λ h. MaySettle n (rested_of (answer_ended b len persistent)) h)
rest_seat t n b len persistent seats some a own =
    let h = own.0 in
    let j = b.server.0 in
    let just = just_here t n (Some (Exchanging b)) j seats h a own.1 refl in
    let one = one_here t n (Some (Exchanging b)) j seats h a own.1 in
    let back : b.uses ≡ b.uses + 1 - 1 = omega arith in (
      h,
      own.1,
      record {
        has = own.2;
        can = λ ne. record {
          session = some;
          server = server_same b.server h.about.server (omega (arith, numbered_here 0 j seats h own.1 a.servers));
          has = subst (λ (u : ℕ). Has h.mine n b.id.0 u) (just.2 ne ∙ back) (just_has h n (face_of b.id just.0) one just.1);
          used = omega arith;
        };
      },
    )

pub rest_one : (t : ThreadNo) (n : SessionNo) (b : BusyNow) (seats : List History) → HasAround t n (Some (Exchanging b)) seats
    → AtSeat seats b.server.0 (λ h. HasConn h n b.id) → AtSeat seats b.server.0 (λ h. StandsInOneHistory h)
rest_one t n b seats a own = (own.0, own.1, one_here t n (Some (Exchanging b)) b.server.0 seats own.0 a own.1)

-- a head has a byte at least
request_some : (g : RequestHead) → 1 ≤ length (print_request g)
unfolding print_request
request_some g =
    let blank : List ℕ = print_blank g.blank ++ g.method in
    let target : List ℕ = blank ++ space ∷ g.target in
    let version : List ℕ = target ++ space ∷ print_version g.minor in
    let line : List ℕ = version ++ print_end g.line_end in
    omega (
      arith,
      length-append line (print_section g.fields g.last),
      length-append version (print_end g.line_end),
      length-append target (space ∷ print_version g.minor),
      length-append blank (space ∷ g.target),
    )

ask_some : (taken body : List ℕ) (g : RequestHead) → BeginsRequest taken g body → 1 ≤ length taken
ask_some taken body g b = omega (arith, request_some g, ap length b.reads.1, length-append (print_request g) body)

-- the next request is counted
pub passed_counted : (d : DeskNow) (e : ExchangeNow) (ask_to : ℕ) → IsCarried d e → IsCounted d → ask_to + length d.from.bytes ≡ d.taken → IsCounted (after_record d ask_to)
passed_counted d e ask_to c n asks =
    let a = c.ask in
    let size : ask_to ≡ d.ask_from + length a.taken = omega (arith, asks, a.front.count, c.desk.taken, length-append a.taken d.from.bytes) in
    let some = ask_some a.taken a.way.body a.head a.way.begins in
    record {
      session = n.session;
      one = omega arith;
      few = omega (arith, n.few, size, some);
      ordered = omega (arith, asks);
    }

drop_all : (xs : List ℕ) → drop (length xs) xs ≡ []
drop_all [] = refl
drop_all (x ∷ xs) = drop_all xs

-- between two requests nothing waits
pub passed_between : (d : DeskNow) (e : ExchangeNow) (b : BodyWay) (ask_to : ℕ) (down : PipeNow) → IsCarried d e → IsOver d e b → ask_to + length d.from.bytes ≡ d.taken
    → down ≡ pipe (drop (length d.down.bytes) d.down.bytes) d.down.capacity → IsBetween (record (after_record d ask_to) { down = down })
passed_between d e b ask_to down c over asks is =
    let new = begins_anew d e ask_to c asks in
    let body = body_of e.answer b e c.answer.taken c.answer.put over.body c.answer.way in
    record {
      anew = record {
        desk = record {
          taken = new.desk.taken;
          given = new.desk.given;
          ended = new.desk.ended;
          counted = new.desk.counted;
          few_taken = new.desk.few_taken;
          few_given = new.desk.few_given;
          from = new.desk.from;
          to = new.desk.to;
          up = new.desk.up;
          down = ap (λ (p : PipeNow). p.capacity) is ∙ new.desk.down;
        };
        taken = new.taken;
        given = new.given;
      };
      to = over.given;
      up = (c.ask.done (body.timely over.timely)).1;
      down = ap (λ (p : PipeNow). p.bytes) is ∙ drop_all d.down.bytes;
    }

-- what is asked where a connection rests
pub record ReadyToRest (n : SessionNo) (b : BusyNow) (seats : List History) : Type 0 where
  pub has : AtSeat seats b.server.0 (λ h. HasConn h n b.id)
  pub may : AtSeat seats b.server.0 (λ h. MaySettle n (rested_of b) h)
  pub one : AtSeat seats b.server.0 (λ h. StandsInOneHistory h)

pub rest_ready : (d d1 : DeskNow) (b b' : BusyNow) (len : ℕ) (persistent : Bool) (seats : List History) → d1.session ≡ d.session → b' ≡ answer_ended b len persistent → d.session.0 ≢ 0
    → HasAround d.worker d.session (Some (Exchanging b)) seats → AtSeat seats b.server.0 (λ h. HasConn h d.session b.id) → ReadyToRest d1.session b' seats
rest_ready d d1 b b' len persistent seats same is some a own =
    subst (λ (n : SessionNo). ReadyToRest n b' seats) (sym same) (subst (λ (x : BusyNow). ReadyToRest d.session x seats) (sym is) (record {
      has = own;
      may = rest_seat d.worker d.session b len persistent seats some a own;
      one = rest_one d.worker d.session b seats a own;
    }))

-- the session reads its next request
pub passed_placed : (d d3 : DeskNow) (e : ExchangeNow) (b : BodyWay) (ask_to : ℕ) (down : PipeNow) (q : Option RestedNow) (seats news : List History) → IsPlaced d (Stage e) seats → IsOver d e b
    → ask_to + length d.from.bytes ≡ d.taken → down ≡ pipe (drop (length d.down.bytes) d.down.bytes) d.down.capacity → d3 ≡ record (after_record d ask_to) { down = down }
    → HasAround d.worker d.session (resting q) news → HasHeld news d.session q → IsPlaced d3 (Reading q) news
passed_placed d d3 e b ask_to down q seats news p over asks is same around own =
    let counted = passed_counted d e ask_to p.set.stands p.set.numbered.counted asks in
    subst (λ (x : DeskNow). IsPlaced x (Reading q) news) (sym same) (record {
      set = record {
        stands = passed_between d e b ask_to down p.set.stands over asks is;
        numbered = record {
          counted = record { session = counted.session; one = counted.one; few = counted.few; ordered = counted.ordered };
          on_loop = p.set.numbered.on_loop;
        };
        around = around;
        own = own;
      };
      good = tt;
    })

pub passed_keeps : (d d3 : DeskNow) (ask_to : ℕ) (down : PipeNow) → d3 ≡ record (after_record d ask_to) { down = down } → KeepsDesk d d3
passed_keeps d d3 ask_to down same =
    subst (λ (x : DeskNow). KeepsDesk d x) (sym same) (record { who = record { worker = refl; session = refl; since = refl; client = client_self d.client }; on_loop = refl })

-- the server of what rests with the session
pub rests_to : (olds news : List History) (n : SessionNo) (b b' : BusyNow) (net net' : NetState) (q : Option RestedNow) → b'.server ≡ b.server → RestsAs olds news n b' net net' q → RestsTo b.server q
rests_to olds news n b b' net net' None same k = tt
rests_to olds news n b b' net net' (Some r) same k = ⊎_elim
    (λ s. ap (λ (x : RestedNow). x.server) s.3.settles.1 ∙ same)
    (λ c. absurd (some_none r c.2))
    k
  where
    some_none : (r : RestedNow) → Some r ≡ None → ⊥
    some_none r e = cc

-- what rests goes to the server of the exchange
pub rest_routed : (back : Back) (server : ServerNo) (q : Option RestedNow) → Contains (servers_of back) server → RestsTo server q → GoesTo back (resting q) None
rest_routed back server None r to = record { to_conn = tt; to_chosen = tt }
rest_routed back server (Some q) r to = record { to_conn = subst (λ (v : ServerNo). Contains (servers_of back) v) (sym to) r; to_chosen = tt }
