-- How an exchange begins on a connection, and how one that passed ends.
use Rattle.std.proofs.Common.{◌≡◌, ◌+◌, ℕ, Bool, true, false, not, ◌&&◌, List, [], ◌++◌, length, take, drop, refl, sym, ap, subst, ◌∙◌, arith, Option, Some, None}
use Rattle.std.specs.Prelude.{IfSome, Contains}
use Rattle.std.proofs.lemmas.List.{append-nil, length-append, take-append-drop}
use Rattle.std.proofs.Math.Seq.{drop-append_seam, take-append_seam}
use Rattle.hx_frame.specs.declared.meter.Meter.{Meter}
use Rattle.hx_frame.specs.declared.progress.MeterState.TheVariants.{Bad}
use Rattle.hx_frame.specs.Meters.{HasUsed, state_of}
use Rattle.hx_message.specs.Forwarded.{forwarded_request}
use Rattle.hx_message.specs.Message.{IsWholeAnswer, Persists}
use Rattle.hx_link.specs.Told.{IsCounted}
use Rattle.hx_link.specs.Pipes.{PipeNow, pipe}
use Rattle.hx_conn.specs.declared.exchange.Exchange.{Exchange}
use Rattle.hx_conn.specs.Conns.{BusyNow}
use Rattle.hx_conn.specs.Steps.{AnswerIsWhole, new_exchange}
use Rattle.hx_session_parts.specs.declared.asks.Asked.{Asked}
use Rattle.hx_session_parts.specs.Asks.{IsAsked, SpellsAsk}
use Rattle.hx_session_parts.specs.OnWay.{AreInterimsOnWay}
use Rattle.hx_session_parts.proofs.OnWayLemmas.{ask_begins}
use Rattle.hx_session.proofs.BreakLemmas.{heads_unbroken}
use Rattle.hx_session.specs.declared.exchange.AnswerWay.{AnswerWay}
use Rattle.hx_session.specs.declared.exchange.BodyWay.{BodyWay}
use Rattle.hx_pool.specs.Opening.{HasConn}
use Rattle.hx_pool.specs.SeatView.{History}
use Rattle.hx_connecting.specs.Around.{HasAround}
use Rattle.hx_connecting.specs.Closing.{AtSeat}
use Rattle.hx_connecting.specs.Sessions as seen
use Rattle.hx_session.specs.Stages.{Exchanging}
use Rattle.hx_session.specs.Standing.{IsNumbered, IsPlaced, IsRoutedTo}
use Rattle.hx_config.specs.declared.parts.Back.{Back}
use Rattle.hx_connecting.specs.Choosing.{servers_of}
use Rattle.hx_session.specs.Beginning.{BeginsOn, BeginsExchange, ConnectedAt}
use Rattle.hx_session.specs.Carried.{IsCarried}
use Rattle.hx_session.specs.Desks.{DeskNow}
use Rattle.hx_session.specs.Exchanged.{ExchangeNow}
use Rattle.hx_session.specs.Over.{IsOver}
use Rattle.hx_session.specs.Since.{HasSince}
use Rattle.hx_session.specs.Stages.{IsBetween}
use Rattle.hx_session.specs.Answering.{CarriesAnswer}
use Rattle.hx_session.proofs.PassedLemmas.{body_of, whole_way}

-- what was taken since, where it is told
since_front : (told : Option (List ℕ)) (total from : ℕ) (xs ys : List ℕ) (P : List ℕ → Type 0) → HasSince told total from (xs ++ ys) → P xs
    → IfSome told (λ all. P (take (length xs) (drop from all)))
since_front None total from xs ys P h p = tt
since_front (Some all) total from xs ys P h p =
    let before = h.bytes_are.0 in
    let dropped : drop from all ≡ xs ++ ys =
    ap (λ (k : ℕ). drop k all) (sym h.bytes_are.1) ∙ (ap (λ (l : List ℕ). drop (length before) l) h.bytes_are.2 ∙ drop-append_seam before (xs ++ ys)) in
    subst P (sym (ap (λ (l : List ℕ). take (length xs) l) dropped ∙ take-append_seam xs ys)) p

and_left : (a b : Bool) → (a && b) ≡ true → a ≡ true
and_left true b e = refl
and_left false b e = e

and_right : (a b : Bool) → (a && b) ≡ true → b ≡ true
and_right true b e = e
and_right false b e = cc

not_false : (b : Bool) → not b ≡ true → b ≡ false
not_false true e = cc
not_false false e = refl

true_false : true ≡ false → ⊥
true_false e = cc

-- an answer that went on whole is one on its connection
pub answer_whole : (d : DeskNow) (e : ExchangeNow) (b : BodyWay) (persistent : Bool) → IsCarried d e → IsOver d e b → persistent ≡ (b.persists && not b.to_end) → AnswerIsWhole e.busy e.answered persistent
answer_whole d e b persistent c over lasts =
    let r = c.answer in
    let m = e.busy.exchange.method in
    let from = e.busy.exchange.taken_from in
    let body = body_of e.answer b e r.taken r.put over.body r.way in
    let End : Type 0 = (e.ended ≡ true) × (d.down.bytes ≡ []) in
    let ends = whole_way b m r.taken r.put body.head body.kind End body.way body.state body.to_end over.ends in
    let all_there : d.down.bytes ≡ [] → from + e.answered ≡ e.busy.link.taken_count =
    λ none. omega (arith, r.front.count, r.answered, length-append r.taken d.down.bytes, ap length none) in
    let whole : IsWholeAnswer m r.taken ((e.busy.link.told_end ≡ true) × (from + e.answered ≡ e.busy.link.taken_count)) =
    (body.head, body.kind, ends.0, λ x. let end = ends.1 x in (c.ended end.0, all_there end.1)) in
    let lasting : persistent ≡ true → Persists m r.taken = λ e2.
    let both : (b.persists && not b.to_end) ≡ true = sym lasts ∙ e2 in (
      body.head,
      body.kind,
      ends.0,
      sym body.lasts ∙ and_left b.persists (not b.to_end) both,
      λ x. true_false (sym (body.to_end.1 x) ∙ not_false b.to_end (and_right b.persists (not b.to_end) both)),
    ) in
    record {
      there = omega (arith, r.front.count, r.answered, length-append r.taken d.down.bytes);
      answer = subst (λ (n : ℕ). IfSome e.busy.link.taken (λ taken. IsWholeAnswer m (take n (drop from taken)) ((e.busy.link.told_end ≡ true) × (from + e.answered ≡ e.busy.link.taken_count)))) (sym r.answered)
          (since_front e.busy.link.taken e.busy.link.taken_count from r.taken d.down.bytes
          (λ xs. IsWholeAnswer m xs ((e.busy.link.told_end ≡ true) × (from + e.answered ≡ e.busy.link.taken_count))) r.front whole);
      persists = λ e2. subst (λ (n : ℕ). IfSome e.busy.link.taken (λ taken. Persists m (take n (drop from taken)))) (sym r.answered)
          (since_front e.busy.link.taken e.busy.link.taken_count from r.taken d.down.bytes (λ xs. Persists m xs) r.front (lasting e2));
    }

-- no byte since
since_here : (told : Option (List ℕ)) (total : ℕ) → IfSome told (λ bytes. length bytes ≡ total) → HasSince told total total []
since_here None total counted = record { count = omega arith; bytes_are = tt }
since_here (Some all) total counted = record { count = omega arith; bytes_are = (all, counted, sym (append-nil all)) }

-- an exchange begins: its head was spelled, and what is behind it waits
pub begins_carried : (d : DeskNow) (a : Asked) (busy : BusyNow) (meter : Meter) (e : ExchangeNow) (from' up' : PipeNow) → IsBetween d → IsAsked d.from.bytes a → BeginsOn a busy → IsCounted busy.link
    → BeginsExchange a busy meter e → SpellsAsk d.from from' d.up up' a → HasUsed a.kind [] meter → (state_of meter ≡ Bad → ⊥)
    → IsCarried (record d { from = from'; up = up' }) e
begins_carried d a busy meter e from' up' between asked on counted begins spells used good =
    let g = asked.0 in
    let is = asked.1 in
    let head = a.head.length in
    let bytes = d.from.bytes in
    let desk = between.anew.desk in
    let parts : take head bytes ++ from'.bytes ≡ bytes = ap (λ (p : PipeNow). take head bytes ++ p.bytes) spells.0 ∙ take-append-drop head bytes in
    let ups : up' ≡ pipe (d.up.bytes ++ forwarded_request g) d.up.capacity = spells.1 g is.at in
    let new : e.busy.exchange ≡ new_exchange a.head.method e.busy.link.sent_count e.busy.link.taken_count = subst (BeginsOn a) (sym begins.busy_is) on in
    let counts : IsCounted e.busy.link = subst (λ (b : BusyNow). IsCounted b.link) (sym begins.busy_is) counted in
    let none : List ℕ = [] in
    record {
      desk = record {
        taken = desk.taken;
        given = desk.given;
        ended = desk.ended;
        counted = desk.counted;
        few_taken = desk.few_taken;
        few_given = desk.few_given;
        from = ap (λ (p : PipeNow). p.capacity) spells.0 ∙ desk.from;
        to = desk.to;
        up = ap (λ (p : PipeNow). p.capacity) ups ∙ desk.up;
        down = desk.down;
      };
      ask = record {
        head = g;
        kind = a.kind;
        taken = take head bytes;
        put = forwarded_request g;
        sent = none;
        way = ask_begins bytes a g e.ask.meter is (begins.used used);
        front = subst (λ (xs : List ℕ). HasSince d.client.taken d.client.taken_count d.ask_from xs) (sym parts) between.anew.taken;
        sends = subst (λ (k : ℕ). HasSince e.busy.link.sent e.busy.link.sent_count k none) (sym (ap (λ (x : Exchange). x.sent_from) new)) (since_here e.busy.link.sent e.busy.link.sent_count counts.sent);
        back = sym (ap (λ (p : PipeNow). p.bytes) ups ∙ ap (λ (xs : List ℕ). xs ++ forwarded_request g) between.up);
        state = begins.state;
        method = sym (is.at.kind) ∙ sym (ap (λ (x : Exchange). x.method) new);
        close = begins.wants ∙ is.close;
        written = begins.written ∙ sym (ap (λ (x : Exchange). x.asked) new);
        done = λ w. absurd (false_true (sym begins.written ∙ w));
        breaks = λ bad. absurd (begins.good good bad);
      };
      answer = record {
        taken = none;
        put = none;
        gave = none;
        way = subst (λ (x : AnswerWay). CarriesAnswer x e.ask.wants_close e.ask.written e.busy.exchange.method none none) (sym begins.answer) no_interims;
        front = subst (λ (xs : List ℕ). HasSince e.busy.link.taken e.busy.link.taken_count e.busy.exchange.taken_from xs) (sym between.down)
            (subst (λ (k : ℕ). HasSince e.busy.link.taken e.busy.link.taken_count k none) (sym (ap (λ (x : Exchange). x.taken_from) new)) (since_here e.busy.link.taken e.busy.link.taken_count counts.taken));
        gives = between.anew.given;
        back = sym between.to;
        answered = begins.answered;
        breaks = heads_unbroken e.answer e.ask.wants_close e.ask.written e.busy.exchange.method none none d.down.bytes (subst (λ (x : AnswerWay). CarriesAnswer x e.ask.wants_close e.ask.written e.busy.exchange.method none none) (sym begins.answer) no_interims) begins.answer;
      };
      ended = λ w. absurd (false_true (sym begins.ended ∙ w));
      open_ = ap (λ (x : Exchange). x.answer) new;
    }
  where
    false_true : false ≡ true → ⊥
    false_true e = cc

    no_interims : AreInterimsOnWay [] []
    no_interims = ([], refl, refl)

-- the session of an exchange that begins
pub begun_placed : (d d' : DeskNow) (busy : BusyNow) (e : ExchangeNow) (a : Asked) (meter : Meter) (seats : List History) (from' up' : PipeNow) → d' ≡ record d { from = from'; up = up' } → IsCarried d' e
    → BeginsOn a busy → BeginsExchange a busy meter e → IsNumbered d → ConnectedAt d busy seats → IsPlaced d' (Exchanging e) seats
begun_placed d d' busy e a meter seats from' up' is carried on begins n at = record {
  set = record {
    stands = carried;
    numbered = subst IsNumbered (sym is) (record {
      counted = record { session = n.counted.session; one = n.counted.one; few = n.counted.few; ordered = n.counted.ordered };
      on_loop = n.on_loop;
    });
    around = subst (λ (x : DeskNow). HasAround x.worker x.session (Some (seen.Exchanging e.busy)) seats) (sym is)
        (subst (λ (b : BusyNow). HasAround d.worker d.session (Some (seen.Exchanging b)) seats) (sym begins.busy_is) at.0);
    own = subst (λ (x : DeskNow). AtSeat seats e.busy.server.0 (λ h. HasConn h x.session e.busy.id)) (sym is)
        (subst (λ (b : BusyNow). AtSeat seats b.server.0 (λ h. HasConn h d.session b.id)) (sym begins.busy_is) at.1);
  };
  good = subst (λ (b : BusyNow). b.exchange.failed ≡ false) (sym begins.busy_is) (ap (λ (x : Exchange). x.failed) on);
}

pub begun_routed : (back : Back) (busy : BusyNow) (e : ExchangeNow) → e.busy ≡ busy → Contains (servers_of back) busy.server → IsRoutedTo back (Exchanging e)
begun_routed back busy e is contains = record { to_conn = subst (λ (b : BusyNow). Contains (servers_of back) b.server) (sym is) contains; to_chosen = tt }
