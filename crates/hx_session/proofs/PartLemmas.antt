-- A part of a step behind another, and behind a call of a link.
use Rattle.std.proofs.Common.{◌≡◌, ℕ, List, refl, sym, ap, subst, ◌∙◌, inl, inr, arith, Option, Some, None}
use Rattle.std.specs.Prelude.{IfSome, Contains}
use Rattle.hx_base.specs.declared.numbers.ServerNo.{ServerNo}
use Rattle.hx_base.specs.declared.numbers.SessionNo.{SessionNo}
use Rattle.hx_base.specs.declared.numbers.ThreadNo.{ThreadNo}
use Rattle.hx_config.specs.declared.parts.Back.{Back}
use Rattle.hx_conn.specs.Conns.{RestedNow}
use Rattle.hx_link.specs.Nets.{NetState}
use Rattle.hx_pool.specs.SeatView.{History}
use Rattle.hx_record.specs.declared.served.Served.{Served}
use Rattle.hx_connecting.specs.Around.{HasAround, abouts, resting}
use Rattle.hx_connecting.specs.Choosing.{servers_of}
use Rattle.hx_connecting.specs.Closing.{HasHeld}
use Rattle.hx_connecting.specs.Sessions as seen
use Rattle.hx_session.specs.declared.stage.Came.{Came}
use Rattle.hx_session.specs.declared.stage.Came.TheVariants.{On, Moved, Ends}
use Rattle.hx_session.specs.declared.stage.Ending.{Ending}
use Rattle.hx_session.specs.declared.stage.Stage.{Stage}
use Rattle.hx_session.specs.declared.step.Waiting.{Waiting}
use Rattle.hx_session.proofs.ClientLemmas.{client_then}
use Rattle.hx_session.specs.Carried.{IsCarried}
use Rattle.hx_session.specs.declared.moves.Move.{Move}
use Rattle.hx_session.specs.Moves.{GivesClient, ReadsClient}
use Rattle.hx_session.specs.Still.{WantsClient}
use Rattle.hx_session.proofs.ReadLemmas.{gives_keep, gives_stand, reads_keep, reads_stand}
use Rattle.hx_session.specs.Desks.{DeskNow, IsDesk}
use Rattle.hx_session.specs.Ending.{HasOwn, AnswersOwn}
use Rattle.hx_session.specs.Exchanged.{ExchangeNow}
use Rattle.hx_connecting.specs.Ways.{GivesOwn, ExchangeStays, ToldStays}
use Rattle.hx_session.specs.Parting.{PartTouches, CameKeeps, came_conn, came_served}
use Rattle.hx_connecting.specs.Touched.{AllStand}
use Rattle.hx_connecting.proofs.AddingLemmas.{holds_stand}
use Rattle.hx_session.proofs.PartingLemmas.{part_from, parted, parted_behind, parted_none, counts_same, stage_part, went_way}
use Rattle.hx_session.proofs.StaysLemmas.{carries_told}
use Rattle.hx_session.specs.Seen.{conn_seen, chosen_seen}
use Rattle.hx_session.specs.Picking.{Picks, PicksTo}
use Rattle.hx_session.proofs.PickLemmas.{picks_from, to_answer, to_same, to_choosing, on_same, ends_held}
use Rattle.hx_session.specs.Fits.{GoesTo}
use Rattle.hx_session.specs.Stages.{StageNow, ChoosingNow, IsAhead, Reading, Choosing, Exchanging, StandsSo, IsBetween, own_stage, stage_now}
use Rattle.hx_session.specs.Standing.{server_held, IsLeaving, CamePlaced, CameRouted, Goes, ComesTo, IsNumbered, IsSet, IsPlaced, KeepsDesk, KeepsAsk, KeepsPlace, KeepsOver, IsSameConn, IsRoutedTo}
use Rattle.hx_session.specs.Telling.{CameTells, IsStillTold, LeavesPlainly, TellsEnd, TellsMoved}
use Rattle.hx_session.proofs.TellLemmas.{came_then, none_same, still_same}
use Rattle.hx_session.proofs.StandingLemmas.{place_in, place_then, desk_none, answers_keep, answers_set, choosing_placed, choosing_routed, goes_ends, leaves_between, placed_on}

-- the same stage at a desk whose client's link made a call
pub set_desk : (d d' : DeskNow) (s : StageNow) (seats : List History) → IsSet d s seats → KeepsAsk d d' → StandsSo d' s → IsSet d' s seats
set_desk d d' s seats p k stands =
    let n = p.numbered.counted in
    record {
      stands = stands;
      numbered = record {
        counted = record {
          session = λ z. n.session (sym (ap (λ (m : SessionNo). m.0) k.desk.who.session) ∙ z);
          one = omega (arith, k.number, n.one);
          few = omega (arith, k.number, k.ask_from, n.few);
          ordered = omega (arith, k.ask_from, k.taken, n.ordered);
        };
        on_loop = k.desk.on_loop ∙ (p.numbered.on_loop ∙ ap (λ (t : ThreadNo). Some t.0) (sym k.desk.who.worker));
      };
      around = subst (λ (t : ThreadNo). HasAround t d'.session (conn_seen s) seats) (sym k.desk.who.worker)
          (subst (λ (m : SessionNo). HasAround d.worker m (conn_seen s) seats) (sym k.desk.who.session) p.around);
      own = subst (λ (m : SessionNo). HasOwn seats m s) (sym k.desk.who.session) p.own;
    }

pub placed_desk : (d d' : DeskNow) (s : StageNow) (seats : List History) → IsPlaced d s seats → KeepsAsk d d' → StandsSo d' s → IsPlaced d' s seats
placed_desk d d' s seats p k stands = record { set = set_desk d d' s seats p.set k stands; good = p.good }

-- a part that goes on from a desk whose client's link made a call
pub goes_from_desk : {X : Type 0} (d d' d2 : DeskNow) (s : StageNow) (seats seats' : List History) (net net' : NetState) (c : Came X) → KeepsDesk d d' → d'.number ≡ d.number → Goes d' s seats net d2 c seats' net'
    → IsStillTold d s d' s → Goes d s seats net d2 c seats' net'
goes_from_desk d d' d2 s seats seats' net net' c k number g still = record {
  placed = g.placed;
  keeps = place_then d d' d2 seats seats seats' net net net' (place_in d d' seats net k) g.keeps;
  touches = part_from d d' d2 s seats seats' net net' c k.who.worker k.who.session number g.touches;
  picks = g.picks;
  routed = g.routed;
  told = came_then d d' d2 s s c still g.told;
}

-- a part after which the step goes on, or is over, at the same stage
pub goes_same : {X : Type 0} (d d' : DeskNow) (stage : Stage X) (seats : List History) (net : NetState) (c : Came X) → KeepsDesk d d' → (IsPlaced d' (stage_now stage) seats → CamePlaced d' c seats)
    → ((back : Back) → IsRoutedTo back (stage_now stage) → CameRouted back c) → PartTouches d (stage_now stage) seats net d' c seats net → IsPlaced d' (stage_now stage) seats → CameTells d (stage_now stage) d' c
    → Picks (conn_seen (stage_now stage)) (chosen_seen (stage_now stage)) seats c seats → Goes d (stage_now stage) seats net d' c seats net
goes_same d d' stage seats net c k placed routed touches p told picks = record { placed = placed p; keeps = place_in d d' seats net k; touches = touches; picks = picks; routed = routed; told = told }

-- the step goes on with the stage as it is
pub goes_still : {X : Type 0} (d d2 : DeskNow) (stage : Stage X) (w : Waiting) (seats : List History) (net : NetState) → d2 ≡ d → IsPlaced d (stage_now stage) seats → Goes d (stage_now stage) seats net d2 (On stage w) seats net
goes_still d d2 stage w seats net e p =
    subst (λ (x : DeskNow). Goes d (stage_now stage) seats net x (On stage w) seats net) (sym e) (record {
      placed = p;
      keeps = place_in d d seats net (desk_none d);
      touches = inl (refl, refl, refl, refl, tt);
      picks = on_same seats stage w;
      routed = λ back r. r;
      told = still_same d (stage_now stage);
    })

-- it is over, with the stage as it is
pub goes_moved : {X : Type 0} (d : DeskNow) (stage : Stage X) (w : Waiting) (seats : List History) (net : NetState) → IsPlaced d (stage_now stage) seats → Goes d (stage_now stage) seats net d (Moved stage w None) seats net
goes_moved d stage w seats net p = record {
  placed = p;
  keeps = place_in d d seats net (desk_none d);
  touches = inl (refl, refl, refl, tt, tt);
  picks = to_same seats (stage_now stage);
  routed = λ back r. r;
  told = none_same d;
}

-- a request's head is there
pub goes_choosing : {X : Type 0} (d d2 : DeskNow) (held : Option RestedNow) (c : ChoosingNow) (stage : Stage X) (w : Waiting) (seats : List History) (net : NetState) → d2 ≡ d → stage_now stage ≡ Choosing c → c.held ≡ held
    → c.server ≡ server_held held → IsAhead d.from.bytes c.length c.kind → IsPlaced d (Reading held) seats → Goes d (Reading held) seats net d2 (Moved stage w None) seats net
goes_choosing d d2 held c stage w seats net e is same server asked p =
    let its = server ∙ ap server_held (sym same) in
    subst (λ (x : DeskNow). Goes d (Reading held) seats net x (Moved stage w None) seats net) (sym e) (record {
      placed = subst (λ (x : StageNow). IsPlaced d x seats) (sym is) (choosing_placed d c seats asked its (subst (λ (h : Option RestedNow). IsPlaced d (Reading h) seats) (sym same) p));
      keeps = place_in d d seats net (desk_none d);
      touches = inl (refl, refl, ap conn_seen is ∙ ap resting same, tt, tt);
      picks = subst (λ (x : StageNow). PicksTo (resting held) None seats x seats) (sym is) (to_choosing held seats c same server);
      routed = λ back r. subst (λ (x : StageNow). IsRoutedTo back x) (sym is)
          (subst (λ (h : Option RestedNow). GoesTo back (resting h) c.server) (sym same) (choosing_routed back held c.server server r));
      told = none_same d;
    })

-- the session leaves while a head is read
pub goes_away : {X : Type 0} (d d2 : DeskNow) (held : Option RestedNow) (c : Came X) (x : Ending X) (seats : List History) (net : NetState) → d2 ≡ d → c ≡ Ends x → x.held ≡ held → x.served ≡ None → LeavesPlainly x.cause
    → IsBetween d → IsPlaced d (Reading held) seats → Goes d (Reading held) seats net d2 c seats net
goes_away {X = X} d d2 held c x seats net e is same none plain between p =
    subst (λ (y : DeskNow). Goes d (Reading held) seats net y c seats net) (sym e)
    (goes_ends d d (Reading held) seats seats net net c x is (place_in d d seats net (desk_none d))
    (subst (λ (h : Option RestedNow). IsLeaving d h seats) (sym same) (leaves_between d held seats between p.set.numbered p.set.around p.set.own))
    (inl (refl, refl, ap resting same, tt, subst (λ (o : Option Served). GivesOwn o (resting held)) (sym none) tt))
    (subst (λ (o : Option Served). TellsEnd (Reading held) d d o x.cause) (sym none) (none_same d, plain, tt))
    (ends_held held None seats x same))

-- the connection's server stays
pub conn_routed : (back : Back) (e e' : ExchangeNow) → IsSameConn e e' → IsRoutedTo back (Exchanging e) → IsRoutedTo back (Exchanging e')
conn_routed back e e' k r = record { to_conn = subst (λ (v : ServerNo). Contains (servers_of back) v) (sym k.server) r.to_conn; to_chosen = tt }

-- a part that goes on from an exchange that went on
pub goes_from_exchange : {X : Type 0} (d d' d2 : DeskNow) (e e' : ExchangeNow) (seats seats' : List History) (net net' : NetState) (c : Came X) → AllStand seats → KeepsAsk d d' → IsSameConn e e'
    → ExchangeStays e.busy e'.busy → CameKeeps c e.busy e'.busy → Goes d' (Exchanging e') seats net d2 c seats' net' → CameTells d (Exchanging e) d2 c → Goes d (Exchanging e) seats net d2 c seats' net'
goes_from_exchange d d' d2 e e' seats seats' net net' c all k same stays bytes g told = record {
  placed = g.placed;
  keeps = place_then d d' d2 seats seats seats' net net net' (place_in d d' seats net k.desk) g.keeps;
  touches = inr (parted_behind d d' d2 e e' seats seats' net net' c k.desk.who.worker k.desk.who.session k.number stays bytes (parted d' d2 (Exchanging e') seats seats' net net' c all g.touches));
  picks = picks_from (conn_seen (Exchanging e)) (conn_seen (Exchanging e')) None None seats seats' c refl (e'.busy, refl) g.picks;
  routed = λ back r. g.routed back (conn_routed back e e' same r);
  told = told;
}

-- no byte is moved on its link
pub still_keeps : (d d' : DeskNow) (e e' : ExchangeNow) → IsStillTold d (Exchanging e) d' (Exchanging e') → ToldStays e.busy e'.busy
still_keeps d d' e e' k =
    let f = k.stage.0 in
    let same : e' ≡ f = stage_same f e' (sym k.stage.1) in
    subst (λ (x : ExchangeNow). ToldStays e.busy x.busy) (sym same) (carries_told e.busy.link f.busy.link k.stage.2.link)
  where
    stage_same : (x y : ExchangeNow) → Exchanging x ≡ Exchanging y → y ≡ x
    stage_same x y z = cc

-- an exchange that went on, after which the step goes on or is over
pub went_on : {X : Type 0} (d d' : DeskNow) (e e' : ExchangeNow) (seats : List History) (net : NetState) (c : Came X) → IsPlaced d (Exchanging e) seats → KeepsAsk d d' → IsSameConn e e' → IsCarried d' e'
    → e'.busy.exchange.failed ≡ e.busy.exchange.failed → (IsPlaced d' (Exchanging e') seats → CamePlaced d' c seats) → ((back : Back) → IsRoutedTo back (Exchanging e') → CameRouted back c)
    → CameTells d (Exchanging e) d' c → came_conn c ≡ conn_seen (Exchanging e') → came_served c ≡ None → ExchangeStays e.busy e'.busy → IsStillTold d (Exchanging e) d' (Exchanging e')
    → Picks (conn_seen (Exchanging e')) None seats c seats → Goes d (Exchanging e) seats net d' c seats net
went_on d d' e e' seats net c p k same carried failed placed routed told conn none stays still picks = record {
  placed = placed (placed_on d d' e e' seats p k same carried failed);
  keeps = place_in d d' seats net k.desk;
  touches = inr (parted_none d d' (Exchanging e) seats seats net net c (holds_stand d.worker d.session (conn_seen (Exchanging e)) 0 seats p.set.around.holds) refl (counts_same d d' c k.number)
      (went_way c d.worker d.session e.busy e'.busy seats _ net conn none stays (still_keeps d d' e e' still)));
  picks = picks_from (conn_seen (Exchanging e)) (conn_seen (Exchanging e')) None None seats seats c refl (e'.busy, refl) picks;
  routed = λ back r. routed back (conn_routed back e e' same r);
  told = told;
}

-- an exchange that is as it was
pub still_on : {X : Type 0} (d : DeskNow) (e : ExchangeNow) (seats : List History) (net : NetState) (c : Came X) → IsPlaced d (Exchanging e) seats → came_conn c ≡ conn_seen (Exchanging e) → came_served c ≡ None
    → (IsPlaced d (Exchanging e) seats → CamePlaced d c seats) → ((back : Back) → IsRoutedTo back (Exchanging e) → CameRouted back c) → CameTells d (Exchanging e) d c
    → Picks (conn_seen (Exchanging e)) None seats c seats → Goes d (Exchanging e) seats net d c seats net
still_on d e seats net c p conn none placed routed told picks =
    record { picks = picks; placed = placed p; keeps = place_in d d seats net (desk_none d); touches = inl (refl, refl, conn, counts_same d d c refl, subst (λ (o : Option Served). GivesOwn o (conn_seen (Exchanging e))) (sym none) tt); routed = routed; told = told }

-- an own answer is decided outside of an exchange
pub goes_answering : {X : Type 0} (d d' : DeskNow) (s : StageNow) (status : ℕ) (held : Option RestedNow) (seats : List History) (net : NetState) (stage : Stage X) (w : Waiting)
    → conn_seen s ≡ resting held → IsBetween d → IsNumbered d → HasAround d.worker d.session (resting held) seats → HasHeld seats d.session held
    → stage_now stage ≡ own_stage status held → AnswersOwn d d' status → TellsMoved s d d' (stage_now stage) None → Goes d s seats net d' (Moved stage w None) seats net
goes_answering d d' s status held seats net stage w conn between numbered around own is a told = record {
  placed = subst (λ (x : StageNow). IsPlaced d' x seats) (sym is) (answers_set d d' status held seats a between.anew.desk between.anew.given numbered around own);
  keeps = place_in d d' seats net (answers_keep d d' status a);
  touches = inl (refl, refl, ap conn_seen is ∙ sym conn, tt, tt);
  picks = to_answer (chosen_seen s) (conn_seen s) seats (stage_now stage) status held is;
  routed = λ back r. subst (λ (x : StageNow). IsRoutedTo back x) (sym is) (record {
    to_conn = subst (λ (c : Option seen.Holding). IfSome c (λ x. Contains (servers_of back) (seen.conn_server x))) conn r.to_conn;
    to_chosen = tt;
  });
  told = told;
}

-- a part that comes to another stage, and ends the step
pub goes_to : {X : Type 0} (d d' : DeskNow) (s : StageNow) (seats seats' : List History) (net net' : NetState) (stage : Stage X) (w : Waiting)
    → ComesTo d s seats net d' (stage_now stage) seats' net' → TellsMoved s d d' (stage_now stage) None → Goes d s seats net d' (Moved stage w None) seats' net'
goes_to d d' s seats seats' net net' stage w c told = record { placed = c.placed; keeps = c.keeps; touches = stage_part d d' s stage w seats seats' net net' c.touches; picks = c.picks; routed = c.routed; told = told }

-- a stage after a call that gives, and after a read of the client
pub gave_placed : (d d' : DeskNow) (s : StageNow) (now : ℕ) (m : Move) (seats : List History) → IsDesk d' → GivesClient d d' now m → IsPlaced d s seats → IsPlaced d' s seats
gave_placed d d' s now m seats desk g p = placed_desk d d' s seats p (gives_keep d d' now m g) (gives_stand d d' s now m desk g p.set.stands)

pub took_placed : (d d' : DeskNow) (s : StageNow) (now : ℕ) (m : Move) (seats : List History) → IsDesk d' → ReadsClient d d' now m → WantsClient s → IsPlaced d s seats → IsPlaced d' s seats
took_placed d d' s now m seats desk g wants p = placed_desk d d' s seats p (reads_keep d d' now m g) (reads_stand d d' s now m desk g wants p.set.stands)

-- a step behind its parts
pub place_turn : (a b : DeskNow) (xs ys zs : List History) (x y : NetState) → KeepsPlace a b xs ys x y → abouts zs ≡ abouts ys → KeepsPlace a b xs zs x y
place_turn a b xs ys zs x y k e = record { desk = k.desk; about = e ∙ k.about; loop_no = k.loop_no }

pub over_then : (a b c : DeskNow) (xs ys zs : List History) (x y z : NetState) → KeepsPlace a b xs ys x y → KeepsOver b c ys zs y z → KeepsOver a c xs zs x z
over_then a b c xs ys zs x y z k l = record {
  who = record {
    worker = l.who.worker ∙ k.desk.who.worker;
    session = l.who.session ∙ k.desk.who.session;
    since = l.who.since ∙ k.desk.who.since;
    client = client_then a.client b.client c.client k.desk.who.client l.who.client;
  };
  about = l.about ∙ k.about;
  loop_no = l.loop_no ∙ k.loop_no;
}
