-- How a session stands after a part of a step.
use Rattle.std.proofs.Common.{◌≡◌, ◌≤◌, ℕ, List, [], ◌∷◌, length, refl, sym, ap, subst, ◌∙◌, arith, Option, Some, None}
use Rattle.std.specs.Prelude.{IfSome, Contains}
use Rattle.hx_base.specs.declared.numbers.ServerNo.{ServerNo}
use Rattle.hx_base.specs.declared.numbers.SessionNo.{SessionNo}
use Rattle.hx_base.specs.declared.numbers.ThreadNo.{ThreadNo}
use Rattle.hx_base.specs.declared.numbers.ConnId.{ConnId}
use Rattle.hx_config.specs.declared.parts.Back.{Back}
use Rattle.hx_conn.specs.Conns.{RestedNow}
use Rattle.hx_link.specs.Nets.{NetState}
use Rattle.hx_pool.specs.Opening.{HasConn}
use Rattle.hx_pool.specs.SeatView.{History}
use Rattle.hx_record.specs.declared.served.CutCause.{CutCause}
use Rattle.hx_record.specs.declared.served.Served.{Served}
use Rattle.hx_connecting.specs.Around.{HasAround, resting}
use Rattle.hx_connecting.specs.Choosing.{servers_of}
use Rattle.hx_connecting.specs.Closing.{AtSeat, HasHeld}
use Rattle.hx_connecting.specs.Sessions as seen
use Rattle.hx_connecting.proofs.BusyLemmas.{around_busy}
use Rattle.hx_session.proofs.ClientLemmas.{client_self, client_is, client_then}
use Rattle.hx_session.specs.Carried.{IsCarried}
use Rattle.hx_session.specs.Desks.{DeskNow, IsDesk, emptied}
use Rattle.hx_session.specs.Ending.{GaveNothing, AnswersOwn, CutsOff}
use Rattle.hx_session.specs.Exchanged.{ExchangeNow}
use Rattle.hx_session.specs.Fits.{GoesTo}
use Rattle.hx_session.specs.Over.{after_record}
use Rattle.hx_session.specs.Parting.{PartTouches}
use Rattle.hx_session.specs.Since.{HasSince}
use Rattle.hx_session.specs.Picking.{Picks}
use Rattle.hx_session.specs.Seen.{chosen_seen, conn_seen}
use Rattle.hx_session.specs.Stages.{own_stage, StageNow, ChoosingNow, IsAhead, Reading, Choosing, Exchanging, Answering, IsBetween}
use Rattle.hx_session.specs.declared.stage.Came.{Came}
use Rattle.hx_session.specs.declared.stage.Came.TheVariants.{Ends}
use Rattle.hx_session.specs.declared.stage.Ending.{Ending}
use Rattle.hx_session.specs.Telling.{CameTells, TellsEnd}
use Rattle.hx_session.specs.Standing.{CamePlaced, CameRouted, Goes, IsNumbered, IsSet, IsPlaced, IsLeaving, KeepsDesk, KeepsAsk, KeepsPlace, IsSameConn, server_held, GoesToHeld}

pub desk_none : (d : DeskNow) → KeepsDesk d d
desk_none d = record { who = record { worker = refl; session = refl; since = refl; client = client_self d.client }; on_loop = refl }

pub desk_is : (d d' : DeskNow) → d' ≡ d → KeepsDesk d d'
desk_is d d' e = subst (λ (x : DeskNow). KeepsDesk d x) (sym e) (desk_none d)

pub desk_then : (a b c : DeskNow) → KeepsDesk a b → KeepsDesk b c → KeepsDesk a c
desk_then a b c x y = record {
  who = record {
    worker = y.who.worker ∙ x.who.worker;
    session = y.who.session ∙ x.who.session;
    since = y.who.since ∙ x.who.since;
    client = client_then a.client b.client c.client x.who.client y.who.client;
  };
  on_loop = y.on_loop ∙ x.on_loop;
}

pub place_in : (d d' : DeskNow) (seats : List History) (net : NetState) → KeepsDesk d d' → KeepsPlace d d' seats seats net net
place_in d d' seats net k = record { desk = k; about = refl; loop_no = refl }

pub place_then : (a b c : DeskNow) (xs ys zs : List History) (x y z : NetState) → KeepsPlace a b xs ys x y → KeepsPlace b c ys zs y z → KeepsPlace a c xs zs x z
place_then a b c xs ys zs x y z k l = record { desk = desk_then a b c k.desk l.desk; about = l.about ∙ k.about; loop_no = l.loop_no ∙ k.loop_no }

-- an own answer that is decided
pub answers_keep : (d d' : DeskNow) (status : ℕ) → AnswersOwn d d' status → KeepsDesk d d'
answers_keep d d' status a = record {
  who = record {
    worker = ap (λ (x : DeskNow). x.worker) a.desk;
    session = ap (λ (x : DeskNow). x.session) a.desk;
    since = ap (λ (x : DeskNow). x.since) a.desk;
    client = client_is d.client d'.client (ap (λ (x : DeskNow). x.client) a.desk);
  };
  on_loop = ap (λ (x : DeskNow). x.client.on_loop) a.desk;
}

pub answers_set : (d d' : DeskNow) (status : ℕ) (held : Option RestedNow) (seats : List History) → AnswersOwn d d' status → IsDesk d → GaveNothing d → IsNumbered d
    → HasAround d.worker d.session (resting held) seats → HasHeld seats d.session held → IsPlaced d' (Answering (record { status = status; held = held })) seats
answers_set d d' status held seats a is gave numbered around own =
    let s : StageNow = Answering (record { status = status; held = held }) in
    subst (λ (x : DeskNow). IsPlaced x s seats) (sym a.desk) (record {
      set = record {
        stands = record {
          desk = record {
            taken = is.taken;
            given = is.given;
            ended = is.ended;
            counted = is.counted;
            few_taken = is.few_taken;
            few_given = is.few_given;
            from = is.from;
            to = is.to;
            up = is.up;
            down = is.down;
          };
          text = a.text;
          own = a.own;
          gave = [];
          gives = gave;
          back = refl;
          ordered = numbered.counted.ordered;
        };
        numbered = record {
          counted = record { session = numbered.counted.session; one = numbered.counted.one; few = numbered.counted.few; ordered = numbered.counted.ordered };
          on_loop = numbered.on_loop;
        };
        around = around;
        own = own;
      };
      good = tt;
    })

-- nothing was given, where the counts say so
pub gave_none : (told : Option (List ℕ)) (total from : ℕ) (gave : List ℕ) → total ≤ from → HasSince told total from gave → HasSince told total from []
gave_none told total from gave le h =
    subst (λ (xs : List ℕ). HasSince told total from xs) (none gave (omega (arith, h.count, le))) h
  where
    none : (xs : List ℕ) → length xs ≤ 0 → xs ≡ []
    none [] l = refl
    none (x ∷ xs) l = absurd (omega (arith, l))

-- a session that leaves where nothing was given since the last record
pub leaves_between : (d : DeskNow) (held : Option RestedNow) (seats : List History) → IsBetween d → IsNumbered d → HasAround d.worker d.session (resting held) seats
    → HasHeld seats d.session held → IsLeaving d held seats
leaves_between d held seats b n around own = record {
  tallied = record { taken = b.anew.desk.taken; given = b.anew.desk.given };
  session = n.counted.session;
  ordered = n.counted.ordered;
  told = omega (arith, b.anew.given.count, b.anew.desk.given);
  on_loop = n.on_loop;
  around = around;
  own = own;
}

-- a request whose head is there
pub choosing_placed : (d : DeskNow) (c : ChoosingNow) (seats : List History) → IsAhead d.from.bytes c.length c.kind → c.server ≡ server_held c.held → IsPlaced d (Reading c.held) seats → IsPlaced d (Choosing c) seats
choosing_placed d c seats asked server p = record {
  set = record { stands = (p.set.stands, asked); numbered = p.set.numbered; around = p.set.around; own = p.set.own };
  good = goes c.held c.server server;
}
  where
    goes : (held : Option RestedNow) (v : Option ServerNo) → v ≡ server_held held → GoesToHeld held v
    goes None v e = tt
    goes (Some r) v e = e

pub choosing_routed : (back : Back) (held : Option RestedNow) (v : Option ServerNo) → v ≡ server_held held → GoesTo back (resting held) None → GoesTo back (resting held) v
choosing_routed back None v e g = record { to_conn = g.to_conn; to_chosen = subst (λ (o : Option ServerNo). IfSome o (λ x. Contains (servers_of back) x)) (sym e) tt }
choosing_routed back (Some r) v e g = record { to_conn = g.to_conn; to_chosen = subst (λ (o : Option ServerNo). IfSome o (λ x. Contains (servers_of back) x)) (sym e) g.to_conn }

-- a session that doesn't go to its chosen server any more
pub unchosen : (back : Back) (c : Option seen.Holding) (v : Option ServerNo) → GoesTo back c v → GoesTo back c None
unchosen back c v g = record { to_conn = g.to_conn; to_chosen = tt }

-- an exchange that is cut off
pub cut_leaves : (d d1 d2 : DeskNow) (e : ExchangeNow) (why : CutCause) (served : Served) (seats seats' : List History) → CutsOff d d1 e why served → d2 ≡ emptied d1 → IsSet d (Exchanging e) seats
    → HasAround d.worker d.session None seats' → IsLeaving d2 None seats'
cut_leaves d d1 d2 e why served seats seats' k is set around =
    let desk = set.stands.desk in
    subst (λ (x : DeskNow). IsLeaving x None seats') (sym (is ∙ ap emptied k.desk)) (record {
      tallied = record { taken = desk.taken; given = desk.given };
      session = set.numbered.counted.session;
      ordered = k.within;
      told = refl;
      on_loop = set.numbered.on_loop;
      around = around;
      own = tt;
    })

pub cut_kept : (d d1 : DeskNow) (e : ExchangeNow) (why : CutCause) (served : Served) → CutsOff d d1 e why served → KeepsDesk d d1
cut_kept d d1 e why served k =
    subst (λ (x : DeskNow). KeepsDesk d x) (sym k.desk) (record { who = record { worker = refl; session = refl; since = refl; client = client_self d.client }; on_loop = refl })

emptied_kept : (d : DeskNow) → KeepsDesk d (emptied d)
emptied_kept d = record { who = record { worker = refl; session = refl; since = refl; client = client_self d.client }; on_loop = refl }

pub cut_keeps : (d d1 d2 : DeskNow) (e : ExchangeNow) (why : CutCause) (served : Served) → CutsOff d d1 e why served → d2 ≡ emptied d1 → KeepsDesk d d2
cut_keeps d d1 d2 e why served k is = desk_then d d1 d2 (cut_kept d d1 e why served k) (subst (λ (x : DeskNow). KeepsDesk d1 x) (sym is) (emptied_kept d1))

-- an exchange that goes on
pub set_on : (d d' : DeskNow) (e e' : ExchangeNow) (seats : List History) → IsSet d (Exchanging e) seats → KeepsAsk d d' → IsSameConn e e' → IsCarried d' e'
    → IsSet d' (Exchanging e') seats
set_on d d' e e' seats p k c carried =
    let n = p.numbered.counted in
    record {
      stands = carried;
      numbered = record {
        counted = record {
          session = λ z. n.session (sym (ap (λ (m : SessionNo). m.0) k.desk.who.session) ∙ z);
          one = omega (arith, k.number, n.one);
          few = omega (arith, k.number, k.ask_from, n.few);
          ordered = omega (arith, k.ask_from, k.taken, n.ordered);
        };
        on_loop = k.desk.on_loop ∙ (p.numbered.on_loop ∙ ap (λ (t : ThreadNo). Some t.0) (sym k.desk.who.worker));
      };
      around = subst (λ (t : ThreadNo). HasAround t d'.session (Some (seen.Exchanging e'.busy)) seats) (sym k.desk.who.worker)
          (subst (λ (m : SessionNo). HasAround d.worker m (Some (seen.Exchanging e'.busy)) seats) (sym k.desk.who.session)
          (around_busy d.worker d.session e.busy e'.busy seats c.server c.id c.uses c.on_loop p.around));
      own = subst (λ (m : SessionNo). AtSeat seats e'.busy.server.0 (λ h. HasConn h m e'.busy.id)) (sym k.desk.who.session)
          (subst (λ (v : ServerNo). AtSeat seats v.0 (λ h. HasConn h d.session e'.busy.id)) (sym c.server)
          (subst (λ (i : ConnId). AtSeat seats e.busy.server.0 (λ h. HasConn h d.session i)) (sym c.id) p.own));
    }

pub placed_on : (d d' : DeskNow) (e e' : ExchangeNow) (seats : List History) → IsPlaced d (Exchanging e) seats → KeepsAsk d d' → IsSameConn e e' → IsCarried d' e'
    → e'.busy.exchange.failed ≡ e.busy.exchange.failed → IsPlaced d' (Exchanging e') seats
placed_on d d' e e' seats p k c carried failed = record { set = set_on d d' e e' seats p.set k c carried; good = failed ∙ p.good }

-- a part of a step after which the session leaves
pub goes_ends : {X : Type 0} (d d' : DeskNow) (s : StageNow) (seats seats' : List History) (net net' : NetState) (c : Came X) (x : Ending X) → c ≡ Ends x → KeepsPlace d d' seats seats' net net'
    → IsLeaving d' x.held seats' → PartTouches d s seats net d' (Ends x) seats' net' → TellsEnd s d d' x.served x.cause → Picks (conn_seen s) (chosen_seen s) seats (Ends x) seats' → Goes d s seats net d' c seats' net'
goes_ends {X = X} d d' s seats seats' net net' c x is keeps leaving touches told picks = record {
  placed = subst (λ (y : Came X). CamePlaced d' y seats') (sym is) leaving;
  keeps = keeps;
  touches = subst (λ (y : Came X). PartTouches d s seats net d' y seats' net') (sym is) touches;
  picks = subst (λ (y : Came X). Picks (conn_seen s) (chosen_seen s) seats y seats') (sym is) picks;
  routed = λ back r. subst (λ (y : Came X). CameRouted back y) (sym is) tt;
  told = subst (λ (y : Came X). CameTells d s d' y) (sym is) told;
}

-- an own answer whose record is given
pub own_leaves : (d d1 d2 : DeskNow) (status : ℕ) (held : Option RestedNow) (seats : List History) → d1 ≡ after_record d d.taken → d2 ≡ emptied d1 → IsPlaced d (own_stage status held) seats → IsLeaving d2 held seats
own_leaves d d1 d2 status held seats first then p =
    let desk = p.set.stands.desk in
    subst (λ (x : DeskNow). IsLeaving x held seats) (sym (then ∙ ap emptied first)) (record {
      tallied = record { taken = desk.taken; given = desk.given };
      session = p.set.numbered.counted.session;
      ordered = omega arith;
      told = refl;
      on_loop = p.set.numbered.on_loop;
      around = p.set.around;
      own = p.set.own;
    })

pub own_kept : (d d1 : DeskNow) → d1 ≡ after_record d d.taken → KeepsDesk d d1
own_kept d d1 first = subst (λ (x : DeskNow). KeepsDesk d x) (sym first) (record { who = record { worker = refl; session = refl; since = refl; client = client_self d.client }; on_loop = refl })

pub own_keeps : (d d1 d2 : DeskNow) → d1 ≡ after_record d d.taken → d2 ≡ emptied d1 → KeepsDesk d d2
own_keeps d d1 d2 first then = desk_then d d1 d2 (own_kept d d1 first) (subst (λ (x : DeskNow). KeepsDesk d1 x) (sym then) (emptied_kept d1))
