use Rattle.std.proofs.Common.{List, map, refl, subst, inl, inr, ◌∙◌}
use Rattle.hx_pool.specs.SeatView.{History}
use Rattle.hx_connecting.specs.Journals.{room_of}
use Rattle.hx_connecting.proofs.RoomLemmas.{rooms_none}
use Rattle.hx_session.specs.Desks.{desk_now, DeskNow}
use Rattle.hx_session.specs.Stages.{stage_now}
use Rattle.hx_session.proofs.StandingLemmas.{place_in}
use Rattle.hx_session.specs.declared.moves.Move.{Move}
use Rattle.hx_session.specs.declared.moves.Move.TheVariants.{Idle, Bytes, Waits, Ended, Failed}
use Rattle.hx_session.proofs.FirstLemmas.{gives_fresh, idle_not}
use Rattle.hx_session.proofs.TellLemmas.{DeskTells, gives_told}
use Rattle.hx_session.proofs.PartLemmas.{gave_placed, goes_from_desk}
use Rattle.hx_session.proofs.ReadLemmas.{gives_keep}
use Rattle.hx_session.specs.Seen.{conn_seen}
use Rattle.hx_session.proofs.PickLemmas.{to_same, kind_self}
use Rattle.hx_session.specs.Moves.{GivesClient}
use Rattle.hx_session.proofs.LeavingLemmas.{gave_fault}
use Rattle.hx_session.proofs.OwningLemmas.{gives_taken}
use Rattle.hx_session.proofs.PausedLemmas.{gives_paused, moved_where}
use Rattle.hx_session.specs.Waiting.{IsGiven}
use Rattle.hx_session.proofs.DecidedLemmas.{gives_far, same_moved}
use Rattle.hx_session.proofs.phases.give_some.Goals as goal

pub returns-in-Bytes : goal.returns-in-Bytes
returns-in-Bytes g c =
    let d : DeskNow = desk_now g.L.Link.state c.args.desk.now in
    let d2 : DeskNow = desk_now g.L.Link.state c.give.new.desk in
    let seats : List History = map g.S.HasHistory.history c.args.seats.now in
    let net = g.N.Net.state c.args.net.now in
    let m = c.give.result in
    record {
      goes = record {
        placed = gave_placed d d2 (stage_now c.args.stage) c.args.at.now.0 m seats c.give.ensures.desk c.give.ensures.gives c.requires.placed;
        keeps = place_in d d2 seats net (gives_keep d d2 c.args.at.now.0 m c.give.ensures.gives).desk;
        touches = inl (refl, refl, refl, tt, tt);
        picks = to_same seats (stage_now c.args.stage);
        routed = λ back r. r;
        told = subst (λ (x : Move). DeskTells x d (stage_now c.args.stage) d2) c.in-Bytes.is (gives_told d d2 (stage_now c.args.stage) c.args.at.now.0 c.give.result c.give.ensures.gives);
      };
      rooms = rooms_none g.S.HasHistory.history (room_of g.S.HasHistory.kept_from g.S.HasHistory.spare) c.args.seats.now;
      still = λ d0 s0 k. tt;
      own = λ status taken k. (gives_taken d d2 c.args.at.now.0 c.give.result c.give.ensures.gives ∙ k.0, k.1);
      decides = λ limits moment. same_moved limits moment d (stage_now c.args.stage) net d2 net;
      left = λ limits moment. tt;
      first = λ l f. absurd (idle_not c.give.result Bytes (gives_fresh l d d2 (stage_now c.args.stage) c.args.at.now.0 c.give.result f c.give.ensures.gives).0 c.in-Bytes.is (λ e. cc));
    }

pub returns-in-Ended : goal.returns-in-Ended
returns-in-Ended g c =
    let d : DeskNow = desk_now g.L.Link.state c.args.desk.now in
    let d2 : DeskNow = desk_now g.L.Link.state c.give.new.desk in
    let seats : List History = map g.S.HasHistory.history c.args.seats.now in
    let net = g.N.Net.state c.args.net.now in
    let m = c.give.result in
    record {
      goes = record {
        placed = gave_placed d d2 (stage_now c.args.stage) c.args.at.now.0 m seats c.give.ensures.desk c.give.ensures.gives c.requires.placed;
        keeps = place_in d d2 seats net (gives_keep d d2 c.args.at.now.0 m c.give.ensures.gives).desk;
        touches = inl (refl, refl, refl, tt, tt);
        picks = to_same seats (stage_now c.args.stage);
        routed = λ back r. r;
        told = subst (λ (x : Move). DeskTells x d (stage_now c.args.stage) d2) c.in-Ended.is (gives_told d d2 (stage_now c.args.stage) c.args.at.now.0 c.give.result c.give.ensures.gives);
      };
      rooms = rooms_none g.S.HasHistory.history (room_of g.S.HasHistory.kept_from g.S.HasHistory.spare) c.args.seats.now;
      still = λ d0 s0 k. tt;
      own = λ status taken k. (gives_taken d d2 c.args.at.now.0 c.give.result c.give.ensures.gives ∙ k.0, k.1);
      decides = λ limits moment. same_moved limits moment d (stage_now c.args.stage) net d2 net;
      left = λ limits moment. tt;
      first = λ l f. absurd (idle_not c.give.result Ended (gives_fresh l d d2 (stage_now c.args.stage) c.args.at.now.0 c.give.result f c.give.ensures.gives).0 c.in-Ended.is (λ e. cc));
    }

pub returns-in-Idle : goal.returns-in-Idle
returns-in-Idle g c =
    let d : DeskNow = desk_now g.L.Link.state c.args.desk.now in
    let d2 : DeskNow = desk_now g.L.Link.state c.give.new.desk in
    let seats : List History = map g.S.HasHistory.history c.args.seats.now in
    let net = g.N.Net.state c.args.net.now in
    let m = c.give.result in
    record {
      goes = record {
        placed = gave_placed d d2 (stage_now c.args.stage) c.args.at.now.0 m seats c.give.ensures.desk c.give.ensures.gives c.requires.placed;
        keeps = place_in d d2 seats net (gives_keep d d2 c.args.at.now.0 m c.give.ensures.gives).desk;
        touches = inl (refl, refl, refl, (gives_keep d d2 c.args.at.now.0 m c.give.ensures.gives).number, tt);
        picks = (refl, kind_self (conn_seen (stage_now c.args.stage)), λ e. refl);
        routed = λ back r. r;
        told = subst (λ (x : Move). DeskTells x d (stage_now c.args.stage) d2) c.in-Idle.is (gives_told d d2 (stage_now c.args.stage) c.args.at.now.0 c.give.result c.give.ensures.gives);
      };
      rooms = rooms_none g.S.HasHistory.history (room_of g.S.HasHistory.kept_from g.S.HasHistory.spare) c.args.seats.now;
      still = λ d0 s0 k. gives_paused d0 d d2 s0 (stage_now c.args.stage) c.args.at.now.0 m (inl c.in-Idle.is) c.give.ensures.gives k;
      own = λ status taken k. (gives_taken d d2 c.args.at.now.0 c.give.result c.give.ensures.gives ∙ k.0, k.1);
      decides = λ limits moment. gives_far d d2 (stage_now c.args.stage) net c.args.at.now.0 Idle tt (subst (λ (x : Move). GivesClient d d2 c.args.at.now.0 x) c.in-Idle.is c.give.ensures.gives);
      left = λ limits moment. tt;
      first = λ l f. (gives_fresh l d d2 (stage_now c.args.stage) c.args.at.now.0 c.give.result f c.give.ensures.gives).1;
    }

pub returns-in-Waits : goal.returns-in-Waits
returns-in-Waits g c =
    let d : DeskNow = desk_now g.L.Link.state c.args.desk.now in
    let d2 : DeskNow = desk_now g.L.Link.state c.give.new.desk in
    let seats : List History = map g.S.HasHistory.history c.args.seats.now in
    let net = g.N.Net.state c.args.net.now in
    let m = c.give.result in
    record {
      goes = record {
        placed = gave_placed d d2 (stage_now c.args.stage) c.args.at.now.0 m seats c.give.ensures.desk c.give.ensures.gives c.requires.placed;
        keeps = place_in d d2 seats net (gives_keep d d2 c.args.at.now.0 m c.give.ensures.gives).desk;
        touches = inl (refl, refl, refl, (gives_keep d d2 c.args.at.now.0 m c.give.ensures.gives).number, tt);
        picks = (refl, kind_self (conn_seen (stage_now c.args.stage)), λ e. refl);
        routed = λ back r. r;
        told = subst (λ (x : Move). DeskTells x d (stage_now c.args.stage) d2) c.in-Waits.is (gives_told d d2 (stage_now c.args.stage) c.args.at.now.0 c.give.result c.give.ensures.gives);
      };
      rooms = rooms_none g.S.HasHistory.history (room_of g.S.HasHistory.kept_from g.S.HasHistory.spare) c.args.seats.now;
      still = λ d0 s0 k. gives_paused d0 d d2 s0 (stage_now c.args.stage) c.args.at.now.0 m (inr c.in-Waits.is) c.give.ensures.gives k;
      own = λ status taken k. (gives_taken d d2 c.args.at.now.0 c.give.result c.give.ensures.gives ∙ k.0, k.1);
      decides = λ limits moment. gives_far d d2 (stage_now c.args.stage) net c.args.at.now.0 Waits tt (subst (λ (x : Move). GivesClient d d2 c.args.at.now.0 x) c.in-Waits.is c.give.ensures.gives);
      left = λ limits moment. tt;
      first = λ l f. absurd (idle_not c.give.result Waits (gives_fresh l d d2 (stage_now c.args.stage) c.args.at.now.0 c.give.result f c.give.ensures.gives).0 c.in-Waits.is (λ e. cc));
    }

pub leave_or_cut-requires : goal.leave_or_cut-requires
leave_or_cut-requires g c =
    let d : DeskNow = desk_now g.L.Link.state c.args.desk.now in
    let d2 : DeskNow = desk_now g.L.Link.state c.give.new.desk in
    let seats : List History = map g.S.HasHistory.history c.args.seats.now in
    record { placed = gave_placed d d2 (stage_now c.args.stage) c.args.at.now.0 c.give.result seats c.give.ensures.desk c.give.ensures.gives c.requires.placed; fault = gave_fault d d2 c.args.at.now.0 (subst (λ (x : Move). GivesClient d d2 c.args.at.now.0 x) c.in-Failed.is c.give.ensures.gives) }

pub returns-in-Failed : goal.returns-in-Failed
returns-in-Failed g c =
    let f = g.S.HasHistory.history in
    let d : DeskNow = desk_now g.L.Link.state c.args.desk.now in
    let d2 : DeskNow = desk_now g.L.Link.state c.give.new.desk in
    let d3 : DeskNow = desk_now g.L.Link.state c.leave_or_cut.new.desk in
    let olds : List History = map f c.args.seats.now in
    let news : List History = map f c.leave_or_cut.new.seats in
    record {
      goes = goes_from_desk d d2 d3 (stage_now c.args.stage) olds news (g.N.Net.state c.args.net.now) (g.N.Net.state c.leave_or_cut.new.net) c.leave_or_cut.result
          (gives_keep d d2 c.args.at.now.0 c.give.result c.give.ensures.gives).desk (gives_keep d d2 c.args.at.now.0 c.give.result c.give.ensures.gives).number c.leave_or_cut.ensures.goes
          (subst (λ (x : Move). DeskTells x d (stage_now c.args.stage) d2) c.in-Failed.is (gives_told d d2 (stage_now c.args.stage) c.args.at.now.0 c.give.result c.give.ensures.gives));
      rooms = c.leave_or_cut.ensures.rooms;
      still = λ d0 s0 k. moved_where c.leave_or_cut.result (λ s w. IsGiven d0 s0 d3 s c.args.at.now.0) c.leave_or_cut.ensures.moved;
      own = λ status taken k. c.leave_or_cut.ensures.own status taken (gives_taken d d2 c.args.at.now.0 c.give.result c.give.ensures.gives ∙ k.0, k.1);
      decides = λ limits moment.
          let gave = subst (λ (x : Move). GivesClient d d2 c.args.at.now.0 x) c.in-Failed.is c.give.ensures.gives in
          c.leave_or_cut.ensures.decides limits moment d gave.1.1.1;
      left = c.leave_or_cut.ensures.left;
      first = λ l f. absurd (idle_not c.give.result Failed (gives_fresh l d d2 (stage_now c.args.stage) c.args.at.now.0 c.give.result f c.give.ensures.gives).0 c.in-Failed.is (λ e. cc));
    }
