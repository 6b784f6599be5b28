use Rattle.std.proofs.Common.{List, map, refl, subst, inl, inr}
use Rattle.hx_pool.specs.SeatView.{History}
use Rattle.hx_connecting.specs.Journals.{room_of}
use Rattle.hx_connecting.proofs.RoomLemmas.{rooms_none}
use Rattle.hx_session.specs.Desks.{desk_now, DeskNow}
use Rattle.hx_session.specs.Stages.{stage_now}
use Rattle.hx_session.proofs.StandingLemmas.{place_in}
use Rattle.hx_session.specs.declared.moves.Move.{Move}
use Rattle.hx_session.specs.Moves.{ReadsClient}
use Rattle.hx_session.proofs.FirstLemmas.{failed_read, read_ends, reads_fresh}
use Rattle.hx_session.proofs.TellLemmas.{DeskTells, reads_told}
use Rattle.hx_session.proofs.PartLemmas.{took_placed, goes_from_desk}
use Rattle.hx_session.proofs.ReadLemmas.{reads_keep}
use Rattle.hx_session.specs.Seen.{conn_seen}
use Rattle.hx_session.proofs.PickLemmas.{to_same, kind_self}
use Rattle.hx_session.proofs.LeavingLemmas.{took_fault}
use Rattle.hx_session.proofs.PausedLemmas.{reads_paused, moved_where}
use Rattle.hx_session.specs.Waiting.{IsUnread}
use Rattle.hx_session.proofs.DecidedLemmas.{reads_far, same_moved}
use Rattle.hx_session.specs.declared.moves.Move.TheVariants.{Idle, Waits}
use Rattle.hx_session.proofs.phases.take_some.Goals as goal

pub returns-in-Bytes : goal.returns-in-Bytes
returns-in-Bytes g c =
    let d : DeskNow = desk_now g.L.Link.state c.args.desk.now in
    let d2 : DeskNow = desk_now g.L.Link.state c.read_client.new.desk in
    let seats : List History = map g.S.HasHistory.history c.args.seats.now in
    let net = g.N.Net.state c.args.net.now in
    let m = c.read_client.result in
    record {
      goes = record {
        placed = took_placed d d2 (stage_now c.args.stage) c.args.at.now.0 m seats c.read_client.ensures.desk c.read_client.ensures.reads c.requires.wants c.requires.placed;
        keeps = place_in d d2 seats net (reads_keep d d2 c.args.at.now.0 m c.read_client.ensures.reads).desk;
        touches = inl (refl, refl, refl, tt, tt);
        picks = to_same seats (stage_now c.args.stage);
        routed = λ back r. r;
        told = subst (λ (x : Move). DeskTells x d (stage_now c.args.stage) d2) c.in-Bytes.is (reads_told d d2 (stage_now c.args.stage) c.args.at.now.0 c.read_client.result c.read_client.ensures.reads);
      };
      rooms = rooms_none g.S.HasHistory.history (room_of g.S.HasHistory.kept_from g.S.HasHistory.spare) c.args.seats.now;
      still = λ d0 s0 k. tt;
      decides = λ limits moment. same_moved limits moment d (stage_now c.args.stage) net d2 net;
      left = λ limits moment. tt;
      first = λ l f. (reads_fresh l d d2 (stage_now c.args.stage) c.args.at.now.0 c.read_client.result f c.read_client.ensures.reads).1;
    }

pub returns-in-Ended : goal.returns-in-Ended
returns-in-Ended g c =
    let d : DeskNow = desk_now g.L.Link.state c.args.desk.now in
    let d2 : DeskNow = desk_now g.L.Link.state c.read_client.new.desk in
    let seats : List History = map g.S.HasHistory.history c.args.seats.now in
    let net = g.N.Net.state c.args.net.now in
    let m = c.read_client.result in
    record {
      goes = record {
        placed = took_placed d d2 (stage_now c.args.stage) c.args.at.now.0 m seats c.read_client.ensures.desk c.read_client.ensures.reads c.requires.wants c.requires.placed;
        keeps = place_in d d2 seats net (reads_keep d d2 c.args.at.now.0 m c.read_client.ensures.reads).desk;
        touches = inl (refl, refl, refl, tt, tt);
        picks = to_same seats (stage_now c.args.stage);
        routed = λ back r. r;
        told = subst (λ (x : Move). DeskTells x d (stage_now c.args.stage) d2) c.in-Ended.is (reads_told d d2 (stage_now c.args.stage) c.args.at.now.0 c.read_client.result c.read_client.ensures.reads);
      };
      rooms = rooms_none g.S.HasHistory.history (room_of g.S.HasHistory.kept_from g.S.HasHistory.spare) c.args.seats.now;
      still = λ d0 s0 k. tt;
      decides = λ limits moment. same_moved limits moment d (stage_now c.args.stage) net d2 net;
      left = λ limits moment. tt;
      first = λ l f. (reads_fresh l d d2 (stage_now c.args.stage) c.args.at.now.0 c.read_client.result f c.read_client.ensures.reads).1;
    }

pub returns-in-Idle : goal.returns-in-Idle
returns-in-Idle g c =
    let d : DeskNow = desk_now g.L.Link.state c.args.desk.now in
    let d2 : DeskNow = desk_now g.L.Link.state c.read_client.new.desk in
    let seats : List History = map g.S.HasHistory.history c.args.seats.now in
    let net = g.N.Net.state c.args.net.now in
    let m = c.read_client.result in
    record {
      goes = record {
        placed = took_placed d d2 (stage_now c.args.stage) c.args.at.now.0 m seats c.read_client.ensures.desk c.read_client.ensures.reads c.requires.wants c.requires.placed;
        keeps = place_in d d2 seats net (reads_keep d d2 c.args.at.now.0 m c.read_client.ensures.reads).desk;
        touches = inl (refl, refl, refl, (reads_keep d d2 c.args.at.now.0 m c.read_client.ensures.reads).number, tt);
        picks = (refl, kind_self (conn_seen (stage_now c.args.stage)), λ e. refl);
        routed = λ back r. r;
        told = subst (λ (x : Move). DeskTells x d (stage_now c.args.stage) d2) c.in-Idle.is (reads_told d d2 (stage_now c.args.stage) c.args.at.now.0 c.read_client.result c.read_client.ensures.reads);
      };
      rooms = rooms_none g.S.HasHistory.history (room_of g.S.HasHistory.kept_from g.S.HasHistory.spare) c.args.seats.now;
      still = λ d0 s0 k. reads_paused d0 d d2 s0 (stage_now c.args.stage) c.args.at.now.0 m (inl c.in-Idle.is) c.read_client.ensures.reads k;
      decides = λ limits moment. reads_far d d2 (stage_now c.args.stage) net c.args.at.now.0 Idle (λ z. cc) tt (subst (λ (x : Move). ReadsClient d d2 c.args.at.now.0 x) c.in-Idle.is c.read_client.ensures.reads);
      left = λ limits moment. tt;
      first = λ l f. absurd ((reads_fresh l d d2 (stage_now c.args.stage) c.args.at.now.0 c.read_client.result f c.read_client.ensures.reads).0 c.in-Idle.is);
    }

pub returns-in-Waits : goal.returns-in-Waits
returns-in-Waits g c =
    let d : DeskNow = desk_now g.L.Link.state c.args.desk.now in
    let d2 : DeskNow = desk_now g.L.Link.state c.read_client.new.desk in
    let seats : List History = map g.S.HasHistory.history c.args.seats.now in
    let net = g.N.Net.state c.args.net.now in
    let m = c.read_client.result in
    record {
      goes = record {
        placed = took_placed d d2 (stage_now c.args.stage) c.args.at.now.0 m seats c.read_client.ensures.desk c.read_client.ensures.reads c.requires.wants c.requires.placed;
        keeps = place_in d d2 seats net (reads_keep d d2 c.args.at.now.0 m c.read_client.ensures.reads).desk;
        touches = inl (refl, refl, refl, (reads_keep d d2 c.args.at.now.0 m c.read_client.ensures.reads).number, tt);
        picks = (refl, kind_self (conn_seen (stage_now c.args.stage)), λ e. refl);
        routed = λ back r. r;
        told = subst (λ (x : Move). DeskTells x d (stage_now c.args.stage) d2) c.in-Waits.is (reads_told d d2 (stage_now c.args.stage) c.args.at.now.0 c.read_client.result c.read_client.ensures.reads);
      };
      rooms = rooms_none g.S.HasHistory.history (room_of g.S.HasHistory.kept_from g.S.HasHistory.spare) c.args.seats.now;
      still = λ d0 s0 k. reads_paused d0 d d2 s0 (stage_now c.args.stage) c.args.at.now.0 m (inr c.in-Waits.is) c.read_client.ensures.reads k;
      decides = λ limits moment. reads_far d d2 (stage_now c.args.stage) net c.args.at.now.0 Waits (λ z. cc) tt (subst (λ (x : Move). ReadsClient d d2 c.args.at.now.0 x) c.in-Waits.is c.read_client.ensures.reads);
      left = λ limits moment. tt;
      first = λ l f. ((reads_fresh l d d2 (stage_now c.args.stage) c.args.at.now.0 c.read_client.result f c.read_client.ensures.reads).1, (f.held, f.is));
    }

pub leave_or_cut-requires : goal.leave_or_cut-requires
leave_or_cut-requires g c =
    let d : DeskNow = desk_now g.L.Link.state c.args.desk.now in
    let d2 : DeskNow = desk_now g.L.Link.state c.read_client.new.desk in
    let seats : List History = map g.S.HasHistory.history c.args.seats.now in
    record { placed = took_placed d d2 (stage_now c.args.stage) c.args.at.now.0 c.read_client.result seats c.read_client.ensures.desk c.read_client.ensures.reads c.requires.wants c.requires.placed; fault = took_fault d d2 c.args.at.now.0 (subst (λ (x : Move). ReadsClient d d2 c.args.at.now.0 x) c.in-Failed.is c.read_client.ensures.reads) }

pub returns-in-Failed : goal.returns-in-Failed
returns-in-Failed g c =
    let f = g.S.HasHistory.history in
    let d : DeskNow = desk_now g.L.Link.state c.args.desk.now in
    let d2 : DeskNow = desk_now g.L.Link.state c.read_client.new.desk in
    let d3 : DeskNow = desk_now g.L.Link.state c.leave_or_cut.new.desk in
    let olds : List History = map f c.args.seats.now in
    let news : List History = map f c.leave_or_cut.new.seats in
    record {
      goes = goes_from_desk d d2 d3 (stage_now c.args.stage) olds news (g.N.Net.state c.args.net.now) (g.N.Net.state c.leave_or_cut.new.net) c.leave_or_cut.result
          (reads_keep d d2 c.args.at.now.0 c.read_client.result c.read_client.ensures.reads).desk (reads_keep d d2 c.args.at.now.0 c.read_client.result c.read_client.ensures.reads).number c.leave_or_cut.ensures.goes
          (subst (λ (x : Move). DeskTells x d (stage_now c.args.stage) d2) c.in-Failed.is (reads_told d d2 (stage_now c.args.stage) c.args.at.now.0 c.read_client.result c.read_client.ensures.reads));
      rooms = c.leave_or_cut.ensures.rooms;
      still = λ d0 s0 k. moved_where c.leave_or_cut.result (λ s w. IsUnread d0 s0 d3 s c.args.at.now.0) c.leave_or_cut.ensures.moved;
      decides = λ limits moment.
          let took = subst (λ (x : Move). ReadsClient d d2 c.args.at.now.0 x) c.in-Failed.is c.read_client.ensures.reads in
          c.leave_or_cut.ensures.decides limits moment d took.1.1.1;
      left = c.leave_or_cut.ensures.left;
      first = λ l f. read_ends l d3 c.leave_or_cut.result (c.leave_or_cut.ensures.leaves f.held f.is)
          (failed_read l d d2 d3 (stage_now c.args.stage) c.args.at.now.0 f (subst (λ (x : Move). ReadsClient d d2 c.args.at.now.0 x) c.in-Failed.is c.read_client.ensures.reads) c.leave_or_cut.ensures.goes.keeps.desk.who.client);
    }
