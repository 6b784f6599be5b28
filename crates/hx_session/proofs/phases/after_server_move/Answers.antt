use Rattle.std.proofs.Common.{◌≡◌, List, map, refl, sym, subst, inl}
use Rattle.hx_link.specs.Nets.{NetState}
use Rattle.hx_pool.specs.SeatView.{History}
use Rattle.hx_session.specs.declared.moves.Move.{Move}
use Rattle.hx_session.specs.declared.moves.Move.TheVariants.{Idle, Bytes, Ended, Waits, Failed}
use Rattle.hx_session.specs.Desks.{desk_now, DeskNow}
use Rattle.hx_session.specs.Exchanged.{exchange_now, ExchangeNow}
use Rattle.hx_session.specs.Stages.{Exchanging}
use Rattle.hx_session.specs.Telling.{MoveTells}
use Rattle.hx_session.proofs.OwnLemmas.{gateway_text}
use Rattle.hx_session.proofs.StandingLemmas.{desk_none, place_in}
use Rattle.hx_session.proofs.TellLemmas.{came_then, still_same}
use Rattle.hx_connecting.specs.Journals.{room_of}
use Rattle.hx_connecting.proofs.RoomLemmas.{rooms_none}
use Rattle.hx_session.specs.declared.stage.Stage.TheVariants.{Exchanging as On}
use Rattle.hx_session.proofs.PartLemmas.{goes_moved, still_keeps}
use Rattle.hx_session.proofs.StaysLemmas.{keeps_any}
use Rattle.hx_session.specs.Seen.{conn_seen}
use Rattle.hx_session.proofs.PickLemmas.{kind_self}
use Rattle.hx_session.proofs.DecidedLemmas.{exchange_moved, failed_decides}
use Rattle.hx_session.specs.Decided.{IsQuiet}
use Rattle.hx_session.proofs.phases.after_server_move.Goals as goal

idle_good : (m : Move) → m ≡ Idle → m ≡ Failed → ⊥
idle_good m e f = cc

waits_good : (m : Move) → m ≡ Waits → m ≡ Failed → ⊥
waits_good m e f = cc

bytes_good : (m : Move) → m ≡ Bytes → m ≡ Failed → ⊥
bytes_good m e f = cc

ended_good : (m : Move) → m ≡ Ended → m ≡ Failed → ⊥
ended_good m e f = cc

pub lose_server-requires-clause-known : goal.lose_server-requires-clause-known
lose_server-requires-clause-known g c = gateway_text

pub returns-in-Failed-clause-told : goal.returns-in-Failed-clause-told
returns-in-Failed-clause-told g c = λ d e t.
    let d1 : DeskNow = desk_now g.L.Link.state c.args.desk.now in
    let d2 : DeskNow = desk_now g.L.Link.state c.lose_server.new.desk in
    let e1 : ExchangeNow = exchange_now c.args.exchange in
    came_then d d1 d2 (Exchanging e) (Exchanging e1) c.lose_server.result (subst (λ (m : Move). MoveTells m d e d1 e1) c.in-Failed.is t) c.lose_server.ensures.goes.told

pub returns-in-Idle-clause-goes : goal.returns-in-Idle-clause-goes
returns-in-Idle-clause-goes g c =
    let d : DeskNow = desk_now g.L.Link.state c.args.desk.now in
    let seats : List History = map g.S.HasHistory.history c.args.seats.now in
    let net : NetState = g.N.Net.state c.args.net.now in
    record {
      placed = record { set = c.requires.set; good = c.requires.good (idle_good c.args.call.0 c.in-Idle.is) };
      keeps = place_in d d seats net (desk_none d);
      touches = inl (refl, refl, refl, refl, tt);
      picks = (refl, kind_self (conn_seen (Exchanging (exchange_now c.args.exchange))), λ e. refl);
      routed = λ back r. r;
      told = still_same d (Exchanging (exchange_now c.args.exchange));
    }

pub returns-in-Waits-clause-goes : goal.returns-in-Waits-clause-goes
returns-in-Waits-clause-goes g c =
    let d : DeskNow = desk_now g.L.Link.state c.args.desk.now in
    let seats : List History = map g.S.HasHistory.history c.args.seats.now in
    let net : NetState = g.N.Net.state c.args.net.now in
    record {
      placed = record { set = c.requires.set; good = c.requires.good (waits_good c.args.call.0 c.in-Waits.is) };
      keeps = place_in d d seats net (desk_none d);
      touches = inl (refl, refl, refl, refl, tt);
      picks = (refl, kind_self (conn_seen (Exchanging (exchange_now c.args.exchange))), λ e. refl);
      routed = λ back r. r;
      told = still_same d (Exchanging (exchange_now c.args.exchange));
    }

pub returns-in-Bytes-clause-rooms : goal.returns-in-Bytes-clause-rooms
returns-in-Bytes-clause-rooms g c = rooms_none g.S.HasHistory.history (room_of g.S.HasHistory.kept_from g.S.HasHistory.spare) c.args.seats.now

pub returns-in-Ended-clause-rooms : goal.returns-in-Ended-clause-rooms
returns-in-Ended-clause-rooms g c = rooms_none g.S.HasHistory.history (room_of g.S.HasHistory.kept_from g.S.HasHistory.spare) c.args.seats.now

pub returns-in-Idle-clause-rooms : goal.returns-in-Idle-clause-rooms
returns-in-Idle-clause-rooms g c = rooms_none g.S.HasHistory.history (room_of g.S.HasHistory.kept_from g.S.HasHistory.spare) c.args.seats.now

pub returns-in-Waits-clause-rooms : goal.returns-in-Waits-clause-rooms
returns-in-Waits-clause-rooms g c = rooms_none g.S.HasHistory.history (room_of g.S.HasHistory.kept_from g.S.HasHistory.spare) c.args.seats.now

pub returns-in-Failed-clause-keeps : goal.returns-in-Failed-clause-keeps
returns-in-Failed-clause-keeps g c = λ d e t.
    let d1 : DeskNow = desk_now g.L.Link.state c.args.desk.now in
    let e1 : ExchangeNow = exchange_now c.args.exchange in
    keeps_any c.lose_server.result e.busy e1.busy (still_keeps d d1 e e1 (subst (λ (m : Move). MoveTells m d e d1 e1) c.in-Failed.is t))

pub returns-in-Idle-clause-keeps : goal.returns-in-Idle-clause-keeps
returns-in-Idle-clause-keeps g c = λ d e t.
    let d1 : DeskNow = desk_now g.L.Link.state c.args.desk.now in
    let e1 : ExchangeNow = exchange_now c.args.exchange in
    still_keeps d d1 e e1 (subst (λ (m : Move). MoveTells m d e d1 e1) c.in-Idle.is t)

pub returns-in-Waits-clause-keeps : goal.returns-in-Waits-clause-keeps
returns-in-Waits-clause-keeps g c = λ d e t.
    let d1 : DeskNow = desk_now g.L.Link.state c.args.desk.now in
    let e1 : ExchangeNow = exchange_now c.args.exchange in
    still_keeps d d1 e e1 (subst (λ (m : Move). MoveTells m d e d1 e1) c.in-Waits.is t)

pub returns-in-Bytes-clause-goes : goal.returns-in-Bytes-clause-goes
returns-in-Bytes-clause-goes g c =
    let d : DeskNow = desk_now g.L.Link.state c.args.desk.now in
    let seats : List History = map g.S.HasHistory.history c.args.seats.now in
    goes_moved d (On c.args.exchange) c.args.call.1.waits seats (g.N.Net.state c.args.net.now) (record { set = c.requires.set; good = c.requires.good (bytes_good c.args.call.0 c.in-Bytes.is) })

pub returns-in-Ended-clause-goes : goal.returns-in-Ended-clause-goes
returns-in-Ended-clause-goes g c =
    let d : DeskNow = desk_now g.L.Link.state c.args.desk.now in
    let seats : List History = map g.S.HasHistory.history c.args.seats.now in
    goes_moved d (On c.args.exchange) c.args.call.1.waits seats (g.N.Net.state c.args.net.now) (record { set = c.requires.set; good = c.requires.good (ended_good c.args.call.0 c.in-Ended.is) })

pub returns-in-Bytes-clause-decides : goal.returns-in-Bytes-clause-decides
returns-in-Bytes-clause-decides g c = λ limits moment d e far. exchange_moved limits moment d e (exchange_now c.args.exchange) (g.N.Net.state c.args.net.now) (desk_now g.L.Link.state c.args.desk.now) (g.N.Net.state c.args.net.now)

pub returns-in-Ended-clause-decides : goal.returns-in-Ended-clause-decides
returns-in-Ended-clause-decides g c = λ limits moment d e far. exchange_moved limits moment d e (exchange_now c.args.exchange) (g.N.Net.state c.args.net.now) (desk_now g.L.Link.state c.args.desk.now) (g.N.Net.state c.args.net.now)

pub returns-in-Idle-clause-decides : goal.returns-in-Idle-clause-decides
returns-in-Idle-clause-decides g c = λ limits moment d e far. far (subst IsQuiet (sym c.in-Idle.is) tt)

pub returns-in-Waits-clause-decides : goal.returns-in-Waits-clause-decides
returns-in-Waits-clause-decides g c = λ limits moment d e far. far (subst IsQuiet (sym c.in-Waits.is) tt)

pub returns-in-Failed-clause-decides : goal.returns-in-Failed-clause-decides
returns-in-Failed-clause-decides g c = λ limits moment d e far.
    let d1 : DeskNow = desk_now g.L.Link.state c.args.desk.now in
    let d2 : DeskNow = desk_now g.L.Link.state c.lose_server.new.desk in
    let e1 : ExchangeNow = exchange_now c.args.exchange in
    let net : NetState = g.N.Net.state c.args.net.now in
    failed_decides limits moment d d1 d2 e e1 net (g.N.Net.state c.lose_server.new.net) c.lose_server.result c.requires.set.stands (c.requires.failed c.in-Failed.is) (far (subst IsQuiet (sym c.in-Failed.is) tt)) c.lose_server.ensures.loses
