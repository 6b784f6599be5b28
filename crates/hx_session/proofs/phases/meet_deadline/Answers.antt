use Rattle.std.proofs.Common.{List, map, refl, sym, ap, subst, inl, ◌∙◌}
use Rattle.hx_link.specs.Nets.{NetState}
use Rattle.hx_pool.specs.SeatView.{History}
use Rattle.hx_session.specs.Desks.{desk_now, DeskNow}
use Rattle.hx_session.specs.Stages.{StageNow, stage_now}
use Rattle.hx_session.specs.Standing.{IsPlaced}
use Rattle.hx_session.specs.Telling.{IsStillTold}
use Rattle.hx_session.proofs.StandingLemmas.{desk_is, place_in}
use Rattle.hx_session.proofs.TellLemmas.{still_same}
use Rattle.hx_connecting.specs.Journals.{room_of}
use Rattle.hx_connecting.proofs.RoomLemmas.{rooms_none}
use Rattle.hx_session.specs.Seen.{conn_seen}
use Rattle.hx_session.proofs.PickLemmas.{kind_self}
use Rattle.hx_session.proofs.FirstLemmas.{fresh_desk}
use Rattle.hx_session.proofs.DecidedLemmas.{far_same}
use Rattle.hx_session.proofs.phases.meet_deadline.Goals as goal

pub returns-in-None : goal.returns-in-None
returns-in-None g c =
    let d : DeskNow = desk_now g.L.Link.state c.args.desk.now in
    let d2 : DeskNow = desk_now g.L.Link.state c.find_late.new.desk in
    let s : StageNow = stage_now c.args.stage in
    let seats : List History = map g.S.HasHistory.history c.args.seats.now in
    let net : NetState = g.N.Net.state c.args.net.now in
    let same = c.find_late.ensures.same in
    record {
      goes = record {
        placed = subst (λ (x : DeskNow). IsPlaced x s seats) (sym same) c.requires.placed;
        keeps = place_in d d2 seats net (desk_is d d2 same);
        touches = inl (refl, refl, refl, ap (λ (x : DeskNow). x.number) same, tt);
        picks = (refl, kind_self (conn_seen (stage_now c.args.stage)), λ e. refl);
        routed = λ back r. r;
        told = subst (λ (x : DeskNow). IsStillTold d s x s) (sym same) (still_same d s);
      };
      rooms = rooms_none g.S.HasHistory.history (room_of g.S.HasHistory.kept_from g.S.HasHistory.spare) c.args.seats.now;
      own = λ status taken k. (ap (λ (x : DeskNow). x.client.taken_count) same ∙ k.0, k.1);
      left = tt;
      still = (same, refl);
      decides = λ lack. far_same d d2 s s net same refl;
      first = λ f one. inl (fresh_desk (g.L.Link.state c.args.desk.now.client) d d2 s same f);
    }
