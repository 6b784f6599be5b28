use Rattle.std.proofs.Common.{◌∙◌, List, map, sym, ap, subst}
use Rattle.hx_config.specs.Limits.{all_servers}
use Rattle.hx_pool.specs.SeatView.{History}
use Rattle.hx_connecting.specs.Holds.{HoldsAt}
use Rattle.hx_base.specs.declared.numbers.SessionNo.{SessionNo}
use Rattle.hx_connecting.specs.Sessions.{SessionNow, around_with}
use Rattle.hx_session.specs.Desks.{desk_now, DeskNow}
use Rattle.hx_session.specs.Fits.{IsGoing, SeatsServe}
use Rattle.hx_session.specs.Stages.{StageNow, stage_now}
use Rattle.hx_session.specs.Over.{left_of}
use Rattle.hx_session.specs.Telling.{StopTold}
use Rattle.hx_link.specs.Told.{LinkState}
use Rattle.hx_record.specs.declared.served.LeftCause.{LeftCause}
use Rattle.hx_session.proofs.EntryLemmas.{entry_all}
use Rattle.hx_session.proofs.ToldLemmas.{StopsAt, sound_one, stop_told}
use Rattle.hx_connecting.specs.Journals.{room_of}
use Rattle.hx_connecting.proofs.AddingLemmas.{holds_stand}
use Rattle.hx_connecting.proofs.RoomLemmas.{rooms_both, rooms_stay}
use Rattle.hx_link.specs.Nets.{NetState}
use Rattle.hx_session.specs.Linking.{StopLinks}
use Rattle.hx_session.specs.Parting.{LetsGo}
use Rattle.hx_session.proofs.LinkLemmas.{stop_links}
use Rattle.hx_session.specs.Marking.{AddsMarks}
use Rattle.hx_session.specs.Parting.{first_of}
use Rattle.hx_session.proofs.PartingLemmas.{adds_marks, parted, leaves_then}
use Rattle.hx_session.specs.declared.stage.Came.TheVariants.{Ends}
use Rattle.hx_session.proofs.session.Session.stop.Goals as goal

pub stop_stage-cause-requires : goal.stop_stage-cause-requires
stop_stage-cause-requires g c =
    let d : DeskNow = desk_now g.L.Link.state c.self.inside.desk in
    let s : StageNow = stage_now c.self.inside.stage in
    let seats : List History = map g.S.HasHistory.history c.args.seats.now in
    let fits = c.requires.fits in
    let same = sym c.self.view_is in
    let going = subst (λ (x : SessionNow). IsGoing fits.config x) same fits.going in
    let serves = subst (λ (x : SessionNow). SeatsServe x.worker seats (all_servers fits.config.backs)) same fits.serves in
    let holds = subst (λ (x : SessionNow). HoldsAt x 0 seats) same c.requires.holds in
    record { placed = entry_all fits.config c.self.inside.front d s seats fits.numbered c.self.invariant going serves holds }

pub returns-clause-tells : goal.returns-clause-tells
returns-clause-tells g c =
    let f = g.S.HasHistory.history in
    let d : DeskNow = desk_now g.L.Link.state c.self.inside.desk in
    let d1 : DeskNow = desk_now g.L.Link.state c.stop_stage-cause.new.desk in
    let d2 : DeskNow = desk_now g.L.Link.state c.let_go.new.desk in
    let s : StageNow = stage_now c.self.inside.stage in
    let news : List History = map f c.let_go.new.seats in
    let stage = c.stop_stage-cause.ensures in
    let gone = c.let_go.ensures in
    let front = c.self.inside.front in
    let some = sound_one d s c.self.invariant (ap (λ (x : SessionNow). x.over) c.self.view_is ∙ c.requires.fits.going.going) in
    let at : StopsAt d d1 d2 news c.leave-left.result = record {
      who = (gone.keeps.who.worker ∙ stage.keeps.desk.who.worker, gone.keeps.who.session ∙ stage.keeps.desk.who.session);
      desk = gone.desk;
      client = record {
        taken = ap (λ (l : LinkState). l.taken) gone.client;
        sent = ap (λ (l : LinkState). l.sent) gone.client;
        ended = ap (λ (l : LinkState). l.told_end) gone.client;
      };
      finished = ap (λ (l : LinkState). l.finished) gone.client;
      gone = gone.gone;
      end = c.leave-left.ensures ∙ ap (λ (w : LeftCause). left_of d2 w) stage.cause;
    } in
    subst (λ (x : SessionNow). StopTold x d2.client c.leave-left.result c.stop_stage-cause.result.served) c.self.view_is
    (stop_told front d d1 d2 s news c.stop_stage-cause.result.served c.leave-left.result some at stage.told)

pub returns-clause-links : goal.returns-clause-links
returns-clause-links g c = λ turns.
    let f = g.S.HasHistory.history in
    let d : DeskNow = desk_now g.L.Link.state c.self.inside.desk in
    let d1 : DeskNow = desk_now g.L.Link.state c.stop_stage-cause.new.desk in
    let d2 : DeskNow = desk_now g.L.Link.state c.let_go.new.desk in
    let s : StageNow = stage_now c.self.inside.stage in
    let news : List History = map f c.let_go.new.seats in
    let stage = c.stop_stage-cause.ensures in
    let gone = c.let_go.ensures in
    let front = c.self.inside.front in
    let some = sound_one d s c.self.invariant (ap (λ (x : SessionNow). x.over) c.self.view_is ∙ c.requires.fits.going.going) in
    let at : StopsAt d d1 d2 news c.leave-left.result = record {
      who = (gone.keeps.who.worker ∙ stage.keeps.desk.who.worker, gone.keeps.who.session ∙ stage.keeps.desk.who.session);
      desk = gone.desk;
      client = record {
        taken = ap (λ (l : LinkState). l.taken) gone.client;
        sent = ap (λ (l : LinkState). l.sent) gone.client;
        ended = ap (λ (l : LinkState). l.told_end) gone.client;
      };
      finished = ap (λ (l : LinkState). l.finished) gone.client;
      gone = gone.gone;
      end = c.leave-left.ensures ∙ ap (λ (w : LeftCause). left_of d2 w) stage.cause;
    } in
    let hs : List History = map f c.args.seats.now in
    let s1 : List History = map f c.stop_stage-cause.new.seats in
    let n0 : NetState = g.N.Net.state c.args.net.now in
    let n1 : NetState = g.N.Net.state c.stop_stage-cause.new.net in
    let n2 : NetState = g.N.Net.state c.let_go.new.net in
    let ending = c.stop_stage-cause.result in
    let fits = c.requires.fits in
    let same = sym c.self.view_is in
    let going = subst (λ (x : SessionNow). IsGoing fits.config x) same fits.going in
    let serves = subst (λ (x : SessionNow). SeatsServe x.worker hs (all_servers fits.config.backs)) same fits.serves in
    let holds = subst (λ (x : SessionNow). HoldsAt x 0 hs) same c.requires.holds in
    let placed = entry_all fits.config front d s hs fits.numbered c.self.invariant going serves holds in
    let go = subst (λ (n : SessionNo). LetsGo n ending.held s1 news n1 n2 d1.client d2.client) stage.keeps.desk.who.session gone.closes in
    let records = (stop_told front d d1 d2 s news ending.served c.leave-left.result some at stage.told).records in
    subst (λ (x : SessionNow). StopLinks x d2.client (around_with hs turns n0) (around_with news turns n2) ending.served c.leave-left.result) c.self.view_is
    (stop_links front d s turns hs s1 news n0 n1 n2 ending.served c.leave-left.result ending.held d1.client d2.client (gone.keeps.loop_no ∙ stage.keeps.loop_no) placed.set.around stage.closes go records)

pub returns-clause-adds : goal.returns-clause-adds
returns-clause-adds g c =
    let f = g.S.HasHistory.history in
    let d : DeskNow = desk_now g.L.Link.state c.self.inside.desk in
    let d1 : DeskNow = desk_now g.L.Link.state c.stop_stage-cause.new.desk in
    let s : StageNow = stage_now c.self.inside.stage in
    let hs : List History = map f c.args.seats.now in
    let s1 : List History = map f c.stop_stage-cause.new.seats in
    let s2 : List History = map f c.let_go.new.seats in
    let n0 : NetState = g.N.Net.state c.args.net.now in
    let n1 : NetState = g.N.Net.state c.stop_stage-cause.new.net in
    let ending = c.stop_stage-cause.result in
    let k = c.stop_stage-cause.ensures in
    let all = holds_stand c.args.self.worker c.args.self.number c.args.self.conn 0 hs c.requires.holds in
    let p = parted d d1 s hs s1 n0 n1 (Ends ending) all k.touches in
    let w = leaves_then d d1 s ending hs s1 s2 n0 n1 (g.N.Net.state c.let_go.new.net) d1.client (g.L.Link.state c.let_go.new.desk.client) k.keeps.desk.who.worker k.keeps.desk.who.session k.leaving.around c.let_go.ensures.closes p in
    subst (λ (x : SessionNow). AddsMarks x hs s2) c.self.view_is (adds_marks c.self.inside.front d s hs s2 (w.touch, w.at))

pub returns-clause-journals : goal.returns-clause-journals
returns-clause-journals g c =
    let f = g.S.HasHistory.history in
    let d : DeskNow = desk_now g.L.Link.state c.self.inside.desk in
    let d1 : DeskNow = desk_now g.L.Link.state c.stop_stage-cause.new.desk in
    let s : StageNow = stage_now c.self.inside.stage in
    let hs : List History = map f c.args.seats.now in
    let s1 : List History = map f c.stop_stage-cause.new.seats in
    let s2 : List History = map f c.let_go.new.seats in
    let n0 : NetState = g.N.Net.state c.args.net.now in
    let n1 : NetState = g.N.Net.state c.stop_stage-cause.new.net in
    let ending = c.stop_stage-cause.result in
    let k = c.stop_stage-cause.ensures in
    let all = holds_stand c.args.self.worker c.args.self.number c.args.self.conn 0 hs c.requires.holds in
    let p = parted d d1 s hs s1 n0 n1 (Ends ending) all k.touches in
    let w = leaves_then d d1 s ending hs s1 s2 n0 n1 (g.N.Net.state c.let_go.new.net) d1.client (g.L.Link.state c.let_go.new.desk.client) k.keeps.desk.who.worker k.keeps.desk.who.session k.leaving.around c.let_go.ensures.closes p in
    let r = room_of g.S.HasHistory.kept_from g.S.HasHistory.spare in
    let a = c.args.seats.now in
    let b = c.stop_stage-cause.new.seats in
    let e = c.let_go.new.seats in
    rooms_stay f r d.worker d.session (first_of d) w.touch 0 a e w.at.added (rooms_both f r a b e k.rooms c.let_go.ensures.rooms) w.at.adds
