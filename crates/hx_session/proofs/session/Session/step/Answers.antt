use Rattle.hx_connecting.specs.Choosing.{back_no}
use Rattle.std.proofs.Common.{◌≡◌, Some, ◌∙◌, ◌<◌, arith, get_or, ℕ, List, length, map, refl, sym, ap, subst, true, None, ⊎_elim, inl, inr, ◌⊎◌}
use Rattle.std.proofs.lemmas.List.{length-map}
use Rattle.hx_config.specs.declared.config.Config.{Config}
use Rattle.hx_config.specs.declared.parts.Back.{Back}
use Rattle.hx_config.specs.Limits.{all_servers}
use Rattle.hx_config.specs.Views.{meaning}
use Rattle.hx_pool.specs.SeatView.{History}
use Rattle.hx_connecting.specs.Choice.{HaveSeats}
use Rattle.hx_connecting.specs.Holds.{HoldsAt}
use Rattle.hx_connecting.specs.Sessions.{SessionNow, Around, around_with}
use Rattle.hx_session.specs.declared.stage.Stage.{Stage}
use Rattle.hx_session.specs.Desks.{desk_now, DeskNow}
use Rattle.hx_session.specs.Fits.{IsGoing, SeatsServe}
use Rattle.hx_session.specs.Stages.{StageNow, stage_now}
use Rattle.hx_session.specs.Standing.{IsPlaced, IsRoutedTo}
use Rattle.std.specs.List.{slice_set}
use Rattle.hx_link.specs.Nets.{NetState}
use Rattle.hx_connecting.specs.Ways.{SomeWay}
use Rattle.hx_session.specs.declared.step.Step.{Step}
use Rattle.hx_session.specs.Linking.{StepLinks}
use Rattle.hx_session.proofs.LinkLemmas.{step_links}
use Rattle.hx_session.proofs.ExitLemmas.{done_comes, done_going, done_holds, done_same, over_same, turns_set}
use Rattle.hx_session.specs.Doings.{IsSameSession}
use Rattle.hx_session.proofs.StepLemmas.{Enters, enters, goes_on_here, serves_on, turn_here}
use Rattle.hx_session.specs.Seen.{conn_seen, session_seen}
use Rattle.hx_session.specs.Telling.{DoneTells, StepTold}
use Rattle.hx_session.proofs.ToldLemmas.{sound_one, step_told}
use Rattle.hx_connecting.specs.Journals.{room_of}
use Rattle.hx_connecting.proofs.AddingLemmas.{nothing, adds_no_touch, holds_stand}
use Rattle.hx_connecting.proofs.RoomLemmas.{rooms_none, rooms_stay}
use Rattle.hx_session.specs.Marking.{AddsMarks}
use Rattle.hx_session.specs.Parting.{first_of, outcome_of}
use Rattle.hx_session.proofs.PartingLemmas.{adds_marks, no_marks}
use Rattle.hx_connecting.specs.Sessions.{around_with}
use Rattle.std.specs.List.{slice_set}
use Rattle.hx_link.specs.Nets.{NetState}
use Rattle.hx_session.specs.declared.step.Step.{Step}
use Rattle.hx_session.specs.Picked.{StepPicks}
use Rattle.hx_session.specs.Picking.{PicksAll}
use Rattle.hx_session.proofs.ChosenLemmas.{step_picks}
use Rattle.hx_session.proofs.EntryLemmas.{below}
use Rattle.hx_base.specs.declared.numbers.Millis.{Millis}
use Rattle.std.specs.Prelude.{Option}
use Rattle.hx_session.specs.Causes.{CanBeLate, HasCome}
use Rattle.hx_session.specs.First.{IsFresh}
use Rattle.hx_session.specs.Fits.{limits_of}
use Rattle.hx_session.specs.Steps.{IsNew, ReadsFirst}
use Rattle.hx_session.proofs.FirstLemmas.{limits_are, new_fresh}
use Rattle.std.specs.Prelude.{IfSome}
use Rattle.hx_session.specs.Causes.{Limits, LeavesFor}
use Rattle.hx_session.specs.Fits.{limits_with}
use Rattle.hx_session.specs.Leaving.{LeavesBy}
use Rattle.hx_session.proofs.LeavingLemmas.{leaves_for_cause, limits_same}
use Rattle.hx_session.specs.Deciding.{KeepsOwn, LacksIn, OwnsAs}
use Rattle.hx_session.specs.Owning.{DoneOwn, OwnAt}
use Rattle.hx_session.proofs.OwningLemmas.{keeps_own}
use Rattle.hx_session.specs.Standstill.{Stands}
use Rattle.hx_session.specs.Waiting.{StandsStill}
use Rattle.hx_session.proofs.IdleLemmas.{stands_so}
use Rattle.hx_session.proofs.ExitLemmas.{done_stands}
use Rattle.hx_session.proofs.DecidedLemmas.{cuts_for, never_own, owns_for, owns_map}
use Rattle.hx_session.specs.Decided.{DoneDecides, HasLack, limits_in, terms_of}
use Rattle.hx_session.specs.Deciding.{CutsAllFor}
use Rattle.hx_session.proofs.session.Session.step.Goals as goal

pub advance-stage-requires : goal.advance-stage-requires
advance-stage-requires g c =
    let f = g.S.HasHistory.history in
    let d : DeskNow = desk_now g.L.Link.state c.self.inside.desk in
    let s : StageNow = stage_now c.self.inside.stage in
    let seats : List History = map f c.args.seats.now in
    let config = c.args.config.now in
    let scene = c.scene_of-scene.result in
    let b : Back = scene.back.now in
    let same = sym c.self.view_is in
    let going = subst (λ (x : SessionNow). IsGoing (meaning config) x) same (c.requires.going (goes_on_here c.args.self.now.over (λ e. c.if-is_over.ensures.1 e))) in
    let serves = subst (λ (x : SessionNow). SeatsServe x.worker seats (all_servers config.backs)) same c.requires.seats in
    let holds = subst (λ (x : SessionNow). HoldsAt x 0 seats) same c.requires.holds in
    let e : Enters b (length (all_servers config.backs)) d s seats =
    enters config.threads (meaning config) c.self.inside.front d s seats scene.front.now b config.within c.scene_of-scene.ensures.front c.scene_of-scene.ensures.back c.self.invariant going serves holds in
    let count = length-map c.args.seats.now f in
    record {
      few = e.few;
      turn = turn_here (meaning config) c.args.turns.now scene.front.now.back b c.requires.turns c.scene_of-scene.ensures.back e.some;
      seats = subst (λ (n : ℕ). HaveSeats b.servers n) count e.have;
      servers = sym count ∙ (e.all ∙ ap (λ (x : Config). length (all_servers x.backs)) (sym c.scene_of-scene.ensures.config));
      placed = subst (λ (x : Stage g.row.L.Denot). IsPlaced d (stage_now x) seats) (sym c.replace-stage.ensures.value) e.placed;
      routed = subst (λ (x : Stage g.row.L.Denot). IsRoutedTo b (stage_now x)) (sym c.replace-stage.ensures.value) e.routed;
      loop_ = c.requires.net ∙ ap (λ (x : SessionNow). x.worker.0) same;
    }

pub returns-clause-turns : goal.returns-clause-turns
returns-clause-turns g c =
    let scene = c.scene_of-scene.result in
    turns_set (meaning c.args.config.now) c.args.turns.now scene.front.now.back c.advance-stage.new.turn scene.back.now c.requires.turns c.scene_of-scene.ensures.back c.advance-stage.ensures.turn

pub returns-clause-going : goal.returns-clause-going
returns-clause-going g c =
    let f = g.S.HasHistory.history in
    let d : DeskNow = desk_now g.L.Link.state c.self.inside.desk in
    let d2 : DeskNow = desk_now g.L.Link.state c.advance-stage.new.desk in
    let olds : List History = map f c.args.seats.now in
    let news : List History = map f c.advance-stage.new.seats in
    let config = c.args.config.now in
    let done = c.advance-stage.result in
    let keeps = c.advance-stage.ensures.keeps in
    let serves = subst (λ (x : SessionNow). SeatsServe x.worker olds (all_servers config.backs)) (sym c.self.view_is) c.requires.seats in
    done_going (meaning config) c.self.inside.front d2 (stage_now done.stage) news done.waits done.left c.scene_of-scene.result.front.now c.scene_of-scene.result.back.now
    c.scene_of-scene.ensures.front c.scene_of-scene.ensures.back c.advance-stage.ensures.done c.advance-stage.ensures.routed
    (serves_on d.worker d2.worker olds news (all_servers config.backs) keeps.who.worker keeps.about serves)

pub returns-clause-seats : goal.returns-clause-seats
returns-clause-seats g c =
    let f = g.S.HasHistory.history in
    let keeps = c.advance-stage.ensures.keeps in
    serves_on c.args.self.now.worker c.args.self.now.worker (map f c.args.seats.now) (map f c.advance-stage.new.seats) (all_servers c.args.config.now.backs) refl keeps.about c.requires.seats

pub returns-clause-tells : goal.returns-clause-tells
returns-clause-tells g c = λ going.
    let f = g.S.HasHistory.history in
    let d : DeskNow = desk_now g.L.Link.state c.self.inside.desk in
    let d2 : DeskNow = desk_now g.L.Link.state c.advance-stage.new.desk in
    let s : StageNow = stage_now c.self.inside.stage in
    let news : List History = map f c.advance-stage.new.seats in
    let front = c.self.inside.front in
    let done = c.advance-stage.result in
    let some = sound_one d s c.self.invariant (ap (λ (x : SessionNow). x.over) c.self.view_is ∙ going) in
    let told = subst (λ (x : Stage g.row.L.Denot). DoneTells d (stage_now x) d2 (stage_now done.stage) done.served done.left) c.replace-stage.ensures.value c.advance-stage.ensures.told in
    subst (λ (x : SessionNow). StepTold x (session_seen front d2 (stage_now done.stage)) done.left done.served) c.self.view_is
    (step_told front d d2 s (stage_now done.stage) news done.waits done.served done.left some told c.advance-stage.ensures.done)

pub returns-clause-adds : goal.returns-clause-adds
returns-clause-adds g c =
    let f = g.S.HasHistory.history in
    let d : DeskNow = desk_now g.L.Link.state c.self.inside.desk in
    let s : StageNow = stage_now c.self.inside.stage in
    let olds : List History = map f c.args.seats.now in
    let news : List History = map f c.advance-stage.new.seats in
    let w = c.advance-stage.ensures.touches in
    subst (λ (x : SessionNow). AddsMarks x olds news) c.self.view_is (adds_marks c.self.inside.front d s olds news (w.touch, w.at))

pub returns-clause-journals : goal.returns-clause-journals
returns-clause-journals g c =
    let f = g.S.HasHistory.history in
    let d : DeskNow = desk_now g.L.Link.state c.self.inside.desk in
    let t = c.advance-stage.ensures.touches in
    rooms_stay f (room_of g.S.HasHistory.kept_from g.S.HasHistory.spare) d.worker d.session (first_of d) t.touch 0 c.args.seats.now c.advance-stage.new.seats t.at.added c.advance-stage.ensures.rooms t.at.adds

pub returns-then-is_over-clause-adds : goal.returns-then-is_over-clause-adds
returns-then-is_over-clause-adds g c =
    let s = c.args.self.now in
    let seats : List History = map g.S.HasHistory.history c.args.seats.now in
    no_marks s seats (holds_stand s.worker s.number s.conn 0 seats c.requires.holds)

pub returns-then-is_over-clause-journals : goal.returns-then-is_over-clause-journals
returns-then-is_over-clause-journals g c =
    let f = g.S.HasHistory.history in
    let r = room_of g.S.HasHistory.kept_from g.S.HasHistory.spare in
    let s = c.args.self.now in
    let seats : List History = map f c.args.seats.now in
    rooms_stay f r s.worker s.number true None 0 c.args.seats.now c.args.seats.now (nothing seats) (rooms_none f r c.args.seats.now)
    (adds_no_touch s.worker s.number true seats (holds_stand s.worker s.number s.conn 0 seats c.requires.holds))

pub returns-clause-links : goal.returns-clause-links
returns-clause-links g c = λ goes.
    let f = g.S.HasHistory.history in
    let front = c.self.inside.front in
    let d : DeskNow = desk_now g.L.Link.state c.self.inside.desk in
    let d2 : DeskNow = desk_now g.L.Link.state c.advance-stage.new.desk in
    let s : StageNow = stage_now c.self.inside.stage in
    let done = c.advance-stage.result in
    let s2 : StageNow = stage_now done.stage in
    let olds : List History = map f c.args.seats.now in
    let news : List History = map f c.advance-stage.new.seats in
    let net : NetState = g.N.Net.state c.args.net.now in
    let net2 : NetState = g.N.Net.state c.advance-stage.new.net in
    let keeps = c.advance-stage.ensures.keeps in
    let config = c.args.config.now in
    let value = c.replace-stage.ensures.value in
    let same = sym c.self.view_is in
    let going = subst (λ (x : SessionNow). IsGoing (meaning config) x) same (c.requires.going goes) in
    let serves = subst (λ (x : SessionNow). SeatsServe x.worker olds (all_servers config.backs)) same c.requires.seats in
    let holds = subst (λ (x : SessionNow). HoldsAt x 0 olds) same c.requires.holds in
    let scene = c.scene_of-scene.result in
    let e : Enters scene.back.now (length (all_servers config.backs)) d s olds =
    enters config.threads (meaning config) front d s olds scene.front.now scene.back.now config.within c.scene_of-scene.ensures.front c.scene_of-scene.ensures.back c.self.invariant going serves holds in
    let r : Step = record { moved = done.moved; waits = done.waits; served = done.served; left = done.left } in
    let before : Around = around_with olds c.args.turns.now net in
    let after : Around = around_with news (slice_set c.args.turns.now scene.front.now.back c.advance-stage.new.turn) net2 in
    let w = subst (λ (x : Stage g.row.L.Denot). SomeWay d.worker d.session (first_of d) (conn_seen (stage_now x)) (conn_seen s2) (outcome_of s2) olds news net net2 done.served) value c.advance-stage.ensures.touches in
    let some = sound_one d s c.self.invariant going.going in
    let told = subst (λ (x : Stage g.row.L.Denot). DoneTells d (stage_now x) d2 (stage_now done.stage) done.served done.left) value c.advance-stage.ensures.told in
    let records = (step_told front d d2 s s2 news done.waits done.served done.left some told c.advance-stage.ensures.done).records in
    subst (λ (x : SessionNow). StepLinks x (session_seen front d2 s2) before after r) c.self.view_is
    (step_links front d d2 s s2 before after r keeps.who.worker keeps.who.session keeps.loop_no e.placed.set.own
    (done_holds d2 s2 news done.waits done.left c.advance-stage.ensures.done) (done_comes front d2 s2 news done.waits done.left c.advance-stage.ensures.done) w records)

pub returns-clause-chooses : goal.returns-clause-chooses
returns-clause-chooses g c = λ going.
    let f = g.S.HasHistory.history in
    let d : DeskNow = desk_now g.L.Link.state c.self.inside.desk in
    let d2 : DeskNow = desk_now g.L.Link.state c.advance-stage.new.desk in
    let s : StageNow = stage_now c.self.inside.stage in
    let olds : List History = map f c.args.seats.now in
    let news : List History = map f c.advance-stage.new.seats in
    let config = c.args.config.now in
    let scene = c.scene_of-scene.result in
    let done = c.advance-stage.result in
    let turns = c.args.turns.now in
    let holds = subst (λ (x : SessionNow). HoldsAt x 0 olds) (sym c.self.view_is) c.requires.holds in
    let place = scene.front.now.back in
    let turn' = c.advance-stage.new.turn in
    let front = c.self.inside.front in
    let net : NetState = g.N.Net.state c.args.net.now in
    let net2 : NetState = g.N.Net.state c.advance-stage.new.net in
    let low : place < length turns = omega (arith, below config.backs place scene.back.now c.scene_of-scene.ensures.back, c.requires.turns.count) in
    let r : Step = record { moved = done.moved; waits = done.waits; served = done.served; left = done.left } in
    let picks = subst (λ (x : Stage g.row.L.Denot). PicksAll scene.back.now.servers (get_or turns place 0) turn' (stage_now x) olds (stage_now done.stage) news) c.replace-stage.ensures.value c.advance-stage.ensures.picks in
    subst (λ (x : SessionNow). StepPicks (meaning config) x (session_seen front d2 (stage_now done.stage)) (around_with olds turns net) (around_with news (slice_set turns place turn') net2) r) c.self.view_is
    (step_picks (meaning config) front d d2 s (stage_now done.stage) scene.front.now scene.back.now turns turn' olds news net net2 r c.scene_of-scene.ensures.front c.scene_of-scene.ensures.back low holds picks)

pub returns-clause-same : goal.returns-clause-same
returns-clause-same g c =
    let f = g.S.HasHistory.history in
    let front = c.self.inside.front in
    let d : DeskNow = desk_now g.L.Link.state c.self.inside.desk in
    let d2 : DeskNow = desk_now g.L.Link.state c.advance-stage.new.desk in
    let s : StageNow = stage_now c.self.inside.stage in
    let done = c.advance-stage.result in
    let s2 : StageNow = stage_now done.stage in
    let news : List History = map f c.advance-stage.new.seats in
    let keeps = c.advance-stage.ensures.keeps in
    let going = c.requires.going (goes_on_here c.args.self.now.over (λ e. c.if-is_over.ensures.1 e)) in
    let loop = subst (λ (x : SessionNow). x.client.on_loop ≡ Some x.worker.0) (sym c.self.view_is) going.loops.client in
    record {
      session = subst (λ (x : SessionNow). IsSameSession x (session_seen front d2 s2)) c.self.view_is
          (done_same front d d2 s s2 news done.waits done.left keeps.who loop c.advance-stage.ensures.done);
      about = keeps.about;
      loop_no = keeps.loop_no;
    }

pub returns-then-is_over-clause-same : goal.returns-then-is_over-clause-same
returns-then-is_over-clause-same g c =
    let d : DeskNow = desk_now g.L.Link.state c.self.inside.desk in
    let s : StageNow = stage_now c.self.inside.stage in
    let over = ap (λ (x : SessionNow). x.over) c.self.view_is ∙ c.if-is_over.ensures.0 refl in
    record {
      session = subst (λ (x : SessionNow). IsSameSession x x) c.self.view_is (over_same c.self.inside.front d s c.self.invariant over);
      about = refl;
      loop_no = refl;
    }

pub returns-clause-first : goal.returns-clause-first
returns-clause-first g c = λ n.
    let front = c.self.inside.front in
    let d : DeskNow = desk_now g.L.Link.state c.self.inside.desk in
    let d2 : DeskNow = desk_now g.L.Link.state c.advance-stage.new.desk in
    let s : StageNow = stage_now c.self.inside.stage in
    let s2 : StageNow = stage_now c.advance-stage.result.stage in
    let config = c.args.config.now in
    let now = c.args.now.0 in
    let scene = c.scene_of-scene in
    let new = new_fresh front d s c.self.invariant (subst (λ (x : SessionNow). IsNew x) (sym c.self.view_is) n) in
    let fresh = subst (λ (x : Stage g.row.L.Denot). IsFresh d.client d (stage_now x)) (sym c.replace-stage.ensures.value) new.0 in
    let limits = limits_are (meaning config) front scene.result.front.now scene.result.back.now scene.ensures.front scene.ensures.back in
    subst (λ (x : SessionNow). ReadsFirst x (session_seen front d2 s2) ⊎ CanBeLate (limits_of (meaning config) x.front).client x now) c.self.view_is
    (⊎_elim (λ a. inl a) (λ b. inr (subst (λ (o : Option Millis). HasCome o d.since.0 now) (sym limits) (subst (λ (m : Millis). HasCome scene.result.front.now.client d.since.0 m.0) scene.ensures.now b))) (c.advance-stage.ensures.first fresh new.1))

pub returns-clause-leaves : goal.returns-clause-leaves
returns-clause-leaves g c = λ going.
    let front = c.self.inside.front in
    let d : DeskNow = desk_now g.L.Link.state c.self.inside.desk in
    let d2 : DeskNow = desk_now g.L.Link.state c.advance-stage.new.desk in
    let s : StageNow = stage_now c.self.inside.stage in
    let done = c.advance-stage.result in
    let s2 : StageNow = stage_now done.stage in
    let config = c.args.config.now in
    let now = c.args.now.0 in
    let scene = c.scene_of-scene in
    let told = subst (λ (x : Stage g.row.L.Denot). DoneTells d (stage_now x) d2 (stage_now done.stage) done.served done.left) c.replace-stage.ensures.value c.advance-stage.ensures.told in
    let left = subst (λ (m : Millis). IfSome done.left (λ l. LeavesBy (limits_with (Some scene.result.front.now) (Some scene.result.back.now)) m.0 d2 l.cause)) scene.ensures.now c.advance-stage.ensures.left in
    let limits = limits_same (meaning config) front scene.result.front.now scene.result.back.now scene.ensures.front scene.ensures.back in
    subst (λ (x : SessionNow). IfSome done.left (λ l. LeavesFor (limits_of (meaning config) x.front) x (session_seen front d2 s2) done.served now l.cause)) c.self.view_is
    (subst (λ (k : Limits). IfSome done.left (λ l. LeavesFor k (session_seen front d s) (session_seen front d2 s2) done.served now l.cause)) (sym limits)
    (leaves_for_cause (limits_with (Some scene.result.front.now) (Some scene.result.back.now)) now front d d2 s s2 done.served done.left c.advance-stage.ensures.keeps.who.since told left))

pub returns-clause-keeps : goal.returns-clause-keeps
returns-clause-keeps g c = λ going.
    let front = c.self.inside.front in
    let d : DeskNow = desk_now g.L.Link.state c.self.inside.desk in
    let d2 : DeskNow = desk_now g.L.Link.state c.advance-stage.new.desk in
    let s : StageNow = stage_now c.self.inside.stage in
    let done = c.advance-stage.result in
    let s2 : StageNow = stage_now done.stage in
    let own = subst (λ (x : Stage g.row.L.Denot). (status taken : ℕ) → OwnAt status taken d (stage_now x) → DoneOwn status taken d2 s2 done.served) c.replace-stage.ensures.value c.advance-stage.ensures.own in
    subst (λ (x : SessionNow). KeepsOwn x (session_seen front d2 s2) done.served) c.self.view_is (keeps_own front d d2 s s2 done.served own)

pub returns-clause-stands : goal.returns-clause-stands
returns-clause-stands g c = λ still going.
    let front = c.self.inside.front in
    let d : DeskNow = desk_now g.L.Link.state c.self.inside.desk in
    let d2 : DeskNow = desk_now g.L.Link.state c.advance-stage.new.desk in
    let s : StageNow = stage_now c.self.inside.stage in
    let done = c.advance-stage.result in
    let s2 : StageNow = stage_now done.stage in
    let news : List History = map g.S.HasHistory.history c.advance-stage.new.seats in
    let now = c.args.now.0 in
    let k = subst (λ (m : Millis). StandsStill d s d2 s2 m.0) c.scene_of-scene.ensures.now (subst (λ (x : Stage g.row.L.Denot). StandsStill d (stage_now x) d2 s2 c.scene_of-scene.result.now.0) c.replace-stage.ensures.value (c.advance-stage.ensures.still still)) in
    subst (λ (x : SessionNow). Stands x (session_seen front d2 s2) now) c.self.view_is
    (stands_so front d d2 s s2 now (done_stands d d2 s s2 news done.waits done.left now k c.advance-stage.ensures.done) k)

pub returns-clause-owns : goal.returns-clause-owns
returns-clause-owns g c = λ going.
    let front = c.self.inside.front in
    let d : DeskNow = desk_now g.L.Link.state c.self.inside.desk in
    let d2 : DeskNow = desk_now g.L.Link.state c.advance-stage.new.desk in
    let s : StageNow = stage_now c.self.inside.stage in
    let done = c.advance-stage.result in
    let s2 : StageNow = stage_now done.stage in
    let net : NetState = g.N.Net.state c.args.net.now in
    let net2 : NetState = g.N.Net.state c.advance-stage.new.net in
    let config = c.args.config.now in
    let now = c.args.now.0 in
    let scene = c.scene_of-scene in
    let those = terms_of (limits_with (Some scene.result.front.now) (Some scene.result.back.now)) c.advance-stage.ensures.decides.0 in
    let k = subst (λ (m : Millis). DoneDecides those m.0 d s net d2 s2 net2 done.served) scene.ensures.now (subst (λ (x : Stage g.row.L.Denot). DoneDecides those scene.result.now.0 d (stage_now x) net d2 s2 net2 done.served) c.replace-stage.ensures.value c.advance-stage.ensures.decides.1) in
    let limits = limits_same (meaning config) front scene.result.front.now scene.result.back.now scene.ensures.front scene.ensures.back in
    let told = subst (λ (x : Stage g.row.L.Denot). DoneTells d (stage_now x) d2 s2 done.served done.left) c.replace-stage.ensures.value c.advance-stage.ensures.told in
    let f = g.S.HasHistory.history in
    let lacks = LacksIn (meaning config) front (map f c.args.seats.now) (map f c.advance-stage.new.seats) net net2 in
    subst (λ (x : SessionNow). OwnsAs (limits_of (meaning config) x.front) (LacksIn (meaning config) x.front (map f c.args.seats.now) (map f c.advance-stage.new.seats) net net2) x (session_seen front d2 s2) net net2 now done.served) c.self.view_is
    (subst (λ (l : Limits). OwnsAs l lacks (session_seen front d s) (session_seen front d2 s2) net net2 now done.served) (sym limits)
    (owns_map (limits_in those) (HasLack those.lack) lacks (session_seen front d s) (session_seen front d2 s2) net net2 now done.served
    (λ u h. (scene.result.front.now.back, scene.result.back.now, ap back_no scene.ensures.front, scene.ensures.back, c.advance-stage.ensures.decides.2 u h))
    (owns_for those now front d d2 s s2 net net2 done.served (never_own d d2 s s2 done.served done.left told) k)))

pub returns-clause-cuts : goal.returns-clause-cuts
returns-clause-cuts g c = λ going.
    let front = c.self.inside.front in
    let d : DeskNow = desk_now g.L.Link.state c.self.inside.desk in
    let d2 : DeskNow = desk_now g.L.Link.state c.advance-stage.new.desk in
    let s : StageNow = stage_now c.self.inside.stage in
    let done = c.advance-stage.result in
    let s2 : StageNow = stage_now done.stage in
    let net : NetState = g.N.Net.state c.args.net.now in
    let net2 : NetState = g.N.Net.state c.advance-stage.new.net in
    let config = c.args.config.now in
    let now = c.args.now.0 in
    let scene = c.scene_of-scene in
    let those = terms_of (limits_with (Some scene.result.front.now) (Some scene.result.back.now)) c.advance-stage.ensures.decides.0 in
    let k = subst (λ (m : Millis). DoneDecides those m.0 d s net d2 s2 net2 done.served) scene.ensures.now (subst (λ (x : Stage g.row.L.Denot). DoneDecides those scene.result.now.0 d (stage_now x) net d2 s2 net2 done.served) c.replace-stage.ensures.value c.advance-stage.ensures.decides.1) in
    let limits = limits_same (meaning config) front scene.result.front.now scene.result.back.now scene.ensures.front scene.ensures.back in
    subst (λ (x : SessionNow). CutsAllFor (limits_of (meaning config) x.front) x (session_seen front d2 s2) net net2 now done.served) c.self.view_is
    (subst (λ (l : Limits). CutsAllFor l (session_seen front d s) (session_seen front d2 s2) net net2 now done.served) (sym limits) (cuts_for those now front d d2 s s2 net net2 done.served k))
