use Rattle.std.proofs.Common.{arith, ◌≡◌, List, map, sym, ap, ◌∙◌, subst, Some}
use Rattle.std.proofs.lemmas.List.{with_items_is}
use Rattle.std.specs.Vec.{with_items}
use Rattle.hx_config.specs.Views.{meaning}
use Rattle.hx_connecting.specs.Journals.{room_of}
use Rattle.hx_connecting.specs.Sessions.{SessionNow}
use Rattle.hx_connecting.specs.Touches.{most_marks}
use Rattle.hx_session.specs.Fits.{FitsSome}
use Rattle.hx_connecting.specs.Holds.{HoldsAt}
use Rattle.hx_worker.specs.Workers.{WorkerNow, worker_now, HasSeats}
use Rattle.hx_worker.specs.Listed.{sessions_of}
use Rattle.hx_worker.specs.Stops.{StopsNext}
use Rattle.hx_worker.proofs.Items.{above_all}
use Rattle.hx_worker.proofs.Keeping.{MayCall, may_stop}
use Rattle.hx_worker.proofs.Stepping.{StopDone, least_first, least_may, stop_done, stop_size, settled_stop, settled_rooms}
use Rattle.hx_worker.proofs.worker.Worker.stop_next.Goals as goal
use Rattle.hx_worker.proofs.worker.Worker.stop_next.Goals.{After-bury}

pub take_least-requires : goal.take_least-requires
take_least-requires g c =
    let i = c.self.inside in
    record { above = above_all 0 0 i.last i.sessions.items (omega arith) c.self.invariant.has.rise c.self.invariant.under }

may : (g : _) (c : goal.After-stop-arg-1 g)
    → MayCall (worker_now c.self.inside.thread (meaning c.self.inside.config.now) (map g.S.HasHistory.history c.self.inside.seats.items)
    (map (room_of g.S.HasHistory.kept_from g.S.HasHistory.spare) c.self.inside.seats.items) c.self.inside.turns.items c.self.inside.last (sessions_of c.self.inside.sessions.items))
    c.in-Some.session.number.0 (g.N.Net.state c.args.net.now).loop_no c.in-Some.session
may g c =
    let i = c.self.inside in let s : SessionNow = c.in-Some.session in
    let w : WorkerNow = worker_now i.thread (meaning i.config.now) (map g.S.HasHistory.history i.seats.items)
    (map (room_of g.S.HasHistory.kept_from g.S.HasHistory.spare) i.seats.items) i.turns.items i.last (sessions_of i.sessions.items) in
    let first = least_first i.sessions.items c.take_least.new.sessions.items s c.in-Some.ensures in
    least_may w s (sessions_of c.take_least.new.sessions.items) (g.N.Net.state c.args.net.now).loop_no (ap sessions_of first.1)
    (subst HasSeats (sym c.self.view_is) c.requires.seats) c.self.invariant.has
    (subst (λ (v : WorkerNow). (g.N.Net.state c.args.net.now).loop_no ≡ v.thread.0) (sym c.self.view_is) c.requires.net)

pub stop-served-requires : goal.stop-served-requires
stop-served-requires g c =
    let i = c.self.inside in let h = g.S.HasHistory.history in let s : SessionNow = c.in-Some.session in
    let w : WorkerNow = worker_now i.thread (meaning i.config.now) (map h i.seats.items)
    (map (room_of g.S.HasHistory.kept_from g.S.HasHistory.spare) i.seats.items) i.turns.items i.last (sessions_of i.sessions.items) in
    let m = may g c in record {
      fits = subst (λ (l : List g.row.S.Denot). FitsSome s (map h l)) (sym c.as_mut_slice.ensures.value)
          (may_stop w s.number.0 (g.N.Net.state c.args.net.now).loop_no s i.config.now.within.numbered m);
      holds = subst (λ (l : List g.row.S.Denot). HoldsAt s 0 (map h l)) (sym c.as_mut_slice.ensures.value) m.holds;
      net = m.net;
    }

-- what the stop of that session owes
done : (g : _) (c : After-bury g)
    → StopDone
    (worker_now c.self.inside.thread (meaning c.self.inside.config.now) (map g.S.HasHistory.history c.self.inside.seats.items)
    (map (room_of g.S.HasHistory.kept_from g.S.HasHistory.spare) c.self.inside.seats.items) c.self.inside.turns.items c.self.inside.last (sessions_of c.self.inside.sessions.items))
    (worker_now c.self.inside.thread (meaning c.self.inside.config.now) (map g.S.HasHistory.history (with_items c.self.inside.seats c.stop-served.new.seats).items)
    (map (room_of g.S.HasHistory.kept_from g.S.HasHistory.spare) (with_items c.self.inside.seats c.stop-served.new.seats).items) c.self.inside.turns.items c.self.inside.last (sessions_of c.take_least.new.sessions.items))
    c.take_least.new.sessions.items (g.N.Net.state c.args.net.now) (g.N.Net.state c.bury.new.self) (record { served = c.stop-served.result.served; left = c.stop-served.result.left })
done g c =
    let i = c.self.inside in let h = g.S.HasHistory.history in let f = room_of g.S.HasHistory.kept_from g.S.HasHistory.spare in
    let s : SessionNow = c.in-Some.session in let e = c.stop-served.ensures in
    let xs = with_items i.seats c.stop-served.new.seats in
    let a = with_items_is i.seats c.stop-served.new.seats (stop_size h c.as_mut_slice.result.now c.stop-served.new.seats e.stops.about ∙ c.as_mut_slice.ensures.len) in
    let net = g.N.Net.state c.args.net.now in let mid = g.N.Net.state c.stop-served.new.net in
    let client = g.L.Link.state c.stop-served.result.client in
    stop_done i.thread (meaning i.config.now) (map h i.seats.items) (map h xs.items) (map f i.seats.items) (map f xs.items) i.turns.items i.last
    i.sessions.items c.take_least.new.sessions.items s client net mid (g.N.Net.state c.bury.new.self) (record { served = c.stop-served.result.served; left = c.stop-served.result.left })
    c.in-Some.ensures c.self.invariant.under c.self.invariant.has
    (settled_stop h c.as_mut_slice.result.now i.seats.items c.stop-served.new.seats xs.items s client net mid (record { served = c.stop-served.result.served; left = c.stop-served.result.left })
    c.as_mut_slice.ensures.value (sym a) (record { stops = e.stops; tells = e.tells; adds = e.adds; links = e.links }))
    c.bury.ensures.buries
    (settled_rooms f most_marks c.as_mut_slice.result.now i.seats.items c.stop-served.new.seats xs.items c.as_mut_slice.ensures.value (sym a) e.journals)

pub invariant_of-self : goal.invariant_of-self
invariant_of-self g c = let d = done g c in record { under = d.under; has = d.sound }

pub returns-in-Some-clause-stops : goal.returns-in-Some-clause-stops
returns-in-Some-clause-stops g c =
    subst (λ (v : WorkerNow). StopsNext v (worker_now c.self.inside.thread (meaning c.self.inside.config.now) (map g.S.HasHistory.history (with_items c.self.inside.seats c.stop-served.new.seats).items)
    (map (room_of g.S.HasHistory.kept_from g.S.HasHistory.spare) (with_items c.self.inside.seats c.stop-served.new.seats).items) c.self.inside.turns.items c.self.inside.last (sessions_of c.take_least.new.sessions.items))
    (g.N.Net.state c.args.net.now) (g.N.Net.state c.bury.new.self) (Some (record { served = c.stop-served.result.served; left = c.stop-served.result.left }))) c.self.view_is (done g c).stops

pub returns-in-Some-clause-seats : goal.returns-in-Some-clause-seats
returns-in-Some-clause-seats g c = (done g c).seats (subst HasSeats (sym c.self.view_is) c.requires.seats)
