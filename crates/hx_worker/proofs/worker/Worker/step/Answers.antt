use Rattle.std.proofs.Common.{◌≡◌, List, map, sym, ap, ◌∙◌, subst, IsSome}
use Rattle.std.proofs.lemmas.List.{with_items_is}
use Rattle.std.specs.Option.{option_copied_mut}
use Rattle.std.specs.Vec.{with_items}
use Rattle.hx_config.specs.Limits.{all_servers}
use Rattle.hx_config.specs.Views.{meaning}
use Rattle.hx_connecting.specs.Holds.{HoldsAt}
use Rattle.hx_connecting.specs.Journals.{room_of}
use Rattle.hx_connecting.specs.Sessions.{SessionNow, around_with}
use Rattle.hx_numbered.specs.Numbers.{with_value}
use Rattle.hx_session.specs.Fits.{SeatsServe, TurnsFit}
use Rattle.hx_worker.specs.Workers.{WorkerNow, worker_now, HasSeats, session_of}
use Rattle.hx_worker.specs.Listed.{sessions_of}
use Rattle.hx_worker.specs.Steps.{Steps, StepsAt, IsTimely}
use Rattle.hx_worker.proofs.Items.{value_is, with_found}
use Rattle.hx_worker.proofs.Keeping.{may_call, none_there}
use Rattle.hx_worker.proofs.Stepping.{going_there, settled_owns, StepDone, stays_here, gone_here, taken_out, not_ended}
use Rattle.hx_worker.proofs.worker.Worker.step.Goals as goal
use Rattle.hx_worker.proofs.worker.Worker.step.Goals.{After-bury, In-Nothing}

pub unreachable-requires : goal.unreachable-requires
unreachable-requires g c =
    let i = c.self.inside in
    none_there (session_of (sessions_of i.sessions.items) c.args.n.0)
    (subst (λ (w : WorkerNow). IsSome (session_of w.sessions c.args.n.0)) (sym c.self.view_is) c.requires.there)
    (sym (value_is i.sessions.items c.args.n.0 c.self.invariant.under) ∙ (sym c.get_mut.ensures.value ∙ ap option_copied_mut c.in_default.is))

pub step-step-requires : goal.step-step-requires
step-step-requires g c =
    let i = c.self.inside in let h = g.S.HasHistory.history in let s : SessionNow = c.in-Some.session.now in
    let w : WorkerNow = worker_now i.thread (meaning i.config.now) (map h i.seats.items)
    (map (room_of g.S.HasHistory.kept_from g.S.HasHistory.spare) i.seats.items) i.turns.items i.last (sessions_of i.sessions.items) in
    let m = may_call w c.args.n.0 (g.N.Net.state c.args.net.now).loop_no s
    (subst HasSeats (sym c.self.view_is) c.requires.seats) c.self.invariant.has
    (sym (value_is i.sessions.items c.args.n.0 c.self.invariant.under) ∙ sym c.in-Some.ensures.value)
    (subst (λ (v : WorkerNow). (g.N.Net.state c.args.net.now).loop_no ≡ v.thread.0) (sym c.self.view_is) c.requires.net) in
    record {
      going = λ over. m.going;
      turns = subst (λ l. TurnsFit (meaning i.config.now) l) (sym c.as_mut_slice-2.ensures.value) c.self.invariant.has.turns;
      seats = subst (λ (l : List g.row.S.Denot). SeatsServe s.worker (map h l) (all_servers i.config.now.backs)) (sym c.as_mut_slice.ensures.value) m.serve;
      holds = subst (λ (l : List g.row.S.Denot). HoldsAt s 0 (map h l)) (sym c.as_mut_slice.ensures.value) m.holds;
      net = m.net;
    }

pub unreachable-requires-in_default-remove : goal.unreachable-requires-in_default-remove
unreachable-requires-in_default-remove g c =
    let is = with_found c.self.inside.sessions.items c.args.n.0 c.in-Some.session.now c.step-step.new.self (sym c.in-Some.ensures.value) in
    let none = sym c.in_default-remove.is ∙ (c.remove.ensures.value ∙ is) in
    cc

pub end-requires : goal.end-requires
end-requires g c =
    ap (λ (s : SessionNow). s.over)
    (taken_out c.self.inside.sessions.items c.args.n.0 c.in-Some.session.now c.step-step.new.self c.in-Some-remove.session c.in-Some.ensures.value c.in-Some-remove.ensures.value)
    ∙ c.step-step.ensures.ended.0 c.in-Ended.is

-- where the session goes on
on : (g : _) (c : In-Nothing g)
    → StepDone (λ s a m. IsTimely (meaning c.self.inside.config.now) s a (around_with (map g.S.HasHistory.history c.self.inside.seats.items) c.self.inside.turns.items (g.N.Net.state c.args.net.now)) (around_with (map g.S.HasHistory.history (with_items c.self.inside.seats c.step-step.new.seats).items) (with_items c.self.inside.turns c.step-step.new.turns).items m) c.args.now.0 c.step-step.result) (worker_now c.self.inside.thread (meaning c.self.inside.config.now) (map g.S.HasHistory.history c.self.inside.seats.items)
    (map (room_of g.S.HasHistory.kept_from g.S.HasHistory.spare) c.self.inside.seats.items) c.self.inside.turns.items c.self.inside.last (sessions_of c.self.inside.sessions.items))
    (worker_now c.self.inside.thread (meaning c.self.inside.config.now) (map g.S.HasHistory.history (with_items c.self.inside.seats c.step-step.new.seats).items)
    (map (room_of g.S.HasHistory.kept_from g.S.HasHistory.spare) (with_items c.self.inside.seats c.step-step.new.seats).items) (with_items c.self.inside.turns c.step-step.new.turns).items c.self.inside.last (sessions_of (with_value c.self.inside.sessions.items c.args.n.0 c.step-step.new.self)))
    (with_value c.self.inside.sessions.items c.args.n.0 c.step-step.new.self) (g.N.Net.state c.args.net.now) (g.N.Net.state c.step-step.new.net) c.args.n c.step-step.result
on g c =
    let i = c.self.inside in let h = g.S.HasHistory.history in let f = room_of g.S.HasHistory.kept_from g.S.HasHistory.spare in let e = c.step-step.ensures in
    let xs = with_items i.seats c.step-step.new.seats in let ts = with_items i.turns c.step-step.new.turns in
    let a = with_items_is i.seats c.step-step.new.seats (e.sizes.0 ∙ c.as_mut_slice.ensures.len) in
    let b = with_items_is i.turns c.step-step.new.turns (e.sizes.1 ∙ c.as_mut_slice-2.ensures.len) in
    let going = going_there i.sessions.items c.args.n.0 c.in-Some.session.now _ (meaning i.config.now) c.self.invariant.under c.self.invariant.has c.in-Some.ensures.value in
    stays_here (λ s a m. IsTimely (meaning c.self.inside.config.now) s a (around_with (map g.S.HasHistory.history c.self.inside.seats.items) c.self.inside.turns.items (g.N.Net.state c.args.net.now)) (around_with (map g.S.HasHistory.history (with_items c.self.inside.seats c.step-step.new.seats).items) (with_items c.self.inside.turns c.step-step.new.turns).items m) c.args.now.0 c.step-step.result) h f i.thread (meaning i.config.now) i.last i.sessions.items c.as_mut_slice.result.now i.seats.items c.step-step.new.seats xs.items
    c.as_mut_slice-2.result.now i.turns.items c.step-step.new.turns ts.items (g.N.Net.state c.args.net.now) (g.N.Net.state c.step-step.new.net) c.args.n c.step-step.result
    c.in-Some.session.now c.step-step.new.self c.as_mut_slice.ensures.value c.as_mut_slice-2.ensures.value (sym a) (sym b) c.in-Some.ensures.value
    (record { same = e.same; adds = e.adds; links = e.links; chooses = e.chooses; tells = e.tells; keeps = e.keeps; ended = e.ended; turns = e.turns; going = e.going; left = e.left; holds = e.holds; serve = e.seats })
    e.journals c.self.invariant.under c.self.invariant.has (record {
      first = e.first;
      owns = settled_owns (meaning i.config.now) c.in-Some.session.now c.step-step.new.self _ _ _ _ (g.N.Net.state c.args.net.now) (g.N.Net.state c.step-step.new.net) c.args.now.0 c.step-step.result.served
          (ap (map h) c.as_mut_slice.ensures.value) (ap (map h) (sym a)) (e.owns going);
      cuts = e.cuts going;
      leaves = e.leaves going;
      stands = λ still. e.stands still going;
    }) (not_ended c.step-step.result.waits c.in-Nothing.is)

-- where it is gone
off : (g : _) (c : After-bury g)
    → StepDone (λ s a m. IsTimely (meaning c.self.inside.config.now) s a (around_with (map g.S.HasHistory.history c.self.inside.seats.items) c.self.inside.turns.items (g.N.Net.state c.args.net.now)) (around_with (map g.S.HasHistory.history (with_items c.self.inside.seats c.step-step.new.seats).items) (with_items c.self.inside.turns c.step-step.new.turns).items m) c.args.now.0 c.step-step.result) (worker_now c.self.inside.thread (meaning c.self.inside.config.now) (map g.S.HasHistory.history c.self.inside.seats.items)
    (map (room_of g.S.HasHistory.kept_from g.S.HasHistory.spare) c.self.inside.seats.items) c.self.inside.turns.items c.self.inside.last (sessions_of c.self.inside.sessions.items))
    (worker_now c.self.inside.thread (meaning c.self.inside.config.now) (map g.S.HasHistory.history (with_items c.self.inside.seats c.step-step.new.seats).items)
    (map (room_of g.S.HasHistory.kept_from g.S.HasHistory.spare) (with_items c.self.inside.seats c.step-step.new.seats).items) (with_items c.self.inside.turns c.step-step.new.turns).items c.self.inside.last (sessions_of c.remove.new.self.items))
    c.remove.new.self.items (g.N.Net.state c.args.net.now) (g.N.Net.state c.bury.new.self) c.args.n c.step-step.result
off g c =
    let i = c.self.inside in let h = g.S.HasHistory.history in let f = room_of g.S.HasHistory.kept_from g.S.HasHistory.spare in let e = c.step-step.ensures in
    let xs = with_items i.seats c.step-step.new.seats in let ts = with_items i.turns c.step-step.new.turns in
    let a = with_items_is i.seats c.step-step.new.seats (e.sizes.0 ∙ c.as_mut_slice.ensures.len) in
    let b = with_items_is i.turns c.step-step.new.turns (e.sizes.1 ∙ c.as_mut_slice-2.ensures.len) in
    let going = going_there i.sessions.items c.args.n.0 c.in-Some.session.now _ (meaning i.config.now) c.self.invariant.under c.self.invariant.has c.in-Some.ensures.value in
    gone_here (λ s a m. IsTimely (meaning c.self.inside.config.now) s a (around_with (map g.S.HasHistory.history c.self.inside.seats.items) c.self.inside.turns.items (g.N.Net.state c.args.net.now)) (around_with (map g.S.HasHistory.history (with_items c.self.inside.seats c.step-step.new.seats).items) (with_items c.self.inside.turns c.step-step.new.turns).items m) c.args.now.0 c.step-step.result) h f i.thread (meaning i.config.now) i.last i.sessions.items c.as_mut_slice.result.now i.seats.items c.step-step.new.seats xs.items
    c.as_mut_slice-2.result.now i.turns.items c.step-step.new.turns ts.items (g.N.Net.state c.args.net.now) (g.N.Net.state c.step-step.new.net) c.args.n c.step-step.result
    c.in-Some.session.now c.step-step.new.self c.as_mut_slice.ensures.value c.as_mut_slice-2.ensures.value (sym a) (sym b) c.in-Some.ensures.value
    (record { same = e.same; adds = e.adds; links = e.links; chooses = e.chooses; tells = e.tells; keeps = e.keeps; ended = e.ended; turns = e.turns; going = e.going; left = e.left; holds = e.holds; serve = e.seats })
    e.journals c.self.invariant.under c.self.invariant.has (record {
      first = e.first;
      owns = settled_owns (meaning i.config.now) c.in-Some.session.now c.step-step.new.self _ _ _ _ (g.N.Net.state c.args.net.now) (g.N.Net.state c.step-step.new.net) c.args.now.0 c.step-step.result.served
          (ap (map h) c.as_mut_slice.ensures.value) (ap (map h) (sym a)) (e.owns going);
      cuts = e.cuts going;
      leaves = e.leaves going;
      stands = λ still. e.stands still going;
    })
    c.remove.new.self.items (g.N.Net.state c.bury.new.self) (g.L.Link.state c.end.result) c.in-Ended.is c.remove.ensures.rest
    (c.end.ensures
    ∙ ap (λ (s : SessionNow). s.client)
    (taken_out i.sessions.items c.args.n.0 c.in-Some.session.now c.step-step.new.self c.in-Some-remove.session c.in-Some.ensures.value c.in-Some-remove.ensures.value))
    c.bury.ensures.buries

pub invariant_of-self : goal.invariant_of-self
invariant_of-self g c = let d = off g c in record { under = d.under; has = d.sound }

pub invariant_of-self-in-Nothing : goal.invariant_of-self-in-Nothing
invariant_of-self-in-Nothing g c = let d = on g c in record { under = d.under; has = d.sound }

pub returns-in-Some-remove-clause-steps : goal.returns-in-Some-remove-clause-steps
returns-in-Some-remove-clause-steps g c =
    subst (λ (v : WorkerNow). Steps v (worker_now c.self.inside.thread (meaning c.self.inside.config.now) (map g.S.HasHistory.history (with_items c.self.inside.seats c.step-step.new.seats).items)
    (map (room_of g.S.HasHistory.kept_from g.S.HasHistory.spare) (with_items c.self.inside.seats c.step-step.new.seats).items) (with_items c.self.inside.turns c.step-step.new.turns).items c.self.inside.last (sessions_of c.remove.new.self.items))
    (g.N.Net.state c.args.net.now) (g.N.Net.state c.bury.new.self) c.args.n c.step-step.result) c.self.view_is (off g c).steps

pub returns-in-Some-remove-clause-timely : goal.returns-in-Some-remove-clause-timely
returns-in-Some-remove-clause-timely g c =
    subst (λ (v : WorkerNow). StepsAt v (worker_now c.self.inside.thread (meaning c.self.inside.config.now) (map g.S.HasHistory.history (with_items c.self.inside.seats c.step-step.new.seats).items)
    (map (room_of g.S.HasHistory.kept_from g.S.HasHistory.spare) (with_items c.self.inside.seats c.step-step.new.seats).items) (with_items c.self.inside.turns c.step-step.new.turns).items c.self.inside.last (sessions_of c.remove.new.self.items))
    (g.N.Net.state c.args.net.now) (g.N.Net.state c.bury.new.self) c.args.n c.args.now.0 c.step-step.result) c.self.view_is ((off g c).steps, (off g c).timely)

pub returns-in-Some-remove-clause-seats : goal.returns-in-Some-remove-clause-seats
returns-in-Some-remove-clause-seats g c = (off g c).seats (subst HasSeats (sym c.self.view_is) c.requires.seats)

pub returns-in-Nothing : goal.returns-in-Nothing
returns-in-Nothing g c = record {
  steps = subst (λ (v : WorkerNow). Steps v (worker_now c.self.inside.thread (meaning c.self.inside.config.now) (map g.S.HasHistory.history (with_items c.self.inside.seats c.step-step.new.seats).items)
      (map (room_of g.S.HasHistory.kept_from g.S.HasHistory.spare) (with_items c.self.inside.seats c.step-step.new.seats).items) (with_items c.self.inside.turns c.step-step.new.turns).items c.self.inside.last (sessions_of (with_value c.self.inside.sessions.items c.args.n.0 c.step-step.new.self)))
      (g.N.Net.state c.args.net.now) (g.N.Net.state c.step-step.new.net) c.args.n c.step-step.result) c.self.view_is (on g c).steps;
  timely = subst (λ (v : WorkerNow). StepsAt v (worker_now c.self.inside.thread (meaning c.self.inside.config.now) (map g.S.HasHistory.history (with_items c.self.inside.seats c.step-step.new.seats).items)
      (map (room_of g.S.HasHistory.kept_from g.S.HasHistory.spare) (with_items c.self.inside.seats c.step-step.new.seats).items) (with_items c.self.inside.turns c.step-step.new.turns).items c.self.inside.last (sessions_of (with_value c.self.inside.sessions.items c.args.n.0 c.step-step.new.self)))
      (g.N.Net.state c.args.net.now) (g.N.Net.state c.step-step.new.net) c.args.n c.args.now.0 c.step-step.result) c.self.view_is ((on g c).steps, (on g c).timely);
  seats = (on g c).seats (subst HasSeats (sym c.self.view_is) c.requires.seats);
}
