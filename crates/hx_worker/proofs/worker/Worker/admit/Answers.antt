use Rattle.std.proofs.Common.{◌≡◌, ◌+◌, ◌<◌, List, ℕ, [], ◌∷◌, ◌++◌, length, map, refl, sym, ap, ◌∙◌, subst, arith}
use Rattle.std.proofs.lemmas.List.{length-map}
use Rattle.hx_base.specs.declared.numbers.SessionNo.{SessionNo}
use Rattle.hx_config.specs.Views.{meaning}
use Rattle.hx_connecting.specs.Journals.{room_of}
use Rattle.hx_connecting.specs.Sessions.{SessionNow, admitted}
use Rattle.hx_numbered.specs.Numbers.{AreBelow}
use Rattle.hx_worker.specs.Workers.{WorkerNow, worker_now, HasSessions, HasSeats, last_number}
use Rattle.hx_worker.specs.Admitting.{IsAdmissible}
use Rattle.hx_worker.specs.Listed.{sessions_of, AreUnderTheirs}
use Rattle.hx_worker.proofs.Items.{numbered, below_next, more_under, more_sessions}
use Rattle.hx_worker.proofs.Coming.{admit_sessions, admit_seats}
use Rattle.hx_worker.proofs.worker.Worker.admit.Goals as goal
use Rattle.hx_worker.proofs.worker.Worker.admit.Goals.{After-insert_reserved}

pub insert_reserved-requires-clause-greatest : goal.insert_reserved-requires-clause-greatest
insert_reserved-requires-clause-greatest g c =
    let i = c.self.inside in
    subst (λ (l : List (ℕ × SessionNow)). AreBelow l (i.last + 1)) (sym c.reserve.ensures.items)
    (below_next 0 i.last (i.last + 1) i.sessions.items (omega arith) c.self.invariant.has.rise c.self.invariant.under)

-- the sessions with one more
more : (g : _) (c : After-insert_reserved g)
    → c.insert_reserved.new.self.items ≡ c.self.inside.sessions.items ++ (c.self.inside.last + 1, admitted c.self.inside.thread (numbered (c.self.inside.last + 1)) c.args.front c.args.now.0 (g.L.Link.state c.args.client)) ∷ []
more g c =
    let i = c.self.inside in
    c.insert_reserved.ensures.items
    ∙ (ap (λ (l : List (ℕ × SessionNow)). l ++ (i.last + 1, c.in-Ok.session) ∷ []) c.reserve.ensures.items
    ∙ ap (λ (s : SessionNow). i.sessions.items ++ (i.last + 1, s) ∷ []) c.in-Ok.ensures.begins)

pub invariant_of-self-in-Ok : goal.invariant_of-self-in-Ok
invariant_of-self-in-Ok g c =
    let S = g.S.HasHistory in let i = c.self.inside in let config = meaning i.config.now in
    let hs = map S.history i.seats.items in let js = map (room_of S.kept_from S.spare) i.seats.items in
    let n : SessionNo = numbered (i.last + 1) in let client = g.L.Link.state c.args.client in
    let a : SessionNow = admitted i.thread n c.args.front c.args.now.0 client in
    let w : WorkerNow = worker_now i.thread config hs js i.turns.items i.last (sessions_of i.sessions.items) in
    let fresh = subst (λ (v : WorkerNow). IsAdmissible v client c.args.front) (sym c.self.view_is) c.requires.fresh in
    let size = length-map i.sessions.items (λ (x : ℕ × SessionNow). x.1) in
    let count = c.len.ensures.count in let room = c.if-len-ge-MOST_SESSIONS.false in let most = c.self.invariant.has.most in let left = c.if-self.false in
    let few : length (sessions_of i.sessions.items) < 1024 = omega arith in
    let some : i.last < last_number = omega arith in
    record {
      under = subst AreUnderTheirs (sym (more g c)) (more_under i.sessions.items (i.last + 1) a refl c.self.invariant.under);
      has = subst (λ (l : List SessionNow). HasSessions (worker_now i.thread config hs js i.turns.items (i.last + 1) l))
          (sym (ap sessions_of (more g c) ∙ more_sessions i.sessions.items (i.last + 1) a))
          (admit_sessions i.config.now.threads w client c.args.front c.args.now n fresh refl i.config.now.within few some c.self.invariant.has);
    }

pub returns-in-Ok-clause-seats : goal.returns-in-Ok-clause-seats
returns-in-Ok-clause-seats g c = λ seats.
    let S = g.S.HasHistory in let i = c.self.inside in let config = meaning i.config.now in
    let hs = map S.history i.seats.items in let js = map (room_of S.kept_from S.spare) i.seats.items in
    let n : SessionNo = numbered (i.last + 1) in let client = g.L.Link.state c.args.client in
    let a : SessionNow = admitted i.thread n c.args.front c.args.now.0 client in
    let w : WorkerNow = worker_now i.thread config hs js i.turns.items i.last (sessions_of i.sessions.items) in
    let fresh = subst (λ (v : WorkerNow). IsAdmissible v client c.args.front) (sym c.self.view_is) c.requires.fresh in
    subst (λ (l : List SessionNow). HasSeats (worker_now i.thread config hs js i.turns.items (i.last + 1) l))
    (sym (ap sessions_of (more g c) ∙ more_sessions i.sessions.items (i.last + 1) a))
    (admit_seats i.config.now.threads w client c.args.front c.args.now n fresh refl (subst HasSeats (sym c.self.view_is) seats))
