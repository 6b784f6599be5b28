use Rattle.std.proofs.Common.{List, ℕ, length, map, replicate, sym, ap, ◌∙◌, subst}
use Rattle.hx_config.specs.Views.{meaning}
use Rattle.hx_config.specs.declared.parts.Back.{Back}
use Rattle.hx_connecting.specs.Journals.{room_of}
use Rattle.hx_connecting.specs.Sessions.{SessionNow}
use Rattle.hx_worker.specs.Workers.{worker_now, HasSessions}
use Rattle.hx_worker.specs.Listed.{sessions_of, AreUnderTheirs}
use Rattle.hx_worker.proofs.Coming.{new_sessions}
use Rattle.hx_worker.proofs.worker.Worker.new.Goals as goal

pub invariant_of-result : goal.invariant_of-result
invariant_of-result g c =
    let S = g.S.HasHistory in let config = meaning c.args.config.now in let turns = c.in_ok-turns.turns.items in
    let hs = map S.history c.args.seats.items in let js = map (room_of S.kept_from S.spare) c.args.seats.items in
    record {
      under = subst AreUnderTheirs (sym c.new.ensures) tt;
      has = subst (λ (l : List (ℕ × SessionNow)). HasSessions (worker_now c.args.thread config hs js turns 0 (sessions_of l))) (sym c.new.ensures)
          (new_sessions c.args.thread config hs js turns (c.in_ok-turns.ensures.items_if_clones_equal (λ y same. same) ∙ ap (λ (l : List Back). replicate (length l) 0) c.as_slice.ensures));
    }
