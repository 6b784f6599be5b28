use Rattle.std.proofs.Common.{List, ap, ◌∙◌, sym, subst, arith}
use Rattle.hx_pool.specs.declared.entries.Note.{Note}
use Rattle.hx_pool.specs.Held.{Has}
use Rattle.hx_pool.specs.SeatView.{About}
use Rattle.hx_pool.proofs.Calls.{has_opened}
use Rattle.hx_pool_tests.proofs.tests.callers.park_new.Goals as goal

pub park-requires : goal.park-requires
park-requires g c =
    let old = g.S.HasHistory.history c.args.seat.now in
    let m = c.in-Ok.ensures.answer.1.makes in
    record {
      session = c.requires.session;
      server = sym (ap (λ (a : About). a.server) m.about ∙ c.requires.server);
      has = subst (λ (l : List Note). Has l c.args.n c.in-Ok.id.0 0) (sym m.mine) (has_opened old.mine old.about.thread c.args.n c.in-Ok.id);
      used = omega arith;
    }
