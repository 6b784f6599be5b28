use Rattle.std.proofs.Common.{◌+◌, List, [], ◌∷◌, map, ap, sym, ◌∙◌, subst, arith, take}
use Rattle.std.proofs.lemmas.List.{map-append}
use Rattle.hx_config.specs.Limits.{all_servers}
use Rattle.hx_pool.specs.Journal.{Journal}
use Rattle.hx_pool.specs.SeatView.{History}
use Rattle.hx_worker_tests.specs.Begins.{BeginFor}
use Rattle.hx_worker_tests.proofs.Begun.{begin_more, there_below}
use Rattle.hx_worker_tests.proofs.tests.seats.seats_of.Goals as goal

pub loop-server-preserved : goal.loop-server-preserved
loop-server-preserved c =
    let ss = all_servers c.args.config.now.backs in let h = λ (j : Journal). j.history in let at = c.loop-server.at in
    let s = c.in-Some.server.now in let j = c.in_ok-seat_of.field-0 in let there = sym c.in-Some.ensures in
    let low = there_below ss at s there in (
      omega (arith, low),
      subst (λ (l : List History). BeginFor (take (at + 1) ss) l)
          (sym (ap (map h) c.in_ok-push.ensures.items ∙ map-append h c.loop-server.seats.items (j ∷ [])))
          (begin_more ss (map h c.loop-server.seats.items) at s j.history c.loop-server.invariant.1 there c.in_ok-seat_of.ensures.begins),
    )
