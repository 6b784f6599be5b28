use Rattle.std.proofs.Common.{◌+◌, List, [], ◌∷◌, map, ap, sym, ◌∙◌, subst, arith, take}
use Rattle.std.proofs.lemmas.List.{map-append}
use Rattle.hx_config.specs.Limits.{all_servers}
use Rattle.hx_purge.specs.Slots.{SlotView}
use Rattle.hx_pool.specs.SeatView.{History}
use Rattle.hx_serve.specs.Begins.{BeginFor}
use Rattle.hx_loop.proofs.Servers.{there_below}
use Rattle.hx_serve.proofs.Beginning.{begin_more}
use Rattle.hx_serve.proofs.seating.seats_of.Goals as goal

pub loop-server-preserved : goal.loop-server-preserved
loop-server-preserved g c =
    let ss = all_servers c.args.config.now.backs in let h = λ (v : SlotView). v.history in let at = c.loop-server.at in
    let s = c.in-Some.server.now in let v = c.in_ok-next_seat.field-0 in let there = sym c.in-Some.ensures in let t = c.args.thread in
    let low = there_below ss at s there in (
      omega (arith, low),
      subst (λ (l : List History). BeginFor t (take (at + 1) ss) l)
          (sym (ap (map h) c.in_ok-push.ensures.items ∙ map-append h c.loop-server.seats.items (v ∷ [])))
          (begin_more t ss (map h c.loop-server.seats.items) at s v.history c.loop-server.invariant.1 there c.in_ok-next_seat.ensures),
    )
