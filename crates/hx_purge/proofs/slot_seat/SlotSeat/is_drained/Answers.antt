use Rattle.std.proofs.Common.{rules, ◌≡◌, ◌*◌, Some}
use Rattle.hx_purge.proofs.Emptied.{emptied_by}
use Rattle.hx_purge.proofs.slot_seat.SlotSeat.is_drained.Goals as goal

pub returns-clause-emptied : goal.returns-clause-emptied
returns-clause-emptied g c = λ is.
    let i = c.self.inside in
    let s = i.own.seat in
    let e : i.passed ≡ Some (64 * s.view.terms.threads) = search rules in
    rw (← c.self.view_is) (emptied_by s i.passed c.thread.ensures.stands c.self.invariant.drains e)
