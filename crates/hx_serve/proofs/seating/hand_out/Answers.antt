use Rattle.std.proofs.Common.{length}
use Rattle.hx_serve.proofs.Beginning.{popped, left_by_pop}
use Rattle.hx_serve.proofs.seating.hand_out.Goals as goal

pub fresh_of-requires : goal.fresh_of-requires
fresh_of-requires g c =
    let left = c.pop.new.self.items in record {
      new = c.loop-seat.invariant (length left) c.in-Some.seat (popped c.loop-seat.seats.items left c.in-Some.seat c.in-Some.ensures.items);
    }

pub loop-seat-preserved-in-Continue-branch-3 : goal.loop-seat-preserved-in-Continue-branch-3
loop-seat-preserved-in-Continue-branch-3 g c =
    λ k s h. c.loop-seat.invariant k s (left_by_pop c.loop-seat.seats.items c.pop.new.self.items c.in-Some.seat k s c.in-Some.ensures.items h)

pub loop-seat-preserved : goal.loop-seat-preserved
loop-seat-preserved g c =
    λ k s h. c.loop-seat.invariant k s (left_by_pop c.loop-seat.seats.items c.pop.new.self.items c.in-Some.seat k s c.in-Some.ensures.items h)
