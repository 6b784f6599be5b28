use Rattle.std.proofs.Common.{◌*◌, ◌-◌}
use Rattle.hx_connecting.specs.Journals.{room_of}
use Rattle.hx_caretaker.specs.Sites.{site, DrainsTo, passed_or}
use Rattle.hx_caretaker.proofs.sweep.drain_all.Given as goal

abbrev pub invariant-loop-count : goal.invariant-loop-count
invariant-loop-count g l =
    let S = g.S.HasHistory in
    DrainsTo (site S.history (room_of S.kept_from S.spare) g.N.Net.state l.fn.seat l.fn.net)
    (site S.history (room_of S.kept_from S.spare) g.N.Net.state l.seat l.net) l.count

abbrev pub decreases-loop-count : goal.decreases-loop-count
decreases-loop-count g l = 64 * (g.S.HasHistory.history l.seat).about.threads - passed_or (g.S.HasHistory.history l.seat).passed
