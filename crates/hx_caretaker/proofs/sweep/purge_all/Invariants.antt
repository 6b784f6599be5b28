use Rattle.std.proofs.Common.{◌*◌, ◌-◌}
use Rattle.hx_connecting.specs.Journals.{room_of}
use Rattle.hx_caretaker.specs.Sites.{site, PurgesTo}
use Rattle.hx_caretaker.proofs.sweep.purge_all.Given as goal

abbrev pub invariant-loop-left : goal.invariant-loop-left
invariant-loop-left g l =
    let S = g.S.HasHistory in
    PurgesTo (site S.history (room_of S.kept_from S.spare) g.N.Net.state l.fn.seat l.fn.net)
    (site S.history (room_of S.kept_from S.spare) g.N.Net.state l.seat l.net) l.fn.quota l.left l.count

abbrev pub decreases-loop-left : goal.decreases-loop-left
decreases-loop-left g l = 64 * (g.S.HasHistory.history l.seat).about.threads - l.left.seen
