use Rattle.std.proofs.Common.{ap, ◌∙◌}
use Rattle.hx_pool.specs.SeatView.{History}
use Rattle.hx_places_load.proofs.whole.make_turns.Goals as goal

pub new-requires-clause-idle : goal.new-requires-clause-idle
new-requires-clause-idle c = c.requires.rest.idle

pub work-requires : goal.work-requires
work-requires c = ap (λ (h : History). h.about.server) (c.new-journal.ensures.history ∙ c.in-Ok.ensures.history) ∙ c.requires.rest.ours.server
