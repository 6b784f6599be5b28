use Rattle.std.proofs.Common.{[], sym, subst}
use Rattle.hx_frame.specs.declared.state.BodyState.{BodyState}
use Rattle.hx_frame.specs.Meters.{HasReached}
use Rattle.hx_frame.proofs.MeterLemmas.{front_reached}
use Rattle.hx_frame.proofs.meter.Meter.new.Goals as goal

pub returns-clause-used : goal.returns-clause-used
returns-clause-used c = subst (λ (s : BodyState). HasReached c.args.kind [] s) (sym c.start_of.ensures.front) (front_reached c.args.kind)
