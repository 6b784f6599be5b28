use Rattle.std.proofs.Common.{◌≡◌, ⊎_elim}
use Rattle.hx_frame.specs.declared.progress.MeterState.{MeterState}
use Rattle.hx_frame.specs.declared.progress.MeterState.TheVariants.{Going, Done, Bad}
use Rattle.hx_frame.specs.Meters.{state_of}
use Rattle.hx_session.proofs.MessageEnds.{feed_done, feed_none}
use Rattle.hx_session.proofs.cuts.find_end.Goals as goal

going_not : (s : MeterState) → s ≡ Going → s ≡ Done → ⊥
going_not s a b = cc

bad_not : (s : MeterState) → s ≡ Bad → s ≡ Done → ⊥
bad_not s a b = cc

pub returns-in-Done-clause-ends : goal.returns-in-Done-clause-ends
returns-in-Done-clause-ends c = λ kind before used bad. feed_done kind (state_of c.args.meter.now) c.feed-fed.result.state before c.args.bytes.now c.feed-fed.result.used (c.feed-fed.ensures.says kind before used) c.in-Done.is

pub returns-in-Going-clause-ends : goal.returns-in-Going-clause-ends
returns-in-Going-clause-ends c = λ kind before used bad.
    feed_none kind (state_of c.args.meter.now) c.feed-fed.result.state before c.args.bytes.now c.feed-fed.result.used (c.feed-fed.ensures.says kind before used) bad
    (⊎_elim (λ e. going_not c.feed-fed.result.state e) (λ e. bad_not c.feed-fed.result.state e) c.in-Going.is)
