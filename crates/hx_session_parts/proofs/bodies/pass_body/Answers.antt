use Rattle.std.proofs.Common.{ℕ, List, ◌++◌, ◌-◌, length, take, subst}
use Rattle.hx_frame.specs.Meters.{HasReached, FeedSays, state_of}
use Rattle.hx_session_parts.proofs.bodies.pass_body.Goals as goal

pub returns-clause-used : goal.returns-clause-used
returns-clause-used c =
    λ kind before has.
    subst (λ (xs : List ℕ). HasReached kind (before ++ take c.feed_front-fed.result.used xs) c.feed_front-fed.new.meter.state)
    c.whole.ensures.value (c.feed_front-fed.ensures.used kind before has)

pub returns-clause-says : goal.returns-clause-says
returns-clause-says c =
    λ kind before has.
    subst (λ (xs : List ℕ). FeedSays kind (state_of c.args.meter.now) c.feed_front-fed.result.state before (take (c.args.to.now.capacity - length c.args.to.now.bytes) xs) c.feed_front-fed.result.used)
    c.whole.ensures.value (c.feed_front-fed.ensures.says kind before has)
