use Rattle.std.proofs.Common.{ℕ, List, ◌++◌, subst}
use Rattle.hx_frame.specs.Meters.{HasReached, state_of}
use Rattle.hx_session_parts.proofs.BodyLemmas.{moved_is, says_of}
use Rattle.hx_session_parts.proofs.bodies.feed_front.Goals as goal

pub returns-clause-used : goal.returns-clause-used
returns-clause-used c =
    λ kind before has.
    subst (λ (xs : List ℕ). HasReached kind (before ++ xs) c.feed-fed.new.self.state)
    (moved_is c.feed-fed.result.used c.room.result c.args.bytes.now c.at_most-piece.result.now c.at_most-piece.ensures c.feed-fed.ensures.within)
    (c.feed-fed.ensures.used kind before has)

pub returns-clause-says : goal.returns-clause-says
returns-clause-says c =
    λ kind before has.
    says_of kind (state_of c.args.meter.now) c.feed-fed.result.state before c.args.bytes.now c.at_most-piece.result.now c.feed-fed.result.used c.room.result _ _
    c.at_most-piece.ensures c.room.ensures.room (c.feed-fed.ensures.says kind before has)
