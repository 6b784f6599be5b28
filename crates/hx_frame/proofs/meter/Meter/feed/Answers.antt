use Rattle.std.proofs.Common.{sym, subst}
use Rattle.hx_frame.specs.declared.progress.MeterState.{MeterState}
use Rattle.hx_frame.specs.Meters.{FeedSays, state_of}
use Rattle.hx_frame.proofs.MeterLemmas.{has_fed}
use Rattle.hx_frame.proofs.meter.Meter.feed.Goals as goal

pub returns-clause-used : goal.returns-clause-used
returns-clause-used c kind before h =
    (has_fed kind before c.args.piece.now c.read_body-read.result.used c.args.self.now.state c.read_body-read.result.state h c.read_body-read.ensures.leads).0

pub returns-clause-says : goal.returns-clause-says
returns-clause-says c kind before h =
    subst (λ (m : MeterState). FeedSays kind (state_of c.args.self.now) m before c.args.piece.now c.read_body-read.result.used) (sym c.progress.ensures)
    (has_fed kind before c.args.piece.now c.read_body-read.result.used c.args.self.now.state c.read_body-read.result.state h c.read_body-read.ensures.leads).1
