-- What a call of a session keeps.
use Rattle.std.specs.Prelude.{◌≡◌, List, None}
use Rattle.hx_link.specs.Told.{LinkState}
use Rattle.hx_link.specs.Nets.{NetState}
use Rattle.hx_pool.specs.SeatView.{History}
use Rattle.hx_record.specs.declared.served.Left.{Left}
use Rattle.hx_record.specs.declared.served.LeftCause.TheVariants as cause
use Rattle.hx_connecting.specs.Around.{abouts}
use Rattle.hx_connecting.specs.Holds.{HoldsConn}
use Rattle.hx_connecting.specs.Sessions.{SessionNow}
use Rattle.hx_session.specs.Doings.{IsSameClient, IsSameSession}

-- a step leaves whose session it is and its client's link the same one, what each seat is for, and the net's loop
pub record IsSameStep (s s' : SessionNow) (seats seats' : List History) (net net' : NetState) : Type 0 where
  pub session : IsSameSession s s'
  pub about : abouts seats' ≡ abouts seats
  pub loop_no : net'.loop_no ≡ net.loop_no

-- the worker stops the session: its seats hold nothing for it any more, and its client's link comes back as the same one, without a
-- loop
pub record IsStopped (s : SessionNow) (client : LinkState) (seats seats' : List History) (net net' : NetState) (left : Left) : Type 0 where
  pub about : abouts seats' ≡ abouts seats
  pub loop_no : net'.loop_no ≡ net.loop_no
  pub link : client ≡ record s.client { on_loop = None; faults = client.faults }
  pub same : IsSameClient s.client client
  pub holds : HoldsConn s.worker s.number None 0 seats'
  pub cause : left.cause ≡ cause.Stop
