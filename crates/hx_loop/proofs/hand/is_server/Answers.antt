use Rattle.std.proofs.Common.{sym}
use Rattle.hx_loop.proofs.Servers.{there_below}
use Rattle.hx_loop.proofs.hand.is_server.Goals as goal

pub returns-in-Some : goal.returns-in-Some
returns-in-Some c = record { there = λ _. there_below _ c.args.at _ (sym c.in-Some.ensures) }
