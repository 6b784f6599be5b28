use Rattle.std.proofs.Common.{All, subst, arith}
use Rattle.std.proofs.lemmas.List.{take_all}
use Rattle.std.proofs.lemmas.List.Elements.{All-more}
use Rattle.hx_script.specs.Numbers.{HasClientNumbers}
use Rattle.hx_script.proofs.numbers.clients_fit.Goals as goal

pub loop-client-preserved : goal.loop-client-preserved
loop-client-preserved c =
    All-more (HasClientNumbers) c.args.clients.now c.loop-client.client-index c.client-item.result (omega arith) c.loop-client.invariant
    (subst HasClientNumbers c.client-item.is c.client_fits.ensures)

pub returns : goal.returns
returns c = subst (All (HasClientNumbers)) (take_all c.loop-client.client-index c.args.clients.now (omega arith)) c.loop-client.invariant
