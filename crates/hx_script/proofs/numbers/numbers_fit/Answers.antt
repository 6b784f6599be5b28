use Rattle.std.proofs.Common.{All, subst}
use Rattle.hx_script.specs.Numbers.{IsNumber, HasServerNumbers, told_numbers, HasClientNumbers, HasConnNumbers, total_numbers}
use Rattle.hx_script.proofs.numbers.numbers_fit.Goals as goal

pub returns : goal.returns
returns c = record {
  servers = subst (All HasServerNumbers) c.as_slice.ensures c.servers_fit.ensures;
  records = subst (All (λ r. All IsNumber (told_numbers r))) c.as_slice-2.ensures c.records_fit.ensures;
  clients = subst (All HasClientNumbers) c.as_slice-3.ensures c.clients_fit.ensures;
  conns = subst (All HasConnNumbers) c.as_slice-4.ensures c.conns_fit.ensures;
  totals = subst (All (λ s. All IsNumber (total_numbers s))) c.as_slice-5.ensures c.totals_fit.ensures;
}
