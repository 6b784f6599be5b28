use Rattle.hx_check_parts.proofs.exchanges.numbered.Goals as goal

pub returns-in-Some : goal.returns-in-Some
returns-in-Some c = c.numbered.ensures c.args.records.now c.in-Some.ensures.exchanges
