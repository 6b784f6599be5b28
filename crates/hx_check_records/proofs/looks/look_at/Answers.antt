use Rattle.hx_check_records.proofs.LookLemmas.{changes_none}
use Rattle.hx_check_records.proofs.looks.look_at.Goals as goal

pub returns-then-head-eq101 : goal.returns-then-head-eq101
returns-then-head-eq101 c =
    changes_none c.args.bytes.now c.args.head c.requires.0 c.requires.1 c.if-head-eq101.true
