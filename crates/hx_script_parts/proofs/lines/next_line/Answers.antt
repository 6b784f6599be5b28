use Rattle.hx_script_parts.proofs.Endings.{lines_split}
use Rattle.hx_script_parts.proofs.lines.next_line.Goals as goal

pub returns : goal.returns
returns c = lines_split c.args.rest.now (λ x. (x.0.now, x.1.now)) c.split_line.result c.split_line.ensures
