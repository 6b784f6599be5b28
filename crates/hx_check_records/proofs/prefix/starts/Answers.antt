use Rattle.std.proofs.Common.{length, drop}
use Rattle.std.proofs.lemmas.Bool.Decides.{Decides-eqb}
use Rattle.std.proofs.lemmas.Slice.Eq.{starts_is}
use Rattle.hx_check_records.proofs.prefix.starts.Goals as goal

pub returns : goal.returns
returns c =
    let says = starts_is Decides-eqb c.args.bytes.now c.args.front.now c.starts_with.result c.starts_with.ensures.value in
    (λ yes. (drop (length c.args.front.now) c.args.bytes.now, says.0 yes), λ (rest, is). says.1 rest is)
