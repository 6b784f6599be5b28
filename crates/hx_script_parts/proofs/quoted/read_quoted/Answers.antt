use Rattle.std.proofs.lemmas.Result.{IfOk-weaker}
use Rattle.hx_script_parts.proofs.ByteTextLemmas.{read_tells}
use Rattle.hx_script_parts.proofs.quoted.read_quoted.Goals as goal

pub returns : goal.returns
returns c = record {
  reads = IfOk-weaker c.read_front.result _ _
      (λ o is. read_tells c.args.text.now (λ x. (x.0.items, x.1.now)) o is) c.read_front.ensures;
}
