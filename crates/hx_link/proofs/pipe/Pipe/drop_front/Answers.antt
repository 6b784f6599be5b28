use Rattle.std.proofs.Common.{◌≤◌, length, drop, ap, arith}
use Rattle.hx_link.specs.Pipes.{PipeNow}
use Rattle.hx_link.proofs.PipeLemmas.{pipe_is, rest_is, length-held}
use Rattle.hx_link.proofs.pipe.Pipe.drop_front.Goals as goal

pub returns : goal.returns
returns c =
    let held = c.self.inside in
    let size = length-held held.start held.len held.memory.items c.self.invariant in
    let le : c.args.n ≤ held.len = omega (arith, c.requires.there, ap (λ (p : PipeNow). length p.bytes) c.self.view_is, size) in
    record {
      bytes = pipe_is _ _ _ _ _ (rest_is c.args.n held.start held.len held.memory.items le)
          (ap (λ (p : PipeNow). drop c.args.n p.bytes) c.self.view_is) (ap (λ (p : PipeNow). p.capacity) c.self.view_is);
    }
