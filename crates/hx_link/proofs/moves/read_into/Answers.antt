use Rattle.std.proofs.Common.{ℕ, ◌≤◌, List, ◌++◌, take, ◌∙◌, ap, arith}
use Rattle.hx_link.specs.Pipes.{pipe}
use Rattle.hx_link.proofs.PipeLemmas.{kept_is}
use Rattle.hx_link.proofs.MoveLemmas.{got_within}
use Rattle.hx_link.proofs.moves.read_into.Goals as goal

pub returns-clause-reads : goal.returns-clause-reads
returns-clause-reads g c =
    let into = c.read-got.new.into in
    let count = c.count_of.result in
    let within : count ≤ c.min-room.result = omega (arith, c.count_of.ensures, got_within c.read-got.result _ c.read-got.ensures.fits, c.grow.ensures.size) in
    let kept = kept_is c.args.into.now.bytes c.grow.result.now into c.min-room.result count c.grow.ensures.size c.read-got.auto.into within in
    record {
      into = into;
      size = omega (arith, c.read-got.auto.into, c.grow.ensures.size, c.min-room.ensures, c.room.ensures.room);
      reads = c.read-got.ensures.reads;
      gains = c.drop_back.ensures.bytes
          ∙ ap (λ (xs : List ℕ). pipe xs c.args.into.now.capacity)
          (kept ∙ ap (λ (k : ℕ). c.args.into.now.bytes ++ take k into) c.count_of.ensures);
    }
