use Rattle.std.proofs.Common.{◌≡◌, take}
use Rattle.hx_told.specs.Links.{lefts_of}
use Rattle.hx_told.proofs.links.all_lefts.Given as goal

abbrev pub invariant-loop-told : goal.invariant-loop-told
invariant-loop-told l = l.lefts.items ≡ lefts_of (take l.told-index l.records)
