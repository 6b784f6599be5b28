use Rattle.std.proofs.Common.{◌≡◌, ◌<◌, ◌≤◌, ◌++◌, length, take}
use Rattle.hx_link.specs.Planned.{planned}
use Rattle.hx_link.proofs.link_bytes.join_pieces.Given as goal

abbrev pub invariant-loop-piece : goal.invariant-loop-piece
invariant-loop-piece l = record {
  few : length l.joined.items < l.count → planned l.fn.pieces ≡ l.joined.items ++ planned l.piece-iterator.rest.items;
  enough : l.count ≤ length l.joined.items → take l.count l.joined.items ≡ take l.count (planned l.fn.pieces);
}
