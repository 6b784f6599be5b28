use Rattle.std.proofs.Common.{arith, length, ◌≤◌, ◌-◌, take, drop, ap, ◌∙◌, List, ℕ}
use Rattle.hx_link.specs.Places.{first_bytes}
use Rattle.hx_link.proofs.PlaceLemmas.{first_is, gives_more, still_within, left_there}
use Rattle.hx_link.proofs.place.give_next.Goals as goal

pub returns-clause-count : goal.returns-clause-count
returns-clause-count c =
    let first = first_is c.args.pieces.now c.args.at.piece c.index-pieces-at.result c.as_slice.result.now c.requires.there c.index-pieces-at.is c.as_slice.ensures in
    let left = left_there c.args.pieces.now c.args.at c.requires.place c.requires.next c.requires.there in
    omega (arith, left, ap length first, c.give.ensures.count)

pub returns-clause-given : goal.returns-clause-given
returns-clause-given c =
    let first = first_is c.args.pieces.now c.args.at.piece c.index-pieces-at.result c.as_slice.result.now c.requires.there c.index-pieces-at.is c.as_slice.ensures in
    let le : c.give.result ≤ length (first_bytes (drop c.args.at.piece c.args.pieces.now)) - c.args.at.offset = omega (arith, ap length first, c.give.ensures.count) in
    gives_more c.args.pieces.now c.args.at c.give.result c.give.new.into c.requires.place le
    (c.give.ensures.given ∙ ap (λ (b : List ℕ). take c.give.result (drop c.args.at.offset b)) first)

pub returns-clause-within : goal.returns-clause-within
returns-clause-within c =
    let first = first_is c.args.pieces.now c.args.at.piece c.index-pieces-at.result c.as_slice.result.now c.requires.there c.index-pieces-at.is c.as_slice.ensures in
    let le : c.give.result ≤ length (first_bytes (drop c.args.at.piece c.args.pieces.now)) - c.args.at.offset = omega (arith, ap length first, c.give.ensures.count) in
    still_within c.args.pieces.now c.args.at c.give.result c.requires.place le
