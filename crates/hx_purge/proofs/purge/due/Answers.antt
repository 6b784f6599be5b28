use Rattle.std.proofs.Common.{ap}
use Rattle.hx_places.specs.Turns.{Turn}
use Rattle.hx_takeover.proofs.Counting.{count_rest, count_row}
use Rattle.hx_purge.proofs.Closing.{round_rest, round_row}
use Rattle.hx_purge.proofs.purge.due.Goals as goal

pub returns-then-before-round-clause-row : goal.returns-then-before-round-clause-row
returns-then-before-round-clause-row g c = round_row c.args.seat.now c.raise-before.new.self _ c.raise-before.result c.raise-before.ensures.notes

pub returns-then-before-round-clause-rest : goal.returns-then-before-round-clause-rest
returns-then-before-round-clause-rest g c = round_rest c.args.seat.now c.raise-before.new.self _ c.raise-before.result c.raise-before.ensures.notes c.requires.rest

pub count-count-requires : goal.count-count-requires
count-count-requires g c = record {
  ease = ap (λ (z : Turn). z.call) (round_rest c.args.seat.now c.raise-before.new.self _ c.raise-before.result c.raise-before.ensures.notes c.requires.rest).turn_is;
}

pub returns-clause-row : goal.returns-clause-row
returns-clause-row g c = λ stays f. count_row c.raise-before.new.self c.count-count.new.self c.count-count.result c.count-count.ensures.notes stays
    (round_row c.args.seat.now c.raise-before.new.self _ c.raise-before.result c.raise-before.ensures.notes stays f)

pub returns-clause-rest : goal.returns-clause-rest
returns-clause-rest g c = count_rest c.raise-before.new.self c.count-count.new.self c.count-count.result c.count-count.ensures.notes
    (round_rest c.args.seat.now c.raise-before.new.self _ c.raise-before.result c.raise-before.ensures.notes c.requires.rest)
