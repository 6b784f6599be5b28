use Rattle.std.proofs.Common.{◌≡◌, sym, arith}
use Rattle.std.specs.Prelude.{None}
use Rattle.hx_places.specs.Seats.{history_of}
use Rattle.hx_pool_tests.proofs.SeatCalls.{park_about}
use Rattle.hx_pool_tests.proofs.RowCalls.{owner_about}
use Rattle.hx_pool_tests.proofs.tests.rows.Owner.let_rest.Goals as goal

pub park-requires-clause-parks : goal.park-requires-clause-parks
park-requires-clause-parks c = record {
  session = λ (h : 1 ≡ 0). absurd (omega arith);
  server = sym c.requires.owner.server;
  has = c.requires.has;
  used = c.requires.used;
}

pub returns-in-Ok-clause-owner : goal.returns-in-Ok-clause-owner
returns-in-Ok-clause-owner c = owner_about c.args.self.now.seat c.park.new.seat c.park.new.self c.park.ensures.rest c.park.ensures.row
    (park_about (history_of c.args.self.now.seat None) (history_of c.park.new.seat None) _ _ c.park.result (c.park.ensures.answer None)) c.requires.owner.server

pub returns-in-Ok-clause-about : goal.returns-in-Ok-clause-about
returns-in-Ok-clause-about c = park_about (history_of c.args.self.now.seat None) (history_of c.park.new.seat None) _ _ c.park.result (c.park.ensures.answer None)

pub returns-in-Err-clause-owner : goal.returns-in-Err-clause-owner
returns-in-Err-clause-owner c = owner_about c.args.self.now.seat c.park.new.seat c.park.new.self c.park.ensures.rest c.park.ensures.row
    (park_about (history_of c.args.self.now.seat None) (history_of c.park.new.seat None) _ _ c.park.result (c.park.ensures.answer None)) c.requires.owner.server

pub returns-in-Err-clause-about : goal.returns-in-Err-clause-about
returns-in-Err-clause-about c = park_about (history_of c.args.self.now.seat None) (history_of c.park.new.seat None) _ _ c.park.result (c.park.ensures.answer None)
