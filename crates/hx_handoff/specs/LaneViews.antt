-- Private: how the fields of a lane and its ends stand for what contracts see.
use Rattle.std.specs.Prelude.{◌≡◌, ℕ}
use Rattle.atomic_table.specs.Seated.{TableId}
use Rattle.crossbeam_queue.specs.Passes.{view, IsPassOf, ruled_capacity}
use Rattle.hx_handoff.specs.declared.rule.Role.TheVariants.{Taking, Giving}
use Rattle.hx_handoff.specs.declared.lanes.Lane.{Lane}
use Rattle.hx_handoff.specs.declared.giver.Giver.TheInside as giver
use Rattle.hx_handoff.specs.declared.taker.Taker.TheInside as taker
use Rattle.hx_handoff.specs.Lanes.{GiverNow, TakerNow}

module _ {T : Type 0} where
  -- which lane it is
  abbrev pub lane_id : Lane T → TableId
  lane_id l = l.queue.table.shared.table_id

  -- how many items it holds at most
  abbrev pub lane_capacity : Lane T → ℕ
  lane_capacity l = ruled_capacity l.queue

  -- the value of a giver
  abbrev pub giver_now : giver.Inside T → GiverNow T
  giver_now g = record {
    lane = g.pass.table_id;
    capacity = ruled_capacity g.queue.now;
    number = g.number;
    handed = (view g.pass).handed;
  }

  -- its pass is one of the lane, and hands in under its number
  pub record KeepsGiver (g : giver.Inside T) : Type 0 where
    pub seated : IsPassOf g.queue.now g.pass
    pub gives : (view g.pass).role ≡ Giving
    pub number : (view g.pass).number ≡ g.number

  -- the value of a taker
  abbrev pub taker_now : taker.Inside T → TakerNow T
  taker_now t = record {
    lane = t.pass.table_id;
    collected = (view t.pass).collected;
    settled = (view t.pass).settled;
  }

  -- its pass is one of the lane, and collects
  pub record KeepsTaker (t : taker.Inside T) : Type 0 where
    pub seated : IsPassOf t.queue.now t.pass
    pub takes : (view t.pass).role ≡ Taking
    -- it has cut off both givers
    pub both : (view t.pass).number ≡ 2
