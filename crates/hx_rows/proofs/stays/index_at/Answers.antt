use Rattle.std.proofs.Common.{◌+◌, take, drop, get_or}
use Rattle.hx_rows.specs.declared.stays.Stay.{Stay}
use Rattle.hx_rows.proofs.Listing.{cut, index_is}
use Rattle.hx_rows.proofs.stays.index_at.Goals as goal

pub returns-then-stay-place : goal.returns-then-stay-place
returns-then-stay-place c =
    let xs = c.args.stays.now in
    let i = c.loop-i.i in
    let d : Stay = record { place = 0; face = record { id = record { 0 = 0 }; uses = 0 } } in record {
      before = take i xs;
      chosen = get_or xs i d;
      behind = drop (i + 1) xs;
      parts = cut xs i d c.loop-i-test.true;
      index = index_is xs i c.loop-i-test.true;
      at = c.if-stay-place.true;
    }
