use Rattle.std.proofs.Common.{refl}
use Rattle.hx_places_load.proofs.Noting.{rests_more}
use Rattle.hx_places_load.proofs.steps.close_one.Goals as goal

pub returns : goal.returns
returns c = record {
  rest = rests_more c.args.seat.now c.note_close.new.self _ c.note_close.ensures.notes c.requires.rest refl;
}
