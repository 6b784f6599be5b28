use Rattle.hx_places.proofs.Wording.{look_note}
use Rattle.hx_places.proofs.seat.PlaceSeat.look.Given as goal

abbrev pub ghosts-looked : goal.ghosts-looked
ghosts-looked g a = record { note = look_note a.self.now.view.thread a.place }
