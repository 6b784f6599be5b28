use Rattle.hx_pool.specs.declared.entries.Entry.TheVariants.{Free}
use Rattle.hx_pool.specs.Taking.{taken}
use Rattle.hx_pool.specs.History.{plain}
use Rattle.hx_places.proofs.Wording.{take_note}
use Rattle.hx_places.proofs.seat.PlaceSeat.take_at.Given as goal

abbrev pub ghosts-took_at-W-Says : goal.ghosts-took_at-W-Says
ghosts-took_at-W-Says g a =
    record {
      note =
          take_note (taken a.self.now.view.thread a.n a.first a.place a.face) a.self.now.view.thread a.place a.face;
    }

abbrev pub ghosts-took_at-F-Says : goal.ghosts-took_at-F-Says
ghosts-took_at-F-Says g a = record { note = λ _. plain (Free a.self.now.view.thread a.place) }
