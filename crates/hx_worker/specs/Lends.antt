-- What a worker ends as, where a `&mut` to one of its seats is returned.
use Rattle.std.specs.Prelude.{ℕ, [], slice_set}
use Rattle.std.specs.Borrow.{Lends, Fml, RattleType, MutBor}
use mir.Syntax.{named}
use Rattle.hx_link.specs.declared.link.Link.{Ghosts as LinkGhosts}
use Rattle.hx_pool.specs.declared.seat.HasHistory.{Ghosts as SeatGhosts}
use Rattle.hx_pool.specs.SeatView.{History}
use Rattle.hx_connecting.specs.Journals.{JournalRoom, room_of}
use Rattle.hx_worker.specs.contracts.worker.Worker.{the_row}
use Rattle.hx_worker.specs.Workers.{WorkerNow}

-- the worker with another seat for a server
abbrev pub with_seat : WorkerNow → ℕ → History → JournalRoom → WorkerNow
with_seat w i h room = record w { seats = slice_set w.seats i h; journals = slice_set w.journals i room }

-- once the borrow r ends, the server has the last seat written through r, and nothing else changed
abbrev pub lends_seat : (S L : RattleType) → SeatGhosts S.Denot → LinkGhosts L.Denot → MutBor WorkerNow → ℕ
    → MutBor S.Denot → Fml
lends_seat S L seat link s i r =
    Lends (the_row (record { mir = named 1; lft = [] }) S L seat link) S s r
    (λ x. with_seat s.now i (seat.history x) (room_of seat.kept_from seat.spare x))
