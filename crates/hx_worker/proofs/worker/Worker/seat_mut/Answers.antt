use Rattle.std.proofs.Common.{◌≡◌, ◌<◌, List, Some, length, map, refl, sym, ap, ◌∙◌, subst}
use Rattle.std.specs.Prelude.{slice_get, slice_set}
use Rattle.std.proofs.lemmas.List.{length-map, map-set}
use Rattle.hx_config.specs.Views.{meaning}
use Rattle.hx_pool.specs.SeatView.{History}
use Rattle.hx_connecting.specs.Journals.{JournalRoom, room_of}
use Rattle.hx_connecting.proofs.SeatLemmas.{seat_here}
use Rattle.hx_worker.specs.Lends.{with_seat}
use Rattle.hx_worker.specs.Listed.{sessions_of}
use Rattle.hx_worker.specs.Workers.{WorkerNow, worker_now}
use Rattle.hx_worker.proofs.worker.Worker.seat_mut.Goals as goal

pub returns : goal.returns
returns g c =
    let S = g.S.HasHistory in let i = c.self.inside in let h = S.history in let f = room_of S.kept_from S.spare in
    let xs = i.seats.items in let k = c.args.server.0 in let config = meaning i.config.now in let ss = sessions_of i.sessions.items in
    let lent = c.index_mut.result.now in
    let low : k < length xs = subst (λ n. k < n) (length-map xs h) (subst (λ (v : WorkerNow). k < length v.seats) (sym c.self.view_is) c.requires.there) in (
      (
        refl,
        λ w. ap (λ (l : List History). worker_now i.thread config l (map f (slice_set xs k w)) i.turns.items i.last ss) (map-set h xs k w)
            ∙ (ap (λ (l : List JournalRoom). worker_now i.thread config (slice_set (map h xs) k (h w)) l i.turns.items i.last ss) (map-set f xs k w)
            ∙ ap (λ (v : WorkerNow). with_seat v k (h w) (f w)) c.self.view_is),
      ),
      record {
        writes_back = tt;
        value = subst (λ (v : WorkerNow). slice_get v.seats k ≡ Some (h lent)) c.self.view_is (seat_here h xs k lent low ∙ ap (λ (s : g.row.S.Denot). Some (h s)) (sym c.index_mut.ensures.value));
        room = subst (λ (v : WorkerNow). slice_get v.journals k ≡ Some (f lent)) c.self.view_is (seat_here f xs k lent low ∙ ap (λ (s : g.row.S.Denot). Some (f s)) (sym c.index_mut.ensures.value));
      },
    )
