use Rattle.std.proofs.Common.{◌≢◌, false, [], ◌∷◌, ◌++◌, None, sym, ap, ◌∙◌, subst}
use Rattle.hx_base.specs.declared.numbers.Face.{Face}
use Rattle.hx_base.specs.declared.rules.PoolRules.{PoolRules}
use Rattle.hx_base.specs.declared.rules.Mode.TheVariants as mode
use Rattle.hx_pool.specs.declared.entries.Entry.TheVariants.{Park, Take}
use Rattle.hx_pool.specs.declared.refusals.NoPark.TheVariants.{Draining}
use Rattle.hx_pool.specs.SeatView.{Grows}
use Rattle.hx_pool.specs.Parking.{KeepsSome}
use Rattle.hx_pool.proofs.Calls.{refused_still}
use Rattle.hx_places.specs.Seats.{history_of}
use Rattle.hx_rows.specs.Row.{RowView, IsRowOf}
use Rattle.hx_rows.specs.Stays.{stay_at, others_at}
use Rattle.hx_rows.proofs.Parking.{may_rest}
use Rattle.hx_rows.proofs.Parked.{row_stays, row_taken, row_back, parks_stays, parks_taken, refuses_back, grows_stays, grows_taken, grows_back, can_still, refuses, grows_refused, row_refused, rest_refused}
use Rattle.hx_rows.proofs.row.Row.park.Goals as goal

pub returns-in-Err-clause-answer : goal.returns-in-Err-clause-answer
returns-in-Err-clause-answer g c =
    let s0 = c.args.seat.now in
    let s1 = c.admit.new.seat in
    let v = g.V.Faced.shows c.args.v in
    let shares = subst (λ (r : PoolRules). r.mode ≢ mode.Never) c.rules-pool.ensures c.in_default.ensures.0 in
    let keeps = subst KeepsSome c.rules-pool.ensures c.in_default.ensures.1 in
    λ q. refuses s0 s1 c.args.n v c.in-Err.why q shares keeps c.in-Err.ensures

pub returns-in-Err-clause-still : goal.returns-in-Err-clause-still
returns-in-Err-clause-still g c =
    let s0 = c.args.seat.now in
    let s1 = c.admit.new.seat in
    let v = g.V.Faced.shows c.args.v in
    let shares = subst (λ (r : PoolRules). r.mode ≢ mode.Never) c.rules-pool.ensures c.in_default.ensures.0 in
    let keeps = subst KeepsSome c.rules-pool.ensures c.in_default.ensures.1 in
    refused_still (history_of s0 None) (history_of s1 None) c.args.n v c.in-Err.why c.requires.parks (refuses s0 s1 c.args.n v c.in-Err.why None shares keeps c.in-Err.ensures)

pub returns-in-Err-clause-grows : goal.returns-in-Err-clause-grows
returns-in-Err-clause-grows g c =
    let s0 = c.args.seat.now in
    let s1 = c.admit.new.seat in
    let v = g.V.Faced.shows c.args.v in
    λ q. grows_refused s0 s1 c.in-Err.why q c.in-Err.ensures

pub returns-in-Err-clause-row : goal.returns-in-Err-clause-row
returns-in-Err-clause-row g c =
    let s0 = c.args.seat.now in
    let s1 = c.admit.new.seat in
    let v = g.V.Faced.shows c.args.v in
    let row = subst (λ (r : RowView). IsRowOf r.stays s0) (sym c.self.view_is) c.requires.row in
    row_refused s0 s1 c.self.inside.stays c.in-Err.why c.in-Err.ensures row

pub returns-in-Err-clause-rest : goal.returns-in-Err-clause-rest
returns-in-Err-clause-rest g c =
    let s0 = c.args.seat.now in
    let s1 = c.admit.new.seat in
    let v = g.V.Faced.shows c.args.v in
    rest_refused s0 s1 c.in-Err.why c.in-Err.ensures c.requires.rest

pub rest_at-requires-clause-may : goal.rest_at-requires-clause-may
rest_at-requires-clause-may g c =
    let s0 = c.args.seat.now in
    let s1 = c.admit.new.seat in
    let v = g.V.Faced.shows c.args.v in
    may_rest s0 s1 c.in-Ok.place c.requires.rest c.in-Ok.ensures

pub rest_at-requires-clause-parks : goal.rest_at-requires-clause-parks
rest_at-requires-clause-parks g c =
    let s0 = c.args.seat.now in
    let s1 = c.admit.new.seat in
    let v = g.V.Faced.shows c.args.v in
    can_still s0 s1 s1 c.args.n c.in-Ok.place v None c.in-Ok.ensures c.requires.parks

pub returns-in-Stays-clause-answer : goal.returns-in-Stays-clause-answer
returns-in-Stays-clause-answer g c =
    let s0 = c.args.seat.now in
    let s1 = c.admit.new.seat in
    let v = g.V.Faced.shows c.args.v in
    let s2 = c.rest_at.new.seat in
    let shares = subst (λ (r : PoolRules). r.mode ≢ mode.Never) c.rules-pool.ensures c.in_default.ensures.0 in
    let keeps = subst KeepsSome c.rules-pool.ensures c.in_default.ensures.1 in
    λ q. parks_stays s0 s1 s2 c.args.n c.in-Ok.place v q c.in-Ok.ensures shares keeps c.in-Stays.ensures

pub returns-in-Stays-clause-grows : goal.returns-in-Stays-clause-grows
returns-in-Stays-clause-grows g c =
    let s0 = c.args.seat.now in
    let s1 = c.admit.new.seat in
    let v = g.V.Faced.shows c.args.v in
    let s2 = c.rest_at.new.seat in
    let one = c.park_entry-parked.ensures ∙ (λ i. Park (c.thread-t.ensures.thread i) c.args.n (c.face-face.ensures i).id c.in-Ok.place (c.face-face.ensures i).uses) in
    let last = c.one_mark-self-inside.ensures ∙ ap (λ e. e ∷ []) one in
    λ q. subst (Grows (history_of s0 q) (history_of s2 q)) (sym last) (grows_stays s0 s1 s2 c.args.n c.in-Ok.place v q c.in-Ok.ensures c.in-Stays.ensures)

pub returns-in-IsTaken-clause-answer : goal.returns-in-IsTaken-clause-answer
returns-in-IsTaken-clause-answer g c =
    let s0 = c.args.seat.now in
    let s1 = c.admit.new.seat in
    let v = g.V.Faced.shows c.args.v in
    let s2 = c.rest_at.new.seat in
    let shares = subst (λ (r : PoolRules). r.mode ≢ mode.Never) c.rules-pool.ensures c.in_default.ensures.0 in
    let keeps = subst KeepsSome c.rules-pool.ensures c.in_default.ensures.1 in
    λ q. parks_taken s0 s1 s2 c.args.n c.in-Ok.place v q c.in-Ok.ensures shares keeps c.in-IsTaken.ensures

pub returns-in-IsTaken-clause-grows : goal.returns-in-IsTaken-clause-grows
returns-in-IsTaken-clause-grows g c =
    let s0 = c.args.seat.now in
    let s1 = c.admit.new.seat in
    let v = g.V.Faced.shows c.args.v in
    let s2 = c.rest_at.new.seat in
    let one = c.park_entry-parked.ensures ∙ (λ i. Park (c.thread-t.ensures.thread i) c.args.n (c.face-face.ensures i).id c.in-Ok.place (c.face-face.ensures i).uses) in
    let last = c.one_mark-self-inside.ensures ∙ ap (λ e. e ∷ []) one in
    λ q. subst (Grows (history_of s0 q) (history_of s2 q)) (sym last) (grows_taken s0 s1 s2 c.args.n c.in-Ok.place v q c.in-Ok.ensures c.in-IsTaken.ensures)

pub returns-in-Stays-clause-row : goal.returns-in-Stays-clause-row
returns-in-Stays-clause-row g c =
    let s0 = c.args.seat.now in
    let s1 = c.admit.new.seat in
    let v = g.V.Faced.shows c.args.v in
    let s2 = c.rest_at.new.seat in
    let row = subst (λ (r : RowView). IsRowOf r.stays s0) (sym c.self.view_is) c.requires.row in
    subst (λ zs. IsRowOf zs s2) (sym (c.add.ensures ∙ ap (λ (f : Face). others_at c.in-Ok.place.place c.self.inside.stays ++ stay_at c.in-Ok.place.place f ∷ []) c.face-face.ensures)) (row_stays s0 s1 s2 c.self.inside.stays c.args.n c.in-Ok.place v row c.in-Ok.ensures c.in-Stays.ensures)

pub returns-in-IsTaken-clause-row : goal.returns-in-IsTaken-clause-row
returns-in-IsTaken-clause-row g c =
    let s0 = c.args.seat.now in
    let s1 = c.admit.new.seat in
    let v = g.V.Faced.shows c.args.v in
    let s2 = c.rest_at.new.seat in
    let row = subst (λ (r : RowView). IsRowOf r.stays s0) (sym c.self.view_is) c.requires.row in
    subst (λ zs. IsRowOf zs s2) (sym c.forget.ensures) (row_taken s0 s1 s2 c.self.inside.stays c.args.n c.in-Ok.place v row c.in-Ok.ensures c.in-IsTaken.ensures)

pub returns-in-Back-clause-answer : goal.returns-in-Back-clause-answer
returns-in-Back-clause-answer g c =
    let s0 = c.args.seat.now in
    let s1 = c.admit.new.seat in
    let v = g.V.Faced.shows c.args.v in
    let s2 = c.rest_at.new.seat in
    let shares = subst (λ (r : PoolRules). r.mode ≢ mode.Never) c.rules-pool.ensures c.in_default.ensures.0 in
    let keeps = subst KeepsSome c.rules-pool.ensures c.in_default.ensures.1 in
    λ q. refuses_back s0 s1 s2 c.args.n c.in-Ok.place v q c.in-Ok.ensures (g.V.Faced.shows c.in-Back.v) shares keeps c.in-Back.ensures

pub returns-in-Back-clause-still : goal.returns-in-Back-clause-still
returns-in-Back-clause-still g c =
    let s0 = c.args.seat.now in
    let s1 = c.admit.new.seat in
    let v = g.V.Faced.shows c.args.v in
    let s2 = c.rest_at.new.seat in
    let shares = subst (λ (r : PoolRules). r.mode ≢ mode.Never) c.rules-pool.ensures c.in_default.ensures.0 in
    let keeps = subst KeepsSome c.rules-pool.ensures c.in_default.ensures.1 in
    refused_still (history_of s0 None) (history_of s2 None) c.args.n v Draining c.requires.parks (refuses_back s0 s1 s2 c.args.n c.in-Ok.place v None c.in-Ok.ensures (g.V.Faced.shows c.in-Back.v) shares keeps c.in-Back.ensures)

pub returns-in-Back-clause-grows : goal.returns-in-Back-clause-grows
returns-in-Back-clause-grows g c =
    let s0 = c.args.seat.now in
    let s1 = c.admit.new.seat in
    let v = g.V.Faced.shows c.args.v in
    let s2 = c.rest_at.new.seat in
    let one = c.park_entry-parked.ensures ∙ (λ i. Park (c.thread-t.ensures.thread i) c.args.n (c.face-face.ensures i).id c.in-Ok.place (c.face-face.ensures i).uses) in
    let back = c.take_entry.ensures ∙ (λ i. Take (c.thread-t.ensures.thread i) c.args.n false c.in-Ok.place (c.face-face.ensures i).id (c.face-face.ensures i).uses) in
    λ q. subst (Grows (history_of s0 q) (history_of s2 q)) (sym (λ i. one i ∷ back i ∷ [])) (grows_back s0 s1 s2 c.args.n c.in-Ok.place v q c.in-Ok.ensures (g.V.Faced.shows c.in-Back.v) c.in-Back.ensures)

pub returns-in-Back-clause-row : goal.returns-in-Back-clause-row
returns-in-Back-clause-row g c =
    let s0 = c.args.seat.now in
    let s1 = c.admit.new.seat in
    let v = g.V.Faced.shows c.args.v in
    let s2 = c.rest_at.new.seat in
    let row = subst (λ (r : RowView). IsRowOf r.stays s0) (sym c.self.view_is) c.requires.row in
    subst (λ zs. IsRowOf zs s2) (sym c.forget-in-Back.ensures) (row_back s0 s1 s2 c.self.inside.stays c.args.n c.in-Ok.place v (g.V.Faced.shows c.in-Back.v) row c.in-Ok.ensures c.in-Back.ensures)
