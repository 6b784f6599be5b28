use Rattle.std.proofs.Common.{◌≡◌, ◌+◌, ◌*◌, ◌≤◌, ◌∷◌, [], ◌++◌, length, refl, ap, ◌∙◌, sym, subst, arith}
use Rattle.hx_base.specs.declared.numbers.Face.{Face}
use Rattle.hx_base.specs.declared.numbers.PlaceNo.{PlaceNo}
use Rattle.hx_pool.specs.declared.entries.Entry.TheVariants.{Park}
use Rattle.hx_pool.specs.Causes.{place_of}
use Rattle.hx_pool.specs.Parking.{Parks}
use Rattle.hx_pool.specs.Totals.{totals_after}
use Rattle.hx_pool.proofs.Calls.{refused_still}
use Rattle.hx_resting.specs.declared.values.Rows.{Rows}
use Rattle.hx_pool.specs.Table.{Vacant, spot_no}
use Rattle.hx_resting.specs.Rows.{rests_of, spot_in}
use Rattle.hx_lockboard.specs.Seats.{history}
use Rattle.hx_lockboard.proofs.Calls.{Start, low_of, few_of, after_of, gives_after, gives_own, grows_none}
use Rattle.hx_lockboard.proofs.Parks.{nth_own, all_fit, one_fits, by_rules, refused, refused_keeps, refused_grows, park_notes, park_after, park_by, park_keeps, park_parks, park_grows, park_wrote, pushed}
use Rattle.hx_lockboard.proofs.seat.LockSeatSeat.park.Goals as goal

pub returns-in-Some-clause-still : goal.returns-in-Some-clause-still
returns-in-Some-clause-still g c =
    let i = c.self.inside in
    let v = g.V.Faced.shows c.args.v in
    let can = rw (← c.self.view_is) at c.requires in
    let h = history i.terms i.thread i.passed i.desk in
    refused_still h h c.args.n v c.in-Some.why can (by_rules i.terms i.thread i.desk i.passed i.totals i.opened c.self.invariant c.args.n v c.in-Some.why c.in-Some.ensures)

pub admit-requires-clause-few : goal.admit-requires-clause-few
admit-requires-clause-few g c =
    let shows = g.V.Faced.shows in
    let i = c.self.inside in
    let v = shows c.args.v in
    let rows = c.get-rows.result in
    let k : Start shows = record { b = i.terms; t = i.thread; d0 = i.desk; d1 = c.get-rows.new.self; p = i.passed; totals = i.totals; opened = i.opened; s = c.self.invariant; rows = rows; g = c.get-rows.ensures } in
    let fits = all_fit shows i.terms.threads rows.resting.items (after_of shows k).stands.apart in
    let few = few_of shows k in
    let same = ap length c.as_slice-slice.ensures.value in omega arith

pub give-requires-clause-after : goal.give-requires-clause-after
give-requires-clause-after g c =
    let shows = g.V.Faced.shows in
    let i = c.self.inside in
    let v = shows c.args.v in
    let rows = c.get-rows.result in
    let k : Start shows = record { b = i.terms; t = i.thread; d0 = i.desk; d1 = c.get-rows.new.self; p = i.passed; totals = i.totals; opened = i.opened; s = c.self.invariant; rows = rows; g = c.get-rows.ensures } in
    let d2 = c.admit.new.desk in
    let why = rw c.as_slice-slice.ensures.value at c.in-Err.ensures in
    let r = refused shows k c.in_default.ensures.0 c.in_default.ensures.1 c.args.n v d2 c.in-Err.why why in
    gives_after shows k d2 r.go.ys r.go.wrote rows r.go.after

pub give-requires-clause-own : goal.give-requires-clause-own
give-requires-clause-own g c =
    let shows = g.V.Faced.shows in
    let i = c.self.inside in
    let v = shows c.args.v in
    let rows = c.get-rows.result in
    let k : Start shows = record { b = i.terms; t = i.thread; d0 = i.desk; d1 = c.get-rows.new.self; p = i.passed; totals = i.totals; opened = i.opened; s = c.self.invariant; rows = rows; g = c.get-rows.ensures } in
    let d2 = c.admit.new.desk in
    let why = rw c.as_slice-slice.ensures.value at c.in-Err.ensures in
    let r = refused shows k c.in_default.ensures.0 c.in_default.ensures.1 c.args.n v d2 c.in-Err.why why in
    gives_own shows k d2 r.go.ys r.go.wrote r.go.all

pub invariant_of-self-in-Err : goal.invariant_of-self-in-Err
invariant_of-self-in-Err g c =
    let shows = g.V.Faced.shows in
    let i = c.self.inside in
    let v = shows c.args.v in
    let rows = c.get-rows.result in
    let k : Start shows = record { b = i.terms; t = i.thread; d0 = i.desk; d1 = c.get-rows.new.self; p = i.passed; totals = i.totals; opened = i.opened; s = c.self.invariant; rows = rows; g = c.get-rows.ensures } in
    let d2 = c.admit.new.desk in
    let why = rw c.as_slice-slice.ensures.value at c.in-Err.ensures in
    let r = refused shows k c.in_default.ensures.0 c.in_default.ensures.1 c.args.n v d2 c.in-Err.why why in
    refused_keeps shows k d2 c.give.new.self c.args.n v c.in-Err.why c.give.ensures r

pub returns-in-Err-clause-answer : goal.returns-in-Err-clause-answer
returns-in-Err-clause-answer g c =
    let shows = g.V.Faced.shows in
    let i = c.self.inside in
    let v = shows c.args.v in
    let rows = c.get-rows.result in
    let k : Start shows = record { b = i.terms; t = i.thread; d0 = i.desk; d1 = c.get-rows.new.self; p = i.passed; totals = i.totals; opened = i.opened; s = c.self.invariant; rows = rows; g = c.get-rows.ensures } in
    let d2 = c.admit.new.desk in
    let why = rw c.as_slice-slice.ensures.value at c.in-Err.ensures in
    let r = refused shows k c.in_default.ensures.0 c.in_default.ensures.1 c.args.n v d2 c.in-Err.why why in
    rw (← c.self.view_is) (r.refuses c.give.new.self c.give.ensures)

pub returns-in-Err-clause-still : goal.returns-in-Err-clause-still
returns-in-Err-clause-still g c =
    let shows = g.V.Faced.shows in
    let i = c.self.inside in
    let v = shows c.args.v in
    let rows = c.get-rows.result in
    let k : Start shows = record { b = i.terms; t = i.thread; d0 = i.desk; d1 = c.get-rows.new.self; p = i.passed; totals = i.totals; opened = i.opened; s = c.self.invariant; rows = rows; g = c.get-rows.ensures } in
    let d2 = c.admit.new.desk in
    let why = rw c.as_slice-slice.ensures.value at c.in-Err.ensures in
    let r = refused shows k c.in_default.ensures.0 c.in_default.ensures.1 c.args.n v d2 c.in-Err.why why in
    let can = rw (← c.self.view_is) at c.requires in
    refused_still (history i.terms i.thread i.passed i.desk) (history i.terms i.thread i.passed c.give.new.self) c.args.n v c.in-Err.why can (r.refuses c.give.new.self c.give.ensures)

pub returns-in-Err-clause-grows : goal.returns-in-Err-clause-grows
returns-in-Err-clause-grows g c =
    let shows = g.V.Faced.shows in
    let i = c.self.inside in
    let v = shows c.args.v in
    let rows = c.get-rows.result in
    let k : Start shows = record { b = i.terms; t = i.thread; d0 = i.desk; d1 = c.get-rows.new.self; p = i.passed; totals = i.totals; opened = i.opened; s = c.self.invariant; rows = rows; g = c.get-rows.ensures } in
    let d2 = c.admit.new.desk in
    let why = rw c.as_slice-slice.ensures.value at c.in-Err.ensures in
    let r = refused shows k c.in_default.ensures.0 c.in_default.ensures.1 c.args.n v d2 c.in-Err.why why in
    rw (← c.self.view_is) (refused_grows shows k d2 c.give.new.self c.args.n v c.in-Err.why c.give.ensures r)

pub push_reserved-requires : goal.push_reserved-requires
push_reserved-requires g c =
    let shows = g.V.Faced.shows in
    let i = c.self.inside in
    let v = shows c.args.v in
    let rows = c.get-rows.result in
    let k : Start shows = record { b = i.terms; t = i.thread; d0 = i.desk; d1 = c.get-rows.new.self; p = i.passed; totals = i.totals; opened = i.opened; s = c.self.invariant; rows = rows; g = c.get-rows.ensures } in
    let ad = rw c.as_slice-slice.ensures.value at c.in-Ok.ensures in
    let low = low_of shows k in
    let inside = ad.first.inside in
    let own = nth_own i.thread i.terms.threads c.in-Ok.q low inside in
    let apart = (after_of shows k).stands.apart in
    let roomy = (after_of shows k).roomy in
    let l = one_fits shows i.terms.threads rows.resting.items (64 * i.thread.0 + c.in-Ok.q) apart (omega arith) (subst (λ (pl : PlaceNo). spot_in (rests_of shows rows.resting.items) (spot_no pl) ≡ Vacant) own ad.first.vacant) in
    let n = rows.resting.ok.0 in omega arith

pub give-requires-2-clause-after : goal.give-requires-2-clause-after
give-requires-2-clause-after g c =
    let shows = g.V.Faced.shows in
    let i = c.self.inside in
    let v = shows c.args.v in
    let rows = c.get-rows.result in
    let k : Start shows = record { b = i.terms; t = i.thread; d0 = i.desk; d1 = c.get-rows.new.self; p = i.passed; totals = i.totals; opened = i.opened; s = c.self.invariant; rows = rows; g = c.get-rows.ensures } in
    let rows' : Rows g.row.V.Denot = record rows { resting = c.push_reserved.new.self } in
    let q = c.in-Ok.q in
    let d2 = c.write.new.self in
    let ad = rw c.as_slice-slice.ensures.value at c.in-Ok.ensures in
    let can = rw (← c.self.view_is) at c.requires in
    let most : v.face.uses ≤ 65535 = subst (λ (f : Face). f.uses ≤ 65535) c.face-face.ensures (omega arith) in
    let there = c.place_at-place.ensures ∙ nth_own i.thread i.terms.threads q (low_of shows k) ad.first.inside in
    let put = pushed shows rows.resting.items c.push_reserved.new.self.items _ c.push_reserved.ensures.items ∙ ap (λ (pl : PlaceNo). rests_of shows rows.resting.items ++ record { place = pl; shown = v } ∷ []) there in
    let room = c.push_reserved.ensures.capacity in
    let wrote = park_wrote shows k c.in_default.ensures.0 c.in_default.ensures.1 ad.ready c.args.n v q can most ad.first ad.limit rows' refl refl refl room put c.admit.new.desk c.write_park.new.self d2 c.place_at-place.result c.face-face.result there c.face-face.ensures ad.desk c.write_park.ensures c.write.ensures in
    gives_after shows k d2 (park_notes shows k c.in_default.ensures.0 c.in_default.ensures.1 ad.ready c.args.n v q can most ad.first ad.limit rows' refl refl refl room put) wrote rows' (park_after shows k c.in_default.ensures.0 c.in_default.ensures.1 ad.ready c.args.n v q can most ad.first ad.limit rows' refl refl refl room put)

pub give-requires-2-clause-own : goal.give-requires-2-clause-own
give-requires-2-clause-own g c =
    let shows = g.V.Faced.shows in
    let i = c.self.inside in
    let v = shows c.args.v in
    let rows = c.get-rows.result in
    let k : Start shows = record { b = i.terms; t = i.thread; d0 = i.desk; d1 = c.get-rows.new.self; p = i.passed; totals = i.totals; opened = i.opened; s = c.self.invariant; rows = rows; g = c.get-rows.ensures } in
    let rows' : Rows g.row.V.Denot = record rows { resting = c.push_reserved.new.self } in
    let q = c.in-Ok.q in
    let d2 = c.write.new.self in
    let ad = rw c.as_slice-slice.ensures.value at c.in-Ok.ensures in
    let can = rw (← c.self.view_is) at c.requires in
    let most : v.face.uses ≤ 65535 = subst (λ (f : Face). f.uses ≤ 65535) c.face-face.ensures (omega arith) in
    let there = c.place_at-place.ensures ∙ nth_own i.thread i.terms.threads q (low_of shows k) ad.first.inside in
    let put = pushed shows rows.resting.items c.push_reserved.new.self.items _ c.push_reserved.ensures.items ∙ ap (λ (pl : PlaceNo). rests_of shows rows.resting.items ++ record { place = pl; shown = v } ∷ []) there in
    let room = c.push_reserved.ensures.capacity in
    let wrote = park_wrote shows k c.in_default.ensures.0 c.in_default.ensures.1 ad.ready c.args.n v q can most ad.first ad.limit rows' refl refl refl room put c.admit.new.desk c.write_park.new.self d2 c.place_at-place.result c.face-face.result there c.face-face.ensures ad.desk c.write_park.ensures c.write.ensures in
    gives_own shows k d2 (park_notes shows k c.in_default.ensures.0 c.in_default.ensures.1 ad.ready c.args.n v q can most ad.first ad.limit rows' refl refl refl room put) wrote (park_by shows k c.in_default.ensures.0 c.in_default.ensures.1 ad.ready c.args.n v q can most ad.first ad.limit rows' refl refl refl room put)

pub invariant_of-self-2 : goal.invariant_of-self-2
invariant_of-self-2 g c =
    let shows = g.V.Faced.shows in
    let i = c.self.inside in
    let v = shows c.args.v in
    let rows = c.get-rows.result in
    let k : Start shows = record { b = i.terms; t = i.thread; d0 = i.desk; d1 = c.get-rows.new.self; p = i.passed; totals = i.totals; opened = i.opened; s = c.self.invariant; rows = rows; g = c.get-rows.ensures } in
    let rows' : Rows g.row.V.Denot = record rows { resting = c.push_reserved.new.self } in
    let q = c.in-Ok.q in
    let d2 = c.write.new.self in
    let ad = rw c.as_slice-slice.ensures.value at c.in-Ok.ensures in
    let can = rw (← c.self.view_is) at c.requires in
    let most : v.face.uses ≤ 65535 = subst (λ (f : Face). f.uses ≤ 65535) c.face-face.ensures (omega arith) in
    let there = c.place_at-place.ensures ∙ nth_own i.thread i.terms.threads q (low_of shows k) ad.first.inside in
    let put = pushed shows rows.resting.items c.push_reserved.new.self.items _ c.push_reserved.ensures.items ∙ ap (λ (pl : PlaceNo). rests_of shows rows.resting.items ++ record { place = pl; shown = v } ∷ []) there in
    let room = c.push_reserved.ensures.capacity in
    let wrote = park_wrote shows k c.in_default.ensures.0 c.in_default.ensures.1 ad.ready c.args.n v q can most ad.first ad.limit rows' refl refl refl room put c.admit.new.desk c.write_park.new.self d2 c.place_at-place.result c.face-face.result there c.face-face.ensures ad.desk c.write_park.ensures c.write.ensures in
    rw (c.with_counted-self-inside.ensures ∙ ap (totals_after i.totals) (ap (λ (pl : PlaceNo). Park i.thread c.args.n c.face-face.result.id pl c.face-face.result.uses) there ∙ ap (λ (f : Face). Park i.thread c.args.n f.id (place_of i.thread.0 q) f.uses) c.face-face.ensures)) (park_keeps shows k c.in_default.ensures.0 c.in_default.ensures.1 ad.ready c.args.n v q can most ad.first ad.limit rows' refl refl refl room put d2 c.give-2.new.self wrote c.give-2.ensures)

pub returns-clause-answer : goal.returns-clause-answer
returns-clause-answer g c =
    let shows = g.V.Faced.shows in
    let i = c.self.inside in
    let v = shows c.args.v in
    let rows = c.get-rows.result in
    let k : Start shows = record { b = i.terms; t = i.thread; d0 = i.desk; d1 = c.get-rows.new.self; p = i.passed; totals = i.totals; opened = i.opened; s = c.self.invariant; rows = rows; g = c.get-rows.ensures } in
    let rows' : Rows g.row.V.Denot = record rows { resting = c.push_reserved.new.self } in
    let q = c.in-Ok.q in
    let d2 = c.write.new.self in
    let ad = rw c.as_slice-slice.ensures.value at c.in-Ok.ensures in
    let can = rw (← c.self.view_is) at c.requires in
    let most : v.face.uses ≤ 65535 = subst (λ (f : Face). f.uses ≤ 65535) c.face-face.ensures (omega arith) in
    let there = c.place_at-place.ensures ∙ nth_own i.thread i.terms.threads q (low_of shows k) ad.first.inside in
    let put = pushed shows rows.resting.items c.push_reserved.new.self.items _ c.push_reserved.ensures.items ∙ ap (λ (pl : PlaceNo). rests_of shows rows.resting.items ++ record { place = pl; shown = v } ∷ []) there in
    let room = c.push_reserved.ensures.capacity in
    let wrote = park_wrote shows k c.in_default.ensures.0 c.in_default.ensures.1 ad.ready c.args.n v q can most ad.first ad.limit rows' refl refl refl room put c.admit.new.desk c.write_park.new.self d2 c.place_at-place.result c.face-face.result there c.face-face.ensures ad.desk c.write_park.ensures c.write.ensures in
    rw (← c.self.view_is) (subst (λ (pl : PlaceNo). Parks (history i.terms i.thread i.passed i.desk) (history i.terms i.thread i.passed c.give-2.new.self) c.args.n pl v) (sym there) (park_parks shows k c.in_default.ensures.0 c.in_default.ensures.1 ad.ready c.args.n v q can most ad.first ad.limit rows' refl refl refl room put d2 c.give-2.new.self wrote c.give-2.ensures))

pub returns-clause-grows : goal.returns-clause-grows
returns-clause-grows g c =
    let shows = g.V.Faced.shows in
    let i = c.self.inside in
    let v = shows c.args.v in
    let rows = c.get-rows.result in
    let k : Start shows = record { b = i.terms; t = i.thread; d0 = i.desk; d1 = c.get-rows.new.self; p = i.passed; totals = i.totals; opened = i.opened; s = c.self.invariant; rows = rows; g = c.get-rows.ensures } in
    let rows' : Rows g.row.V.Denot = record rows { resting = c.push_reserved.new.self } in
    let q = c.in-Ok.q in
    let d2 = c.write.new.self in
    let ad = rw c.as_slice-slice.ensures.value at c.in-Ok.ensures in
    let can = rw (← c.self.view_is) at c.requires in
    let most : v.face.uses ≤ 65535 = subst (λ (f : Face). f.uses ≤ 65535) c.face-face.ensures (omega arith) in
    let there = c.place_at-place.ensures ∙ nth_own i.thread i.terms.threads q (low_of shows k) ad.first.inside in
    let put = pushed shows rows.resting.items c.push_reserved.new.self.items _ c.push_reserved.ensures.items ∙ ap (λ (pl : PlaceNo). rests_of shows rows.resting.items ++ record { place = pl; shown = v } ∷ []) there in
    let room = c.push_reserved.ensures.capacity in
    let wrote = park_wrote shows k c.in_default.ensures.0 c.in_default.ensures.1 ad.ready c.args.n v q can most ad.first ad.limit rows' refl refl refl room put c.admit.new.desk c.write_park.new.self d2 c.place_at-place.result c.face-face.result there c.face-face.ensures ad.desk c.write_park.ensures c.write.ensures in
    rw (← c.self.view_is, c.one_mark-self-inside.ensures ∙ ap (λ z. z ∷ []) (ap (λ (pl : PlaceNo). Park i.thread c.args.n c.face-face.result.id pl c.face-face.result.uses) there ∙ ap (λ (f : Face). Park i.thread c.args.n f.id (place_of i.thread.0 q) f.uses) c.face-face.ensures)) (park_grows shows k c.in_default.ensures.0 c.in_default.ensures.1 ad.ready c.args.n v q can most ad.first ad.limit rows' refl refl refl room put d2 c.give-2.new.self wrote c.give-2.ensures)

pub returns-in-Some-clause-grows : goal.returns-in-Some-clause-grows
returns-in-Some-clause-grows g c =
    let i = c.self.inside in
    rw (← c.self.view_is) (grows_none i.terms i.thread i.desk i.passed i.totals i.opened c.self.invariant)
