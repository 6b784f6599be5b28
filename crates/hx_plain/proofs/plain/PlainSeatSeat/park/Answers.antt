use Rattle.hx_plain.proofs.Keeping.{grows_none}
use Rattle.std.proofs.Common.{Bool, ◌≤◌, ◌∷◌, [], ◌∙◌, ap, subst, arith}
use Rattle.std.specs.Vec.{vec_capacity}
use Rattle.hx_base.specs.declared.numbers.Face.{Face}
use Rattle.hx_pool.specs.declared.entries.Entry.TheVariants.{Park}
use Rattle.hx_pool.specs.declared.entries.Note.{Note}
use Rattle.hx_pool.specs.Causes.{place_of}
use Rattle.hx_pool.proofs.Calls.{refused_still}
use Rattle.hx_plain.specs.Book.{add_note}
use Rattle.hx_plain.specs.PlainSeat.{about_alone, first_thread}
use Rattle.hx_plain.specs.Row.{rests_of}
use Rattle.hx_plain.specs.Plain.{alone, known, KeepsAll}
use Rattle.hx_plain.proofs.Parks.{by_rules, refused, has_place, park_book, put_all, parked_note, pushed}
use Rattle.hx_plain.proofs.plain.PlainSeatSeat.park.Goals as goal

pub returns-in-Some-clause-still : goal.returns-in-Some-clause-still
returns-in-Some-clause-still g c =
    let i = c.self.inside in
    let v = g.V.Faced.shows c.args.v in
    let a = about_alone i.server i.rules i.start i.ledger.board in
    let can = rw (← c.self.view_is) at c.requires in
    refused_still (alone a i.passed i.ledger.notes) (alone a i.passed i.ledger.notes) c.args.n v c.in-Some.why can (by_rules a i.passed i.ledger.notes _ _ c.self.invariant.stands c.args.n v c.in-Some.why c.in-Some.ensures)

pub invariant_of-self-in-Err : goal.invariant_of-self-in-Err
invariant_of-self-in-Err g c =
    let i = c.self.inside in
    let shows = g.V.Faced.shows in
    let why = rw c.as_slice-slice.ensures.value at c.in-Err.ensures in
    let t = refused (about_alone i.server i.rules i.start i.ledger.board) i.passed i.totals (vec_capacity i.resting) i.ledger i.next i.round (rests_of shows i.resting.items) c.args.n (shows c.args.v) c.in_default.ensures.0 c.in_default.ensures.1 i.draining c.self.invariant c.admit.new.ledger c.in-Err.why why in
    rw t.3 t.0

pub returns-in-Err-clause-answer : goal.returns-in-Err-clause-answer
returns-in-Err-clause-answer g c =
    let i = c.self.inside in
    let shows = g.V.Faced.shows in
    let why = rw c.as_slice-slice.ensures.value at c.in-Err.ensures in
    let t = refused (about_alone i.server i.rules i.start i.ledger.board) i.passed i.totals (vec_capacity i.resting) i.ledger i.next i.round (rests_of shows i.resting.items) c.args.n (shows c.args.v) c.in_default.ensures.0 c.in_default.ensures.1 i.draining c.self.invariant c.admit.new.ledger c.in-Err.why why in
    rw (← c.self.view_is, t.3) t.1

pub returns-in-Err-clause-still : goal.returns-in-Err-clause-still
returns-in-Err-clause-still g c =
    let i = c.self.inside in
    let shows = g.V.Faced.shows in
    let a = about_alone i.server i.rules i.start i.ledger.board in
    let can = rw (← c.self.view_is) at c.requires in
    let why = rw c.as_slice-slice.ensures.value at c.in-Err.ensures in
    let t = refused a i.passed i.totals (vec_capacity i.resting) i.ledger i.next i.round (rests_of shows i.resting.items) c.args.n (shows c.args.v) c.in_default.ensures.0 c.in_default.ensures.1 i.draining c.self.invariant c.admit.new.ledger c.in-Err.why why in
    refused_still (alone a i.passed i.ledger.notes) (alone a i.passed c.admit.new.ledger.notes) c.args.n (shows c.args.v) c.in-Err.why can t.1

pub returns-in-Err-clause-grows : goal.returns-in-Err-clause-grows
returns-in-Err-clause-grows g c =
    let i = c.self.inside in
    let shows = g.V.Faced.shows in
    let why = rw c.as_slice-slice.ensures.value at c.in-Err.ensures in
    let t = refused (about_alone i.server i.rules i.start i.ledger.board) i.passed i.totals (vec_capacity i.resting) i.ledger i.next i.round (rests_of shows i.resting.items) c.args.n (shows c.args.v) c.in_default.ensures.0 c.in_default.ensures.1 i.draining c.self.invariant c.admit.new.ledger c.in-Err.why why in
    rw (← c.self.view_is, t.3) t.2

pub push_reserved-requires : goal.push_reserved-requires
push_reserved-requires g c =
    let i = c.self.inside in
    let ad = rw c.as_slice-slice.ensures.value at c.in-Ok.ensures in
    let l = has_place g.V.Faced.shows i.resting.items c.in-Ok.place c.self.invariant.stands.apart ad.first in
    omega (arith, i.resting.ok.0, c.self.invariant.roomy)

pub invariant_of-self-2 : goal.invariant_of-self-2
invariant_of-self-2 g c =
    let i = c.self.inside in
    let shows = g.V.Faced.shows in
    let a = about_alone i.server i.rules i.start i.ledger.board in
    let rests = rests_of shows i.resting.items in
    let q = c.in-Ok.place in
    let ad = rw c.as_slice-slice.ensures.value at c.in-Ok.ensures in
    let put = c.write_park.ensures ∙ ap (λ (y : Note). add_note c.admit.new.ledger y) (parked_note first_thread c.args.n q (shows c.args.v) c.face-face.result c.face-face.ensures) in
    let book = park_book a i.ledger c.admit.new.ledger c.write_park.new.self c.write.new.self rests i.draining c.args.n q (shows c.args.v) ad put c.write.ensures in
    let s = subst (λ (d : Bool). KeepsAll a i.ledger.notes (known i.next d i.round rests) rests i.passed i.totals (vec_capacity i.resting)) ad.ready c.self.invariant in
    let can = rw (← c.self.view_is) at c.requires in
    let most : (shows c.args.v).face.uses ≤ 65535 = subst (λ (f : Face). f.uses ≤ 65535) c.face-face.ensures (omega arith) in
    let t = put_all a i.ledger.notes i.next i.round rests s.stands c.args.n q (shows c.args.v) i.passed can most c.in_default.ensures.0 ad.first ad.limit i.totals (vec_capacity i.resting) s c.in_default.ensures.1 in
    rw (book, ad.ready, pushed shows i.resting.items c.push_reserved.new.self.items _ c.push_reserved.ensures.items, c.push_reserved.ensures.capacity, c.with_counted-self-inside.ensures) t.0

pub returns-clause-answer : goal.returns-clause-answer
returns-clause-answer g c =
    let i = c.self.inside in
    let shows = g.V.Faced.shows in
    let a = about_alone i.server i.rules i.start i.ledger.board in
    let rests = rests_of shows i.resting.items in
    let q = c.in-Ok.place in
    let ad = rw c.as_slice-slice.ensures.value at c.in-Ok.ensures in
    let put = c.write_park.ensures ∙ ap (λ (y : Note). add_note c.admit.new.ledger y) (parked_note first_thread c.args.n q (shows c.args.v) c.face-face.result c.face-face.ensures) in
    let book = park_book a i.ledger c.admit.new.ledger c.write_park.new.self c.write.new.self rests i.draining c.args.n q (shows c.args.v) ad put c.write.ensures in
    let s = subst (λ (d : Bool). KeepsAll a i.ledger.notes (known i.next d i.round rests) rests i.passed i.totals (vec_capacity i.resting)) ad.ready c.self.invariant in
    let can = rw (← c.self.view_is) at c.requires in
    let most : (shows c.args.v).face.uses ≤ 65535 = subst (λ (f : Face). f.uses ≤ 65535) c.face-face.ensures (omega arith) in
    let t = put_all a i.ledger.notes i.next i.round rests s.stands c.args.n q (shows c.args.v) i.passed can most c.in_default.ensures.0 ad.first ad.limit i.totals (vec_capacity i.resting) s c.in_default.ensures.1 in
    rw (← c.self.view_is, book) t.1

pub returns-clause-grows : goal.returns-clause-grows
returns-clause-grows g c =
    let i = c.self.inside in
    let shows = g.V.Faced.shows in
    let a = about_alone i.server i.rules i.start i.ledger.board in
    let rests = rests_of shows i.resting.items in
    let q = c.in-Ok.place in
    let ad = rw c.as_slice-slice.ensures.value at c.in-Ok.ensures in
    let put = c.write_park.ensures ∙ ap (λ (y : Note). add_note c.admit.new.ledger y) (parked_note first_thread c.args.n q (shows c.args.v) c.face-face.result c.face-face.ensures) in
    let book = park_book a i.ledger c.admit.new.ledger c.write_park.new.self c.write.new.self rests i.draining c.args.n q (shows c.args.v) ad put c.write.ensures in
    let s = subst (λ (d : Bool). KeepsAll a i.ledger.notes (known i.next d i.round rests) rests i.passed i.totals (vec_capacity i.resting)) ad.ready c.self.invariant in
    let can = rw (← c.self.view_is) at c.requires in
    let most : (shows c.args.v).face.uses ≤ 65535 = subst (λ (f : Face). f.uses ≤ 65535) c.face-face.ensures (omega arith) in
    let t = put_all a i.ledger.notes i.next i.round rests s.stands c.args.n q (shows c.args.v) i.passed can most c.in_default.ensures.0 ad.first ad.limit i.totals (vec_capacity i.resting) s c.in_default.ensures.1 in
    rw (← c.self.view_is, book, c.one_mark-self-inside.ensures ∙ ap (λ (f : Face). Park first_thread c.args.n f.id (place_of 0 q) f.uses ∷ []) c.face-face.ensures) t.2

pub returns-in-Some-clause-grows : goal.returns-in-Some-clause-grows
returns-in-Some-clause-grows g c = rw (← c.self.view_is) (grows_none _ _ _ c.self.inside.ledger.notes c.self.invariant.stands.one)
