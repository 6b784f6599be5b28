-- The room of journals through calls of a session.
use Rattle.std.proofs.Common.{◌≡◌, ℕ, zero, suc, ◌+◌, ◌≤◌, ◌<◌, ◌==◌, Bool, true, false, List, [], ◌∷◌, ◌++◌, length, map, get_or, sym, ap, subst, ◌∙◌, arith, append_assoc, Option, Some, None}
use Rattle.std.specs.Prelude.{if◌then◌else◌}
use Rattle.std.specs.List.{slice_set}
use Rattle.std.proofs.lemmas.List.{append-nil, append_cancel_left}
use Rattle.hx_base.specs.declared.numbers.ThreadNo.{ThreadNo}
use Rattle.hx_base.specs.declared.numbers.SessionNo.{SessionNo}
use Rattle.hx_base.specs.declared.numbers.ConnId.{ConnId}
use Rattle.hx_pool.specs.declared.entries.Entry.{Entry}
use Rattle.hx_pool.specs.declared.entries.Note.{Note}
use Rattle.hx_pool.specs.History.{marks_of}
use Rattle.hx_pool.specs.SeatView.{History, Grows, Stores}
use Rattle.hx_pool.proofs.Histories.{marks_of-append}
use Rattle.hx_pool.proofs.Storing.{stores_none, stores_both}
use Rattle.hx_connecting.specs.Adding.{EachAdds}
use Rattle.hx_connecting.specs.Journals.{JournalRoom, JournalStays, JournalsStay}
use Rattle.hx_connecting.specs.Rooms.{KeepsRoom, RoomStays, RoomsStay}
use Rattle.hx_connecting.specs.Touches.{Touch, Came, Had, Opened, Took, Went, Stays, Rests, Ends, EndsTakenBack, came_marks, went_marks, touch_marks, marks_at}

-- one call of a seat
pub room_by : (old new : History) (k k' : Option ℕ) (s s' : ℕ) (last : List Entry) → Grows old new last → Stores k k' s s' last → KeepsRoom old new (record { kept = k; spare = s }) (record { kept = k'; spare = s' })
room_by old new k k' s s' last g r = record { added = g.added; mine = g.makes.mine; stores = subst (λ (l : List Entry). Stores k k' s s' l) g.marks r }

-- no call
pub room_none : (h : History) (a : JournalRoom) → KeepsRoom h h a a
room_none h a = record { added = []; mine = sym (append-nil h.mine); stores = stores_none a.kept a.spare }

-- one behind another
pub room_both : (a b c : History) (x y z : JournalRoom) → KeepsRoom a b x y → KeepsRoom b c y z → KeepsRoom a c x z
room_both a b c x y z p q = record {
  added = p.added ++ q.added;
  mine = q.mine ∙ (ap (λ (l : List Note). l ++ q.added) p.mine ∙ append_assoc a.mine p.added q.added);
  stores = subst (λ (l : List Entry). Stores x.kept z.kept x.spare z.spare l) (sym (marks_of-append p.added q.added))
      (stores_both x.kept y.kept z.kept x.spare y.spare z.spare (marks_of p.added) (marks_of q.added) p.stores q.stores);
}

-- the same over the list of seats
pub rooms_none : {S : Type 0} (f : S → History) (g : S → JournalRoom) (xs : List S) → RoomsStay f g xs xs
rooms_none f g [] = tt
rooms_none f g (x ∷ xs) = (room_none (f x) (g x), rooms_none f g xs)

pub rooms_both : {S : Type 0} (f : S → History) (g : S → JournalRoom) (xs ys zs : List S) → RoomsStay f g xs ys → RoomsStay f g ys zs → RoomsStay f g xs zs
rooms_both f g [] [] [] p q = tt
rooms_both f g [] [] (z ∷ zs) p q = absurd q
rooms_both f g [] (y ∷ ys) zs p q = absurd p
rooms_both f g (x ∷ xs) [] zs p q = absurd p
rooms_both f g (x ∷ xs) (y ∷ ys) [] p q = absurd q
rooms_both f g (x ∷ xs) (y ∷ ys) (z ∷ zs) p q = (room_both (f x) (f y) (f z) (g x) (g y) (g z) p.0 q.0, rooms_both f g xs ys zs p.1 q.1)

-- the calls at one seat
pub rooms_set : {S : Type 0} (f : S → History) (g : S → JournalRoom) (xs : List S) (i : ℕ) (d y : S) → i < length xs → RoomStays f g (get_or xs i d) y → RoomsStay f g xs (slice_set xs i y)
rooms_set f g [] i d y low room = absurd (omega (arith, low))
rooms_set f g (x ∷ xs) zero d y low room = (room, rooms_none f g xs)
rooms_set f g (x ∷ xs) (suc i) d y low room = (room_none (f x) (g x), rooms_set f g xs i d y (omega (arith, low)) room)

few_touch : (t : ThreadNo) (n : SessionNo) (first : Bool) (id : ConnId) (came : Came) (went : Went) → length (came_marks t n first id came ++ went_marks t n id went) ≤ 4
few_touch t n first id Had Stays = omega arith
few_touch t n first id Had (Rests place uses) = omega arith
few_touch t n first id Had Ends = omega arith
few_touch t n first id Had (EndsTakenBack place uses) = omega arith
few_touch t n first id Opened Stays = omega arith
few_touch t n first id Opened (Rests place uses) = omega arith
few_touch t n first id Opened Ends = omega arith
few_touch t n first id Opened (EndsTakenBack place uses) = omega arith
few_touch t n first id (Took at u) Stays = omega arith
few_touch t n first id (Took at u) (Rests place uses) = omega arith
few_touch t n first id (Took at u) Ends = omega arith
few_touch t n first id (Took at u) (EndsTakenBack place uses) = omega arith

-- a call makes at most four marks at a seat
pub few_marks : (t : ThreadNo) (n : SessionNo) (first : Bool) (x : Option Touch) (i : ℕ) → length (marks_at t n first x i) ≤ 4
few_marks t n first None i = omega arith
few_marks t n first (Some x) i = by_test (x.server.0 == i)
  where
    by_test : (b : Bool) → length (if b then touch_marks t n first x else []) ≤ 4
    by_test true = few_touch t n first x.id x.came x.went
    by_test false = omega arith

room_stays : (old new : History) (a b : JournalRoom) (es : List Note) (ms : List Entry) → new.mine ≡ old.mine ++ es → marks_of es ≡ ms → length ms ≤ 4 → KeepsRoom old new a b → JournalStays 4 a b
room_stays old new a b es ms mine marks few k low =
    let same : k.added ≡ es = append_cancel_left old.mine k.added es (sym k.mine ∙ mine) in
    let size : length (marks_of k.added) ≡ length ms = ap length (ap marks_of same ∙ marks) in
    let f = k.stores.fits (omega arith) in let f1 = f.1 in
    (f.0, omega arith)

-- a journal stays as it was, but for the marks of a touch
pub rooms_stay : {S : Type 0} (f : S → History) (g : S → JournalRoom) (t : ThreadNo) (n : SessionNo) (first : Bool) (x : Option Touch) (i : ℕ) (xs ys : List S) (added : List (List Note)) → RoomsStay f g xs ys
    → EachAdds n first (λ k. marks_at t n first x k) i (map f xs) (map f ys) added → JournalsStay 4 (map g xs) (map g ys)
rooms_stay f g t n first x i [] [] added p e = tt
rooms_stay f g t n first x i [] (y ∷ ys) added p e = absurd p
rooms_stay f g t n first x i (v ∷ xs) [] added p e = absurd p
rooms_stay f g t n first x i (v ∷ xs) (y ∷ ys) [] p e = absurd e
rooms_stay f g t n first x i (v ∷ xs) (y ∷ ys) (es ∷ added) p e =
    (room_stays (f v) (f y) (g v) (g y) es (marks_at t n first x i) e.0.makes.makes.mine e.0.marked.marks (few_marks t n first x i) p.0, rooms_stay f g t n first x (i + 1) xs ys added p.1 e.1)
