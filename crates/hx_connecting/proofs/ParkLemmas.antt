-- The marks of a connection that a session parks, and of a park that was refused.
use Rattle.std.proofs.Common.{◌≡◌, ◌∙◌, ℕ, ◌+◌, true, false, List, [], ◌∷◌, ◌++◌, refl, sym, ap, subst, arith, ⊎_elim}
use Rattle.std.specs.Prelude.{Contains}
use Rattle.std.proofs.lemmas.List.Elements.{Contains-append_right}
use Rattle.hx_base.specs.declared.numbers.ThreadNo.{ThreadNo}
use Rattle.hx_base.specs.declared.numbers.SessionNo.{SessionNo}
use Rattle.hx_base.specs.declared.numbers.ConnId.{ConnId}
use Rattle.hx_base.specs.declared.numbers.PlaceNo.{PlaceNo}
use Rattle.hx_base.specs.declared.numbers.Face.{Face}
use Rattle.hx_base.specs.Shown.{Shown}
use Rattle.hx_pool.specs.declared.entries.Entry.{Entry}
use Rattle.hx_pool.specs.declared.entries.Entry.TheVariants.{Park, Take, Close, Look, Up, Down, Gate}
use Rattle.hx_pool.specs.declared.entries.Note.{Note}
use Rattle.hx_pool.specs.declared.entries.Found.{Found}
use Rattle.hx_pool.specs.declared.refusals.NoPark.{NoPark}
use Rattle.hx_pool.specs.declared.refusals.NoPark.TheVariants.{Never, NoneKept, RowFull, Draining, PoolFull}
use Rattle.hx_pool.specs.History.{plain}
use Rattle.hx_pool.specs.SeatView.{About, History}
use Rattle.hx_pool.specs.Causes.{AllLooks}
use Rattle.hx_pool.specs.Opening.{Closes}
use Rattle.hx_pool.specs.Taking.{taking}
use Rattle.hx_pool.specs.Parking.{Parks, RefusesPark, Settles, FindsDraining, TakesBack, parked, gated}
use Rattle.hx_connecting.specs.Touches.{went_marks, Ends, EndsTakenBack, Rests}
use Rattle.hx_connecting.specs.Touched.{Marked, SeatMarks, RefusedMarks}
use Rattle.hx_pool.specs.Wants.{EndsRefused}
use Rattle.hx_pool.proofs.Calls.{makes_both}
use Rattle.hx_connecting.specs.Outcomes.{CloseNone}
use Rattle.hx_connecting.proofs.TouchLemmas.{marked_both, marked_none, marked_looks, marked_gate, marked_taking, marked_close}

-- an Up and its Park
marked_park : (t : ThreadNo) (n : SessionNo) (place : PlaceNo) (v : Shown) (count : ℕ) → Marked n (plain (Up t count) ∷ parked t n place v ∷ []) (Park t n v.face.id place v.face.uses ∷ [])
marked_park t n place v count = record { marks = refl; own = (tt, (refl, tt)); keeps = λ a ys rest. rest (a + 1) }

-- an Up that its Down takes back
marked_full : (t : ThreadNo) (n : SessionNo) (c down : ℕ) → Marked n (plain (Up t c) ∷ plain (Down t down) ∷ []) []
marked_full t n c down = record { marks = refl; own = (tt, (tt, tt)); keeps = λ a ys rest. rest (a + 1) }

marked_look : (t : ThreadNo) (n : SessionNo) (place : PlaceNo) (found : Found) → Marked n (plain (Look t place found) ∷ []) []
marked_look t n place found = record { marks = refl; own = (tt, tt); keeps = λ a ys rest. rest a }

marked_tail : (t : ThreadNo) (n : SessionNo) (place : PlaceNo) (f : Face) (tail : List Note) → Settles t place f tail → Marked n tail []
marked_tail t n place f tail s = ⊎_elim
    (λ e. subst (λ (l : List Note). Marked n l []) (sym e) (marked_gate n t false))
    (λ r. subst (λ (l : List Note). Marked n l []) (sym r.2) (marked_both n (plain (Gate t true) ∷ []) (plain (Look t place r.0) ∷ []) [] [] (marked_gate n t true) (marked_look t n place r.0)))
    s

-- looks, a Gate that shows ready, then these
marked_gated : (n : SessionNo) (t : ThreadNo) (looks more : List Note) (ms : List Entry) → AllLooks t looks → Marked n more ms → Marked n (gated t looks more) ms
marked_gated n t looks more ms l m = marked_both n looks (plain (Gate t false) ∷ more) [] ms (marked_looks n t looks l) (marked_both n (plain (Gate t false) ∷ []) more [] ms (marked_gate n t false) m)

-- the park is among the entries
pub record ParksAt (old new : History) (n : SessionNo) (place : PlaceNo) (v : Shown) : Type 0 where
  pub seat : SeatMarks old new n (went_marks old.about.thread n v.face.id (Rests place v.face.uses))
  pub there : Contains seat.added (parked old.about.thread n place v)

pub parks_at : (old new : History) (n : SessionNo) (place : PlaceNo) (v : Shown) → Parks old new n place v → ParksAt old new n place v
parks_at old new n place v p =
    let t = old.about.thread in let park : List Entry = Park t n v.face.id place v.face.uses ∷ [] in
    let more : List Note = parked t n place v ∷ p.tail in
    record {
      seat = record {
        added = gated t p.looks (plain (Up t p.count) ∷ more);
        makes = p.makes;
        marked = marked_gated n t p.looks (plain (Up t p.count) ∷ more) park p.looked
            (marked_both n (plain (Up t p.count) ∷ parked t n place v ∷ []) p.tail park [] (marked_park t n place v p.count) (marked_tail t n place v.face p.tail p.settles));
      };
      there = Contains-append_right p.looks (plain (Gate t false) ∷ plain (Up t p.count) ∷ more) (parked t n place v) (2, omega arith, refl);
    }

pub parks_seat : (old new : History) (n : SessionNo) (place : PlaceNo) (v : Shown) → Parks old new n place v → SeatMarks old new n (went_marks old.about.thread n v.face.id (Rests place v.face.uses))
parks_seat old new n place v p = (parks_at old new n place v p).seat

-- behind a refused park the close
ends : (old mid new : History) (n : SessionNo) (id : ConnId) (ms : List Entry) → SeatMarks old mid n ms → Closes mid new n id → SeatMarks old new n (ms ++ Close old.about.thread n id ∷ [])
ends old mid new n id ms s k =
    let same : mid.about.thread ≡ old.about.thread = ap (λ (a : About). a.thread) s.makes.makes.about in
    let close : List Note = plain (Close mid.about.thread n id) ∷ [] in
    record {
      added = s.added ++ close;
      makes = record { makes = makes_both old mid new s.added close s.makes.makes k.makes; passed = k.passed ∙ s.makes.passed };
      marked = marked_both n s.added close ms (Close old.about.thread n id ∷ []) s.marked (subst (λ (t : ThreadNo). Marked n close (Close t n id ∷ [])) same (marked_close n mid.about.thread id));
    }

ends_refused : (old mid new : History) (n : SessionNo) (v : Shown) (why : NoPark) (ms : List Entry) → (s : SeatMarks old mid n ms) → RefusesPark old mid n v why → Closes mid new n v.face.id → EndsRefused new n v.face.id s.added
ends_refused old mid new n v why ms s r k = record {
  old = old;
  new = mid;
  v = v;
  why = why;
  added = s.added;
  about = sym (k.makes.about ∙ s.makes.makes.about);
  is = refl;
  refuses = r;
  makes = s.makes.makes;
  ends = ([], refl);
  own = (plain (Close mid.about.thread n v.face.id) ∷ [], k.makes.mine);
}

plain_end : (old mid new : History) (n : SessionNo) (v : Shown) (why : NoPark) → SeatMarks old mid n [] → RefusesPark old mid n v why → Closes mid new n v.face.id → RefusedMarks old new n v.face.id
unfolding ends
plain_end old mid new n v why s r k = record {
  went = Ends;
  closed = tt;
  seat = ends old mid new n v.face.id [] s k;
  front = s.added;
  last = plain (Close mid.about.thread n v.face.id);
  entries = refl;
  refused = ends_refused old mid new n v why [] s r k;
  none = subst CloseNone (sym s.marked.marks) tt;
}

-- a park that was refused, and the close behind it
pub refused_end : (old mid new : History) (n : SessionNo) (v : Shown) (why : NoPark) → RefusesPark old mid n v why → Closes mid new n v.face.id → RefusedMarks old new n v.face.id
unfolding ends
refused_end old mid new n v Never r k = plain_end old mid new n v Never (record { added = []; makes = r.1; marked = marked_none n }) r k
refused_end old mid new n v NoneKept r k = plain_end old mid new n v NoneKept (record { added = []; makes = r.2; marked = marked_none n }) r k
refused_end old mid new n v RowFull r k =
    let f = r.2 in plain_end old mid new n v RowFull (record { added = f.looks.looks; makes = record { makes = f.looks.makes; passed = f.passed }; marked = marked_looks n old.about.thread f.looks.looks f.looks.looked }) r k
refused_end old mid new n v Draining r k = let t = old.about.thread in ⊎_elim
    (λ (d : FindsDraining old mid). plain_end old mid new n v Draining
    (record { added = d.looks ++ plain (Gate t true) ∷ []; makes = d.makes; marked = marked_both n d.looks (plain (Gate t true) ∷ []) [] [] (marked_looks n t d.looks d.looked) (marked_gate n t true) }) r k)
    (λ (b : TakesBack old mid n v).
    let park : List Entry = Park t n v.face.id b.place v.face.uses ∷ [] in
    let back : List Entry = Take t n false b.place v.face.id v.face.uses ∷ [] in
    let back_es : List Note = taking t n false b.place v.face b.down in
    let es : List Note = gated t b.looks (plain (Up t b.count) ∷ parked t n b.place v ∷ plain (Gate t true) ∷ back_es) in
    let m : SeatMarks old mid n (park ++ back) = record {
      added = es;
      makes = b.makes;
      marked = marked_gated n t b.looks (plain (Up t b.count) ∷ parked t n b.place v ∷ plain (Gate t true) ∷ back_es) (park ++ back) b.looked
          (marked_both n (plain (Up t b.count) ∷ parked t n b.place v ∷ []) (plain (Gate t true) ∷ back_es) park back (marked_park t n b.place v b.count)
          (marked_both n (plain (Gate t true) ∷ []) back_es [] back (marked_gate n t true) (marked_taking t n false b.place v.face b.down)));
    } in
    record {
      went = EndsTakenBack b.place v.face.uses;
      closed = tt;
      seat = ends old mid new n v.face.id (park ++ back) m k;
      front = es;
      last = plain (Close mid.about.thread n v.face.id);
      entries = refl;
      refused = ends_refused old mid new n v Draining (park ++ back) m r k;
      none = subst CloseNone (sym m.marked.marks) (tt, (tt, tt));
    })
    r.2
refused_end old mid new n v (PoolFull c) r k =
    let p = r.2 in let t = old.about.thread in plain_end old mid new n v (PoolFull c)
    (record { added = gated t p.looks (plain (Up t c) ∷ plain (Down t p.down) ∷ []); makes = p.makes; marked = marked_gated n t p.looks (plain (Up t c) ∷ plain (Down t p.down) ∷ []) [] p.looked (marked_full t n c p.down) }) r k
